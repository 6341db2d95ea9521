-- The functions of the host that the program has.
use Rattle.std.specs.Prelude.{[], ◌∷◌, codes}
use Rattle.ir_ast.specs.declared.hosts.HostRule.TheVariants.{Min, Max, Popcount, ByteSwap}
use Rattle.ir_ast.specs.declared.hosts.HostTable.{HostTable}

abbrev pub standard_table : HostTable
standard_table = record {
  entries =
      record { name = codes "min"; arity = 2; rule = Min }
      ∷ record { name = codes "max"; arity = 2; rule = Max }
      ∷ record { name = codes "popcount"; arity = 1; rule = Popcount }
      ∷ record { name = codes "byteswap"; arity = 1; rule = ByteSwap }
      ∷ [];
}
