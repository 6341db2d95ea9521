-- The equations of the tables of named types.
use Rattle.std.proofs.Common.{◌≡◌, ℕ, ◌+◌, List, refl, add-one}
use Rattle.ll_ast.specs.declared.module.NamedType.{NamedType}
use Rattle.ll_layout.specs.declared.layout.Target.{Target}
use Rattle.ll_layout.specs.Types.{table_of, round_of}

pub table_next : (target : Target) (types : List NamedType) (deep : ℕ) → table_of target types (deep + 1) ≡ round_of target types (table_of target types deep)
unfolding table_of
table_next target types deep = rw add-one refl
