-- The names of the standard functions differ.
use Rattle.std.proofs.Common.{◌≡◌, refl, sym, subst}
use Rattle.std.specs.List.{IsDistinct}
use Rattle.std.specs.Str.{bytes_eq}
use Rattle.hosts.specs.Rules.{HaveOwnNames}
use Rattle.hosts.specs.Standard.{standard_table}
use Rattle.ir_ast.specs.Numbers.{host_names}
use Rattle.ir_ast.specs.declared.hosts.HostTable.{HostTable}

names_differ : IsDistinct bytes_eq (host_names standard_table.entries)
unfolding IsDistinct
names_differ = ((refl, (refl, (refl, tt))), ((refl, (refl, tt)), ((refl, tt), (tt, tt))))

pub own_names : (table : HostTable) → table ≡ standard_table → HaveOwnNames table
own_names table is = subst HaveOwnNames (sym is) names_differ
