-- What foreign accesses to one node come to.
use Rattle.std.specs.Prelude.{Bool, true, false, ◌||◌, not, Option, Some, None, List, [], ◌∷◌}
use Rattle.std.specs.List.{list_any}
use Rattle.perm_table.specs.declared.Perm.{Perm}
use Rattle.perm_table.specs.declared.Guard.{Guard}
use Rattle.perm_table.specs.declared.Kind.{Kind}
use Rattle.perm_table.specs.declared.Kind.TheVariants.{Read, Write}
use Rattle.perm_table.specs.Table.{is_protected, after_foreign}

abbrev pub is_read : Kind → Bool
is_read Read = true
is_read Write = false

abbrev pub is_write : Kind → Bool
is_write Read = false
is_write Write = true

-- the state of a node without a guard after foreign accesses in turn
abbrev pub after_all : List Kind → Perm → Perm
after_all [] perm = perm
after_all (kind ∷ kinds) perm = after_all kinds (after_foreign kind false perm)

-- the same after one of them or none
abbrev pub after_one : Option Kind → Perm → Perm
after_one None perm = perm
after_one (Some kind) perm = after_foreign kind false perm

-- the one access to which others come, by whether a read and whether a write was among them
abbrev pub kind_among : Bool → Bool → Option Kind
kind_among read true = Some Write
kind_among true false = Some Read
kind_among false false = None

abbrev pub sum_of : List Kind → Option Kind
sum_of kinds = kind_among (list_any is_read kinds) (list_any is_write kinds)

-- a foreign access of the first kind leaves nothing to one of the second
abbrev pub hides : Kind → Kind → Bool
hides Read further = is_read further
hides Write further = true

-- the later guard protects only where the earlier one does
abbrev pub no_stronger : Guard → Guard → Bool
no_stronger later guard = not (is_protected later) || is_protected guard
