-- The names that a report writes.
use Rattle.std.specs.Prelude.{ℕ, List, codes}
use Rattle.perm_table.specs.declared.Perm.{Perm}
use Rattle.perm_table.specs.declared.Perm.TheVariants as perm
use Rattle.history.specs.declared.trap.Trap.{Trap}
use Rattle.history.specs.declared.trap.Trap.TheVariants as trap

-- the name of a node's state
abbrev pub perm_name : Perm → List ℕ
perm_name perm.Reserved = codes "Reserved"
perm_name perm.Conflicted = codes "Conflicted"
perm_name perm.CellReserved = codes "CellReserved"
perm_name perm.Unique = codes "Unique"
perm_name perm.Frozen = codes "Frozen"
perm_name perm.Disabled = codes "Disabled"
perm_name perm.Cell = codes "Cell"

-- the name of a trap
abbrev pub trap_name : Trap → List ℕ
trap_name trap.DivZero = codes "DivZero"
trap_name trap.ShiftTooFar = codes "ShiftTooFar"
trap_name trap.NoAllocation = codes "NoAllocation"
trap_name trap.OutOfBounds = codes "OutOfBounds"
trap_name trap.Freed = codes "Freed"
trap_name trap.BadFree = codes "BadFree"
trap_name trap.BadSize = codes "BadSize"
trap_name (trap.AllocLimit drawn) = codes "AllocLimit"
trap_name (trap.ThreadLimit drawn) = codes "ThreadLimit"
trap_name trap.DepthLimit = codes "DepthLimit"
trap_name trap.Unreachable = codes "Unreachable"
