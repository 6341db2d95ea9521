-- What one slot becomes by an access.
use Rattle.std.proofs.Common.{◌≡◌, ℕ, ◌≤◌, Bool, true, false, refl, ap, arith}
use Rattle.perm_table.specs.declared.Kind.{Kind}
use Rattle.perm_table.specs.declared.Kind.TheVariants.{Read, Write}
use Rattle.perm_table.specs.declared.Guard.{Guard}
use Rattle.perm_table.specs.declared.Guard.TheVariants.{Free, Weak, Strong}
use Rattle.perm_table.specs.declared.Perm.{Perm}
use Rattle.perm_table.specs.declared.Perm.TheVariants.{Reserved, Conflicted, CellReserved, Unique, Frozen, Disabled, Cell as SharedCell}
use Rattle.perm_table.specs.declared.Outcome.TheVariants.{Next}
use Rattle.perm_table.specs.Table.{outcome}
use Rattle.eager_tree.specs.declared.node.Cell.{Cell}
use Rattle.eager_tree.specs.Visit.{cell_of}
use Rattle.lazy_tree.specs.declared.slot.Level.{Level}
use Rattle.lazy_tree.specs.declared.slot.Level.TheVariants.{Nothing}
use Rattle.lazy_tree.specs.declared.slot.Slot.{Slot}
use Rattle.lazy_tree.specs.Skip.{rank, need, own_rank}
use Rattle.lazy_tree.proofs.LevelLemmas.{own_rank-stays}
use Rattle.lazy_tree.specs.Quiet.{slot_outcome, level_after, IsQuietSlot}
use Rattle.lazy_access.specs.Step.{is_denied, stepped}

abbrev pub cell : Perm → Bool → Cell
cell perm accessed = record { perm = perm; accessed = accessed }

-- a foreign access that is not denied never lowers what a state covers by itself
foreign-own : (kind : Kind) (guard : Guard) (perm : Perm) (accessed : Bool) → is_denied (outcome perm accessed guard false kind) ≡ false → own_rank perm guard ≤ own_rank (cell_of (cell perm accessed) (outcome perm accessed guard false kind)).perm guard
foreign-own Read Free Reserved true e = omega arith
foreign-own Read Free Reserved false e = omega arith
foreign-own Read Free Conflicted true e = omega arith
foreign-own Read Free Conflicted false e = omega arith
foreign-own Read Free CellReserved true e = omega arith
foreign-own Read Free SharedCell true e = omega arith
foreign-own Read Free CellReserved false e = omega arith
foreign-own Read Free SharedCell false e = omega arith
foreign-own Read Free Unique true e = omega arith
foreign-own Read Free Unique false e = omega arith
foreign-own Read Free Frozen true e = omega arith
foreign-own Read Free Frozen false e = omega arith
foreign-own Read Free Disabled true e = omega arith
foreign-own Read Free Disabled false e = omega arith
foreign-own Read Weak Reserved true e = omega arith
foreign-own Read Weak Reserved false e = omega arith
foreign-own Read Weak Conflicted true e = omega arith
foreign-own Read Weak Conflicted false e = omega arith
foreign-own Read Weak CellReserved true e = omega arith
foreign-own Read Weak SharedCell true e = omega arith
foreign-own Read Weak CellReserved false e = omega arith
foreign-own Read Weak SharedCell false e = omega arith
foreign-own Read Weak Unique true e = cc
foreign-own Read Weak Unique false e = omega arith
foreign-own Read Weak Frozen true e = omega arith
foreign-own Read Weak Frozen false e = omega arith
foreign-own Read Weak Disabled true e = omega arith
foreign-own Read Weak Disabled false e = omega arith
foreign-own Read Strong Reserved true e = omega arith
foreign-own Read Strong Reserved false e = omega arith
foreign-own Read Strong Conflicted true e = omega arith
foreign-own Read Strong Conflicted false e = omega arith
foreign-own Read Strong CellReserved true e = omega arith
foreign-own Read Strong SharedCell true e = omega arith
foreign-own Read Strong CellReserved false e = omega arith
foreign-own Read Strong SharedCell false e = omega arith
foreign-own Read Strong Unique true e = cc
foreign-own Read Strong Unique false e = omega arith
foreign-own Read Strong Frozen true e = omega arith
foreign-own Read Strong Frozen false e = omega arith
foreign-own Read Strong Disabled true e = omega arith
foreign-own Read Strong Disabled false e = omega arith
foreign-own Write Free Reserved true e = omega arith
foreign-own Write Free Reserved false e = omega arith
foreign-own Write Free Conflicted true e = omega arith
foreign-own Write Free Conflicted false e = omega arith
foreign-own Write Free CellReserved true e = omega arith
foreign-own Write Free SharedCell true e = omega arith
foreign-own Write Free CellReserved false e = omega arith
foreign-own Write Free SharedCell false e = omega arith
foreign-own Write Free Unique true e = omega arith
foreign-own Write Free Unique false e = omega arith
foreign-own Write Free Frozen true e = omega arith
foreign-own Write Free Frozen false e = omega arith
foreign-own Write Free Disabled true e = omega arith
foreign-own Write Free Disabled false e = omega arith
foreign-own Write Weak Reserved true e = cc
foreign-own Write Weak Reserved false e = omega arith
foreign-own Write Weak Conflicted true e = cc
foreign-own Write Weak Conflicted false e = omega arith
foreign-own Write Weak CellReserved true e = omega arith
foreign-own Write Weak SharedCell true e = omega arith
foreign-own Write Weak CellReserved false e = omega arith
foreign-own Write Weak SharedCell false e = omega arith
foreign-own Write Weak Unique true e = cc
foreign-own Write Weak Unique false e = omega arith
foreign-own Write Weak Frozen true e = cc
foreign-own Write Weak Frozen false e = omega arith
foreign-own Write Weak Disabled true e = omega arith
foreign-own Write Weak Disabled false e = omega arith
foreign-own Write Strong Reserved true e = cc
foreign-own Write Strong Reserved false e = omega arith
foreign-own Write Strong Conflicted true e = cc
foreign-own Write Strong Conflicted false e = omega arith
foreign-own Write Strong CellReserved true e = omega arith
foreign-own Write Strong SharedCell true e = omega arith
foreign-own Write Strong CellReserved false e = omega arith
foreign-own Write Strong SharedCell false e = omega arith
foreign-own Write Strong Unique true e = cc
foreign-own Write Strong Unique false e = omega arith
foreign-own Write Strong Frozen true e = cc
foreign-own Write Strong Frozen false e = omega arith
foreign-own Write Strong Disabled true e = omega arith
foreign-own Write Strong Disabled false e = omega arith

-- a local read that is not denied leaves the permission
local-read-own : (guard : Guard) (perm : Perm) (accessed : Bool) → is_denied (outcome perm accessed guard true Read) ≡ false → (cell_of (cell perm accessed) (outcome perm accessed guard true Read)).perm ≡ perm
local-read-own guard Reserved accessed e = refl
local-read-own guard Conflicted accessed e = refl
local-read-own guard CellReserved accessed e = refl
local-read-own guard SharedCell accessed e = refl
local-read-own guard Unique accessed e = refl
local-read-own guard Frozen accessed e = refl
local-read-own guard Disabled accessed e = cc

pub stepped-own : (guard : Guard) (local : Bool) (kind : Kind) (slot : Slot) → rank slot.level ≤ own_rank slot.perm guard → is_denied (slot_outcome guard local kind slot) ≡ false → rank (stepped guard local kind slot).level ≤ own_rank (stepped guard local kind slot).perm guard
stepped-own guard true Write slot own e = omega arith
stepped-own guard true Read slot own e = rw (local-read-own guard slot.perm slot.accessed e) own
stepped-own guard false Read slot own e = let kept = foreign-own Read guard slot.perm slot.accessed e in omega (arith, own, kept)
stepped-own guard false Write slot own e = let kept = foreign-own Write guard slot.perm slot.accessed e in omega (arith, own, kept)

pub level-falls : (local : Bool) (kind : Kind) (level : Level) → rank (level_after local kind level) ≤ rank level
level-falls true Write level = omega arith
level-falls true Read level = omega arith
level-falls false Read level = omega arith
level-falls false Write level = omega arith

-- a level that is above a parent's stays so, but at a local write, where the parent's must be 0
pub level-above : (local : Bool) (kind : Kind) (level : Level) (upper : ℕ) → upper ≤ rank level → (local ≡ true → kind ≡ Write → upper ≡ 0) → upper ≤ rank (level_after local kind level)
level-above true Write level upper le nothing = let none = nothing refl refl in omega (arith, none)
level-above true Read level upper le nothing = le
level-above false Read level upper le nothing = le
level-above false Write level upper le nothing = le

-- after a foreign access that is not denied the state covers such accesses
foreign-covers : (kind : Kind) (guard : Guard) (perm : Perm) (accessed : Bool) → is_denied (outcome perm accessed guard false kind) ≡ false → need kind ≤ own_rank (cell_of (cell perm accessed) (outcome perm accessed guard false kind)).perm guard
foreign-covers Read Free Reserved true e = omega arith
foreign-covers Read Free Reserved false e = omega arith
foreign-covers Read Free Conflicted true e = omega arith
foreign-covers Read Free Conflicted false e = omega arith
foreign-covers Read Free CellReserved true e = omega arith
foreign-covers Read Free SharedCell true e = omega arith
foreign-covers Read Free CellReserved false e = omega arith
foreign-covers Read Free SharedCell false e = omega arith
foreign-covers Read Free Unique true e = omega arith
foreign-covers Read Free Unique false e = omega arith
foreign-covers Read Free Frozen true e = omega arith
foreign-covers Read Free Frozen false e = omega arith
foreign-covers Read Free Disabled true e = omega arith
foreign-covers Read Free Disabled false e = omega arith
foreign-covers Read Weak Reserved true e = omega arith
foreign-covers Read Weak Reserved false e = omega arith
foreign-covers Read Weak Conflicted true e = omega arith
foreign-covers Read Weak Conflicted false e = omega arith
foreign-covers Read Weak CellReserved true e = omega arith
foreign-covers Read Weak SharedCell true e = omega arith
foreign-covers Read Weak CellReserved false e = omega arith
foreign-covers Read Weak SharedCell false e = omega arith
foreign-covers Read Weak Unique true e = cc
foreign-covers Read Weak Unique false e = omega arith
foreign-covers Read Weak Frozen true e = omega arith
foreign-covers Read Weak Frozen false e = omega arith
foreign-covers Read Weak Disabled true e = omega arith
foreign-covers Read Weak Disabled false e = omega arith
foreign-covers Read Strong Reserved true e = omega arith
foreign-covers Read Strong Reserved false e = omega arith
foreign-covers Read Strong Conflicted true e = omega arith
foreign-covers Read Strong Conflicted false e = omega arith
foreign-covers Read Strong CellReserved true e = omega arith
foreign-covers Read Strong SharedCell true e = omega arith
foreign-covers Read Strong CellReserved false e = omega arith
foreign-covers Read Strong SharedCell false e = omega arith
foreign-covers Read Strong Unique true e = cc
foreign-covers Read Strong Unique false e = omega arith
foreign-covers Read Strong Frozen true e = omega arith
foreign-covers Read Strong Frozen false e = omega arith
foreign-covers Read Strong Disabled true e = omega arith
foreign-covers Read Strong Disabled false e = omega arith
foreign-covers Write Free Reserved true e = omega arith
foreign-covers Write Free Reserved false e = omega arith
foreign-covers Write Free Conflicted true e = omega arith
foreign-covers Write Free Conflicted false e = omega arith
foreign-covers Write Free CellReserved true e = omega arith
foreign-covers Write Free SharedCell true e = omega arith
foreign-covers Write Free CellReserved false e = omega arith
foreign-covers Write Free SharedCell false e = omega arith
foreign-covers Write Free Unique true e = omega arith
foreign-covers Write Free Unique false e = omega arith
foreign-covers Write Free Frozen true e = omega arith
foreign-covers Write Free Frozen false e = omega arith
foreign-covers Write Free Disabled true e = omega arith
foreign-covers Write Free Disabled false e = omega arith
foreign-covers Write Weak Reserved true e = cc
foreign-covers Write Weak Reserved false e = omega arith
foreign-covers Write Weak Conflicted true e = cc
foreign-covers Write Weak Conflicted false e = omega arith
foreign-covers Write Weak CellReserved true e = omega arith
foreign-covers Write Weak SharedCell true e = omega arith
foreign-covers Write Weak CellReserved false e = omega arith
foreign-covers Write Weak SharedCell false e = omega arith
foreign-covers Write Weak Unique true e = cc
foreign-covers Write Weak Unique false e = omega arith
foreign-covers Write Weak Frozen true e = cc
foreign-covers Write Weak Frozen false e = omega arith
foreign-covers Write Weak Disabled true e = omega arith
foreign-covers Write Weak Disabled false e = omega arith
foreign-covers Write Strong Reserved true e = cc
foreign-covers Write Strong Reserved false e = omega arith
foreign-covers Write Strong Conflicted true e = cc
foreign-covers Write Strong Conflicted false e = omega arith
foreign-covers Write Strong CellReserved true e = omega arith
foreign-covers Write Strong SharedCell true e = omega arith
foreign-covers Write Strong CellReserved false e = omega arith
foreign-covers Write Strong SharedCell false e = omega arith
foreign-covers Write Strong Unique true e = cc
foreign-covers Write Strong Unique false e = omega arith
foreign-covers Write Strong Frozen true e = cc
foreign-covers Write Strong Frozen false e = omega arith
foreign-covers Write Strong Disabled true e = omega arith
foreign-covers Write Strong Disabled false e = omega arith

pub stepped-covers : (guard : Guard) (kind : Kind) (slot : Slot) → is_denied (slot_outcome guard false kind slot) ≡ false → need kind ≤ own_rank (stepped guard false kind slot).perm guard
stepped-covers guard Read slot e = foreign-covers Read guard slot.perm slot.accessed e
stepped-covers guard Write slot e = foreign-covers Write guard slot.perm slot.accessed e

-- a slot that stays is the slot after the access
pub stays-stepped : (guard : Guard) (kind : Kind) (slot : Slot) → slot_outcome guard false kind slot ≡ Next slot.perm slot.accessed → slot ≡ stepped guard false kind slot
stays-stepped guard Read slot e = rw e refl
stays-stepped guard Write slot e = rw e refl

-- a local access done once is quiet from then on
local-quiet : (kind : Kind) (guard : Guard) (perm : Perm) (accessed : Bool) (level : Level) → is_denied (outcome perm accessed guard true kind) ≡ false → IsQuietSlot guard true kind (stepped guard true kind (record { perm = perm; accessed = accessed; level = level }))
local-quiet Read Free Reserved a l e = (refl, refl)
local-quiet Read Free Conflicted a l e = (refl, refl)
local-quiet Read Free CellReserved a l e = (refl, refl)
local-quiet Read Free SharedCell a l e = (refl, refl)
local-quiet Read Free Unique a l e = (refl, refl)
local-quiet Read Free Frozen a l e = (refl, refl)
local-quiet Read Free Disabled a l e = cc
local-quiet Read Weak Reserved a l e = (refl, refl)
local-quiet Read Weak Conflicted a l e = (refl, refl)
local-quiet Read Weak CellReserved a l e = (refl, refl)
local-quiet Read Weak SharedCell a l e = (refl, refl)
local-quiet Read Weak Unique a l e = (refl, refl)
local-quiet Read Weak Frozen a l e = (refl, refl)
local-quiet Read Weak Disabled a l e = cc
local-quiet Read Strong Reserved a l e = (refl, refl)
local-quiet Read Strong Conflicted a l e = (refl, refl)
local-quiet Read Strong CellReserved a l e = (refl, refl)
local-quiet Read Strong SharedCell a l e = (refl, refl)
local-quiet Read Strong Unique a l e = (refl, refl)
local-quiet Read Strong Frozen a l e = (refl, refl)
local-quiet Read Strong Disabled a l e = cc
local-quiet Write Free Reserved a l e = (refl, refl)
local-quiet Write Free Conflicted a l e = (refl, refl)
local-quiet Write Free CellReserved a l e = (refl, refl)
local-quiet Write Free SharedCell a l e = (refl, refl)
local-quiet Write Free Unique a l e = (refl, refl)
local-quiet Write Free Frozen a l e = cc
local-quiet Write Free Disabled a l e = cc
local-quiet Write Weak Reserved a l e = (refl, refl)
local-quiet Write Weak Conflicted a l e = cc
local-quiet Write Weak CellReserved a l e = (refl, refl)
local-quiet Write Weak SharedCell a l e = (refl, refl)
local-quiet Write Weak Unique a l e = (refl, refl)
local-quiet Write Weak Frozen a l e = cc
local-quiet Write Weak Disabled a l e = cc
local-quiet Write Strong Reserved a l e = (refl, refl)
local-quiet Write Strong Conflicted a l e = cc
local-quiet Write Strong CellReserved a l e = (refl, refl)
local-quiet Write Strong SharedCell a l e = (refl, refl)
local-quiet Write Strong Unique a l e = (refl, refl)
local-quiet Write Strong Frozen a l e = cc
local-quiet Write Strong Disabled a l e = cc

pub stepped-quiet : (guard : Guard) (kind : Kind) (slot : Slot) → is_denied (slot_outcome guard true kind slot) ≡ false → IsQuietSlot guard true kind (stepped guard true kind slot)
stepped-quiet guard kind slot e = local-quiet kind guard slot.perm slot.accessed slot.level e

-- a local access that changes nothing leaves the slot
pub quiet-stepped : (guard : Guard) (kind : Kind) (slot : Slot) → IsQuietSlot guard true kind slot → stepped guard true kind slot ≡ slot
quiet-stepped guard Read slot q = let e = q.0 in rw e refl
quiet-stepped guard Write slot q =
    let e = q.0 in
    let l : Nothing ≡ slot.level = q.1 in
    rw (e, l) refl

-- an access that changes nothing is not denied
pub slot-silent : (guard : Guard) (local : Bool) (kind : Kind) (slot : Slot) → rank slot.level ≤ own_rank slot.perm guard → IsQuietSlot guard local kind slot → is_denied (slot_outcome guard local kind slot) ≡ false
slot-silent guard true kind slot own q = ap is_denied q.0
slot-silent guard false Read slot own q = ap is_denied (own_rank-stays Read guard slot.perm slot.accessed (omega (arith, own, q)))
slot-silent guard false Write slot own q = ap is_denied (own_rank-stays Write guard slot.perm slot.accessed (omega (arith, own, q)))
