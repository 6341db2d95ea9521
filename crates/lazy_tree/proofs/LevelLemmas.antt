-- A state stays under the foreign accesses that its own rank covers.
use Rattle.std.proofs.Common.{◌≡◌, ◌≤◌, Bool, true, false, refl, arith}
use Rattle.perm_table.specs.declared.Perm.{Perm}
use Rattle.perm_table.specs.declared.Perm.TheVariants.{Reserved, Conflicted, CellReserved, Unique, Frozen, Disabled, Cell}
use Rattle.perm_table.specs.declared.Guard.{Guard}
use Rattle.perm_table.specs.declared.Guard.TheVariants.{Free, Weak, Strong}
use Rattle.perm_table.specs.declared.Kind.{Kind}
use Rattle.perm_table.specs.declared.Kind.TheVariants.{Read, Write}
use Rattle.perm_table.specs.declared.Outcome.TheVariants.{Next}
use Rattle.perm_table.specs.Table.{outcome}
use Rattle.lazy_tree.specs.Skip.{own_rank, need}

-- at its own rank a state stays, and nothing is denied
pub own_rank-stays : (kind : Kind) (guard : Guard) (perm : Perm) (accessed : Bool) → need kind ≤ own_rank perm guard → outcome perm accessed guard false kind ≡ Next perm accessed
own_rank-stays Read Free Reserved true h = refl
own_rank-stays Read Free Reserved false h = refl
own_rank-stays Read Weak Reserved a h = absurd (omega arith)
own_rank-stays Read Strong Reserved a h = absurd (omega arith)
own_rank-stays Write Free Reserved a h = absurd (omega arith)
own_rank-stays Write Weak Reserved a h = absurd (omega arith)
own_rank-stays Write Strong Reserved a h = absurd (omega arith)
own_rank-stays Read Free Conflicted true h = refl
own_rank-stays Read Free Conflicted false h = refl
own_rank-stays Read Weak Conflicted true h = refl
own_rank-stays Read Weak Conflicted false h = refl
own_rank-stays Read Strong Conflicted true h = refl
own_rank-stays Read Strong Conflicted false h = refl
own_rank-stays Write g Conflicted a h = absurd (omega arith)
own_rank-stays Read Free CellReserved true h = refl
own_rank-stays Read Free Cell true h = refl
own_rank-stays Read Free CellReserved false h = refl
own_rank-stays Read Free Cell false h = refl
own_rank-stays Read Weak CellReserved true h = refl
own_rank-stays Read Weak Cell true h = refl
own_rank-stays Read Weak CellReserved false h = refl
own_rank-stays Read Weak Cell false h = refl
own_rank-stays Read Strong CellReserved true h = refl
own_rank-stays Read Strong Cell true h = refl
own_rank-stays Read Strong CellReserved false h = refl
own_rank-stays Read Strong Cell false h = refl
own_rank-stays Write Free CellReserved true h = refl
own_rank-stays Write Free Cell true h = refl
own_rank-stays Write Free CellReserved false h = refl
own_rank-stays Write Free Cell false h = refl
own_rank-stays Write Weak CellReserved true h = refl
own_rank-stays Write Weak Cell true h = refl
own_rank-stays Write Weak CellReserved false h = refl
own_rank-stays Write Weak Cell false h = refl
own_rank-stays Write Strong CellReserved true h = refl
own_rank-stays Write Strong Cell true h = refl
own_rank-stays Write Strong CellReserved false h = refl
own_rank-stays Write Strong Cell false h = refl
own_rank-stays Read g Unique a h = absurd (omega arith)
own_rank-stays Write g Unique a h = absurd (omega arith)
own_rank-stays Read Free Frozen true h = refl
own_rank-stays Read Free Frozen false h = refl
own_rank-stays Read Weak Frozen true h = refl
own_rank-stays Read Weak Frozen false h = refl
own_rank-stays Read Strong Frozen true h = refl
own_rank-stays Read Strong Frozen false h = refl
own_rank-stays Write g Frozen a h = absurd (omega arith)
own_rank-stays Read Free Disabled true h = refl
own_rank-stays Read Free Disabled false h = refl
own_rank-stays Read Weak Disabled true h = refl
own_rank-stays Read Weak Disabled false h = refl
own_rank-stays Read Strong Disabled true h = refl
own_rank-stays Read Strong Disabled false h = refl
own_rank-stays Write Free Disabled true h = refl
own_rank-stays Write Free Disabled false h = refl
own_rank-stays Write Weak Disabled true h = refl
own_rank-stays Write Weak Disabled false h = refl
own_rank-stays Write Strong Disabled true h = refl
own_rank-stays Write Strong Disabled false h = refl

-- a guard that goes leaves no foreign access less covered
pub own_rank-free : (perm : Perm) (guard : Guard) → own_rank perm guard ≤ own_rank perm Free
own_rank-free Reserved Free = omega arith
own_rank-free Reserved Weak = omega arith
own_rank-free Reserved Strong = omega arith
own_rank-free Conflicted g = omega arith
own_rank-free CellReserved g = omega arith
own_rank-free Cell g = omega arith
own_rank-free Unique g = omega arith
own_rank-free Frozen g = omega arith
own_rank-free Disabled g = omega arith
