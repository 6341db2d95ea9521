-- One node meets an access.
use Rattle.std.proofs.Common.{◌≡◌, ℕ, ◌≤◌, ◌⊎◌, inl, inr, Bool, true, false, nat_lt, List, [], ◌∷◌, Option, Some, None, refl, sym, ap, ◌∙◌, arith}
use Rattle.std.proofs.lemmas.Bool.Decides.{nat_tests}
use Rattle.std.proofs.lemmas.Grind.{common_steps}
use Rattle.perm_table.specs.declared.Perm.{Perm}
use Rattle.perm_table.specs.declared.Kind.{Kind}
use Rattle.perm_table.specs.declared.Kind.TheVariants.{Read, Write}
use Rattle.perm_table.specs.declared.Guard.{Guard}
use Rattle.perm_table.specs.declared.Guard.TheVariants.{Free, Weak, Strong}
use Rattle.perm_table.specs.declared.Outcome.{Outcome}
use Rattle.perm_table.specs.declared.Outcome.TheVariants.{Next, Denied}
use Rattle.perm_table.specs.Table.{outcome, foreign_write, after_foreign}
use Rattle.eager_tree.specs.declared.node.Cell.{Cell}
use Rattle.eager_tree.specs.Visit.{next_cell, cell_of}
use Rattle.table_laws.specs.Foreign.{after_one, kind_among}
use Rattle.dated_tree.specs.declared.node.Dates.{Dates}
use Rattle.dated_tree.specs.declared.node.Slot.{Slot}
use Rattle.dated_tree.specs.Dates.{put_off, dated, IsBefore, IsAsMet}
use Rattle.dated_tree.specs.Eager.{eager_cell}
use Rattle.dated_tree.specs.Meet.{is_denied, is_refused, dated_by, is_unique, kept_cell, met_after, IsLocalSlot, IsForeignSlot, IsSlotAfter}
use Rattle.dated_tree.proofs.SeenLemmas.{put-off}

pub not-later : (a b : ℕ) → b ≤ a → nat_lt a b ≡ false
not-later a b le = grind (arith, nat_tests)

-- a local read leaves the state, denied or not
read-state : (guard : Guard) (perm : Perm) (accessed : Bool) → (next_cell (Some Read) true guard (record { perm = perm; accessed = accessed })).perm ≡ perm
read-state guard perm accessed = grind arith

write-hidden : (perm : Perm) → foreign_write (foreign_write perm) ≡ foreign_write perm
write-hidden perm = grind arith

-- what is put off where a write is later than the one that was met
with-write : (met seen : Dates) (perm : Perm) → nat_lt met.write seen.write ≡ true → after_one (put_off met seen) perm ≡ foreign_write perm
with-write met seen perm e = rw e refl

-- a slot that is kept by a read, by what is put off
kept-state : (write access : Bool) (perm next : Perm) → (write ≡ true → next ≡ foreign_write perm) → next ≡ perm → is_unique perm ≡ false → after_one (kind_among access write) perm ≡ perm
kept-state true access perm next w same u = let e = w refl in cc
kept-state false true perm next w same u = grind arith
kept-state false false perm next w same u = refl

state-by-write : (write : Bool) (perm next was : Perm) → (write ≡ true → next ≡ foreign_write was) → perm ≡ next → after_one (kind_among false write) perm ≡ perm
state-by-write true perm next was w same = rw (same, w refl) (write-hidden was)
state-by-write false perm next was w same = refl

pub none-off : (a b : Bool) (perm : Perm) → a ≡ false → b ≡ false → after_one (kind_among a b) perm ≡ perm
none-off a b perm e f = rw (e, f) refl

read-cell : (guard : Guard) (seen : Dates) (slot next : Slot) → kept_cell next ≡ next_cell (Some Read) true guard (eager_cell seen slot) → next.perm ≡ after_one (put_off slot.met seen) slot.perm
read-cell guard seen slot next e = ap (λ (c : Cell). c.perm) e ∙ read-state guard (after_one (put_off slot.met seen) slot.perm) slot.accessed

met-after-read : (guard : Guard) (ends : List ℕ) (date : ℕ) (seen : Dates) (slot next : Slot) → kept_cell next ≡ next_cell (Some Read) true guard (eager_cell seen slot) → next.met ≡ met_after Read ends date slot.met → seen.write ≤ date → IsAsMet (dated Read date seen) next
met-after-read guard [] date seen slot next e m w =
    rw m (none-off (nat_lt date date) (nat_lt date seen.write) next.perm (not-later date date (omega arith)) (not-later date seen.write w))
met-after-read guard (end ∷ ends) date seen slot next e m w =
    rw (m, not-later date date (omega arith))
    (state-by-write (nat_lt slot.met.write seen.write) next.perm (after_one (put_off slot.met seen) slot.perm) slot.perm (λ h. with-write slot.met seen slot.perm h) (read-cell guard seen slot next e))

-- what a node on the path met is all that there was
pub local-as-met : (kind : Kind) (guard : Guard) (ends : List ℕ) (date : ℕ) (seen : Dates) (slot next : Slot) → IsLocalSlot kind guard ends date seen slot next → seen.write ≤ date → IsAsMet (dated kind date seen) next
local-as-met kind guard ends date seen slot next h w = by-met kind h.cell h.met
  where
    by-met : (kind : Kind) → kept_cell next ≡ next_cell (Some kind) true guard (eager_cell seen slot) → (next.met ≡ met_after kind ends date slot.met) ⊎ ((kind ≡ Read) × (is_unique slot.perm ≡ false) × (next ≡ slot)) → IsAsMet (dated kind date seen) next
    by-met Write e (inl m) = rw m (none-off (nat_lt date date) (nat_lt date date) next.perm (not-later date date (omega arith)) (not-later date date (omega arith)))
    by-met Write e (inr wrong) = let no = wrong.0 in cc
    by-met Read e (inl m) = met-after-read guard ends date seen slot next e m w
    by-met Read e (inr same) =
        let state : slot.perm ≡ after_one (put_off slot.met seen) slot.perm = sym (ap (λ (s : Slot). s.perm) same.2) ∙ read-cell guard seen slot next e in
        rw same.2 (kept-state (nat_lt slot.met.write seen.write) (nat_lt slot.met.access date) slot.perm (after_one (put_off slot.met seen) slot.perm) (λ h. with-write slot.met seen slot.perm h) (sym state) same.1)

-- a node that has met all stands for what it keeps
pub kept-cell : (seen : Dates) (slot : Slot) → IsAsMet seen slot → eager_cell seen slot ≡ kept_cell slot
kept-cell seen slot h = ap (λ p. (let c : Cell = record { perm = p; accessed = slot.accessed } in c)) h

not-denied : (cell : Cell) (o : Outcome) → is_denied o ≡ false → o ≡ Next (cell_of cell o).perm (cell_of cell o).accessed
not-denied cell (Next perm accessed) e = refl
not-denied cell Denied e = cc

hidden-here : (perm : Perm) (accessed : Bool) (guarded : Bool) (kind : Kind) → after_foreign kind false (after_foreign kind guarded perm) ≡ after_foreign kind guarded perm
hidden-here perm accessed guarded kind = grind arith

guarded-meets : (slot next : Slot) (seen : Dates) (guard : Guard) (kind : Kind) (date : ℕ) → IsBefore slot.met date → IsAsMet seen slot → next.met ≡ slot.met → outcome slot.perm slot.accessed guard false kind ≡ Next next.perm next.accessed → IsAsMet (dated kind date seen) next
guarded-meets slot next seen guard kind date h a m o = grind (arith, common_steps)

-- a guarded node off the path has met the access, if it isn't denied
foreign-as-met : (kind : Kind) (guard : Guard) (date : ℕ) (seen : Dates) (slot next : Slot) → IsForeignSlot kind guard slot next → IsBefore slot.met date → IsAsMet seen slot → is_refused (Some kind) false guard (eager_cell seen slot) ≡ false → IsAsMet (dated kind date seen) next
foreign-as-met kind guard date seen slot next h before as_met fine =
    let here : is_denied (outcome slot.perm slot.accessed guard false kind) ≡ false = ap (λ (c : Cell). is_denied (outcome c.perm c.accessed guard false kind)) (sym (kept-cell seen slot as_met)) ∙ fine in
    let is : outcome slot.perm slot.accessed guard false kind ≡ Next (cell_of (kept_cell slot) (outcome slot.perm slot.accessed guard false kind)).perm (cell_of (kept_cell slot) (outcome slot.perm slot.accessed guard false kind)).accessed =
    not-denied (kept_cell slot) (outcome slot.perm slot.accessed guard false kind) here in
    guarded-meets slot next seen guard kind date before as_met h.met (is ∙ ap (λ (c : Cell). Next c.perm c.accessed) (sym h.cell))

-- what is known of a node before an access
pub record Knows (local : Bool) (guard : Guard) (date : ℕ) (seen : Dates) (slot : Slot) : Type 0 where
  pub write : seen.write ≤ date
  pub before : local ≡ false → IsBefore slot.met date
  pub guarded : (guard ≡ Free) ⊎ IsAsMet seen slot

guarded-still : (kind : Kind) (guard : Guard) (date : ℕ) (seen : Dates) (slot next : Slot) → (guard ≡ Free → ⊥) → IsForeignSlot kind guard slot next → Knows false guard date seen slot → is_refused (Some kind) false guard (eager_cell seen slot) ≡ false →
    IsAsMet (dated kind date seen) next × (eager_cell (dated kind date seen) next ≡ next_cell (Some kind) false guard (eager_cell seen slot))
guarded-still kind guard date seen slot next some h k fine =
    let was : IsAsMet seen slot = elim k.guarded [ inl free ↦ absurd (some free) | inr as_met ↦ as_met ] in
    let is = foreign-as-met kind guard date seen slot next h (k.before refl) was fine in
    (is, kept-cell (dated kind date seen) next is ∙ h.cell ∙ ap (next_cell (Some kind) false guard) (sym (kept-cell seen slot was)))

-- At a byte the node stands for the cell that the table gives, and where a guard stands, it has met all.
pub slot-after : (o : Option Kind) (local : Bool) (guard : Guard) (ends : List ℕ) (date : ℕ) (seen : Dates) (slot next : Slot) → IsSlotAfter o local guard ends date seen slot next → Knows local guard date seen slot → is_refused o local guard (eager_cell seen slot) ≡ false →
    ((guard ≡ Free) ⊎ IsAsMet (dated_by o date seen) next) × (eager_cell (dated_by o date seen) next ≡ next_cell o local guard (eager_cell seen slot))
slot-after None local guard ends date seen slot next h k fine = (rw h k.guarded, ap (eager_cell seen) h)
slot-after (Some kind) true guard ends date seen slot next h k fine =
    let is = local-as-met kind guard ends date seen slot next h k.write in
    (inr is, kept-cell (dated kind date seen) next is ∙ h.cell)
slot-after (Some kind) false Free ends date seen slot next h k fine =
    (inl refl, ap (eager_cell (dated kind date seen)) h ∙ put-off slot seen kind date (k.before refl))
slot-after (Some kind) false Weak ends date seen slot next h k fine =
    let both = guarded-still kind Weak date seen slot next (λ e. cc) h k fine in (inr both.0, both.1)
slot-after (Some kind) false Strong ends date seen slot next h k fine =
    let both = guarded-still kind Strong date seen slot next (λ e. cc) h k fine in (inr both.0, both.1)
