-- A byte's new date is seen at every node.
use Rattle.std.proofs.Common.{Some, ◌≡◌, ℕ, zero, suc, Bool, true, false, ◌==◌, cond, IsFalse, List, [], ◌⊎◌, inl, inr, refl, ap, ◌∙◌, arith}
use Rattle.perm_table.specs.declared.Kind.{Kind}
use Rattle.perm_table.specs.declared.Kind.TheVariants.{Read, Write}
use Rattle.std.proofs.lemmas.Grind.{common_steps}
use Rattle.perm_table.specs.declared.Guard.TheVariants.{Free}
use Rattle.eager_tree.specs.Visit.{next_cell}
use Rattle.dated_tree.specs.declared.node.Dates.{Dates}
use Rattle.dated_tree.specs.declared.node.Slot.{Slot}
use Rattle.dated_tree.specs.Shape.{Shape, node_at, slot_at}
use Rattle.dated_tree.specs.Dates.{last, is_noted, seen_below, seen_within, seen, dated, IsBefore}
use Rattle.dated_tree.specs.Eager.{eager_cell, cell_of}
use Rattle.dated_tree.specs.Seen.{IsDatedAt}

-- at one node, where it keeps the write that it met, but for a write
pub seen_below-dated : (ends : List ℕ) (met met' above : Dates) (kind : Kind) (date : ℕ) → IsFalse (is_noted ends date) → (kind ≡ Write) ⊎ ((ends ≡ []) ⊎ (met'.write ≡ met.write)) → seen_below ends met' (dated kind date above) ≡ dated kind date (seen_below ends met above)
seen_below-dated ends met met' above Write date h w = grind arith
seen_below-dated ends met met' above Read date h (inl wrong) = cc
seen_below-dated ends met met' above Read date h (inr (inl none)) = rw none refl
seen_below-dated ends met met' above Read date h (inr (inr same)) = grind (arith, same)

at-node : (root : Bool) (ends ends' : List ℕ) (met met' below below' above above' : Dates) (kind : Kind) (date : ℕ) → ends' ≡ ends → IsFalse (is_noted ends date) → (kind ≡ Write) ⊎ ((ends ≡ []) ⊎ (met'.write ≡ met.write)) → below' ≡ dated kind date below → above' ≡ dated kind date above →
    cond root below' (seen_below ends' met' above') ≡ dated kind date (cond root below (seen_below ends met above))
at-node true ends ends' met met' below below' above above' kind date e h w l a = l
at-node false ends ends' met met' below below' above above' kind date e h w l a = rw (e, a) (seen_below-dated ends met met' above kind date h w)

seen_within-dated : (more b : ℕ) (kind : Kind) (date : ℕ) (t u : Shape) → IsDatedAt b kind date t u → (place : ℕ) → seen_within more u place b ≡ dated kind date (seen_within more t place b)
seen_within-dated zero b kind date t u s place = s.last
seen_within-dated (suc more) b kind date t u s place =
    let up : seen_within more u (node_at u.nodes place).parent b ≡ dated kind date (seen_within more t (node_at t.nodes place).parent b) =
    ap (λ p. seen_within more u p b) (s.parents place) ∙ seen_within-dated more b kind date t u s (node_at t.nodes place).parent in
    at-node (place == 0) (node_at t.nodes place).ends (node_at u.nodes place).ends (slot_at t.nodes place b).met (slot_at u.nodes place b).met (last t b) (last u b) _ _ kind date (s.ends place) (s.fresh place) (s.writes place) s.last up

pub seen-dated : (b : ℕ) (kind : Kind) (date : ℕ) (t u : Shape) → IsDatedAt b kind date t u → (place : ℕ) → seen u place b ≡ dated kind date (seen t place b)
seen-dated b kind date t u s place = seen_within-dated place b kind date t u s place

pub put-off : (slot : Slot) (above : Dates) (kind : Kind) (date : ℕ) → IsBefore slot.met date → eager_cell (dated kind date above) slot ≡ next_cell (Some kind) false Free (eager_cell above slot)
put-off slot above kind date h = grind (arith, common_steps)

pub cell-dated : (b : ℕ) (kind : Kind) (date : ℕ) (t u : Shape) → IsDatedAt b kind date t u → (place : ℕ) → slot_at u.nodes place b ≡ slot_at t.nodes place b → IsBefore (slot_at t.nodes place b).met date → cell_of u place b ≡ next_cell (Some kind) false Free (cell_of t place b)
cell-dated b kind date t u s place same h =
    ap (λ x. eager_cell x (slot_at u.nodes place b)) (seen-dated b kind date t u s place) ∙ ap (λ x. eager_cell (dated kind date (seen t place b)) x) same ∙ put-off (slot_at t.nodes place b) (seen t place b) kind date h
