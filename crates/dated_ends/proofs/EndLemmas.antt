-- What each node sees after the end of a protector that was noted, and for which cell it stands.
use Rattle.std.proofs.Common.{◌≡◌, ℕ, zero, suc, ◌+◌, ◌-◌, ◌<◌, ◌≤◌, ◌⊎◌, inl, inr, ◌||◌, Bool, true, false, cond, nat_lt, List, [], ◌∷◌, ◌++◌, length, get_or, Option, Some, None, refl, sym, ap, subst, ◌∙◌, arith}
use Rattle.std.proofs.lemmas.Bool.{cases_lt, cases_eq, ne_eqb}
use Rattle.std.proofs.lemmas.List.{get_or_past}
use Rattle.perm_table.specs.declared.Perm.{Perm}
use Rattle.perm_table.specs.declared.Kind.{Kind}
use Rattle.perm_table.specs.declared.Guard.{Guard}
use Rattle.perm_table.specs.declared.Guard.TheVariants.{Free}
use Rattle.eager_tree.specs.declared.node.Cell.{Cell}
use Rattle.eager_tree.specs.Visit.{next_cell}
use Rattle.eager_tree.specs.Steps.{implicit_kind}
use Rattle.table_laws.specs.Foreign.{after_one}
use Rattle.dated_tree.specs.declared.node.Dates.{Dates}
use Rattle.dated_tree.specs.declared.node.Slot.{Slot}
use Rattle.dated_tree.specs.declared.node.Node.{Node}
use Rattle.dated_tree.specs.Shape.{Shape, node_at, slot_at, no_node, no_slot}
use Rattle.dated_tree.specs.Dates.{last, is_noted, seen_date, seen_below, seen, put_off, IsAsMet}
use Rattle.dated_tree.specs.Eager.{eager_cell, cell_of}
use Rattle.dated_tree.specs.Ended.{IsEndedAt}
use Rattle.dated_tree.specs.Path.{is_on_path}
use Rattle.dated_tree.specs.Meet.{dated_by, is_refused, IsSlotAfter}
use Rattle.dated_tree.specs.Kept.{IsSound}
use Rattle.dated_tree.proofs.AccessLemmas.{seen-at-most, keeps-write, knows}
use Rattle.dated_tree.proofs.EndedLemmas.{is_noted-add, seen-up, seen-ended}
use Rattle.dated_tree.proofs.MeetLemmas.{not-later, none-off, slot-after}
use Rattle.dated_tree.proofs.WholeLemmas.{next-fresh}
use Rattle.dated_ends.specs.End.{end_kind, kept_at_end, IsNoted}
use Rattle.dated_ends.proofs.BelowLemmas.{or-false, before-all, here-in, test-of, below-unmet}

-- a date that nobody sees hides nothing
late-date : (ends : List ℕ) (kept date d : ℕ) → d < date → seen_date (ends ++ date ∷ []) kept d ≡ seen_date ends kept d
late-date ends kept date d lt =
    ap (λ b. cond b kept d) (is_noted-add ends date d ∙ ap (λ b. is_noted ends d || b) (ne_eqb date d (λ e. omega (arith, e, lt))) ∙ or-false (is_noted ends d))

late-note : (ends : List ℕ) (met d : Dates) (date : ℕ) → d.access < date → d.write < date → seen_below (ends ++ date ∷ []) met d ≡ seen_below ends met d
late-note ends met d date a w =
    ap (λ x. (let s : Dates = record { access = x; write = seen_date (ends ++ date ∷ []) met.write d.write } in s)) (late-date ends met.access date d.access a)
    ∙ ap (λ x. (let s : Dates = record { access = seen_date ends met.access d.access; write = x } in s)) (late-date ends met.write date d.write w)

-- a place is that of a stored node, or both trees have none there
stored-or : (t u : Shape) (place : ℕ) → length u.nodes ≡ length t.nodes → 1 ≤ place → (place ≤ length t.nodes) ⊎ (node_at u.nodes place ≡ node_at t.nodes place)
stored-or t u place count one =
    elim (cases_lt (place - 1) (length t.nodes)) [
      | inl some ↦ inl (omega (arith, some))
      | inr past ↦ inr (get_or_past u.nodes (place - 1) no_node (omega (arith, count, past)) ∙ sym (get_or_past t.nodes (place - 1) no_node past))
    ]

is-ended : (b : ℕ) (kind : Kind) (x : ℕ) (t u : Shape) → IsSound t → 1 ≤ x → x ≤ length t.nodes → IsNoted x t u → b < t.size → end_kind t x b ≡ Some kind → IsEndedAt b kind (t.clock + 1) x (λ place. is_on_path t.nodes place x) t u
is-ended b kind x t u h some stored a in_size e = record {
  last = a.last b in_size ∙ ap (λ o. dated_by o (t.clock + 1) (last t b)) e;
  some = some;
  before = before-all t h;
  parents = a.parents;
  fresh = (next-fresh t x h).ends;
  noted = a.noted;
  kept = ap (λ (s : Slot). s.met) (a.kept b in_size ∙ ap (λ o. kept_at_end o (seen t x b) (slot_at t.nodes x b)) e);
  ends = a.ends;
  below = λ place other is_in.
      elim (cases_eq place 0) [
        | inl root ↦ (let wrong : false ≡ true = sym (ne_eqb 0 x (λ s. omega (arith, s, some))) ∙ ap (λ p. is_on_path t.nodes p x) (sym root) ∙ is_in in cc)
        | inr one ↦
            elim (stored-or t u place a.count (omega (arith, one))) [
              | inl there ↦ ap (λ (s : Slot). s.met) (a.below place b (omega (arith, one)) there in_size (below-unmet x place (is_on_path t.nodes place x) other is_in))
              | inr none ↦ ap (λ (n : Node). (get_or n.runs.bytes b no_slot).met) none
            ]
      ];
  writes = λ place one off.
      elim (stored-or t u place a.count one) [
        | inl there ↦
            keeps-write kind (is_on_path t.nodes x place) (node_at t.nodes place).guard (node_at t.nodes place).ends (t.clock + 1) (seen t place b) (slot_at t.nodes place b) (slot_at u.nodes place b)
            (subst (λ o. IsSlotAfter o (is_on_path t.nodes x place) (node_at t.nodes place).guard (node_at t.nodes place).ends (t.clock + 1) (seen t place b) (slot_at t.nodes place b) (slot_at u.nodes place b)) e (a.others place b one there in_size off))
        | inr none ↦ inr (inr (ap (λ (n : Node). (get_or n.runs.bytes b no_slot).met.write) none))
      ];
}

-- at a byte without an access each node keeps its slot
slot-none : (b x place : ℕ) (t u : Shape) → IsNoted x t u → b < t.size → end_kind t x b ≡ None → 1 ≤ place → place ≤ length t.nodes → slot_at u.nodes place b ≡ slot_at t.nodes place b
slot-none b x place t u a in_size e one there =
    elim (cases_eq place x) [
      | inl same ↦ rw same (a.kept b in_size ∙ ap (λ o. kept_at_end o (seen t x b) (slot_at t.nodes x b)) e)
      | inr other ↦ by-path (is_on_path t.nodes place x) refl other
    ]
  where
    by-path : (is_in : Bool) → is_on_path t.nodes place x ≡ is_in → (place ≡ x → ⊥) → slot_at u.nodes place b ≡ slot_at t.nodes place b
    by-path true is_in other = a.below place b one there in_size (below-unmet x place (is_on_path t.nodes place x) other is_in)
    by-path false off other =
        subst (λ o. IsSlotAfter o (is_on_path t.nodes x place) (node_at t.nodes place).guard (node_at t.nodes place).ends (t.clock + 1) (seen t place b) (slot_at t.nodes place b) (slot_at u.nodes place b)) e (a.others place b one there in_size off)

seen-none : (n b x : ℕ) (t u : Shape) → IsSound t → IsNoted x t u → b < t.size → end_kind t x b ≡ None → (place : ℕ) → place ≤ n → place ≤ length t.nodes → seen u place b ≡ seen t place b
seen-none zero b x t u h a in_size e place le there =
    let root : place ≡ 0 = omega (arith, le) in rw root (a.last b in_size ∙ ap (λ o. dated_by o (t.clock + 1) (last t b)) e)
seen-none (suc n) b x t u h a in_size e place le there =
    elim (cases_eq place 0) [
      | inl root ↦ rw root (a.last b in_size ∙ ap (λ o. dated_by o (t.clock + 1) (last t b)) e)
      | inr ne ↦
          let one : 1 ≤ place = omega (arith, ne) in
          let lt = (h.nodes place one there).parent in
          let before : (p : ℕ) → 1 ≤ p → (node_at u.nodes p).parent < p = λ p q. omega (arith, a.parents p, before-all t h p q) in
          let above : seen u (node_at u.nodes place).parent b ≡ seen t (node_at t.nodes place).parent b =
          ap (λ p. seen u p b) (a.parents place) ∙ seen-none n b x t u h a in_size e (node_at t.nodes place).parent (omega (arith, lt, le)) (omega (arith, lt, there)) in
          let late = seen-at-most t (node_at t.nodes place).parent b h (omega (arith, lt, there)) in_size in
          let ends : seen_below (node_at u.nodes place).ends (slot_at t.nodes place b).met (seen t (node_at t.nodes place).parent b) ≡ seen_below (node_at t.nodes place).ends (slot_at t.nodes place b).met (seen t (node_at t.nodes place).parent b) =
          elim (cases_eq place x) [
            | inl same ↦
                ap (λ e. seen_below e (slot_at t.nodes place b).met (seen t (node_at t.nodes place).parent b)) (rw same a.noted)
                ∙ late-note (node_at t.nodes place).ends (slot_at t.nodes place b).met (seen t (node_at t.nodes place).parent b) (t.clock + 1) (omega (arith, late.access)) (omega (arith, late.write))
            | inr other ↦ ap (λ e. seen_below e (slot_at t.nodes place b).met (seen t (node_at t.nodes place).parent b)) (a.ends place one other)
          ] in
          seen-up place b u before one
          ∙ ap (λ s. seen_below (node_at u.nodes place).ends s.met (seen u (node_at u.nodes place).parent b)) (slot-none b x place t u a in_size e one there)
          ∙ ap (λ d. seen_below (node_at u.nodes place).ends (slot_at t.nodes place b).met d) above
          ∙ ends
          ∙ sym (seen-up place b t (before-all t h) one)
    ]

cond-same : {A : Type 0} (b : Bool) (d : A) → cond b d d ≡ d
cond-same true d = refl
cond-same false d = refl

seen-by-kind : (o : Option Kind) (b x : ℕ) (t u : Shape) → IsSound t → 1 ≤ x → x ≤ length t.nodes → IsNoted x t u → b < t.size → end_kind t x b ≡ o → (place : ℕ) → place ≤ length t.nodes → seen u place b ≡ cond (is_on_path t.nodes place x) (seen t place b) (dated_by o (t.clock + 1) (seen t place b))
seen-by-kind None b x t u h some stored a in_size e place there =
    seen-none place b x t u h a in_size e place (omega arith) there ∙ sym (cond-same (is_on_path t.nodes place x) (seen t place b))
seen-by-kind (Some kind) b x t u h some stored a in_size e place there =
    seen-ended b kind (t.clock + 1) x (λ p. is_on_path t.nodes p x) t u (test-of t.nodes x (before-all t h) some) (is-ended b kind x t u h some stored a in_size e) place

-- x and the nodes below it see what they saw, and all else the new date
pub seen-noted : (b x : ℕ) (t u : Shape) → IsSound t → 1 ≤ x → x ≤ length t.nodes → IsNoted x t u → b < t.size → (place : ℕ) → place ≤ length t.nodes → seen u place b ≡ cond (is_on_path t.nodes place x) (seen t place b) (dated_by (end_kind t x b) (t.clock + 1) (seen t place b))
seen-noted b x t u h some stored a in_size place there = seen-by-kind (end_kind t x b) b x t u h some stored a in_size refl place there

pub seen-inside : (b x : ℕ) (t u : Shape) → IsSound t → 1 ≤ x → x ≤ length t.nodes → IsNoted x t u → b < t.size → (place : ℕ) → place ≤ length t.nodes → is_on_path t.nodes place x ≡ true → seen u place b ≡ seen t place b
seen-inside b x t u h some stored a in_size place there e =
    seen-noted b x t u h some stored a in_size place there ∙ ap (λ i. cond i (seen t place b) (dated_by (end_kind t x b) (t.clock + 1) (seen t place b))) e

seen-outside : (b x : ℕ) (t u : Shape) → IsSound t → 1 ≤ x → x ≤ length t.nodes → IsNoted x t u → b < t.size → (place : ℕ) → place ≤ length t.nodes → is_on_path t.nodes place x ≡ false → seen u place b ≡ dated_by (end_kind t x b) (t.clock + 1) (seen t place b)
seen-outside b x t u h some stored a in_size place there e =
    seen-noted b x t u h some stored a in_size place there ∙ ap (λ i. cond i (seen t place b) (dated_by (end_kind t x b) (t.clock + 1) (seen t place b))) e

-- what x keeps stands for the cell that it stood for
kept-same : (o : Option Kind) (above : Dates) (slot : Slot) → eager_cell above (kept_at_end o above slot) ≡ eager_cell above slot
kept-same None above slot = refl
kept-same (Some kind) above slot =
    ap (λ p. (let c : Cell = record { perm = p; accessed = slot.accessed } in c))
    (none-off (nat_lt above.access above.access) (nat_lt above.write above.write) (after_one (put_off slot.met above) slot.perm) (not-later above.access above.access (omega arith)) (not-later above.write above.write (omega arith)))

pub cell-here : (b x : ℕ) (t u : Shape) → IsSound t → 1 ≤ x → x ≤ length t.nodes → IsNoted x t u → b < t.size → cell_of u x b ≡ cell_of t x b
cell-here b x t u h some stored a in_size =
    ap (λ d. eager_cell d (slot_at u.nodes x b)) (seen-inside b x t u h some stored a in_size x stored (here-in t.nodes x (before-all t h) some))
    ∙ ap (eager_cell (seen t x b)) (a.kept b in_size)
    ∙ kept-same (end_kind t x b) (seen t x b) (slot_at t.nodes x b)

pub cell-below : (b x place : ℕ) (t u : Shape) → IsSound t → 1 ≤ x → x ≤ length t.nodes → IsNoted x t u → b < t.size → 1 ≤ place → place ≤ length t.nodes → is_on_path t.nodes place x ≡ true → (place ≡ x → ⊥) → cell_of u place b ≡ cell_of t place b
cell-below b x place t u h some stored a in_size one there is_in other =
    ap (λ d. eager_cell d (slot_at u.nodes place b)) (seen-inside b x t u h some stored a in_size place there is_in)
    ∙ ap (eager_cell (seen t place b)) (a.below place b one there in_size (below-unmet x place (is_on_path t.nodes place x) other is_in))

-- each other node stands for the cell that the table gives, and where a guard stands, it has met all
pub cell-outside : (b x place : ℕ) (t u : Shape) → IsSound t → 1 ≤ x → x ≤ length t.nodes → IsNoted x t u → b < t.size → 1 ≤ place → place ≤ length t.nodes → is_on_path t.nodes place x ≡ false → is_refused (end_kind t x b) (is_on_path t.nodes x place) (node_at t.nodes place).guard (cell_of t place b) ≡ false →
    (((node_at t.nodes place).guard ≡ Free) ⊎ IsAsMet (seen u place b) (slot_at u.nodes place b)) × (cell_of u place b ≡ next_cell (end_kind t x b) (is_on_path t.nodes x place) (node_at t.nodes place).guard (cell_of t place b))
cell-outside b x place t u h some stored a in_size one there off fine =
    subst (λ d. (((node_at t.nodes place).guard ≡ Free) ⊎ IsAsMet d (slot_at u.nodes place b)) × (eager_cell d (slot_at u.nodes place b) ≡ next_cell (end_kind t x b) (is_on_path t.nodes x place) (node_at t.nodes place).guard (cell_of t place b)))
    (sym (seen-outside b x t u h some stored a in_size place there off))
    (slot-after (end_kind t x b) (is_on_path t.nodes x place) (node_at t.nodes place).guard (node_at t.nodes place).ends (t.clock + 1) (seen t place b) (slot_at t.nodes place b) (slot_at u.nodes place b) (a.others place b one there in_size off)
    (knows x (t.clock + 1) t place b h (next-fresh t x h) one there in_size) fine)

-- the node itself is left as it is
stays-by : (perm : Perm) (accessed : Bool) (guard : Guard) → next_cell (implicit_kind (record { perm = perm; accessed = accessed })) true guard (record { perm = perm; accessed = accessed }) ≡ record { perm = perm; accessed = accessed }
stays-by perm accessed guard = grind arith

pub end-stays : (cell : Cell) (guard : Guard) → next_cell (implicit_kind cell) true guard cell ≡ cell
end-stays cell guard = stays-by cell.perm cell.accessed guard
