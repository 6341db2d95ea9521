-- What a noted end keeps of a dated tree.
use Rattle.std.proofs.Common.{◌≡◌, ℕ, ◌+◌, ◌<◌, ◌≤◌, ◌⊎◌, inl, inr, Bool, true, false, nat_lt, [], ◌∷◌, length, All, get_or, Option, Some, None, refl, sym, subst, ◌∙◌, arith}
use Rattle.std.proofs.lemmas.Bool.{cases_eq}
use Rattle.std.proofs.lemmas.List.Elements.{All-append, All-cons, All-nil}
use Rattle.perm_table.specs.declared.Kind.{Kind}
use Rattle.perm_table.specs.declared.Guard.TheVariants.{Free}
use Rattle.table_laws.specs.Foreign.{after_one}
use Rattle.dated_tree.specs.declared.node.Dates.{Dates}
use Rattle.dated_tree.specs.declared.node.Slot.{Slot}
use Rattle.dated_tree.specs.Shape.{Shape, node_at, slot_at}
use Rattle.dated_tree.specs.Dates.{last, seen, put_off, IsAsMet}
use Rattle.dated_tree.specs.Eager.{tag_at}
use Rattle.dated_tree.specs.Path.{is_on_path}
use Rattle.dated_tree.specs.Kept.{IsSound, KeepsGuarded}
use Rattle.dated_tree.proofs.AccessLemmas.{SeenBy, seen-at-most}
use Rattle.dated_tree.proofs.EagerLemmas.{same-tag}
use Rattle.dated_tree.proofs.MeetLemmas.{none-off, not-later}
use Rattle.dated_tree.proofs.SoundLemmas.{keeps-last, MetBy, met-by}
use Rattle.dated_ends.specs.End.{end_kind, kept_at_end, NoDenialAtEnd, IsNoted}
use Rattle.dated_ends.proofs.BelowLemmas.{here-in, before-all, outside-meets, below-unmet}
use Rattle.dated_ends.proofs.EndLemmas.{seen-inside, cell-outside}

kept-by : (o : Option Kind) (now : ℕ) (above : Dates) (slot : Slot) → SeenBy now above → MetBy now slot.met → MetBy now (kept_at_end o above slot).met
kept-by None now above slot s m = m
kept-by (Some kind) now above slot s m = record { access = s.access; write = s.write }

later : (now next : ℕ) (met : Dates) → MetBy now met → now ≤ next → MetBy next met
later now next met m le = record { access = omega (arith, m.access, le); write = omega (arith, m.write, le) }

-- what x keeps has met all that it sees
kept-as-met : (o : Option Kind) (above : Dates) (slot : Slot) → IsAsMet above slot → IsAsMet above (kept_at_end o above slot)
kept-as-met None above slot m = m
kept-as-met (Some kind) above slot m =
    none-off (nat_lt above.access above.access) (nat_lt above.write above.write) (after_one (put_off slot.met above) slot.perm) (not-later above.access above.access (omega arith)) (not-later above.write above.write (omega arith))

-- what a slot has met, and that a guarded one has met all
slot-noted : (x place b : ℕ) (t u : Shape) → IsSound t → 1 ≤ x → x ≤ length t.nodes → NoDenialAtEnd t x → IsNoted x t u → b < t.size → 1 ≤ place → place ≤ length t.nodes → MetBy (t.clock + 1) (slot_at u.nodes place b).met × (((node_at t.nodes place).guard ≡ Free) ⊎ IsAsMet (seen u place b) (slot_at u.nodes place b))
slot-noted x place b t u h some stored fine a in_size one there =
    let was = h.slots place b one there in_size in
    let met : MetBy t.clock (slot_at t.nodes place b).met = record { access = was.access; write = was.write } in
    elim (cases_eq place x) [
      | inl same ↦ by-note same
      | inr other ↦ by-path (is_on_path t.nodes place x) refl other met was.guard
    ]
  where
    by-note : place ≡ x → MetBy (t.clock + 1) (slot_at u.nodes place b).met × (((node_at t.nodes place).guard ≡ Free) ⊎ IsAsMet (seen u place b) (slot_at u.nodes place b))
    by-note same =
        let was = h.slots x b some stored in_size in
        let met = kept-by (end_kind t x b) t.clock (seen t x b) (slot_at t.nodes x b) (seen-at-most t x b h stored in_size) (record { access = was.access; write = was.write }) in
        let sees : seen u x b ≡ seen t x b = seen-inside b x t u h some stored a in_size x stored (here-in t.nodes x (before-all t h) some) in
        rw same
        (rw (a.kept b in_size, sees) (
          later t.clock (t.clock + 1) _ met (omega arith),
          (elim was.guard [ inl free ↦ inl free | inr as_met ↦ inr (kept-as-met (end_kind t x b) (seen t x b) (slot_at t.nodes x b) as_met) ]),
        ))

    by-path : (is_in : Bool) → is_on_path t.nodes place x ≡ is_in → (place ≡ x → ⊥) → MetBy t.clock (slot_at t.nodes place b).met → ((node_at t.nodes place).guard ≡ Free) ⊎ IsAsMet (seen t place b) (slot_at t.nodes place b) →
        MetBy (t.clock + 1) (slot_at u.nodes place b).met × (((node_at t.nodes place).guard ≡ Free) ⊎ IsAsMet (seen u place b) (slot_at u.nodes place b))
    by-path true is_in other met guard =
        let slot : slot_at u.nodes place b ≡ slot_at t.nodes place b = a.below place b one there in_size (below-unmet x place (is_on_path t.nodes place x) other is_in) in
        rw (slot, seen-inside b x t u h some stored a in_size place there is_in) (later t.clock (t.clock + 1) _ met (omega arith), guard)
    by-path false off other met guard = (
      met-by (end_kind t x b) (is_on_path t.nodes x place) (node_at t.nodes place).guard (node_at t.nodes place).ends (t.clock + 1) (seen t place b) (slot_at t.nodes place b) (slot_at u.nodes place b) (a.others place b one there in_size off) (later t.clock (t.clock + 1) _ met (omega arith)),
      (cell-outside b x place t u h some stored a in_size one there off (fine place b one there in_size (outside-meets t.nodes x place off))).0,
    )

guarded-noted : (x : ℕ) (t u : Shape) → IsSound t → IsNoted x t u → KeepsGuarded u
guarded-noted x t u h a = record {
  rising = rw a.guarded h.guarded.rising;
  sound = rw a.guarded (λ k d lt.
      let was = h.guarded.sound k d lt in
      (was.0, (let s = was.1 in omega (arith, s, a.count)), rw (a.guards (get_or t.guarded k d)) was.2));
  whole = λ place some stored protected. rw a.guarded (h.guarded.whole place some (omega (arith, stored, a.count)) (rw (a.guards place) at protected));
}

ends-noted : (x place : ℕ) (t u : Shape) → IsSound t → IsNoted x t u → 1 ≤ place → place ≤ length t.nodes → All (λ end. end ≤ u.clock) (node_at u.nodes place).ends
ends-noted x place t u h a one there =
    let was : All (λ end. end ≤ u.clock) (node_at t.nodes place).ends = λ k d lt. (let e = (h.nodes place one there).ends k d lt in omega (arith, e, a.now)) in
    elim (cases_eq place x) [
      | inl same ↦
          subst (All (λ end. end ≤ u.clock)) (sym (rw same a.noted))
          (All-append (λ end. end ≤ u.clock) (node_at t.nodes place).ends ((t.clock + 1) ∷ []) was
          (All-cons (λ end. end ≤ u.clock) (t.clock + 1) [] (omega (arith, a.now)) (All-nil (λ end. end ≤ u.clock))))
      | inr other ↦ subst (All (λ end. end ≤ u.clock)) (sym (a.ends place one other)) was
    ]

-- an end that isn't denied keeps what every dated tree keeps
pub sound-noted : (t u : Shape) (x : ℕ) → IsSound t → 1 ≤ x → x ≤ length t.nodes → NoDenialAtEnd t x → IsNoted x t u → IsSound u
sound-noted t u x h some stored fine a = record {
  some = (let s = h.some in omega (arith, s, a.size));
  accesses = a.accesses ∙ h.accesses ∙ sym a.size;
  writes = a.writes ∙ h.writes ∙ sym a.size;
  last = λ b in_size.
      let within : b < t.size = omega (arith, in_size, a.size) in
      let was = h.last b within in
      let is = keeps-last (end_kind t x b) (t.clock + 1) u.clock (last t b) a.now was.write (omega (arith, was.access)) in
      record { write = subst (λ (d : Dates). d.write ≤ d.access) (sym (a.last b within)) is.0; access = subst (λ (d : Dates). d.access ≤ u.clock) (sym (a.last b within)) is.1 };
  rising = λ i j less in_nodes.
      let was = h.rising i j less (omega (arith, in_nodes, a.count)) in
      rw (same-tag t u i a.root (a.tags i), same-tag t u j a.root (a.tags j)) was;
  nodes = λ place one in_nodes.
      let was = h.nodes place one (omega (arith, in_nodes, a.count)) in
      record {
        parent = (let p = was.parent in omega (arith, p, a.parents place));
        sized = a.sized place ∙ was.sized ∙ sym a.size;
        ends = ends-noted x place t u h a one (omega (arith, in_nodes, a.count));
      };
  slots = λ place b one in_nodes in_size.
      let is = slot-noted x place b t u h some stored fine a (omega (arith, in_size, a.size)) one (omega (arith, in_nodes, a.count)) in
      let met = is.0 in
      record {
        access = omega (arith, met.access, a.now);
        write = omega (arith, met.write, a.now);
        guard = rw (a.guards place) is.1;
      };
  guarded = guarded-noted x t u h a;
  actor = λ y in_nodes e. (let none : None ≡ Some (tag_at u y) = sym a.actor ∙ e in cc);
}
