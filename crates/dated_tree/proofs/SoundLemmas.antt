-- What an access keeps of a dated tree.
use Rattle.std.proofs.Common.{◌≡◌, ℕ, zero, suc, ◌+◌, ◌<◌, ◌≤◌, inl, inr, ◌==◌, ◌||◌, Bool, true, false, cond, eqb, List, [], ◌∷◌, length, All, get_or, Option, Some, None, IsFalse, refl, sym, ap, subst, ◌∙◌, arith}
use Rattle.std.proofs.lemmas.Bool.{ne_eqb, eqb-true}
use Rattle.bsan_ids.specs.declared.numbers.Tag.{Tag}
use Rattle.perm_table.specs.declared.Kind.{Kind}
use Rattle.perm_table.specs.declared.Kind.TheVariants.{Read, Write}
use Rattle.perm_table.specs.declared.Guard.{Guard}
use Rattle.perm_table.specs.declared.Guard.TheVariants.{Free, Weak, Strong}
use Rattle.dated_tree.specs.declared.node.Dates.{Dates}
use Rattle.dated_tree.specs.declared.node.Slot.{Slot}
use Rattle.dated_tree.specs.Shape.{Shape, node_at, slot_at}
use Rattle.dated_tree.specs.Dates.{last, is_noted, seen, IsBefore}
use Rattle.dated_tree.specs.Eager.{tag_at}
use Rattle.dated_tree.specs.Path.{leads_within, is_on_path}
use Rattle.dated_tree.specs.Meet.{dated_by, met_after, IsSlotAfter}
use Rattle.dated_tree.specs.Access.{IsFresh, IsAccessed, NoDenial}
use Rattle.dated_tree.specs.Kept.{KeepsGuarded, IsSound}
use Rattle.dated_tree.proofs.PathLemmas.{tags-eqb}
use Rattle.dated_tree.proofs.AccessLemmas.{cell-after}
use Rattle.dated_tree.proofs.EagerLemmas.{same-tag}

path-within : (m : ℕ) (t u : Shape) (x p : ℕ) → ((place : ℕ) → (node_at u.nodes place).parent ≡ (node_at t.nodes place).parent) → leads_within m u.nodes x p ≡ leads_within m t.nodes x p
path-within zero t u x p h = refl
path-within (suc m) t u x p h =
    ap (λ b. x == p || cond (x == 0) false b) (ap (λ q. leads_within m u.nodes q p) (h x) ∙ path-within m t u (node_at t.nodes x).parent p h)

-- where parents stay, paths do
pub same-path : (t u : Shape) (x p : ℕ) → ((place : ℕ) → (node_at u.nodes place).parent ≡ (node_at t.nodes place).parent) → is_on_path u.nodes x p ≡ is_on_path t.nodes x p
same-path t u x p h = path-within x t u x p h

pub keeps-last : (o : Option Kind) (date now : ℕ) (d : Dates) → now ≡ date → d.write ≤ d.access → d.access ≤ date → ((dated_by o date d).write ≤ (dated_by o date d).access) × ((dated_by o date d).access ≤ now)
keeps-last None date now d e w a = (w, omega (arith, a, e))
keeps-last (Some Read) date now d e w a = (omega (arith, w, a), omega (arith, e))
keeps-last (Some Write) date now d e w a = (omega arith, omega (arith, e))

pub record MetBy (date : ℕ) (met : Dates) : Type 0 where
  pub access : met.access ≤ date
  pub write : met.write ≤ date

met-local : (kind : Kind) (ends : List ℕ) (date : ℕ) (met : Dates) → MetBy date met → MetBy date (met_after kind ends date met)
met-local Write ends date met h = record { access = omega arith; write = omega arith }
met-local Read [] date met h = record { access = omega arith; write = omega arith }
met-local Read (end ∷ ends) date met h = record { access = omega arith; write = h.write }

-- what a node met is no later than the date
pub met-by : (o : Option Kind) (local : Bool) (guard : Guard) (ends : List ℕ) (date : ℕ) (above : Dates) (slot next : Slot) → IsSlotAfter o local guard ends date above slot next → MetBy date slot.met → MetBy date next.met
met-by None local guard ends date above slot next h m = rw h m
met-by (Some kind) true guard ends date above slot next h m =
    elim h.met [ inl met ↦ rw met (met-local kind ends date slot.met m) | inr same ↦ rw same.2 m ]
met-by (Some kind) false Free ends date above slot next h m = rw h m
met-by (Some kind) false Weak ends date above slot next h m = rw h.met m
met-by (Some kind) false Strong ends date above slot next h m = rw h.met m

-- off the path a node keeps its dates
met-off : (o : Option Kind) (local : Bool) (guard : Guard) (ends : List ℕ) (date : ℕ) (above : Dates) (slot next : Slot) → local ≡ false → IsSlotAfter o local guard ends date above slot next → next.met ≡ slot.met
met-off None local guard ends date above slot next off h = ap (λ (s : Slot). s.met) h
met-off (Some kind) true guard ends date above slot next off h = cc
met-off (Some kind) false Free ends date above slot next off h = ap (λ (s : Slot). s.met) h
met-off (Some kind) false Weak ends date above slot next off h = h.met
met-off (Some kind) false Strong ends date above slot next off h = h.met

same-place : (t : Shape) (x y : ℕ) → IsSound t → x ≤ length t.nodes → y ≤ length t.nodes → Some (tag_at t x) ≡ Some (tag_at t y) → x ≡ y
same-place t x y h low high e =
    let tags : (tag_at t x).0 ≡ (tag_at t y).0 = ap (λ (g : Tag). g.0) (some-tag _ _ e) in
    eqb-true x y (sym (tags-eqb t x y h low high) ∙ (rw tags (same _)))
  where
    some-tag : (a b : Tag) → Some a ≡ Some b → a ≡ b
    some-tag a b e = cc

    same : (n : ℕ) → eqb n n ≡ true
    same n = grind arith

fresh-after : (x date : ℕ) (kinds : ℕ → Option Kind) (t u : Shape) → IsSound t → IsFresh t x date → IsAccessed x kinds date t u → IsFresh u x u.clock
fresh-after x date kinds t u h f a = record {
  now = omega arith;
  ends = λ place. subst (λ e. IsFalse (is_noted e u.clock)) (sym (a.links place).ends) (subst (λ d. IsFalse (is_noted (node_at t.nodes place).ends d)) (sym a.now) (f.ends place));
  met = λ place b some stored in_size off.
      let low : place ≤ length t.nodes = omega (arith, stored, a.count) in
      let within : b < t.size = omega (arith, in_size, a.size) in
      let was : is_on_path t.nodes x place ≡ false = sym (same-path t u x place (λ p. (a.links p).parent)) ∙ off in
      let same = met-off (kinds b) (is_on_path t.nodes x place) (node_at t.nodes place).guard (node_at t.nodes place).ends date (seen t place b) (slot_at t.nodes place b) (slot_at u.nodes place b) was (a.slots place b some low within) in
      subst (λ d. IsBefore d u.clock) (sym same) (subst (λ n. IsBefore (slot_at t.nodes place b).met n) (sym a.now) (f.met place b some low within was));
}

guarded-after : (x date : ℕ) (kinds : ℕ → Option Kind) (t u : Shape) → IsSound t → IsAccessed x kinds date t u → KeepsGuarded u
guarded-after x date kinds t u h a = record {
  rising = rw a.guarded h.guarded.rising;
  sound = rw a.guarded (λ k d lt.
      let was = h.guarded.sound k d lt in
      (was.0, (let s = was.1 in omega (arith, s, a.count)), rw (a.links (get_or t.guarded k d)).guard was.2));
  whole = λ place some stored protected. rw a.guarded (h.guarded.whole place some (omega (arith, stored, a.count)) (rw (a.links place).guard at protected));
}

-- an access that isn't denied keeps what every dated tree keeps
pub sound-after : (x : ℕ) (kinds : ℕ → Option Kind) (date : ℕ) (t u : Shape) → IsSound t → x ≤ length t.nodes → IsFresh t x date → NoDenial t x kinds → IsAccessed x kinds date t u → IsSound u
sound-after x kinds date t u h low f fine a = record {
  some = (let s = h.some in omega (arith, s, a.size));
  accesses = a.accesses ∙ h.accesses ∙ sym a.size;
  writes = a.writes ∙ h.writes ∙ sym a.size;
  last = λ b in_size.
      let within : b < t.size = omega (arith, in_size, a.size) in
      let was = h.last b within in
      let is = keeps-last (kinds b) date u.clock (last t b) a.now was.write (omega (arith, was.access, f.now)) in
      record { write = subst (λ (d : Dates). d.write ≤ d.access) (sym (a.last b within)) is.0; access = subst (λ (d : Dates). d.access ≤ u.clock) (sym (a.last b within)) is.1 };
  rising = λ i j less stored.
      let was = h.rising i j less (omega (arith, stored, a.count)) in
      rw (same-tag t u i a.root (a.links i).tag, same-tag t u j a.root (a.links j).tag) was;
  nodes = λ place some stored.
      let was = h.nodes place some (omega (arith, stored, a.count)) in
      record {
        parent = (let p = was.parent in omega (arith, p, (a.links place).parent));
        sized = a.sized place ∙ was.sized ∙ sym a.size;
        ends = rw (a.links place).ends (λ k d lt. (let e = was.ends k d lt in omega (arith, e, a.now, f.now)));
      };
  slots = λ place b some stored in_size.
      let stored_there : place ≤ length t.nodes = omega (arith, stored, a.count) in
      let within : b < t.size = omega (arith, in_size, a.size) in
      let was = h.slots place b some stored_there within in
      let met = met-by (kinds b) (is_on_path t.nodes x place) (node_at t.nodes place).guard (node_at t.nodes place).ends date (seen t place b) (slot_at t.nodes place b) (slot_at u.nodes place b) (a.slots place b some stored_there within) (record { access = omega (arith, was.access, f.now); write = omega (arith, was.write, f.now) }) in
      record {
        access = omega (arith, met.access, a.now);
        write = omega (arith, met.write, a.now);
        guard = rw (a.links place).guard (cell-after x kinds date t u h f a place b some stored_there within (fine place b some stored_there within)).0;
      };
  guarded = guarded-after x date kinds t u h a;
  actor = λ y stored e.
      let same : x ≡ y = same-place t x y h low (omega (arith, stored, a.count)) (sym a.actor ∙ e ∙ ap (λ g. Some g) (same-tag t u y a.root (a.links y).tag)) in
      subst (λ q. IsFresh u q u.clock) same (fresh-after x date kinds t u h f a);
}

pub not-noted : (ends : List ℕ) (now : ℕ) → All (λ end. end ≤ now) ends → is_noted ends (now + 1) ≡ false
not-noted [] now h = refl
not-noted (end ∷ ends) now h =
    let first : end ≤ now = h 0 0 (omega arith) in
    let other : eqb end (now + 1) ≡ false = ne_eqb end (now + 1) (λ e. omega arith) in
    rw other (not-noted ends now (λ k d lt. h (suc k) d (omega (arith, lt))))
