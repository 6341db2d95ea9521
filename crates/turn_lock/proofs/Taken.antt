-- What a desk has after its turn was taken and the value exchanged, and after a split.
use Rattle.std.proofs.Common.{◌≡◌, ℕ, suc, List, [], ◌∷◌, ◌++◌, Contains, get_or, Option, Some, None, IfSome, IfNone, refl, sym, ap, ◌∙◌, subst, arith}
use Rattle.atomic_table.specs.Seated.{TableId}
use Rattle.atomic_table.specs.Table.{Me, rest}
use Rattle.history.specs.declared.entry.Entry.{Entry}
use Rattle.turn_lock.specs.declared.view.View.{View}
use Rattle.turn_lock.specs.Places.{place, slot_at}
use Rattle.turn_lock.specs.Steps.{took, chose, split_left, parted, joins}
use Rattle.turn_lock.specs.Plays.{DeskView, IsDesk, Tells, TakenAt, IsTaken}
use Rattle.turn_lock.proofs.Places.{slot_of_place}
use Rattle.turn_lock.proofs.Members.{once_more, once_less, none_left}

module _ {X : Type 0} (number : X → ℕ) (entries : X → List Entry) where
  abbrev pub Found : ℕ → Me (Option X) View → Me (Option X) View → Type 0
  Found k m m' = (x : X) × (m' ≡ (took m.0 k (entries x), (k, Some x) ∷ m.1)) × (number x ≡ suc k) × Tells (suc k) m.0 (entries x)

  pub found : (k place_is : ℕ) (m m' : Me (Option X) View) (r : ℕ) → place_is ≡ place k → TakenAt number entries (slot_at place_is) m r m' → r ≡ 0 → Found k m m'
  found k place_is m m' r is told zero_is = let same : slot_at place_is ≡ k = ap slot_at is ∙ slot_of_place k in (subst (λ j. TakenAt number entries j m r m') same told).0 zero_is

  pub carried : (k : ℕ) (m m' : Me (Option X) View) → Found k m m' → (x : Option X) × (m'.1 ≡ (k, x) ∷ rest m'.1)
  carried k m m' f = (Some f.0, subst (λ (z : Me (Option X) View). z.1 ≡ (k, Some f.0) ∷ rest z.1) (sym f.1) refl)

  pub after_take : (k : ℕ) (m m' m'' : Me (Option X) View) → Found k m m' → m.1 ≡ [] → (y : Option X) → m'.1 ≡ (k, y) ∷ rest m'.1 → m'' ≡ (m'.0, (k, None) ∷ rest m'.1)
      → IfSome y (λ x. IsTaken number entries k m x m'') × IfNone y (m'' ≡ m)
  after_take k m m' m'' f empty y there_is left =
      let list : m'.1 ≡ (k, Some f.0) ∷ [] = ap (λ (z : Me (Option X) View). z.1) f.1 ∙ ap (λ c. (k, Some f.0) ∷ c) empty in
      let same : Some f.0 ≡ y = ap (λ (l : List (ℕ × Option X)). (get_or l 0 (0, None)).1) (sym list ∙ there_is) in
      let none_else : rest m'.1 ≡ [] = ap rest list in
      let now : m'' ≡ (took m.0 k (entries f.0), (k, None) ∷ []) = left ∙ (λ i. (ap (λ (z : Me (Option X) View). z.0) f.1 i, (k, None) ∷ none_else i)) in
      subst (λ z. IfSome z (λ x. IsTaken number entries k m x m'') × IfNone z (m'' ≡ m)) same ((now, f.2, f.3), tt)

-- the two steps of a split leave the maker's view with the name out, and no other name chosen
pub parted_desk : (table table' : TableId) (v w u : View) (n : ℕ) → table' ≡ table → w ≡ chose v n → u ≡ split_left w → v.next ≡ 0
    → ◌≡◌ {A = DeskView} (record { table = table'; view = u }) (record { table = table; view = parted v n })
parted_desk table table' v w u n same chosen split none_next =
    let whole : u ≡ parted v n = split ∙ (ap split_left chosen ∙ (λ j. record v { outs = v.outs ++ n ∷ []; next = sym none_next j })) in
    λ i. record { table = same i; view = whole i }

-- what a desk is stays true after a split and a join
module _ {X : Type 0} (table table' : TableId) (m : Me (Option X) View) (same : table' ≡ table) (desk : IsDesk table m) where
  pub split_desk : (m' m'' : Me (Option X) View) (n : ℕ) → m' ≡ (chose m.0 n, m.1) → m'' ≡ (split_left m'.0, m'.1) → ¬ (Contains m.0.outs n) → IsDesk table' m''
  split_desk m' m'' n chosen split away =
      let now : m'' ≡ (split_left (chose m.0 n), m.1) = split ∙ ap (λ (z : Me (Option X) View). (split_left z.0, z.1)) chosen in
      subst (λ t. IsDesk t m'') (sym same) (subst (IsDesk table) (sym now) (desk.0, desk.1, refl, once_more m.0.outs n away desk.3))

  pub joined_desk : (m' : Me (Option X) View) (u : View) → m' ≡ (joins m.0 u, m.1) → Contains m.0.outs u.name → IsDesk table' m'
  joined_desk m' u now out =
      subst (λ t. IsDesk t m') (sym same) (subst (IsDesk table) (sym now) (desk.0, desk.1, desk.2, once_less m.0.outs u.name out desk.3))

  pub returned_name : (m' : Me (Option X) View) (u : View) → m' ≡ (joins m.0 u, m.1) → Contains m.0.outs u.name → ¬ (Contains m'.0.outs u.name)
  returned_name m' u now out = subst (λ (z : Me (Option X) View). ¬ (Contains z.0.outs u.name)) (sym now) (none_left m.0.outs u.name out desk.3)
