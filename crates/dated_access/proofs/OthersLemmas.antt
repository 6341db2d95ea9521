-- The guarded nodes off a path, as a list.
use Rattle.std.proofs.Common.{◌≡◌, inl, inr, ℕ, zero, suc, ◌+◌, ◌<◌, ◌≤◌, ◌==◌, ◌++◌, nat_lt, Bool, true, false, not, cond, List, [], ◌∷◌, length, get_or, take, filter, Contains, IsTrue, refl, sym, ap, subst, ◌∙◌, arith, append-nil}
use Rattle.std.proofs.lemmas.Bool.{cases_lt, cases_eq}
use Rattle.std.proofs.lemmas.Bool.Decides.{nat_tests}
use Rattle.std.proofs.lemmas.List.{get_or_default, take_all}
use Rattle.std.proofs.lemmas.List.Elements.{filter_more, filter_passes, All-filter, All-get_or}
use Rattle.std.proofs.lemmas.List.Kept.{IsStrictlyIncreasing-filter, AllPairs-from_increasing}
use Rattle.std.specs.List.Sorted.{IsPartitionPoint, IsPartitionedBy, IsStrictlyIncreasing}
use Rattle.perm_table.specs.Table.{is_protected}
use Rattle.dated_tree.specs.Shape.{Shape, node_at}
use Rattle.dated_tree.specs.Path.{is_on_path}
use Rattle.dated_tree.specs.Kept.{IsSound}
use Rattle.dated_access.specs.Path.{entry, IsPathTo}
use Rattle.dated_access.specs.Change.{AreOthers}
use Rattle.dated_access.specs.Others.{IsRising, others_to}

pub rising-from : (xs : List ℕ) → IsStrictlyIncreasing xs → IsRising xs
rising-from xs h j k less lt = AllPairs-from_increasing xs h j k 0 less lt

below : (a b t : ℕ) → a < b → nat_lt b t ≡ true → nat_lt a t ≡ true
below a b t le h = grind (arith, nat_tests, le, h)

pub partitioned : (places : List ℕ) (place : ℕ) → IsRising places → IsPartitionedBy (λ p. nat_lt p place) places
partitioned places place rising i j d le lt h =
    elim (cases_eq i j) [
      | inl same ↦ subst (λ k. nat_lt (get_or places k d) place ≡ true) (sym same) h
      | inr other ↦
          let less = rising i j (omega (arith, le, other)) lt in
          let one : get_or places i d ≡ entry places i = get_or_default places i d 0 (omega (arith, le, lt)) in
          let two : get_or places j d ≡ entry places j = get_or_default places j d 0 lt in
          below (get_or places i d) (get_or places j d) place (omega (arith, less, one, two)) h
    ]

-- no place but that at the partition point is the one
pub not-among : (places : List ℕ) (place k i : ℕ) → IsRising places → IsPartitionPoint (λ p. nat_lt p place ≡ true) (λ p. nat_lt p place ≡ false) places k → (k < length places → entry places k ≡ place → ⊥) → i < length places → entry places i ≡ place → ⊥
not-among places place k i rising p other lt e =
    elim (cases_lt i k) [
      | inl less ↦ (let test = p.0 i 0 (omega arith) less in no-less (entry places i) place test e)
      | inr more ↦ elim (cases_eq k i) [
        | inl same ↦ other (omega (arith, same, lt)) (ap (entry places) same ∙ e)
        | inr after ↦ (let test = p.1 k 0 (omega arith) (omega (arith, more, lt)) in no-more (entry places k) place test (let r = rising k i (omega (arith, more, after)) lt in omega (arith, r, e)))
      ]
    ]
  where
    no-less : (a b : ℕ) → nat_lt a b ≡ true → a ≡ b → ⊥
    no-less a b h e = grind (arith, nat_tests, h, e)

    no-more : (a b : ℕ) → nat_lt a b ≡ false → a < b → ⊥
    no-more a b h e = grind (arith, nat_tests, h, e)

not-true : (b : Bool) → not b ≡ true → b ≡ false
not-true true e = cc
not-true false e = refl

contains-filter : (p : ℕ → Bool) (xs : List ℕ) (x : ℕ) (k : ℕ) → k < length xs → entry xs k ≡ x → p x ≡ true → Contains (filter p xs) x
contains-filter p [] x k lt e h = absurd (omega arith)
contains-filter p (y ∷ ys) x zero lt e h = (let here : p y ≡ true = ap p e ∙ h in subst (λ b. Contains (cond b (y ∷ filter p ys) (filter p ys)) x) (sym here) (0, omega arith, e))
contains-filter p (y ∷ ys) x (suc k) lt e h = later (p y) (contains-filter p ys x k (omega (arith, lt)) e h)
  where
    later : (b : Bool) → Contains (filter p ys) x → Contains (cond b (y ∷ filter p ys) (filter p ys)) x
    later true c = (suc c.0, (let l = c.1 in omega (arith, l)), c.2)
    later false c = c

-- the list has the guarded nodes off the path
pub others-facts : (t : Shape) (x : ℕ) → IsSound t → AreOthers t x (others_to t x)
others-facts t x h =
    let test : ℕ → Bool = λ place. not (is_on_path t.nodes x place) in
    let sound = All-filter test (λ place. (1 ≤ place) × (place ≤ length t.nodes) × IsTrue (is_protected (node_at t.nodes place).guard)) t.guarded h.guarded.sound in
    let at : (k : ℕ) → k < length (others_to t x) → (1 ≤ entry (others_to t x) k) × (entry (others_to t x) k ≤ length t.nodes) × IsTrue (is_protected (node_at t.nodes (entry (others_to t x) k)).guard) =
    λ k lt. All-get_or (λ place. (1 ≤ place) × (place ≤ length t.nodes) × IsTrue (is_protected (node_at t.nodes place).guard)) (others_to t x) k 0 lt sound in
    let rises = rising-from (others_to t x) (IsStrictlyIncreasing-filter test t.guarded h.guarded.rising) in
    record {
      distinct = record {
        some = λ k lt. (at k lt).0;
        stored = λ k lt. (at k lt).1;
        once = λ j k less lt same. (let r = rises j k less lt in omega (arith, r, same));
      };
      rising = rises;
      off = λ k lt. not-true _ (All-get_or (λ place. test place ≡ true) (others_to t x) k 0 lt (filter_passes test t.guarded));
      guarded = λ k lt. (at k lt).2;
      whole = λ place some stored off protected.
          let among = h.guarded.whole place some stored protected in
          contains-filter test t.guarded place among.0 among.1 (get_or_default t.guarded among.0 0 place among.1 ∙ among.2) (ap not off);
    }

-- the test by the path's list
pub off-test : (t : Shape) (x place : ℕ) (path : List ℕ) (among : Bool) → IsPathTo t.nodes x path → 1 ≤ place → (among ≡ true → Contains path place) → (among ≡ false → (k : ℕ) → k < length path → entry path k ≡ place → ⊥) → among ≡ is_on_path t.nodes x place
off-test t x place path among p some has lacks = by among (is_on_path t.nodes x place) refl refl
  where
    by : (a b : Bool) → among ≡ a → is_on_path t.nodes x place ≡ b → among ≡ is_on_path t.nodes x place
    by true b is on = let c = has is in is ∙ sym (ap (is_on_path t.nodes x) (sym (get_or_default path c.0 0 place c.1 ∙ c.2)) ∙ p.sound c.0 c.1)
    by false true is on = let c = p.whole place some on in absurd (lacks is c.0 c.1 (get_or_default path c.0 0 place c.1 ∙ c.2))
    by false false is on = is ∙ sym on

-- one guarded node more, by whether it is on the path
others-step : (t : Shape) (x i place : ℕ) (path others : List ℕ) (among : Bool) → IsSound t → IsPathTo t.nodes x path → i < length t.guarded → place ≡ entry t.guarded i → (among ≡ true → Contains path place) → (among ≡ false → (k : ℕ) → k < length path → entry path k ≡ place → ⊥) →
    others ≡ filter (λ p. not (is_on_path t.nodes x p)) (take i t.guarded) → others ++ cond (not among) (place ∷ []) [] ≡ filter (λ p. not (is_on_path t.nodes x p)) (take (i + 1) t.guarded)
others-step t x i place path others among h p lt e has lacks is =
    let some : 1 ≤ place = subst (λ q. 1 ≤ q) (sym e) (All-get_or (λ q. (1 ≤ q) × (q ≤ length t.nodes) × IsTrue (is_protected (node_at t.nodes q).guard)) t.guarded i 0 lt h.guarded.sound).0 in
    ap (λ b. others ++ cond (not b) (place ∷ []) []) (off-test t x place path among p some has lacks)
    ∙ ap (λ q. others ++ cond (not (is_on_path t.nodes x q)) (q ∷ []) []) e
    ∙ ap (λ l. l ++ cond (not (is_on_path t.nodes x (entry t.guarded i))) (entry t.guarded i ∷ []) []) is
    ∙ sym (filter_more (λ q. not (is_on_path t.nodes x q)) t.guarded i 0 lt)

pub others-push : (t : Shape) (x i place : ℕ) (path others now : List ℕ) (among : Bool) → IsSound t → IsPathTo t.nodes x path → i < length t.guarded → place ≡ entry t.guarded i → (among ≡ true → Contains path place) → (among ≡ false → (k : ℕ) → k < length path → entry path k ≡ place → ⊥) →
    others ≡ filter (λ p. not (is_on_path t.nodes x p)) (take i t.guarded) → not among ≡ true → now ≡ others ++ place ∷ [] → now ≡ filter (λ p. not (is_on_path t.nodes x p)) (take (i + 1) t.guarded)
others-push t x i place path others now among h p lt e has lacks is out push =
    push ∙ ap (λ b. others ++ cond b (place ∷ []) []) (sym out) ∙ others-step t x i place path others among h p lt e has lacks is

pub others-skip : (t : Shape) (x i place : ℕ) (path others : List ℕ) (among : Bool) → IsSound t → IsPathTo t.nodes x path → i < length t.guarded → place ≡ entry t.guarded i → (among ≡ true → Contains path place) → (among ≡ false → (k : ℕ) → k < length path → entry path k ≡ place → ⊥) →
    others ≡ filter (λ p. not (is_on_path t.nodes x p)) (take i t.guarded) → not among ≡ false → others ≡ filter (λ p. not (is_on_path t.nodes x p)) (take (i + 1) t.guarded)
others-skip t x i place path others among h p lt e has lacks is here =
    sym (append-nil others) ∙ ap (λ b. others ++ cond b (place ∷ []) []) (sym here) ∙ others-step t x i place path others among h p lt e has lacks is

pub others-whole : (t : Shape) (x i : ℕ) (others : List ℕ) → i ≡ length t.guarded → others ≡ filter (λ p. not (is_on_path t.nodes x p)) (take i t.guarded) → others ≡ others_to t x
others-whole t x i others all is = is ∙ ap (λ n. filter (λ p. not (is_on_path t.nodes x p)) (take n t.guarded)) all ∙ ap (filter (λ p. not (is_on_path t.nodes x p))) (take_all (length t.guarded) t.guarded (omega arith))

pub not-here : (a b : ℕ) → (a == b) ≡ false → a ≡ b → ⊥
not-here a b h e = grind (arith, nat_tests, h, e)

pub not-past : (P : Type 0) (a b : ℕ) → a < b → nat_lt a b ≡ false → P
not-past P a b h e = absurd (wrong a b h e)
  where
    wrong : (a b : ℕ) → a < b → nat_lt a b ≡ false → ⊥
    wrong a b h e = grind (arith, nat_tests, h, e)
