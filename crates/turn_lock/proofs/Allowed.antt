-- What the table asks of each step, from what a desk knows.
use Rattle.std.proofs.Common.{eqb, eq-eqb, ne_eqb, Bool, Some, None, ◌≡◌, ℕ, suc, ◌+◌, ◌%◌, ◌^◌, ◌<◌, ◌≤◌, true, List, [], ◌∷◌, length, set, sum_by, All, Contains, slice_index, get_or, Option, refl, sym, ap, ◌∙◌, subst, ⊎_elim, arith, mod-eq_of_lt}
use mathlib.Core.Option.{some, none}
use mathlib.Core.Logic.{dite}
use native.Mathlib.Decide.{ℕ_discrete, dec_le}
use prog.Atomic.{either}
use lib.ListN.{get_elem?}
use lib.Seq.{set-get_or}
use Rattle.atomic_table.proofs.Lists.{exchanged, set_again}
use Rattle.std.proofs.lemmas.List.Sums.{sum_by-cons, get_or-le-sum_by}
use Rattle.std.proofs.lemmas.List.Elements.{All-head, All-tail}
use Rattle.atomic_table.specs.Table.{State, Me, Splits, Act, step, keeps, takes, gives as gives_act, Valid, carried_after, put_back, rest, stepped, Allows}
use Rattle.history.specs.declared.entry.Entry.{Entry}
use Rattle.turn_lock.specs.declared.view.View.{View}
use Rattle.turn_lock.specs.Places.{place, slot_at}
use Rattle.turn_lock.specs.Weights.{above, sum_up_to, equals, drawn, alloc_weight, thread_weight}
use Rattle.turn_lock.specs.Rule.{RuleHolds, Slot}
use Rattle.turn_lock.specs.declared.view.HeldTurn.{HeldTurn}
use Rattle.turn_lock.specs.Steps.{drew_stamp, drew_alloc, drew_thread, chose, split_left, split_right, took, gave}
use Rattle.turn_lock.proofs.Places.{slot_of_place}
use Rattle.turn_lock.proofs.Partings.{splits}
use Rattle.turn_lock.specs.Plays.{StampDrawn, AllocDrawn, ThreadDrawn, NameChosen, TurnTaken, TakenAt, WaitMarked, TurnGiven, GivenAt, Extends, IsDesk, Carries}
use Rattle.atomic_table.specs.Seated.{TableId}
use Rattle.turn_lock.proofs.Numbers.{above_cases, equals_same, sum_up_to_beyond}
use Rattle.turn_lock.proofs.Sums.{sum_at}
use Rattle.turn_lock.proofs.Bounds.{clock_bound, alloc_bound, thread_bound}
use Rattle.turn_lock.proofs.Draws.{consistent_of, draws_stamp, draws_alloc, draws_thread, chooses}
use Rattle.turn_lock.proofs.Taking.{tells, takes_turn}
use Rattle.turn_lock.proofs.Waiting.{marks_turn}
use Rattle.turn_lock.proofs.Giving.{gives}

none_above : (limit : ℕ) (xs : List ℕ) → All (λ n. n ≤ limit) xs → sum_by (above limit) xs ≡ 0
none_above limit [] h = refl
none_above limit (x ∷ xs) h =
    let first : x ≤ limit = All-head (λ n. n ≤ limit) x xs h in
    let rest = none_above limit xs (All-tail (λ n. n ≤ limit) x xs h) in
    let here : above limit x ≡ 0 = ⊎_elim (λ t. t.1) (λ t. let a = t.0 in absurd (omega arith)) (above_cases limit x) in
    omega (arith, sum_by-cons (above limit) x xs)

next_number : (n : ℕ) → n < 2 ^ 63 → suc n ≡ (n + 1) % 2 ^ 64
next_number n lt = let small : n + 1 < 2 ^ 64 = omega arith in let a : suc n ≡ n + 1 = omega arith in a ∙ sym (mod-eq_of_lt small)

-- a number that stands among those from 1 to n is at most n
within_count : (m n : ℕ) → 1 ≤ sum_up_to (equals m) n → m < suc n
within_count m n counted = dite (dec_le m n) (λ le. omega arith) (λ over. let none = sum_up_to_beyond m n (omega arith) in absurd (omega arith))

listed : (xs : List ℕ) (k d : ℕ) → k < length xs → 1 ≤ sum_by (equals (get_or xs k d)) xs
listed xs k d lt = let a = get_or-le-sum_by (equals (get_or xs k d)) xs k d lt in let b = equals_same (get_or xs k d) in omega arith

module _ {X : Type 0} where
  some_is : (x y : X) → Some x ≡ Some y → x ≡ y
  some_is x y e = cc

  first_is : {k : ℕ} (x y : X) (c : List (ℕ × Option X)) → c ≡ (k, Some x) ∷ [] → c ≡ (k, Some y) ∷ rest c → Some x ≡ Some y
  first_is {k} x y c e d = ap (λ (l : List (ℕ × Option X)). (get_or l 0 (0, None)).1) (sym e ∙ d)

module _ {X : Type 0} (number : X → ℕ) (entries : X → List Entry) where
  abbrev Rule : State (Option X) View → Type 0
  Rule = RuleHolds number entries

  pub allows_stamp : (slots id : ℕ) (me : Me (Option X) View) → me.0.live ≡ true → All (λ n. n ≤ 4000000) me.0.stamps.own
      → Allows Rule slots id me 0 (λ n. (n + 1) % 2 ^ 64) (StampDrawn (step slots 0 1 0 none) me)
  allows_stamp slots id me live room s kept _ present _ =
      let n : ℕ = slice_index s.words 0 in
      let bound : n ≤ 4001024 = clock_bound s kept in
      let next : suc n ≡ (n + 1) % 2 ^ 64 = next_number n (omega arith) in
      let fits = consistent_of me.0 live (kept.each id me.0 present) in (
        drew_stamp me.0 (suc n),
        keeps,
        tt,
        subst (λ m. Rule record { words = set s.words 0 m; homes = s.homes; views = set s.views id (drew_stamp me.0 (suc n)) }) next (draws_stamp s kept id me.0 present live (none_above 4000000 _ room)),
        (refl, fits.seen, omega arith),
      )

  pub allows_alloc : (slots id : ℕ) (me : Me (Option X) View) → me.0.live ≡ true → All (λ n. n ≤ 65536) me.0.allocs.own
      → Allows Rule slots id me 1 (λ n. (n + 1) % 2 ^ 64) (AllocDrawn (step slots 1 1 0 none) me)
  allows_alloc slots id me live room s kept _ present _ =
      let n : ℕ = slice_index s.words 1 in
      let bound : n ≤ 66560 = alloc_bound s kept in
      let next : suc n ≡ (n + 1) % 2 ^ 64 = next_number n (omega arith) in
      let fits = consistent_of me.0 live (kept.each id me.0 present) in (
        drew_alloc me.0 (suc n),
        keeps,
        tt,
        subst (λ m. Rule record { words = set s.words 1 m; homes = s.homes; views = set s.views id (drew_alloc me.0 (suc n)) }) next (draws_alloc s kept id me.0 present live (none_above 65536 _ room)),
        (refl, (let a = kept.allocs (equals (suc n)) in let b = fits.made (suc n) in omega (arith, sum_at (alloc_weight (equals (suc n))) s.views id me.0 present, sum_up_to_beyond (suc n) n (omega arith))), omega arith),
      )

  pub allows_thread : (slots id : ℕ) (me : Me (Option X) View) → me.0.live ≡ true → All (λ n. n ≤ 1023) me.0.threads.own
      → Allows Rule slots id me 2 (λ n. (n + 1) % 2 ^ 64) (ThreadDrawn (step slots 2 1 0 none) me)
  allows_thread slots id me live room s kept _ present _ =
      let n : ℕ = slice_index s.words 2 in
      let bound : n ≤ 2047 = thread_bound s kept in
      let next : suc n ≡ (n + 1) % 2 ^ 64 = next_number n (omega arith) in
      let fits = consistent_of me.0 live (kept.each id me.0 present) in
      let counted : (m : ℕ) → 1 ≤ drawn (equals m) me.0.threads → m < suc n = λ m some. within_count m n (let a = kept.threads (equals m) in omega (arith, sum_at (thread_weight (equals m)) s.views id me.0 present)) in
      let inside_own : (k d : ℕ) → k < length me.0.threads.own → 1 ≤ drawn (equals (get_or me.0.threads.own k d)) me.0.threads = λ k d lt. let a = listed me.0.threads.own k d lt in omega arith in
      let inside_joined : (k d : ℕ) → k < length me.0.threads.joined → 1 ≤ drawn (equals (get_or me.0.threads.joined k d)) me.0.threads = λ k d lt. let a = listed me.0.threads.joined k d lt in omega arith in
      let unknown : sum_by (equals (suc n)) me.0.outs + sum_by (equals (suc n)) me.0.joined ≡ 0 =
      let a = kept.threads (equals (suc n)) in let b = fits.names (equals (suc n)) in omega (arith, sum_at (thread_weight (equals (suc n))) s.views id me.0 present, sum_up_to_beyond (suc n) n (omega arith)) in (
        drew_thread me.0 (suc n),
        keeps,
        tt,
        subst (λ m. Rule record { words = set s.words 2 m; homes = s.homes; views = set s.views id (drew_thread me.0 (suc n)) }) next (draws_thread s kept id me.0 present live (none_above 1023 _ room)),
        (refl, fits.name, (let a = unknown in omega arith), (let a = unknown in omega arith), (λ k d lt. counted _ (inside_own k d lt)), (λ k d lt. counted _ (inside_joined k d lt)), omega arith),
      )

  -- a step that finds another word than it expects changes nothing
  misses : (s : State (Option X) View) → Rule s → (i id : ℕ) (v : View) → get_elem? s.views id ≡ some v → Rule record { words = set s.words i (slice_index s.words i); homes = s.homes; views = set s.views id v }
  misses s kept i id v present = subst (λ (z : List ℕ × List View). Rule record { words = z.0; homes = s.homes; views = z.1 }) (λ j. (sym (set-get_or s.words i 0) j, sym (set_again s.views id v present) j)) kept

  -- a step that changes no word and no weight of the view
  pub allows_choice : (slots id : ℕ) (me : Me (Option X) View) (a : ℕ) → me.0.live ≡ true → Allows Rule slots id me 0 (λ n. either (eqb n a) a n) (NameChosen (step slots 0 a a none) me)
  allows_choice slots id me a live s kept _ present _ =
      let n : ℕ = slice_index s.words 0 in
      let same : n ≡ either (eqb n a) a n = exchanged n a a (λ m. n ≡ m) (λ e. e) (λ _. refl) in (
        chose me.0 a,
        keeps,
        tt,
        subst (λ m. Rule record { words = set s.words 0 m; homes = s.homes; views = set s.views id (chose me.0 a) }) same (chooses s kept id me.0 present live a),
        refl,
      )

  pub allows_take : (slots id k word : ℕ) (me : Me (Option X) View) → 1 ≤ word → word ≤ 2 → me.0.live ≡ true → me.0.turn ≡ None → k < slots
      → Allows Rule slots id me (place k) (λ n. either (eqb n 0) word n) (TurnTaken number entries (step slots (place k) 0 word none) me)
  allows_take slots id k word me positive small live idle inside s kept count present _ =
      let n : ℕ = slice_index s.words (place k) in
      let here : k < length s.homes = omega arith in
      let slot : k ≡ slot_at (place k) = sym (slot_of_place k) in
      let P : Bool → Type 0 = λ b. (w : View) × (a : Act (Option X)) × Valid s.homes me.1 a × Rule (stepped s (place k) (either b word n) id me.1 w a) × TakenAt number entries (slot_at (place k)) me n (w, carried_after me.1 a) in
      dite (ℕ_discrete n 0)
      (λ zero_is. let home = kept.home k here zero_is in
      subst P (sym (eq-eqb n 0 zero_is)) (
        took me.0 k (entries home.value),
        takes k (Some home.value),
        home.there,
        takes_turn s kept id me.0 present live k word positive small here zero_is idle home.value home.there home.history,
        subst (λ j. TakenAt number entries j me n (took me.0 k (entries home.value), (k, Some home.value) ∷ me.1)) slot
            ((λ _. (home.value, refl, home.numbered, tells s kept id me.0 present live k (entries home.value) home.history)), (λ ne. absurd (ne zero_is))),
      ))
      (λ ne. subst P (sym (ne_eqb n 0 ne)) (
        me.0,
        keeps,
        tt,
        misses s kept (place k) id me.0 present,
        ((λ e. absurd (ne e)), (λ _. refl)),
      ))

  pub allows_mark : (slots id k : ℕ) (me : Me (Option X) View) → k < slots → Allows Rule slots id me (place k) (λ n. either (eqb n 1) 2 n) (WaitMarked (step slots (place k) 1 2 none) me)
  allows_mark slots id k me inside s kept count present _ =
      let n : ℕ = slice_index s.words (place k) in
      let P : ℕ → Type 0 = λ m. (w : View) × (a : Act (Option X)) × Valid s.homes me.1 a × Rule (stepped s (place k) m id me.1 w a) × WaitMarked (step slots (place k) 1 2 none) me n (w, carried_after me.1 a) in
      exchanged n 1 2 P
      (λ held. (
        me.0,
        keeps,
        tt,
        subst (λ (views : List View). Rule record { words = set s.words (place k) 2; homes = s.homes; views = views }) (sym (set_again s.views id me.0 present)) (marks_turn s kept k (omega arith) held),
        refl,
      ))
      (λ _. (me.0, keeps, tt, misses s kept (place k) id me.0 present, refl))

  pub allows_give : (slots id k : ℕ) (me : Me (Option X) View) (t : HeldTurn) (x : X) → me.0.live ≡ true → me.0.turn ≡ Some t → t.slot ≡ k → me.1 ≡ (k, Some x) ∷ [] → number x ≡ suc k → Extends me.0 t (entries x)
      → Allows Rule slots id me (place k) (λ _. 0) (TurnGiven number entries (step slots (place k) 0 0 none) me)
  allows_give slots id k me t x live held where_is carried numbered extends s kept count present _ =
      let slot : k ≡ slot_at (place k) = sym (slot_of_place k) in
      let after : List (Slot X) = set s.homes k (some (Some x)) in
      let rule : Rule record { words = set s.words (place k) 0; homes = after; views = set s.views id (gave me.0 (entries x)) } =
      subst (λ j. Rule record { words = set s.words (place j) 0; homes = set s.homes j (some (Some x)); views = set s.views id (gave me.0 (entries x)) }) where_is
      (gives s kept id me.0 present live t held x (numbered ∙ ap suc (sym where_is)) extends) in (
        gave me.0 (entries x),
        gives_act,
        tt,
        subst (λ c. Rule record { words = set s.words (place k) 0; homes = put_back s.homes c; views = set s.views id (gave me.0 (entries x)) }) (sym carried) rule,
        subst (λ j. GivenAt number entries j me (gave me.0 (entries x), rest me.1)) slot
            (refl, λ y e. let same : Some x ≡ Some y = first_is x y me.1 carried e in ap (λ z. gave me.0 (entries z)) (some_is x y same)),
      )

  pub allows_split : (id : ℕ) (v w : View) (n : ℕ) → w ≡ chose v n → v.live ≡ true → v.turn ≡ None → Contains v.threads.own n → ¬ (Contains v.outs n) → ¬ (Contains v.joined n) → n ≤ 1023
      → Splits Rule id w (split_left w) (split_right w)
  allows_split id v w n chosen live idle drew not_out not_joined small = subst (λ (z : View). Splits Rule id z (split_left z) (split_right z)) (sym chosen) (splits id (chose v n) live idle drew not_out not_joined small)

  pub allows_give_back : (table : TableId) (slots id k n : ℕ) (before me : Me (Option X) View) (x : X) → me ≡ (before.0, (k, Some x) ∷ rest before.1) → IsDesk table before
      → ((t : HeldTurn) × (before.0.turn ≡ Some t) × (suc t.slot ≡ n) × Extends before.0 t (entries x)) → suc k ≡ n → number x ≡ n
      → Allows Rule slots id me (place k) (λ _. 0) (TurnGiven number entries (step slots (place k) 0 0 none) me)
  allows_give_back table slots id k n before me x exchanged_is desk turn slot numbered =
      let t : HeldTurn = turn.0 in
      let carry = subst (λ o. Carries table.slots o before.1) turn.1 desk.1 in
      let empty : rest before.1 ≡ [] = ap rest carry.0 in
      let same : t.slot ≡ k = let a = turn.2 in omega arith in
      let now : (before.0, (k, Some x) ∷ []) ≡ me = (λ i. (before.0, (k, Some x) ∷ sym empty i)) ∙ sym exchanged_is in
      subst (λ (m : Me (Option X) View). Allows Rule slots id m (place k) (λ _. 0) (TurnGiven number entries (step slots (place k) 0 0 none) m)) now
      (allows_give slots id k (before.0, (k, Some x) ∷ []) t x desk.0 turn.1 same refl (numbered ∙ sym slot) turn.3)

  -- the same, where the word is named by another term

  pub takes_at : (slots id k place_is word : ℕ) (me : Me (Option X) View) → place_is ≡ place k → 1 ≤ word → word ≤ 2 → me.0.live ≡ true → me.0.turn ≡ None → k < slots
      → Allows Rule slots id me place_is (λ n. either (eqb n 0) word n) (TurnTaken number entries (step slots place_is 0 word none) me)
  takes_at slots id k place_is word me same positive small live idle inside =
      subst (λ w. Allows Rule slots id me w (λ n. either (eqb n 0) word n) (TurnTaken number entries (step slots w 0 word none) me)) (sym same) (allows_take slots id k word me positive small live idle inside)

  pub marks_at : (slots id k place_is : ℕ) (me : Me (Option X) View) → place_is ≡ place k → k < slots → Allows Rule slots id me place_is (λ n. either (eqb n 1) 2 n) (WaitMarked (step slots place_is 1 2 none) me)
  marks_at slots id k place_is me same inside = subst (λ w. Allows Rule slots id me w (λ n. either (eqb n 1) 2 n) (WaitMarked (step slots w 1 2 none) me)) (sym same) (allows_mark slots id k me inside)

  pub gives_at : (table : TableId) (slots id k n place_is : ℕ) (before me : Me (Option X) View) (x : X) → place_is ≡ place k → me ≡ (before.0, (k, Some x) ∷ rest before.1) → IsDesk table before
      → ((t : HeldTurn) × (before.0.turn ≡ Some t) × (suc t.slot ≡ n) × Extends before.0 t (entries x)) → suc k ≡ n → number x ≡ n
      → Allows Rule slots id me place_is (λ _. 0) (TurnGiven number entries (step slots place_is 0 0 none) me)
  gives_at table slots id k n place_is before me x same exchanged_is desk turn slot numbered =
      subst (λ w. Allows Rule slots id me w (λ _. 0) (TurnGiven number entries (step slots w 0 0 none) me)) (sym same) (allows_give_back table slots id k n before me x exchanged_is desk turn slot numbered)
