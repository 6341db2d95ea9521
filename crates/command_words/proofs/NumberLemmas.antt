-- What is read as a number, and as the numbers of a schedule.
use Rattle.std.proofs.Common.{◌≡◌, ◌≢◌, ◌∙◌, ◌≤◌, ◌<◌, ◌^◌, ◌++◌, ◌&&◌, ◌⊎◌, ◌==◌, ℕ, Bool, true, false, cond, List, [], ◌∷◌, length, map, Option, Some, None, Result, Ok, Err, option_map, refl, sym, ap, subst, inl, inr, arith, slice_index, nat_lt, nat_le, append_assoc, lt-ltb, ltb-true, ◌+◌}
use Rattle.std.specs.List.{before_first, after_first, position_or_len}
use Rattle.std.specs.Str.{all_ascii_digits}
use Rattle.std.specs.Str.Parse.{digits_value, ParsesUnsigned}
use Rattle.std.proofs.lemmas.Bool.{le-leb, leb-true}
use Rattle.std.proofs.lemmas.Str.Parse.{IsNumeralModel, numerals_by_value, tells_all_ascii_digits, parse_plain}
use Rattle.std.proofs.lemmas.List.{append-nil, length-append}
use Rattle.std.proofs.lemmas.List.Splits.{slice_split_first, slice_split_none}
use Rattle.std.proofs.lemmas.List.Sums.{fails_before_first}
use Rattle.clap.specs.Words.{Text}
use Rattle.command_words.specs.Numbers.{number_in}
use Rattle.command_words.specs.Schedules.{pick_of, cons_some, all_some, at_most, picks_of, schedule_of}

own : IsNumeralModel (λ ds. all_ascii_digits ds ≡ true) (digits_value 10)
own = numerals_by_value (λ ds. all_ascii_digits ds ≡ true) tells_all_ascii_digits

pub number_read : {E : Type 0} (digits least most n : ℕ) (text : Text) (r : Result ℕ E) → r ≡ Ok n → ParsesUnsigned 64 10 text r → slice_index text 0 ≢ 43
    → length text ≤ digits → least ≤ n → n ≤ most → Some n ≡ number_in digits least most text
number_read {E} digits least most n text r is parses plain short above below =
    let got = parse_plain own {E = E} 64 text (Ok n) (subst (λ (q : Result ℕ E). ParsesUnsigned 64 10 text q) is parses) plain in
    let value : n ≡ digits_value 10 text = got.1 in
    let some : nat_lt 0 (length text) ≡ true = lt-ltb 0 (length text) got.0.1 in
    let few : nat_le (length text) digits ≡ true = le-leb (length text) digits short in
    let all : all_ascii_digits text ≡ true = got.0.0 in
    let low : nat_le least (digits_value 10 text) ≡ true = le-leb least (digits_value 10 text) (subst (λ (v : ℕ). least ≤ v) value above) in
    let high : nat_le (digits_value 10 text) most ≡ true = le-leb (digits_value 10 text) most (subst (λ (v : ℕ). v ≤ most) value below) in
    rw (some, few, all, low, high) (ap (λ (v : ℕ). Some v) value)

pub number_refused : {E : Type 0} (digits least most : ℕ) (text : Text) (e : E) (r : Result ℕ E) → r ≡ Err e → ParsesUnsigned 64 10 text r → slice_index text 0 ≢ 43
    → most < 2 ^ 64 → None ≡ number_in digits least most text
number_refused {E} digits least most text e r is parses plain small =
    by_test (nat_lt 0 (length text)) (nat_le (length text) digits) (all_ascii_digits text) (nat_le least (digits_value 10 text)) (nat_le (digits_value 10 text) most)
    (digits_value 10 text) (λ some all high. got (all, ltb-true 0 (length text) some, (let h = leb-true (digits_value 10 text) most high in omega (arith, h, small))))
  where
    got : (all_ascii_digits text ≡ true) × (0 < length text) × (digits_value 10 text < 2 ^ 64) → ⊥
    got = parse_plain own {E = E} 64 text (Err e) (subst (λ (q : Result ℕ E). ParsesUnsigned 64 10 text q) is parses) plain

    by_test : (some few all low high : Bool) (v : ℕ) → (some ≡ true → all ≡ true → high ≡ true → ⊥)
        → None ≡ cond ((some && few && all) && (low && high)) (Some v) None
    by_test false few all low high v bad = refl
    by_test true false all low high v bad = refl
    by_test true true false low high v bad = refl
    by_test true true true false high v bad = refl
    by_test true true true true false v bad = refl
    by_test true true true true true v bad = absurd (bad refl refl refl)

-- ---- schedules
abbrev pub after : List ℕ → Option (List ℕ) → Option (List ℕ)
after numbers None = None
after numbers (Some more) = Some (numbers ++ more)

abbrev pub appended : List ℕ → Option ℕ → Option (List ℕ)
appended numbers n = option_map (λ m. numbers ++ m ∷ []) n

pub before_all : (text : Text) → after [] (picks_of text) ≡ picks_of text
before_all text = by_case (picks_of text)
  where
    by_case : (o : Option (List ℕ)) → after [] o ≡ o
    by_case None = refl
    by_case (Some xs) = refl

pub one_more : (numbers new : List ℕ) (first : Option ℕ) (rest : Option (List ℕ)) → appended numbers first ≡ Some new
    → after numbers (cons_some first rest) ≡ after new rest
one_more numbers new None rest is = absurd cc
one_more numbers new (Some n) None is = refl
one_more numbers new (Some n) (Some more) is =
    let new_is : numbers ++ n ∷ [] ≡ new = cc in
    ap (λ (xs : List ℕ). Some xs) (sym (append_assoc numbers (n ∷ []) more) ∙ ap (λ (xs : List ℕ). xs ++ more) new_is)

-- the schedule is refused where the next number is none, or where it is one too many
refuse : (numbers : List ℕ) (first : Option ℕ) (rest : Option (List ℕ)) → (first ≡ None) ⊎ (65536 ≤ length numbers)
    → at_most 65536 (after numbers (cons_some first rest)) ≡ None
refuse numbers None rest why = refl
refuse numbers (Some n) None why = refl
refuse numbers (Some n) (Some more) (inl none) = absurd cc
refuse numbers (Some n) (Some more) (inr full) =
    let long : length (numbers ++ n ∷ more) ≡ length numbers + length (n ∷ more) = length-append numbers (n ∷ more) in
    let over : nat_le (length (numbers ++ n ∷ more)) 65536 ≡ false = over_limit (length (numbers ++ n ∷ more)) (omega (arith, long, full)) in
    rw over refl
  where
    over_limit : (k : ℕ) → 65536 < k → nat_le k 65536 ≡ false
    over_limit k lt = grind arith

-- ---- the part of a schedule before a comma, or the last one
pub first_part : (rest first more : Text) → position_or_len (λ b. b == 44) rest < length rest → first ≡ before_first (λ b. b == 44) rest
    → more ≡ after_first (λ b. b == 44) rest → picks_of rest ≡ cons_some (pick_of first) (picks_of more)
first_part rest first more lt first_is more_is =
    ap (λ (parts : List Text). all_some (map pick_of parts)) (slice_split_first (λ b. b == 44) rest 0 lt)
    ∙ ap (λ (t : Text). cons_some (pick_of t) (picks_of (after_first (λ b. b == 44) rest))) (sym first_is)
    ∙ ap (λ (t : Text). cons_some (pick_of first) (picks_of t)) (sym more_is)

pub last_part : (rest : Text) → position_or_len (λ b. b == 44) rest ≡ length rest → picks_of rest ≡ cons_some (pick_of rest) (Some [])
last_part rest whole =
    ap (λ (parts : List Text). all_some (map pick_of parts)) (slice_split_none (λ b. b == 44) rest
    (λ k d lt. fails_before_first (λ b. b == 44) rest k d (omega (arith, whole, lt))))

pub refused_schedule : (text : Text) (numbers : List ℕ) (first : Option ℕ) (rest : Option (List ℕ)) → after numbers (cons_some first rest) ≡ picks_of text
    → (first ≡ None) ⊎ (65536 ≤ length numbers) → schedule_of text ≡ None
unfolding schedule_of
refused_schedule text numbers first rest is why = ap (at_most 65536) (sym is) ∙ refuse numbers first rest why

pub whole_schedule : (text : Text) (numbers new : List ℕ) (first : Option ℕ) → after numbers (cons_some first (Some [])) ≡ picks_of text
    → appended numbers first ≡ Some new → length numbers < 65536 → schedule_of text ≡ Some new
unfolding schedule_of
whole_schedule text numbers new first is added room =
    let all : picks_of text ≡ Some (new ++ []) = sym is ∙ one_more numbers new first (Some []) added in
    let bare : new ++ [] ≡ new = append-nil new in
    let length_is : length new ≡ length numbers + 1 = one_longer first added in
    let small : nat_le (length new) 65536 ≡ true = le-leb (length new) 65536 (omega (arith, length_is, room)) in
    ap (at_most 65536) (all ∙ ap (λ (xs : List ℕ). Some xs) bare) ∙ (rw small refl)
  where
    one_longer : (o : Option ℕ) → appended numbers o ≡ Some new → length new ≡ length numbers + 1
    one_longer None e = absurd cc
    one_longer (Some n) e =
        let new_is : numbers ++ n ∷ [] ≡ new = cc in
        ap (length {A = ℕ}) (sym new_is) ∙ length-append numbers (n ∷ [])
