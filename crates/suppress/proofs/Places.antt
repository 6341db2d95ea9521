-- What the code of places finds.
use Rattle.std.proofs.Common.{◌≡◌, ℕ, zero, suc, ◌+◌, ◌-◌, ◌*◌, ◌<◌, ◌≤◌, ◌&&◌, ◌==◌, Bool, true, false, List, [], ◌∷◌, ◌++◌, length, get_or, take, drop, Option, Some, None, IfSome, IfNone, MatchOption, Bor, refl, sym, ap, ◌∙◌, subst, arith, lit≤, rules}
use Rattle.std.specs.Prelude.{codes, slice_get, if◌then◌else◌, ◌≢◌}
use Rattle.std.specs.List.{list_all, sum_by}
use Rattle.std.specs.Str.{bytes_eq}
use Rattle.std.specs.Str.Parse.{digits_value}
use Rattle.std.specs.Char.{digit_value}
use Rattle.std.proofs.lemmas.Str.{digit_value_digit}
use Rattle.std.proofs.lemmas.Str.Parse.{IsNumeralModel, numerals_by_value, digits_value_short, digits_value-take-le}
use Rattle.std.proofs.lemmas.Int.Digits.{digits_value_more}
use Rattle.std.proofs.lemmas.List.{drop_more, drop_all}
use Rattle.std.proofs.lemmas.Bool.Decides.{nat_tests}
use Rattle.std.proofs.lemmas.List.Sums.{sum_by-cons}
use Rattle.bsan_ids.specs.Names.{is_digit}
use Rattle.ir_ast.specs.Lines.{block_instructions}
use Rattle.ir_ast.specs.Numbers.{blocks_end, function_place, number_of_function}
use Rattle.ir_ast.specs.Programs.{function_instructions}
use Rattle.ir_ast.specs.Tokens.{Each}
use Rattle.ir_ast.specs.Writable.{IsName}
use Rattle.ir_ast.specs.declared.program.Block.{Block}
use Rattle.ir_ast.specs.declared.program.Function.{Function}
use Rattle.suppress.specs.declared.place.Sites.{Sites}
use Rattle.suppress.specs.Lines.{IsPlace, IsSite, NamesSites, NamesRule, cause_word, function_sites, sites_from}
use Rattle.suppress.specs.declared.case.Cause.{Cause}
use Rattle.suppress.specs.declared.rules.Rule.{Rule}
use Rattle.std.specs.Option.{option_map}
use Rattle.suppress.specs.Lines.Place.{Everywhere, At, In}
use Rattle.suppress.proofs.Texts.{one_place}

-- ---- a prefix

pub stripped : (o : Option (Bor (List ℕ))) (text word : List ℕ) → MatchOption o ((rest : List ℕ) → text ≢ word ++ rest) (λ x. text ≡ word ++ x.now)
    → IfSome o (λ x. text ≡ word ++ x.now) × IfNone o ((rest : List ℕ) → text ≡ word ++ rest → ⊥)
stripped None text word h = (tt, h)
stripped (Some x) text word h = (h, tt)

pub nonempty : (text : List ℕ) (r : Bool) → r ≡ (length text == 0) → r ≡ false → text ≢ []
nonempty text r is empty e = let f : false ≡ true = sym empty ∙ is ∙ ap (λ (xs : List ℕ). length xs == 0) e in absurd cc

-- ---- numbers

own : IsNumeralModel (λ ds. list_all is_digit ds ≡ true) (digits_value 10)
own = numerals_by_value _ (search rules)

pub digit_at : (ds : List ℕ) (i : ℕ) → list_all is_digit ds ≡ true → i < length ds → is_digit (get_or ds i 0) ≡ true
digit_at [] i h lt = absurd (omega arith)
digit_at (d ∷ ds) zero h lt = by_test (is_digit d) refl h
  where
    by_test : (b : Bool) → is_digit d ≡ b → (b && list_all is_digit ds) ≡ true → is_digit d ≡ true
    by_test true is all = is
    by_test false is all = absurd cc
digit_at (d ∷ ds) (suc i) h lt = by_test (is_digit d) h (λ all. digit_at ds i all (omega arith))
  where
    by_test : (b : Bool) → (b && list_all is_digit ds) ≡ true → (list_all is_digit ds ≡ true → is_digit (get_or ds i 0) ≡ true) → is_digit (get_or ds i 0) ≡ true
    by_test true all more = more all
    by_test false all more = absurd cc

-- one digit more of a number
pub record NumberStep (ds : List ℕ) (i n b : ℕ) : Type 0 where
  pub low : 48 ≤ b
  pub small : n * 10 + (b - 48) < 100000
  pub next : n * 10 + (b - 48) ≡ digits_value 10 (take (i + 1) ds)

within_digits : (b : ℕ) → is_digit b ≡ true → (48 ≤ b) × (b ≤ 57)
within_digits b h = grind (arith, nat_tests)

pub number_step : (ds : List ℕ) (i n b : ℕ) → list_all is_digit ds ≡ true → length ds ≤ 5 → i < length ds → b ≡ get_or ds i 0 → n ≡ digits_value 10 (take i ds) → NumberStep ds i n b
number_step ds i n b h few lt at is =
    let range : (48 ≤ get_or ds i 0) × (get_or ds i 0 ≤ 57) = within_digits (get_or ds i 0) (digit_at ds i h lt) in
    let value : digit_value (get_or ds i 0) + 48 ≡ get_or ds i 0 = digit_value_digit (get_or ds i 0) range in
    let more : digits_value 10 (take (i + 1) ds) ≡ digits_value 10 (take i ds) * 10 + digit_value (get_or ds i 0) = digits_value_more 10 ds i lt in
    let part : digits_value 10 (take (i + 1) ds) ≤ digits_value 10 ds = digits_value-take-le 10 ds (i + 1) (lit≤ tt) in
    let whole : digits_value 10 ds < 100000 = digits_value_short own ds 5 h few in
    record { low = omega (arith, range.0); small = omega (arith, range.0); next = omega (arith, range.0) }

-- ---- functions

each_get : {A : Type 0} (P : A → Type 0) (xs : List A) (i : ℕ) (d : A) → Each P xs → i < length xs → P (get_or xs i d)
each_get P [] i d h lt = absurd (omega arith)
each_get P (x ∷ xs) zero d h lt = h.0
each_get P (x ∷ xs) (suc i) d h lt = each_get P xs i d h.1 (omega arith)

blocks_sum : (n : ℕ) (bs : List Block) → blocks_end n bs ≡ n + sum_by block_instructions bs
blocks_sum n [] = omega arith
blocks_sum n (b ∷ bs) =
    let sum : sum_by block_instructions (b ∷ bs) ≡ block_instructions b + sum_by block_instructions bs = sum_by-cons block_instructions b bs in
    let more : blocks_end (n + block_instructions b) bs ≡ n + block_instructions b + sum_by block_instructions bs = blocks_sum (n + block_instructions b) bs in omega (arith, sum, more)

some_instruction : (bs : List Block) → 0 < length bs → 1 ≤ sum_by block_instructions bs
some_instruction [] h = absurd (omega arith)
some_instruction (b ∷ bs) h = let sum : sum_by block_instructions (b ∷ bs) ≡ block_instructions b + sum_by block_instructions bs = sum_by-cons block_instructions b bs in omega (arith, sum)

-- the search from a function on, of which the first instruction has this number
abbrev pub sought : ℕ → List Function → List ℕ → Option Sites
sought first [] name = None
sought first (f ∷ fs) name =
    if bytes_eq f.name.name name then Some (record { first = first; last = first + function_instructions f - 1 }) else sought (first + function_instructions f) fs name

sought_is : (first : ℕ) (fs : List Function) (name : List ℕ) → sought first fs name ≡ sites_from (number_of_function first fs (function_place fs name)) (slice_get fs (function_place fs name))
sought_is first [] name = refl
sought_is first (f ∷ fs) name = by_test (bytes_eq f.name.name name) (subst (λ (n : ℕ). sought n fs name ≡ sites_from (number_of_function (blocks_end first f.blocks) fs (function_place fs name)) (slice_get fs (function_place fs name))) (blocks_sum first f.blocks) (sought_is (blocks_end first f.blocks) fs name))
  where
    by_test : (b : Bool) → sought (first + function_instructions f) fs name ≡ sites_from (number_of_function (blocks_end first f.blocks) fs (function_place fs name)) (slice_get fs (function_place fs name))
        → (if b then Some (record { first = first; last = first + function_instructions f - 1 }) else sought (first + function_instructions f) fs name)
        ≡ sites_from (number_of_function first (f ∷ fs) (if b then 0 else suc (function_place fs name))) (slice_get (f ∷ fs) (if b then 0 else suc (function_place fs name)))
    by_test true h = refl
    by_test false h = h

pub sought_all : (fs : List Function) (name : List ℕ) → sought 0 fs name ≡ function_sites fs name
sought_all fs name = sought_is 0 fs name

-- how far a search has come
pub record Seeks (fs : List Function) (name : List ℕ) (i first : ℕ) : Type 0 where
  pub found : sought first (drop i fs) name ≡ sought 0 fs name
  pub sum : first + sum_by function_instructions (drop i fs) ≡ sum_by function_instructions fs

-- at a function
pub record AtFunction (fs : List Function) (name : List ℕ) (i first : ℕ) (f : Function) : Type 0 where
  pub room : first + function_instructions f ≤ sum_by function_instructions fs
  pub hit : bytes_eq f.name.name name ≡ true → Some (record { first = first; last = first + function_instructions f - 1 }) ≡ function_sites fs name
  pub miss : bytes_eq f.name.name name ≡ false → Seeks fs name (i + 1) (first + function_instructions f)

pub at_function : (fs : List Function) (name : List ℕ) (i first : ℕ) (f : Function) → i < length fs → f ≡ get_or fs i f → Seeks fs name i first → AtFunction fs name i first f
at_function fs name i first f lt is h =
    let cut : drop i fs ≡ f ∷ drop (i + 1) fs = drop_more fs i f lt ∙ ap (λ (g : Function). g ∷ drop (i + 1) fs) (sym is) in
    let found : sought first (f ∷ drop (i + 1) fs) name ≡ sought 0 fs name = subst (λ (gs : List Function). sought first gs name ≡ sought 0 fs name) cut h.found in
    let sum : first + sum_by function_instructions (f ∷ drop (i + 1) fs) ≡ sum_by function_instructions fs = subst (λ (gs : List Function). first + sum_by function_instructions gs ≡ sum_by function_instructions fs) cut h.sum in
    let cons : sum_by function_instructions (f ∷ drop (i + 1) fs) ≡ function_instructions f + sum_by function_instructions (drop (i + 1) fs) = sum_by-cons function_instructions f (drop (i + 1) fs) in
    record {
      room = omega (arith, sum, cons);
      hit = λ yes. subst (λ (b : Bool). (if b then Some (record { first = first; last = first + function_instructions f - 1 }) else sought (first + function_instructions f) (drop (i + 1) fs) name) ≡ sought 0 fs name) yes found ∙ sought_all fs name;
      miss = λ no. record {
        found = subst (λ (b : Bool). (if b then Some (record { first = first; last = first + function_instructions f - 1 }) else sought (first + function_instructions f) (drop (i + 1) fs) name) ≡ sought 0 fs name) no found;
        sum = omega (arith, sum, cons);
      };
    }

pub some_here : (fs : List Function) (i : ℕ) (f : Function) → Each (λ (g : Function). 0 < length g.blocks) fs → i < length fs → f ≡ get_or fs i f → 1 ≤ function_instructions f
some_here fs i f h lt is = some_instruction f.blocks (subst (λ (g : Function). 0 < length g.blocks) (sym is) (each_get (λ (g : Function). 0 < length g.blocks) fs i f h lt))

pub none_left : (fs : List Function) (name : List ℕ) (i first : ℕ) → length fs ≤ i → Seeks fs name i first → None ≡ function_sites fs name
none_left fs name i first le h = sym (ap (λ (gs : List Function). sought first gs name) (drop_all i fs le)) ∙ h.found ∙ sought_all fs name

-- ---- rules

pub rule_written : (fs : List Function) (line text place : List ℕ) (cause : Option Cause) (sites : Option Sites) (rule : Option Rule)
    → line ≡ codes "hold " ++ text → text ≡ cause_word cause ++ place → NamesSites fs place (Some sites)
    → rule ≡ option_map (λ (s : Sites). record { cause = cause; first = s.first; last = s.last }) sites → NamesRule fs line (Some rule)
rule_written fs line text place cause sites rule is begins (p, named, is_place, found) made = (
  record { cause = cause; place = p },
  record { text = is ∙ ap (λ (t : List ℕ). codes "hold " ++ t) (begins ∙ ap (λ (t : List ℕ). cause_word cause ++ t) named); place = is_place },
  made ∙ ap (option_map (λ (s : Sites). record { cause = cause; first = s.first; last = s.last })) found,
)

-- ---- places

pub at_empty : (fs : List Function) (text : List ℕ) → text ≡ [] → NamesSites fs text (Some (Some (record { first = 0; last = 4294967295 })))
at_empty fs text is = (Everywhere, is, tt, refl)

pub at_site : (fs : List Function) (text digits : List ℕ) (site : ℕ) → text ≡ codes " at " ++ digits → IsSite digits → site ≡ digits_value 10 digits → NamesSites fs text (Some (Some (record { first = site; last = site })))
at_site fs text digits site is h value = (At digits, is, h, ap (λ (n : ℕ). Some (record { first = n; last = n })) value)

pub no_site : (fs : List Function) (text digits : List ℕ) → text ≡ codes " at " ++ digits → (IsSite digits → ⊥) → NamesSites fs text None
no_site fs text digits is none place h k = none (subst IsPlace (sym (one_place (At digits) place (sym is ∙ k))) h)

pub in_function : (fs : List Function) (text name : List ℕ) (sites : Option Sites) → text ≡ codes " in @" ++ name → IsName name → sites ≡ function_sites fs name → NamesSites fs text (Some sites)
in_function fs text name sites is h found = (In name, is, h, found)

pub no_name : (fs : List Function) (text name : List ℕ) → text ≡ codes " in @" ++ name → (IsName name → ⊥) → NamesSites fs text None
no_name fs text name is none place h k = none (subst IsPlace (sym (one_place (In name) place (sym is ∙ k))) h)

pub no_place_at : (fs : List Function) (text : List ℕ) → text ≢ [] → ((rest : List ℕ) → text ≡ codes " at " ++ rest → ⊥) → ((rest : List ℕ) → text ≡ codes " in @" ++ rest → ⊥) → NamesSites fs text None
no_place_at fs text some at_none in_none Everywhere h k = some k
no_place_at fs text some at_none in_none (At digits) h k = at_none digits k
no_place_at fs text some at_none in_none (In name) h k = in_none name k
