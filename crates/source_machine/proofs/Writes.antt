-- The register of a name, found or missed, holds what the definitions say.
use Rattle.std.proofs.Common.{◌≡◌, ℕ, zero, suc, ◌+◌, ◌<◌, Bool, true, false, List, [], ◌∷◌, ◌++◌, Option, Some, None, length, refl, sym, ap, ◌∙◌, cond, find, set, get_or, subst, arith}
use Rattle.std.specs.Prelude.{not, position, if◌then◌else◌}
use Rattle.std.specs.List.{position_or_len}
use Rattle.std.specs.Str.{bytes_eq}
use denote.Ref.{Bor}
use Rattle.source_machine.proofs.Places.{found, missed}
use Rattle.history.specs.declared.ask.Arg.{Arg}
use Rattle.source_sem.specs.Env.{value_in, with_value}
use Rattle.thread_parts.specs.Words.{blank}
use Rattle.source_machine.specs.declared.registers.Register.{Register}
use Rattle.source_machine.specs.Registers.{env_of}

pub value_found : (name : List ℕ) (rs : List Register) (r : Register) → find (λ (x : Register). bytes_eq x.name.now name) rs ≡ Some r → r.value ≡ value_in (env_of rs) name
value_found name [] r is = absurd (cc)
value_found name (x ∷ xs) r is = by_test (bytes_eq x.name.now name) is (value_found name xs r)
  where
    by_test : (b : Bool) → cond b (Some x) (find (λ (y : Register). bytes_eq y.name.now name) xs) ≡ Some r
        → (find (λ (y : Register). bytes_eq y.name.now name) xs ≡ Some r → r.value ≡ value_in (env_of xs) name)
        → r.value ≡ (if b then x.value else value_in (env_of xs) name)
    by_test true here more = let same : r ≡ x = cc in ap (λ (y : Register). y.value) same
    by_test false here more = more here

pub value_missed : (name : List ℕ) (rs : List Register) → find (λ (x : Register). bytes_eq x.name.now name) rs ≡ None → blank ≡ value_in (env_of rs) name
value_missed name [] is = refl
value_missed name (x ∷ xs) is = by_test (bytes_eq x.name.now name) is (value_missed name xs)
  where
    by_test : (b : Bool) → cond b (Some x) (find (λ (y : Register). bytes_eq y.name.now name) xs) ≡ None
        → (find (λ (y : Register). bytes_eq y.name.now name) xs ≡ None → blank ≡ value_in (env_of xs) name)
        → blank ≡ (if b then x.value else value_in (env_of xs) name)
    by_test true here more = absurd (cc)
    by_test false here more = more here

pub ruleset value_steps = (value_found, value_missed)

-- a write at the first register of the name
over_first : (name : List ℕ) (rs : List Register) (r : Register) (value : Arg) → position_or_len (λ (x : Register). bytes_eq x.name.now name) rs < length rs → r.name ≡ (get_or rs (position_or_len (λ (x : Register). bytes_eq x.name.now name) rs) r).name
    → env_of (set rs (position_or_len (λ (x : Register). bytes_eq x.name.now name) rs) (record { name = r.name; value = value })) ≡ with_value name value (env_of rs)
over_first name [] r value less same = absurd (omega (arith, less))
over_first name (x ∷ xs) r value less same = by_test (bytes_eq x.name.now name) (position_or_len (λ (y : Register). bytes_eq y.name.now name) xs) less same (over_first name xs r value)
  where
    by_test : (b : Bool) (m : ℕ) → cond (not b) (1 + m) 0 < suc (length xs) → r.name ≡ (get_or (x ∷ xs) (cond (not b) (1 + m) 0) r).name
        → (m < length xs → r.name ≡ (get_or xs m r).name → env_of (set xs m (record { name = r.name; value = value })) ≡ with_value name value (env_of xs))
        → env_of (set (x ∷ xs) (cond (not b) (1 + m) 0) (record { name = r.name; value = value })) ≡ (if b then (x.name.now, value) ∷ env_of xs else (x.name.now, x.value) ∷ with_value name value (env_of xs))
    by_test true m lt is more = ap (λ (n : Bor (List ℕ)). (n.now, value) ∷ env_of xs) is
    by_test false m lt is more =
        let next : 1 + m ≡ suc m = omega arith in
        let e : r.name ≡ (get_or xs m r).name = is ∙ ap (λ (k : ℕ). (get_or (x ∷ xs) k r).name) next in
        ap (λ (k : ℕ). env_of (set (x ∷ xs) k (record { name = r.name; value = value }))) next ∙ ap (λ (z : List (List ℕ × Arg)). (x.name.now, x.value) ∷ z) (more (omega (arith, lt)) e)

pub written_here : (name : List ℕ) (rs : List Register) (place : ℕ) (r : Register) (value : Arg) → position (λ (x : Register). bytes_eq x.name.now name) rs ≡ Some place → place < length rs → r.name ≡ (get_or rs place r).name
    → env_of (set rs place (record { name = r.name; value = value })) ≡ with_value name value (env_of rs)
written_here name rs place r value is less same =
    let first : place ≡ position_or_len (λ (x : Register). bytes_eq x.name.now name) rs = found (λ (x : Register). bytes_eq x.name.now name) rs place is in
    ap (λ (k : ℕ). env_of (set rs k (record { name = r.name; value = value }))) first
    ∙ over_first name rs r value (subst (λ (k : ℕ). k < length rs) first less) (subst (λ (k : ℕ). r.name ≡ (get_or rs k r).name) first same)

-- a write of a name that isn't there
behind_all : (name : List ℕ) (n : Bor (List ℕ)) (rs : List Register) (value : Arg) → n.now ≡ name → position_or_len (λ (x : Register). bytes_eq x.name.now name) rs ≡ length rs
    → env_of (rs ++ record { name = n; value = value } ∷ []) ≡ with_value name value (env_of rs)
behind_all name n [] value e is = ap (λ (z : List ℕ). (z, value) ∷ []) e
behind_all name n (x ∷ xs) value e is = by_test (bytes_eq x.name.now name) (position_or_len (λ (y : Register). bytes_eq y.name.now name) xs) is (behind_all name n xs value e)
  where
    by_test : (b : Bool) (m : ℕ) → cond (not b) (1 + m) 0 ≡ suc (length xs) → (m ≡ length xs → env_of (xs ++ record { name = n; value = value } ∷ []) ≡ with_value name value (env_of xs))
        → (x.name.now, x.value) ∷ env_of (xs ++ record { name = n; value = value } ∷ []) ≡ (if b then (x.name.now, value) ∷ env_of xs else (x.name.now, x.value) ∷ with_value name value (env_of xs))
    by_test true m h more = absurd (omega (arith, h))
    by_test false m h more = ap (λ (z : List (List ℕ × Arg)). (x.name.now, x.value) ∷ z) (more (omega (arith, h)))

pub written_behind : (rs : List Register) (r : Register) → position (λ (x : Register). bytes_eq x.name.now r.name.now) rs ≡ None → env_of (rs ++ r ∷ []) ≡ with_value r.name.now r.value (env_of rs)
written_behind rs r is = behind_all r.name.now r.name rs r.value refl (missed (λ (x : Register). bytes_eq x.name.now r.name.now) rs is)

pub ruleset write_steps = (written_here, written_behind)
