-- What the registers hold after a write.
use Rattle.std.proofs.Common.{◌≡◌, ℕ, List, [], ◌∷◌, Bool, true, false, refl, sym, ap, ◌∙◌, if◌then◌else◌}
use Rattle.std.specs.Str.{bytes_eq}
use Rattle.std.proofs.lemmas.Slice.Eq.{bytes_eq-Decides}
use Rattle.history.specs.declared.ask.Arg.{Arg}
use Rattle.source_sem.specs.Env.{Env, value_in, with_value}
use Rattle.source_sem.specs.Joining.{is_bound}

pub same_name : (q r : List ℕ) → bytes_eq q r ≡ true → q ≡ r
same_name q r e = (bytes_eq-Decides q r).0 e

-- two tests on a name that differs from the first
apart : (n r q : List ℕ) → bytes_eq n r ≡ false → bytes_eq n q ≡ true → bytes_eq r q ≡ false
apart n r q differ same = by_test (bytes_eq r q) refl
  where
    by_test : (b : Bool) → bytes_eq r q ≡ b → bytes_eq r q ≡ false
    by_test false e = e
    by_test true e =
        let one : r ≡ q = same_name r q e in
        let two : n ≡ q = same_name n q same in
        let three : n ≡ r = two ∙ sym one in
        let four : bytes_eq n r ≡ true = (bytes_eq-Decides n r).1 three in
        let five : true ≡ false = sym four ∙ differ in cc

-- the written register, and else what was there
pub value_in-with_value : (env : Env) (r : List ℕ) (x : Arg) (q : List ℕ) → value_in (with_value r x env) q ≡ (if bytes_eq r q then x else value_in env q)
value_in-with_value [] r x q = refl
value_in-with_value (e ∷ env) r x q = by_name (bytes_eq e.0 r) refl (value_in-with_value env r x q)
  where
    under : (b : Bool) (c : Bool) → bytes_eq e.0 q ≡ c → bytes_eq r q ≡ b → (c ≡ true → b ≡ false) → (if c then e.1 else (if b then x else value_in env q)) ≡ (if b then x else (if c then e.1 else value_in env q))
    under true true one two never = let clash : true ≡ false = never refl in cc
    under true false one two never = refl
    under false c one two never = refl

    over : (b : Bool) → bytes_eq r q ≡ b → (if b then x else value_in env q) ≡ (if b then x else (if b then e.1 else value_in env q))
    over true same = refl
    over false same = refl

    by_name : (b : Bool) → bytes_eq e.0 r ≡ b → value_in (with_value r x env) q ≡ (if bytes_eq r q then x else value_in env q) → value_in (if b then (e.0, x) ∷ env else e ∷ with_value r x env) q ≡ (if bytes_eq r q then x else (if bytes_eq e.0 q then e.1 else value_in env q))
    by_name true is rest =
        let one : e.0 ≡ r = same_name e.0 r is in
        ap (λ (z : List ℕ). if bytes_eq z q then x else value_in env q) one ∙ over (bytes_eq r q) refl ∙ ap (λ (z : List ℕ). if bytes_eq r q then x else (if bytes_eq z q then e.1 else value_in env q)) (sym one)
    by_name false is rest =
        ap (λ (z : Arg). if bytes_eq e.0 q then e.1 else z) rest
        ∙ under (bytes_eq r q) (bytes_eq e.0 q) refl refl (apart e.0 r q is)

pub is_bound-with_value : (env : Env) (r : List ℕ) (x : Arg) (q : List ℕ) → is_bound (with_value r x env) q ≡ (if bytes_eq r q then true else is_bound env q)
is_bound-with_value [] r x q = refl
is_bound-with_value (e ∷ env) r x q = by_name (bytes_eq e.0 r) refl (is_bound-with_value env r x q)
  where
    under : (b c : Bool) → (if c then true else (if b then true else is_bound env q)) ≡ (if b then true else (if c then true else is_bound env q))
    under true true = refl
    under true false = refl
    under false c = refl

    over : (b : Bool) → (if b then true else is_bound env q) ≡ (if b then true else (if b then true else is_bound env q))
    over true = refl
    over false = refl

    by_name : (b : Bool) → bytes_eq e.0 r ≡ b → is_bound (with_value r x env) q ≡ (if bytes_eq r q then true else is_bound env q) → is_bound (if b then (e.0, x) ∷ env else e ∷ with_value r x env) q ≡ (if bytes_eq r q then true else (if bytes_eq e.0 q then true else is_bound env q))
    by_name true is rest =
        let one : e.0 ≡ r = same_name e.0 r is in
        ap (λ (z : List ℕ). if bytes_eq z q then true else is_bound env q) one ∙ over (bytes_eq r q) ∙ ap (λ (z : List ℕ). if bytes_eq r q then true else (if bytes_eq z q then true else is_bound env q)) (sym one)
    by_name false is rest =
        ap (λ (z : Bool). if bytes_eq e.0 q then true else z) rest
        ∙ under (bytes_eq r q) (bytes_eq e.0 q)
