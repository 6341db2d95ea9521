-- Types are equal or not, and names are found where they stand.
use Rattle.std.proofs.Common.{◌≡◌, ℕ, zero, suc, ◌⊎◌, inl, inr, List, [], ◌∷◌, Option, Some, None, Bool, true, false, if◌then◌else◌, refl, sym, ap, ◌∙◌}
use Rattle.std.specs.Prelude.{slice_get}
use Rattle.std.specs.Str.{bytes_eq}
use Rattle.std.specs.Cmp.Lexicographic.{bytes_decides}
use Rattle.std.proofs.lemmas.Bool.{true≢false}
use Rattle.std.proofs.lemmas.Bool.Decides.{eqb_tells}
use Rattle.ir_ast.specs.declared.program.Block.{Block}
use Rattle.ir_ast.specs.declared.program.Function.{Function}
use Rattle.ir_ast.specs.declared.types.Ty.{Ty}
use Rattle.ir_ast.specs.declared.types.Ty.TheVariants.{Int, Ptr}
use Rattle.ir_ast.specs.declared.types.Width.TheVariants.{W8, W16, W32, W64}
use Rattle.ir_rules.specs.Rules.{function_named, block_named, host_named}
use Rattle.ir_ast.specs.Numbers.{place, function_place, block_place, host_names}
use Rattle.ir_ast.specs.declared.hosts.HostEntry.{HostEntry}

bytes_sym : (a b : List ℕ) → bytes_eq a b ≡ true → bytes_eq b a ≡ true
bytes_sym a b h = (bytes_decides b a).1 (sym ((bytes_decides a b).0 h))

abbrev pub Decided : {A : Type 0} → A → A → Type 0
Decided a b = (a ≡ b) ⊎ (a ≡ b → ⊥)

abbrev number_of : Ty → ℕ
number_of (Int W8) = 0
number_of (Int W16) = 1
number_of (Int W32) = 2
number_of (Int W64) = 3
number_of Ptr = 4

abbrev type_of : ℕ → Ty
type_of zero = Int W8
type_of (suc zero) = Int W16
type_of (suc (suc zero)) = Int W32
type_of (suc (suc (suc zero))) = Int W64
type_of (suc (suc (suc (suc n)))) = Ptr

type_back : (t : Ty) → type_of (number_of t) ≡ t
type_back (Int W8) = refl
type_back (Int W16) = refl
type_back (Int W32) = refl
type_back (Int W64) = refl
type_back Ptr = refl

pub type_decided : (a b : Ty) → Decided a b
type_decided a b = elim (eqb_tells (number_of a) (number_of b)) [
  | inl hit ↦ inl (sym (type_back a) ∙ ap type_of hit.1 ∙ type_back b)
  | inr miss ↦ inr (λ same. miss.1 (ap number_of same))
]

some_same : {A : Type 0} {a b : A} → Some a ≡ Some b → a ≡ b
some_same h = cc

none_some : {A B : Type 0} {a : A} → None ≡ Some a → B
none_some h = cc

some_none : {A B : Type 0} {a : A} → Some a ≡ None → B
some_none h = cc

pub option_decided : (a b : Option Ty) → Decided a b
option_decided None None = inl refl
option_decided None (Some b) = inr none_some
option_decided (Some a) None = inr some_none
option_decided (Some a) (Some b) = elim (type_decided a b) [
  | inl same ↦ inl (ap (λ z. Some z) same)
  | inr other ↦ inr (λ same. other (some_same same))
]

head_same : {a b : Ty} {xs ys : List Ty} → a ∷ xs ≡ b ∷ ys → a ≡ b
head_same h = cc

tail_same : {a b : Ty} {xs ys : List Ty} → a ∷ xs ≡ b ∷ ys → xs ≡ ys
tail_same h = cc

nil_cons : {b : Ty} {ys : List Ty} → [] ≡ b ∷ ys → ⊥
nil_cons h = cc

cons_nil : {b : Ty} {ys : List Ty} → b ∷ ys ≡ [] → ⊥
cons_nil h = cc

both_same : {a b : Ty} {xs ys : List Ty} → a ≡ b → xs ≡ ys → a ∷ xs ≡ b ∷ ys
both_same p q = cc

pub list_decided : (xs ys : List Ty) → Decided xs ys
list_decided [] [] = inl refl
list_decided [] (y ∷ ys) = inr nil_cons
list_decided (x ∷ xs) [] = inr cons_nil
list_decided (x ∷ xs) (y ∷ ys) = elim (type_decided x y) [
  | inr other ↦ inr (λ same. other (head_same same))
  | inl same ↦ elim (list_decided xs ys) [
    | inr other ↦ inr (λ all. other (tail_same all))
    | inl rest ↦ inl (both_same same rest)
  ]
]

-- the first of a name stands at its place
module _ {A : Type 0} (one : A) (q n : List ℕ) where
  pub found_by : (rest : List A) (found : Option A) (place : ℕ) (a : A) (b c : Bool) → bytes_eq q n ≡ b → bytes_eq n q ≡ c → (if b then Some one else found) ≡ Some a → (found ≡ Some a → slice_get rest place ≡ Some a)
      → slice_get (one ∷ rest) (if c then 0 else suc place) ≡ Some a
  found_by rest found place a true true t u is more = is
  found_by rest found place a false false t u is more = more is
  found_by rest found place a true false t u is more = absurd (true≢false (sym (bytes_sym q n t) ∙ u))
  found_by rest found place a false true t u is more = absurd (true≢false (sym (bytes_sym n q u) ∙ t))

pub function_found : (fs : List Function) (q : List ℕ) (f : Function) → function_named fs q ≡ Some f → slice_get fs (function_place fs q) ≡ Some f
function_found [] q f is = none_some is
function_found (h ∷ fs) q f is = found_by h q h.name.name fs (function_named fs q) (function_place fs q) f (bytes_eq q h.name.name) (bytes_eq h.name.name q) refl refl is (function_found fs q f)

pub block_found : (bs : List Block) (q : List ℕ) (b : Block) → block_named bs q ≡ Some b → slice_get bs (block_place bs q) ≡ Some b
block_found [] q b is = none_some is
block_found (h ∷ bs) q b is = found_by h q h.label.name bs (block_named bs q) (block_place bs q) b (bytes_eq q h.label.name) (bytes_eq h.label.name q) refl refl is (block_found bs q b)

pub host_found : (hs : List HostEntry) (q : List ℕ) (e : HostEntry) → host_named hs q ≡ Some e → slice_get hs (place (host_names hs) q) ≡ Some e
host_found [] q e is = none_some is
host_found (h ∷ hs) q e is = found_by h q h.name hs (host_named hs q) (place (host_names hs) q) e (bytes_eq q h.name) (bytes_eq h.name q) refl refl is (host_found hs q e)

-- and what stands at the place of a name has it
module _ {A : Type 0} (one : A) (q n : List ℕ) where
  pub named_by : (rest : List A) (found : Option A) (place : ℕ) (a : A) (b c : Bool) → bytes_eq q n ≡ b → bytes_eq n q ≡ c → slice_get (one ∷ rest) (if c then 0 else suc place) ≡ Some a → (slice_get rest place ≡ Some a → found ≡ Some a)
      → (if b then Some one else found) ≡ Some a
  named_by rest found place a true true t u is more = is
  named_by rest found place a false false t u is more = more is
  named_by rest found place a true false t u is more = absurd (true≢false (sym (bytes_sym q n t) ∙ u))
  named_by rest found place a false true t u is more = absurd (true≢false (sym (bytes_sym n q u) ∙ t))

nothing_at : {A B : Type 0} (k : ℕ) (a : A) → slice_get [] k ≡ Some a → B
nothing_at k a is = cc

pub function_names : (fs : List Function) (q : List ℕ) (f : Function) → slice_get fs (function_place fs q) ≡ Some f → function_named fs q ≡ Some f
function_names [] q f is = nothing_at 0 f is
function_names (h ∷ fs) q f is = named_by h q h.name.name fs (function_named fs q) (function_place fs q) f (bytes_eq q h.name.name) (bytes_eq h.name.name q) refl refl is (function_names fs q f)
