-- Reads and writes of registers, and of the slots that hold them.
use Rattle.std.proofs.Common.{◌≡◌, ◌≢◌, ℕ, suc, ◌<◌, List, [], ◌∷◌, length, get_or, set, Option, None, Bool, true, false, refl, sym, ap, ◌∙◌, subst, arith, if◌then◌else◌}
use Rattle.std.specs.Str.{bytes_eq}
use Rattle.std.proofs.lemmas.Slice.Eq.{bytes_eq-Decides}
use Rattle.std.proofs.lemmas.List.{get_or-set_same, get_or-set_other, length-set}
use Rattle.bsan_ids.specs.declared.numbers.Prov.{Prov}
use Rattle.history.specs.declared.ask.Arg.{Arg}
use Rattle.ir_ast.specs.declared.types.Ty.TheVariants.{Ptr}
use Rattle.ir_ast.specs.declared.program.Function.{Function}
use Rattle.source_sem.specs.Env.{Env, value_in, with_value}
use Rattle.source_sem.proofs.Writes.{same_name, value_in-with_value}
use Rattle.source_sem.specs.Typing.{HasType}
use Rattle.instrument.specs.Translation.{Scope}
use Rattle.ir_ast.specs.Numbers.{place}
use Rattle.instr_sound.specs.Simulation.{SlotsHold}

pub bytes_eq_same : (r : List ℕ) → bytes_eq r r ≡ true
bytes_eq_same r = (bytes_eq-Decides r r).1 refl

-- one place, one name
one_place_by : (b c : Bool) (n m : ℕ) (d q r : List ℕ) (l : ℕ) → bytes_eq d q ≡ b → bytes_eq d r ≡ c → (n ≡ m → m < l → q ≡ r) → (if b then 0 else suc n) ≡ (if c then 0 else suc m) → (if c then 0 else suc m) < suc l → q ≡ r
one_place_by true true n m d q r l eb ec h e k = sym (same_name d q eb) ∙ same_name d r ec
one_place_by true false n m d q r l eb ec h e k = absurd (omega arith)
one_place_by false true n m d q r l eb ec h e k = absurd (omega arith)
one_place_by false false n m d q r l eb ec h e k = h (omega arith) (omega arith)

pub one_place : (ns : List (List ℕ)) (q r : List ℕ) → place ns q ≡ place ns r → place ns r < length ns → q ≡ r
one_place [] q r e k = absurd (omega arith)
one_place (n ∷ ns) q r e k = one_place_by (bytes_eq n q) (bytes_eq n r) (place ns q) (place ns r) n q r (length ns) refl refl (one_place ns q r) e k

-- a list is written at one name's place and read at another's
module _ {A : Type 0} (ns : List (List ℕ)) (r : List ℕ) (known : place ns r < length ns) (d : A) where
  write_by : (b : Bool) (q : List ℕ) (l : List A) (x y : A) → bytes_eq r q ≡ b → length l ≡ length ns → get_or l (place ns q) d ≡ y → get_or (set l (place ns r) x) (place ns q) d ≡ (if b then x else y)
  write_by true q l x y e w h =
      ap (λ z. get_or (set l (place ns r) x) (place ns z) d) (sym (same_name r q e)) ∙ get_or-set_same l (place ns r) x d (omega arith)
  write_by false q l x y e w h =
      let other : place ns q ≢ place ns r = λ p. no_names (sym e ∙ ap (λ z. bytes_eq r z) (one_place ns q r p known) ∙ bytes_eq_same r) in
      get_or-set_other l (place ns r) (place ns q) x d other ∙ h
    where
      no_names : false ≡ true → ⊥
      no_names p = cc

-- a read of the registers after a write of one
value_if : (b : Bool) (x y : Arg) → (if b then x else y).value ≡ (if b then x.value else y.value)
value_if true x y = refl
value_if false x y = refl

prov_if : (b : Bool) (x y : Arg) → (if b then x else y).prov ≡ (if b then x.prov else y.prov)
prov_if true x y = refl
prov_if false x y = refl

same_by : {A : Type 0} (b : Bool) (q r : List ℕ) (f : List ℕ → A) (x : A) → bytes_eq r q ≡ b → f r ≡ x → f q ≡ (if b then x else f q)
same_by true q r f x e h = ap f (sym (same_name r q e)) ∙ h
same_by false q r f x e h = refl

-- what is written has a provenance only where the register is a pointer's
bare_by : (b : Bool) (g : Function) (q r : List ℕ) (x y : Option Prov) → bytes_eq r q ≡ b → ((HasType g r Ptr → ⊥) → x ≡ None) → y ≡ None → (HasType g q Ptr → ⊥) → (if b then x else y) ≡ None
bare_by true g q r x y e hx hy never = hx (subst (λ z. HasType g z Ptr → ⊥) (sym (same_name r q e)) never)
bare_by false g q r x y e hx hy never = hy

module _ (x : Scope) (g : Function) (env : Env) (words : List ℕ) (shadows : List (Option Prov)) (holds : SlotsHold x g env words shadows) (r : List ℕ) (v : Arg) where
  words_after : place x.registers r < length x.registers → (q : List ℕ) → get_or (set words (place x.registers r) v.value) (place x.registers q) 0 ≡ (value_in (with_value r v env) q).value
  words_after known q =
      write_by x.registers r known 0 (bytes_eq r q) q words v.value (value_in env q).value refl holds.words_wide (holds.words_are q)
      ∙ sym (value_if (bytes_eq r q) v (value_in env q)) ∙ sym (ap (λ (z : Arg). z.value) (value_in-with_value env r v q))

  provs_after : place x.registers r < length x.registers → (q : List ℕ) → get_or (set shadows (place x.registers r) v.prov) (place x.registers q) None ≡ (value_in (with_value r v env) q).prov
  provs_after known q =
      write_by x.registers r known None (bytes_eq r q) q shadows v.prov (value_in env q).prov refl holds.provs_wide (holds.provs_are q)
      ∙ sym (prov_if (bytes_eq r q) v (value_in env q)) ∙ sym (ap (λ (z : Arg). z.prov) (value_in-with_value env r v q))

  words_kept : v.value ≡ (value_in env r).value → (q : List ℕ) → get_or words (place x.registers q) 0 ≡ (value_in (with_value r v env) q).value
  words_kept e q =
      holds.words_are q ∙ same_by (bytes_eq r q) q r (λ n. (value_in env n).value) v.value refl (sym e) ∙ sym (value_if (bytes_eq r q) v (value_in env q)) ∙ sym (ap (λ (z : Arg). z.value) (value_in-with_value env r v q))

  provs_kept : v.prov ≡ (value_in env r).prov → (q : List ℕ) → get_or shadows (place x.registers q) None ≡ (value_in (with_value r v env) q).prov
  provs_kept e q =
      holds.provs_are q ∙ same_by (bytes_eq r q) q r (λ n. (value_in env n).prov) v.prov refl (sym e) ∙ sym (prov_if (bytes_eq r q) v (value_in env q)) ∙ sym (ap (λ (z : Arg). z.prov) (value_in-with_value env r v q))

  bare_after : ((HasType g r Ptr → ⊥) → v.prov ≡ None) → (q : List ℕ) → (HasType g q Ptr → ⊥) → (value_in (with_value r v env) q).prov ≡ None
  bare_after hv q never =
      ap (λ (z : Arg). z.prov) (value_in-with_value env r v q) ∙ prov_if (bytes_eq r q) v (value_in env q) ∙ bare_by (bytes_eq r q) g q r v.prov (value_in env q).prov refl hv (holds.bare q never) never

  -- a pointer is written
  pub holds_ptr : HasType g r Ptr → place x.registers r < length x.registers → SlotsHold x g (with_value r v env) (set words (place x.registers r) v.value) (set shadows (place x.registers r) v.prov)
  holds_ptr t known = record {
    words_are = words_after known;
    provs_are = provs_after known;
    bare = bare_after (λ never. absurd (never t));
    words_wide = length-set words (place x.registers r) v.value ∙ holds.words_wide;
    provs_wide = length-set shadows (place x.registers r) v.prov ∙ holds.provs_wide;
  }

  -- a word is written
  pub holds_word : (HasType g r Ptr → ⊥) → place x.registers r < length x.registers → v.prov ≡ None → SlotsHold x g (with_value r v env) (set words (place x.registers r) v.value) shadows
  holds_word never known none = record {
    words_are = words_after known;
    provs_are = provs_kept (none ∙ sym (holds.bare r never));
    bare = bare_after (λ other. none);
    words_wide = length-set words (place x.registers r) v.value ∙ holds.words_wide;
    provs_wide = holds.provs_wide;
  }

  -- a pointer's provenance alone is written
  pub holds_prov : HasType g r Ptr → place x.registers r < length x.registers → v.value ≡ (value_in env r).value → SlotsHold x g (with_value r v env) words (set shadows (place x.registers r) v.prov)
  holds_prov t known e = record {
    words_are = words_kept e;
    provs_are = provs_after known;
    bare = bare_after (λ never. absurd (never t));
    words_wide = holds.words_wide;
    provs_wide = length-set shadows (place x.registers r) v.prov ∙ holds.provs_wide;
  }

-- a pointer is written from what the slots hold
pub holds_ptr_at : (x : Scope) (g : Function) (env : Env) (ws : List ℕ) (ss : List (Option Prov)) → SlotsHold x g env ws ss → (r : List ℕ) → HasType g r Ptr → place x.registers r < length x.registers → (n : ℕ) (p : Option Prov) (v : Arg) → n ≡ v.value → p ≡ v.prov → SlotsHold x g (with_value r v env) (set ws (place x.registers r) n) (set ss (place x.registers r) p)
holds_ptr_at x g env ws ss holds r t known n p v en ep =
    subst (λ z. SlotsHold x g (with_value r v env) (set ws (place x.registers r) z) (set ss (place x.registers r) p)) (sym en)
    (subst (λ z. SlotsHold x g (with_value r v env) (set ws (place x.registers r) v.value) (set ss (place x.registers r) z)) (sym ep) (holds_ptr x g env ws ss holds r v t known))

-- a word is written from what the slots hold
pub holds_word_at : (x : Scope) (g : Function) (env : Env) (ws : List ℕ) (ss : List (Option Prov)) → SlotsHold x g env ws ss → (r : List ℕ) → (HasType g r Ptr → ⊥) → place x.registers r < length x.registers → (n : ℕ) (v : Arg) → n ≡ v.value → v.prov ≡ None → SlotsHold x g (with_value r v env) (set ws (place x.registers r) n) ss
holds_word_at x g env ws ss holds r never known n v en none =
    subst (λ z. SlotsHold x g (with_value r v env) (set ws (place x.registers r) z) ss) (sym en) (holds_word x g env ws ss holds r v never known none)
