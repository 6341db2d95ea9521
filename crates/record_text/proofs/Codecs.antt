-- What is written is read again, and what is read was written so: single words, and words in a row.
use Rattle.std.proofs.Common.{◌≡◌, ℕ, Bool, true, false, cond, List, [], ◌∷◌, ◌++◌, Option, Some, None, refl, sym, ap, subst, ◌∙◌, append_assoc}
use Rattle.std.specs.Prelude.{nat_lt}
use Rattle.std.specs.Str.{bytes_eq}
use Rattle.std.specs.List.{list_all}
use Rattle.std.proofs.lemmas.Option.{some_pair_parts, same_Some}
use Rattle.std.proofs.lemmas.Slice.Eq.{bytes_eq-Decides}
use Rattle.record_text.specs.Reading.{Words, Reader, ◌>>=◌, one, both, mapped, given, passed, behind, lookup, worded}
use Rattle.record_text.specs.Parts.{chosen}

-- ---- words without blanks

abbrev pub is_seen : ℕ → Bool
is_seen b = nat_lt 32 b

-- no byte of the word is a space or a newline
abbrev pub Seen : List ℕ → Type 0
Seen w = list_all is_seen w ≡ true

abbrev pub AllSeen : Words → Type 0
AllSeen [] = Unit {0}
AllSeen (w ∷ ws) = Seen w × AllSeen ws

pub all_seen-append : (vs ws : Words) → AllSeen vs → AllSeen ws → AllSeen (vs ++ ws)
all_seen-append [] ws h k = k
all_seen-append (v ∷ vs) ws h k = (h.0, all_seen-append vs ws h.1 k)

-- ---- steps that don't fail

pub bind_some : {A B : Type 0} (o : Option A) (f : A → Option B) (y : B) → (o >>= f) ≡ Some y → (x : A) × (o ≡ Some x) × (f x ≡ Some y)
bind_some None f y e = absurd cc
bind_some (Some x) f y e = (x, refl, e)

pub cond_some : {A : Type 0} (b : Bool) (x y : A) → cond b (Some x) None ≡ Some y → (b ≡ true) × (x ≡ y)
cond_some true x y e = (refl, same_Some x y e)
cond_some false x y e = absurd cc

-- equal texts are told so, and only they
pub told_equal : (v w : List ℕ) → bytes_eq v w ≡ true → v ≡ w
told_equal v w e = (bytes_eq-Decides v w).0 e

pub equal_told : (w : List ℕ) → bytes_eq w w ≡ true
equal_told w = (bytes_eq-Decides w w).1 refl

-- ---- single words

pub record IsWord {A : Type 0} (ok : A → Type 0) (write : A → List ℕ) (read : List ℕ → Option A) : Type 0 where
  pub again : (a : A) → ok a → read (write a) ≡ Some a
  pub takes : (w : List ℕ) (a : A) → read w ≡ Some a → (w ≡ write a) × ok a
  pub seen : (a : A) → ok a → Seen (write a)

-- a value of a table
pub lookup_takes : {A : Type 0} (word : A → List ℕ) (values : List A) (w : List ℕ) (a : A) → lookup (worded word values) w ≡ Some a → w ≡ word a
lookup_takes word [] w a e = absurd cc
lookup_takes word (v ∷ vs) w a e = by_test (bytes_eq w (word v)) refl e (lookup_takes word vs w a)
  where
    by_test : (b : Bool) → bytes_eq w (word v) ≡ b → cond b (Some v) (lookup (worded word vs) w) ≡ Some a → (lookup (worded word vs) w ≡ Some a → w ≡ word a) → w ≡ word a
    by_test true t e more = told_equal w (word v) t ∙ ap word (same_Some v a e)
    by_test false t e more = more e

-- ---- words in a row

pub record IsField {A : Type 0} (ok : A → Type 0) (write : A → Words) (read : Reader A) : Type 0 where
  pub again : (a : A) (rest : Words) → ok a → read (write a ++ rest) ≡ Some (a, rest)
  pub takes : (ws : Words) (a : A) (rest : Words) → read ws ≡ Some (a, rest) → (ws ≡ write a ++ rest) × ok a
  pub seen : (a : A) → ok a → AllSeen (write a)

one_takes : {A : Type 0} (ok : A → Type 0) (write : A → List ℕ) (read : List ℕ → Option A) → IsWord ok write read
    → (ws : Words) (a : A) (rest : Words) → one read ws ≡ Some (a, rest) → (ws ≡ write a ∷ rest) × ok a
one_takes ok write read c [] a rest e = absurd cc
one_takes ok write read c (w ∷ ws) a rest e =
    let b = bind_some (read w) (λ x. Some (x, ws)) (a, rest) e in
    let p = some_pair_parts b.0 a ws rest b.2 in
    let t = c.takes w a (b.1 ∙ ap Some p.0) in
    (ap (λ (v : List ℕ). v ∷ ws) t.0 ∙ ap (λ (vs : Words). write a ∷ vs) p.1, t.1)

pub one_word : {A : Type 0} {ok : A → Type 0} {write : A → List ℕ} {read : List ℕ → Option A} → IsWord ok write read → IsField ok (λ a. write a ∷ []) (one read)
one_word {A} {ok} {write} {read} c = record {
  again = λ a rest h. ap (λ (o : Option A). o >>= λ x. Some (x, rest)) (c.again a h);
  takes = λ ws a rest e. one_takes ok write read c ws a rest e;
  seen = λ a h. (c.seen a h, tt);
}

pair_is : {X Y : Type 0} {x y : X} {v w : Y} → x ≡ y → v ≡ w → ◌≡◌ {A = X × Y} (x, v) (y, w)
pair_is {X} {Y} {x} {y} {v} {w} p q = ap (λ (z : X). (z, v)) p ∙ ap (λ (z : Y). (y, z)) q

pub both_fields : {A B : Type 0} {okA : A → Type 0} {okB : B → Type 0} {writeA : A → Words} {writeB : B → Words} {r : Reader A} {s : Reader B}
    → IsField okA writeA r → IsField okB writeB s → IsField (λ x. okA x.0 × okB x.1) (λ x. writeA x.0 ++ writeB x.1) (both r s)
both_fields {A} {B} {okA} {okB} {writeA} {writeB} {r} {s} c d = record { again = again; takes = takes; seen = λ x h. all_seen-append (writeA x.0) (writeB x.1) (c.seen x.0 h.0) (d.seen x.1 h.1) }
  where
    again : (x : A × B) (rest : Words) → okA x.0 × okB x.1 → both r s ((writeA x.0 ++ writeB x.1) ++ rest) ≡ Some (x, rest)
    again x rest h =
        ap (both r s) (append_assoc (writeA x.0) (writeB x.1) rest)
        ∙ ap (λ (o : Option (A × Words)). o >>= λ y. s y.1 >>= λ z. Some ((y.0, z.0), z.1)) (c.again x.0 (writeB x.1 ++ rest) h.0)
        ∙ ap (λ (o : Option (B × Words)). o >>= λ z. Some ((x.0, z.0), z.1)) (d.again x.1 rest h.1)

    takes : (ws : Words) (x : A × B) (rest : Words) → both r s ws ≡ Some (x, rest) → (ws ≡ (writeA x.0 ++ writeB x.1) ++ rest) × (okA x.0 × okB x.1)
    takes ws x rest e =
        let b = bind_some (r ws) (λ y. s y.1 >>= λ z. Some ((y.0, z.0), z.1)) (x, rest) e in
        let y = b.0 in
        let k = bind_some (s y.1) (λ z. Some ((y.0, z.0), z.1)) (x, rest) b.2 in
        let z = k.0 in
        let p = some_pair_parts (y.0, z.0) x z.1 rest k.2 in
        let t = c.takes ws y.0 y.1 b.1 in
        let u = d.takes y.1 z.0 z.1 k.1 in
        let whole : ws ≡ (writeA y.0 ++ writeB z.0) ++ z.1 = t.0 ∙ ap (λ (vs : Words). writeA y.0 ++ vs) u.0 ∙ sym (append_assoc (writeA y.0) (writeB z.0) z.1) in
        (subst (λ (q : (A × B) × Words). ws ≡ (writeA q.0.0 ++ writeB q.0.1) ++ q.1) (pair_is p.0 p.1) whole, subst (λ (q : A × B). okA q.0 × okB q.1) p.0 (t.1, u.1))

-- what a tail reads, as another value
pub tail_again : {A B : Type 0} {ok : A → Type 0} {write : A → Words} {r : Reader A} → IsField ok write r → (f : A → B) (a : A) (rest : Words) → ok a → mapped f r (write a ++ rest) ≡ Some (f a, rest)
tail_again {A} {B} {ok} {write} {r} c f a rest h = ap (λ (o : Option (A × Words)). o >>= λ x. Some (f x.0, x.1)) (c.again a rest h)

pub tail_takes : {A B : Type 0} {ok : A → Type 0} {write : A → Words} {r : Reader A} → IsField ok write r → (f : A → B) (fits : B → Type 0) (words : B → Words) (word : List ℕ)
    → ((a : A) → word ∷ write a ≡ words (f a)) → ((a : A) → ok a → fits (f a)) → (ws : Words) (b : B) (rest : Words) → mapped f r ws ≡ Some (b, rest) → (word ∷ ws ≡ words b ++ rest) × fits b
tail_takes {A} {B} {ok} {write} {r} c f fits words word same keeps ws b rest e =
    let k = bind_some (r ws) (λ x. Some (f x.0, x.1)) (b, rest) e in
    let x = k.0 in
    let p = some_pair_parts (f x.0) b x.1 rest k.2 in
    let t = c.takes ws x.0 x.1 k.1 in
    let whole : word ∷ ws ≡ words (f x.0) ++ x.1 = ap (λ (vs : Words). word ∷ vs) t.0 ∙ ap (λ (vs : Words). vs ++ x.1) (same x.0) in
    (whole ∙ ap (λ (q : B). words q ++ x.1) p.0 ∙ ap (λ (vs : Words). words b ++ vs) p.1, subst fits p.0 (keeps x.0 t.1))

pub given_takes : {B : Type 0} (a : B) (fits : B → Type 0) (words : B → Words) (word : List ℕ) → words a ≡ word ∷ [] → fits a
    → (ws : Words) (b : B) (rest : Words) → given a ws ≡ Some (b, rest) → (word ∷ ws ≡ words b ++ rest) × fits b
given_takes {B} a fits words word same fit ws b rest e =
    let p = some_pair_parts a b ws rest e in
    (ap (λ (vs : Words). word ∷ vs) p.1 ∙ ap (λ (vs : Words). vs ++ rest) (sym same) ∙ ap (λ (q : B). words q ++ rest) p.0, subst fits p.0 fit)

-- the key of a table that is read first, and what its tail gives
pub record Chose {K A : Type 0} (table : List (List ℕ × K)) (tail : K → Reader A) (ws : Words) (y : A × Words) : Type 0 where
  pub word : List ℕ
  pub more : Words
  pub whole : ws ≡ word ∷ more
  pub key : K
  pub found : lookup table word ≡ Some key
  pub tells : tail key more ≡ Some y

pub chosen_takes : {K A : Type 0} (table : List (List ℕ × K)) (tail : K → Reader A) (ws : Words) (y : A × Words) → chosen (one (lookup table)) tail ws ≡ Some y → Chose table tail ws y
chosen_takes table tail [] y e = absurd cc
chosen_takes {K} {A} table tail (w ∷ ws) y e =
    let k = bind_some (lookup table w >>= λ a. Some (a, ws)) (λ x. tail x.0 x.1) y e in
    let b = bind_some (lookup table w) (λ a. Some (a, ws)) k.0 k.1 in
    let p : (b.0, ws) ≡ k.0 = same_Some (b.0, ws) k.0 b.2 in
    record { word = w; more = ws; whole = refl; key = b.0; found = b.1; tells = subst (λ (x : K × Words). tail x.0 x.1 ≡ Some y) (sym p) k.2 }

-- ---- a word that has to stand there

pub passed_takes : (text : List ℕ) (ws rest : Words) → passed text ws ≡ Some rest → ws ≡ text ∷ rest
passed_takes text [] rest e = absurd cc
passed_takes text (w ∷ ws) rest e =
    let t = cond_some (bytes_eq w text) ws rest e in
    ap (λ (v : List ℕ). v ∷ ws) (told_equal w text t.0) ∙ ap (λ (vs : Words). text ∷ vs) t.1

pub passed_again : (text : List ℕ) (ws : Words) → passed text (text ∷ ws) ≡ Some ws
passed_again text ws = ap (λ (b : Bool). cond b (Some ws) None) (equal_told text)

pub behind_field : {A : Type 0} {ok : A → Type 0} {write : A → Words} {r : Reader A} (text : List ℕ) → Seen text → IsField ok write r → IsField ok (λ a. text ∷ write a) (behind text r)
behind_field {A} {ok} {write} {r} text seen c = record {
  again = λ a rest h. ap (λ (o : Option Words). o >>= r) (passed_again text (write a ++ rest)) ∙ c.again a rest h;
  takes = takes;
  seen = λ a h. (seen, c.seen a h);
}
  where
    takes : (ws : Words) (a : A) (rest : Words) → behind text r ws ≡ Some (a, rest) → (ws ≡ (text ∷ write a) ++ rest) × ok a
    takes ws a rest e =
        let k = bind_some (passed text ws) r (a, rest) e in
        let t = c.takes k.0 a rest k.2 in
        (passed_takes text ws k.0 k.1 ∙ ap (λ (vs : Words). text ∷ vs) t.0, t.1)
