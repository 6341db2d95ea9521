-- A history with one more entry.
use Rattle.std.proofs.Common.{◌≡◌, ℕ, suc, zero, ◌+◌, ◌<◌, ◌≤◌, List, [], ◌∷◌, ◌++◌, length, length-append, map, All, IsTrue, Some, refl, ◌∙◌, arith, get_or, inl, inr, count_by, Bool, true, false, cond}
use Rattle.std.specs.List.Sorted.{IsStrictlyIncreasing}
use Rattle.std.proofs.lemmas.Bool.{cases_lt}
use Rattle.std.proofs.lemmas.Grind.{fold-append}
use Rattle.std.proofs.lemmas.List.{map-append}
use Rattle.std.proofs.lemmas.List.Elements.{All-map, All-append, All-cons, All-nil}
use Rattle.std.proofs.Math.ListN.{get_or-append}
use Rattle.history.specs.declared.entry.Entry.{Entry}
use Rattle.history.specs.Objects.{Object, unmade, answer}
use Rattle.history.specs.Histories.{replay, Replies, IsHistory, fits, is_make}

pub replay-push : (o : Object) (entries : List Entry) (e : Entry) → replay o (entries ++ e ∷ []) ≡ (answer (replay o entries) e.request e.stamp).object
replay-push o [] e = refl
replay-push o (first ∷ entries) e = replay-push (answer o first.request first.stamp).object entries e

pub Replies-push : (o : Object) (entries : List Entry) (e : Entry) → Replies o entries → e.reply ≡ (answer (replay o entries) e.request e.stamp).reply → Replies o (entries ++ e ∷ [])
Replies-push o [] e h r = (r, tt)
Replies-push o (first ∷ entries) e h r = (h.0, Replies-push (answer o first.request first.stamp).object entries e h.1 r)

get_or-last : {A : Type 0} (xs : List A) (y d : A) (k : ℕ) → k ≡ length xs → get_or (xs ++ y ∷ []) k d ≡ y
get_or-last [] y d k e = rw e refl
get_or-last (x ∷ xs) y d zero e = absurd (omega arith)
get_or-last (x ∷ xs) y d (suc k) e = get_or-last xs y d k (omega arith)

pub rising-push : (xs : List ℕ) (y : ℕ) → IsStrictlyIncreasing xs → All (λ x. x < y) xs → IsStrictlyIncreasing (xs ++ y ∷ [])
rising-push xs y rising below = λ k lt.
    let long : k + 1 < length xs + 1 = omega (arith, lt, length-append xs (y ∷ [])) in
    let first : get_or (xs ++ y ∷ []) k 0 ≡ get_or xs k 0 = get_or-append xs (y ∷ []) 0 k (omega arith) in
    elim (cases_lt (k + 1) (length xs)) [
      | inl less ↦
          let second : get_or (xs ++ y ∷ []) (k + 1) 0 ≡ get_or xs (k + 1) 0 = get_or-append xs (y ∷ []) 0 (k + 1) less in
          rw (first, second) (rising k less)
      | inr more ↦
          let second : get_or (xs ++ y ∷ []) (k + 1) 0 ≡ y = get_or-last xs y 0 (k + 1) (omega arith) in
          rw (first, second) (below k 0 (omega arith))
    ]

count_by-other : (p : Entry → Bool) (entries : List Entry) (e : Entry) → p e ≡ false → count_by p (entries ++ e ∷ []) ≡ count_by p entries
count_by-other p entries e h =
    let last : count_by p entries + cond (p e) 1 0 ≡ count_by p entries = rw h (omega arith) in
    fold-append (λ (n : ℕ) (x : Entry). n + cond (p x) 1 0) 0 entries (e ∷ []) ∙ last

count_by-push : (p : Entry → Bool) (entries : List Entry) (e : Entry) → count_by p (entries ++ e ∷ []) ≡ count_by p entries + cond (p e) 1 0
count_by-push p entries e = fold-append (λ (n : ℕ) (x : Entry). n + cond (p x) 1 0) 0 entries (e ∷ [])

pub once-push : (entries : List Entry) (e : Entry) → count_by (λ (x : Entry). is_make x.request) entries ≤ 1 → (is_make e.request ≡ true → count_by (λ (x : Entry). is_make x.request) entries ≡ 0) → count_by (λ (x : Entry). is_make x.request) (entries ++ e ∷ []) ≤ 1
once-push entries e once first = by (is_make e.request) refl where
  by : (b : Bool) → is_make e.request ≡ b → count_by (λ (x : Entry). is_make x.request) (entries ++ e ∷ []) ≤ 1
  by true h =
      let last : cond {A = ℕ} (is_make e.request) 1 0 ≡ 1 = rw h refl in
      let all : count_by (λ (x : Entry). is_make x.request) (entries ++ e ∷ []) ≡ count_by (λ (x : Entry). is_make x.request) entries + cond {A = ℕ} (is_make e.request) 1 0 = count_by-push (λ (x : Entry). is_make x.request) entries e in
      let none : count_by (λ (x : Entry). is_make x.request) entries ≡ 0 = first h in
      omega (arith, all, none, last)
  by false h = rw (count_by-other (λ (x : Entry). is_make x.request) entries e h) once

pub IsHistory-push : (number : ℕ) (entries : List Entry) (e : Entry) → IsHistory number entries → All (λ (x : Entry). x.stamp.0 < e.stamp.0) entries → e.alloc ≡ Some (record { 0 = number }) → IsTrue (fits e.request) → (is_make e.request ≡ true → count_by (λ (x : Entry). is_make x.request) entries ≡ 0) → e.reply ≡ (answer (replay (unmade number) entries) e.request e.stamp).reply → IsHistory number (entries ++ e ∷ [])
IsHistory-push number entries e h later named fitting first reply =
    record {
      rising = rw (map-append (λ (x : Entry). x.stamp.0) entries (e ∷ [])) (rising-push (map (λ (x : Entry). x.stamp.0) entries) e.stamp.0 h.rising (All-map (λ x. x < e.stamp.0) (λ (x : Entry). x.stamp.0) entries later));
      named = All-append (λ (x : Entry). x.alloc ≡ Some (record { 0 = number })) entries (e ∷ []) h.named (All-cons (λ (x : Entry). x.alloc ≡ Some (record { 0 = number })) e [] named (All-nil (λ (x : Entry). x.alloc ≡ Some (record { 0 = number }))));
      fitting = All-append (λ (x : Entry). IsTrue (fits x.request)) entries (e ∷ []) h.fitting (All-cons (λ (x : Entry). IsTrue (fits x.request)) e [] fitting (All-nil (λ (x : Entry). IsTrue (fits x.request))));
      once = once-push entries e h.once first;
      replies = Replies-push (unmade number) entries e h.replies reply;
    }
