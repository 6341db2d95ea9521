-- Whether a frame has nothing to give up.
use Rattle.std.proofs.Common.{◌≡◌, ◌≢◌, ℕ, zero, suc, ◌<◌, List, [], ◌∷◌, length, map, Some, None, true, false, ◌++◌, refl, sym, ap, ◌∙◌, arith}
use Rattle.std.specs.Prelude.{reverse, get_or, nat_eq, if◌then◌else◌}
use Rattle.std.specs.List.{remove}
use Rattle.bsan_ids.specs.Lists.{without}
use Rattle.std.proofs.lemmas.Bool.{eq-eqb}
use Rattle.std.proofs.lemmas.List.{length-reverse, reverse-append}
use Rattle.bsan_ids.specs.declared.numbers.Prov.{Prov}
use Rattle.history.specs.declared.ask.Ask.TheVariants as ask
use Rattle.history.specs.declared.entry.Request.TheVariants as request
use Rattle.thread_parts.specs.Owned.{Made, release_by, released_by}
use Rattle.thread_parts.specs.declared.owned.StackAllocation.{StackAllocation}
use Rattle.thread_parts.specs.Rooms.{has_none, made_of}

empty_list : {A : Type 0} (l : List A) → length l ≡ 0 → l ≡ []
empty_list [] e = refl
empty_list (y ∷ l) e = absurd (omega arith)

pub none_left : (cs : List ℕ) (ps : List Prov) (ss : List StackAllocation) → length cs ≡ 0 → length ps ≡ 0 → length ss ≡ 0 → has_none (release_by cs ps (map made_of (reverse ss))) ≡ true
none_left [] [] ss c p s = ap (λ (z : List StackAllocation). has_none (release_by [] [] (map made_of z))) (empty_list (reverse ss) (length-reverse ss ∙ s))
none_left [] (y ∷ ps) ss c p s = absurd (omega arith)
none_left (y ∷ cs) ps ss c p s = absurd (omega arith)

some_stack : (l : List StackAllocation) → length l ≢ 0 → has_none (release_by [] [] (map made_of l)) ≡ false
some_stack [] h = absurd (h refl)
some_stack (y ∷ l) h = refl

pub child_left : (cs : List ℕ) (ps : List Prov) (ss : List Made) → length cs ≢ 0 → has_none (release_by cs ps ss) ≡ false
child_left [] ps ss h = absurd (h refl)
child_left (y ∷ cs) ps ss h = refl

pub protector_left : (cs : List ℕ) (ps : List Prov) (ss : List Made) → length ps ≢ 0 → has_none (release_by cs ps ss) ≡ false
protector_left (y ∷ cs) ps ss h = refl
protector_left [] [] ss h = absurd (h refl)
protector_left [] (y ∷ ps) ss h = refl

pub stack_left : (cs : List ℕ) (ps : List Prov) (ss : List StackAllocation) → length ss ≢ 0 → has_none (release_by cs ps (map made_of (reverse ss))) ≡ false
stack_left (y ∷ cs) ps ss h = refl
stack_left [] (y ∷ ps) ss h = refl
stack_left [] [] ss h = some_stack (reverse ss) (λ e. h (sym (length-reverse ss) ∙ e))

-- the newest allocation is given up first
turned : (xs : List StackAllocation) (y : StackAllocation) → reverse (xs ++ y ∷ []) ≡ y ∷ reverse xs
turned xs y = reverse-append xs (y ∷ [])

pub stack_last : (ss front : List StackAllocation) (y : StackAllocation) → ss ≡ front ++ y ∷ [] → release_by [] [] (map made_of (reverse ss)) ≡ Some (ask.At y.number (request.Free 0 true y.prov))
stack_last ss front y e = ap (λ (z : List StackAllocation). release_by [] [] (map made_of (reverse z))) e ∙ ap (λ (z : List StackAllocation). release_by [] [] (map made_of z)) (turned front y)

pub stack_none : (ss : List StackAllocation) → ss ≡ [] → release_by [] [] (map made_of (reverse ss)) ≡ None
stack_none ss e = ap (λ (z : List StackAllocation). release_by [] [] (map made_of (reverse z))) e

-- the first place of a number in a list
pub found_first : (c : ℕ) (xs : List ℕ) (i : ℕ) → i < length xs → get_or xs i 0 ≡ c → ((j : ℕ) → j < i → nat_eq c (get_or xs j 0) ≡ false) → without c xs ≡ remove xs i
found_first c [] i lt e h = absurd (omega arith)
found_first c (x ∷ xs) zero lt e h = ap (λ b. if b then xs else x ∷ without c xs) (eq-eqb c x (sym e))
found_first c (x ∷ xs) (suc i) lt e h =
    ap (λ b. if b then xs else x ∷ without c xs) (h 0 (omega arith)) ∙ ap (λ z. x ∷ z) (found_first c xs i (omega arith) e (λ j le. h (suc j) (omega (arith, le))))

pub found_none : (c : ℕ) (xs : List ℕ) → ((j : ℕ) → j < length xs → nat_eq c (get_or xs j 0) ≡ false) → without c xs ≡ xs
found_none c [] h = refl
found_none c (x ∷ xs) h =
    ap (λ b. if b then xs else x ∷ without c xs) (h 0 (omega arith)) ∙ ap (λ z. x ∷ z) (found_none c xs (λ j le. h (suc j) (omega (arith, le))))

-- an allocation of the stack is the first when it is the newest
pub stack_pushed : (ss : List StackAllocation) (s : StackAllocation) → map made_of (reverse (ss ++ s ∷ [])) ≡ made_of s ∷ map made_of (reverse ss)
stack_pushed ss s = ap (map made_of) (turned ss s)

-- what is left where the first is given up
pub stack_popped : (front : List StackAllocation) (s : StackAllocation) → released_by [] [] (map made_of (reverse (front ++ s ∷ []))) ≡ record { children = []; protectors = []; stack = map made_of (reverse front) }
stack_popped front s = ap (λ (z : List Made). released_by [] [] z) (stack_pushed front s)
