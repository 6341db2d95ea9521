-- The logs of allocations, from the entries of a lower and an upper half of their numbers.
use Rattle.std.proofs.Common.{◌≡◌, ℕ, zero, suc, ◌+◌, ◌-◌, ◌<◌, ◌≤◌, Bool, true, false, not, cond, List, [], ◌∷◌, ◌++◌, filter, Option, Some, None, refl, sym, ap, ◌∙◌, append_assoc, append-nil, arith}
use Rattle.std.proofs.lemmas.Bool.Decides.{nat_tests}
use Rattle.bsan_ids.specs.declared.numbers.AllocNo.{AllocNo}
use Rattle.history.specs.declared.entry.Entry.{Entry}
use Rattle.history.specs.declared.log.AllocLog.{AllocLog}
use Rattle.history.specs.Restriction.{names, of_alloc}
use Rattle.record_text.specs.Texts.{alloc_log, kept_log, logs_from}
use Rattle.record_text.specs.Halves.{named_below, is_below}

-- of no entries there are no logs
pub none_from : (first count : ℕ) → logs_from [] first count ≡ []
none_from first zero = refl
none_from first (suc more) = none_from (suc first) more

pub logs_none : (entries : List Entry) (first count : ℕ) → entries ≡ [] → logs_from entries first count ≡ []
logs_none entries first count e = ap (λ (es : List Entry). logs_from es first count) e ∙ none_from first count

pub logs_zero : (entries : List Entry) (first count : ℕ) → count ≡ 0 → logs_from entries first count ≡ []
logs_zero entries first count e = ap (logs_from entries first) e

pub logs_one : (entries : List Entry) (first count : ℕ) → count ≡ 1 → logs_from entries first count ≡ kept_log (alloc_log entries first) (of_alloc (record { 0 = first }) entries)
logs_one entries first count e = ap (logs_from entries first) e ∙ append-nil (kept_log (alloc_log entries first) (of_alloc (record { 0 = first }) entries))

logs_append : (entries : List Entry) (first n m : ℕ) → logs_from entries first (n + m) ≡ logs_from entries first n ++ logs_from entries (first + n) m
logs_append entries first zero m =
    let e : first + 0 ≡ first = omega arith in
    let f : 0 + m ≡ m = omega arith in
    ap (logs_from entries first) f ∙ ap (λ (k : ℕ). logs_from entries k m) (sym e)
logs_append entries first (suc n) m =
    let e : first + suc n ≡ suc first + n = omega arith in
    let f : suc n + m ≡ suc (n + m) = omega arith in
    ap (logs_from entries first) f
    ∙ ap (λ (ls : List AllocLog). kept_log (alloc_log entries first) (of_alloc (record { 0 = first }) entries) ++ ls) (logs_append entries (suc first) n m)
    ∙ sym (append_assoc (kept_log (alloc_log entries first) (of_alloc (record { 0 = first }) entries)) (logs_from entries (suc first) n) (logs_from entries (suc first + n) m))
    ∙ ap (λ (k : ℕ). (kept_log (alloc_log entries first) (of_alloc (record { 0 = first }) entries) ++ logs_from entries (suc first) n) ++ logs_from entries k m) (sym e)

-- what passes both tests passes the one that is the stronger
kept_by : (p q : Entry → Bool) → ((e : Entry) → q e ≡ true → p e ≡ true) → (es : List Entry) → filter q (filter p es) ≡ filter q es
kept_by p q h [] = refl
kept_by p q h (e ∷ es) = by_tests (p e) (q e) refl refl (h e) (kept_by p q h es)
  where
    again : q e ≡ true → filter q (e ∷ filter p es) ≡ e ∷ filter q (filter p es)
    again k = ap (λ (t : Bool). cond t (e ∷ filter q (filter p es)) (filter q (filter p es))) k

    not_again : q e ≡ false → filter q (e ∷ filter p es) ≡ filter q (filter p es)
    not_again k = ap (λ (t : Bool). cond t (e ∷ filter q (filter p es)) (filter q (filter p es))) k

    by_tests : (b c : Bool) → p e ≡ b → q e ≡ c → (c ≡ true → b ≡ true) → filter q (filter p es) ≡ filter q es → filter q (cond b (e ∷ filter p es) (filter p es)) ≡ cond c (e ∷ filter q es) (filter q es)
    by_tests true true u v k more = again v ∙ ap (λ (xs : List Entry). e ∷ xs) more
    by_tests true false u v k more = not_again v ∙ more
    by_tests false true u v k more = absurd (let f : false ≡ true = k refl in cc)
    by_tests false false u v k more = more

named_is_below : (number bound : ℕ) → number < bound → (alloc : Option AllocNo) → names (record { 0 = number }) alloc ≡ true → named_below bound alloc ≡ true
named_is_below number bound lt None e = absurd cc
named_is_below number bound lt (Some n) e = grind (arith, nat_tests)

named_not_below : (number bound : ℕ) → bound ≤ number → (alloc : Option AllocNo) → names (record { 0 = number }) alloc ≡ true → not (named_below bound alloc) ≡ true
named_not_below number bound le None e = absurd cc
named_not_below number bound le (Some n) e = grind (arith, nat_tests)

same_log : (es fs : List Entry) (first : ℕ) → of_alloc (record { 0 = first }) es ≡ of_alloc (record { 0 = first }) fs
    → kept_log (alloc_log es first) (of_alloc (record { 0 = first }) es) ≡ kept_log (alloc_log fs first) (of_alloc (record { 0 = first }) fs)
same_log es fs first e = ap (λ (own : List Entry). kept_log (record { number = record { 0 = first }; entries = own }) own) e

lower_logs : (es : List Entry) (bound first count : ℕ) → first + count ≤ bound → logs_from (filter (is_below bound) es) first count ≡ logs_from es first count
lower_logs es bound first zero h = refl
lower_logs es bound first (suc more) h =
    let own = same_log (filter (is_below bound) es) es first (kept_by (is_below bound) (λ e. names (record { 0 = first }) e.alloc) (λ e k. named_is_below first bound (omega arith) e.alloc k) es) in
    let rest = lower_logs es bound (suc first) more (omega arith) in
    ap (λ (ls : List AllocLog). ls ++ logs_from (filter (is_below bound) es) (suc first) more) own
    ∙ ap (λ (ls : List AllocLog). kept_log (alloc_log es first) (of_alloc (record { 0 = first }) es) ++ ls) rest

upper_logs : (es : List Entry) (bound first count : ℕ) → bound ≤ first → logs_from (filter (λ e. not (is_below bound e)) es) first count ≡ logs_from es first count
upper_logs es bound first zero h = refl
upper_logs es bound first (suc more) h =
    let own = same_log (filter (λ e. not (is_below bound e)) es) es first (kept_by (λ e. not (is_below bound e)) (λ e. names (record { 0 = first }) e.alloc) (λ e k. named_not_below first bound h e.alloc k) es) in
    let rest = upper_logs es bound (suc first) more (omega arith) in
    ap (λ (ls : List AllocLog). ls ++ logs_from (filter (λ e. not (is_below bound e)) es) (suc first) more) own
    ∙ ap (λ (ls : List AllocLog). kept_log (alloc_log es first) (of_alloc (record { 0 = first }) es) ++ ls) rest

-- the logs of both halves
pub logs_halved : (es lower upper : List Entry) (logs first_logs all : List AllocLog) (first half count : ℕ) → half ≤ count
    → lower ≡ filter (is_below (first + half)) es → upper ≡ filter (λ e. not (is_below (first + half) e)) es
    → first_logs ≡ logs ++ logs_from lower first half → all ≡ first_logs ++ logs_from upper (first + half) (count - half) → all ≡ logs ++ logs_from es first count
logs_halved es lower upper logs first_logs all first half count le low up one two =
    let sum : half + (count - half) ≡ count = omega arith in
    let a : logs_from lower first half ≡ logs_from es first half = ap (λ (xs : List Entry). logs_from xs first half) low ∙ lower_logs es (first + half) first half (omega arith) in
    let b : logs_from upper (first + half) (count - half) ≡ logs_from es (first + half) (count - half) =
    ap (λ (xs : List Entry). logs_from xs (first + half) (count - half)) up ∙ upper_logs es (first + half) (first + half) (count - half) (omega arith) in
    two ∙ ap (λ (ls : List AllocLog). ls ++ logs_from upper (first + half) (count - half)) (one ∙ ap (λ (ls : List AllocLog). logs ++ ls) a)
    ∙ ap (λ (ls : List AllocLog). (logs ++ logs_from es first half) ++ ls) b
    ∙ append_assoc logs (logs_from es first half) (logs_from es (first + half) (count - half))
    ∙ ap (λ (ls : List AllocLog). logs ++ ls) (sym (logs_append es first half (count - half)))
    ∙ ap (λ (n : ℕ). logs ++ logs_from es first n) sum
