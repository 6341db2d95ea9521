-- The threads of all logs, once their entries are marked.
use Rattle.std.proofs.Common.{◌≡◌, ◌≢◌, ◌↔◌, ℕ, zero, suc, ◌+◌, ◌<◌, ◌≤◌, Bool, true, false, List, [], ◌∷◌, ◌++◌, refl, sym, ◌∙◌, ap, subst, inl, inr, arith, length, take, drop, append_assoc}
use Rattle.std.specs.Prelude.{◌⊎◌, Some, count_by, replicate, slice_get}
use Rattle.std.proofs.lemmas.Option.{slice_get_within}
use Rattle.bsan_ids.specs.declared.numbers.ThreadNo.{ThreadNo}
use Rattle.history.specs.declared.entry.Entry.{Entry}
use Rattle.history.specs.declared.log.ThreadLog.{ThreadLog}
use Rattle.runs.specs.Merge.{all_entries}
use Rattle.runs.specs.Parts.{Has}
use Rattle.runs.specs.Right.{NumbersRiseFrom, HasThreads, starts_thread}
use Rattle.runs.proofs.Tracking.{some_inj}
use Rattle.record_file.specs.Family.{bit, Marks, MarksLog, MarksOne, StartsAgain, StartsBy, StartAll, StartEach, IsFirstRight}
use Rattle.record_file.proofs.Marking.{at_within, has_at, place_of, threads_count, threads_right, marks_more, again_later}

-- a list is cut before its k-th element
pub cut_at : {X : Type 0} (xs : List X) (k : ℕ) (x : X) → slice_get xs k ≡ Some x → xs ≡ take k xs ++ x ∷ drop (suc k) xs
cut_at [] k x is = absurd (cc)
cut_at (y ∷ ys) zero x is = ap (λ z. z ∷ ys) (some_inj is)
cut_at (y ∷ ys) (suc k) x is = ap (λ zs. y ∷ zs) (cut_at ys k x is)

pub taken_more : {X : Type 0} (xs : List X) (k : ℕ) (x : X) → slice_get xs k ≡ Some x → take (suc k) xs ≡ take k xs ++ x ∷ []
taken_more [] k x is = absurd (cc)
taken_more (y ∷ ys) zero x is = ap (λ z. z ∷ []) (some_inj is)
taken_more (y ∷ ys) (suc k) x is = ap (λ zs. y ∷ zs) (taken_more ys k x is)

pub taken_next : {X : Type 0} (xs : List X) (k : ℕ) (x : X) → slice_get xs k ≡ Some x → take (k + 1) xs ≡ take k xs ++ x ∷ []
taken_next xs k x is = let up : k + 1 ≡ suc k = omega arith in ap (λ n. take n xs) up ∙ taken_more xs k x is

pub has_more : {X : Type 0} (xs : List X) (k : ℕ) (x z : X) → slice_get xs k ≡ Some x → Has (take (suc k) xs) z → Has (take k xs) z ⊎ (x ≡ z)
has_more [] k x z is h = absurd (cc)
has_more (y ∷ ys) zero x z is (inl same) = inr (sym (some_inj is) ∙ same)
has_more (y ∷ ys) zero x z is (inr h) = absurd h
has_more (y ∷ ys) (suc k) x z is (inl same) = inl (inl same)
has_more (y ∷ ys) (suc k) x z is (inr h) = elim (has_more ys k x z is h) [ inl before ↦ inl (inr before) | inr here ↦ inr here ]

entries_both : (ls ms : List ThreadLog) → all_entries (ls ++ ms) ≡ all_entries ls ++ all_entries ms
entries_both [] ms = refl
entries_both (l ∷ ls) ms = ap (λ es. l.entries ++ es) (entries_both ls ms) ∙ sym (append_assoc l.entries (all_entries ls) (all_entries ms))

pub entries_cut : (logs : List ThreadLog) (k : ℕ) (log : ThreadLog) → slice_get logs k ≡ Some log → all_entries logs ≡ all_entries (take k logs) ++ (log.entries ++ all_entries (drop (suc k) logs))
entries_cut logs k log is = ap all_entries (cut_at logs k log is) ∙ entries_both (take k logs) (log ∷ drop (suc k) logs)

end_empty : (es : List Entry) → es ++ [] ≡ es
end_empty [] = refl
end_empty (e ∷ es) = ap (λ zs. e ∷ zs) (end_empty es)

entries_next : (logs : List ThreadLog) (k : ℕ) (log : ThreadLog) → slice_get logs k ≡ Some log → all_entries (take (suc k) logs) ≡ all_entries (take k logs) ++ log.entries
entries_next logs k log is = ap all_entries (taken_more logs k log is) ∙ entries_both (take k logs) (log ∷ []) ∙ ap (λ es. all_entries (take k logs) ++ es) (end_empty log.entries)

module _ (logs : List ThreadLog) (first : List Bool) where
  pub each_more : (k : ℕ) (log : ThreadLog) → slice_get logs k ≡ Some log → StartEach logs (take k logs) → StartAll logs log.number log.entries → StartEach logs (take (suc k) logs)
  each_more k log is each all other there = elim (has_more logs k log other is there) [
    | inl before ↦ each other before
    | inr here ↦ subst (λ (l : ThreadLog). StartAll logs l.number l.entries) here all
  ]

  pub marks_next : (k : ℕ) (log : ThreadLog) (mid after : List Bool) → slice_get logs k ≡ Some log → length mid ≡ length logs → Marks logs first (all_entries (take k logs)) mid → Marks logs mid log.entries after
      → Marks logs first (all_entries (take (suc k) logs)) after
  marks_next k log mid after is len h g = subst (λ es. Marks logs first es after) (sym (entries_next logs k log is)) (marks_more logs first mid after (all_entries (take k logs)) log.entries len h g)

  module _ (none : (i : ℕ) (b : Bool) → slice_get first i ≡ Some b → b ≡ false) where
    -- a thread that is started again is started twice
    pub again_wrong : (main : ℕ) → HasThreads main logs → StartsAgain logs first (all_entries logs) → ⊥
    again_wrong main h s =
        let once = threads_count main logs h s.1 (has_at logs s.0 s.1 s.3) s.5 in
        let unmarked : bit s.2 ≡ 0 = ap bit (none s.0 s.2 s.4) in
        let two = s.6 in
        absurd (omega (arith, once, unmarked, two))

    pub log_again_wrong : (main k : ℕ) (log : ThreadLog) (mid : List Bool) → slice_get logs k ≡ Some log → length mid ≡ length logs → length first ≡ length logs → Marks logs first (all_entries (take k logs)) mid
        → StartsAgain logs mid log.entries → HasThreads main logs → ⊥
    log_again_wrong main k log mid is len flen h s threads =
        again_wrong main threads (subst (λ es. StartsAgain logs first es) (sym (entries_cut logs k log is)) (again_later logs first mid (all_entries (take k logs)) log.entries (all_entries (drop (suc k) logs)) len flen h s))

    other_number : (n : ℕ) (ls : List ThreadLog) (i : ℕ) (log : ThreadLog) → NumbersRiseFrom n ls → slice_get ls i ≡ Some log → n + i ≤ log.number.0
    other_number n [] i log r is = absurd (cc)
    other_number n (l ∷ ls) zero log r is = let b = r.0 in let same = ap (λ (z : ThreadLog). z.number.0) (some_inj is) in omega (arith, b, same)
    other_number n (l ∷ ls) (suc i) log r is = let b = r.0 in let more = other_number (suc l.number.0) ls i log r.1 is in omega (arith, b, more)

    module _ (main : ℕ) (rise : NumbersRiseFrom 0 logs) (begins : IsFirstRight main logs) (each : StartEach logs logs) (after : List Bool) (len : length after ≡ length logs) (flen : length first ≡ length logs)
        (marks : Marks logs first (all_entries logs) after) where
      marked : (i : ℕ) (log : ThreadLog) (b : Bool) → slice_get logs i ≡ Some log → log.number.0 ≢ 0 → slice_get after i ≡ Some b → bit b ≡ count_by (starts_thread log.number.0) (all_entries logs)
      marked i log b is other now =
          let f = at_within first i (subst (λ n. i < n) (sym flen) (slice_get_within logs i log is)) in
          let m = marks i log f.0 b is f.1 now other in
          let unmarked : bit f.0 ≡ 0 = ap bit (none i f.0 f.1) in
          omega (arith, m, unmarked)

      is_first : (log : ThreadLog) (ls : List ThreadLog) → IsFirstRight main ls → slice_get ls 0 ≡ Some log → log.number.0 ≡ 0
      is_first log [] f is = absurd f
      is_first log (l ∷ ls) f is = ap (λ (z : ThreadLog). z.number.0) (sym (some_inj is)) ∙ f.0

      pub threads_iff : ((i : ℕ) → 1 ≤ i → i < length after → slice_get after i ≡ Some true) ↔ HasThreads main logs
      threads_iff = (
        λ all. threads_right main logs rise begins each (λ log there other. by_place log other (place_of logs log there) all),
        λ h i le less. by_mark h i le (at_within after i less) (at_within logs i (subst (λ n. i < n) len less)),
      )
        where
          by_place : (log : ThreadLog) → log.number.0 ≢ 0 → (i : ℕ) × (slice_get logs i ≡ Some log) → ((i : ℕ) → 1 ≤ i → i < length after → slice_get after i ≡ Some true)
              → count_by (starts_thread log.number.0) (all_entries logs) ≡ 1
          by_place log other (zero, is) all = absurd (other (is_first log logs begins is))
          by_place log other (suc i, is) all =
              let now = all (suc i) (omega arith) (subst (λ n. suc i < n) (sym len) (slice_get_within logs (suc i) log is)) in
              sym (marked (suc i) log true is other now)

          by_mark : HasThreads main logs → (i : ℕ) → 1 ≤ i → (b : Bool) × (slice_get after i ≡ Some b) → (log : ThreadLog) × (slice_get logs i ≡ Some log) → slice_get after i ≡ Some true
          by_mark h i le (true, now) l = now
          by_mark h i le (false, now) l =
              let up = other_number 0 logs i l.0 rise l.1 in
              let other : l.0.number.0 ≢ 0 = λ zero_is. omega (arith, up, le, zero_is) in
              let m = marked i l.0 false l.1 other now in
              let one = threads_count main logs h l.0 (has_at logs i l.0 l.1) other in
              absurd (omega (arith, m, one))

-- one log -------------------------------------------------------------------------

pub mark_taken : (b : Bool) (logs : List ThreadLog) (parent : ThreadNo) (before : List Bool) (e : Entry) (after : List Bool) → b ≡ true → MarksOne b logs parent before e after → StartsBy logs parent e e.request × Marks logs before (e ∷ []) after
mark_taken true logs parent before e after is h = h
mark_taken false logs parent before e after is h = absurd (cc)

pub mark_refused : (b : Bool) (logs : List ThreadLog) (parent : ThreadNo) (before : List Bool) (e : Entry) (after : List Bool) → b ≡ false → MarksOne b logs parent before e after → (StartsBy logs parent e e.request → ⊥) ⊎ StartsAgain logs before (e ∷ [])
mark_refused true logs parent before e after is h = absurd (cc)
mark_refused false logs parent before e after is h = h

pub log_taken : (b : Bool) (logs : List ThreadLog) (parent : ThreadNo) (before : List Bool) (es : List Entry) (after : List Bool) → b ≡ true → MarksLog b logs parent before es after → StartAll logs parent es × Marks logs before es after
log_taken true logs parent before es after is h = h
log_taken false logs parent before es after is h = absurd (cc)

pub log_refused : (b : Bool) (logs : List ThreadLog) (parent : ThreadNo) (before : List Bool) (es : List Entry) (after : List Bool) → b ≡ false → MarksLog b logs parent before es after → (StartAll logs parent es → ⊥) ⊎ StartsAgain logs before es
log_refused true logs parent before es after is h = absurd (cc)
log_refused false logs parent before es after is h = h

has_item : {X : Type 0} (xs : List X) (k : ℕ) (x : X) → slice_get xs k ≡ Some x → Has xs x
has_item xs k x is = has_at xs k x is

module _ (logs : List ThreadLog) (parent : ThreadNo) (first mid : List Bool) (es : List Entry) (k : ℕ) (e : Entry) (here : slice_get es k ≡ Some e) (len : length mid ≡ length logs) (flen : length first ≡ length logs)
    (marks : Marks logs first (take k es) mid) where
  pub log_stops : (StartsBy logs parent e e.request → ⊥) ⊎ StartsAgain logs mid (e ∷ []) → (StartAll logs parent es → ⊥) ⊎ StartsAgain logs first es
  log_stops h = elim h [
    | inl wrong ↦ inl (λ all. wrong (all e (has_item es k e here)))
    | inr again ↦ inr (subst (λ xs. StartsAgain logs first xs) (sym (cut_at es k e here)) (again_later logs first mid (take k es) (e ∷ []) (drop (suc k) es) len flen marks again))
  ]

  pub all_more : StartAll logs parent (take k es) → StartsBy logs parent e e.request → StartAll logs parent (take (k + 1) es)
  all_more all one x h = elim (has_more es k e x here (subst (λ n. Has (take n es) x) up h)) [
    | inl before ↦ all x before
    | inr same ↦ subst (λ (z : Entry). StartsBy logs parent z z.request) same one
  ]
    where
      up : k + 1 ≡ suc k
      up = omega arith

  pub marks_step : (after : List Bool) → Marks logs mid (e ∷ []) after → Marks logs first (take (k + 1) es) after
  marks_step after more = subst (λ xs. Marks logs first xs after) (sym (ap (λ n. take n es) up ∙ taken_more es k e here)) (marks_more logs first mid after (take k es) (e ∷ []) len marks more)
    where
      up : k + 1 ≡ suc k
      up = omega arith

pub replicated : (n i : ℕ) (b : Bool) → slice_get (replicate n false) i ≡ Some b → b ≡ false
replicated zero i b is = absurd (cc)
replicated (suc n) zero b is = sym (some_inj is)
replicated (suc n) (suc i) b is = replicated n i b is

pub take_end : {X : Type 0} (xs : List X) (k : ℕ) → length xs ≤ k → take k xs ≡ xs
take_end [] zero le = refl
take_end [] (suc k) le = refl
take_end (x ∷ xs) zero le = absurd (omega (arith, le))
take_end (x ∷ xs) (suc k) le = ap (λ zs. x ∷ zs) (take_end xs k (omega (arith, le)))
