-- Logs with the promised order of stamps are tied.
use Rattle.std.proofs.Common.{◌≡◌, ℕ, ◌+◌, ◌<◌, ◌≤◌, Bool, true, false, List, [], ◌∷◌, refl, sym, ◌∙◌, ap, subst, inl, inr, arith, length}
use Rattle.std.specs.Prelude.{Some, if◌then◌else◌, ◌==◌, nat_le}
use Rattle.std.proofs.lemmas.Bool.{eq-eqb}
use Rattle.std.proofs.lemmas.Bool.Decides.{eqb_tells}
use Rattle.history.specs.declared.entry.Entry.{Entry}
use Rattle.history.specs.declared.entry.Plain.TheVariants as plain
use Rattle.history.specs.declared.entry.Reply.{Reply}
use Rattle.history.specs.declared.entry.Request.{Request}
use Rattle.history.specs.declared.entry.Request.TheVariants as request
use Rattle.history.specs.declared.log.ThreadLog.{ThreadLog}
use Rattle.bsan_ids.specs.declared.numbers.ThreadNo.{ThreadNo}
use Rattle.history.specs.declared.entry.Verdict.TheVariants as verdict
use Rattle.bsan_ids.specs.declared.numbers.Limits.{Limits}
use Rattle.runs.specs.Parts.{Has, child_of, is_child, spawned_of}
use Rattle.runs.specs.Machine.{Machine}
use Rattle.runs.specs.Interleaving.{Allowed}
use Rattle.runs.specs.Stamps.{RisesFrom, SpawnedBefore, StandsAmong, IsTied}
use Rattle.history.specs.Merge.{by_stamp, put_by_stamp}
use Rattle.runs.specs.Merge.{all_entries, merged, entries_of}
use Rattle.runs.specs.Right.{HasThreads, HasRuns, end_of, Numbered, starts_thread}
use Rattle.runs.specs.Tree.{HasStampOrder, IsEntryRight}
use Rattle.runs.proofs.MergeLaws.{merged_with, in_merged_with}
use Rattle.runs.proofs.Counting.{one_passes}
use Rattle.runs.proofs.Order.{child_here}

pub spawned_inj : {a b : ThreadNo} → plain.Spawned a ≡ plain.Spawned b → a ≡ b
spawned_inj h = cc

-- the log in which an entry of the merge stands
pub log_of_entry : (logs : List ThreadLog) (x : Entry) → Has (merged logs) x → (l : ThreadLog) × Has logs l × Has l.entries x
log_of_entry [] x h = absurd h
log_of_entry (l ∷ ls) x h = elim (in_merged_with l.entries (all_entries ls) x h) [
  | inl own ↦ (l, inl refl, own)
  | inr other ↦ let r = log_of_entry ls x other in (r.0, inr r.1, r.2)
]

pub in_inserted_first : (x : Entry) (ys : List Entry) → Has (put_by_stamp x ys) x
in_inserted_first x [] = inl refl
in_inserted_first x (y ∷ ys) = by_test (in_inserted_first x ys) (nat_le x.stamp.0 y.stamp.0)
  where
    by_test : Has (put_by_stamp x ys) x → (b : Bool) → Has (if b then x ∷ y ∷ ys else y ∷ put_by_stamp x ys) x
    by_test more true = inl refl
    by_test more false = inr more

pub in_inserted_rest : (x : Entry) (ys : List Entry) (z : Entry) → Has ys z → Has (put_by_stamp x ys) z
in_inserted_rest x [] z h = absurd h
in_inserted_rest x (y ∷ ys) z h = by_test (in_inserted_rest x ys z) h (nat_le x.stamp.0 y.stamp.0)
  where
    by_test : (Has ys z → Has (put_by_stamp x ys) z) → Has (y ∷ ys) z → (b : Bool) → Has (if b then x ∷ y ∷ ys else y ∷ put_by_stamp x ys) z
    by_test more g true = inr g
    by_test more (inl g) false = inl g
    by_test more (inr g) false = inr (more g)

pub in_merge_own : (xs ys : List Entry) (z : Entry) → Has xs z → Has (merged_with xs ys) z
in_merge_own [] ys z h = absurd h
in_merge_own (x ∷ xs) ys z (inl same) = subst (λ w. Has (put_by_stamp x (merged_with xs ys)) w) same (in_inserted_first x (merged_with xs ys))
in_merge_own (x ∷ xs) ys z (inr h) = in_inserted_rest x (merged_with xs ys) z (in_merge_own xs ys z h)

pub in_merge_other : (xs ys : List Entry) (z : Entry) → Has (by_stamp ys) z → Has (merged_with xs ys) z
in_merge_other [] ys z h = h
in_merge_other (x ∷ xs) ys z h = in_inserted_rest x (merged_with xs ys) z (in_merge_other xs ys z h)

pub in_merge : (logs : List ThreadLog) (l : ThreadLog) (x : Entry) → Has logs l → Has l.entries x → Has (merged logs) x
in_merge [] l x g h = absurd g
in_merge (k ∷ ks) l x (inl same) h = in_merge_own k.entries (all_entries ks) x (subst (λ (m : ThreadLog). Has m.entries x) (sym same) h)
in_merge (k ∷ ks) l x (inr g) h = in_merge_other k.entries (all_entries ks) x (in_merge ks l x g h)

pub log_of_part : (logs : List ThreadLog) (t : ℕ) (x : Entry) → Has (entries_of logs t) x → (l : ThreadLog) × Has logs l × Has l.entries x
log_of_part [] t x h = absurd h
log_of_part (l ∷ ls) t x h = by_test (log_of_part ls t x) (l.number.0 == t) h
  where
    by_test : (Has (entries_of ls t) x → (k : ThreadLog) × Has ls k × Has k.entries x) → (b : Bool) → Has (if b then l.entries else entries_of ls t) x → (k : ThreadLog) × Has (l ∷ ls) k × Has k.entries x
    by_test more true g = (l, inl refl, g)
    by_test more false g = let r = more g in (r.0, inr r.1, r.2)

pub starts_one : (x : Entry) (c : ℕ) → child_of x ≡ Some c → starts_thread c x ≡ true
starts_one x c is = ap (λ o. is_child o c) is ∙ eq-eqb c c refl

-- the entries of logs are their own
abbrev pub OwnEntries : List ThreadLog → Type 0
OwnEntries logs = (l : ThreadLog) (x : Entry) → Has logs l → Has l.entries x → x.thread.0 ≡ l.number.0

-- a thread other than main has its Spawn entry before each entry for which that is known
pub spawned_earlier : (main : ℕ) (logs : List ThreadLog) (a : HasThreads main logs) (log : ThreadLog) (e : Entry) → Has logs log → 0 < log.number.0
    → ((k : ThreadLog) (s : Entry) → Has logs k → Has k.entries s → child_of s ≡ Some log.number.0 → s.stamp.0 < e.stamp.0)
    → SpawnedBefore (merged logs) log.number.0 e
spawned_earlier main logs a log e g above order = elim (a.spawned log g) [
  | inl main_is ↦ absurd (omega (arith, main_is, above))
  | inr sp ↦
      let k = log_of_part logs sp.parent.0 sp.spawn sp.stands in
      (sp.spawn, in_merge logs k.0 sp.spawn k.1 k.2, sp.answers, order k.0 sp.spawn k.1 k.2 sp.answers)
]

pub stands_among : (M : Machine) (A : Allowed) (limits : Limits) (main : ℕ) (start : M.State) (logs : List ThreadLog)
    → (a : HasThreads main logs) → HasRuns M limits start logs → HasStampOrder logs → OwnEntries logs
    → (log : ThreadLog) (e : Entry) → Has logs log → Has log.entries e
    → (r : Request) → e.request ≡ r → IsEntryRight A e r → StandsAmong A (end_of logs) (merged logs) e r
stands_among M A limits main start logs a b order own log e g h (request.Make size place) is right = right
stands_among M A limits main start logs a b order own log e g h (request.Print v) is right = right
stands_among M A limits main start logs a b order own log e g h (request.Host n x y) is right = right
stands_among M A limits main start logs a b order own log e g h (request.Spawn f) is right =
    let reply : spawned_of e.reply.plain ≡ Some right.0.0 = ap (λ (y : Reply). spawned_of y.plain) right.3 in
    let child_is : child_of e ≡ Some right.0.0 = child_here e f right.0.0 e.request e.reply is reply in
    let child = a.children log e f g h is in
    let number : child.0.number ≡ right.0 = spawned_inj (sym child.2 ∙ ap (λ (y : Reply). y.plain) right.3) in
    let number' : child.0.number.0 ≡ right.0.0 = ap (λ (n : ThreadNo). n.0) number in (
      right.0,
      right.1,
      right.2,
      λ s in_ child_s. elim (a.spawned child.0 child.1) [
        | inl zero_is ↦ absurd (omega (arith, right.1, number', zero_is))
        | inr sp ↦
            let one = sp.once in
            let same : s ≡ e = one_passes (starts_thread child.0.number.0) (merged logs) s e (omega (arith, one)) in_ (in_merge logs log e g h)
            (starts_one s child.0.number.0 (child_s ∙ ap Some (sym number'))) (starts_one e child.0.number.0 (child_is ∙ ap Some (sym number'))) in
            ap (λ (z : Entry). z.stamp.0) same
      ],
      right.3,
    )
stands_among M A limits main start logs a b order own log e g h (request.Join c) is right =
    let j = b.joined log e c g h is in
    let child = j.3 in
    let number : child.0.number.0 ≡ c.0 = ap (λ (n : ThreadNo). n.0) child.2 in (
      j.0,
      e.reply.carried,
      subst (λ k. SpawnedBefore (merged logs) k e) number
          (spawned_earlier main logs a child.0 e child.1 (omega (arith, number, right.0))
          (λ k s in_k in_s ch. order.spawned_before_join k log s e c in_k g in_s h (ch ∙ ap Some number) is)),
      (λ x in_ of_c.
          let k = log_of_entry logs x in_ in
          let kc : k.0.number.0 ≡ c.0 = sym (own k.0 x k.1 k.2) ∙ of_c in
          order.before_join log k.0 e x g k.1 h k.2 (is ∙ ap request.Join (same_number c k.0.number (sym kc)))),
      j.2,
      reply_is e.reply j.0 j.1 right.1,
    )
  where
    same_number : (a b : ThreadNo) → a.0 ≡ b.0 → a ≡ b
    same_number a b same = ap (λ (n : ℕ). record { 0 = n }) same

    reply_is : (r : Reply) (v : ℕ) → r.plain ≡ plain.Value v → r.verdict ≡ verdict.Clean → r ≡ record { plain = plain.Value v; carried = r.carried; verdict = verdict.Clean }
    reply_is r v p q = ap (λ w. record { plain = w; carried = r.carried; verdict = r.verdict }) p ∙ ap (λ w. record { plain = plain.Value v; carried = r.carried; verdict = w }) q
stands_among M A limits main start logs a b order own log e g h _ is right = right

pub tied_logs : (M : Machine) (A : Allowed) (limits : Limits) (main : ℕ) (start : M.State) (logs : List ThreadLog)
    → (a : HasThreads main logs) → HasRuns M limits start logs → HasStampOrder logs → OwnEntries logs
    → RisesFrom 0 (merged logs)
    → ((log : ThreadLog) (e : Entry) → Has logs log → Has log.entries e → IsEntryRight A e e.request)
    → IsTied A (end_of logs) (merged logs)
tied_logs M A limits main start logs a b order own rises right = record {
  rises = rises;
  started = λ e in_.
      let k = log_of_entry logs e in_ in
      let thread : e.thread.0 ≡ k.0.number.0 = own k.0 e k.1 k.2 in
      elim (eqb_tells 0 k.0.number.0) [
        | inl hit ↦ inl (thread ∙ sym hit.1)
        | inr miss ↦ inr
            (subst (λ t. SpawnedBefore (merged logs) t e) (sym thread)
            (spawned_earlier main logs a k.0 e k.1 (omega (arith, miss.1)) (λ l s in_l in_s ch. order.after_spawn l k.0 s e in_l k.1 in_s k.2 ch)))
      ];
  stands = λ e in_.
      let k = log_of_entry logs e in_ in
      stands_among M A limits main start logs a b order own k.0 e k.1 k.2 e.request refl (right k.0 e k.1 k.2);
}

-- n rising stamps from 1 to n are 1, 2, and so on
pub fewer_than : (k n : ℕ) (es : List Entry) → RisesFrom k es → ((x : Entry) → Has es x → x.stamp.0 ≤ n) → k ≤ n → length es + k ≤ n
fewer_than k n [] r within le = omega (arith, le)
fewer_than k n (e ∷ es) r within le =
    let more = fewer_than e.stamp.0 n es r.1 (λ x h. within x (inr h)) (within e (inl refl)) in omega (arith, more, r.0)

pub numbered_from : (k n : ℕ) (es : List Entry) → RisesFrom k es → ((x : Entry) → Has es x → x.stamp.0 ≤ n) → length es + k ≡ n → Numbered (k + 1) es
numbered_from k n [] r within is = tt
numbered_from k n (e ∷ es) r within is =
    let more = fewer_than e.stamp.0 n es r.1 (λ x h. within x (inr h)) (within e (inl refl)) in
    let here : e.stamp.0 ≡ k + 1 = omega (arith, more, r.0, is) in
    (here, subst (λ j. Numbered (j + 1) es) here (numbered_from e.stamp.0 n es r.1 (λ x h. within x (inr h)) (omega (arith, here, is))))
