-- The record of a whole run is right.
use Rattle.std.proofs.Common.{◌≡◌, ℕ, zero, suc, ◌+◌, ◌<◌, ◌≤◌, Bool, true, false, cond, List, [], ◌∷◌, ◌++◌, refl, sym, ◌∙◌, ap, subst, inl, inr, arith, length, sum_by}
use Rattle.std.specs.Prelude.{◌⊎◌, Some, None, count_by, IsPermutation}
use Rattle.std.specs.List.{flat_map, AllByRecursion, IsDistinct}
use Rattle.std.proofs.lemmas.Bool.{true≢false}
use Rattle.std.proofs.lemmas.List.{length-append}
use Rattle.std.proofs.lemmas.List.Elements.{All-from_recursion}
use Rattle.std.proofs.lemmas.List.Sorted.{IsPermutation-sym}
use Rattle.std.proofs.lemmas.List.Sums.{sum_by-cons, sum_by-append}
use Rattle.bsan_ids.specs.declared.numbers.AllocNo.{AllocNo}
use Rattle.bsan_ids.specs.declared.numbers.Limits.{Limits}
use Rattle.bsan_ids.specs.declared.numbers.ThreadNo.{ThreadNo}
use Rattle.history.specs.declared.entry.Entry.{Entry}
use Rattle.history.specs.declared.entry.Plain.TheVariants as plain
use Rattle.history.specs.declared.entry.Reply.{Reply}
use Rattle.history.specs.declared.entry.Request.{Request}
use Rattle.history.specs.declared.entry.Request.TheVariants as request
use Rattle.ir_ast.specs.declared.types.Place.{Place}
use Rattle.history.specs.declared.log.End.{End}
use Rattle.history.specs.declared.log.End.TheVariants as log_end
use Rattle.history.specs.declared.log.ThreadLog.{ThreadLog}
use Rattle.history.specs.declared.record.RunRecord.{RunRecord}
use Rattle.runs.specs.Interleaving.{Allowed, Legal, first_world}
use Rattle.runs.specs.Machine.{Machine, Memory}
use Rattle.runs.specs.Merge.{all_entries, merged, MayMerge, IsPartwiseMerge}
use Rattle.runs.specs.Parts.{Has, names, of_alloc, of_thread, child_of, spawned_by, spawned_of}
use Rattle.runs.specs.ReplayLaw.{makes, MakesAlone}
use Rattle.history.specs.Histories.{is_make_step}
use Rattle.runs.specs.Right.{NumbersRiseFrom, HasThreads, HasRuns, HasHistories, HasCounts, MergesToRun, IsRight, IsReached, is_main, is_spawned, end_of, history_of, starts_thread, beyond, beyond_of, counting_from, alloc_numbers, thread_numbers, made_by, spawned_by_reply, alloc_limit_of, thread_limit_of, is_spawn, asks_make, asks_spawn, StandsAsking, DrawnAtMost}
use Rattle.runs.specs.Stamps.{RisesFrom}
use Rattle.runs.specs.Theorem.{HasPromises, WholeRunsAreRight, NumbersDiffer}
use Rattle.runs.specs.Threads.{EndsAs}
use Rattle.runs.specs.Tree.{HasStampOrder, IsEntryRight, numbers_of, stamps_of, started_by, children_of, IsStarted, AreRuns, IsTree, IsWholeRun}
use Rattle.runs.proofs.Assembly.{promises_make_one_run}
use Rattle.runs.proofs.Counting.{one_if, one_passes, count_there}
use Rattle.runs.proofs.Countings.{length_counting, counting_once, counting_zero, once_differ, counting_high, counting_split, up_to, above, one, low_up_to, low_above, high_up_to, high_above, counting_up_to, counting_beyond, counting_not_above, counting_above, Cut, cut, some_drawn}
use Rattle.runs.proofs.Differing.{in_part}
use Rattle.runs.proofs.FiberLists.{drawn_moved}
use Rattle.runs.proofs.LogLists.{moved, flat_moved, entries_moved, numbers_moved, weigh_merged, weigh_children, log_weighs, some_log, number_there, number_once, one_log, entries_there, end_there, at_least_moved}
use Rattle.runs.proofs.MergeLaws.{at_most_tells, merged_is_merge}
use Rattle.runs.proofs.Merges.{restrictions_swap, alloc_rises}
use Rattle.runs.proofs.ReplaySums.{is_make_is, is_spawn_is, spawns}
use Rattle.runs.proofs.RightMerges.{run_own}
use Rattle.runs.proofs.Tying.{in_merge, log_of_entry, starts_one}
use Rattle.runs.proofs.Weights.{equals, equals_same, equals_other, sum_flat, sum_same, sum_ones, same_entries, weights_tell_numbers}
use Rattle.runs.proofs.WholeParts.{child_named, first_in, first_agrees, first_none, starts_weigh, entries_weigh, list_less, stamps_weigh, beyond_weigh, nothing_weighs, zero_weigh, once_may_merge, numbers_count, run_made, run_spawned, few_made, few_spawned, history_outside, sum_alloc, legal_unmade}

some_number : (a b : AllocNo) → Some a ≡ Some b → a ≡ b
some_number a b h = cc

spawned_same : {a b : ThreadNo} → plain.Spawned a ≡ plain.Spawned b → a ≡ b
spawned_same h = cc

makes_is : (r : Request) → makes r ≡ true → (size : ℕ) × (place : Place) × (r ≡ request.Make size place)
makes_is (request.Make size place) is = (size, place, refl)
makes_is _ is = absurd (true≢false (sym is))

-- where a number is named
named_is : (o : Rattle.std.specs.declared.option.Option.Option AllocNo) (a : ℕ) → names o a ≡ true → (b : AllocNo) × (o ≡ Some b) × (b.0 ≡ a)
named_is None a is = absurd (true≢false (sym is))
named_is (Some b) a is = (b, refl, Rattle.std.proofs.lemmas.Bool.eqb-true b.0 a is)

-- in the range of numbers, or outside
in_range : (limit a : ℕ) → ((0 < a) × (a ≤ limit)) ⊎ ((a ≡ 0) ⊎ (limit < a))
in_range limit zero = inr (inl refl)
in_range limit (suc a) = elim (at_most_tells (suc a) limit) [ inl hit ↦ inl (omega arith, hit.1) | inr miss ↦ inr (inr miss.1) ]

-- an end by the step limit is above it, and any other carries no stamp
end_low : (limit : ℕ) (e : End) → ((x : Rattle.bsan_ids.specs.declared.numbers.Stamp.Stamp) → e ≡ log_end.StepLimit x → limit < x.0) → sum_by (up_to limit one) (beyond_of e) ≡ 0
end_low limit (log_end.StepLimit x) high = let none = high_up_to limit x.0 one (high x refl) in let nothing : sum_by (up_to limit one) [] ≡ 0 = refl in omega (arith, none, nothing, sum_by-cons (up_to limit one) x.0 [])
end_low limit (log_end.Returned v p) high = refl
end_low limit (log_end.Trapped t) high = refl
end_low limit log_end.TurnLimit high = refl
end_low limit log_end.NoMemory high = refl
end_low limit (log_end.ChildEnded c) high = refl

end_high : (limit : ℕ) (h : ℕ → ℕ) (e : End) → ((x : Rattle.bsan_ids.specs.declared.numbers.Stamp.Stamp) → e ≡ log_end.StepLimit x → limit < x.0) → sum_by (above limit h) (beyond_of e) ≡ sum_by h (beyond_of e)
end_high limit h (log_end.StepLimit x) high = let same = high_above limit x.0 h (high x refl) in omega (arith, same, sum_by-cons (above limit h) x.0 [], sum_by-cons h x.0 [])
end_high limit h (log_end.Returned v p) high = refl
end_high limit h (log_end.Trapped t) high = refl
end_high limit h log_end.TurnLimit high = refl
end_high limit h log_end.NoMemory high = refl
end_high limit h (log_end.ChildEnded c) high = refl

module _ (M : Machine) (O : Memory) (A : Allowed) (limits : Limits) (main : ℕ) (start : M.State) (logs : List ThreadLog) (kept : RunRecord) (lim : limits.allocs ≡ A.allocs) (laws : MakesAlone O)
    (w : IsWholeRun M O A limits main start logs kept.allocs kept.words) (p : IsPermutation logs kept.threads) (rise : NumbersRiseFrom 0 kept.threads) where
  abbrev ls : List ThreadLog
  ls = kept.threads

  abbrev t : IsTree M O A limits (record { 0 = 0 }) None main start 0 logs w.idle_allocs w.idle_threads
  t = w.tree

  there : (l : ThreadLog) → Has logs l → Has ls l
  there = moved logs ls p

  back : (l : ThreadLog) → Has ls l → Has logs l
  back = moved ls logs (IsPermutation-sym logs ls p)

  own_zero : t.own.number.0 ≡ 0
  own_zero = ap (λ (n : ThreadNo). n.0) t.own_number

  own_there : Has ls t.own
  own_there = there t.own (subst (λ xs. Has xs t.own) (sym t.parts) (inl refl))

  below_there : (l : ThreadLog) → Has t.below l → Has ls l
  below_there l h = there l (subst (λ xs. Has xs l) (sym t.parts) (inr h))

  begins : (l : ThreadLog) → Has ls l → (l.number.0 ≡ 0) ⊎ IsStarted logs l
  begins l h = by_place (subst (λ xs. Has xs l) t.parts (back l h))
    where
      by_place : Has (t.own ∷ t.below) l → (l.number.0 ≡ 0) ⊎ IsStarted logs l
      by_place (inl same) = inl (ap (λ (z : ThreadLog). z.number.0) (sym same) ∙ own_zero)
      by_place (inr g) = inr (t.started l g)

  -- numbers stand once -------------------------------------------------------------------

  numbers_all : (h : ℕ → ℕ) → sum_by h (numbers_of ls) ≡ h 0 + sum_by h (numbers_of t.below)
  numbers_all h =
      numbers_moved h logs ls p ∙ ap (λ xs. sum_by h (numbers_of xs)) t.parts ∙ sum_by-cons h t.own.number.0 (numbers_of t.below)
      ∙ ap (λ n. h n + sum_by h (numbers_of t.below)) own_zero

  once : (n : ℕ) → sum_by (equals n) (numbers_of ls) ≤ 1
  once n = number_once 0 n ls rise

  once_logs : (n : ℕ) → sum_by (equals n) (numbers_of logs) ≤ 1
  once_logs n = let a = once n in omega (arith, a, numbers_moved (equals n) logs ls p)

  once_below : (n : ℕ) → sum_by (equals n) (numbers_of t.below) ≤ 1
  once_below n = let a = once n in omega (arith, a, numbers_all (equals n))

  none_zero : sum_by (equals 0) (numbers_of t.below) ≡ 0
  none_zero = let a = once 0 in let b = equals_same 0 in omega (arith, a, b, numbers_all (equals 0))

  started_count : (n : ℕ) → count_by (starts_thread n) (merged ls) ≡ sum_by (equals n) (numbers_of t.below)
  started_count n =
      sum_same (one_if (starts_thread n)) (λ (e : Entry). sum_by (equals n) (started_by (child_of e))) (starts_weigh n) (merged ls)
      ∙ weigh_merged (λ (e : Entry). sum_by (equals n) (started_by (child_of e))) ls ∙ entries_moved (λ (e : Entry). sum_by (equals n) (started_by (child_of e))) logs ls p
      ∙ weigh_children (equals n) logs ∙ t.children (equals n)

  one_child : (x y : Entry) (c : ℕ) → Has (merged ls) x → Has (merged ls) y → child_of x ≡ Some c → child_of y ≡ Some c → x ≡ y
  one_child x y c hx hy is_x is_y =
      let a = started_count c in
      let b = once_below c in
      one_passes (starts_thread c) (merged ls) x y (omega (arith, a, b)) hx hy (starts_one x c is_x) (starts_one y c is_y)

  below_once : (l : ThreadLog) → Has ls l → 0 < l.number.0 → sum_by (equals l.number.0) (numbers_of t.below) ≡ 1
  below_once l h above_zero =
      let some = number_there ls l h in
      let few = once l.number.0 in
      let none = equals_other l.number.0 0 (λ same. omega (arith, same, above_zero)) in
      omega (arith, some, few, none, numbers_all (equals l.number.0))

  right_threads : HasThreads main ls
  right_threads = record {
    rise = rise;
    first = λ log h zero_is.
        (let same = one_log 0 ls t.own log rise own_there h (own_zero ∙ sym zero_is) in
        (ap (λ (z : ThreadLog). z.parent) (sym same) ∙ t.own_parent, ap (λ (z : ThreadLog). z.entry_function) (sym same) ∙ t.own_function));
    has_first = (t.own, own_there, own_zero);
    spawned = λ log h. elim (begins log h) [
      | inl z ↦ inl z
      | inr s ↦ inr (record {
        parent = s.parent.number;
        spawn = s.spawn;
        names_parent = s.names_parent;
        stands = subst (λ es. Has es s.spawn) (sym (entries_there 0 ls s.parent rise (there s.parent s.there))) s.stands;
        request = s.request;
        answers = s.answers;
        once = started_count log.number.0 ∙ below_once log h (let a = s.above in omega (arith, a));
      })
    ];
    children = λ log e f h g asked.
        let R : Request → Type 0 = λ r. IsEntryRight A e r in
        let right : IsEntryRight A e (request.Spawn f) = subst R asked (t.steps log e (back log h) g).right in
        let c : ThreadNo = right.0 in
        let child : child_of e ≡ Some c.0 = ap (λ r. spawned_by r e.reply.plain) asked ∙ ap (λ (y : Reply). spawned_of y.plain) right.3 in
        let some = count_there (starts_thread c.0) (merged ls) e (in_merge ls log e h g) (starts_one e c.0 child) in
        let found = some_log t.below c.0 (let a = started_count c.0 in omega (arith, some, a)) in
        let same : found.0.number ≡ c = ap (λ (m : ℕ). record { 0 = m }) found.2 in
        (found.0, below_there found.0 found.1, ap (λ (y : Reply). y.plain) right.3 ∙ ap plain.Spawned (sym same));
  }

  -- runs -------------------------------------------------------------------------------------

  firsts_once : (c : ℕ) → sum_by (equals c) (Rattle.runs.specs.Tree.first_numbers t.firsts) ≤ 1
  firsts_once c = let a = t.firsts_below (equals c) in let b = once_below c in omega (arith, a, b)

  abbrev starts : ℕ → M.State
  starts = first_in t.firsts start

  start_zero : starts 0 ≡ start
  start_zero = first_none t.firsts start 0 (t.firsts_below (equals 0) ∙ none_zero)

  all_runs : AreRuns M limits starts logs w.idle_allocs w.idle_threads
  all_runs = t.runs starts start_zero (first_agrees t.firsts start firsts_once)

  reached : (bound : ℕ) (l : ThreadLog) → Has ls l → l.number.0 < bound → IsReached ls l.number.0
  reached zero l h less = absurd (omega (arith, less))
  reached (suc bound) l h less = elim (begins l h) [
    | inl z ↦ subst (λ n. IsReached ls n) (sym z) is_main
    | inr s ↦
        let b = s.above in
        is_spawned s.spawn (reached bound s.parent (there s.parent s.there) (omega (arith, less, b)))
        (subst (λ es. Has es s.spawn) (sym (entries_there 0 ls s.parent rise (there s.parent s.there))) s.stands) s.answers
  ]

  end_is : (c : ThreadNo) (child : ThreadLog) → Has ls child → child.number ≡ c → end_of ls c.0 ≡ child.«end»
  end_is c child h same = ap (λ (n : ThreadNo). end_of ls n.0) (sym same) ∙ end_there 0 ls child rise h

  abbrev right_runs : HasRuns M limits start ls
  right_runs = record {
    starts = starts;
    first = start_zero;
    reached = λ log h. reached (suc log.number.0) log h (omega arith);
    runs = λ log h. all_runs.each log (back log h);
    joined = λ log e c h g is.
        (let j = t.joined log e c (back log h) g is in
        let at = there j.child (j.is_family.among j.child j.is_family.own) in
        (j.word, j.value, end_is c j.child at j.number ∙ j.returned, (j.child, at, j.number)));
    ended = λ log c h is.
        (let j = t.ended log c (back log h) is in
        let at = there j.child j.there in
        ((j.child, at, j.number), λ v q returned. j.other v q (sym (end_is c j.child at j.number) ∙ returned)));
  }

  -- stamps -----------------------------------------------------------------------------------

  stamps_all : (h : ℕ → ℕ) → sum_by (λ (e : Entry). h e.stamp.0) (all_entries ls) + sum_by h (beyond ls) ≡ sum_by h (counting_from 1 kept.words.stamps)
  stamps_all h = sym (stamps_weigh h ls) ∙ flat_moved h stamps_of logs ls p ∙ w.stamps_drawn h

  stamp_once : (s : ℕ) → sum_by (λ (e : Entry). equals s e.stamp.0) (all_entries ls) ≤ 1
  stamp_once s = let a = stamps_all (equals s) in let b = counting_once s 1 kept.words.stamps in omega (arith, a, b)

  merges : MayMerge ls
  merges = once_may_merge ls (λ l h. (let run = all_runs.each l (back l h) in (run_own M limits starts l run, run.rises))) stamp_once

  abbrev merge : IsPartwiseMerge ls (merged ls)
  merge = merged_is_merge ls rise merges

  low_stamp : (l : ThreadLog) (e : Entry) → Has ls l → Has l.entries e → e.stamp.0 ≤ limits.steps
  low_stamp l e h g = (t.steps l e (back l h) g).within

  high_end : (l : ThreadLog) → Has ls l → (x : Rattle.bsan_ids.specs.declared.numbers.Stamp.Stamp) → l.«end» ≡ log_end.StepLimit x → limits.steps < x.0
  high_end l h x is =
      let run = all_runs.each l (back l h) in
      let ends : EndsAs M limits run.last (log_end.StepLimit x) = subst (λ e. EndsAs M limits run.last e) is run.«end» in ends.1

  abbrev c : Cut limits.steps kept.words.stamps
  c = cut limits.steps kept.words.stamps

  split : counting_from 1 kept.words.stamps ≡ counting_from 1 c.low ++ counting_from (1 + c.low) c.high
  split = ap (counting_from 1) c.sum ∙ counting_split 1 c.low c.high

  counted_low : sum_by (up_to limits.steps one) (counting_from 1 kept.words.stamps) ≡ c.low
  counted_low =
      let le = c.within in
      let a = counting_up_to limits.steps 1 c.low (omega (arith, le)) in
      let b = high_part c.high c.full in
      let s = ap (λ xs. sum_by (up_to limits.steps one) xs) split in
      omega (arith, a, b, s, sum_by-append (up_to limits.steps one) (counting_from 1 c.low) (counting_from (1 + c.low) c.high))
    where
      high_part : (d : ℕ) → (0 < d → c.low ≡ limits.steps) → sum_by (up_to limits.steps one) (counting_from (1 + c.low) d) ≡ 0
      high_part zero full = refl
      high_part (suc d) full = let same = full (omega arith) in counting_beyond limits.steps (1 + c.low) (suc d) (omega (arith, same))

  entries_many : length (merged ls) ≡ c.low
  entries_many =
      let a = sym (sum_ones (merged ls)) ∙ weigh_merged (λ (e : Entry). 1) ls in
      let b = entries_weigh (λ (e : Entry). up_to limits.steps one e.stamp.0) (λ (e : Entry). 1) ls (λ l e h g. low_up_to limits.steps e.stamp.0 one (low_stamp l e h g)) in
      let d = beyond_weigh (up_to limits.steps one) (λ n. 0) ls (λ l h. end_low limits.steps l.«end» (high_end l h) ∙ sym (nothing_weighs (beyond_of l.«end»))) ∙ nothing_weighs (beyond ls) in
      let all = stamps_all (up_to limits.steps one) in
      let low = counted_low in
      omega (arith, a, b, d, all, low)

  ends_many : length (beyond ls) ≡ c.high
  ends_many =
      let a = stamps_all one in
      let b = sum_ones (counting_from 1 kept.words.stamps) ∙ length_counting 1 kept.words.stamps in
      let e = sym (sum_ones (merged ls)) ∙ weigh_merged (λ (x : Entry). 1) ls in
      let d = sum_ones (beyond ls) in
      let m = entries_many in
      let s = c.sum in
      omega (arith, a, b, e, d, m, s)

  stamp_within : (e : Entry) → Has (merged ls) e → e.stamp.0 ≤ length (merged ls)
  stamp_within e h =
      let f = log_of_entry ls e h in
      let low = low_stamp f.0 e f.1 f.2 in
      let some = log_weighs (λ (x : Entry). equals e.stamp.0 x.stamp.0) ls f.0 e f.1 f.2 in
      let one_is = equals_same e.stamp.0 in
      let all = stamps_all (equals e.stamp.0) in
      let m = entries_many in
      let s = c.sum in
      elim (at_most_tells e.stamp.0 kept.words.stamps) [
        | inl hit ↦ (let le = hit.1 in by_high c.high c.full le low m s)
        | inr miss ↦ (let more = miss.1 in let none = counting_high e.stamp.0 1 kept.words.stamps (omega (arith, more)) in absurd (omega (arith, some, one_is, all, none)))
      ]
    where
      by_high : (d : ℕ) → (0 < d → c.low ≡ limits.steps) → e.stamp.0 ≤ kept.words.stamps → e.stamp.0 ≤ limits.steps → length (merged ls) ≡ c.low → kept.words.stamps ≡ c.low + d → e.stamp.0 ≤ length (merged ls)
      by_high zero full le low m s = omega (arith, le, m, s)
      by_high (suc d) full le low m s = let same = full (omega arith) in omega (arith, same, low, m)

  order : HasStampOrder ls
  order = record {
    after_spawn = λ a b s x ha hb hs hx is. elim (begins b hb) [
      | inl z ↦
          let some = count_there (starts_thread 0) (merged ls) s (in_merge ls a s ha hs) (starts_one s 0 (is ∙ ap Some z)) in
          let count = started_count 0 in
          let none = none_zero in
          absurd (omega (arith, some, count, none))
      | inr sp ↦
          let same : sp.spawn ≡ s = one_child sp.spawn s b.number.0 (in_merge ls sp.parent sp.spawn (there sp.parent sp.there) sp.stands) (in_merge ls a s ha hs) sp.answers is in
          subst (λ (y : Entry). y.stamp.0 < x.stamp.0) same (Rattle.runs.proofs.MergeLaws.above_first sp.spawn.stamp.0 b.entries x (sp.later b sp.is_family.own).0 hx)
    ];
    before_join = λ a b j x ha hb hj hx is.
        let q = t.joined a j b.number (back a ha) hj is in
        let at = there q.child (q.is_family.among q.child q.is_family.own) in
        let same : b ≡ q.child = one_log 0 ls b q.child rise hb at (ap (λ (n : ThreadNo). n.0) (sym q.number)) in
        q.earlier q.child x q.is_family.own (subst (λ (z : ThreadLog). Has z.entries x) same hx);
    spawned_before_join = λ a b s j n ha hb hs hj child is.
        let q = t.joined b j n (back b hb) hj is in
        let same : q.spawn ≡ s = one_child q.spawn s n.0 (in_merge ls b q.spawn hb q.stands) (in_merge ls a s ha hs) q.answers child in
        subst (λ (y : Entry). y.stamp.0 < j.stamp.0) same q.after_spawn;
  }

  -- allocations --------------------------------------------------------------------------------

  history_is : (a : ℕ) → 0 < a → a ≤ limits.allocs → history_of kept.allocs a ≡ of_alloc a (merged ls)
  history_is a low high =
      let h = w.histories a low high in
      same_entries 0 0 (history_of kept.allocs a) (of_alloc a (merged ls)) h.rises (alloc_rises a 0 (merged ls) merge.rises)
      (λ k. h.exact k ∙ sum_alloc k a (all_entries logs) ∙ sym (entries_moved (λ (e : Entry). cond (names e.alloc a) (k e) 0) logs ls p) ∙ sym (weigh_merged (λ (e : Entry). cond (names e.alloc a) (k e) 0) ls) ∙ sym (sum_alloc k a (merged ls)))

  no_history : (a : ℕ) → (a ≡ 0) ⊎ (limits.allocs < a) → history_of kept.allocs a ≡ []
  no_history a (inl z) = history_outside 0 limits.allocs kept.allocs a w.rise (inl (omega (arith, z)))
  no_history a (inr more) = history_outside 0 limits.allocs kept.allocs a w.rise (inr more)

  right_histories : HasHistories O limits ls kept.allocs
  right_histories = record {
    rise = w.rise;
    stamps = λ a. elim (in_range limits.allocs a) [
      | inl slot ↦ (w.histories a slot.0 slot.1).rises
      | inr out ↦ subst (λ es. RisesFrom 0 es) (sym (no_history a out)) tt
    ];
    legal = λ a. elim (in_range limits.allocs a) [
      | inl slot ↦ (w.histories a slot.0 slot.1).legal
      | inr out ↦ subst (λ es. Legal O (O.unmade a) es) (sym (no_history a out)) tt
    ];
    parts = λ a u low high. ap (of_thread u) (history_is a low high) ∙ restrictions_swap u a (merged ls) ∙ ap (of_alloc a) (merge.parts u);
  }

  outside : (a : ℕ) → (a ≡ 0) ⊎ (limits.allocs < a) → (e : Entry) → Has (of_alloc a (merged ls)) e → (makes e.request ≡ false) × (e.reply ≡ O.reply (O.unmade a) e.request e.stamp.0)
  outside a out e h =
      let at = in_part a (merged ls) e h in
      let n = named_is e.alloc a at.1 in
      let f = log_of_entry ls e at.0 in
      let step = t.steps f.0 e (back f.0 f.1) f.2 in
      (by_make (makes e.request) refl n.0 n.1 n.2 step.right, subst (λ k. e.reply ≡ O.reply (O.unmade k) e.request e.stamp.0) n.2 (step.outside n.0 n.1 (far n.0 n.2 out)))
    where
      far : (b : AllocNo) → b.0 ≡ a → (a ≡ 0) ⊎ (limits.allocs < a) → (b.0 ≡ 0) ⊎ (limits.allocs < b.0)
      far b same (inl z) = inl (same ∙ z)
      far b same (inr more) = inr (omega (arith, same, more))

      by_make : (k : Bool) → makes e.request ≡ k → (b : AllocNo) → e.alloc ≡ Some b → b.0 ≡ a → IsEntryRight A e e.request → makes e.request ≡ false
      by_make false is b named same right = is
      by_make true is b named same right =
          let m = makes_is e.request is in
          let R : Request → Type 0 = λ r. IsEntryRight A e r in
          let r : IsEntryRight A e (request.Make m.0 m.1) = subst R m.2 right in
          let one_is : r.0 ≡ b = some_number r.0 b (sym r.1 ∙ named) in
          let at = ap (λ (z : AllocNo). z.0) one_is in
          absurd (by_side out at r.2 r.3)
        where
          by_side : (a ≡ 0) ⊎ (limits.allocs < a) → {x : ℕ} → x ≡ b.0 → 0 < x → x ≤ A.allocs → ⊥
          by_side (inl z) at low high = omega (arith, z, at, low, same)
          by_side (inr more) at low high = omega (arith, more, at, high, same, lim)

  promises : HasPromises M O A limits main start ls kept.allocs
  promises = record {
    threads = right_threads;
    runs = right_runs;
    histories = right_histories;
    order = order;
    merges = merges;
    entries = λ log e h g. (t.steps log e (back log h) g).right;
    stamps = stamp_within;
    within = (let a = entries_many in let b = c.within in omega (arith, a, b));
    unslotted = λ a. elim (in_range limits.allocs a) [ inl slot ↦ inl slot | inr out ↦ inr (legal_unmade O laws a (of_alloc a (merged ls)) (outside a out)) ];
  }

  run : MergesToRun M O A limits start (merged ls)
  run = promises_make_one_run M O A limits main start ls kept.allocs promises

  -- numbers ------------------------------------------------------------------------------------

  made_few : sum_by (λ (e : Entry). length (made_by e.reply.plain)) (all_entries logs) ≤ count_by is_make_step (merged ls)
  made_few =
      let k : Entry → ℕ = λ e. length (made_by e.reply.plain) in
      let all = weigh_merged k ls ∙ entries_moved k logs ls p in
      let less = list_less k (one_if is_make_step) (merged ls) (λ e h. by_make e h (makes e.request) refl) in
      omega (arith, all, less)
    where
      by_make : (e : Entry) → Has (merged ls) e → (b : Bool) → makes e.request ≡ b → length (made_by e.reply.plain) ≤ one_if is_make_step e
      by_make e h true is = let one_is : one_if is_make_step e ≡ 1 = ap (λ b. cond b 1 0) (is_make_is e e.request ∙ is) in let few = few_made e.reply.plain in omega (arith, one_is, few)
      by_make e h false is = let none : length (made_by e.reply.plain) ≡ 0 = ap (length {A = ℕ}) (run_made M O A laws (first_world M O start) (merged ls) run.run e h is) in omega (arith, none)

  spawned_few : sum_by (λ (e : Entry). length (spawned_by_reply e.reply.plain)) (all_entries logs) ≤ count_by is_spawn (merged ls)
  spawned_few =
      let k : Entry → ℕ = λ e. length (spawned_by_reply e.reply.plain) in
      let all = weigh_merged k ls ∙ entries_moved k logs ls p in
      let less = list_less k (one_if is_spawn) (merged ls) (λ e h. by_spawn e h (spawns e.request) refl) in
      omega (arith, all, less)
    where
      by_spawn : (e : Entry) → Has (merged ls) e → (b : Bool) → spawns e.request ≡ b → length (spawned_by_reply e.reply.plain) ≤ one_if is_spawn e
      by_spawn e h true is = let one_is : one_if is_spawn e ≡ 1 = ap (λ b. cond b 1 0) (is_spawn_is e e.request ∙ is) in let few = few_spawned e.reply.plain in omega (arith, one_is, few)
      by_spawn e h false is = let none : length (spawned_by_reply e.reply.plain) ≡ 0 = ap (length {A = ℕ}) (run_spawned M O A laws (first_world M O start) (merged ls) run.run e h is) in omega (arith, none)

  many : (xs ys : List ℕ) (n : ℕ) → ((h : ℕ → ℕ) → sum_by h (xs ++ ys) ≡ sum_by h (counting_from 1 n)) → length xs + length ys ≡ n
  many xs ys n weighs =
      let a = weighs one in
      let b = sum_ones (xs ++ ys) in
      let d = sum_ones (counting_from 1 n) ∙ length_counting 1 n in
      omega (arith, a, b, d, length-append xs ys)

  drawn_allocs : DrawnAtMost M asks_make is_make_step limits starts ls kept.words.allocs
  drawn_allocs =
      let n = length (flat_map (λ (log : ThreadLog). alloc_limit_of log.«end») logs) + length w.idle_allocs in
      let all = many (flat_map alloc_numbers logs) w.idle_allocs kept.words.allocs w.allocs_drawn in
      let count = numbers_count made_by alloc_limit_of logs in
      let few = made_few in
      (n, at_least_moved (StandsAsking M asks_make limits starts) n logs ls once_logs p all_runs.made, omega (arith, all, count, few))

  drawn_threads : DrawnAtMost M asks_spawn is_spawn limits starts ls kept.words.threads
  drawn_threads =
      let n = length (flat_map (λ (log : ThreadLog). thread_limit_of log.«end») logs) + length w.idle_threads in
      let all = many (flat_map thread_numbers logs) w.idle_threads kept.words.threads w.threads_drawn in
      let count = numbers_count spawned_by_reply thread_limit_of logs in
      let few = spawned_few in
      (n, at_least_moved (StandsAsking M asks_spawn limits starts) n logs ls once_logs p all_runs.spawned, omega (arith, all, count, few))

  beyond_above : (h : ℕ → ℕ) → sum_by h (beyond ls) ≡ sum_by h (counting_from (limits.steps + 1) (length (beyond ls)))
  beyond_above h =
      let le = c.within in
      let a = stamps_all (above limits.steps h) in
      let b = entries_weigh (λ (e : Entry). above limits.steps h e.stamp.0) (λ (e : Entry). 0) ls (λ l e g k. low_above limits.steps e.stamp.0 h (low_stamp l e g k)) ∙ zero_weigh (all_entries ls) in
      let d = beyond_weigh (above limits.steps h) h ls (λ l g. end_high limits.steps h l.«end» (high_end l g)) in
      let low = counting_not_above limits.steps 1 c.low h (omega (arith, le)) in
      let s = ap (λ xs. sum_by (above limits.steps h) xs) split in
      let high = high_part c.high c.full in
      let m : sum_by h (counting_from (limits.steps + 1) c.high) ≡ sum_by h (counting_from (limits.steps + 1) (length (beyond ls))) = ap (λ n. sum_by h (counting_from (limits.steps + 1) n)) (sym ends_many) in
      omega (arith, a, b, d, low, s, high, m, sum_by-append (above limits.steps h) (counting_from 1 c.low) (counting_from (1 + c.low) c.high))
    where
      high_part : (d : ℕ) → (0 < d → c.low ≡ limits.steps) → sum_by (above limits.steps h) (counting_from (1 + c.low) d) ≡ sum_by h (counting_from (limits.steps + 1) d)
      high_part zero full = refl
      high_part (suc d) full =
          let same = full (omega arith) in
          let first : 1 + c.low ≡ limits.steps + 1 = omega (arith, same) in
          counting_above limits.steps (1 + c.low) (suc d) h (omega (arith, same)) ∙ ap (λ n. sum_by h (counting_from n (suc d))) first

  moved_numbers : (f : ThreadLog → List ℕ) → IsPermutation (flat_map f logs) (flat_map f ls)
  moved_numbers f = weights_tell_numbers (flat_map f logs) (flat_map f ls) (λ h. sym (flat_moved h f logs ls p))

  right_counts : HasCounts M limits starts ls kept.words
  right_counts =
      let made = drawn_moved kept.words.allocs (flat_map alloc_numbers logs) (flat_map alloc_numbers ls) (moved_numbers alloc_numbers) (some_drawn kept.words.allocs (flat_map alloc_numbers logs) w.idle_allocs w.allocs_drawn) in
      let spawned = drawn_moved kept.words.threads (flat_map thread_numbers logs) (flat_map thread_numbers ls) (moved_numbers thread_numbers) (some_drawn kept.words.threads (flat_map thread_numbers logs) w.idle_threads w.threads_drawn) in
      record {
        stamps = (let a = entries_many in let b = ends_many in let s = c.sum in omega (arith, a, b, s));
        above = weights_tell_numbers (beyond ls) (counting_from (limits.steps + 1) (length (beyond ls))) beyond_above;
        full = λ some. entries_many ∙ c.full (let b = ends_many in omega (arith, some, b));
        allocs = drawn_allocs;
        threads = drawn_threads;
        made_within = All-from_recursion (λ n. n ≤ kept.words.allocs) (flat_map alloc_numbers ls) made.0;
        made_differ = made.1;
        spawned_within = All-from_recursion (λ n. n ≤ kept.words.threads) (flat_map thread_numbers ls) spawned.0;
        spawned_differ = spawned.1;
      }

  pub right_record : IsRight M O A limits main start kept
  right_record = record { threads = right_threads; runs = right_runs; run = run; histories = right_histories; counts = right_counts }

pub whole_runs_are_right : (M : Machine) (O : Memory) (A : Allowed) → WholeRunsAreRight M O A
whole_runs_are_right M O A limits main start logs kept lim laws w p rise = right_record M O A limits main start logs kept lim laws w p rise

-- numbers of threads -----------------------------------------------------------------------------

children_named : (h : ℕ → ℕ) (ls : List ThreadLog) → sum_by h (flat_map children_of ls) ≤ sum_by h (flat_map thread_numbers ls)
children_named h [] = omega arith
children_named h (l ∷ ls) =
    let more = children_named h ls in
    let here = list_less (λ (e : Entry). sum_by h (started_by (child_of e))) (λ (e : Entry). sum_by h (spawned_by_reply e.reply.plain)) l.entries (λ e g. child_named h e.request e.reply.plain) in
    omega (
      arith,
      more,
      here,
      sum_by-append h (children_of l) (flat_map children_of ls),
      sum_by-append h (thread_numbers l) (flat_map thread_numbers ls),
      sum_flat h (λ (e : Entry). started_by (child_of e)) l.entries,
      sum_flat h (λ (e : Entry). spawned_by_reply e.reply.plain) l.entries,
      sum_by-append h (flat_map (λ (e : Entry). spawned_by_reply e.reply.plain) l.entries) (thread_limit_of l.«end»),
    )

pub numbers_differ : (M : Machine) (O : Memory) (A : Allowed) → NumbersDiffer M O A
numbers_differ M O A limits main start logs allocs words w = once_differ (numbers_of logs) once_here
  where
    below_few : (c : ℕ) → sum_by (equals c) (numbers_of w.tree.below) ≤ sum_by (equals c) (counting_from 1 words.threads)
    below_few c =
        let a = w.tree.children (equals c) in
        let b = children_named (equals c) logs in
        let d = w.threads_drawn (equals c) in
        omega (arith, a, b, d, sum_by-append (equals c) (flat_map thread_numbers logs) w.idle_threads)

    all : (c : ℕ) → sum_by (equals c) (numbers_of logs) ≡ equals c 0 + sum_by (equals c) (numbers_of w.tree.below)
    all c =
        ap (λ xs. sum_by (equals c) (numbers_of xs)) w.tree.parts ∙ sum_by-cons (equals c) w.tree.own.number.0 (numbers_of w.tree.below)
        ∙ ap (λ (n : ThreadNo). equals c n.0 + sum_by (equals c) (numbers_of w.tree.below)) w.tree.own_number

    once_here : (c : ℕ) → sum_by (equals c) (numbers_of logs) ≤ 1
    once_here zero = let a = all 0 in let b = below_few 0 in let d = counting_zero 1 words.threads (omega arith) in let e = equals_same 0 in omega (arith, a, b, d, e)
    once_here (suc c) =
        let a = all (suc c) in
        let b = below_few (suc c) in
        let d = counting_once (suc c) 1 words.threads in
        let e = equals_other (suc c) 0 (λ same. omega (arith, same)) in
        omega (arith, a, b, d, e)
