-- The logs of a right record may merge: stamps rise along each, and no stamp stands in two, since each stands once in the merge.
use Rattle.std.proofs.Common.{◌≡◌, ◌≢◌, ℕ, ◌<◌, List, [], ◌∷◌, refl, subst, ap, inl, inr, arith}
use Rattle.std.specs.List.{AllByRecursion}
use Rattle.std.proofs.lemmas.List.Elements.{recursion_from_All}
use Rattle.bsan_ids.specs.declared.numbers.ThreadNo.{ThreadNo}
use Rattle.history.specs.declared.entry.Entry.{Entry}
use Rattle.history.specs.Merge.{by_stamp, put_by_stamp}
use Rattle.history.specs.declared.log.ThreadLog.{ThreadLog}
use Rattle.history.specs.declared.record.RunRecord.{RunRecord}
use Rattle.bsan_ids.specs.declared.numbers.Limits.{Limits}
use Rattle.runs.specs.Parts.{Has}
use Rattle.runs.specs.Interleaving.{Allowed}
use Rattle.runs.specs.Machine.{Machine, Memory}
use Rattle.runs.specs.Merge.{all_entries, merged, IsOwn, MayMerge, no_logs, one_more}
use Rattle.runs.specs.Right.{IsRight}
use Rattle.runs.specs.Stamps.{RisesFrom}
use Rattle.runs.specs.Threads.{IsThreadRun}
use Rattle.runs.proofs.FiberLists.{numbered_rises}
use Rattle.runs.proofs.MergeLaws.{merged_with, at_most_tells, above_first}
use Rattle.runs.proofs.Tying.{in_merge_other}

-- of a list that rises: what was put into it has another stamp than each of the others, which rise
put_apart : (n : ℕ) (x : Entry) (ys : List Entry) → RisesFrom n (put_by_stamp x ys) → RisesFrom n ys × ((y : Entry) → Has ys y → y.stamp.0 ≢ x.stamp.0)
put_apart n x [] r = (tt, λ y h. absurd h)
put_apart n x (y ∷ ys) r = elim (at_most_tells x.stamp.0 y.stamp.0) [
  | inl lower ↦
      let q : RisesFrom n (x ∷ y ∷ ys) = rw lower.0 at r in
      ((omega (arith, q.0, q.1.0), q.1.1), λ z h same. (let above = above_first x.stamp.0 (y ∷ ys) z q.1 h in omega (arith, above, same)))
  | inr above ↦
      let q : RisesFrom n (y ∷ put_by_stamp x ys) = rw above.0 at r in
      let more = put_apart y.stamp.0 x ys q.1 in
      ((q.0, more.0), λ z h. by_place z h above.1 more.1)
]
  where
    by_place : (z : Entry) → Has (y ∷ ys) z → y.stamp.0 < x.stamp.0 → ((w : Entry) → Has ys w → w.stamp.0 ≢ x.stamp.0) → z.stamp.0 ≢ x.stamp.0
    by_place z (inl same) less apart is = let at = ap (λ (w : Entry). w.stamp.0) same in omega (arith, less, at, is)
    by_place z (inr h) less apart is = apart z h is

with_apart : (n : ℕ) (xs ys : List Entry) → RisesFrom n (merged_with xs ys) → RisesFrom n (by_stamp ys) × ((x y : Entry) → Has xs x → Has (by_stamp ys) y → y.stamp.0 ≢ x.stamp.0)
with_apart n [] ys r = (r, λ x y h g. absurd h)
with_apart n (x ∷ xs) ys r =
    let first = put_apart n x (merged_with xs ys) r in
    let rest = with_apart n xs ys first.0 in
    (rest.0, λ z y h g. by_place z y h g first.1 rest.1)
  where
    by_place : (z y : Entry) → Has (x ∷ xs) z → Has (by_stamp ys) y → ((w : Entry) → Has (merged_with xs ys) w → w.stamp.0 ≢ x.stamp.0) → ((u v : Entry) → Has xs u → Has (by_stamp ys) v → v.stamp.0 ≢ u.stamp.0) → y.stamp.0 ≢ z.stamp.0
    by_place z y (inl same) g first rest = subst (λ (w : Entry). y.stamp.0 ≢ w.stamp.0) same (first y (in_merge_other xs ys y g))
    by_place z y (inr h) g first rest = rest z y h g

own_of : (n : ThreadNo) (es : List Entry) → AllByRecursion (λ (e : Entry). e.thread ≡ n) es → IsOwn n.0 es
own_of n [] all = tt
own_of n (e ∷ es) all = (ap (λ (x : ThreadNo). x.0) all.0, own_of n es all.1)

-- the entries of a thread's run are its own
pub run_own : (M : Machine) (limits : Limits) (starts : ℕ → M.State) (log : ThreadLog) → IsThreadRun M limits starts log → IsOwn log.number.0 log.entries
run_own M limits starts log r = let P : Entry → Type 0 = λ e. e.thread ≡ log.number in own_of log.number log.entries (recursion_from_All P log.entries r.own)

pub rising_may_merge : (n : ℕ) (logs : List ThreadLog) → RisesFrom n (merged logs) → ((log : ThreadLog) → Has logs log → IsOwn log.number.0 log.entries × RisesFrom 0 log.entries) → MayMerge logs
rising_may_merge n [] r each = no_logs
rising_may_merge n (l ∷ ls) r each =
    let apart = with_apart n l.entries (all_entries ls) r in
    one_more (each l (inl refl)).0 (each l (inl refl)).1 apart.1 (rising_may_merge n ls apart.0 (λ log h. each log (inr h)))

pub right_may_merge : (M : Machine) (O : Memory) (A : Allowed) (limits : Limits) (main : ℕ) (start : M.State) (kept : RunRecord) → IsRight M O A limits main start kept → MayMerge kept.threads
right_may_merge M O A limits main start kept r =
    rising_may_merge 0 kept.threads (numbered_rises 0 (merged kept.threads) r.run.numbered)
    (λ log h. let run = r.runs.runs log h in (run_own M limits r.runs.starts log run, run.rises))
