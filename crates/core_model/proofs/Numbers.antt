-- The next numbers of a run fit their types.
use Rattle.std.proofs.Common.{◌≡◌, ◌≤◌, List, [], ◌∷◌, Bool, true, false, ap, length, arith, length-append}
use Rattle.std.specs.Prelude.{Option, Some, None, unwrap_or, if◌then◌else◌}
use Rattle.std.proofs.lemmas.List.Sums.{count_by-le-length}
use Rattle.bsan_ids.specs.declared.numbers.Counters.{Counters}
use Rattle.bsan_ids.specs.declared.numbers.Limits.{Limits}
use Rattle.history.specs.declared.ask.Ask.{Ask}
use Rattle.ir_ast.specs.declared.hosts.HostTable.{HostTable}
use Rattle.run_memory.specs.Memory.{Memory}
use Rattle.history.specs.declared.log.End.{End}
use Rattle.history.specs.declared.log.End.TheVariants as log_end
use Rattle.runs.specs.Machine.{Machine}
use Rattle.runs.specs.Replay.{Fiber}
use Rattle.history.specs.Histories.{is_make_step}
use Rattle.runs.specs.Right.{beyond_of, is_spawn, asks_make, asks_spawn}
use Rattle.runs.proofs.FiberLists.{total}
use Rattle.runs.proofs.ReplaySums.{beyond_at, beyond_in, ended_by, ended_at}
use Rattle.source_sem.specs.Source.{Setting, source}
use Rattle.core_model.specs.Fibers.{Seen}
use Rattle.core_model.specs.Running.{Played, UnderWay}
use Rattle.core_model.specs.Steps.{HasNumbers}
use Rattle.core_model.proofs.Coming.{AllStand, all_stand}

module _ (M : Machine) where
  one_beyond : (e : End) → length (beyond_of e) ≤ 1
  one_beyond (log_end.StepLimit k) = omega arith
  one_beyond (log_end.Returned v q) = omega arith
  one_beyond (log_end.Trapped t) = omega arith
  one_beyond log_end.TurnLimit = omega arith
  one_beyond log_end.NoMemory = omega arith
  one_beyond (log_end.ChildEnded c) = omega arith

  few_beyond : (fs : List (Fiber M)) → length (beyond_in M fs) ≤ length fs
  few_beyond [] = omega arith
  few_beyond (f ∷ fs) =
      let here = one_beyond (unwrap_or f.«end» log_end.NoMemory) in
      let rest = few_beyond fs in
      let both = length-append (beyond_at M f) (beyond_in M fs) in
      omega (arith, here, rest, both)

  one_if : (b : Bool) → (if b then 1 else 0) ≤ 1
  one_if true = omega arith
  one_if false = omega arith

  one_ended : (asks : Ask → Bool) (a : Ask) (o : Option End) → ended_by asks a o ≤ 1
  one_ended asks a None = omega arith
  one_ended asks a (Some e) = one_if (asks a)

  few_ended : (asks : Ask → Bool) (fs : List (Fiber M)) → total (λ f. ended_at M asks f) fs ≤ length fs
  few_ended asks [] = omega arith
  few_ended asks (f ∷ fs) = (let here = one_ended asks (M.ask f.state) f.«end» in let rest = few_ended asks fs in omega (arith, here, rest))

pub has_numbers : (x : Setting) (limits : Limits) (hosts : HostTable) (fibers : List Seen) (m : Memory) (p : Played x) → UnderWay x limits hosts fibers m p → HasNumbers m.words
has_numbers x limits hosts fibers m p w =
    let a : AllStand x limits hosts w.runnable w.ranges p = all_stand x limits hosts w.runnable w.ranges p w.came in
    let sums = a.kept.sums in
    let steps = w.ranges.few_steps in
    let stamps : m.words.stamps ≡ p.words.stamps = ap (λ (z : Counters). z.stamps) w.shows.words in
    let allocs : m.words.allocs ≡ p.words.allocs = ap (λ (z : Counters). z.allocs) w.shows.words in
    let threads : m.words.threads ≡ p.words.threads = ap (λ (z : Counters). z.threads) w.shows.words in
    let few = a.few in
    let beyond = few_beyond (source x) p.threads in
    let makes = few_ended (source x) asks_make p.threads in
    let spawns = few_ended (source x) asks_spawn p.threads in
    let made = count_by-le-length is_make_step p.merge in
    let spawned = count_by-le-length is_spawn p.merge in
    let within = sums.within in
    let total_stamps = sums.stamps in
    let total_allocs = sums.allocs in
    let total_threads = sums.threads in
    record {
      stamps = omega (arith, stamps, few, beyond, within, total_stamps, steps);
      allocs = omega (arith, allocs, few, makes, made, within, total_allocs, steps);
      threads = omega (arith, threads, few, spawns, spawned, within, total_threads, steps);
    }
