-- How many numbers may have been drawn.
use Rattle.std.proofs.Common.{◌↔◌, ℕ, suc, ◌+◌, ◌≤◌, List, inl, inr, arith}
use Rattle.std.specs.Prelude.{count_by}
use Rattle.bsan_ids.specs.declared.numbers.Counters.{Counters}
use Rattle.bsan_ids.specs.declared.numbers.Limits.{Limits}
use Rattle.history.specs.Histories.{is_make_step}
use Rattle.history.specs.declared.log.ThreadLog.{ThreadLog}
use Rattle.runs.specs.Machine.{Machine}
use Rattle.runs.specs.Merge.{merged}
use Rattle.runs.specs.Right.{asks_make, asks_spawn, is_spawn, AtLeast, HasCounts, StandsAsking}
use Rattle.runs.proofs.LogLists.{at_least_fewer}
use Rattle.runs.proofs.MergeLaws.{at_most_tells}
use Rattle.record_file.specs.Counts.{AreAllocs, AreStamps, AreThreads, IsCount}

pub drawn_by : (P : ThreadLog → Type 0) (logs : List ThreadLog) (n c drawn : ℕ) → IsCount P logs n
    → (drawn ≤ c + n) ↔ ((m : ℕ) × AtLeast P m logs × (drawn ≤ c + m))
drawn_by P logs n c drawn count = (
  λ le. (n, count.0, le),
  λ h. elim (at_most_tells h.0 n) [
    | inl low ↦ (let few = low.1 in let le = h.2 in omega (arith, few, le))
    | inr high ↦ (let more = high.1 in absurd (count.1 (at_least_fewer P (suc n) h.0 logs (omega (arith, more)) h.1)))
  ],
)

-- the counters are right where each of the three is
pub counts_iff : (M : Machine) (limits : Limits) (starts : ℕ → M.State) (logs : List ThreadLog) (words : Counters) (makes spawns : ℕ)
    → IsCount (StandsAsking M asks_make limits starts) logs makes → IsCount (StandsAsking M asks_spawn limits starts) logs spawns
    → (AreStamps limits.steps logs words.stamps × AreAllocs makes logs words.allocs × AreThreads spawns logs words.threads) ↔ HasCounts M limits starts logs words
counts_iff M limits starts logs words makes spawns made spawned =
    let allocs = drawn_by (StandsAsking M asks_make limits starts) logs makes (count_by is_make_step (merged logs)) words.allocs made in
    let threads = drawn_by (StandsAsking M asks_spawn limits starts) logs spawns (count_by is_spawn (merged logs)) words.threads spawned in (
      λ h. record {
        stamps = h.0.sum;
        above = h.0.above;
        full = h.0.full;
        allocs = allocs.0 h.1.few;
        threads = threads.0 h.2.few;
        made_within = h.1.within;
        made_differ = h.1.differ;
        spawned_within = h.2.within;
        spawned_differ = h.2.differ;
      },
      λ h. (
        record { sum = h.stamps; above = h.above; full = h.full },
        record { few = allocs.1 h.allocs; within = h.made_within; differ = h.made_differ },
        record { few = threads.1 h.threads; within = h.spawned_within; differ = h.spawned_differ },
      ),
    )
