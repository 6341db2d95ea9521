-- The logs of a record that are tied by their stamps make one run, and its erasure is a run of the plain program.
use Rattle.std.proofs.Common.{◌≡◌, ℕ, ◌<◌, ◌≤◌, List, [], ◌∷◌, refl, sym, subst, inl, inr}
use Rattle.std.specs.Prelude.{◌==◌, ◌⊎◌}
use Rattle.std.specs.declared.option.Option.{Option}
use Rattle.std.proofs.lemmas.Bool.Decides.{eqb_tells}
use Rattle.history.specs.declared.log.End.TheVariants as log_end
use Rattle.history.specs.declared.entry.Entry.{Entry}
use Rattle.history.specs.declared.log.AllocLog.{AllocLog}
use Rattle.bsan_ids.specs.declared.numbers.Limits.{Limits}
use Rattle.bsan_ids.specs.declared.numbers.Prov.{Prov}
use Rattle.history.specs.declared.log.ThreadLog.{ThreadLog}
use Rattle.runs.specs.Parts.{Has, of_thread, of_alloc}
use Rattle.runs.specs.Machine.{Machine, Memory}
use Rattle.runs.specs.Threads.{IsThreadRun, EndsAs, Feeds}
use Rattle.runs.specs.Interleaving.{first_world, Allowed, Interleaves, Legal}
use Rattle.runs.specs.Order.{RunsToEnd}
use Rattle.runs.specs.Stamps.{IsTied}
use Rattle.runs.specs.Merge.{IsPartwiseMerge, entries_of}
use Rattle.runs.specs.Right.{end_of, HasRuns, HasHistories, history_of}
use Rattle.runs.proofs.Composition.{one_run, at_start}
use Rattle.runs.proofs.Order.{tied_in_order}
use Rattle.runs.proofs.Merges.{alloc_part}

pub never_returns : (v : ℕ) (p : Option Prov) → log_end.NoMemory ≡ log_end.Returned v p → ⊥
never_returns v p is = cc

pub runs_of : (M : Machine) (limits : Limits) (starts : ℕ → M.State) (logs : List ThreadLog)
    → ((log : ThreadLog) → Has logs log → IsThreadRun M limits starts log)
    → (t : ℕ) → RunsToEnd M limits.turns starts (end_of logs) t (entries_of logs t)
runs_of M limits starts [] runs t = record { last = starts t; feeds = (0, refl); ended = λ v p is. absurd (never_returns v p is) }
runs_of M limits starts (l ∷ ls) runs t = elim (eqb_tells l.number.0 t) [
  | inl hit ↦
      let run = runs l (inl refl) in
      let F : ℕ → Type 0 = λ k. Feeds M limits.turns starts (starts k) l.entries run.last in
      let feeds : Feeds M limits.turns starts (starts t) l.entries run.last = subst F hit.1 run.feeds in
      record {
        last = run.last;
        feeds = rw hit.0 feeds;
        ended = λ v p is.
            let own : l.«end» ≡ log_end.Returned v p = rw hit.0 at is in
            let over : EndsAs M limits run.last (log_end.Returned v p) = subst (λ e. EndsAs M limits run.last e) own run.«end» in
            over.0;
      }
  | inr miss ↦
      let rest = runs_of M limits starts ls (λ log h. runs log (inr h)) t in
      record { last = rest.last; feeds = rw miss.0 rest.feeds; ended = λ v p is. rest.ended v p (rw miss.0 at is) }
]

-- the record's merge is a run
pub right_run : (M : Machine) (O : Memory) (A : Allowed) (limits : Limits) (main : M.State) (logs : List ThreadLog) (allocs : List AllocLog) (entries : List Entry)
    → HasRuns M limits main logs
    → HasHistories O limits logs allocs
    → IsPartwiseMerge logs entries
    → IsTied A (end_of logs) entries
    → ((a : ℕ) → ((0 < a) × (a ≤ limits.allocs)) ⊎ Legal O (O.unmade a) (of_alloc a entries))
    → Interleaves M O A (first_world M O main) entries
right_run M O A limits main logs allocs entries runs histories merge tied others =
    let threads : (t : ℕ) → RunsToEnd M limits.turns runs.starts (end_of logs) t (of_thread t entries) = λ t.
    (let F : List Entry → Type 0 = λ l. RunsToEnd M limits.turns runs.starts (end_of logs) t l in
    subst F (sym (merge.parts t)) (runs_of M limits runs.starts logs runs.runs t)) in
    let objects : (a : ℕ) → Legal O (O.unmade a) (of_alloc a entries) = λ a. elim (others a) [
      | inl slot ↦
          let same : of_alloc a entries ≡ history_of allocs a = alloc_part logs entries (history_of allocs a) a merge (histories.stamps a) (λ t. histories.parts a t slot.0 slot.1) in
          subst (λ l. Legal O (O.unmade a) l) (sym same) (histories.legal a)
      | inr legal ↦ legal
    ] in
    subst
    (λ s. Interleaves M O A (first_world M O s) entries)
    runs.first
    (one_run M O A limits.turns runs.starts (end_of logs) entries (λ t. 0 == t) (first_world M O (runs.starts 0)) (tied_in_order A (end_of logs) entries tied)
    (λ t. at_start M limits.turns runs.starts (end_of logs) t (of_thread t entries) (threads t)) objects)
