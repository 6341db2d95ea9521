-- A log that is a run of its thread, from what its machine shows.
use Rattle.std.proofs.Common.{◌≡◌, ◌↔◌, ℕ, Bool, true, List, sym, ◌∙◌, ap, subst, All}
use Rattle.bsan_ids.specs.declared.numbers.Limits.{Limits}
use Rattle.history.specs.declared.ask.Ask.{Ask}
use Rattle.history.specs.declared.entry.Entry.{Entry}
use Rattle.history.specs.declared.log.ThreadLog.{ThreadLog}
use Rattle.runs.specs.Machine.{SettlesWithin}
use Rattle.runs.specs.Right.{asks_make, asks_spawn}
use Rattle.runs.specs.Threads.{EndsAs, CountsTurns}
use Rattle.source_sem.specs.Source.{Setting, Source, source, source_ask, source_site}
use Rattle.source_sem.proofs.Stepping.{instructions_count}
use Rattle.record_file.specs.declared.feed.Child.{Child}
use Rattle.record_file.specs.AsWritten.{AllBeginAs, AsksAsWritten, FeedsAsWritten}
use Rattle.record_file.specs.Feeding.{firsts, TakesAll, Refuses, IsRun, IsNoRun}
use Rattle.record_file.proofs.Feeding.{written_once}

counts : (x : Setting) → CountsTurns (source x)
counts x = λ s turn. (instructions_count x).turn s

module _ (x : Setting) (limits : Limits) (first : Source) (log : ThreadLog) where
  -- not where an entry is another's
  pub no_run_own : (All (λ (e : Entry). e.thread ≡ log.number) log.entries → ⊥) → IsNoRun x limits first log
  no_run_own other = λ starts begins r. other r.own

  pub no_run_refused : Refuses x limits.turns first log.entries → IsNoRun x limits first log
  no_run_refused refuses = λ starts begins r. refuses starts r.last (subst (λ z. FeedsAsWritten (source x) limits.turns starts z log.entries r.last) begins r.feeds)

  module _ (t : Source) (children : List Child) (takes : TakesAll x limits.turns first log.entries t children) where
    led : (starts : ℕ → Source) (last : Source) → starts log.number.0 ≡ first → FeedsAsWritten (source x) limits.turns starts (starts log.number.0) log.entries last
        → AllBeginAs starts (firsts children) × SettlesWithin (source x) limits.turns t last
    led starts last begins feeds = (takes starts last).0 (subst (λ z. FeedsAsWritten (source x) limits.turns starts z log.entries last) begins feeds)

    pub no_run_count : ((last : Source) → SettlesWithin (source x) limits.turns t last → last.count ≡ log.instructions → ⊥) → IsNoRun x limits first log
    no_run_count never = λ starts begins r. never r.last (led starts r.last begins r.feeds).1 (sym r.count)

    module _ (last : Source) (settles : SettlesWithin (source x) limits.turns t last) (count : last.count ≡ log.instructions) where
      fed : (starts : ℕ → Source) → starts log.number.0 ≡ first → AllBeginAs starts (firsts children) → FeedsAsWritten (source x) limits.turns starts (starts log.number.0) log.entries last
      fed starts begins agrees = subst (λ z. FeedsAsWritten (source x) limits.turns starts z log.entries last) (sym begins) ((takes starts last).1 (agrees, settles))

      there : (starts : ℕ → Source) (other : Source) → starts log.number.0 ≡ first → FeedsAsWritten (source x) limits.turns starts (starts log.number.0) log.entries other → log.instructions ≡ other.count → other ≡ last
      there starts other begins feeds same =
          written_once (source x) limits.turns (counts x) starts (starts log.number.0) other last log.entries feeds (fed starts begins (led starts other begins feeds).0) (sym same ∙ sym count)

      pub no_run_site : (source_site last ≡ log.last → ⊥) → IsNoRun x limits first log
      no_run_site other = λ starts begins r. other (sym (ap source_site (there starts r.last begins r.feeds r.count)) ∙ sym r.site)

      pub no_run_end : (EndsAs (source x) limits last log.«end» → ⊥) → IsNoRun x limits first log
      no_run_end other = λ starts begins r. other (subst (λ z. EndsAs (source x) limits z log.«end») (there starts r.last begins r.feeds r.count) r.«end»)

      stands : (asks : Ask → Bool) (flag : Bool) → flag ≡ asks (source_ask x last) → (starts : ℕ → Source) → starts log.number.0 ≡ first → AllBeginAs starts (firsts children)
          → AsksAsWritten (source x) asks limits starts log ↔ (flag ≡ true)
      stands asks flag is starts begins agrees = (
        λ s. is ∙ ap (λ z. asks (source_ask x z)) (sym (there starts s.last begins s.feeds s.count)) ∙ s.asking,
        λ yes. record { last = last; feeds = fed starts begins agrees; count = sym count; asking = sym is ∙ yes },
      )

      pub is_run : All (λ (e : Entry). e.thread ≡ log.number) log.entries → source_site last ≡ log.last → EndsAs (source x) limits last log.«end»
          → (make spawn : Bool) → make ≡ asks_make (source_ask x last) → spawn ≡ asks_spawn (source_ask x last) → IsRun x limits first log children make spawn
      is_run own site ends make spawn makes spawns = λ starts begins. record {
        run = (
          λ r. (led starts r.last begins r.feeds).0,
          λ agrees. record { last = last; own = own; feeds = fed starts begins agrees; «end» = ends; count = sym count; site = sym site },
        );
        make = λ agrees. stands asks_make make makes starts begins agrees;
        spawn = λ agrees. stands asks_spawn spawn spawns starts begins agrees;
      }
