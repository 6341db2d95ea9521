-- Each run without its retags and protector ends is a run of the plain program, whose threads end alike.
use Rattle.std.specs.Prelude.{◌≡◌, ℕ, List, [], Some, None}
use Rattle.std.specs.declared.option.Option.{Option}
use Rattle.bsan_ids.specs.declared.numbers.Limits.{Limits}
use Rattle.history.specs.declared.ask.Ask.TheVariants as ask
use Rattle.history.specs.declared.ask.MachineEnd.{MachineEnd}
use Rattle.history.specs.declared.entry.Entry.{Entry}
use Rattle.ir_ast.specs.declared.hosts.HostTable.{HostTable}
use Rattle.runs.specs.Erasure.{erasure, erased_end}
use Rattle.runs.specs.Interleaving.{first_world, Interleaves, last_world}
use Rattle.runs.specs.Machine.{Settles}
use Rattle.runs.specs.Objects.{objects}
use Rattle.runs.specs.PlainObjects.{plain_objects}
use Rattle.runs.specs.Threads.{AsksMake, AsksSpawn}
use Rattle.source_sem.specs.Source.{Setting, Source, source, source_ask, source_start, plain_setting}
use Rattle.history.specs.declared.record.RunRecord.{RunRecord}
use Rattle.ir_ast.specs.declared.program.Program.{Program}
use Rattle.source_sem.specs.Records.{allowed, IsRightFor, IsRightRecord}

-- after its local turns the plain thread ends as the thread does, and asks a Make or a Spawn where that does
pub record EndsAlike (x : Setting) (s p : Source) : Type 0 where
  pub ended : (now : Source) (why : MachineEnd) → Settles (source x) s now → source_ask x now ≡ ask.Ended why
      → (q : Source) × Settles (source (plain_setting x)) p q × (source_ask (plain_setting x) q ≡ ask.Ended (erased_end why))
  pub makes : (now : Source) → Settles (source x) s now → AsksMake (source_ask x now)
      → (q : Source) × Settles (source (plain_setting x)) p q × AsksMake (source_ask (plain_setting x) q)
  pub spawns : (now : Source) → Settles (source x) s now → AsksSpawn (source_ask x now)
      → (q : Source) × Settles (source (plain_setting x)) p q × AsksSpawn (source_ask (plain_setting x) q)

-- both have started, or neither has
abbrev pub GoAlike : Setting → Option Source → Option Source → Type 0
GoAlike x None None = Unit {0}
GoAlike x (Some s) (Some p) = EndsAlike x s p
GoAlike x None (Some p) = ⊥
GoAlike x (Some s) None = ⊥

-- of a run from the first state of function k, without arguments
abbrev pub ErasureIsARun : Type 0
ErasureIsARun =
    (x : Setting) (limits : Limits) (hosts : HostTable) (k : ℕ) (es : List Entry)
    → (run : Interleaves (source x) objects (allowed limits hosts) (first_world (source x) objects (source_start x k [])) es)
    → (plain : Interleaves (source (plain_setting x)) plain_objects (allowed limits hosts) (first_world (source (plain_setting x)) plain_objects (source_start (plain_setting x) k [])) (erasure es))
    × ((t : ℕ) → GoAlike x
    ((last_world (source x) objects (allowed limits hosts) (first_world (source x) objects (source_start x k [])) es run).threads t)
    ((last_world (source (plain_setting x)) plain_objects (allowed limits hosts) (first_world (source (plain_setting x)) plain_objects (source_start (plain_setting x) k [])) (erasure es) plain).threads t))

-- a record that is right in all else erases to a run of the plain program in which each thread ends alike, so that it is right
abbrev pub RightRecordsErase : Type 0
RightRecordsErase =
    (program : Program) (input : List ℕ) (hosts : HostTable) (limits : Limits) (kept : RunRecord)
    → IsRightFor program input hosts limits kept → IsRightRecord program input hosts limits kept
