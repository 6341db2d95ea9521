-- The tie: the thread over the translation does what the thread over the text does.
use Rattle.std.specs.Prelude.{◌≡◌, ◌<◌, ◌^◌, ℕ, List, length}
use Rattle.history.specs.declared.ask.Arg.{Arg}
use Rattle.history.specs.declared.ask.Ask.{Ask}
use Rattle.history.specs.declared.ask.Ask.TheVariants as ask
use Rattle.history.specs.declared.entry.Reply.{Reply}
use Rattle.ir_ast.specs.Programs.{IsProgram}
use Rattle.ir_ast.specs.declared.hosts.HostEntry.{HostEntry}
use Rattle.ir_ast.specs.declared.hosts.HostTable.{HostTable}
use Rattle.ir_ast.specs.declared.program.Program.{Program}
use Rattle.ir_rules.specs.Rules.{IsAccepted}
use Rattle.source_sem.specs.Source.{Source, source_ask, source_turn, source_answer, source_start, source_child, source_begins, source_site}
use Rattle.thread_machine.specs.Thread.{Thread, row_of, thread_ask, thread_begins, thread_site, thread_turn, thread_answer, thread_start, thread_child}
use Rattle.thread_machine.specs.Views.{IsSpawn}
use Rattle.instr_sound.specs.Fits.{ProgramFits}
use Rattle.instr_sound.specs.Simulation.{Simulates, source_setting, target_setting}

-- a request is asked
abbrev pub IsStep : Ask → Type 0
IsStep ask.Turn = ⊥
IsStep (ask.Ended e) = ⊥
IsStep other = Unit {0}

-- what a target thread shows where it simulates a source thread
pub record Alike (p : Program) (hosts : List HostEntry) (input : List ℕ) (s : Source) (t : Thread) : Type 0 where
  pub asks : thread_ask (target_setting p hosts input) t ≡ source_ask (source_setting p hosts input) s
  pub begins : thread_begins t ≡ source_begins s
  pub site : thread_site t ≡ source_site s
  pub count : t.count ≡ s.count

-- the two threads go on alike
pub record TieLaw (p : Program) (hosts : List HostEntry) (input : List ℕ) : Type 0 where
  pub alike : (s : Source) (t : Thread) → Simulates p hosts input s t → Alike p hosts input s t
  pub start : (k : ℕ) (args : List Arg) → k < length p.functions → Simulates p hosts input (source_start (source_setting p hosts input) k args) (thread_start (target_setting p hosts input) k (row_of args))
  pub turn : (s : Source) (t : Thread) → Simulates p hosts input s t → source_ask (source_setting p hosts input) s ≡ ask.Turn → Simulates p hosts input (source_turn (source_setting p hosts input) s) (thread_turn (target_setting p hosts input) t)
  pub answer : (s : Source) (t : Thread) (r : Reply) → Simulates p hosts input s t → IsStep (source_ask (source_setting p hosts input) s) → Simulates p hosts input (source_answer (source_setting p hosts input) s r) (thread_answer (target_setting p hosts input) t r)
  pub child : (s : Source) (t : Thread) → Simulates p hosts input s t → IsSpawn (source_ask (source_setting p hosts input) s) → Simulates p hosts input (source_child (source_setting p hosts input) s) (thread_child (target_setting p hosts input) t)

abbrev pub ProgramsTie : Type 0
ProgramsTie = (p : Program) (hosts : List HostEntry) (input : List ℕ) → ProgramFits p hosts → TieLaw p hosts input

abbrev pub AcceptedProgramsFit : Type 0
AcceptedProgramsFit = (p : Program) (hosts : HostTable) → IsProgram p → IsAccepted p hosts → ProgramFits p hosts.entries
