-- A thread over target code beside the thread over the text that it simulates.
use Rattle.std.specs.Prelude.{◌≡◌, ◌<◌, ℕ, List, Option, None, true, false, length}
use Rattle.history.specs.declared.ask.Arg.{Arg}
use Rattle.history.specs.declared.ask.Ask.{Ask}
use Rattle.history.specs.declared.ask.Ask.TheVariants as ask
use Rattle.history.specs.declared.entry.Entry.{Entry}
use Rattle.history.specs.declared.entry.Request.{Request}
use Rattle.history.specs.declared.entry.Request.TheVariants as request
use Rattle.history.specs.Histories.{fits}
use Rattle.history.specs.Replies.{Answers, IsOnNumber}
use Rattle.ir_ast.specs.Programs.{IsProgram}
use Rattle.ir_ast.specs.declared.hosts.HostTable.{HostTable}
use Rattle.ir_ast.specs.declared.program.Program.{Program}
use Rattle.ir_ast.specs.declared.types.Ty.{Ty}
use Rattle.ir_rules.specs.Rules.{IsAccepted}
use Rattle.ir_rules.specs.declared.verified.Verified.{Verified}
use Rattle.target_code.specs.declared.line.Target.{Target}
use Rattle.source_sem.specs.Source.{Setting, Source, source_ask, source_turn, source_answer, source_start, source_child, source_begins, source_site, source_fits}
use Rattle.source_sem.specs.Requests.{TopFits}
use Rattle.source_sem.specs.Starting.{setting_of}
use Rattle.thread_parts.specs.Fits.{ReplyFits}
use Rattle.instrument.specs.Translation.{translation}
use Rattle.thread_machine.specs.Thread.{Thread, row_of, thread_ask, thread_turn, thread_answer, thread_start, thread_child, thread_begins, thread_site}
use Rattle.thread_machine.specs.Views.{MachineView, IsSpawn, setting}
use Rattle.instr_sound.specs.Simulation.{Simulates}

-- a program with its hosts, a machine over its target code, and the state of the thread over the text
pub record SoundView : Type 0 where
  pub program : Program
  pub hosts : HostTable
  pub machine : MachineView
  pub state : Source

abbrev pub sound_view : Verified → MachineView → Source → SoundView
sound_view v m s = record { program = v.program; hosts = v.hosts; machine = m; state = s }

-- the program with the machine's input, as the thread over the text has it
abbrev pub text_of : SoundView → Setting
text_of m = setting_of m.program m.machine.setting.input m.hosts

-- The program is accepted, the target code is its translation, and the machine's thread simulates the thread over the text,
-- whose requests fit.
pub record IsSound (m : SoundView) : Type 0 where
  pub program : IsProgram m.program
  pub accepted : IsAccepted m.program m.hosts
  pub code : m.machine.setting.target ≡ translation m.hosts.entries m.program
  pub simulates : Simulates m.program m.hosts.entries m.machine.setting.input m.state m.machine.thread
  pub requests : TopFits (text_of m) m.state.frames

-- both threads at the beginning of a function
abbrev pub begun : Verified → Target → List ℕ → ℕ → List Arg → SoundView
begun v target input k args = record {
  program = v.program;
  hosts = v.hosts;
  machine = record { setting = setting target input; thread = thread_start (setting target input) k (row_of args); prepared = false };
  state = source_start (setting_of v.program input v.hosts) k args;
}

-- both threads after a local turn, after a reply, and at the start of a child
abbrev pub turned : SoundView → SoundView
turned m = record m { machine = record m.machine { thread = thread_turn m.machine.setting m.machine.thread; prepared = false }; state = source_turn (text_of m) m.state }

abbrev pub answered : SoundView → Entry → SoundView
answered m e = record m { machine = record m.machine { thread = thread_answer m.machine.setting m.machine.thread e.reply; prepared = false }; state = source_answer (text_of m) m.state e.reply }

abbrev pub started : SoundView → SoundView
started m = record m { machine = record m.machine { thread = thread_child m.machine.setting m.machine.thread; prepared = false }; state = source_child (text_of m) m.state }

-- what both threads show
pub record ShowsAlike (m : SoundView) : Type 0 where
  pub asks : thread_ask m.machine.setting m.machine.thread ≡ source_ask (text_of m) m.state
  pub begins : thread_begins m.machine.thread ≡ source_begins m.state
  pub site : thread_site m.machine.thread ≡ source_site m.state
  pub count : m.machine.thread.count ≡ m.state.count

-- an allocation is asked for what an object of its number answers
abbrev pub IsOn : Ask → Type 0
IsOn (ask.At a r) = IsOnNumber r
IsOn other = Unit {0}

-- what is asked of allocations fits
abbrev pub AskFits : Ask → Type 0
AskFits (ask.Make size place) = fits (request.Make size place) ≡ true
AskFits (ask.At a r) = IsOnNumber r × (fits r ≡ true)
AskFits other = Unit {0}

-- each call keeps a sound machine sound
pub record SoundLaw : Type 0 where
  pub start : (m : SoundView) (k : ℕ) (args : List Arg) → IsProgram m.program → IsAccepted m.program m.hosts → m.machine.setting.target ≡ translation m.hosts.entries m.program → k < length m.program.functions
      → m.machine.thread ≡ thread_start m.machine.setting k (row_of args) → m.state ≡ source_start (text_of m) k args → IsSound m
  pub turn : (m : SoundView) → IsSound m → source_ask (text_of m) m.state ≡ ask.Turn → IsSound (turned m)
  pub answer : (m : SoundView) (e : Entry) → IsSound m → Answers (source_ask (text_of m) m.state) e → source_fits (text_of m) m.state e → IsSound (answered m e)
  pub child : (m : SoundView) → IsSound m → IsSpawn (source_ask (text_of m) m.state) → IsSound (started m)
  pub shows : (m : SoundView) → IsSound m → ShowsAlike m
  pub asks : (m : SoundView) → IsSound m → AskFits (source_ask (text_of m) m.state)

-- a reply that fits the thread over the text fits where no type is named
abbrev pub FitsUntyped : Type 0
FitsUntyped = (ty : Option Ty) (e : Entry) (r : Request) → ReplyFits ty e r → ReplyFits None e r
