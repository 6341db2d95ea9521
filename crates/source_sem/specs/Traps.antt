-- No thread ends by the limit on numbers of its own accord: it only asks for numbers.
use Rattle.std.specs.Prelude.{◌≡◌, ℕ, List}
use Rattle.history.specs.declared.ask.Arg.{Arg}
use Rattle.history.specs.declared.ask.Ask.TheVariants as ask
use Rattle.history.specs.declared.ask.MachineEnd.{MachineEnd}
use Rattle.history.specs.declared.ask.MachineEnd.TheVariants as end
use Rattle.history.specs.declared.entry.Plain.{Plain}
use Rattle.history.specs.declared.entry.Plain.TheVariants as plain
use Rattle.history.specs.declared.entry.Reply.{Reply}
use Rattle.runs.specs.Threads.{IsOwnTrap}
use Rattle.source_sem.specs.Source.{Setting, Source, source_ask, source_turn, source_answer, source_start, source_child}

abbrev pub EndIsOwn : MachineEnd → Type 0
EndIsOwn (end.Returned v p) = Unit {0}
EndIsOwn (end.Trapped t) = IsOwnTrap t

abbrev pub PlainIsOwn : Plain → Type 0
PlainIsOwn (plain.Trapped t) = IsOwnTrap t
PlainIsOwn other = Unit {0}

pub record TrapLaw (x : Setting) : Type 0 where
  pub start : (k : ℕ) (args : List Arg) → EndIsOwn (source_start x k args).over
  pub child : (s : Source) → EndIsOwn (source_child x s).over
  pub turn : (s : Source) → EndIsOwn s.over → EndIsOwn (source_turn x s).over
  pub after : (s : Source) (r : Reply) → EndIsOwn s.over → PlainIsOwn r.plain → EndIsOwn (source_answer x s r).over
  pub asks : (s : Source) (e : MachineEnd) → EndIsOwn s.over → source_ask x s ≡ ask.Ended e → EndIsOwn e
