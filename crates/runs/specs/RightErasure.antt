-- What it takes that a right record's erasure is a run of the plain program in which each thread ends alike.
use Rattle.std.specs.Prelude.{List}
use Rattle.bsan_ids.specs.declared.numbers.Limits.{Limits}
use Rattle.history.specs.declared.ask.Ask.{Ask}
use Rattle.history.specs.declared.trap.Trap.TheVariants as trap
use Rattle.history.specs.declared.log.End.{End}
use Rattle.history.specs.declared.log.End.TheVariants as log_end
use Rattle.history.specs.declared.log.ThreadLog.{ThreadLog}
use Rattle.runs.specs.Parts.{Has}
use Rattle.runs.specs.Machine.{Machine, Settles}
use Rattle.runs.specs.Threads.{AsksMake, AsksSpawn}
use Rattle.runs.specs.Right.{HasRuns}

-- who asks a Make or a Spawn is mirrored by one that does after local turns
pub record AsksAlike (M P : Machine) (mirrors : M.State → P.State → Type 0) : Type 0 where
  pub makes : (s : M.State) (p : P.State) → mirrors s p → AsksMake (M.ask s) → (q : P.State) × Settles P p q × AsksMake (P.ask q)
  pub spawns : (s : M.State) (p : P.State) → mirrors s p → AsksSpawn (M.ask s) → (q : P.State) × Settles P p q × AsksSpawn (P.ask q)

-- an end by the limit on numbers is one of a thread that asks for a number
abbrev pub LimitAsked : Ask → End → Type 0
LimitAsked a (log_end.Trapped (trap.AllocLimit d)) = AsksMake a
LimitAsked a (log_end.Trapped (trap.ThreadLimit d)) = AsksSpawn a
LimitAsked a e = Unit {0}

abbrev pub LimitsAreAsked : (M : Machine) (limits : Limits) (main : M.State) (logs : List ThreadLog) → HasRuns M limits main logs → Type 0
LimitsAreAsked M limits main logs own = (log : ThreadLog) (h : Has logs log) → LimitAsked (M.ask (own.runs log h).last) log.«end»
