-- A thread whose own state is an end.
use Rattle.std.proofs.Common.{◌≡◌, inl, sym, ap}
use Rattle.std.specs.Prelude.{Some}
use Rattle.bsan_ids.specs.declared.numbers.Limits.{Limits}
use Rattle.history.specs.declared.ask.Ask.{Ask}
use Rattle.history.specs.declared.ask.Ask.TheVariants as ask
use Rattle.history.specs.declared.ask.MachineEnd.{MachineEnd}
use Rattle.history.specs.declared.ask.MachineEnd.TheVariants as end
use Rattle.runs.specs.Machine.{MayGoOn}
use Rattle.runs.specs.Replay.{IsOwnEnd}
use Rattle.runs.specs.Threads.{EndsAs}
use Rattle.runs.proofs.Tracking.{some_inj}
use Rattle.source_sem.proofs.TrapLaws.{traps_are_own}
use Rattle.source_sem.specs.Source.{Setting, Source, source, source_ask}
use Rattle.source_sem.specs.Traps.{EndIsOwn}
use Rattle.thread_machine.specs.Views.{ended_by}
use Rattle.instr_sound.specs.Settling.{machine_end}

pub ended_asks : (a : Ask) (e : MachineEnd) → Some e ≡ ended_by a → a ≡ ask.Ended e
ended_asks (ask.Ended d) e is = ap (λ (z : MachineEnd). ask.Ended z) (sym (some_inj is))
ended_asks ask.Turn e is = absurd cc
ended_asks (ask.Make size place) e is = absurd cc
ended_asks (ask.At b r) e is = absurd cc
ended_asks (ask.Print v) e is = absurd cc
ended_asks (ask.Host i b c) e is = absurd cc
ended_asks (ask.Spawn k) e is = absurd cc
ended_asks (ask.Join c) e is = absurd cc

pub own_end : (x : Setting) (limits : Limits) (s : Source) (e : MachineEnd) → source_ask x s ≡ ask.Ended e → MayGoOn (source x) limits.turns s → EndIsOwn s.over
    → IsOwnEnd (machine_end e) × EndsAs (source x) limits s (machine_end e)
own_end x limits s e asks may own = by_end e asks ((traps_are_own x).asks s e own asks)
  where
    by_end : (e : MachineEnd) → source_ask x s ≡ ask.Ended e → EndIsOwn e → IsOwnEnd (machine_end e) × EndsAs (source x) limits s (machine_end e)
    by_end (end.Returned v q) is mine = (tt, (is, may))
    by_end (end.Trapped w) is mine = (mine, (inl is, may))
