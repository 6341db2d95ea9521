-- When a thread goes on after a step.
use Rattle.std.proofs.Common.{◌≡◌, ◌≢◌, refl, inl, inr}
use Rattle.std.specs.Prelude.{None}
use Rattle.bsan_ids.specs.declared.numbers.Limits.{Limits}
use Rattle.history.specs.declared.ask.Ask.{Ask}
use Rattle.history.specs.declared.ask.Ask.TheVariants as ask
use Rattle.history.specs.declared.ask.MachineEnd.{MachineEnd}
use Rattle.history.specs.declared.ask.MachineEnd.TheVariants as end
use Rattle.history.specs.declared.trap.Trap.{Trap}
use Rattle.history.specs.declared.trap.Trap.TheVariants as trap
use Rattle.history.specs.declared.log.End.TheVariants as log_end
use Rattle.runs.specs.Machine.{Machine}
use Rattle.runs.specs.Replay.{RestsAs}
use Rattle.runs.specs.Threads.{IsOwnTrap, TrapsAs}

no_trap : (limits : Limits) (a : Ask) (t : Trap) → ((why : MachineEnd) → a ≡ ask.Ended why → ⊥) → IsOwnTrap t → TrapsAs limits a t → ⊥
no_trap limits a t goes own (inl is) = goes (end.Trapped t) is
no_trap limits a (trap.AllocLimit d) goes own (inr drew) = own
no_trap limits a (trap.ThreadLimit d) goes own (inr drew) = own
no_trap limits a _ goes own (inr drew) = drew

-- a thread that asks for something, and isn't at its limit, goes on
pub goes_on : (M : Machine) (limits : Limits) (s : M.State) → ((why : MachineEnd) → M.ask s ≡ ask.Ended why → ⊥) → M.count s ≢ limits.turns → RestsAs M limits s None
goes_on M limits s goes few (log_end.Returned v p) own ends = absurd (goes (end.Returned v p) ends.0)
goes_on M limits s goes few (log_end.Trapped t) own ends = absurd (no_trap limits (M.ask s) t goes own ends.0)
goes_on M limits s goes few (log_end.StepLimit x) own ends = absurd own
goes_on M limits s goes few log_end.TurnLimit own ends = absurd (few ends.1)
goes_on M limits s goes few log_end.NoMemory own ends = refl
goes_on M limits s goes few (log_end.ChildEnded c) own ends = absurd own
