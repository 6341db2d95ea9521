-- What a step says of its entry.
use Rattle.std.proofs.Common.{◌≡◌, ℕ, false, refl, ap}
use Rattle.std.specs.Prelude.{Option, Some, None}
use Rattle.bsan_ids.specs.declared.numbers.AllocNo.{AllocNo}
use Rattle.bsan_ids.specs.declared.numbers.ThreadNo.{ThreadNo}
use Rattle.history.specs.declared.ask.Ask.{Ask}
use Rattle.history.specs.declared.ask.Ask.TheVariants as ask
use Rattle.history.specs.declared.entry.Entry.{Entry}
use Rattle.history.specs.declared.entry.Request.{Request}
use Rattle.history.specs.declared.entry.Request.TheVariants as request
use Rattle.history.specs.Histories.{is_make}
use Rattle.ir_ast.specs.declared.hosts.HostTable.{HostTable}
use Rattle.run_memory.specs.Memory.{Memory}
use Rattle.run_memory.specs.declared.states.Step.TheVariants.{Done, Ends}
use Rattle.history.specs.declared.log.End.{End}
use Rattle.history.specs.declared.log.End.TheVariants as log_end
use Rattle.history.specs.Replies.{Answers, IsOnNumber}
use Rattle.core_model.specs.Steps.{IsStep, JoinsStep}

pub on_number_makes_none : (r : Request) → IsOnNumber r → is_make r ≡ false
on_number_makes_none (request.Make size place) on = absurd on
on_number_makes_none _ on = refl

module _ (m : Memory) (table : HostTable) (thread : ThreadNo) (site : ℕ) (joined : Option End) where
  join_answers : (c : ThreadNo) (after : Memory) (e : Entry) (o : Option End) → JoinsStep m thread site c o after (Done e) → Answers (ask.Join c) e
  join_answers c after e (Some (log_end.Returned v q)) s = (ap (λ (z : Entry). z.request) s.0, ap (λ (z : Entry). z.alloc) s.0)
  join_answers c after e (Some (log_end.Trapped t)) s = (let z : Done e ≡ Ends (log_end.ChildEnded c) = s.0 in absurd cc)
  join_answers c after e (Some (log_end.StepLimit t)) s = (let z : Done e ≡ Ends (log_end.ChildEnded c) = s.0 in absurd cc)
  join_answers c after e (Some log_end.TurnLimit) s = (let z : Done e ≡ Ends (log_end.ChildEnded c) = s.0 in absurd cc)
  join_answers c after e (Some log_end.NoMemory) s = (let z : Done e ≡ Ends (log_end.ChildEnded c) = s.0 in absurd cc)
  join_answers c after e (Some (log_end.ChildEnded d)) s = (let z : Done e ≡ Ends (log_end.ChildEnded c) = s.0 in absurd cc)
  join_answers c after e None s = absurd s

  -- the entry answers what was asked
  pub step_answers : (a : Ask) (after : Memory) (e : Entry) → ((b : AllocNo) (r : Request) → a ≡ ask.At b r → IsOnNumber r) → IsStep m table thread site joined a after (Done e) → Answers a e
  step_answers (ask.Make size place) after e on s = ap (λ (z : Entry). z.request) s.1
  step_answers (ask.At b r) after e on s = (ap (λ (z : Entry). z.request) s.0, ap (λ (z : Entry). z.alloc) s.0, on b r refl)
  step_answers (ask.Print v) after e on s = (ap (λ (z : Entry). z.request) s.0, ap (λ (z : Entry). z.alloc) s.0)
  step_answers (ask.Host n a b) after e on s = (ap (λ (z : Entry). z.request) s.2.0, ap (λ (z : Entry). z.alloc) s.2.0)
  step_answers (ask.Spawn f) after e on s = (ap (λ (z : Entry). z.request) s.1, ap (λ (z : Entry). z.alloc) s.1)
  step_answers (ask.Join c) after e on s = join_answers c after e joined s
  step_answers ask.Turn after e on s = absurd s
  step_answers (ask.Ended w) after e on s = absurd s
