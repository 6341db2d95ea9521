-- Target code by hand, and what its thread asks.
use Rattle.std.specs.Prelude.{ℕ, List, [], ◌∷◌, Option, Some, None, true}
use Rattle.bsan_ids.specs.declared.numbers.AllocNo.{AllocNo}
use Rattle.bsan_ids.specs.declared.numbers.Prov.{Prov}
use Rattle.history.specs.declared.ask.Ask.{Ask}
use Rattle.history.specs.declared.ask.Ask.TheVariants as ask
use Rattle.history.specs.declared.ask.MachineEnd.TheVariants as end
use Rattle.history.specs.declared.entry.Plain.TheVariants as plain
use Rattle.history.specs.declared.entry.Reply.{Reply}
use Rattle.history.specs.declared.entry.Request.TheVariants as request
use Rattle.history.specs.declared.entry.Verdict.TheVariants as verdict
use Rattle.perm_table.specs.declared.Guard.TheVariants.{Free}
use Rattle.perm_table.specs.declared.RetagKind.TheVariants.{Shr}
use Rattle.ir_ast.specs.declared.types.Place.TheVariants.{Stack}
use Rattle.ir_ast.specs.declared.types.Ty.TheVariants.{Int, Ptr}
use Rattle.ir_ast.specs.declared.types.Width.TheVariants.{W8, W64}
use Rattle.target_code.specs.declared.line.Operand.TheVariants as operand
use Rattle.target_code.specs.declared.line.Line.{Line}
use Rattle.target_code.specs.declared.line.Line.TheVariants as line
use Rattle.thread_machine.specs.Thread.{TargetSetting, Thread, thread_ask, thread_site, thread_turn, thread_answer}

-- what a thread is given: nothing, where it makes a local turn, or a reply
abbrev pub target_asked : TargetSetting → Thread → List (Option Reply) → List (ℕ × Ask)
target_asked x t [] = (thread_site t, thread_ask x t) ∷ []
target_asked x t (None ∷ more) = (thread_site t, thread_ask x t) ∷ target_asked x (thread_turn x t) more
target_asked x t (Some r ∷ more) = (thread_site t, thread_ask x t) ∷ target_asked x (thread_answer x t r) more

-- its state then
abbrev pub target_after : TargetSetting → Thread → List (Option Reply) → Thread
target_after x t [] = t
target_after x t (None ∷ more) = target_after x (thread_turn x t) more
target_after x t (Some r ∷ more) = target_after x (thread_answer x t r) more

abbrev pub one_block : List Line → TargetSetting
one_block lines = record { target = record { version = 1; functions = record { name = 109 ∷ []; slots = 3; entry = line.PushFrame ∷ []; blocks = lines ∷ [] } ∷ [] }; input = [] }

-- The lines of
-- 0 %x = alloca 8   1 %y = retag shr %x, 8   2 %v = load i64, %y   3 ret i64 %v
abbrev pub shared : TargetSetting
shared =
    one_block
    (line.Turn 0
    ∷ line.Make 0 0 Stack (operand.Number 8)
    ∷ line.Turn 1
    ∷ line.Retag 1 Shr Free 0 0 8
    ∷ line.Move 1 0
    ∷ line.Turn 2
    ∷ line.CheckRead 1 1 8
    ∷ line.Load 2 (Int W64) 1
    ∷ line.Turn 3
    ∷ line.Result (operand.Slot 2)
    ∷ line.PopFrame
    ∷ line.Return
    ∷ [])

abbrev pub one : AllocNo
one = record { 0 = 1 }

abbrev pub tagged : ℕ → Prov
tagged n = record { alloc = one; tag = record { 0 = n } }

abbrev pub shared_given : List (Option Reply)
shared_given =
    Some (record { plain = plain.Made one; carried = Some (tagged 1); verdict = verdict.Clean })
    ∷ Some (record { plain = plain.Retagged true; carried = Some (tagged 2); verdict = verdict.Clean })
    ∷ Some (record { plain = plain.Value 7; carried = None; verdict = verdict.Clean })
    ∷ Some (record { plain = plain.Done; carried = None; verdict = verdict.Clean })
    ∷ []

abbrev pub shared_asked : List (ℕ × Ask)
shared_asked =
    (0, ask.Make 8 Stack)
    ∷ (1, ask.At one (request.Retag 0 8 Shr Free (Some (tagged 1))))
    ∷ (2, ask.At one (request.Load 0 (Int W64) (Some (tagged 2))))
    ∷ (3, ask.At one (request.Free 0 true (Some (tagged 1))))
    ∷ (3, ask.Ended (end.Returned 7 None))
    ∷ []

-- Several instructions after one `turn`, a number above its width, and an access whose check was taken out.
abbrev pub odd : TargetSetting
odd =
    one_block
    (line.Turn 5
    ∷ line.Const 0 (Int W8) 260
    ∷ line.Print W64 (operand.Slot 0)
    ∷ line.Print W8 (operand.Number 257)
    ∷ line.Load 1 Ptr 0
    ∷ line.Turn 6
    ∷ line.Unreachable
    ∷ [])

abbrev pub printed : Option Reply
printed = Some (record { plain = plain.Done; carried = None; verdict = verdict.Clean })

abbrev pub odd_asked : List (ℕ × Ask)
odd_asked = (5, ask.Print 4) ∷ (5, ask.Print 1) ∷ (5, ask.Ended (end.Trapped Rattle.history.specs.declared.trap.Trap.TheVariants.Unreachable)) ∷ []
