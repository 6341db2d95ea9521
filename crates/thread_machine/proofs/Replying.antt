-- A reply that fits what a thread asks has the number that its line wants.
use Rattle.std.proofs.Common.{ℕ, List, [], ◌∷◌, Option, Some, None, Bool, true, false, subst}
use Rattle.ir_ast.specs.declared.types.Place.{Place}
use Rattle.history.specs.declared.ask.MachineEnd.{MachineEnd}
use Rattle.history.specs.declared.entry.Entry.{Entry}
use Rattle.history.specs.declared.entry.Plain.{Plain}
use Rattle.history.specs.declared.entry.Plain.TheVariants as plain
use Rattle.history.specs.declared.entry.Request.{Request}
use Rattle.history.specs.Replies.{Answers}
use Rattle.target_code.specs.declared.line.Line.{Line}
use Rattle.target_code.specs.declared.line.Line.TheVariants as line
use Rattle.thread_parts.specs.Fits.{ReplyFits, MadeAt, SpawnedChild}
use Rattle.thread_parts.specs.Parts.{part_ask, make_by}
use Rattle.thread_machine.specs.Thread.{TargetSetting, Thread, lines_ask, over_ask, thread_ask}
use Rattle.thread_machine.specs.Views.{IsMade, IsSpawned, HasNumber}

made : (e : Entry) (p : Plain) → MadeAt e p → IsMade p
made e (plain.Made a) f = tt
made e other f = f

spawned : (p : Plain) → SpawnedChild p → IsSpawned p
spawned (plain.Spawned c) f = tt
spawned other f = f

module _ (e : Entry) (fits : ReplyFits None e e.request) where
  makes : (b : Bool) (place : Place) (n : ℕ) → Answers (part_ask (make_by b place n)) e → IsMade e.reply.plain
  makes true place n a = absurd a
  makes false place n a = made e e.reply.plain (subst (λ (r : Request). ReplyFits None e r) a fits)

  at_lines : (version : ℕ) (t : Thread) (ls : List Line) → Answers (lines_ask version t ls) e → HasNumber ls e.reply.plain
  at_lines version t [] a = tt
  at_lines version t (line.Make s h place size ∷ ls) a = makes _ place _ a
  at_lines version t (line.Spawn s k ∷ ls) a = spawned e.reply.plain (subst (λ (r : Request). ReplyFits None e r) a.0 fits)
  at_lines version t (other ∷ ls) a = tt

  by_over : (version : ℕ) (t : Thread) (o : Option MachineEnd) → Answers (over_ask version t o) e → HasNumber t.top.rest e.reply.plain
  by_over version t None a = at_lines version t t.top.rest a
  by_over version t (Some over) a = absurd a

  pub has_number : (x : TargetSetting) (t : Thread) → Answers (thread_ask x t) e → HasNumber t.top.rest e.reply.plain
  has_number x t a = by_over x.target.version t t.over a
