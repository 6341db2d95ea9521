-- How many instructions a thread has begun.
use Rattle.std.specs.Prelude.{◌≡◌, ℕ, ◌+◌, List}
use Rattle.history.specs.declared.ask.Arg.{Arg}
use Rattle.history.specs.declared.entry.Reply.{Reply}
use Rattle.source_sem.specs.Source.{Setting, Source, counted_if, source_begins, source_start, source_child, source_turn, source_answer}

-- a new thread has begun none; a local turn is one instruction; and a reply counts one where it answers an instruction's first part
pub record CountLaw (x : Setting) : Type 0 where
  pub start : (k : ℕ) (args : List Arg) → (source_start x k args).count ≡ 0
  pub child : (s : Source) → (source_child x s).count ≡ 0
  pub turn : (s : Source) → (source_turn x s).count ≡ s.count + 1
  pub after : (s : Source) (r : Reply) → (source_answer x s r).count ≡ (counted_if (source_begins s) s).count
