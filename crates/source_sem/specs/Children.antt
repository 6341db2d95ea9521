-- Which threads a thread has started: those that its entries start, and no other.
use Rattle.std.specs.Prelude.{◌≡◌, ℕ, List, [], ◌∷◌, Option, Some, None}
use Rattle.history.specs.declared.ask.Arg.{Arg}
use Rattle.history.specs.declared.entry.Entry.{Entry}
use Rattle.runs.specs.Parts.{Answers, child_of}
use Rattle.source_sem.specs.Source.{Setting, Source, source_ask, source_start, source_child, source_turn, source_answer, source_fits}

-- these children, the newest first, after one that may have been started
abbrev pub with_child : Option ℕ → List ℕ → List ℕ
with_child None children = children
with_child (Some c) children = c ∷ children

-- a new thread has started none, a local turn starts none, and a step starts the thread that its entry starts
pub record ChildLaw (x : Setting) : Type 0 where
  pub start : (k : ℕ) (args : List Arg) → (source_start x k args).started ≡ []
  pub child : (s : Source) → (source_child x s).started ≡ []
  pub turn : (s : Source) → (source_turn x s).started ≡ s.started
  pub after : (s : Source) (e : Entry) → Answers (source_ask x s) e → source_fits x s e → (source_answer x s e.reply).started ≡ with_child (child_of e) s.started
