-- An allocation that is asked the requests of its log again.
use Rattle.std.specs.Prelude.{◌≡◌, ◌<◌, ◌≤◌, ℕ, Bool, true, false, IsTrue, List, All}
use Rattle.history.specs.declared.entry.Entry.{Entry}
use Rattle.history.specs.Histories.{fits, replay}
use Rattle.history.specs.Objects.{Object, unmade}
use Rattle.history.specs.Pieces.{Byte}
use Rattle.ir_ast.specs.Tokens.{Each}
use Rattle.runs.specs.Interleaving.{MakesUnmade}
use Rattle.runs.specs.Objects.{objects}

abbrev pub HaveBytes : List Byte → Type 0
HaveBytes piece = Each (λ b. b.0 < 256) piece

-- the allocation can be asked so, and answers so
pub record AnswersSo (o : Object) (e : Entry) : Type 0 where
  pub fitting : IsTrue (fits e.request)
  pub unmade : MakesUnmade objects o e.request
  pub reply : e.reply ≡ objects.reply o e.request e.stamp.0

-- it has gone on with the request
pub record GoesOn (before : Object) (e : Entry) (after : Object) (entries : List Entry) : Type 0 where
  pub next : after ≡ objects.next before e.request e.stamp.0
  pub earlier : All (λ z. z.stamp.0 ≤ e.stamp.0) entries

abbrev pub Answered : Bool → ℕ → List Entry → Entry → ℕ → List Entry → Type 0
Answered true number before e same after = (same ≡ number) × AnswersSo (replay (unmade number) before) e × GoesOn (replay (unmade number) before) e (replay (unmade number) after) after
Answered false number before e same after = AnswersSo (replay (unmade number) before) e → ⊥
