-- A thread goes on past the line that it answers.
use Rattle.std.proofs.Common.{◌≡◌, ℕ, List, [], ◌∷◌, drop, refl, ap, ◌∙◌}
use Rattle.target_code.specs.declared.line.Line.{Line}
use Rattle.thread_machine.specs.Thread.{Thread, cross, go_on}
use Rattle.thread_machine.specs.Views.{skipped}
use Rattle.thread_machine.proofs.Running.{run_rest}

pub past : (input : List ℕ) (t : Thread) → go_on input (drop 1 t.top.rest) (skipped t) ≡ go_on input (drop 1 t.top.rest) t
past input t = ap (cross input) (run_rest input (drop 1 t.top.rest) t (drop 1 t.top.rest))

one_more : (ls : List Line) → drop 1 (drop 1 ls) ≡ drop 2 ls
one_more [] = refl
one_more (l ∷ ls) = refl

pub past_two : (input : List ℕ) (t : Thread) → go_on input (drop 1 (drop 1 t.top.rest)) (skipped t) ≡ go_on input (drop 2 t.top.rest) t
past_two input t =
    ap (cross input) (run_rest input (drop 1 (drop 1 t.top.rest)) t (drop 1 t.top.rest)) ∙ ap (λ z. go_on input z t) (one_more t.top.rest)
