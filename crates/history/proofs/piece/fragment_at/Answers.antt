use Rattle.std.proofs.Common.{◌≡◌, ◌+◌, ◌<◌, ◌≤◌, ◌∷◌, ◌∙◌, List, None, ap, arith, drop, length, slice_get, slice_index_or}
use Rattle.std.proofs.lemmas.List.{drop_more}
use Rattle.history.specs.declared.piece.Run.{Run}
use Rattle.history.specs.Pieces.{fragments_of}
use Rattle.history.proofs.Indexed.{first_run_at, later_run_at, length_fragments}
use Rattle.history.proofs.piece.fragment_at.Goals as goal

pub returns-then-left-len : goal.returns-then-left-len
returns-then-left-len c =
    let runs = c.args.runs.now in
    let i = c.loop-run.run-index in
    let left = c.loop-run.left in
    let none : Run = record { len = 0; first = None } in
    let run = slice_index_or runs i none in
    let split : drop i runs ≡ run ∷ drop (i + 1) runs = drop_more runs i none (omega arith) in
    c.loop-run.invariant.0
    ∙ ap (λ (rs : List Run). slice_get (fragments_of rs) left) split
    ∙ first_run_at run (drop (i + 1) runs) left (omega arith)
    ∙ c.frag.ensures

pub loop-run-preserved : goal.loop-run-preserved
loop-run-preserved c =
    let runs = c.args.runs.now in
    let i = c.loop-run.run-index in
    let left = c.loop-run.left in
    let none : Run = record { len = 0; first = None } in
    let run = slice_index_or runs i none in
    let rest = drop (i + 1) runs in
    let split : drop i runs ≡ run ∷ rest = drop_more runs i none (omega arith) in
    let within : left < length (fragments_of (drop i runs)) = c.loop-run.invariant.1 in
    let all : length (fragments_of (drop i runs)) ≡ run.len + length (fragments_of rest) =
    ap (λ (rs : List Run). length (fragments_of rs)) split ∙ length_fragments run rest in
    let after : run.len ≤ left = omega arith in (
      c.loop-run.invariant.0
          ∙ ap (λ (rs : List Run). slice_get (fragments_of rs) left) split
          ∙ later_run_at run rest left after,
      omega (arith, within, all, after),
    )
