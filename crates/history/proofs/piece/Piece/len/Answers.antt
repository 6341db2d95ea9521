use Rattle.std.proofs.Common.{ap, sym, ◌∙◌, ◌≡◌, length, vec_len, rules, arith}
use Rattle.history.specs.Pieces.{fragments_of}
use Rattle.history.proofs.Runs.{length-zip}
use Rattle.history.proofs.piece.Piece.len.Goals as goal

pub returns-clause-value : goal.returns-clause-value
returns-clause-value c =
    let p = c.self.inside in
    let counted : vec_len p.bytes ≡ length p.bytes.items = search rules in
    c.len.ensures ∙ counted ∙ sym (length-zip p.bytes.items (fragments_of p.runs.items) (sym c.self.invariant.long)) ∙ ap length c.self.view_is

pub returns-clause-few : goal.returns-clause-few
returns-clause-few c =
    let p = c.self.inside in
    let counted : vec_len p.bytes ≡ length p.bytes.items = search rules in
    omega (arith, c.len.ensures, counted, c.self.invariant.short)
