use Rattle.std.proofs.Common.{◌≡◌, ◌<◌, ◌∙◌, Some, ap, sym, refl, arith, length, slice_get}
use Rattle.std.proofs.lemmas.Option.{slice_get_read}
use Rattle.history.specs.Pieces.{fragments_of}
use Rattle.history.proofs.Indexed.{pair_at, length_pairs}
use Rattle.history.proofs.piece.Piece.get.Goals as goal

pub returns-clause-value : goal.returns-clause-value
returns-clause-value c =
    let p = c.self.inside in
    let at = c.args.at in
    let pairs = length_pairs p.bytes.items (fragments_of p.runs.items) (sym c.self.invariant.long) in
    let within : at < length p.bytes.items = omega (arith, c.requires, pairs, ap length c.self.view_is) in
    let byte : slice_get p.bytes.items at ≡ Some c.index.result.now =
    slice_get_read p.bytes.items (length p.bytes.items) at c.index.result.now refl within c.index.ensures in
    let frag : slice_get (fragments_of p.runs.items) at ≡ Some c.fragment_at.result =
    ap (λ rs. slice_get (fragments_of rs) at) (sym c.deref.ensures.value) ∙ c.fragment_at.ensures in
    ap (λ ps. slice_get ps at) (sym c.self.view_is)
    ∙ pair_at p.bytes.items (fragments_of p.runs.items) at c.index.result.now c.fragment_at.result byte frag
