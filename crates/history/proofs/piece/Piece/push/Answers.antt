use Rattle.std.proofs.Common.{ap, sym, ◌∙◌, ◌≡◌, ◌<◌, ◌++◌, ◌∷◌, [], length, length-append, arith}
use Rattle.std.specs.List.{zip}
use Rattle.history.specs.Pieces.{fragments_of}
use Rattle.history.proofs.Runs.{length-zip, zip-push}
use Rattle.history.proofs.piece.Piece.push.Goals as goal

pub push_fragment-requires-clause-short : goal.push_fragment-requires-clause-short
push_fragment-requires-clause-short c =
    let p = c.self.inside in
    let short : length p.bytes.items < 32 = omega (arith, c.requires, ap length c.self.view_is, length-zip p.bytes.items (fragments_of p.runs.items) (sym c.self.invariant.long)) in
    let stays : length (fragments_of c.reserve-2.new.self.items) ≡ length (fragments_of p.runs.items) = ap (λ rs. length (fragments_of rs)) c.reserve-2.ensures.items in
    omega (arith, c.self.invariant.long)

pub invariant_of-self-2 : goal.invariant_of-self-2
invariant_of-self-2 c =
    let p = c.self.inside in
    let short : length p.bytes.items < 32 = omega (arith, c.requires, ap length c.self.view_is, length-zip p.bytes.items (fragments_of p.runs.items) (sym c.self.invariant.long)) in
    let bytes : c.push_reserved.new.self.items ≡ p.bytes.items ++ c.args.byte ∷ [] = c.push_reserved.ensures.items ∙ ap (λ xs. xs ++ c.args.byte ∷ []) c.reserve.ensures.items in
    let frags : fragments_of c.push_fragment.new.runs.items ≡ fragments_of p.runs.items ++ c.args.frag ∷ [] = c.push_fragment.ensures.fragments ∙ ap (λ rs. fragments_of rs ++ c.args.frag ∷ []) c.reserve-2.ensures.items in
    record {
      short = omega (arith, ap length bytes, length-append p.bytes.items (c.args.byte ∷ []));
      long = omega (arith, ap length bytes, ap length frags, length-append p.bytes.items (c.args.byte ∷ []), length-append (fragments_of p.runs.items) (c.args.frag ∷ []), c.self.invariant.long);
      small = c.push_fragment.ensures.small;
      few = omega (arith, c.push_fragment.ensures.few, ap length c.reserve-2.ensures.items, ap length bytes, length-append p.bytes.items (c.args.byte ∷ []), c.self.invariant.few);
    }

pub returns-clause-ok : goal.returns-clause-ok
returns-clause-ok c =
    let p = c.self.inside in
    let bytes : c.push_reserved.new.self.items ≡ p.bytes.items ++ c.args.byte ∷ [] = c.push_reserved.ensures.items ∙ ap (λ xs. xs ++ c.args.byte ∷ []) c.reserve.ensures.items in
    let frags : fragments_of c.push_fragment.new.runs.items ≡ fragments_of p.runs.items ++ c.args.frag ∷ [] = c.push_fragment.ensures.fragments ∙ ap (λ rs. fragments_of rs ++ c.args.frag ∷ []) c.reserve-2.ensures.items in
    ap (λ xs. zip xs (fragments_of c.push_fragment.new.runs.items)) bytes ∙ ap (zip (p.bytes.items ++ c.args.byte ∷ [])) frags
    ∙ zip-push p.bytes.items (fragments_of p.runs.items) c.args.byte c.args.frag (sym c.self.invariant.long)
    ∙ ap (λ xs. xs ++ (c.args.byte, c.args.frag) ∷ []) c.self.view_is
