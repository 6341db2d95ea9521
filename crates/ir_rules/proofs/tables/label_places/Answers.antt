use Rattle.std.proofs.Common.{ℕ, List, Option, ap, ◌∙◌, Bor, bytes_eq}
use Rattle.std.specs.BTreeMap as tree
use Rattle.std.specs.BTreeMap.{BTreeMap}
use Rattle.std.specs.Cmp.Lexicographic.{slice_cmp}
use Rattle.std.specs.Ordering.{nat_cmp}
use Rattle.ir_ast.specs.declared.program.Block.{Block}
use Rattle.ir_rules.specs.Walk.{or_first}
use Rattle.ir_rules.proofs.Places.{placed_next}
use Rattle.ir_rules.proofs.tables.label_places.Goals as goal

abbrev at_name : BTreeMap (Bor (List ℕ)) ℕ → List ℕ → Option ℕ
at_name m q = tree.get_by (λ k. slice_cmp nat_cmp q k.now) m

pub loop-place-preserved : goal.loop-place-preserved
loop-place-preserved c =
    let name : Block → List ℕ = λ z. z.label.name in
    let i = c.loop-place.place in
    let item = c.index-blocks-place in
    placed_next name c.args.blocks.now i item.result (at_name c.loop-place.places) (at_name c.insert_first.new.table) c.loop-place-test.true c.loop-place.invariant
    (λ q. c.in_ok-insert_first.ensures q ∙ ap (λ (z : List ℕ). or_first (at_name c.loop-place.places q) (bytes_eq q z) i) (c.as_slice.ensures ∙ ap name item.is))
