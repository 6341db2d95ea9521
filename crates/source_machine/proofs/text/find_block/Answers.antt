use Rattle.std.proofs.Common.{◌≡◌, ◌+◌, ◌∙◌, Some, ℕ, drop, sym, subst}
use Rattle.ir_ast.specs.Numbers.{blocks_end}
use Rattle.source_machine.proofs.Numbers.{Found, block_room, block_passed, found_here, seeks_on, stands_here}
use Rattle.source_machine.proofs.text.find_block.Goals as goal

found_now : (c : goal.Then-has_label) → Found c.args.label.now c.args.first c.args.blocks.now (Some c.block-item.result) c.loop-block.number
found_now c =
    found_here c.args.label.now c.args.blocks.now c.loop-block.block-index c.block-item.result c.args.first c.loop-block.number c.loop-block-test.true c.block-item.is (sym c.has_label.ensures ∙ c.if-has_label.true) c.loop-block.invariant.0

pub returns-then-has_label-clause-block : goal.returns-then-has_label-clause-block
returns-then-has_label-clause-block c = (found_now c).is_block

pub returns-then-has_label-clause-number : goal.returns-then-has_label-clause-number
returns-then-has_label-clause-number c = (found_now c).is_number

pub returns-then-has_label-clause-stands : goal.returns-then-has_label-clause-stands
returns-then-has_label-clause-stands c =
    stands_here c.loop-block.number c.block-item.result
    (block_room c.args.blocks.now c.loop-block.block-index c.block-item.result c.loop-block.number (blocks_end c.args.first c.args.blocks.now) c.loop-block-test.true c.block-item.is c.loop-block.invariant.1 c.requires)

pub block_end-number-requires : goal.block_end-number-requires
block_end-number-requires c =
    block_room c.args.blocks.now c.loop-block.block-index c.block-item.result c.loop-block.number (blocks_end c.args.first c.args.blocks.now) c.loop-block-test.true c.block-item.is c.loop-block.invariant.1 c.requires

pub loop-block-preserved : goal.loop-block-preserved
loop-block-preserved c =
    let blocks = c.args.blocks.now in
    let i = c.loop-block.block-index in
    let b = c.block-item.result in (
      λ d number f.
          seeks_on c.args.label.now blocks i b c.args.first c.loop-block.number c.loop-block-test.true c.block-item.is (sym c.has_label.ensures ∙ c.if-has_label.false) c.loop-block.invariant.0 d number
          (subst (λ (m : ℕ). Found c.args.label.now m (drop (i + 1) blocks) d number) c.block_end-number.ensures f),
      subst (λ (m : ℕ). blocks_end m (drop (i + 1) blocks) ≡ blocks_end c.args.first blocks) (sym c.block_end-number.ensures)
          (block_passed blocks i b c.loop-block.number (blocks_end c.args.first blocks) c.loop-block-test.true c.block-item.is c.loop-block.invariant.1),
    )
