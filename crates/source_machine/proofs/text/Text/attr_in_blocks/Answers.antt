use Rattle.std.proofs.Common.{◌≡◌, ◌∙◌, Bool, false, List, Some, find, subst, sym}
use Rattle.ir_ast.specs.declared.program.Inst.{Inst}
use Rattle.ir_ast.specs.declared.program.Param.{Param}
use Rattle.ir_ast.specs.Attributes.{attr_of_handle, block_definitions}
use Rattle.std.specs.List.{flat_map}
use Rattle.source_machine.specs.Texts.{has_param, is_dest}
use Rattle.source_machine.proofs.Handles.{dest_here}
use Rattle.source_machine.proofs.text.Text.attr_in_blocks.Goals as goal

pub returns-in-Some : goal.returns-in-Some
returns-in-Some c =
    let fs = c.args.self.now.program.functions in
    let handle = c.args.handle.now in
    let blocks = c.args.blocks.now in
    let block = c.block-item.result in
    let missed : has_param block.params handle ≡ false =
    subst (λ (z : List Param). has_param z handle ≡ false) c.as_slice.ensures (sym c.if-has_param.ensures) in
    let found : find (λ (x : Inst). is_dest x.dest handle) block.insts ≡ Some c.in-Some.inst.now =
    subst (λ (z : List Inst). find (λ (x : Inst). is_dest x.dest handle) z ≡ Some c.in-Some.inst.now) c.as_slice-in-loop-block.ensures (sym c.in-Some.ensures) in
    c.spawned_attr.ensures
    ∙ dest_here fs blocks c.loop-block.block-index block c.in-Some.inst.now handle (attr_of_handle (flat_map (block_definitions fs) blocks) handle) c.loop-block-test.true c.block-item.is missed found c.loop-block.invariant
