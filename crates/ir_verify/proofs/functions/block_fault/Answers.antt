use Rattle.std.proofs.Common.{◌+◌, List, Option, take, get_or, sym, subst, ◌⊎◌}
use Rattle.ir_ast.specs.declared.program.Inst.{Inst}
use Rattle.ir_rules.specs.declared.rule.Fault.{Fault}
use Rattle.ir_rules.specs.Least.{IsLeast, AnyOf}
use Rattle.ir_rules.specs.Occurrences.{function_events, jump_goals}
use Rattle.ir_rules.specs.Walk.{held_in}
use Rattle.ir_rules.proofs.Least.{least-or}
use Rattle.ir_verify.specs.Faults.{InstFault, RetFault, GoalFault, BlockFault}
use Rattle.ir_rules.specs.Checks.{op_fault}
use Rattle.ir_rules.proofs.Any.{any-next, any-all, none_in}
use Rattle.ir_verify.proofs.Said.{least_op, least_ret}
use Rattle.ir_verify.proofs.functions.block_fault.Goals as goal

pub loop-inst-init : goal.loop-inst-init
loop-inst-init c = λ x h. none_in h.0 h.1

pub loop-inst-preserved : goal.loop-inst-preserved
loop-inst-preserved c =
    let fs = c.args.table.now.functions.now in
    let hosts = c.args.table.now.hosts.now in
    let es = function_events c.args.function.now in
    let S = InstFault fs hosts es in
    let insts = c.as_slice-insts.result.now in
    let i = c.loop-inst.inst-index in
    let item = c.inst-item.result in
    subst (λ (z : Option Fault). IsLeast (AnyOf S (take (i + 1) insts)) z) (sym c.lesser_fault-first.ensures)
    (any-next S insts i item c.loop-inst.first c.op_fault.result c.loop-inst-test.true c.loop-inst.invariant
    (subst (λ (z : Option Fault). IsLeast (S (get_or insts i item)) z) (sym c.op_fault.ensures)
    (subst (λ (z : Inst). IsLeast (S z) (op_fault fs hosts (held_in c.args.holdings.now) item.op)) c.inst-item.is (least_op fs hosts es (held_in c.args.holdings.now) c.requires.registers item.op))))

pub returns : goal.returns
returns c =
    let fs = c.args.table.now.functions.now in
    let hosts = c.args.table.now.hosts.now in
    let f = c.args.function.now in
    let b = c.args.block.now in
    let S = InstFault fs hosts (function_events f) in
    let insts = c.as_slice-insts.result.now in
    let R = RetFault f.result.ty b.term.jump in
    let G = AnyOf (GoalFault f.blocks) (jump_goals b.term.jump) in
    let all : IsLeast (AnyOf S b.insts) c.loop-inst.first = subst (λ (z : List Inst). IsLeast (AnyOf S z) c.loop-inst.first) c.as_slice-insts.ensures (any-all S insts c.loop-inst.inst-index c.loop-inst.first c.loop-inst-test.false c.loop-inst.invariant) in
    let returned : IsLeast R c.ret_fault-returned.result = subst (λ (z : Option Fault). IsLeast R z) (sym c.ret_fault-returned.ensures) (least_ret f.result.ty b.term.jump) in
    let within : IsLeast (λ x. AnyOf S b.insts x ⊎ R x) c.lesser_fault-within.result = subst (λ (z : Option Fault). IsLeast (λ x. AnyOf S b.insts x ⊎ R x) z) (sym c.lesser_fault-within.ensures) (least-or (AnyOf S b.insts) R c.loop-inst.first c.ret_fault-returned.result all returned) in
    subst (λ (z : Option Fault). IsLeast (BlockFault fs hosts f b) z) (sym c.lesser_fault.ensures) (least-or (λ x. AnyOf S b.insts x ⊎ R x) G c.lesser_fault-within.result c.goals_fault-gone.result within c.goals_fault-gone.ensures)
