use Rattle.std.proofs.Common.{◌≡◌, ◌+◌, ◌++◌, drop}
use Rattle.ir_ast.specs.Tokens.{Each}
use Rattle.ir_ast.specs.declared.program.Jump.{Jump}
use Rattle.instrument.specs.Translation.{body_lines}
use Rattle.instrument.specs.Names.{OpNumbered}
use Rattle.instrument.proofs.functions.put_insts.Given as goal

abbrev pub invariant-loop-inst : goal.invariant-loop-inst
invariant-loop-inst l = record {
  counted : l.number ≡ l.first + l.inst-index;
  rest : Each (λ i. OpNumbered i.op) (drop l.inst-index l.insts);
  so_far : (jump : Jump) → l.code ++ body_lines l.scope l.number (drop l.inst-index l.insts) jump ≡ l.fn.code ++ body_lines l.scope l.first l.insts jump;
}
