use Rattle.std.proofs.Common.{sym, subst}
use Rattle.ir_ast.specs.Programs.{IsProgram}
use Rattle.ir_ast.specs.declared.program.Program.{Program}
use Rattle.ir_examples.proofs.loads.verified_instructions.Goals as goal

pub verify-requires-clause-program : goal.verify-requires-clause-program
verify-requires-clause-program c = subst (λ (p : Program). IsProgram p) (sym c.in_ok-make.ensures) (c.made_is_program.ensures.program c.args.seed c.args.size c.requires.few)
