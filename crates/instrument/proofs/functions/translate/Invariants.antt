use Rattle.std.proofs.Common.{◌≡◌, ◌++◌, drop}
use Rattle.ir_ast.specs.Tokens.{Each}
use Rattle.instrument.specs.Translation.{functions_code}
use Rattle.instrument.specs.Names.{FunctionNumbered, program_end}
use Rattle.instrument.proofs.functions.translate.Given as goal

abbrev pub invariant-loop-function : goal.invariant-loop-function
invariant-loop-function l = record {
  same : l.functions ≡ l.program.functions;
  rest : Each (FunctionNumbered l.program.functions) (drop l.function-index l.program.functions);
  end : program_end l.number (drop l.function-index l.program.functions) ≡ program_end 0 l.program.functions;
  so_far : l.code ++ functions_code l.program.functions l.hosts.entries l.number (drop l.function-index l.program.functions) ≡ functions_code l.program.functions l.hosts.entries 0 l.program.functions;
}
