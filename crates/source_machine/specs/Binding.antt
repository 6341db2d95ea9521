-- What a parameter is given.
use Rattle.std.specs.Prelude.{Option, Some, None}
use Rattle.history.specs.declared.ask.Arg.{Arg}
use Rattle.ir_ast.specs.declared.program.Param.{Param}
use Rattle.thread_parts.specs.Words.{blank, arg_at}

abbrev pub handed_to : Param → Option Arg → Arg
handed_to p None = blank
handed_to p (Some x) = arg_at p.ty x
