-- Registers by name, operands, words at a type.
use Rattle.std.specs.Prelude.{ℕ, List, [], ◌∷◌, Option, Some, None, if◌then◌else◌}
use Rattle.std.specs.Str.{bytes_eq}
use Rattle.history.specs.declared.ask.Arg.{Arg}
use Rattle.ir_ast.specs.declared.program.Val.{Val}
use Rattle.ir_ast.specs.declared.program.Val.TheVariants.{Reg, Num}
use Rattle.ir_ast.specs.declared.program.TypedVal.{TypedVal}
use Rattle.ir_ast.specs.declared.program.Param.{Param}
use Rattle.ir_ast.specs.declared.program.Named.{Named}
use Rattle.thread_parts.specs.Words.{blank, plain_arg, arg_at}

-- registers by name, each once, in the order in which they were first written
abbrev pub Env : Type 0
Env = List (List ℕ × Arg)

abbrev pub value_in : Env → List ℕ → Arg
value_in [] r = blank
value_in (e ∷ env) r = if bytes_eq e.0 r then e.1 else value_in env r

-- an operand
abbrev pub operand : Env → Val → Arg
operand env (Reg r) = value_in env r.name
operand env (Num n) = plain_arg n

abbrev pub arg_of : Env → TypedVal → Arg
arg_of env v = arg_at v.ty (operand env v.val)

abbrev pub args_of : Env → List TypedVal → List Arg
args_of env [] = []
args_of env (v ∷ vs) = arg_of env v ∷ args_of env vs

-- the registers after a write
abbrev pub with_value : List ℕ → Arg → Env → Env
with_value r x [] = (r, x) ∷ []
with_value r x (e ∷ env) = if bytes_eq e.0 r then (e.0, x) ∷ env else e ∷ with_value r x env

-- the parameters' values, by position; what wasn't handed over is blank
abbrev pub bind : List Param → List Arg → Env → Env
bind [] xs env = env
bind (p ∷ ps) [] env = bind ps [] (with_value p.reg.name blank env)
bind (p ∷ ps) (x ∷ xs) env = bind ps xs (with_value p.reg.name (arg_at p.ty x) env)

abbrev pub put : Option Named → Arg → Env → Env
put None x env = env
put (Some r) x env = with_value r.name x env

-- a result, where there is one
abbrev pub put_some : Option Named → Option Arg → Env → Env
put_some dest None env = env
put_some dest (Some x) env = put dest x env
