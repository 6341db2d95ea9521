-- Where threads start: a program's setting, arguments that fit parameters, and main.
use Rattle.std.specs.Prelude.{ℕ, List, [], ◌∷◌, map, codes, true}
use Rattle.history.specs.declared.ask.Arg.{Arg}
use Rattle.ir_ast.specs.declared.hosts.HostTable.{HostTable}
use Rattle.ir_ast.specs.declared.program.Param.{Param}
use Rattle.ir_ast.specs.declared.program.Program.{Program}
use Rattle.ir_ast.specs.Numbers.{function_place}
use Rattle.thread_parts.specs.Fits.{ValueFits}
use Rattle.source_sem.specs.Source.{Setting, Source, source_start}

-- the program with its input, over these host functions
abbrev pub setting_of : Program → List ℕ → HostTable → Setting
setting_of program input hosts = record { program = program; input = input; hosts = map (λ h. h.name) hosts.entries; tracked = true }

-- as many arguments as parameters, each a word of its parameter's type
abbrev pub ArgsFit : List Param → List Arg → Type 0
ArgsFit [] [] = Unit {0}
ArgsFit [] (a ∷ args) = ⊥
ArgsFit (p ∷ ps) [] = ⊥
ArgsFit (p ∷ ps) (a ∷ args) = ValueFits p.ty a × ArgsFit ps args

abbrev pub main_of : Program → ℕ
main_of program = function_place program.functions (codes "main")

-- the first state of thread 0
abbrev pub main_start : Setting → Source
main_start x = source_start x (main_of x.program) []
