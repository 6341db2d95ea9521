-- The functions of a program that the grammar can give.
use Rattle.std.proofs.Common.{◌≡◌, ℕ, ◌<◌, List, [], ◌∷◌, length, sym, subst}
use Rattle.ir_ast.specs.Programs.{IsProgram}
use Rattle.ir_ast.specs.Shapes.{IsFunction}
use Rattle.ir_ast.specs.Tokens.{Each}
use Rattle.ir_ast.specs.declared.program.Function.{Function}
use Rattle.ir_ast.specs.declared.program.Program.{Program}

each_some : (version : ℕ) (fs : List Function) → Each (IsFunction version) fs → Each (λ (f : Function). 0 < length f.blocks) fs
each_some version [] h = tt
each_some version (f ∷ fs) h = (h.0.some_block, each_some version fs h.1)

pub some_blocks : (p : Program) (fs : List Function) → IsProgram p → fs ≡ p.functions → Each (λ (f : Function). 0 < length f.blocks) fs
some_blocks p fs h e = subst (λ (gs : List Function). Each (λ (f : Function). 0 < length f.blocks) gs) (sym e) (each_some p.version p.functions h.shaped.functions)
