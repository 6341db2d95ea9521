-- Names that stand once, and lists that are short enough for numbers of 32 bits.
use Rattle.std.specs.Prelude.{◌≡◌, ℕ, ◌^◌, ◌<◌, false, List, [], ◌∷◌, length}
use Rattle.std.specs.List.{list_any}
use Rattle.std.specs.Str.{bytes_eq}
use Rattle.ir_ast.specs.Tokens.{Each}
use Rattle.ir_ast.specs.declared.program.Op.{Op}
use Rattle.ir_ast.specs.declared.program.Op.TheVariants as op
use Rattle.ir_ast.specs.declared.program.Jump.{Jump}
use Rattle.ir_ast.specs.declared.program.Jump.TheVariants.{Br, CondBr, Ret, Unreachable}
use Rattle.ir_ast.specs.declared.program.Block.{Block}
use Rattle.ir_ast.specs.declared.program.Function.{Function}
use Rattle.ir_ast.specs.declared.program.Program.{Program}
use Rattle.ir_ast.specs.declared.hosts.HostEntry.{HostEntry}
use Rattle.ir_ast.specs.Numbers.{function_names, labels, blocks_end}
use Rattle.ir_ast.specs.Attributes.{registers, definitions}

-- no name stands twice
abbrev pub IsOnce : List (List ℕ) → Type 0
IsOnce [] = Unit {0}
IsOnce (n ∷ ns) = (list_any (bytes_eq n) ns ≡ false) × IsOnce ns

-- the items have numbers of 32 bits
abbrev pub Numbered : {A : Type 0} → List A → Type 0
Numbered xs = length xs < 2 ^ 32

abbrev pub OpNumbered : Op → Type 0
OpNumbered (op.Call result function args) = Numbered args
OpNumbered (op.Spawn function args) = Numbered args
OpNumbered (op.Const width value) = Unit {0}
OpNumbered op.Null = Unit {0}
OpNumbered (op.Make place size) = Unit {0}
OpNumbered (op.Gep ptr add) = Unit {0}
OpNumbered (op.Load ty ptr) = Unit {0}
OpNumbered (op.Store ty val ptr) = Unit {0}
OpNumbered (op.Retag kind ptr size) = Unit {0}
OpNumbered (op.Binary o width a b) = Unit {0}
OpNumbered (op.Compare cond ty a b) = Unit {0}
OpNumbered (op.Select ty cond a b) = Unit {0}
OpNumbered (op.Cast o from to val to_at) = Unit {0}
OpNumbered (op.PtrToInt ptr) = Unit {0}
OpNumbered (op.Input index) = Unit {0}
OpNumbered (op.Modify o width ptr val) = Unit {0}
OpNumbered (op.CmpXchg width ptr expected val) = Unit {0}
OpNumbered (op.Copy to from len) = Unit {0}
OpNumbered (op.Free ptr) = Unit {0}
OpNumbered (op.Print width val) = Unit {0}
OpNumbered (op.Host result host args) = Unit {0}
OpNumbered (op.Join result ty_at handle) = Unit {0}

abbrev pub JumpNumbered : Jump → Type 0
JumpNumbered (Br goal) = Numbered goal.args
JumpNumbered (CondBr cond first second) = Numbered first.args × Numbered second.args
JumpNumbered (Ret val ty_at) = Unit {0}
JumpNumbered Unreachable = Unit {0}

pub record BlockNumbered (b : Block) : Type 0 where
  pub params : Numbered b.params
  pub ops : Each (λ i. OpNumbered i.op) b.insts
  pub jump : JumpNumbered b.term.jump

-- a function whose registers and labels stand once and which is short enough
pub record FunctionNumbered (fs : List Function) (f : Function) : Type 0 where
  pub registers_once : IsOnce (registers (definitions fs f))
  pub labels_once : IsOnce (labels f.blocks)
  pub few_registers : Numbered (definitions fs f)
  pub few_blocks : Numbered f.blocks
  pub few_params : Numbered f.params
  pub blocks : Each BlockNumbered f.blocks

abbrev pub program_end : ℕ → List Function → ℕ
program_end n [] = n
program_end n (f ∷ fs) = program_end (blocks_end n f.blocks) fs

pub record IsNumbered (hosts : List HostEntry) (p : Program) : Type 0 where
  pub functions_once : IsOnce (function_names p.functions)
  pub few_functions : Numbered p.functions
  pub few_hosts : Numbered hosts
  pub few_instructions : program_end 0 p.functions < 2 ^ 32
  pub functions : Each (FunctionNumbered p.functions) p.functions
