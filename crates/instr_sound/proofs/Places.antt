-- Where the translation's functions, blocks and entry lines are, and the attribute of what a join gives.
use Rattle.std.proofs.Common.{◌≡◌, ℕ, zero, suc, ◌+◌, ◌<◌, List, [], ◌∷◌, ◌++◌, length, map, Option, Some, None, Bool, true, false, if◌then◌else◌, refl, sym, ap, ◌∙◌, subst, append_assoc, arith}
use Rattle.std.specs.Prelude.{slice_get, ◌||◌}
use Rattle.std.specs.List.{flat_map, list_any}
use Rattle.std.specs.Option.{option_and_then, option_flatten}
use Rattle.std.specs.Str.{bytes_eq}
use Rattle.ir_ast.specs.declared.hosts.HostEntry.{HostEntry}
use Rattle.ir_ast.specs.declared.types.Attr.{Attr}
use Rattle.ir_ast.specs.declared.types.Ty.{Ty}
use Rattle.ir_ast.specs.declared.types.Ty.TheVariants.{Int, Ptr}
use Rattle.ir_ast.specs.declared.program.Block.{Block}
use Rattle.ir_ast.specs.declared.program.Function.{Function}
use Rattle.ir_ast.specs.declared.program.Inst.{Inst}
use Rattle.ir_ast.specs.declared.program.Named.{Named}
use Rattle.ir_ast.specs.declared.program.Op.{Op}
use Rattle.ir_ast.specs.declared.program.Op.TheVariants as op
use Rattle.ir_ast.specs.declared.program.Param.{Param}
use Rattle.ir_ast.specs.declared.program.Program.{Program}
use Rattle.source_sem.specs.Source.{handle_attr}
use Rattle.ir_ast.specs.Numbers.{number_of_block, number_of_function, labels, blocks_end}
use Rattle.ir_ast.specs.Attributes.{Definition, definitions, registers, attrs, attr_of_handle}
use Rattle.target_code.specs.declared.line.Line.{Line}
use Rattle.target_code.specs.declared.line.Line.TheVariants as line
use Rattle.instrument.specs.Translation.{Scope, slot, attr_of_join, for_ptr, param_lines, entry_retag, entry_retags, entry_lines, block_lines, blocks_lines, scope_of, function_code, functions_code, translation}
use Rattle.ir_ast.specs.Lines.{block_instructions}
use Rattle.thread_machine.specs.Thread.{lines_or_none, block_at, first_lines}
use Rattle.instr_sound.specs.Simulation.{rest_lines}

-- ---- lists

-- what is below the length is there
pub record There {A : Type 0} (xs : List A) (n : ℕ) : Type 0 where
  pub item : A
  pub is : slice_get xs n ≡ Some item

pub there : {A : Type 0} (xs : List A) (n : ℕ) → n < length xs → There xs n
there [] n lt = absurd (omega arith)
there (y ∷ xs) zero lt = record { item = y; is = refl }
there (y ∷ xs) (suc n) lt = let more = there xs n (omega arith) in record { item = more.item; is = more.is }

map_wide : {A B : Type 0} (f : A → B) (xs : List A) → length (map f xs) ≡ length xs
map_wide f [] = refl
map_wide f (x ∷ xs) = ap suc (map_wide f xs)

pub labels_wide : (bs : List Block) → length (labels bs) ≡ length bs
labels_wide bs = map_wide (λ (b : Block). b.label.name) bs

pub attrs_wide : (ds : List Definition) → length (attrs ds) ≡ length (registers ds)
attrs_wide ds = map_wide (λ (d : Definition). d.attr) ds ∙ sym (map_wide (λ (d : Definition). d.name) ds)

-- ---- attributes

-- the attribute of what a join gives
pub join_attr_same : (fs : List Function) (hosts : List HostEntry) (k : ℕ) (g : Function) (h : Named) → slice_get fs k ≡ Some g → attr_of_join (scope_of fs hosts g) h ≡ handle_attr fs k h.name
join_attr_same fs hosts k g h known = sym (ap (option_and_then (λ (z : Function). attr_of_handle (definitions fs z) h.name)) known)

-- ---- functions and blocks

functions_at : (fs : List Function) (hosts : List HostEntry) (n : ℕ) (gs : List Function) (k : ℕ) (g : Function) → slice_get gs k ≡ Some g → slice_get (functions_code fs hosts n gs) k ≡ Some (function_code fs hosts (number_of_function n gs k) g)
functions_at fs hosts n [] k g e = absurd cc
functions_at fs hosts n (y ∷ gs) zero g e = let same : y ≡ g = cc in ap (λ z. Some (function_code fs hosts n z)) same
functions_at fs hosts n (y ∷ gs) (suc k) g e = functions_at fs hosts (blocks_end n y.blocks) gs k g e

pub function_at : (p : Program) (hosts : List HostEntry) (k : ℕ) (g : Function) → slice_get p.functions k ≡ Some g → slice_get (translation hosts p).functions k ≡ Some (function_code p.functions hosts (number_of_function 0 p.functions k) g)
function_at p hosts k g e = functions_at p.functions hosts 0 p.functions k g e

blocks_at : (x : Scope) (n : ℕ) (bs : List Block) (m : ℕ) (b : Block) → slice_get bs m ≡ Some b → slice_get (blocks_lines x n bs) m ≡ Some (block_lines x (number_of_block n bs m) b)
blocks_at x n [] m b e = absurd cc
blocks_at x n (y ∷ bs) zero b e = let same : y ≡ b = cc in ap (λ z. Some (block_lines x n z)) same
blocks_at x n (y ∷ bs) (suc m) b e = blocks_at x (n + block_instructions y) bs m b e

pub code_at : (p : Program) (hosts : List HostEntry) (k : ℕ) (g : Function) (m : ℕ) (b : Block) → slice_get p.functions k ≡ Some g → slice_get g.blocks m ≡ Some b → block_at (slice_get (translation hosts p).functions k) m ≡ rest_lines (scope_of p.functions hosts g) (number_of_block (number_of_function 0 p.functions k) g.blocks m) b.insts b.term.jump
code_at p hosts k g m b ek em =
    ap (λ z. block_at z m) (function_at p hosts k g ek)
    ∙ ap lines_or_none (blocks_at (scope_of p.functions hosts g) (number_of_function 0 p.functions k) g.blocks m b em)

-- ---- what follows the entry lines

for_ptr_append : (ty : Ty) (l : Line) (ls more : List Line) → for_ptr ty l ls ++ more ≡ for_ptr ty l (ls ++ more)
for_ptr_append (Int w) l ls more = refl
for_ptr_append Ptr l ls more = refl

params_append : (x : Scope) (i : ℕ) (qs : List Param) (ls more : List Line) → param_lines x i qs ls ++ more ≡ param_lines x i qs (ls ++ more)
params_append x i [] ls more = refl
params_append x i (q ∷ qs) ls more =
    ap (λ z. line.Param (slot x q.reg) i ∷ z) (for_ptr_append q.ty (line.ShadowParam (slot x q.reg) i) (param_lines x (i + 1) qs ls) more)
    ∙ ap (λ z. line.Param (slot x q.reg) i ∷ for_ptr q.ty (line.ShadowParam (slot x q.reg) i) z) (params_append x (i + 1) qs ls more)

retag_append : (r : ℕ) (a : Option Attr) (ls more : List Line) → entry_retag r a ls ++ more ≡ entry_retag r a (ls ++ more)
retag_append r None ls more = refl
retag_append r (Some a) ls more = refl

retags_append : (x : Scope) (qs : List Param) (more : List Line) → entry_retags x qs [] ++ more ≡ entry_retags x qs more
retags_append x [] more = refl
retags_append x (q ∷ qs) more = retag_append (slot x q.reg) q.attr (entry_retags x qs []) more ∙ ap (entry_retag (slot x q.reg) q.attr) (retags_append x qs more)

-- the lines with which a function begins
pub first_at : (p : Program) (hosts : List HostEntry) (k : ℕ) (g : Function) (b : Block) → slice_get p.functions k ≡ Some g → slice_get g.blocks 0 ≡ Some b
    → first_lines (slice_get (translation hosts p).functions k)
    ≡ line.PushFrame ∷ param_lines (scope_of p.functions hosts g) 0 g.params (entry_retags (scope_of p.functions hosts g) g.params (rest_lines (scope_of p.functions hosts g) (number_of_function 0 p.functions k) b.insts b.term.jump))
first_at p hosts k g b ek em =
    let x = scope_of p.functions hosts g in
    let rest = rest_lines x (number_of_function 0 p.functions k) b.insts b.term.jump in
    let block : lines_or_none (slice_get (function_code p.functions hosts (number_of_function 0 p.functions k) g).blocks 0) ≡ rest = ap lines_or_none (blocks_at x (number_of_function 0 p.functions k) g.blocks 0 b em) in
    ap first_lines (function_at p hosts k g ek)
    ∙ ap (λ z. entry_lines x g.params ++ z) block
    ∙ ap (λ z. line.PushFrame ∷ z) (params_append x 0 g.params (entry_retags x g.params []) rest ∙ ap (param_lines x 0 g.params) (retags_append x g.params rest))
