-- The translation of a program whose names are all known is well formed.
use Rattle.std.proofs.Common.{◌≡◌, ℕ, suc, ◌+◌, ◌<◌, false, List, [], ◌∷◌, length, Option, Some, None, refl, sym, ap, subst}
use Rattle.ir_ast.specs.Tokens.{Each}
use Rattle.ir_ast.specs.Shapes.{IsVersion}
use Rattle.ir_ast.specs.declared.hosts.HostEntry.{HostEntry}
use Rattle.ir_ast.specs.declared.program.Block.{Block}
use Rattle.ir_ast.specs.declared.program.Function.{Function}
use Rattle.ir_ast.specs.declared.program.Program.{Program}
use Rattle.target_code.specs.declared.line.Line.{Line}
use Rattle.target_code.specs.declared.line.Line.TheVariants as line
use Rattle.target_code.specs.declared.line.TargetFunction.{TargetFunction}
use Rattle.target_code.specs.Formed.{EachTwo, IsChecked, IsShadowed, IsReturned, Begins, is_turn, is_push, HasBlocks, NoPush, PushesOnce, NamesKnown, stretches, IsWellFormed}
use Rattle.ir_ast.specs.Lines.{block_instructions}
use Rattle.ir_ast.specs.Numbers.{blocks_end}
use Rattle.instrument.specs.Translation.{Scope, scope_of, blocks_lines, param_lines, entry_retags, entry_lines, function_code, functions_code, translation}
use Rattle.instrument.specs.Known.{HasBlock, IsKnown, AllKnown}
use Rattle.instrument.proofs.Neighbours.{Fit, block_fits, entry_fits}
use Rattle.instrument.proofs.Exist.{Fine, AllFine, fine_block, fine_entry}

each_map : {A : Type 0} (P Q : A → Type 0) → ((x : A) → P x → Q x) → (xs : List A) → Each P xs → Each Q xs
each_map P Q f [] h = tt
each_map P Q f (x ∷ xs) h = (f x h.0, each_map P Q f xs h.1)

two_map : (P Q : Option Line → Option Line → Type 0) → ((a b : Option Line) → P a b → Q a b) → (before : Option Line) (ls : List Line) → EachTwo P before ls → EachTwo Q before ls
two_map P Q f before [] h = f before None h
two_map P Q f before (l ∷ ls) h = (f before (Some l) h.0, two_map P Q f (Some l) ls h.1)

-- ---- blocks

blocks_length : (x : Scope) (n : ℕ) (bs : List Block) → length (blocks_lines x n bs) ≡ length bs
blocks_length x n [] = refl
blocks_length x n (b ∷ bs) = ap suc (blocks_length x (n + block_instructions b) bs)

blocks_fit : (x : Scope) (n : ℕ) (bs : List Block) → Each (EachTwo Fit None) (blocks_lines x n bs)
blocks_fit x n [] = tt
blocks_fit x n (b ∷ bs) = (block_fits x n b, blocks_fit x (n + block_instructions b) bs)

blocks_begin : (x : Scope) (n : ℕ) (bs : List Block) → Each (Begins is_turn) (blocks_lines x n bs)
blocks_begin x n [] = tt
blocks_begin x n (b ∷ bs) = (refl, blocks_begin x (n + block_instructions b) bs)

blocks_fine : (x : Scope) (n : ℕ) (bs : List Block) → Each (HasBlock x) x.blocks → Each (HasBlock x) bs → Each (AllFine x) (blocks_lines x n bs)
blocks_fine x n [] known h = tt
blocks_fine x n (b ∷ bs) known h = (fine_block x n b known h.0, blocks_fine x (n + block_instructions b) bs known h.1)

abbrev pub Names : Scope → Line → Type 0
Names x l = NamesKnown (length x.registers) (length x.blocks) (length x.functions) l

names_of : (x : Scope) (ls : List Line) → AllFine x ls → Each (Names x) ls
names_of x ls h = each_map (Fine x) (Names x) (λ l f. f.names) ls h

no_push : (x : Scope) (ls : List Line) → AllFine x ls → NoPush ls
no_push x ls h = each_map (Fine x) (λ l. is_push l ≡ false) (λ l f. f.push) ls h

-- ---- functions

-- what the list asks of a function, in code with so many functions
pub record CodeFits (function_count : ℕ) (c : TargetFunction) : Type 0 where
  pub two : Each (EachTwo Fit None) (stretches c)
  pub blocks : HasBlocks c
  pub pushes : PushesOnce c
  pub names : Each (Each (NamesKnown c.slots (length c.blocks) function_count)) (stretches c)

code_fits : (fs : List Function) (hosts : List HostEntry) (n : ℕ) (f : Function) → IsKnown (scope_of fs hosts f) f → CodeFits (length fs) (function_code fs hosts n f)
code_fits fs hosts n f known =
    let x : Scope = scope_of fs hosts f in
    let lines : List Line = param_lines x 0 f.params (entry_retags x f.params []) in
    let entry : AllFine x lines = fine_entry x f.params known.params in
    let bodies : Each (AllFine x) (blocks_lines x n f.blocks) = blocks_fine x n f.blocks known.blocks known.blocks in
    let size : length f.blocks ≡ length (blocks_lines x n f.blocks) = sym (blocks_length x n f.blocks) in
    let push : Names x line.PushFrame = record { slots = tt; block = tt; function = tt } in
    let named : Each (Each (Names x)) (entry_lines x f.params ∷ blocks_lines x n f.blocks) =
    ((push, names_of x lines entry), each_map (AllFine x) (Each (Names x)) (names_of x) (blocks_lines x n f.blocks) bodies) in
    record {
      two = (entry_fits x f.params, blocks_fit x n f.blocks);
      blocks = record { some_block = subst (λ (k : ℕ). 0 < k) size known.some_block; begun = blocks_begin x n f.blocks };
      pushes = record { entry = refl; rest = no_push x lines entry; blocks = each_map (AllFine x) NoPush (no_push x) (blocks_lines x n f.blocks) bodies };
      names = subst (λ (k : ℕ). Each (Each (NamesKnown (length x.registers) k (length fs))) (entry_lines x f.params ∷ blocks_lines x n f.blocks)) size named;
    }

codes_fit : (fs : List Function) (hosts : List HostEntry) (n : ℕ) (more : List Function) → Each (λ f. IsKnown (scope_of fs hosts f) f) more → Each (CodeFits (length fs)) (functions_code fs hosts n more)
codes_fit fs hosts n [] h = tt
codes_fit fs hosts n (f ∷ more) h = (code_fits fs hosts n f h.0, codes_fit fs hosts (blocks_end n f.blocks) more h.1)

codes_length : (fs : List Function) (hosts : List HostEntry) (n : ℕ) (more : List Function) → length (functions_code fs hosts n more) ≡ length more
codes_length fs hosts n [] = refl
codes_length fs hosts n (f ∷ more) = ap suc (codes_length fs hosts (blocks_end n f.blocks) more)

-- ---- the whole

neighbours : (k : ℕ) (P : Option Line → Option Line → Type 0) → ((a b : Option Line) → Fit a b → P a b) → (cs : List TargetFunction) → Each (CodeFits k) cs → Each (λ c. Each (EachTwo P None) (stretches c)) cs
neighbours k P g cs h =
    each_map (CodeFits k) (λ c. Each (EachTwo P None) (stretches c)) (λ c w. each_map (EachTwo Fit None) (EachTwo P None) (two_map Fit P g None) (stretches c) w.two) cs h

pub formed : (hosts : List HostEntry) (p : Program) → IsVersion p.version → AllKnown hosts p → IsWellFormed (translation hosts p)
formed hosts p version known =
    let k : ℕ = length p.functions in
    let cs : List TargetFunction = functions_code p.functions hosts 0 p.functions in
    let fit : Each (CodeFits k) cs = codes_fit p.functions hosts 0 p.functions known in
    let size : k ≡ length cs = sym (codes_length p.functions hosts 0 p.functions) in
    record {
      checked = neighbours k IsChecked (λ a b w. w.0) cs fit;
      shadowed = neighbours k IsShadowed (λ a b w. w.1) cs fit;
      returned = neighbours k IsReturned (λ a b w. w.2) cs fit;
      blocks = each_map (CodeFits k) HasBlocks (λ c w. w.blocks) cs fit;
      pushes = each_map (CodeFits k) PushesOnce (λ c w. w.pushes) cs fit;
      numbers = subst (λ (z : ℕ). Each (λ c. Each (Each (NamesKnown c.slots (length c.blocks) z)) (stretches c)) cs) size
          (each_map (CodeFits k) (λ c. Each (Each (NamesKnown c.slots (length c.blocks) k)) (stretches c)) (λ c w. w.names) cs fit);
      version = version;
    }
