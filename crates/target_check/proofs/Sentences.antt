-- The list taken by functions and stretches is the list taken by sentences.
use Rattle.std.proofs.Common.{ℕ, List, [], ◌∷◌, length, Option, Some, None}
use Rattle.ir_ast.specs.Tokens.{Each}
use Rattle.ir_ast.specs.Shapes.{IsVersion}
use Rattle.target_code.specs.declared.line.Line.{Line}
use Rattle.target_code.specs.declared.line.TargetFunction.{TargetFunction}
use Rattle.target_code.specs.declared.line.Target.{Target}
use Rattle.target_code.specs.Formed.{IsChecked, IsShadowed, IsReturned, EachTwo, NamesKnown, HasBlocks, PushesOnce, Begins, NoPush, is_turn, IsWellFormed, stretches}
use Rattle.target_check.specs.Stretches.{FitTogether, StretchFits, BlockFits, FunctionFits}

each_map : {A : Type 0} (P Q : A → Type 0) → ((x : A) → P x → Q x) → (xs : List A) → Each P xs → Each Q xs
each_map P Q f [] h = tt
each_map P Q f (x ∷ xs) h = (f x h.0, each_map P Q f xs h.1)

two_map : (P Q : Option Line → Option Line → Type 0) → ((a b : Option Line) → P a b → Q a b) → (before : Option Line) (ls : List Line) → EachTwo P before ls → EachTwo Q before ls
two_map P Q f before [] h = f before None h
two_map P Q f before (l ∷ ls) h = (f before (Some l) h.0, two_map P Q f (Some l) ls h.1)

two_together : (before : Option Line) (ls : List Line) → EachTwo IsChecked before ls → EachTwo IsShadowed before ls → EachTwo IsReturned before ls → EachTwo FitTogether before ls
two_together before [] h k m = record { checked = h; shadowed = k; returned = m }
two_together before (l ∷ ls) h k m = (record { checked = h.0; shadowed = k.0; returned = m.0 }, two_together (Some l) ls h.1 k.1 m.1)

-- ---- from functions to sentences

each_stretch : (n : ℕ) (Q : List Line → Type 0) (f : TargetFunction) → ((ls : List Line) → StretchFits f.slots (length f.blocks) n ls → Q ls) → FunctionFits n f → Each Q (stretches f)
each_stretch n Q f g w = (g f.entry w.entry.fits, each_map (BlockFits f.slots (length f.blocks) n) Q (λ ls b. g ls b.fits) f.blocks w.blocks)

two_stretch : (P : Option Line → Option Line → Type 0) (n : ℕ) (f : TargetFunction) → ((a b : Option Line) → FitTogether a b → P a b) → FunctionFits n f → Each (EachTwo P None) (stretches f)
two_stretch P n f g w = each_stretch n (EachTwo P None) f (λ ls t. two_map FitTogether P g None ls t.neighbours) w

has_blocks : (n : ℕ) (f : TargetFunction) → FunctionFits n f → HasBlocks f
has_blocks n f w = record { some_block = w.some_block; begun = each_map (BlockFits f.slots (length f.blocks) n) (Begins is_turn) (λ ls b. b.begun) f.blocks w.blocks }

pushes_once : (n : ℕ) (f : TargetFunction) → FunctionFits n f → PushesOnce f
pushes_once n f w = record {
  entry = w.entry.begun;
  rest = w.entry.no_push;
  blocks = each_map (BlockFits f.slots (length f.blocks) n) NoPush (λ ls b. b.no_push) f.blocks w.blocks;
}

pub fits_formed : (t : Target) → IsVersion t.version → Each (FunctionFits (length t.functions)) t.functions → IsWellFormed t
fits_formed t version h =
    let n : ℕ = length t.functions in
    record {
      checked = each_map (FunctionFits n) (λ f. Each (EachTwo IsChecked None) (stretches f)) (λ f w. two_stretch IsChecked n f (λ a b r. r.checked) w) t.functions h;
      shadowed = each_map (FunctionFits n) (λ f. Each (EachTwo IsShadowed None) (stretches f)) (λ f w. two_stretch IsShadowed n f (λ a b r. r.shadowed) w) t.functions h;
      returned = each_map (FunctionFits n) (λ f. Each (EachTwo IsReturned None) (stretches f)) (λ f w. two_stretch IsReturned n f (λ a b r. r.returned) w) t.functions h;
      blocks = each_map (FunctionFits n) HasBlocks (has_blocks n) t.functions h;
      pushes = each_map (FunctionFits n) PushesOnce (pushes_once n) t.functions h;
      numbers = each_map (FunctionFits n) (λ f. Each (Each (NamesKnown f.slots (length f.blocks) n)) (stretches f)) (λ f w. each_stretch n (Each (NamesKnown f.slots (length f.blocks) n)) f (λ ls t. t.names) w) t.functions h;
      version = version;
    }

-- ---- from sentences to functions

blocks_fit : (s b n : ℕ) (xs : List (List Line)) → Each (EachTwo IsChecked None) xs → Each (EachTwo IsShadowed None) xs → Each (EachTwo IsReturned None) xs → Each (Each (NamesKnown s b n)) xs
    → Each (Begins is_turn) xs → Each NoPush xs → Each (BlockFits s b n) xs
blocks_fit s b n [] c h r k t p = tt
blocks_fit s b n (ls ∷ xs) c h r k t p = (
  record { begun = t.0; no_push = p.0; fits = record { neighbours = two_together None ls c.0 h.0 r.0; names = k.0 } },
  blocks_fit s b n xs c.1 h.1 r.1 k.1 t.1 p.1,
)

functions_fit : (n : ℕ) (fs : List TargetFunction) → Each (λ f. Each (EachTwo IsChecked None) (stretches f)) fs → Each (λ f. Each (EachTwo IsShadowed None) (stretches f)) fs
    → Each (λ f. Each (EachTwo IsReturned None) (stretches f)) fs → Each (λ f. Each (Each (NamesKnown f.slots (length f.blocks) n)) (stretches f)) fs → Each HasBlocks fs → Each PushesOnce fs → Each (FunctionFits n) fs
functions_fit n [] c h r k b p = tt
functions_fit n (f ∷ fs) c h r k b p = (
  record {
    some_block = b.0.some_block;
    entry = record { begun = p.0.entry; no_push = p.0.rest; fits = record { neighbours = two_together None f.entry c.0.0 h.0.0 r.0.0; names = k.0.0 } };
    blocks = blocks_fit f.slots (length f.blocks) n f.blocks c.0.1 h.0.1 r.0.1 k.0.1 b.0.begun p.0.blocks;
  },
  functions_fit n fs c.1 h.1 r.1 k.1 b.1 p.1,
)

pub formed_fits : (t : Target) → IsWellFormed t → Each (FunctionFits (length t.functions)) t.functions
formed_fits t w = functions_fit (length t.functions) t.functions w.checked w.shadowed w.returned w.numbers w.blocks w.pushes
