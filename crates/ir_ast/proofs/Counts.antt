-- The canonical text doesn't depend on counts.
use Rattle.std.proofs.Common.{◌≡◌, ℕ, suc, ◌+◌, List, [], ◌∷◌, ◌++◌, length, Option, Some, None, refl, sym, ap, ◌∙◌, append_assoc}
use Rattle.std.specs.Prelude.{codes, replicate, true}
use Rattle.std.specs.List.{flat_map, sum_by}
use Rattle.std.proofs.lemmas.List.{append-nil}
use Rattle.std.proofs.lemmas.Grind.{flat_map-append}
use Rattle.ir_ast.specs.Tokens.{Form, forms, plain}
use Rattle.ir_ast.specs.Tokens.Form.{word, open_round, close_round, close_brace, colon}
use Rattle.ir_ast.specs.Lines.{outer, definitions, params_tokens, block_params, inst_tokens, inst_line, inst_lines, term_line, label_line, block_lines, block_instructions, block_registers, blocks_lines, header_line, function_lines, functions_lines, first_line}
use Rattle.ir_ast.specs.Texts.{spaced, line_text, canonical}
use Rattle.ir_ast.specs.Written.{AddsText, inst_text, block_text, function_text}
use Rattle.ir_ast.proofs.Adds.{forms-join, params_same, text_both}
use Rattle.ir_ast.specs.declared.writer.Writer.{Writer}
use Rattle.ir_ast.specs.declared.program.Named.{Named}
use Rattle.ir_ast.specs.declared.program.Param.{Param}
use Rattle.ir_ast.specs.declared.program.Inst.{Inst}
use Rattle.ir_ast.specs.declared.program.Block.{Block}
use Rattle.ir_ast.specs.declared.program.Function.{Function}
use Rattle.ir_ast.specs.declared.program.Program.{Program}

inst_same : (n r : ℕ) (i : Inst) → line_text (inst_line n r i) ≡ inst_text i
inst_same n r i = ap (λ (fs : List Form). replicate 2 32 ++ spaced true fs ++ codes "\n") (by_dest i.dest)
  where
    by_dest : (d : Option Named) → forms (inst_tokens n r d i.at i.op) ≡ forms (inst_tokens 0 0 d i.at i.op)
    by_dest None = refl
    by_dest (Some x) = refl

insts_same : (n r : ℕ) (is : List Inst) → flat_map line_text (inst_lines n r is) ≡ flat_map inst_text is
insts_same n r [] = refl
insts_same n r (i ∷ is) =
    ap (λ (z : List ℕ). z ++ flat_map line_text (inst_lines (suc n) (r + definitions i) is)) (inst_same n r i)
    ∙ ap (λ (z : List ℕ). inst_text i ++ z) (insts_same (suc n) (r + definitions i) is)

block_params_same : (r : ℕ) (ps : List Param) → forms (block_params r ps) ≡ forms (block_params 0 ps)
block_params_same r [] = refl
block_params_same r (p ∷ ps) =
    ap (λ (z : List Form). open_round ∷ z)
    (forms-join (params_tokens r (p ∷ ps)) (plain close_round ∷ []) ∙ ap (λ (z : List Form). z ++ close_round ∷ []) (params_same r (p ∷ ps))
    ∙ sym (forms-join (params_tokens 0 (p ∷ ps)) (plain close_round ∷ [])))

label_same : (r : ℕ) (b : Block) → line_text (label_line r b) ≡ line_text (label_line 0 b)
label_same r b = ap (λ (fs : List Form). replicate 0 32 ++ spaced true (word b.label.name ∷ fs) ++ codes "\n")
    (forms-join (block_params r b.params) (plain colon ∷ []) ∙ ap (λ (z : List Form). z ++ colon ∷ []) (block_params_same r b.params) ∙ sym (forms-join (block_params 0 b.params) (plain colon ∷ [])))

block_same : (n r : ℕ) (b : Block) → flat_map line_text (block_lines n r b) ≡ block_text b
block_same n r b =
    ap (λ (z : List ℕ). line_text (label_line r b) ++ z)
    (flat_map-append line_text (inst_lines n (r + length b.params) b.insts) (term_line (n + length b.insts) b.term ∷ [])
    ∙ ap (λ (z : List ℕ). z ++ (line_text (term_line 0 b.term) ++ [])) (insts_same n (r + length b.params) b.insts)
    ∙ ap (λ (z : List ℕ). flat_map inst_text b.insts ++ z) (append-nil (line_text (term_line 0 b.term))))
    ∙ ap (λ (z : List ℕ). z ++ (flat_map inst_text b.insts ++ line_text (term_line 0 b.term))) (label_same r b)
    ∙ sym (append_assoc (line_text (label_line 0 b)) (flat_map inst_text b.insts) (line_text (term_line 0 b.term)))

blocks_same : (n r : ℕ) (bs : List Block) → flat_map line_text (blocks_lines n r bs) ≡ flat_map block_text bs
blocks_same n r [] = refl
blocks_same n r (b ∷ bs) =
    flat_map-append line_text (block_lines n r b) (blocks_lines (n + block_instructions b) (r + block_registers b) bs)
    ∙ ap (λ (z : List ℕ). z ++ flat_map line_text (blocks_lines (n + block_instructions b) (r + block_registers b) bs)) (block_same n r b)
    ∙ ap (λ (z : List ℕ). block_text b ++ z) (blocks_same (n + block_instructions b) (r + block_registers b) bs)

function_same : (k n : ℕ) (f : Function) → flat_map line_text (function_lines k n f) ≡ function_text f
function_same k n f =
    ap (λ (z : List ℕ). line_text (header_line 0 f) ++ z)
    (flat_map-append line_text (blocks_lines n (length f.params) f.blocks) (outer (plain close_brace ∷ []) ∷ [])
    ∙ ap (λ (z : List ℕ). z ++ (line_text (outer (plain close_brace ∷ [])) ++ [])) (blocks_same n (length f.params) f.blocks)
    ∙ ap (λ (z : List ℕ). flat_map block_text f.blocks ++ z) (append-nil (line_text (outer (plain close_brace ∷ [])))))
    ∙ sym (append_assoc (line_text (header_line 0 f)) (flat_map block_text f.blocks) (line_text (outer (plain close_brace ∷ []))))

functions_same : (k n : ℕ) (fs : List Function) → flat_map line_text (functions_lines k n fs) ≡ flat_map function_text fs
functions_same k n [] = refl
functions_same k n (f ∷ fs) =
    flat_map-append line_text (function_lines k n f) (functions_lines (suc k) (n + sum_by block_instructions f.blocks) fs)
    ∙ ap (λ (z : List ℕ). z ++ flat_map line_text (functions_lines (suc k) (n + sum_by block_instructions f.blocks) fs)) (function_same k n f)
    ∙ ap (λ (z : List ℕ). function_text f ++ z) (functions_same (suc k) (n + sum_by block_instructions f.blocks) fs)

pub canonical_parts : (p : Program) → canonical p ≡ line_text (first_line p.version) ++ flat_map function_text p.functions
canonical_parts p = ap (λ (z : List ℕ). line_text (first_line p.version) ++ z) (functions_same 0 0 p.functions)

-- what is written line by line into an empty text
pub printed : (a b c : Writer) (p : Program) → a.text.items ≡ [] → AddsText a b (line_text (first_line p.version)) → AddsText b c (flat_map function_text p.functions) → c.text.items ≡ canonical p
printed a b c p e h k =
    (text_both a b c (line_text (first_line p.version)) (flat_map function_text p.functions) h k).is
    ∙ ap (λ (z : List ℕ). z ++ (line_text (first_line p.version) ++ flat_map function_text p.functions)) e
    ∙ sym (canonical_parts p)
