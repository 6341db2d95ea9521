-- Tokens and texts that are added one after the other.
use Rattle.std.proofs.Common.{◌≡◌, ℕ, suc, ◌+◌, ◌-◌, ◌<◌, ◌≤◌, Bool, true, ◌||◌, List, [], ◌∷◌, ◌++◌, length, take, drop, get_or, Option, Some, None, Result, Ok, Err, OnOk, refl, sym, ap, subst, ◌∙◌, append_assoc, arith}
use Rattle.std.specs.Prelude.{codes, replicate}
use Rattle.std.specs.List.{flat_map}
use Rattle.std.proofs.lemmas.List.{append-nil, take_more, take_rest}
use Rattle.std.proofs.lemmas.Grind.{flat_map-append}
use Rattle.ir_ast.specs.Tokens.{Form, Asked, forms, plain}
use Rattle.ir_ast.specs.Tokens.Form.{word, local, global, number, open_round, close_round, open_brace, close_brace, comma, colon, arrow}
use Rattle.ir_ast.specs.Keywords.{type_word, result_word, op_word}
use Rattle.ir_ast.specs.Grammar.{val_form, goal_tokens, op_tokens, ret_tokens, jump_word, jump_tokens}
use Rattle.ir_ast.specs.Lines.{Line, attr_tokens, result_tokens, param_register, param_tokens, next_params, params_tokens, block_params, inst_tokens, inst_line, term_line, label_line, header_line, first_line, outer}
use Rattle.ir_ast.specs.Texts.{spaced, no_space_after, no_space_before, space, form_text, line_text}
use Rattle.ir_ast.specs.Written.{tight_after, Adds, Begins, AddsText, dest_forms, next_param, inst_text}
use Rattle.ir_ast.specs.declared.writer.Writer.{Writer}
use Rattle.ir_ast.specs.declared.program.Named.{Named}
use Rattle.ir_ast.specs.declared.program.Param.{Param}
use Rattle.ir_ast.specs.declared.program.Val.{Val}
use Rattle.ir_ast.specs.declared.program.TypedVal.{TypedVal}
use Rattle.ir_ast.specs.declared.program.Goal.{Goal}
use Rattle.ir_ast.specs.declared.program.Inst.{Inst}
use Rattle.ir_ast.specs.declared.program.Jump.TheVariants.{CondBr}
use Rattle.ir_ast.specs.declared.program.Term.{Term}
use Rattle.ir_ast.specs.declared.program.Block.{Block}
use Rattle.ir_ast.specs.declared.program.Function.{Function}

pub forms-join : (xs ys : List Asked) → forms (xs ++ ys) ≡ forms xs ++ forms ys
forms-join [] ys = refl
forms-join (x ∷ xs) ys = ap (λ (z : List Form). x.form ∷ z) (forms-join xs ys)

pub spaced-join : (t : Bool) (fs gs : List Form) → spaced t (fs ++ gs) ≡ spaced t fs ++ spaced (tight_after t fs) gs
spaced-join t [] gs = refl
spaced-join t (f ∷ fs) gs =
    ap (λ (z : List ℕ). (space (t || no_space_before f) ++ form_text f) ++ z) (spaced-join (no_space_after f) fs gs)
    ∙ sym (append_assoc (space (t || no_space_before f) ++ form_text f) (spaced (no_space_after f) fs) (spaced (tight_after (no_space_after f) fs) gs))

tight-join : (t : Bool) (fs gs : List Form) → tight_after t (fs ++ gs) ≡ tight_after (tight_after t fs) gs
tight-join t [] gs = refl
tight-join t (f ∷ fs) gs = tight-join (no_space_after f) fs gs

pub adds_none : (a : Writer) → Adds a a []
adds_none a = record { text = sym (append-nil a.text.items); tight = refl }

pub adds_both : (a b c : Writer) (fs gs : List Form) → Adds a b fs → Adds b c gs → Adds a c (fs ++ gs)
adds_both a b c fs gs p q = record {
  text = q.text ∙ ap (λ (z : List ℕ). z ++ spaced b.tight gs) p.text
      ∙ append_assoc a.text.items (spaced a.tight fs) (spaced b.tight gs)
      ∙ ap (λ (z : Bool). a.text.items ++ (spaced a.tight fs ++ spaced z gs)) p.tight
      ∙ ap (λ (z : List ℕ). a.text.items ++ z) (sym (spaced-join a.tight fs gs));
  tight = q.tight ∙ ap (λ (z : Bool). tight_after z gs) p.tight ∙ sym (tight-join a.tight fs gs);
}

pub adds_next : (a b c : Writer) (f : Form) (fs : List Form) → Adds a b (f ∷ []) → Adds b c fs → Adds a c (f ∷ fs)
adds_next a b c f fs p q = adds_both a b c (f ∷ []) fs p q

pub adds_two : (a b c : Writer) (f g : Form) (fs : List Form) → Adds a b (f ∷ g ∷ []) → Adds b c fs → Adds a c (f ∷ g ∷ fs)
adds_two a b c f g fs p q = adds_both a b c (f ∷ g ∷ []) fs p q

pub adds_forms : (a b c : Writer) (xs ys : List Asked) → Adds a b (forms xs) → Adds b c (forms ys) → Adds a c (forms (xs ++ ys))
adds_forms a b c xs ys p q = subst (Adds a c) (sym (forms-join xs ys)) (adds_both a b c (forms xs) (forms ys) p q)

pub adds_line : (a b c d : Writer) (indent : List ℕ) (fs : List Form) → Begins a b indent → Adds b c fs → AddsText c d (codes "\n") → AddsText a d (indent ++ spaced true fs ++ codes "\n")
adds_line a b c d indent fs p q r = record {
  is = r.is ∙ ap (λ (z : List ℕ). z ++ codes "\n")
      (q.text ∙ ap (λ (z : List ℕ). z ++ spaced b.tight fs) p.text ∙ append_assoc a.text.items indent (spaced b.tight fs)
      ∙ ap (λ (z : Bool). a.text.items ++ (indent ++ spaced z fs)) p.tight)
      ∙ append_assoc a.text.items (indent ++ spaced true fs) (codes "\n");
}

pub text_none : (a : Writer) → AddsText a a []
text_none a = record { is = sym (append-nil a.text.items) }

pub text_both : (a b c : Writer) (t u : List ℕ) → AddsText a b t → AddsText b c u → AddsText a c (t ++ u)
text_both a b c t u p q = record { is = q.is ∙ ap (λ (z : List ℕ). z ++ u) p.is ∙ append_assoc a.text.items t u }

-- one token, these, and one more
pub adds_around : (a b c d : Writer) (f : Form) (xs : List Asked) (y : Asked) → Adds a b (f ∷ []) → Adds b c (forms xs) → Adds c d (y.form ∷ []) → Adds a d (f ∷ forms (xs ++ y ∷ []))
adds_around a b c d f xs y p q r = adds_next a b d f (forms (xs ++ y ∷ [])) p (adds_forms b c d xs (y ∷ []) q r)

-- ---- parameters

pub param_same : (r : ℕ) (p : Param) → forms (param_tokens r p) ≡ forms (param_tokens 0 p)
param_same r p = ap (λ (z : List Form). word (type_word p.ty) ∷ z)
    (forms-join (attr_tokens p.attr) (param_register r p ∷ []) ∙ sym (forms-join (attr_tokens p.attr) (param_register 0 p ∷ [])))

next_same : (r : ℕ) (ps : List Param) → forms (next_params r ps) ≡ forms (flat_map next_param ps)
next_same r [] = refl
next_same r (p ∷ ps) =
    forms-join (plain comma ∷ param_tokens r p) (next_params (suc r) ps)
    ∙ ap (λ (z : List Form). z ++ forms (next_params (suc r) ps)) (ap (λ (z : List Form). comma ∷ z) (param_same r p))
    ∙ ap (λ (z : List Form). forms (next_param p) ++ z) (next_same (suc r) ps)
    ∙ sym (forms-join (next_param p) (flat_map next_param ps))

pub params_same : (r : ℕ) (ps : List Param) → forms (params_tokens r ps) ≡ forms (params_tokens 0 ps)
params_same r [] = refl
params_same r (p ∷ ps) =
    forms-join (param_tokens r p) (next_params (suc r) ps)
    ∙ ap (λ (z : List Form). z ++ forms (next_params (suc r) ps)) (param_same r p)
    ∙ ap (λ (z : List Form). forms (param_tokens 0 p) ++ z) (next_same (suc r) ps ∙ sym (next_same 1 ps))
    ∙ sym (forms-join (param_tokens 0 p) (next_params 1 ps))

pub adds_params : (a b c : Writer) (p : Param) (ps : List Param) → Adds a b (forms (param_tokens 0 p)) → Adds b c (forms (flat_map next_param ps)) → Adds a c (forms (params_tokens 0 (p ∷ ps)))
adds_params a b c p ps h k =
    adds_forms a b c (param_tokens 0 p) (next_params 1 ps) h (subst (Adds b c) (sym (next_same 1 ps)) k)

pub adds_param : (a b c d : Writer) (p : Param) → Adds a b (word (type_word p.ty) ∷ []) → Adds b c (forms (attr_tokens p.attr)) → Adds c d (local p.reg.name ∷ []) → Adds a d (forms (param_tokens 0 p))
adds_param a b c d p h k l = adds_around a b c d (word (type_word p.ty)) (attr_tokens p.attr) (param_register 0 p) h k l

pub adds_next_param : (a b c : Writer) (p : Param) → Adds a b (comma ∷ []) → Adds b c (forms (param_tokens 0 p)) → Adds a c (forms (next_param p))
adds_next_param a b c p h k = adds_next a b c comma (forms (param_tokens 0 p)) h k

-- ---- lines

pub adds_ret : (a b : Writer) (val : Option TypedVal) (at : ℕ) → Adds a b (forms (ret_tokens val 0)) → Adds a b (forms (ret_tokens val at))
adds_ret a b None at h = h
adds_ret a b (Some v) at h = h

pub adds_inst : (a b c d : Writer) (i : Inst) → Adds a b (dest_forms i.dest) → Adds b c (word (op_word i.op) ∷ []) → Adds c d (forms (op_tokens i.op)) → Adds a d (forms (inst_tokens 0 0 i.dest i.at i.op))
adds_inst a b c d i p q r = by_dest i.dest (adds_both a b d (dest_forms i.dest) (word (op_word i.op) ∷ forms (op_tokens i.op)) p (adds_next b c d (word (op_word i.op)) (forms (op_tokens i.op)) q r))
  where
    by_dest : (o : Option Named) → Adds a d (dest_forms o ++ word (op_word i.op) ∷ forms (op_tokens i.op)) → Adds a d (forms (inst_tokens 0 0 o i.at i.op))
    by_dest None h = h
    by_dest (Some r) h = h

pub adds_cond_br : (a b c d e f : Writer) (cond : Val) (first second : Goal) → Adds a b (val_form cond ∷ []) → Adds b c (comma ∷ []) → Adds c d (forms (goal_tokens first)) → Adds d e (comma ∷ []) → Adds e f (forms (goal_tokens second))
    → Adds a f (forms (jump_tokens (CondBr cond first second)))
adds_cond_br a b c d e f cond first second p q r s t =
    adds_next a b f (val_form cond) (comma ∷ forms (goal_tokens first ++ plain comma ∷ goal_tokens second)) p
    (adds_next b c f comma (forms (goal_tokens first ++ plain comma ∷ goal_tokens second)) q
    (adds_forms c d f (goal_tokens first) (plain comma ∷ goal_tokens second) r (adds_next d e f comma (forms (goal_tokens second)) s t)))

pub adds_header : (a b c d e f g h i j : Writer) (fn : Function) → Adds a b (word (codes "func") ∷ []) → Adds b c (global fn.name.name ∷ []) → Adds c d (open_round ∷ []) → Adds d e (forms (params_tokens 0 fn.params))
    → Adds e f (close_round ∷ []) → Adds f g (arrow ∷ []) → Adds g h (word (result_word fn.result.ty) ∷ []) → Adds h i (forms (attr_tokens fn.result.attr)) → Adds i j (open_brace ∷ []) → Adds a j (forms (header_line 0 fn).tokens)
adds_header a b c d e f g h i j fn p q r s t u v w x =
    adds_next a b j _ _ p (adds_next b c j _ _ q (adds_next c d j _ _ r
    (adds_forms d e j (params_tokens 0 fn.params) (plain close_round ∷ plain arrow ∷ result_tokens fn.result ++ plain open_brace ∷ []) s
    (adds_next e f j _ _ t (adds_next f g j _ _ u (adds_next g h j _ _ v
    (adds_forms h i j (attr_tokens fn.result.attr) (plain open_brace ∷ []) w x)))))))

pub text_line : (a b c d : Writer) (line : Line) → Begins a b (replicate line.indent 32) → Adds b c (forms line.tokens) → AddsText c d (codes "\n") → AddsText a d (line_text line)
text_line a b c d line p q r = adds_line a b c d (replicate line.indent 32) (forms line.tokens) p q r

pub text_term : (a b c d e : Writer) (t : Term) → Begins a b (codes "  ") → Adds b c (word (jump_word t.jump) ∷ []) → Adds c d (forms (jump_tokens t.jump)) → AddsText d e (codes "\n") → AddsText a e (line_text (term_line 0 t))
text_term a b c d e t p q r s = text_line a b d e (term_line 0 t) p (adds_next b c d (word (jump_word t.jump)) (forms (jump_tokens t.jump)) q r) s

pub text_inst : (a b c d e f : Writer) (i : Inst) → Begins a b (codes "  ") → Adds b c (dest_forms i.dest) → Adds c d (word (op_word i.op) ∷ []) → Adds d e (forms (op_tokens i.op)) → AddsText e f (codes "\n") → AddsText a f (inst_text i)
text_inst a b c d e f i p q r s t = text_line a b e f (inst_line 0 0 i) p (adds_inst b c d e i q r s) t

pub text_label : (a b c d e f : Writer) (block : Block) → Begins a b [] → Adds b c (word block.label.name ∷ []) → Adds c d (forms (block_params 0 block.params)) → Adds d e (colon ∷ []) → AddsText e f (codes "\n") → AddsText a f (line_text (label_line 0 block))
text_label a b c d e f block p q r s t = text_line a b e f (label_line 0 block) p (adds_around b c d e (word block.label.name) (block_params 0 block.params) (plain colon) q r s) t

pub text_first : (a b c d e : Writer) (version : ℕ) → Begins a b [] → Adds b c (word (codes "bir") ∷ []) → Adds c d (number version ∷ []) → AddsText d e (codes "\n") → AddsText a e (line_text (first_line version))
text_first a b c d e version p q r s = text_line a b d e (first_line version) p (adds_next b c d (word (codes "bir")) (number version ∷ []) q r) s

pub text_header : (a b c d : Writer) (f : Function) → Begins a b [] → Adds b c (forms (header_line 0 f).tokens) → AddsText c d (codes "\n") → AddsText a d (line_text (header_line 0 f))
text_header a b c d f p q r = text_line a b c d (header_line 0 f) p q r

pub text_closing : (a b c d : Writer) → Begins a b [] → Adds b c (close_brace ∷ []) → AddsText c d (codes "\n") → AddsText a d (line_text (outer (plain close_brace ∷ [])))
text_closing a b c d p q r = text_line a b c d (outer (plain close_brace ∷ [])) p q r

pub on_ok_map : {X E : Type 0} (r : Result X E) {P Q : Type 0} → (P → Q) → OnOk r P → OnOk r Q
on_ok_map (Ok x) f h = f h
on_ok_map (Err e) f h = h

pub adds_take : {A : Type 0} (f : A → List Asked) (xs : List A) (i : ℕ) (x : A) (a b c : Writer) → i < length xs → x ≡ get_or xs i x → Adds a b (forms (flat_map f (take i xs))) → Adds b c (forms (f x)) → Adds a c (forms (flat_map f (take (i + 1) xs)))
adds_take {A = A} f xs i x a b c lt is p q =
    let one : take (i + 1) xs ≡ take i xs ++ x ∷ [] = take_more xs i x lt ∙ ap (λ (z : A). take i xs ++ z ∷ []) (sym is) in
    let all : flat_map f (take (i + 1) xs) ≡ flat_map f (take i xs) ++ f x =
    ap (flat_map f) one ∙ flat_map-append f (take i xs) (x ∷ []) ∙ ap (λ (z : List Asked). flat_map f (take i xs) ++ z) (append-nil (f x)) in
    subst (λ (z : List Asked). Adds a c (forms z)) (sym all) (adds_forms a b c (flat_map f (take i xs)) (f x) p q)

pub adds_all_params : (a b c : Writer) (p : Param) (ps : List Param) → 1 ≤ length ps → p ≡ get_or ps 0 p → Adds a b (forms (param_tokens 0 p)) → Adds b c (forms (flat_map next_param (take (length ps - 1) (drop 1 ps)))) → Adds a c (forms (params_tokens 0 ps))
adds_all_params a b c p [] le is h k = absurd (omega arith)
adds_all_params a b c p (q ∷ qs) le is h k =
    let rest : take (length (q ∷ qs) - 1) (drop 1 (q ∷ qs)) ≡ qs = take_rest (q ∷ qs) 1 in
    subst (λ (z : Param). Adds a c (forms (params_tokens 0 (z ∷ qs)))) is
    (adds_params a b c p qs h (subst (λ (z : List Param). Adds b c (forms (flat_map next_param z))) rest k))

pub ruleset adds_steps = (adds_none, adds_next, adds_two, adds_forms)

pub ruleset text_steps = (text_none, text_both)

pub ruleset line_steps = (text_term, text_inst, text_first)
