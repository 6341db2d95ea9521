-- What is read stays within the limits.
use Rattle.std.proofs.Common.{◌≡◌, ℕ, suc, ◌+◌, ◌^◌, ◌<◌, ◌≤◌, Bool, true, false, cond, List, [], ◌∷◌, ◌++◌, length, Option, Some, None, Ok, refl, arith, lit≤}
use Rattle.std.specs.Prelude.{nat_lt, is_some}
use Rattle.std.proofs.lemmas.Bool.{ltb-true}
use Rattle.ir_ast.specs.Tokens.{Lex, Asked, Spelled, Limit, plain, counted}
use Rattle.ir_ast.specs.Tokens.Limit.{of_count}
use Rattle.ir_ast.specs.Tokens.Form.{comma, close_round, colon}
use Rattle.ir_ast.specs.Grammar.{type_token}
use Rattle.ir_ast.specs.Lines.{most_instructions, most_registers, either, attr_tokens, param_register, param_tokens, next_params, params_tokens, round_params, block_params, inst_tokens}
use Rattle.ir_ast.specs.declared.program.Named.{Named}
use Rattle.ir_ast.specs.declared.program.Param.{Param}
use Rattle.ir_ast.specs.declared.program.Inst.{Inst}
use Rattle.ir_ast.specs.declared.program.Term.{Term}
use Rattle.ir_reader.specs.Insts.{inst_at, term_at}
use Rattle.ir_reader.specs.Blocks.{next_param_at, param_at, function_params_at, head_at}
use Rattle.ir_reader.proofs.InstParts.{inst_phrase, term_tokens, term_phrase}
use Rattle.ir_reader.proofs.BlockParts.{next_param_tokens, next_param_phrase, param_phrase, function_params_phrase, head_phrase}

spelled_fault : (xs : List Asked) (a : Asked) (ys : List Asked) (ls : List Lex) → Spelled (xs ++ a ∷ ys) ls → a.fault ≡ None
spelled_fault [] a ys [] h = absurd h
spelled_fault [] a ys (l ∷ ls) h = h.1
spelled_fault (x ∷ xs) a ys [] h = absurd h
spelled_fault (x ∷ xs) a ys (l ∷ ls) h = spelled_fault xs a ys ls h.2

counted_below : (n most : ℕ) → counted n most ≡ None → n < most
counted_below n most e = by_test (nat_lt n most) refl e
  where
    by_test : (b : Bool) → nat_lt n most ≡ b → cond b None (Some of_count) ≡ None → n < most
    by_test true t h = ltb-true n most t
    by_test false t h = absurd cc

pub param_below : (attrs : Option ℕ) (n : ℕ) (ts : List Lex) (p : Param) (rest : List Lex) → param_at attrs n ts ≡ Ok (p, rest) → n < most_registers
param_below attrs n ts p rest e =
    let t = (param_phrase attrs n).sound ts p rest e in
    counted_below n most_registers (spelled_fault (type_token p.ty ∷ attr_tokens p.attr) (param_register n p) [] t.front t.spelled)

pub next_param_below : (attrs : Option ℕ) (n : ℕ) (ts : List Lex) (p : Param) (rest : List Lex) → next_param_at attrs n ts ≡ Ok (p, rest) → n < most_registers
next_param_below attrs n ts p rest e =
    let t = (next_param_phrase attrs n).sound ts p rest e in
    counted_below n most_registers (spelled_fault (plain comma ∷ type_token p.ty ∷ attr_tokens p.attr) (param_register n p) [] t.front t.spelled)

-- ---- instructions

either_none : (x y : Option Limit) → either x y ≡ None → (x ≡ None) × (y ≡ None)
either_none None y e = (refl, e)
either_none (Some limit) y e = absurd cc

pub inst_below : (version : ℕ) (n r : ℕ) (ts : List Lex) (i : Inst) (rest : List Lex) → inst_at version n r ts ≡ Ok (i, rest) → n < most_instructions
inst_below version n r ts i rest e = let t = (inst_phrase version n r).sound ts i rest e in by_dest i.dest t.front t.spelled
  where
    by_dest : (d : Option Named) (front : List Lex) → Spelled (inst_tokens n r d i.at i.op) front → n < most_instructions
    by_dest None [] h = absurd h
    by_dest None (l ∷ front) h = counted_below n most_instructions h.1
    by_dest (Some x) [] h = absurd h
    by_dest (Some x) (l ∷ front) h = counted_below n most_instructions (either_none (counted n most_instructions) (counted r most_registers) h.1).0

pub register_below : (version : ℕ) (n r : ℕ) (ts : List Lex) (i : Inst) (rest : List Lex) → inst_at version n r ts ≡ Ok (i, rest) → is_some i.dest ≡ true → r < most_registers
register_below version n r ts i rest e defines = let t = (inst_phrase version n r).sound ts i rest e in by_dest i.dest t.front t.spelled defines
  where
    by_dest : (d : Option Named) (front : List Lex) → Spelled (inst_tokens n r d i.at i.op) front → is_some d ≡ true → r < most_registers
    by_dest None front h some = absurd cc
    by_dest (Some x) [] h some = absurd h
    by_dest (Some x) (l ∷ front) h some = counted_below r most_registers (either_none (counted n most_instructions) (counted r most_registers) h.1).1

pub term_below : (n : ℕ) (ts : List Lex) (x : Term) (rest : List Lex) → term_at n ts ≡ Ok (x, rest) → n < most_instructions
term_below n ts x rest e = let t = (term_phrase n).sound ts x rest e in by_front t.front t.spelled
  where
    by_front : (front : List Lex) → Spelled (term_tokens n x) front → n < most_instructions
    by_front [] h = absurd h
    by_front (l ∷ front) h = counted_below n most_instructions h.1

-- ---- lists of parameters

spelled_parts : (xs ys : List Asked) (ls : List Lex) → Spelled (xs ++ ys) ls → ((front : List Lex) × Spelled xs front) × ((back : List Lex) × Spelled ys back)
spelled_parts [] ys ls h = (([], tt), (ls, h))
spelled_parts (x ∷ xs) ys [] h = absurd h
spelled_parts (x ∷ xs) ys (l ∷ ls) h = let p = spelled_parts xs ys ls h.2 in ((l ∷ p.0.0, (h.0, h.1, p.0.1)), p.1)

param_within : (r : ℕ) (p : Param) (ls : List Lex) → Spelled (param_tokens r p) ls → r < most_registers
param_within r p ls h = counted_below r most_registers (spelled_fault (type_token p.ty ∷ attr_tokens p.attr) (param_register r p) [] ls h)

next_within : (r : ℕ) (ps : List Param) (ls : List Lex) → r ≤ most_registers → Spelled (next_params r ps) ls → r + length ps ≤ most_registers
next_within r [] ls le h = omega arith
next_within r (p ∷ ps) ls le h =
    let parts = spelled_parts (next_param_tokens r p) (next_params (suc r) ps) ls h in
    let lt : r < most_registers = counted_below r most_registers (spelled_fault (plain comma ∷ type_token p.ty ∷ attr_tokens p.attr) (param_register r p) [] parts.0.0 parts.0.1) in
    let more : suc r + length ps ≤ most_registers = next_within (suc r) ps parts.1.0 lt parts.1.1 in
    omega arith

params_within : (r : ℕ) (p : Param) (ps : List Param) (ls : List Lex) → Spelled (params_tokens r (p ∷ ps)) ls → r + length (p ∷ ps) ≤ most_registers
params_within r p ps ls h =
    let parts = spelled_parts (param_tokens r p) (next_params (suc r) ps) ls h in
    let lt : r < most_registers = param_within r p parts.0.0 parts.0.1 in
    let more : suc r + length ps ≤ most_registers = next_within (suc r) ps parts.1.0 lt parts.1.1 in
    omega arith

round_within : (r : ℕ) (p : Param) (ps : List Param) (ls : List Lex) → Spelled (round_params r (p ∷ ps)) ls → r + length (p ∷ ps) ≤ most_registers
round_within r p ps [] h = absurd h
round_within r p ps (l ∷ ls) h = let parts = spelled_parts (params_tokens r (p ∷ ps)) (plain close_round ∷ []) ls h.2 in params_within r p ps parts.0.0 parts.0.1

pub function_params_within : (version : ℕ) (ts : List Lex) (ps : List Param) (rest : List Lex) → function_params_at version ts ≡ Ok (ps, rest) → length ps ≤ most_registers
function_params_within version ts ps rest e = let t = (function_params_phrase version).sound ts ps rest e in by_params ps t.front t.spelled
  where
    by_params : (qs : List Param) (front : List Lex) → Spelled (round_params 0 qs) front → length qs ≤ most_registers
    by_params [] front h = lit≤ tt
    by_params (q ∷ qs) front h = let w : 0 + length (q ∷ qs) ≤ most_registers = round_within 0 q qs front h in omega (arith, w)

pub head_within : (r : ℕ) (ts : List Lex) (ps : List Param) (rest : List Lex) → r < 2 ^ 32 → head_at r ts ≡ Ok (ps, rest) → r + length ps < 2 ^ 32
head_within r ts ps rest lt e =
    let t = (head_phrase r).sound ts ps rest e in
    let parts = spelled_parts (block_params r ps) (plain colon ∷ []) t.front t.spelled in
    by_params ps parts.0.0 parts.0.1
  where
    by_params : (qs : List Param) (front : List Lex) → Spelled (block_params r qs) front → r + length qs < 2 ^ 32
    by_params [] front h = omega (arith, lt)
    by_params (q ∷ qs) front h = let w : r + length (q ∷ qs) ≤ most_registers = round_within r q qs front h in omega (arith, w)
