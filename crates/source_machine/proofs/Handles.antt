-- The attribute of what a join through a handle gives: that of the first definition of the handle.
use Rattle.std.proofs.Common.{◌≡◌, ℕ, suc, ◌+◌, ◌<◌, ◌≤◌, Bool, true, false, List, [], ◌∷◌, ◌++◌, length, drop, get_or, Option, Some, None, refl, sym, ap, ◌∙◌, subst, if◌then◌else◌, ◌||◌, cond, find, append_assoc}
use Rattle.std.specs.Prelude.{slice_get}
use Rattle.std.specs.List.{flat_map, list_any}
use Rattle.std.specs.Option.{option_flatten}
use Rattle.std.specs.Str.{bytes_eq}
use Rattle.ir_ast.specs.Attributes.{Definition, definition, attrs, registers, attr_of_handle, params_definitions, dest_definitions, inst_definitions, block_definitions, spawned_attr}
use Rattle.ir_ast.specs.Numbers.{place}
use Rattle.ir_ast.specs.declared.program.Block.{Block}
use Rattle.ir_ast.specs.declared.program.Function.{Function}
use Rattle.ir_ast.specs.declared.program.Inst.{Inst}
use Rattle.ir_ast.specs.declared.program.Named.{Named}
use Rattle.ir_ast.specs.declared.program.Param.{Param}
use Rattle.ir_ast.specs.declared.types.Attr.{Attr}
use Rattle.source_machine.specs.Texts.{has_param, is_dest}
use Rattle.source_machine.proofs.Numbers.{drop_all}
use Rattle.source_machine.proofs.Places.{cut}

-- the first definition is of this name, or it is passed over
first_by : (b : Bool) (d : Definition) (ds : List Definition) (h : List ℕ)
    → option_flatten (slice_get (attrs (d ∷ ds)) (if b then 0 else suc (place (registers ds) h))) ≡ (if b then d.attr else attr_of_handle ds h)
first_by true d ds h = refl
first_by false d ds h = refl

first : (d : Definition) (ds : List Definition) (h : List ℕ) → attr_of_handle (d ∷ ds) h ≡ (if bytes_eq d.name h then d.attr else attr_of_handle ds h)
first d ds h = first_by (bytes_eq d.name h) d ds h

params_first : (ps : List Param) (ds : List Definition) (h : List ℕ) → attr_of_handle (params_definitions ps ++ ds) h ≡ (if has_param ps h then None else attr_of_handle ds h)
params_first [] ds h = refl
params_first (p ∷ ps) ds h = first (definition p.reg None) (params_definitions ps ++ ds) h ∙ by_test (bytes_eq p.reg.name h) (params_first ps ds h)
  where
    by_test : (b : Bool) → attr_of_handle (params_definitions ps ++ ds) h ≡ (if has_param ps h then None else attr_of_handle ds h)
        → (if b then None else attr_of_handle (params_definitions ps ++ ds) h) ≡ (if b || has_param ps h then None else attr_of_handle ds h)
    by_test true more = refl
    by_test false more = more

dest_first : (dest : Option Named) (attr : Option Attr) (ds : List Definition) (h : List ℕ) → attr_of_handle (dest_definitions dest attr ++ ds) h ≡ (if is_dest dest h then attr else attr_of_handle ds h)
dest_first None attr ds h = refl
dest_first (Some r) attr ds h = first (definition r attr) ds h

insts_found : (fs : List Function) (is : List Inst) (ds : List Definition) (h : List ℕ) (i : Inst) → find (λ (x : Inst). is_dest x.dest h) is ≡ Some i
    → attr_of_handle (flat_map (inst_definitions fs) is ++ ds) h ≡ spawned_attr fs i.op
insts_found fs [] ds h i e = absurd cc
insts_found fs (x ∷ is) ds h i e =
    ap (λ (z : List Definition). attr_of_handle z h) (append_assoc (inst_definitions fs x) (flat_map (inst_definitions fs) is) ds)
    ∙ dest_first x.dest (spawned_attr fs x.op) (flat_map (inst_definitions fs) is ++ ds) h
    ∙ by_test (is_dest x.dest h) e (insts_found fs is ds h i)
  where
    by_test : (b : Bool) → cond b (Some x) (find (λ (y : Inst). is_dest y.dest h) is) ≡ Some i
        → (find (λ (y : Inst). is_dest y.dest h) is ≡ Some i → attr_of_handle (flat_map (inst_definitions fs) is ++ ds) h ≡ spawned_attr fs i.op)
        → (if b then spawned_attr fs x.op else attr_of_handle (flat_map (inst_definitions fs) is ++ ds) h) ≡ spawned_attr fs i.op
    by_test true here more = let same : x ≡ i = cc in ap (λ (y : Inst). spawned_attr fs y.op) same
    by_test false here more = more here

insts_missed : (fs : List Function) (is : List Inst) (ds : List Definition) (h : List ℕ) → find (λ (x : Inst). is_dest x.dest h) is ≡ None
    → attr_of_handle (flat_map (inst_definitions fs) is ++ ds) h ≡ attr_of_handle ds h
insts_missed fs [] ds h e = refl
insts_missed fs (x ∷ is) ds h e =
    ap (λ (z : List Definition). attr_of_handle z h) (append_assoc (inst_definitions fs x) (flat_map (inst_definitions fs) is) ds)
    ∙ dest_first x.dest (spawned_attr fs x.op) (flat_map (inst_definitions fs) is ++ ds) h
    ∙ by_test (is_dest x.dest h) e (insts_missed fs is ds h)
  where
    by_test : (b : Bool) → cond b (Some x) (find (λ (y : Inst). is_dest y.dest h) is) ≡ None
        → (find (λ (y : Inst). is_dest y.dest h) is ≡ None → attr_of_handle (flat_map (inst_definitions fs) is ++ ds) h ≡ attr_of_handle ds h)
        → (if b then spawned_attr fs x.op else attr_of_handle (flat_map (inst_definitions fs) is ++ ds) h) ≡ attr_of_handle ds h
    by_test true here more = absurd cc
    by_test false here more = more here

-- the definitions of blocks
abbrev pub all_of : List Function → List Block → List Definition
all_of fs bs = flat_map (block_definitions fs) bs

-- those of a block's parameters come first
block_first : (fs : List Function) (b : Block) (bs : List Block) (h : List ℕ)
    → attr_of_handle (all_of fs (b ∷ bs)) h ≡ (if has_param b.params h then None else attr_of_handle (flat_map (inst_definitions fs) b.insts ++ all_of fs bs) h)
block_first fs b bs h =
    ap (λ (z : List Definition). attr_of_handle z h) (append_assoc (params_definitions b.params) (flat_map (inst_definitions fs) b.insts) (all_of fs bs))
    ∙ params_first b.params (flat_map (inst_definitions fs) b.insts ++ all_of fs bs) h

after_params : (fs : List Function) (b : Block) (bs : List Block) (h : List ℕ) → has_param b.params h ≡ false
    → attr_of_handle (all_of fs (b ∷ bs)) h ≡ attr_of_handle (flat_map (inst_definitions fs) b.insts ++ all_of fs bs) h
after_params fs b bs h e = block_first fs b bs h ∙ ap (λ (t : Bool). if t then None else attr_of_handle (flat_map (inst_definitions fs) b.insts ++ all_of fs bs) h) e

at_block : (fs : List Function) (blocks : List Block) (k : ℕ) (b : Block) (h : List ℕ) → k < length blocks → b ≡ get_or blocks k b
    → attr_of_handle (all_of fs (drop k blocks)) h ≡ attr_of_handle (all_of fs (b ∷ drop (k + 1) blocks)) h
at_block fs blocks k b h lt is = ap (λ (z : List Block). attr_of_handle (all_of fs z) h) (cut blocks k b lt is)

pub param_here : (fs : List Function) (blocks : List Block) (k : ℕ) (b : Block) (h : List ℕ) (all : Option Attr) → k < length blocks → b ≡ get_or blocks k b → has_param b.params h ≡ true
    → attr_of_handle (flat_map (block_definitions fs) (drop k blocks)) h ≡ all → None ≡ all
param_here fs blocks k b h all lt is e so_far =
    sym (at_block fs blocks k b h lt is ∙ block_first fs b (drop (k + 1) blocks) h
    ∙ ap (λ (t : Bool). if t then None else attr_of_handle (flat_map (inst_definitions fs) b.insts ++ all_of fs (drop (k + 1) blocks)) h) e) ∙ so_far

pub dest_here : (fs : List Function) (blocks : List Block) (k : ℕ) (b : Block) (i : Inst) (h : List ℕ) (all : Option Attr) → k < length blocks → b ≡ get_or blocks k b → has_param b.params h ≡ false
    → find (λ (x : Inst). is_dest x.dest h) b.insts ≡ Some i → attr_of_handle (flat_map (block_definitions fs) (drop k blocks)) h ≡ all → spawned_attr fs i.op ≡ all
dest_here fs blocks k b i h all lt is e found so_far =
    sym (at_block fs blocks k b h lt is ∙ after_params fs b (drop (k + 1) blocks) h e ∙ insts_found fs b.insts (all_of fs (drop (k + 1) blocks)) h i found) ∙ so_far

pub none_here : (fs : List Function) (blocks : List Block) (k : ℕ) (b : Block) (h : List ℕ) (all : Option Attr) → k < length blocks → b ≡ get_or blocks k b → has_param b.params h ≡ false
    → find (λ (x : Inst). is_dest x.dest h) b.insts ≡ None → attr_of_handle (flat_map (block_definitions fs) (drop k blocks)) h ≡ all → attr_of_handle (flat_map (block_definitions fs) (drop (k + 1) blocks)) h ≡ all
none_here fs blocks k b h all lt is e missed so_far =
    sym (at_block fs blocks k b h lt is ∙ after_params fs b (drop (k + 1) blocks) h e ∙ insts_missed fs b.insts (all_of fs (drop (k + 1) blocks)) h missed) ∙ so_far

pub no_more : (fs : List Function) (blocks : List Block) (k : ℕ) (h : List ℕ) (all : Option Attr) → length blocks ≤ k → attr_of_handle (flat_map (block_definitions fs) (drop k blocks)) h ≡ all → None ≡ all
no_more fs blocks k h all le so_far = subst (λ (z : List Block). attr_of_handle (all_of fs z) h ≡ all) (drop_all blocks k le) so_far

pub ruleset attr_steps = (param_here, dest_here, none_here, no_more)

pub param_of : (ps : List Param) (ds : List Definition) (h : List ℕ) → has_param ps h ≡ true → None ≡ attr_of_handle (params_definitions ps ++ ds) h
param_of ps ds h e = sym (params_first ps ds h ∙ ap (λ (t : Bool). if t then None else attr_of_handle ds h) e)

pub no_param : (ps : List Param) (ds : List Definition) (h : List ℕ) → has_param ps h ≡ false → attr_of_handle ds h ≡ attr_of_handle (params_definitions ps ++ ds) h
no_param ps ds h e = sym (params_first ps ds h ∙ ap (λ (t : Bool). if t then None else attr_of_handle ds h) e)

pub ruleset param_steps = (param_of, no_param)
