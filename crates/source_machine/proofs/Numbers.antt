-- Places of names, and numbers of instructions, which stay within the limit.
use Rattle.std.proofs.Common.{◌≡◌, ℕ, zero, suc, ◌+◌, ◌^◌, ◌<◌, ◌≤◌, Bool, true, false, List, [], ◌∷◌, ◌++◌, length, drop, get_or, Option, Some, None, refl, sym, ap, ◌∙◌, subst, if◌then◌else◌, cond, find, map, arith, append_assoc}
use Rattle.std.specs.Prelude.{slice_get}
use Rattle.std.specs.List.{sum_by}
use Rattle.std.specs.Str.{bytes_eq}
use Rattle.std.proofs.lemmas.List.Sums.{sum_by-cons}
use Rattle.ir_ast.specs.Lines.{most_instructions, block_instructions}
use Rattle.ir_ast.specs.Programs.{IsProgram, function_instructions}
use Rattle.ir_ast.specs.declared.hosts.HostEntry.{HostEntry}
use Rattle.ir_ast.specs.declared.program.Block.{Block}
use Rattle.ir_ast.specs.declared.program.Function.{Function}
use Rattle.ir_ast.specs.declared.program.Inst.{Inst}
use Rattle.ir_ast.specs.declared.program.Program.{Program}
use Rattle.ir_ast.specs.declared.types.Attr.{Attr}
use Rattle.ir_ast.proofs.Limits.{keeps_limits}
use Rattle.ir_ast.specs.Numbers.{block_place, blocks_end, number_of_block, number_of_function, function_place, host_names, place}
use Rattle.source_sem.specs.Source.{first_insts}
use Rattle.source_machine.specs.Positions.{IsWithinLimit}
use Rattle.source_machine.specs.Texts.{function_numbers, program_end}
use Rattle.source_machine.proofs.Places.{cut}

-- ---- ends

blocks_grow : (n : ℕ) (bs : List Block) → n ≤ blocks_end n bs
blocks_grow n [] = omega arith
blocks_grow n (b ∷ bs) = let more : n + block_instructions b ≤ blocks_end (n + block_instructions b) bs = blocks_grow (n + block_instructions b) bs in omega arith

pub block_room : (blocks : List Block) (i : ℕ) (b : Block) (n e : ℕ) → i < length blocks → b ≡ get_or blocks i b → blocks_end n (drop i blocks) ≡ e → e ≤ most_instructions → n + block_instructions b ≤ most_instructions
block_room blocks i b n e lt is h small =
    let end : blocks_end (n + block_instructions b) (drop (i + 1) blocks) ≡ e = subst (λ (z : List Block). blocks_end n z ≡ e) (cut blocks i b lt is) h in
    let grow : n + block_instructions b ≤ blocks_end (n + block_instructions b) (drop (i + 1) blocks) = blocks_grow (n + block_instructions b) (drop (i + 1) blocks) in
    omega arith

pub block_passed : (blocks : List Block) (i : ℕ) (b : Block) (n e : ℕ) → i < length blocks → b ≡ get_or blocks i b → blocks_end n (drop i blocks) ≡ e → blocks_end (n + block_instructions b) (drop (i + 1) blocks) ≡ e
block_passed blocks i b n e lt is h = subst (λ (z : List Block). blocks_end n z ≡ e) (cut blocks i b lt is) h

program_grow : (n : ℕ) (fs : List Function) → n ≤ program_end n fs
program_grow n [] = omega arith
program_grow n (f ∷ fs) =
    let here : n ≤ blocks_end n f.blocks = blocks_grow n f.blocks in
    let more : blocks_end n f.blocks ≤ program_end (blocks_end n f.blocks) fs = program_grow (blocks_end n f.blocks) fs in omega arith

pub function_room : (fs : List Function) (i : ℕ) (f : Function) (n e : ℕ) → i < length fs → f ≡ get_or fs i f → program_end n (drop i fs) ≡ e → e ≤ most_instructions → blocks_end n f.blocks ≤ most_instructions
function_room fs i f n e lt is h small =
    let end : program_end (blocks_end n f.blocks) (drop (i + 1) fs) ≡ e = subst (λ (z : List Function). program_end n z ≡ e) (cut fs i f lt is) h in
    let grow : blocks_end n f.blocks ≤ program_end (blocks_end n f.blocks) (drop (i + 1) fs) = program_grow (blocks_end n f.blocks) (drop (i + 1) fs) in
    omega arith

pub function_passed : (fs : List Function) (i : ℕ) (f : Function) (n e : ℕ) → i < length fs → f ≡ get_or fs i f → program_end n (drop i fs) ≡ e → program_end (blocks_end n f.blocks) (drop (i + 1) fs) ≡ e
function_passed fs i f n e lt is h = subst (λ (z : List Function). program_end n z ≡ e) (cut fs i f lt is) h

pub numbers_more : (fs : List Function) (i : ℕ) (f : Function) (n : ℕ) (done all : List ℕ) → i < length fs → f ≡ get_or fs i f → done ++ function_numbers n (drop i fs) ≡ all
    → (done ++ n ∷ []) ++ function_numbers (blocks_end n f.blocks) (drop (i + 1) fs) ≡ all
numbers_more fs i f n done all lt is h =
    append_assoc done (n ∷ []) (function_numbers (blocks_end n f.blocks) (drop (i + 1) fs)) ∙ subst (λ (z : List Function). done ++ function_numbers n z ≡ all) (cut fs i f lt is) h

pub ruleset end_steps = (block_room, block_passed, function_room, function_passed, numbers_more)

-- the limits of a program
blocks_sum : (n : ℕ) (bs : List Block) → blocks_end n bs ≡ n + sum_by block_instructions bs
blocks_sum n [] = omega arith
blocks_sum n (b ∷ bs) =
    let sum : sum_by block_instructions (b ∷ bs) ≡ block_instructions b + sum_by block_instructions bs = sum_by-cons block_instructions b bs in
    let more : blocks_end (n + block_instructions b) bs ≡ n + block_instructions b + sum_by block_instructions bs = blocks_sum (n + block_instructions b) bs in omega (arith, sum, more)

program_sum : (n : ℕ) (fs : List Function) → program_end n fs ≡ n + sum_by function_instructions fs
program_sum n [] = omega arith
program_sum n (f ∷ fs) =
    let here : blocks_end n f.blocks ≡ n + function_instructions f = blocks_sum n f.blocks in
    let more : program_end (blocks_end n f.blocks) fs ≡ blocks_end n f.blocks + sum_by function_instructions fs = program_sum (blocks_end n f.blocks) fs in
    let sum : sum_by function_instructions (f ∷ fs) ≡ function_instructions f + sum_by function_instructions fs = sum_by-cons function_instructions f fs in
    omega (arith, here, more, sum)

pub program_within : (p : Program) → IsProgram p → program_end 0 p.functions ≤ most_instructions
program_within p h = let limit : sum_by function_instructions p.functions ≤ most_instructions = (keeps_limits p h).instructions in omega (arith, limit, program_sum 0 p.functions)

pub few_functions : (p : Program) → IsProgram p → length p.functions ≤ 256
few_functions p h = (keeps_limits p h).functions

-- ---- blocks by their labels

-- where the search of a label in blocks leads
pub record Found (label : List ℕ) (n : ℕ) (blocks : List Block) (block : Option Block) (number : ℕ) : Type 0 where
  pub is_block : block ≡ slice_get blocks (block_place blocks label)
  pub is_number : number ≡ number_of_block n blocks (block_place blocks label)

-- what a search has still to do, once it has come so far
abbrev pub Seeks : List ℕ → ℕ → List Block → ℕ → List Block → Type 0
Seeks label n blocks m rest = (b : Option Block) (number : ℕ) → Found label m rest b number → Found label n blocks b number

found_by : (t : Bool) (label : List ℕ) (n : ℕ) (b : Block) (bs : List Block) → bytes_eq b.label.name label ≡ t → t ≡ true → Found label n (b ∷ bs) (Some b) n
found_by true label n b bs e h = record {
  is_block = ap (λ (z : Bool). slice_get (b ∷ bs) (if z then 0 else suc (block_place bs label))) (sym e);
  is_number = ap (λ (z : Bool). number_of_block n (b ∷ bs) (if z then 0 else suc (block_place bs label))) (sym e);
}
found_by false label n b bs e h = absurd cc

pub found_here : (label : List ℕ) (blocks : List Block) (i : ℕ) (b : Block) (n m : ℕ) → i < length blocks → b ≡ get_or blocks i b → bytes_eq b.label.name label ≡ true → Seeks label n blocks m (drop i blocks) → Found label n blocks (Some b) m
found_here label blocks i b n m lt is e seeks =
    seeks (Some b) m (subst (λ (z : List Block). Found label m z (Some b) m) (sym (cut blocks i b lt is)) (found_by true label m b (drop (i + 1) blocks) e refl))

later_by : (label : List ℕ) (m : ℕ) (b : Block) (bs : List Block) (c : Option Block) (number : ℕ) → bytes_eq b.label.name label ≡ false → Found label (m + block_instructions b) bs c number → Found label m (b ∷ bs) c number
later_by label m b bs c number e f = record {
  is_block = f.is_block ∙ ap (λ (z : Bool). slice_get (b ∷ bs) (if z then 0 else suc (block_place bs label))) (sym e);
  is_number = f.is_number ∙ ap (λ (z : Bool). number_of_block m (b ∷ bs) (if z then 0 else suc (block_place bs label))) (sym e);
}

pub seeks_on : (label : List ℕ) (blocks : List Block) (i : ℕ) (b : Block) (n m : ℕ) → i < length blocks → b ≡ get_or blocks i b → bytes_eq b.label.name label ≡ false → Seeks label n blocks m (drop i blocks)
    → Seeks label n blocks (m + block_instructions b) (drop (i + 1) blocks)
seeks_on label blocks i b n m lt is e seeks c number f =
    seeks c number (subst (λ (z : List Block). Found label m z c number) (sym (cut blocks i b lt is)) (later_by label m b (drop (i + 1) blocks) c number e f))

pub drop_all : {A : Type 0} (xs : List A) (i : ℕ) → length xs ≤ i → drop i xs ≡ []
drop_all [] zero le = refl
drop_all [] (suc i) le = refl
drop_all (x ∷ xs) zero le = absurd (omega (arith, le))
drop_all (x ∷ xs) (suc i) le = drop_all xs i (omega (arith, le))

pub found_nowhere : (label : List ℕ) (blocks : List Block) (i n m : ℕ) → length blocks ≤ i → Seeks label n blocks m (drop i blocks) → Found label n blocks None m
found_nowhere label blocks i n m le seeks = seeks None m (subst (λ (z : List Block). Found label m z None m) (sym (drop_all blocks i le)) (record { is_block = refl; is_number = refl }))

pub stands_here : (n : ℕ) (b : Block) → n + block_instructions b ≤ most_instructions → IsWithinLimit n (Some b)
stands_here n b le = omega arith

pub stands_end : (blocks : List Block) (i m e : ℕ) → blocks_end m (drop i blocks) ≡ e → e ≤ most_instructions → IsWithinLimit m None
stands_end blocks i m e h le = let grow : m ≤ blocks_end m (drop i blocks) = blocks_grow m (drop i blocks) in omega arith

pub ruleset block_steps = (found_here, seeks_on, found_nowhere, stands_here, stands_end, block_room, block_passed)

-- ---- places of functions and of host functions

here_by : (b : Bool) (m i n : ℕ) → b ≡ true → i + (if b then 0 else suc m) ≡ n → i ≡ n
here_by true m i n e h = omega (arith, h)
here_by false m i n e h = absurd cc

next_by : (b : Bool) (m i n : ℕ) → b ≡ false → i + (if b then 0 else suc m) ≡ n → (i + 1) + m ≡ n
next_by true m i n e h = absurd cc
next_by false m i n e h = omega (arith, h)

pub function_here : (fs : List Function) (i : ℕ) (f : Function) (name : List ℕ) (n : ℕ) → i < length fs → f ≡ get_or fs i f → bytes_eq f.name.name name ≡ true → i + function_place (drop i fs) name ≡ n → i ≡ n
function_here fs i f name n lt is e so_far =
    here_by (bytes_eq f.name.name name) (function_place (drop (i + 1) fs) name) i n e (subst (λ (z : List Function). i + function_place z name ≡ n) (cut fs i f lt is) so_far)

pub function_next : (fs : List Function) (i : ℕ) (f : Function) (name : List ℕ) (n : ℕ) → i < length fs → f ≡ get_or fs i f → bytes_eq f.name.name name ≡ false → i + function_place (drop i fs) name ≡ n → (i + 1) + function_place (drop (i + 1) fs) name ≡ n
function_next fs i f name n lt is e so_far =
    next_by (bytes_eq f.name.name name) (function_place (drop (i + 1) fs) name) i n e (subst (λ (z : List Function). i + function_place z name ≡ n) (cut fs i f lt is) so_far)

pub function_past : (fs : List Function) (i : ℕ) (name : List ℕ) (n : ℕ) → i + function_place (drop i fs) name ≡ n → i ≡ length fs → length fs ≡ n
function_past fs i name n so_far e =
    let le : length fs ≤ i = omega (arith, e) in
    let end : i + 0 ≡ n = subst (λ (z : List Function). i + function_place z name ≡ n) (drop_all fs i le) so_far in
    omega (arith, e, end)

pub ruleset function_steps = (function_here, function_next, function_past)

pub host_here : (hs : List HostEntry) (i : ℕ) (h : HostEntry) (name : List ℕ) (n : ℕ) → i < length hs → h ≡ get_or hs i h → bytes_eq h.name name ≡ true → i + place (host_names (drop i hs)) name ≡ n → i ≡ n
host_here hs i h name n lt is e so_far =
    here_by (bytes_eq h.name name) (place (host_names (drop (i + 1) hs)) name) i n e (subst (λ (z : List HostEntry). i + place (host_names z) name ≡ n) (cut hs i h lt is) so_far)

pub host_next : (hs : List HostEntry) (i : ℕ) (h : HostEntry) (name : List ℕ) (n : ℕ) → i < length hs → h ≡ get_or hs i h → bytes_eq h.name name ≡ false → i + place (host_names (drop i hs)) name ≡ n → (i + 1) + place (host_names (drop (i + 1) hs)) name ≡ n
host_next hs i h name n lt is e so_far =
    next_by (bytes_eq h.name name) (place (host_names (drop (i + 1) hs)) name) i n e (subst (λ (z : List HostEntry). i + place (host_names z) name ≡ n) (cut hs i h lt is) so_far)

pub host_past : (hs : List HostEntry) (i : ℕ) (name : List ℕ) (n : ℕ) → i + place (host_names (drop i hs)) name ≡ n → i ≡ length hs → length hs ≡ n
host_past hs i name n so_far e =
    let le : length hs ≤ i = omega (arith, e) in
    let end : i + 0 ≡ n = subst (λ (z : List HostEntry). i + place (host_names z) name ≡ n) (drop_all hs i le) so_far in
    omega (arith, e, end)

pub ruleset host_steps = (host_here, host_next, host_past)

-- ---- the number of a function's first instruction

number_at : (n : ℕ) (fs : List Function) (k : ℕ) (f : Function) → slice_get fs k ≡ Some f → slice_get (function_numbers n fs) k ≡ Some (number_of_function n fs k)
number_at n [] k f is = absurd cc
number_at n (g ∷ fs) zero f is = refl
number_at n (g ∷ fs) (suc k) f is = number_at (blocks_end n g.blocks) fs k f is

pub number_got : (fs : List Function) (k : ℕ) (f : Function) (numbers : List ℕ) (m : ℕ) → numbers ≡ function_numbers 0 fs → slice_get fs k ≡ Some f → slice_get numbers k ≡ Some m → m ≡ number_of_function 0 fs k
number_got fs k f numbers m e is got = some_same (sym got ∙ ap (λ (z : List ℕ). slice_get z k) e ∙ number_at 0 fs k f is)
  where
    some_same : {a b : ℕ} → Some a ≡ Some b → a ≡ b
    some_same h = cc

pub number_missed : (fs : List Function) (k : ℕ) (f : Function) (numbers : List ℕ) → numbers ≡ function_numbers 0 fs → slice_get fs k ≡ Some f → slice_get numbers k ≡ None → ⊥
number_missed fs k f numbers e is got = clash (sym got ∙ ap (λ (z : List ℕ). slice_get z k) e ∙ number_at 0 fs k f is)
  where
    clash : {a : ℕ} → None ≡ Some a → ⊥
    clash h = cc

pub number_within : (n : ℕ) (fs : List Function) (k : ℕ) (f : Function) → slice_get fs k ≡ Some f → program_end n fs ≤ most_instructions → blocks_end (number_of_function n fs k) f.blocks ≤ most_instructions
number_within n [] k f is le = absurd cc
number_within n (g ∷ fs) zero f is le =
    let same : g ≡ f = cc in
    let grow : blocks_end n g.blocks ≤ program_end (blocks_end n g.blocks) fs = program_grow (blocks_end n g.blocks) fs in
    subst (λ (z : Function). blocks_end n z.blocks ≤ most_instructions) same (omega arith)
number_within n (g ∷ fs) (suc k) f is le = number_within (blocks_end n g.blocks) fs k f is le
