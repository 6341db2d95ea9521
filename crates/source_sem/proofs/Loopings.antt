-- The program that spawns in a loop meets what joins need.
use Rattle.std.proofs.Common.{◌≡◌, ℕ, zero, suc, ◌<◌, ◌≤◌, List, [], ◌∷◌, ◌++◌, refl, sym, ap, ◌∙◌, subst, inl, inr, arith, append-nil, append_assoc}
use Rattle.std.specs.Prelude.{Some, None, slice_get, slice_index_or, ◌⊎◌, Contains}
use Rattle.ir_ast.specs.Numbers.{block_place}
use Rattle.ir_ast.specs.Shapes.{Defines}
use Rattle.ir_ast.specs.declared.program.Block.{Block}
use Rattle.ir_ast.specs.declared.program.Function.{Function}
use Rattle.ir_ast.specs.declared.program.Goal.{Goal}
use Rattle.ir_ast.specs.declared.program.Inst.{Inst}
use Rattle.ir_ast.specs.declared.program.Named.{Named}
use Rattle.ir_ast.specs.declared.types.Ty.{Ty}
use Rattle.ir_rules.specs.declared.rule.Wanted.TheVariants.{AValue, AHandle}
use Rattle.ir_rules.specs.Occurrences.{Holds as Held, Use, Event, block_events, jump_goals}
use Rattle.ir_rules.specs.Occurrences.Event.{defines, uses}
use Rattle.ir_rules.specs.Paths.{Avoids, AvoidsBlock, GoesTo, IsPath, IsUnassigned}
use Rattle.source_sem.specs.Joining.{StandsAt, FunctionJoins, JoinsAccepted}
use Rattle.source_sem.specs.Traces.{named}
use Rattle.source_sem.specs.Looping.{child_block, child, spawns, joins, adds, compares, joins_first, joins_second, entry_block, loop_block, branch_block, first_arm, second_arm, looping, program}

some_block : {a b : Block} → Some a ≡ Some b → a ≡ b
some_block h = cc

-- cases over the blocks -----------------------------------------------------------

by_block : (P : ℕ → Block → Type 0) → P 0 entry_block → P 1 loop_block → P 2 branch_block → P 3 first_arm → P 4 second_arm → (b : ℕ) (block : Block) → slice_get looping.blocks b ≡ Some block → P b block
by_block P a c d e f zero block is = subst (P 0) (some_block is) a
by_block P a c d e f (suc zero) block is = subst (P 1) (some_block is) c
by_block P a c d e f (suc (suc zero)) block is = subst (P 2) (some_block is) d
by_block P a c d e f (suc (suc (suc zero))) block is = subst (P 3) (some_block is) e
by_block P a c d e f (suc (suc (suc (suc zero)))) block is = subst (P 4) (some_block is) f
by_block P a c d e f (suc (suc (suc (suc (suc b))))) block is = absurd (let none : None ≡ Some block = is in cc)

-- cases over a list --------------------------------------------------------------

nothing_stands : {A B : Type 0} (done rest : List A) (i : A) → [] ≡ done ++ i ∷ rest → B
nothing_stands [] rest i h = cc
nothing_stands (d ∷ done) rest i h = cc

head_is : {A : Type 0} {a b : A} {xs ys : List A} → a ∷ xs ≡ b ∷ ys → a ≡ b
head_is h = cc

tail_is : {A : Type 0} {a b : A} {xs ys : List A} → a ∷ xs ≡ b ∷ ys → xs ≡ ys
tail_is h = cc

-- one after the other, each after those before it
abbrev AllStand : {A : Type 0} → (List A → A → Type 0) → List A → List A → Type 0
AllStand P before [] = Unit {0}
AllStand P before (i ∷ is) = P before i × AllStand P (before ++ i ∷ []) is

stand : {A : Type 0} (P : List A → A → Type 0) (before is done rest : List A) (i : A) → AllStand P before is → is ≡ done ++ i ∷ rest → P (before ++ done) i
stand P before [] done rest i all h = nothing_stands done rest i h
stand P before (x ∷ is) [] rest i all h =
    subst (λ z. P (before ++ []) z) (head_is h) (subst (λ l. P l x) (sym (append-nil before)) all.0)
stand P before (x ∷ is) (d ∷ done) rest i all h =
    let same : x ≡ d = head_is h in
    let more = stand P (before ++ x ∷ []) is done rest i all.1 (tail_is h) in
    subst (λ l. P l i) (append_assoc before (x ∷ []) done ∙ ap (λ z. before ++ z ∷ done) same) more

by_inst : (P : Inst → Type 0) → P spawns → P joins → P adds → P compares → P joins_first → P joins_second → (b : ℕ) (block : Block) (done rest : List Inst) (i : Inst) → StandsAt looping b block done i rest → P i
by_inst P a c d e f g b block done rest i at =
    by_block (λ n x. x.insts ≡ done ++ i ∷ rest → P i) (λ h. nothing_stands done rest i h) (λ h. stand (λ before x. P x) [] loop_block.insts done rest i (a, (c, (d, (e, tt)))) h) (λ h. nothing_stands done rest i h)
    (λ h. stand (λ before x. P x) [] first_arm.insts done rest i (f, tt) h) (λ h. stand (λ before x. P x) [] second_arm.insts done rest i (g, tt) h) b block at.is_block at.insts

-- paths --------------------------------------------------------------------------------

one_goal : (g x : Goal) → Contains (g ∷ []) x → g ≡ x
one_goal g x h = by h.0 h.1 h.2
  where
    by : (k : ℕ) → k < 1 → slice_index_or (g ∷ []) k x ≡ x → g ≡ x
    by zero less is = is
    by (suc k) less is = absurd (omega (arith, less))

two_goals : (f g x : Goal) → Contains (f ∷ g ∷ []) x → (f ≡ x) ⊎ (g ≡ x)
two_goals f g x h = by h.0 h.1 h.2
  where
    by : (k : ℕ) → k < 2 → slice_index_or (f ∷ g ∷ []) k x ≡ x → (f ≡ x) ⊎ (g ≡ x)
    by zero less is = inl is
    by (suc zero) less is = inr is
    by (suc (suc k)) less is = absurd (omega (arith, less))

no_goal : {B : Type 0} (x : Goal) → Contains [] x → B
no_goal x h = absurd (let less = h.1 in omega (arith, less))

-- where a block goes
abbrev Edge : ℕ → ℕ → Type 0
Edge b c = (c ≤ 1) ⊎ (((b ≡ 1) × (c ≡ 2)) ⊎ ((b ≡ 2) × (2 < c)))

abbrev handle : List ℕ
handle = 104 ∷ []

-- the goal's block is this one
to_block : (g h : Goal) (n c : ℕ) → g ≡ h → block_place looping.blocks g.label.name ≡ n → block_place looping.blocks h.label.name ≡ c → n ≡ c
to_block g h n c is one two = sym one ∙ ap (λ (z : Goal). block_place looping.blocks z.label.name) is ∙ two

edge : (b c : ℕ) → GoesTo looping b c → Edge b c
edge b c e =
    by_block (λ n x. Contains (jump_goals x.term.jump) goal → Edge n c)
    (λ h. (let p = to_block _ goal 1 c (one_goal _ goal h) refl to in inl (omega (arith, p))))
    (λ h. elim (two_goals _ _ goal h) [ inl g ↦ (let p = to_block _ goal 1 c g refl to in inl (omega (arith, p))) | inr g ↦ (let p = to_block _ goal 2 c g refl to in inr (inl (refl, sym p))) ])
    (λ h. elim (two_goals _ _ goal h) [ inl g ↦ (let p = to_block _ goal 3 c g refl to in inr (inr (refl, omega (arith, p)))) | inr g ↦ (let p = to_block _ goal 4 c g refl to in inr (inr (refl, omega (arith, p)))) ])
    (λ h. no_goal goal h) (λ h. no_goal goal h) b e.0 e.2 e.3
  where
    goal : Goal
    goal = e.1

    to : block_place looping.blocks goal.label.name ≡ c
    to = e.4

-- after the loop each path went through it, where the handle is defined
no_path : (c : ℕ) (path : List ℕ) → 1 < c → IsPath looping handle (c ∷ path) → ⊥
no_path c [] more is = omega (arith, more, is)
no_path c (b ∷ path) more is = elim (edge b c is.0) [
  | inl low ↦ omega (arith, low, more)
  | inr two ↦ elim two [
    | inl loop ↦ by_loop is.1 loop.0
    | inr arm ↦ no_path b path (let k = arm.0 in omega (arith, k)) is.2
  ]
]
  where
    by_loop : AvoidsBlock looping handle b → b ≡ 1 → ⊥
    by_loop a is_one =
        let at : slice_get looping.blocks 1 ≡ Some a.0 = subst (λ n. slice_get looping.blocks n ≡ Some a.0) is_one a.1 in
        let none : Avoids handle (block_events loop_block) = subst (λ (x : Block). Avoids handle (block_events x)) (sym (some_block at)) a.2 in none.1.0 refl

-- what joins need ----------------------------------------------------------------------------

value_use : {B : Type 0} (r : Named) (ty : Ty) (u : Use) → u.wanted ≡ AHandle → uses (record { reg = r; wanted = AValue ty }) ≡ uses u → B
value_use r ty u is h =
    let same : record { reg = r; wanted = AValue ty } ≡ u = cc in
    let wanted : AValue ty ≡ AHandle = ap (λ (z : Use). z.wanted) same ∙ is in cc

handle_use : (u : Use) → uses (record { reg = named 104; wanted = AHandle }) ≡ uses u → handle ≡ u.reg.name
handle_use u h = let same : record { reg = named 104; wanted = AHandle } ≡ u = cc in ap (λ (z : Use). z.reg.name) same

no_use : {B : Type 0} (d : Named) (h : Held) (u : Use) → defines d h ≡ uses u → B
no_use d h u is = cc

-- no use of a handle stands here
abbrev NoHandleUse : Use → List Event → Event → Type 0
NoHandleUse u before e = e ≡ uses u → Avoids u.reg.name before → ⊥

loop_stands : (u : Use) → u.wanted ≡ AHandle → AllStand (NoHandleUse u) [] (block_events loop_block)
loop_stands u wanted = ((λ is avoids. no_use _ _ u is), ((λ is avoids. no_use _ _ u is), ((λ is avoids. avoids.1.0 (handle_use u is)), ((λ is avoids. no_use _ _ u is), ((λ is avoids. value_use _ _ u wanted is), ((λ is avoids. no_use _ _ u is), ((λ is avoids. value_use _ _ u wanted is), ((λ is avoids. no_use _ _ u is), ((λ is avoids. value_use _ _ u wanted is), ((λ is avoids. value_use _ _ u wanted is), tt))))))))))

assigned : (u : Use) → u.wanted ≡ AHandle → IsUnassigned looping u → ⊥
assigned u wanted x =
    by_block (λ n blk. block_events blk ≡ x.before ++ uses u ∷ x.after → IsPath looping u.reg.name (n ∷ x.path) → ⊥)
    (λ h p. nothing_stands x.before x.after (uses u) h)
    (λ h p. stand (NoHandleUse u) [] (block_events loop_block) x.before x.after (uses u) (loop_stands u wanted) h refl x.avoids)
    (λ h p. stand (λ before e. e ≡ uses u → ⊥) [] (block_events branch_block) x.before x.after (uses u) (value_use _ _ u wanted, tt) h refl)
    (λ h p. stand (λ before e. e ≡ uses u → ⊥) [] (block_events first_arm) x.before x.after (uses u) ((λ is. no_path 3 x.path (omega arith) (subst (λ r. IsPath looping r (3 ∷ x.path)) (sym (handle_use u is)) p)), (no_use _ _ u, (value_use _ _ u wanted, tt))) h refl)
    (λ h p. stand (λ before e. e ≡ uses u → ⊥) [] (block_events second_arm) x.before x.after (uses u) ((λ is. no_path 4 x.path (omega arith) (subst (λ r. IsPath looping r (4 ∷ x.path)) (sym (handle_use u is)) p)), (no_use _ _ u, (value_use _ _ u wanted, tt))) h refl)
    x.last x.block x.is_block x.stands x.is_path

looping_joins : FunctionJoins looping
looping_joins = record {
  begins = entry_block;
  begins_is = refl;
  joins = record {
    events = (refl, (refl, ((103 ∷ [], refl), (refl, (refl, (refl, (refl, (refl, (refl, (refl, (refl, ((103 ∷ [], refl), (refl, (refl, ((103 ∷ [], refl), (refl, (refl, tt)))))))))))))))));
    assigned = assigned;
    first = λ block is. subst (λ (x : Block). x.params ≡ []) (some_block is) refl;
  };
  dests = λ b block done rest i n stands d. by_inst (λ x. Defines x.op) tt tt tt tt tt tt b block done rest i stands;
}

-- the child has no instruction
no_block : {B : Type 0} (b : ℕ) (block : Block) → slice_get child.blocks (suc b) ≡ Some block → B
no_block b block is = absurd (let none : None ≡ Some block = is in cc)

child_stands : {B : Type 0} (b : ℕ) (block : Block) (done rest : List Inst) (i : Inst) → StandsAt child b block done i rest → B
child_stands zero block done rest i at = nothing_stands done rest i (ap (λ (x : Block). x.insts) (some_block at.is_block) ∙ at.insts)
child_stands (suc b) block done rest i at = no_block b block at.is_block

child_uses : (b : ℕ) (block : Block) (before after : List Event) (u : Use) → slice_get child.blocks b ≡ Some block → block_events block ≡ before ++ uses u ∷ after → ⊥
child_uses zero block before after u is stands = nothing_stands before after (uses u) (ap block_events (some_block is) ∙ stands)
child_uses (suc b) block before after u is stands = no_block b block is

child_joins : FunctionJoins child
child_joins = record {
  begins = child_block;
  begins_is = refl;
  joins = record {
    events = tt;
    assigned = λ u wanted x. child_uses x.last x.block x.before x.after u x.is_block x.stands;
    first = λ block is. subst (λ (x : Block). x.params ≡ []) (some_block is) refl;
  };
  dests = λ b block done rest i n stands d. child_stands b block done rest i stands;
}

some_function : {a b : Function} → Some a ≡ Some b → a ≡ b
some_function h = cc

pub program_joins : JoinsAccepted program
program_joins zero g is = subst FunctionJoins (some_function is) child_joins
program_joins (suc zero) g is = subst FunctionJoins (some_function is) looping_joins
program_joins (suc (suc k)) g is = absurd (let none : None ≡ Some g = is in cc)
