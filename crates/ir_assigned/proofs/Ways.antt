-- The graph's paths are the function's.
use Rattle.std.proofs.Common.{◌≡◌, ℕ, zero, suc, ◌+◌, ◌<◌, ◌≤◌, ◌⊎◌, inl, inr, Bool, true, false, cond, List, [], ◌∷◌, ◌++◌, length, map, get_or, Option, Some, None, refl, sym, ap, subst, ◌∙◌, append_assoc, arith}
use Rattle.std.specs.Prelude.{slice_get, Contains, slice_index_or, OnOk, Result, Ok, Err, if◌then◌else◌}
use Rattle.ir_ast.specs.declared.program.Jump.{Jump}
use Rattle.ir_ast.specs.declared.program.Jump.TheVariants.{CondBr}
use Rattle.ir_ast.specs.declared.program.Val.{Val}
use Rattle.std.specs.List.{flat_map}
use Rattle.std.specs.Str.{bytes_eq}
use Rattle.std.proofs.lemmas.List.{append-nil, map-append}
use Rattle.std.proofs.lemmas.List.Concat.{flat_map-cons}
use Rattle.std.proofs.lemmas.List.Elements.{Contains-append_cases, Contains-append_left, Contains-append_right, Contains-get_or}
use Rattle.std.specs.Cmp.Lexicographic.{bytes_decides}
use Rattle.ir_ast.specs.declared.program.Goal.{Goal}
use Rattle.ir_ast.specs.declared.program.Block.{Block}
use Rattle.ir_ast.specs.declared.program.Function.{Function}
use Rattle.flow_paths.specs.Paths as search
use Rattle.flow_paths.specs.Paths.{Passes, IsEntered, IsInside}
use Rattle.ir_rules.specs.Occurrences.{Use, Event, jump_goals, block_events}
use Rattle.ir_rules.specs.Occurrences.Event.{defines, uses}
use Rattle.ir_rules.specs.Paths.{Avoids, AvoidsBlock, GoesTo, IsPath, label_place}
use Rattle.ir_rules.proofs.Any.{here, none_in, head_of}
use Rattle.ir_rules.proofs.Places.{found_at, at_found}
use Rattle.ir_assigned.specs.Graph.{listed, target, successors, assigns}
use Rattle.ir_assigned.proofs.Firsts.{In}

-- a block stops the register where it defines it
pub record IsGraphOf (f : Function) (r : List ℕ) (graph : List (List ℕ)) (stops : List Bool) : Type 0 where
  pub goes : graph ≡ map (successors f.blocks) f.blocks
  pub halts : stops ≡ map (λ b. assigns r (block_events b)) f.blocks

-- some path of blocks leads to the block, and none of the blocks before it defines the register
abbrev pub IsReached : Function → List ℕ → ℕ → Type 0
IsReached f r b = (path : List ℕ) × IsPath f r (b ∷ path)

-- the graph's paths are the function's
abbrev pub PathsAreTheSame : Type 0
PathsAreTheSame = (f : Function) (r : List ℕ) (graph : List (List ℕ)) (stops : List Bool) → IsGraphOf f r graph stops → (b : ℕ) → (IsEntered graph stops b → IsReached f r b) × (IsReached f r b → IsEntered graph stops b)

-- the uses of the register before the first definition of it
abbrev pub early : List ℕ → List Event → List Use
early r [] = []
early r (defines d h ∷ es) = if bytes_eq r d.name then [] else early r es
early r (uses u ∷ es) = if bytes_eq r u.reg.name then u ∷ early r es else early r es

pub record IsEarly (r : List ℕ) (es : List Event) (u : Use) : Type 0 where
  pub before : List Event
  pub after : List Event
  pub is_name : r ≡ u.reg.name
  pub stands : es ≡ before ++ uses u ∷ after
  pub avoids : Avoids r before

pub ruleset graph_steps = (append-nil, map-append, append_assoc)

some_same : {A : Type 0} (x y : A) → (let o : Option A = Some x in o) ≡ Some y → x ≡ y
some_same x y e = cc

-- what stands in a mapped list
pub map_at : {A B : Type 0} (g : A → B) (xs : List A) (n : ℕ) (y : B) → slice_get (map g xs) n ≡ Some y → (x : A) × (slice_get xs n ≡ Some x) × (g x ≡ y)
map_at g [] n y e = absurd cc
map_at g (x ∷ xs) zero y e = (x, refl, let s : g x ≡ y = cc in s)
map_at g (x ∷ xs) (suc n) y e = map_at g xs n y e

pub at_map : {A B : Type 0} (g : A → B) (xs : List A) (n : ℕ) (x : A) → slice_get xs n ≡ Some x → slice_get (map g xs) n ≡ Some (g x)
at_map g [] n x e = absurd cc
at_map g (y ∷ ys) zero x e = let s : y ≡ x = cc in ap (λ (z : _). let o : Option _ = Some (g z) in o) s
at_map g (y ∷ ys) (suc n) x e = at_map g ys n x e

-- ---- goals and successors
listed_is : (o : Option ℕ) (n : ℕ) → Contains (listed o) n → o ≡ Some n
listed_is None n h = absurd (none_in n h)
listed_is (Some m) n h = elim (head_of m n [] h) [
  | inl e ↦ ap (λ (z : ℕ). let o : Option ℕ = Some z in o) e
  | inr more ↦ absurd (none_in n more)
]

is_listed : (o : Option ℕ) (n : ℕ) → o ≡ Some n → Contains (listed o) n
is_listed o n e = subst (λ (z : Option ℕ). Contains (listed z) n) (sym e) (here n [])

goal_of : (blocks : List Block) (gs : List Goal) (n : ℕ) → Contains (flat_map (target blocks) gs) n → (g : Goal) × Contains gs g × (label_place blocks g.label.name ≡ Some n)
goal_of blocks [] n h = absurd (none_in n h)
goal_of blocks (g ∷ gs) n h = elim (Contains-append_cases (target blocks g) (flat_map (target blocks) gs) n (subst (λ (z : List ℕ). Contains z n) (flat_map-cons (target blocks) g gs) h)) [
  | inl k ↦ (g, here g gs, listed_is (label_place blocks g.label.name) n k)
  | inr k ↦ let m = goal_of blocks gs n k in (m.0, Contains-append_right (g ∷ []) gs m.0 m.1, m.2)
]

of_goal : (blocks : List Block) (gs : List Goal) (g : Goal) (n k : ℕ) → k < length gs → slice_index_or gs k g ≡ g → label_place blocks g.label.name ≡ Some n → Contains (flat_map (target blocks) gs) n
of_goal blocks [] g n k lt e p = absurd (omega (arith, lt))
of_goal blocks (h ∷ gs) g n zero lt e p = subst (λ (z : List ℕ). Contains z n) (sym (flat_map-cons (target blocks) h gs))
    (Contains-append_left (target blocks h) (flat_map (target blocks) gs) n (subst (λ (z : Goal). Contains (target blocks z) n) (sym e) (is_listed (label_place blocks g.label.name) n p)))
of_goal blocks (h ∷ gs) g n (suc k) lt e p = subst (λ (z : List ℕ). Contains z n) (sym (flat_map-cons (target blocks) h gs))
    (Contains-append_right (target blocks h) (flat_map (target blocks) gs) n (of_goal blocks gs g n k (omega (arith, lt)) e p))

-- ---- whether the events define the register
avoids_pick : (b : Bool) (r n : List ℕ) (rest : Bool) (A : Type 0) → bytes_eq r n ≡ b → cond b true rest ≡ false → (rest ≡ false → A) → ((n ≡ r → ⊥) × A)
avoids_pick true r n rest A e h f = absurd cc
avoids_pick false r n rest A e h f = (λ s. let t : bytes_eq r n ≡ true = (bytes_decides r n).1 (sym s) in let z : true ≡ false = sym t ∙ e in absurd cc, f h)

pub avoids_if : (r : List ℕ) (es : List Event) → assigns r es ≡ false → Avoids r es
avoids_if r [] e = tt
avoids_if r (uses u ∷ es) e = avoids_if r es e
avoids_if r (defines d h ∷ es) e = avoids_pick (bytes_eq r d.name) r d.name (assigns r es) (Avoids r es) refl e (avoids_if r es)

not_pick : (b : Bool) (r n : List ℕ) (rest : Bool) → bytes_eq r n ≡ b → (n ≡ r → ⊥) → rest ≡ false → cond b true rest ≡ false
not_pick true r n rest e apart h = absurd (apart (sym ((bytes_decides r n).0 e)))
not_pick false r n rest e apart h = h

pub if_avoids : (r : List ℕ) (es : List Event) → Avoids r es → assigns r es ≡ false
if_avoids r [] a = refl
if_avoids r (uses u ∷ es) a = if_avoids r es a
if_avoids r (defines d h ∷ es) a = not_pick (bytes_eq r d.name) r d.name (assigns r es) refl a.0 (if_avoids r es a.1)

-- ---- one step of a path
abbrev defining : List ℕ → Block → Bool
defining r b = assigns r (block_events b)

step_to : (f : Function) (r : List ℕ) (graph : List (List ℕ)) (stops : List Bool) → IsGraphOf f r graph stops → (b s : ℕ) → Passes graph stops b s → GoesTo f b s × AvoidsBlock f r b
step_to f r graph stops is b s p =
    let o = map_at (successors f.blocks) f.blocks b p.0 (subst (λ (z : List (List ℕ)). slice_get z b ≡ Some p.0) is.goes p.1) in
    let a = map_at (defining r) f.blocks b false (subst (λ (z : List Bool). slice_get z b ≡ Some false) is.halts p.2) in
    let g = goal_of f.blocks (jump_goals o.0.term.jump) s (subst (λ (z : List ℕ). Contains z s) (sym o.2) p.3) in
    let at = found_at (λ (z : Block). z.label.name) f.blocks g.0.label.name s g.2 in
    ((o.0, g.0, o.1, g.1, at.0, at.1), (a.0, a.1, avoids_if r (block_events a.0) a.2))

step_back : (f : Function) (r : List ℕ) (graph : List (List ℕ)) (stops : List Bool) → IsGraphOf f r graph stops → (b s : ℕ) → GoesTo f b s → AvoidsBlock f r b → Passes graph stops b s
step_back f r graph stops is b s g a = (
  successors f.blocks g.0,
  subst (λ (z : List (List ℕ)). slice_get z b ≡ Some (successors f.blocks g.0)) (sym is.goes) (at_map (successors f.blocks) f.blocks b g.0 g.2),
  subst (λ (z : List Bool). slice_get z b ≡ Some false) (sym is.halts) (at_map (defining r) f.blocks b a.0 a.1 ∙ ap (λ (z : Bool). let o : Option Bool = Some z in o) (if_avoids r (block_events a.0) a.2)),
  of_goal f.blocks (jump_goals g.0.term.jump) g.1 s g.3.0 g.3.1 g.3.2 (at_found (λ (z : Block). z.label.name) f.blocks g.1.label.name s g.4 g.5),
)

path_to : (f : Function) (r : List ℕ) (graph : List (List ℕ)) (stops : List Bool) → IsGraphOf f r graph stops → (b : ℕ) (path : List ℕ) → search.IsPath graph stops (b ∷ path) → IsPath f r (b ∷ path)
path_to f r graph stops is b [] e = e
path_to f r graph stops is b (c ∷ path) h = let s = step_to f r graph stops is c b h.0 in (s.0, s.1, path_to f r graph stops is c path h.1)

path_back : (f : Function) (r : List ℕ) (graph : List (List ℕ)) (stops : List Bool) → IsGraphOf f r graph stops → (b : ℕ) (path : List ℕ) → IsPath f r (b ∷ path) → search.IsPath graph stops (b ∷ path)
path_back f r graph stops is b [] e = e
path_back f r graph stops is b (c ∷ path) h = (step_back f r graph stops is c b h.0 h.1, path_back f r graph stops is c path h.2)

pub same_paths : PathsAreTheSame
same_paths f r graph stops is b = (λ m. (m.0, path_to f r graph stops is b m.0 m.1), λ m. (m.0, path_back f r graph stops is b m.0 m.1))

-- ---- early uses
cons_early : (r : List ℕ) (e : Event) (es : List Event) (u : Use) → Avoids r (e ∷ []) → IsEarly r es u → IsEarly r (e ∷ es) u
cons_early r (defines d h) es u a i = record { before = defines d h ∷ i.before; after = i.after; is_name = i.is_name; stands = ap (λ (z : List Event). defines d h ∷ z) i.stands; avoids = (a.0, i.avoids) }
cons_early r (uses v) es u a i = record { before = uses v ∷ i.before; after = i.after; is_name = i.is_name; stands = ap (λ (z : List Event). uses v ∷ z) i.stands; avoids = i.avoids }

early_def : (b : Bool) (r : List ℕ) (n : List ℕ) (rest : List Use) (u : Use) (A : Type 0) → bytes_eq r n ≡ b → In (cond b [] rest) u → (In rest u → (n ≡ r → ⊥) → A) → A
early_def true r n rest u A e h f = absurd h
early_def false r n rest u A e h f = f h (λ s. let t : bytes_eq r n ≡ true = (bytes_decides r n).1 (sym s) in let z : true ≡ false = sym t ∙ e in absurd cc)

early_use : (b : Bool) (r : List ℕ) (v u : Use) (rest : List Use) (A : Type 0) → bytes_eq r v.reg.name ≡ b → In (cond b (v ∷ rest) rest) u → (v ≡ u → r ≡ v.reg.name → A) → (In rest u → A) → A
early_use true r v u rest A e (inl s) f g = f s ((bytes_decides r v.reg.name).0 e)
early_use true r v u rest A e (inr h) f g = g h
early_use false r v u rest A e h f g = g h

early_is : (r : List ℕ) (es : List Event) (u : Use) → In (early r es) u → IsEarly r es u
early_is r [] u h = absurd h
early_is r (defines d k ∷ es) u h = early_def (bytes_eq r d.name) r d.name (early r es) u (IsEarly r (defines d k ∷ es) u) refl h (λ more apart. cons_early r (defines d k) es u (apart, tt) (early_is r es u more))
early_is r (uses v ∷ es) u h = early_use (bytes_eq r v.reg.name) r v u (early r es) (IsEarly r (uses v ∷ es) u) refl h
    (λ same name. record { before = []; after = es; is_name = name ∙ ap (λ (z : Use). z.reg.name) same; stands = ap (λ (z : Use). uses z ∷ es) same; avoids = tt })
    (λ more. cons_early r (uses v) es u tt (early_is r es u more))

in_def : (b : Bool) (r n : List ℕ) (rest : List Use) (u : Use) → bytes_eq r n ≡ b → (n ≡ r → ⊥) → In rest u → In (cond b [] rest) u
in_def true r n rest u e apart h = absurd (apart (sym ((bytes_decides r n).0 e)))
in_def false r n rest u e apart h = h

in_use : (b : Bool) (v u : Use) (rest : List Use) → In rest u → In (cond b (v ∷ rest) rest) u
in_use true v u rest h = inr h
in_use false v u rest h = h

in_this : (b : Bool) (u : Use) (rest : List Use) → b ≡ true → In (cond b (u ∷ rest) rest) u
in_this true u rest e = inl refl
in_this false u rest e = absurd cc

in_early : (r : List ℕ) (before after : List Event) (u : Use) → r ≡ u.reg.name → Avoids r before → In (early r (before ++ uses u ∷ after)) u
in_early r [] after u name a = in_this (bytes_eq r u.reg.name) u (early r after) ((bytes_decides r u.reg.name).1 name)
in_early r (defines d k ∷ before) after u name a = in_def (bytes_eq r d.name) r d.name (early r (before ++ uses u ∷ after)) u refl a.0 (in_early r before after u name a.1)
in_early r (uses v ∷ before) after u name a = in_use (bytes_eq r v.reg.name) v u (early r (before ++ uses u ∷ after)) (in_early r before after u name a)

pub early_uses : (r : List ℕ) (es : List Event) (u : Use) → (In (early r es) u → IsEarly r es u) × (IsEarly r es u → In (early r es) u)
early_uses r es u = (early_is r es u, λ i. subst (λ (z : List Event). In (early r z) u) (sym i.stands) (in_early r i.before i.after u i.is_name i.avoids))

pub on_ok_map : {X E : Type 0} (r : Result X E) (P Q : Type 0) → (P → Q) → OnOk r P → OnOk r Q
on_ok_map (Ok x) P Q f p = f p
on_ok_map (Err e) P Q f p = tt

pub two_goals : (F : Goal → List ℕ) (o a b : List ℕ) (j : Jump) (c : Val) (y n : Goal) → j ≡ CondBr c y n → a ≡ o ++ F y → b ≡ a ++ F n → b ≡ o ++ flat_map F (jump_goals j)
two_goals F o a b j c y n e p q =
    let goals : flat_map F (jump_goals j) ≡ F y ++ (F n ++ []) = ap (λ (z : Jump). flat_map F (jump_goals z)) e ∙ flat_map-cons F y (n ∷ []) ∙ ap (λ (z : List ℕ). F y ++ z) (flat_map-cons F n []) in
    q ∙ ap (λ (z : List ℕ). z ++ F n) p ∙ append_assoc o (F y) (F n) ∙ ap (λ (z : List ℕ). o ++ z) (ap (λ (z : List ℕ). F y ++ z) (sym (append-nil (F n))) ∙ sym goals)

-- ---- blocks that a block goes to are blocks of the function
place_inside : (blocks : List Block) (q : List ℕ) (n : ℕ) → label_place blocks q ≡ Some n → n < length blocks
place_inside blocks q n e = (found_at (λ (z : Block). z.label.name) blocks q n e).1

at_read : {A : Type 0} (xs : List A) (k : ℕ) (d : A) → k < length xs → slice_get xs k ≡ Some (get_or xs k d)
at_read [] k d lt = absurd (omega (arith, lt))
at_read (x ∷ xs) zero d lt = refl
at_read (x ∷ xs) (suc k) d lt = at_read xs k d (omega (arith, lt))

pub length_map : {A B : Type 0} (g : A → B) (xs : List A) → length (map g xs) ≡ length xs
length_map g [] = refl
length_map g (x ∷ xs) = ap suc (length_map g xs)

pub all_inside : (blocks : List Block) → IsInside (map (successors blocks) blocks)
all_inside blocks k d lt j e there =
    let next = get_or (map (successors blocks) blocks) k d in
    let block = map_at (successors blocks) blocks k next (at_read (map (successors blocks) blocks) k d lt) in
    let g = goal_of blocks (jump_goals block.0.term.jump) (get_or next j e) (subst (λ (z : List ℕ). Contains z (get_or next j e)) (sym block.2) (Contains-get_or next j e there)) in
    let inside : get_or next j e < length blocks = place_inside blocks g.0.label.name (get_or next j e) g.2 in
    omega (arith, inside, length_map (successors blocks) blocks)
