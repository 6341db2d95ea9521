-- What a violation tells of its allocation: the node that it names is in the tree and has the state that is
-- named, a freed allocation is freed, and one that is out of its range is made.
use Rattle.std.proofs.Common.{◌≡◌, ◌⊎◌, ℕ, zero, suc, ◌<◌, ◌==◌, ◌&&◌, ◌||◌, not, Bool, true, false, if◌then◌else◌, Option, Some, None, MatchOption, List, [], ◌∷◌, length, map, All, get_or, slice_get, refl, sym, ap, subst, ◌∙◌, arith, inl, inr}
use Rattle.std.specs.Option.{option_and_then, option_or, option_map}
use Rattle.std.specs.List.{AllPairs}
use Rattle.std.specs.List.Sorted.{IsStrictlyIncreasing}
use Rattle.std.proofs.lemmas.Bool.Decides.{nat_tests}
use Rattle.std.proofs.lemmas.List.{get_or-map, length-map}
use Rattle.std.proofs.lemmas.List.Kept.{AllPairs-from_increasing}
use Rattle.bsan_ids.specs.declared.numbers.Tag.{Tag}
use Rattle.bsan_ids.specs.declared.numbers.Stamp.{Stamp}
use Rattle.bsan_ids.specs.declared.numbers.Prov.{Prov}
use Rattle.bsan_ids.specs.declared.numbers.Span.{Span}
use Rattle.perm_table.specs.declared.Perm.{Perm}
use Rattle.perm_table.specs.declared.Kind.{Kind}
use Rattle.perm_table.specs.declared.Outcome.{Outcome}
use Rattle.perm_table.specs.declared.Outcome.TheVariants.{Next, Denied as IsDenied}
use Rattle.perm_table.specs.Table.{outcome}
use Rattle.eager_tree.specs.declared.node.Cell.{Cell}
use Rattle.eager_tree.specs.declared.node.Node.{Node}
use Rattle.eager_tree.specs.declared.violation.Violation.{Violation}
use Rattle.eager_tree.specs.declared.violation.Violation.TheVariants.{Denied, StrongFree, Stranger, Freed, OutOfRange}
use Rattle.eager_tree.specs.Tree.{Tree, IsTree, Links, links, is_on_path, is_node}
use Rattle.eager_tree.specs.Visit.{first_in, first_below, denial_of, denial, denial_by, denial_at, first_denial, next_nodes, visit_unless, visit}
use Rattle.eager_tree.specs.Steps.{access, retag, end_protector, with_node, new_node, unguarded, freed_unless, strong_at, strong_free, is_strong, on_span, implicit_kinds, is_no_descendant, cell_at}
use Rattle.history.specs.declared.trap.Trap.{Trap}
use Rattle.history.specs.declared.entry.Request.{Request}
use Rattle.history.specs.declared.entry.Request.TheVariants.{Make, Load, Store, Modify, CmpXchg, CopyOut, CopyIn, Retag, EndProtector, Free, Print, Host, Spawn, Join}
use Rattle.history.specs.declared.entry.Verdict.TheVariants.{Clean, Closed, Violated}
use Rattle.history.specs.Memory.{trap_in, is_outside, span_of}
use Rattle.history.specs.Objects.{Object, Made, Judged, answer, data_unless, judged, judged_by, judged_through, node_through, retag_judged, end_judged, step_of, step_on, through, kind_of, violated, reborrow}
use Rattle.lazy_access.specs.declared.request.TreeRequest.{TreeRequest}
use Rattle.lazy_access.specs.declared.request.TreeRequest.TheVariants.{Access as AskAccess, Retag as AskRetag, EndProtector as AskEnd, FreeAll as AskFree}
use Rattle.perm_table.specs.declared.Kind.TheVariants.{Read, Write}
use Rattle.perm_table.specs.declared.Guard.{Guard}
use Rattle.perm_table.specs.declared.RetagKind.{RetagKind}
use Rattle.alloc_state.specs.Asking.{told}
use Rattle.explain.specs.Explanations.{perm_in}

-- one of the nodes
abbrev pub Has : {A : Type 0} → List A → A → Type 0
Has [] x = ⊥
Has (y ∷ ys) x = (y ≡ x) ⊎ Has ys x

-- one of the nodes has this tag, and this state at the byte
pub record IsIn (nodes : List Node) (x : Tag) (offset : ℕ) (perm : Perm) : Type 0 where
  pub node : Node
  pub among : Has nodes node
  pub tag : node.tag ≡ x
  pub cell : Cell
  pub is : slice_get node.cells offset ≡ Some cell
  pub perm_is : cell.perm ≡ perm

abbrev pub Named : List Node → Violation → Type 0
Named nodes (Denied offset x perm local) = IsIn nodes x offset perm
Named nodes (StrongFree offset x perm) = IsIn nodes x offset perm
Named nodes _ = ⊥

-- searches

none_found : {A B : Type 0} {w : B} → None ≡ Some w → A
none_found e = absurd (cc)

and_then_some : {A B : Type 0} (f : A → Option B) (o : Option A) (w : B) → option_and_then f o ≡ Some w → (a : A) × (o ≡ Some a) × (f a ≡ Some w)
and_then_some f None w e = none_found e
and_then_some f (Some a) w e = (a, refl, e)

if_some : {A : Type 0} (b : Bool) (o : Option A) (w : A) → (if b then o else None) ≡ Some w → o ≡ Some w
if_some true o w e = e
if_some false o w e = none_found e

first_has : {A B : Type 0} (f : A → Option B) (xs : List A) (w : B) → first_in f xs ≡ Some w → (x : A) × Has xs x × (f x ≡ Some w)
first_has f [] w e = none_found e
first_has {A} {B} f (x ∷ xs) w e = by_case (f x) refl e (λ h. first_has f xs w h)
  where
    by_case : (o : Option B) → f x ≡ o → option_or o (first_in f xs) ≡ Some w → (first_in f xs ≡ Some w → (y : A) × Has xs y × (f y ≡ Some w)) → (y : A) × Has (x ∷ xs) y × (f y ≡ Some w)
    by_case (Some v) is h rest = (x, inl refl, is ∙ h)
    by_case None is h rest = let r = rest h in (r.0, inr r.1, r.2)

first_below_has : {B : Type 0} (f : ℕ → Option B) (n : ℕ) (w : B) → first_below f n ≡ Some w → (k : ℕ) × (f k ≡ Some w)
first_below_has f zero w e = none_found e
first_below_has {B} f (suc n) w e = by_case (first_below f n) refl e (λ h. first_below_has f n w h)
  where
    by_case : (o : Option B) → first_below f n ≡ o → option_or o (f n) ≡ Some w → (first_below f n ≡ Some w → (k : ℕ) × (f k ≡ Some w)) → (k : ℕ) × (f k ≡ Some w)
    by_case (Some v) is h rest = rest (is ∙ h)
    by_case None is h rest = (n, h)

-- the denials of a visit

denied_is : (node : Node) (local : Bool) (offset : ℕ) (perm : Perm) (out : Outcome) (w : Violation) → denial_of node local offset perm out ≡ Some w → Denied offset node.tag perm local ≡ w
denied_is node local offset perm (Next next accessed) w e = none_found e
denied_is node local offset perm IsDenied w e = cc

denial_named : (kinds : ℕ → Option Kind) (reaches : Tag → Bool) (ls : Links) (x : Tag) (size : ℕ) (nodes : List Node) (w : Violation) → first_denial kinds reaches ls x size nodes ≡ Some w → Named nodes w
denial_named kinds reaches ls x size nodes w e =
    let b = first_below_has (denial_at kinds reaches ls x nodes) size w e in
    let k = and_then_some (λ (kind : Kind). first_in (denial_by reaches ls x kind b.0) nodes) (kinds b.0) w b.1 in
    let f = first_has (denial_by reaches ls x k.0 b.0) nodes w k.2 in
    let local : Bool = is_on_path ls x f.0.tag in
    let d = if_some (reaches f.0.tag) (denial f.0 local k.0 b.0) w f.2 in
    let c = and_then_some (λ (cell : Cell). denial_of f.0 local b.0 cell.perm (outcome cell.perm cell.accessed f.0.guard local k.0)) (slice_get f.0.cells b.0) w d in
    subst (λ (v : Violation). Named nodes v) (denied_is f.0 local b.0 c.0.perm (outcome c.0.perm c.0.accessed f.0.guard local k.0) w c.2)
    (record { node = f.0; among = f.1; tag = refl; cell = c.0; is = c.1; perm_is = refl })

strong_is : (node : Node) (offset : ℕ) (cell : Cell) (b : Bool) (w : Violation) → (if b then Some (StrongFree offset node.tag cell.perm) else None) ≡ Some w → StrongFree offset node.tag cell.perm ≡ w
strong_is node offset cell true w e = cc
strong_is node offset cell false w e = none_found e

strong_named : (t : Tree) (w : Violation) → strong_free t ≡ Some w → Named t.nodes w
strong_named t w e =
    let b = first_below_has (λ (offset : ℕ). first_in (strong_at offset) t.nodes) t.size w e in
    let f = first_has (strong_at b.0) t.nodes w b.1 in
    let c = and_then_some (λ (cell : Cell). if is_strong f.0.guard && cell.accessed then Some (StrongFree b.0 f.0.tag cell.perm) else None) (slice_get f.0.cells b.0) w f.2 in
    subst (λ (v : Violation). Named t.nodes v) (strong_is f.0 b.0 c.0 (is_strong f.0.guard && c.0.accessed) w c.2)
    (record { node = f.0; among = f.1; tag = refl; cell = c.0; is = c.1; perm_is = refl })

-- the steps of a tree

first-visit_unless : (found : Option Violation) (nodes : List Node) (t : Tree) → (visit_unless found nodes t).0 ≡ found
first-visit_unless None nodes t = refl
first-visit_unless (Some violation) nodes t = refl

first-with_node : (node : Node) (r : Option Violation × Tree) → (with_node node r).0 ≡ r.0
first-with_node node (None, t) = refl
first-with_node node (Some violation, t) = refl

first-unguarded : (x : Tag) (r : Option Violation × Tree) → (unguarded x r).0 ≡ r.0
first-unguarded x (None, t) = refl
first-unguarded x (Some violation, t) = refl

access_named : (t : Tree) (x : Tag) (span : Span) (kind : Kind) (w : Violation) → (access t x span kind).0 ≡ Some w → Named t.nodes w
access_named t x span kind w e =
    let found = first_denial (on_span span kind) (λ _. true) (links t.nodes) x t.size t.nodes in
    denial_named (on_span span kind) (λ _. true) (links t.nodes) x t.size t.nodes w
    (sym (first-visit_unless found (next_nodes (on_span span kind) (λ _. true) (links t.nodes) x t.nodes) t) ∙ e)

freed_named : (held : Option Violation) (t : Tree) (r : Option Violation × Tree) (w : Violation) → (held ≡ Some w → Named t.nodes w) → (r.0 ≡ Some w → Named t.nodes w) → (freed_unless held t r).0 ≡ Some w → Named t.nodes w
freed_named held t (Some violation, next) w h g e = g e
freed_named None t (None, next) w h g e = none_found e
freed_named (Some violation) t (None, next) w h g e = h e

told_named : (t : Tree) (request : TreeRequest) (new : Tag) (w : Violation) → (told t request new).0 ≡ Some w → Named t.nodes w
told_named t (AskAccess x span kind) new w e = access_named t x span kind w e
told_named t (AskRetag x span kind guard) new w e = access_named t x span Read w (sym (first-with_node (new_node t.size x span kind guard new) (access t x span Read)) ∙ e)
told_named t (AskEnd x) new w e =
    let kinds = implicit_kinds t.nodes x in
    let reaches = is_no_descendant (links t.nodes) x in
    denial_named kinds reaches (links t.nodes) x t.size t.nodes w
    (sym (first-visit_unless (first_denial kinds reaches (links t.nodes) x t.size t.nodes) (next_nodes kinds reaches (links t.nodes) x t.nodes) t)
    ∙ sym (first-unguarded x (visit kinds reaches x t)) ∙ e)
told_named t (AskFree x) new w e =
    let whole : Span = record { start = 0; len = t.size } in
    freed_named (strong_free t) t (access t x whole Write) w (strong_named t w) (access_named t x whole Write w) e

-- What a violation tells of what the allocation holds.
abbrev pub Tells : Option Made → Violation → Type 0
Tells made (Denied offset x perm local) = MatchOption made ⊥ (λ m. IsIn m.tree.nodes x offset perm)
Tells made (StrongFree offset x perm) = MatchOption made ⊥ (λ m. IsIn m.tree.nodes x offset perm)
Tells made Freed = MatchOption made ⊥ (λ m. m.memory.live ≡ false)
Tells made OutOfRange = MatchOption made ⊥ (λ m. Unit {0})
Tells made Stranger = Unit {0}

not_violated : {A : Type 0} {w : Violation} → Clean ≡ Violated w → A
not_violated e = absurd (cc)

not_closed : {A : Type 0} {w : Violation} → Closed ≡ Violated w → A
not_closed e = absurd (cc)

same_violation : {v w : Violation} → Violated v ≡ Violated w → v ≡ w
same_violation e = cc

named_tells : (m : Made) (w : Violation) → Named m.tree.nodes w → Tells (Some m) w
named_tells m (Denied offset x perm local) h = h
named_tells m (StrongFree offset x perm) h = h
named_tells m Stranger h = absurd h
named_tells m Freed h = absurd h
named_tells m OutOfRange h = absurd h

abbrev Told : Made → (Option Violation × Tree) → Type 0
Told m r = (w : Violation) → r.0 ≡ Some w → Named m.tree.nodes w

by_tells : (m : Made) (r : Option Violation × Tree) (w : Violation) → Told m r → (judged_by r).verdict ≡ Violated w → Tells (Some m) w
by_tells m (None, next) w h e = not_violated e
by_tells m (Some v, next) w h e = named_tells m w (h w (ap (λ (x : Violation). Some x) (same_violation e)))

through_tells : (m : Made) (x : Option Tag) (step : Tag → Option Violation × Tree) (w : Violation) → ((y : Tag) → Told m (step y)) → (judged_through m.tree x step).verdict ≡ Violated w → Tells (Some m) w
through_tells m None step w h e = subst (λ (v : Violation). Tells (Some m) v) (same_violation e) tt
through_tells m (Some x) step w h e = by_tells m (step x) w (h x) e

unless_closed : (closed : Bool) (t : Tree) (j : Judged) (w : Violation) → (if closed then record { verdict = Closed; tree = t; closed = true } else j).verdict ≡ Violated w → j.verdict ≡ Violated w
unless_closed true t j w e = not_closed e
unless_closed false t j w e = e

judged_tells : (number : ℕ) (m : Made) (prov : Option Prov) (step : Tag → Option Violation × Tree) (w : Violation) → ((y : Tag) → Told m (step y)) → (judged number m prov step).verdict ≡ Violated w → Tells (Some m) w
judged_tells number m prov step w h e =
    through_tells m (node_through number m.tree prov) step w h (unless_closed m.closed m.tree (judged_through m.tree (node_through number m.tree prov) step) w e)

step_told : (m : Made) (span : Option Span) (kind : Kind) (x : Tag) → Told m (step_on span m.tree kind x)
step_told m None kind x = told_named m.tree (AskFree x) x
step_told m (Some span) kind x = told_named m.tree (AskAccess x span kind) x

data_tells : (number : ℕ) (m : Made) (r : Request) (trap : Option Trap) (w : Violation) → (data_unless (record { number = number; made = Some m }) m r trap).reply.verdict ≡ Violated w → Tells (Some m) w
data_tells number m r (Some trap) w e = not_violated e
data_tells number m r None w e = judged_tells number m (through r) (step_of m.tree r) w (λ y. step_told m (span_of r) (kind_of r) y) e

freed_tells : (m : Made) (live outside : Bool) (j : Judged) (w : Violation) → m.memory.live ≡ live → (j.verdict ≡ Violated w → Tells (Some m) w)
    → (if not live then violated m.tree Freed else if outside then violated m.tree OutOfRange else j).verdict ≡ Violated w → Tells (Some m) w
freed_tells m true true j w is h e = subst (λ (v : Violation). Tells (Some m) v) (same_violation e) tt
freed_tells m true false j w is h e = h e
freed_tells m false outside j w is h e = subst (λ (v : Violation). Tells (Some m) v) (same_violation e) is

retag_tells : (number : ℕ) (m : Made) (at len : ℕ) (kind : RetagKind) (guard : Guard) (prov : Option Prov) (stamp : ℕ) (w : Violation) → (retag_judged number m (reborrow at len kind guard prov) stamp).verdict ≡ Violated w → Tells (Some m) w
retag_tells number m at len kind guard prov stamp w e =
    let span : Span = record { start = at; len = len } in
    let new : Tag = record { 0 = stamp } in
    let step : Tag → Option Violation × Tree = λ (x : Tag). retag m.tree x span kind guard new in
    let last : Judged = judged number m prov step in
    freed_tells m m.memory.live (is_outside (length m.memory.bytes) span) last w refl
    (judged_tells number m prov step w (λ y. told_named m.tree (AskRetag y span kind guard) new))
    (unless_closed m.closed m.tree (if not m.memory.live then violated m.tree Freed else if is_outside (length m.memory.bytes) span then violated m.tree OutOfRange else last) w e)

end_cases : (m : Made) (x : Tag) (idle : Bool) (w : Violation) → (if idle then record { verdict = Clean; tree = m.tree; closed = false } else judged_by (end_protector m.tree x)).verdict ≡ Violated w → Tells (Some m) w
end_cases m x true w e = not_violated e
end_cases m x false w e = by_tells m (end_protector m.tree x) w (told_named m.tree (AskEnd x) x) e

end_tells : (m : Made) (x : Tag) (w : Violation) → (end_judged m x).verdict ≡ Violated w → Tells (Some m) w
end_tells m x w e =
    let idle : Bool = not m.memory.live || not (is_node m.tree x) in
    end_cases m x idle w (unless_closed m.closed m.tree (if idle then record { verdict = Clean; tree = m.tree; closed = false } else judged_by (end_protector m.tree x)) w e)

tells_at : (number : ℕ) (made : Option Made) (r : Request) (stamp : Stamp) (w : Violation) → (answer (record { number = number; made = made }) r stamp).reply.verdict ≡ Violated w → Tells made w
tells_at number made (Make size place) stamp w e = not_violated e
tells_at number None (Retag at len kind guard prov) stamp w e = not_violated e
tells_at number None (EndProtector x) stamp w e = not_violated e
tells_at number None (Load at ty prov) stamp w e = not_violated e
tells_at number None (Store at ty value carried prov) stamp w e = not_violated e
tells_at number None (Modify at width op value prov) stamp w e = not_violated e
tells_at number None (CmpXchg at width expected value prov) stamp w e = not_violated e
tells_at number None (CopyOut at len prov) stamp w e = not_violated e
tells_at number None (CopyIn at piece prov) stamp w e = not_violated e
tells_at number None (Free at stack prov) stamp w e = not_violated e
tells_at number None (Print value) stamp w e = not_violated e
tells_at number None (Host n first second) stamp w e = not_violated e
tells_at number None (Spawn function) stamp w e = not_violated e
tells_at number None (Join child) stamp w e = not_violated e
tells_at number (Some m) (Retag at len kind guard prov) stamp w e = retag_tells number m at len kind guard prov stamp.0 w e
tells_at number (Some m) (EndProtector x) stamp w e = end_tells m x w e
tells_at number (Some m) (Load at ty prov) stamp w e = data_tells number m (Load at ty prov) (trap_in m.memory (Load at ty prov)) w e
tells_at number (Some m) (Store at ty value carried prov) stamp w e = data_tells number m (Store at ty value carried prov) (trap_in m.memory (Store at ty value carried prov)) w e
tells_at number (Some m) (Modify at width op value prov) stamp w e = data_tells number m (Modify at width op value prov) (trap_in m.memory (Modify at width op value prov)) w e
tells_at number (Some m) (CmpXchg at width expected value prov) stamp w e = data_tells number m (CmpXchg at width expected value prov) (trap_in m.memory (CmpXchg at width expected value prov)) w e
tells_at number (Some m) (CopyOut at len prov) stamp w e = data_tells number m (CopyOut at len prov) (trap_in m.memory (CopyOut at len prov)) w e
tells_at number (Some m) (CopyIn at piece prov) stamp w e = data_tells number m (CopyIn at piece prov) (trap_in m.memory (CopyIn at piece prov)) w e
tells_at number (Some m) (Free at stack prov) stamp w e = data_tells number m (Free at stack prov) (trap_in m.memory (Free at stack prov)) w e
tells_at number (Some m) (Print value) stamp w e = data_tells number m (Print value) (trap_in m.memory (Print value)) w e
tells_at number (Some m) (Host n first second) stamp w e = data_tells number m (Host n first second) (trap_in m.memory (Host n first second)) w e
tells_at number (Some m) (Spawn function) stamp w e = data_tells number m (Spawn function) (trap_in m.memory (Spawn function)) w e
tells_at number (Some m) (Join child) stamp w e = data_tells number m (Join child) (trap_in m.memory (Join child)) w e

pub tells : (o : Object) (r : Request) (stamp : Stamp) (w : Violation) → (answer o r stamp).reply.verdict ≡ Violated w → Tells o.made w
tells o r stamp w e = tells_at o.number o.made r stamp w e

-- the node of a tag is found by it

abbrev Rises : List Node → Type 0
Rises [] = Unit {0}
Rises (node ∷ nodes) = ((n : Node) → Has nodes n → node.tag.0 < n.tag.0) × Rises nodes

-- the place of a node
placed : (nodes : List Node) (n : Node) → Has nodes n → (k : ℕ) × (k < length nodes) × (get_or nodes k n ≡ n)
placed [] n h = absurd h
placed (node ∷ nodes) n (inl is) = (0, omega arith, is)
placed (node ∷ nodes) n (inr h) = let p = placed nodes n h in (suc p.0, omega (arith, p.1), p.2)

rises : (nodes : List Node) → AllPairs (λ x y. x < y) (map (λ (n : Node). n.tag.0) nodes) → Rises nodes
rises [] h = tt
rises (node ∷ nodes) h = (
  λ n among.
      let p = placed nodes n among in
      let long : suc p.0 < length (map (λ (x : Node). x.tag.0) (node ∷ nodes)) = omega (arith, length-map (node ∷ nodes) (λ (x : Node). x.tag.0), p.1) in
      let less : node.tag.0 < get_or (map (λ (x : Node). x.tag.0) nodes) p.0 0 = h 0 (suc p.0) 0 (omega arith) long in
      let at : get_or (map (λ (x : Node). x.tag.0) nodes) p.0 0 ≡ (get_or nodes p.0 n).tag.0 = get_or-map (λ (x : Node). x.tag.0) nodes p.0 n 0 p.1 in
      let is : (get_or nodes p.0 n).tag.0 ≡ n.tag.0 = ap (λ (x : Node). x.tag.0) p.2 in
      omega (arith, less, at, is),
  rises nodes (λ i j d less lt. h (suc i) (suc j) d (omega arith) (omega arith)),
)

apart : (a b : ℕ) → a < b → (a == b) ≡ false
apart a b lt = grind (arith, nat_tests)

itself : (a : ℕ) → (a == a) ≡ true
itself a = grind (arith, nat_tests)

cell_there : (nodes : List Node) (n : Node) (offset : ℕ) → Rises nodes → Has nodes n → cell_at nodes n.tag offset ≡ slice_get n.cells offset
cell_there [] n offset up h = absurd h
cell_there (node ∷ nodes) n offset up (inl is) =
    subst (λ (x : Node). cell_at (node ∷ nodes) x.tag offset ≡ slice_get x.cells offset) is
    (ap (λ (b : Bool). if b then slice_get node.cells offset else cell_at nodes node.tag offset) (itself node.tag.0))
cell_there (node ∷ nodes) n offset up (inr h) =
    ap (λ (b : Bool). if b then slice_get node.cells offset else cell_at nodes n.tag offset) (apart node.tag.0 n.tag.0 (up.0 n h))
    ∙ cell_there nodes n offset up.1 h

tags-links : (nodes : List Node) → map (λ (l : Tag × Option Tag). l.0.0) (links nodes) ≡ map (λ (n : Node). n.tag.0) nodes
tags-links [] = refl
tags-links (node ∷ nodes) = ap (λ ns. node.tag.0 ∷ ns) (tags-links nodes)

-- the state that is named is the node's
pub named_perm : (t : Tree) → IsTree t → (x : Tag) (offset : ℕ) (perm : Perm) → IsIn t.nodes x offset perm → perm_in t x offset ≡ Some perm
named_perm t h x offset perm there =
    let up : Rises t.nodes = rises t.nodes (AllPairs-from_increasing (map (λ (n : Node). n.tag.0) t.nodes) (subst (λ (ns : List ℕ). IsStrictlyIncreasing ns) (tags-links t.nodes) h.linked.rising)) in
    let found : cell_at t.nodes x offset ≡ Some there.cell = ap (λ (y : Tag). cell_at t.nodes y offset) (sym there.tag) ∙ cell_there t.nodes there.node offset up there.among ∙ there.is in
    ap (λ (o : Option Cell). option_map (λ (c : Cell). c.perm) o) found ∙ ap (λ (p : Perm). Some p) there.perm_is

-- and the node is one of the tree's
pub named_node : (nodes : List Node) (x : Tag) (offset : ℕ) (perm : Perm) (P : ℕ → Type 0) → All (λ n. P n.tag.0) nodes → IsIn nodes x offset perm → P x.0
named_node nodes x offset perm P all there =
    let p = placed nodes there.node there.among in
    subst (λ (y : Tag). P y.0) there.tag (subst (λ (n : Node). P n.tag.0) p.2 (all p.0 there.node p.1))
