-- The entries to which a violation leads are among those before it.
use Rattle.std.proofs.Common.{◌≡◌, ◌⊎◌, ℕ, zero, suc, ◌+◌, ◌<◌, ◌≤◌, ◌==◌, ◌&&◌, ◌||◌, not, Bool, true, false, cond, Option, Some, None, is_some, MatchOption, List, [], ◌∷◌, length, take, All, get_or, length-take-le, refl, sym, ap, subst, ◌∙◌, arith, inl, inr}
use Rattle.std.specs.Option.{option_map}
use Rattle.std.specs.Prelude.{Contains, find}
use Rattle.std.proofs.lemmas.Bool.Decides.{nat_tests}
use Rattle.std.proofs.lemmas.List.{get_or-take}
use Rattle.std.proofs.lemmas.List.Elements.{All-map, All-append, All-cons, All-nil}
use Rattle.bsan_ids.specs.declared.numbers.Tag.{Tag}
use Rattle.bsan_ids.specs.declared.numbers.Span.{Span}
use Rattle.perm_table.specs.declared.Kind.{Kind}
use Rattle.perm_table.specs.declared.Kind.TheVariants.{Read, Write}
use Rattle.eager_tree.specs.declared.node.Node.{Node}
use Rattle.eager_tree.specs.declared.violation.Violation.{Violation}
use Rattle.eager_tree.specs.Tree.{Tree, Links, links}
use Rattle.eager_tree.specs.Visit.{visit_unless, first_denial, next_nodes, next_by}
use Rattle.eager_tree.specs.Steps.{access, with_node, new_node, unguarded, freed_guard, freed_unless, strong_free, implicit_kinds, is_no_descendant, on_span}
use Rattle.eager_tree.proofs.Nodes.{links-next_by}
use Rattle.history.specs.declared.entry.Entry.{Entry}
use Rattle.history.specs.declared.entry.Plain.{Plain}
use Rattle.history.specs.declared.entry.Plain.TheVariants.{Done}
use Rattle.history.specs.declared.entry.Request.{Request}
use Rattle.history.specs.declared.entry.Request.TheVariants.{Make}
use Rattle.history.specs.Histories.{is_make_step, is_make}
use Rattle.history.specs.Merge.{stamp_of}
use Rattle.history.specs.Objects.{Made}
use Rattle.lazy_access.specs.declared.request.TreeRequest.{TreeRequest}
use Rattle.lazy_access.specs.declared.request.TreeRequest.TheVariants.{Access as AskAccess, Retag as AskRetag, EndProtector as AskEnd, FreeAll as AskFree}
use Rattle.alloc_state.specs.Asking.{told}
use Rattle.alloc_state.specs.Log.{has_make}
use Rattle.alloc_state.proofs.Makes.{made_where_make}
use Rattle.explain.specs.Explanations.{IsFreer, IsMaker, IsMaking, IsTold, is_free}
use Rattle.explain.specs.Replays.{Grown, advanced_by, asked, frees, grown_in, grown_of, is_done, tag_of, tree_told}
use Rattle.explain.proofs.Stepping.{IsQuiet, grown_more, object_at}

-- what is found by a test

pub find_has : (p : Entry → Bool) (es : List Entry) (e : Entry) → find p es ≡ Some e → Contains es e × (p e ≡ true)
find_has p [] e h = absurd (let none : None ≡ Some e = h in cc)
find_has p (x ∷ es) e h = by_case (p x) refl h (λ found. find_has p es e found)
  where
    by_case : (b : Bool) → p x ≡ b → cond b (Some x) (find p es) ≡ Some e → (find p es ≡ Some e → Contains es e × (p e ≡ true)) → Contains (x ∷ es) e × (p e ≡ true)
    by_case true is found rest =
        let same : x ≡ e = cc in
        ((0, omega arith, same), subst (λ (y : Entry). p y ≡ true) same is)
    by_case false is found rest =
        let r = rest found in
        ((suc r.0.0, omega (arith, r.0.1), r.0.2), r.1)

pub find_some : (p : Entry → Bool) (es : List Entry) (i : ℕ) (d : Entry) → i < length es → p (get_or es i d) ≡ true → find p es ≡ None → ⊥
find_some p [] i d lt h none = omega arith
find_some p (x ∷ es) i d lt h none = by_case (p x) refl i lt h none (λ k inside is past. find_some p es k d inside is past)
  where
    by_case : (b : Bool) → p x ≡ b → (k : ℕ) → k < length (x ∷ es) → p (get_or (x ∷ es) k d) ≡ true → cond b (Some x) (find p es) ≡ None
        → ((j : ℕ) → j < length es → p (get_or es j d) ≡ true → find p es ≡ None → ⊥) → ⊥
    by_case true is k inside there past rest = cc
    by_case false is zero inside there past rest = let never : false ≡ true = sym is ∙ there in cc
    by_case false is (suc k) inside there past rest = rest k (omega arith) there past

-- an entry is told where the search can't fail
pub told_where : (P : Entry → Type 0) (o : Option Entry) → (o ≡ None → ⊥) → ((e : Entry) → o ≡ Some e → P e) → IsTold o P
told_where P None some all = some refl
told_where P (Some e) some all = all e refl

-- the tags of a tree

abbrev Tagged : (ℕ → Type 0) → List Node → Type 0
Tagged P nodes = All (λ n. P n.tag.0) nodes

tagged-next : (P : ℕ → Type 0) (kinds : ℕ → Option Kind) (reaches : Tag → Bool) (ls : Links) (x : Tag) (nodes : List Node) → Tagged P nodes → Tagged P (next_nodes kinds reaches ls x nodes)
tagged-next P kinds reaches ls x nodes h =
    All-map (λ (n : Node). P n.tag.0) (next_by kinds reaches ls x) nodes (λ k d lt. subst (λ (y : Tag). P y.0) (sym (links-next_by kinds reaches ls x (get_or nodes k d)).0) (h k d lt))

tagged-unless : (P : ℕ → Type 0) (found : Option Violation) (nodes : List Node) (t : Tree) → Tagged P nodes → Tagged P t.nodes → Tagged P (visit_unless found nodes t).1.nodes
tagged-unless P None nodes t h g = h
tagged-unless P (Some violation) nodes t h g = g

tagged-access : (P : ℕ → Type 0) (t : Tree) (x : Tag) (span : Span) (kind : Kind) → Tagged P t.nodes → Tagged P (access t x span kind).1.nodes
tagged-access P t x span kind h =
    tagged-unless P (first_denial (on_span span kind) (λ _. true) (links t.nodes) x t.size t.nodes) (next_nodes (on_span span kind) (λ _. true) (links t.nodes) x t.nodes) t
    (tagged-next P (on_span span kind) (λ _. true) (links t.nodes) x t.nodes h) h

tagged-with : (P : ℕ → Type 0) (node : Node) (r : Option Violation × Tree) → P node.tag.0 → Tagged P r.1.nodes → Tagged P (with_node node r).1.nodes
tagged-with P node (None, t) new h = All-append (λ (n : Node). P n.tag.0) t.nodes (node ∷ []) h (All-cons (λ (n : Node). P n.tag.0) node [] new (All-nil (λ (n : Node). P n.tag.0)))
tagged-with P node (Some violation, t) new h = h

freed_tag : (x : Tag) (node : Node) (b : Bool) → (node.tag.0 == x.0) ≡ b → (freed_guard x node).tag ≡ node.tag
freed_tag x node true e = simp e refl
freed_tag x node false e = simp e refl

tagged-unguarded : (P : ℕ → Type 0) (x : Tag) (r : Option Violation × Tree) → Tagged P r.1.nodes → Tagged P (unguarded x r).1.nodes
tagged-unguarded P x (None, t) h =
    All-map (λ (n : Node). P n.tag.0) (freed_guard x) t.nodes (λ k d lt. subst (λ (y : Tag). P y.0) (sym (freed_tag x (get_or t.nodes k d) ((get_or t.nodes k d).tag.0 == x.0) refl)) (h k d lt))
tagged-unguarded P x (Some violation, t) h = h

tagged-freed : (P : ℕ → Type 0) (held : Option Violation) (t : Tree) (r : Option Violation × Tree) → Tagged P t.nodes → Tagged P r.1.nodes → Tagged P (freed_unless held t r).1.nodes
tagged-freed P held t (Some violation, next) h g = g
tagged-freed P None t (None, next) h g = g
tagged-freed P (Some violation) t (None, next) h g = h

tagged-told : (P : ℕ → Type 0) (t : Tree) (request : TreeRequest) (new : Tag) → P new.0 → Tagged P t.nodes → Tagged P (told t request new).1.nodes
tagged-told P t (AskAccess x span kind) new is h = tagged-access P t x span kind h
tagged-told P t (AskRetag x span kind guard) new is h = tagged-with P (new_node t.size x span kind guard new) (access t x span Read) is (tagged-access P t x span Read h)
tagged-told P t (AskEnd x) new is h =
    let kinds = implicit_kinds t.nodes x in
    let reaches = is_no_descendant (links t.nodes) x in
    let nodes = next_nodes kinds reaches (links t.nodes) x t.nodes in
    tagged-unguarded P x (visit_unless (first_denial kinds reaches (links t.nodes) x t.size t.nodes) nodes t)
    (tagged-unless P (first_denial kinds reaches (links t.nodes) x t.size t.nodes) nodes t (tagged-next P kinds reaches (links t.nodes) x t.nodes h) h)
tagged-told P t (AskFree x) new is h =
    let whole : Span = record { start = 0; len = t.size } in
    tagged-freed P (strong_free t) t (access t x whole Write) h (tagged-access P t x whole Write h)

tagged-tree_told : (P : ℕ → Type 0) (t : Tree) (request : Option TreeRequest) (new : Tag) → P new.0 → Tagged P t.nodes → Tagged P (tree_told t new request).nodes
tagged-tree_told P t None new is h = h
tagged-tree_told P t (Some request) new is h = tagged-told P t request new is h

abbrev pub TagsIn : (ℕ → Type 0) → Grown → Type 0
TagsIn P g = MatchOption g.tree (Unit {0}) (λ t. Tagged P t.nodes)

tags_told : (P : ℕ → Type 0) (e : Entry) (live : Bool) (o : Option Tree) → P (stamp_of e) → MatchOption o (Unit {0}) (λ t. Tagged P t.nodes)
    → MatchOption (option_map (λ (t : Tree). tree_told t (tag_of e) (asked live t e)) o) (Unit {0}) (λ t. Tagged P t.nodes)
tags_told P e live None is h = h
tags_told P e live (Some t) is h = tagged-tree_told P t (asked live t e) (tag_of e) is h

tags_by : (P : ℕ → Type 0) (g : Grown) (e : Entry) (r : Request) → P (stamp_of e) → TagsIn P g → TagsIn P (advanced_by g e r)
tags_by P g e (Make size place) is h = All-cons (λ (n : Node). P n.tag.0) _ [] is (All-nil (λ (n : Node). P n.tag.0))
tags_by P g e _ is h = tags_told P e g.live g.tree is h

-- one of the first i entries has this stamp
abbrev pub IsStamp : List Entry → ℕ → ℕ → Type 0
IsStamp es i s = (k : ℕ) × (k < i) × ((d : Entry) → stamp_of (get_or es k d) ≡ s)

pub any_default : (es : List Entry) (k : ℕ) (c d : Entry) → k < length es → get_or es k c ≡ get_or es k d
any_default [] k c d lt = absurd (omega arith)
any_default (e ∷ es) zero c d lt = refl
any_default (e ∷ es) (suc k) c d lt = any_default es k c d (omega arith)

-- each node was made by one of the entries
pub tags_at : (number : ℕ) (es : List Entry) (len : ℕ) → IsQuiet number es len → (d : Entry) (i : ℕ) → i ≤ len → TagsIn (IsStamp es i) (grown_of (object_at number es i))
tags_at number es len q d zero le = tt
tags_at number es len q d (suc i) le =
    let e : Entry = get_or es i d in
    let P : ℕ → Type 0 = IsStamp es (i + 1) in
    let before : TagsIn (IsStamp es i) (grown_of (object_at number es i)) = tags_at number es len q d i (omega arith) in
    let more : TagsIn P (grown_of (object_at number es i)) = widened (IsStamp es i) P (λ s h. (h.0, omega (arith, h.1), h.2)) (grown_of (object_at number es i)).tree before in
    let own : P (stamp_of e) = (i, omega arith, λ c. ap stamp_of (any_default es i c d (omega (arith, q.inside)))) in
    let next : TagsIn P (grown_of (object_at number es (i + 1))) = subst (TagsIn P) (grown_more number es len q i d (omega arith)) (tags_by P (grown_of (object_at number es i)) e e.request own more) in
    let same : i + 1 ≡ suc i = omega arith in
    subst (λ (k : ℕ). TagsIn (IsStamp es k) (grown_of (object_at number es k))) same next
  where
    widened : (P Q : ℕ → Type 0) → ((s : ℕ) → P s → Q s) → (o : Option Tree) → MatchOption o (Unit {0}) (λ t. Tagged P t.nodes) → MatchOption o (Unit {0}) (λ t. Tagged Q t.nodes)
    widened P Q f None h = tt
    widened P Q f (Some t) h = λ k n lt. f (get_or t.nodes k n).tag.0 (h k n lt)

-- An allocation that is freed was freed by one of the entries.

abbrev Tracks : Type 0 → Grown → Type 0
Tracks P g = (g.tree ≡ None) ⊎ ((g.live ≡ true) ⊎ P)

tracks_on : (P : Type 0) (live : Bool) (free : Bool) → live ≡ true → (free ≡ true → P) → ((live && not free) ≡ true) ⊎ P
tracks_on P true true on f = inr (f refl)
tracks_on P true false on f = inl refl
tracks_on P false free on f = absurd (let never : false ≡ true = on in cc)

tracks_other : (P Q : Type 0) (e : Entry) (g : Grown) → (P → Q) → (frees e ≡ true → Q) → Tracks P g → Tracks Q (record { tree = option_map (λ (t : Tree). tree_told t (tag_of e) (asked g.live t e)) g.tree; live = g.live && not (frees e) })
tracks_other P Q e g f own (inl none) = inl (ap (λ (o : Option Tree). option_map (λ (t : Tree). tree_told t (tag_of e) (asked g.live t e)) o) none)
tracks_other P Q e g f own (inr (inl on)) = inr (tracks_on Q g.live (frees e) on own)
tracks_other P Q e g f own (inr (inr p)) = inr (inr (f p))

tracks_by : (P Q : Type 0) (e : Entry) (g : Grown) (r : Request) → (P → Q) → (frees e ≡ true → Q) → Tracks P g → Tracks Q (advanced_by g e r)
tracks_by P Q e g (Make size place) f own h = inr (inl refl)
tracks_by P Q e g _ f own h = tracks_other P Q e g f own h

abbrev pub HasFreed : List Entry → ℕ → Type 0
HasFreed es i = (k : ℕ) × (k < i) × ((d : Entry) → frees (get_or es k d) ≡ true)

tracks_at : (number : ℕ) (es : List Entry) (len : ℕ) → IsQuiet number es len → (d : Entry) (i : ℕ) → i ≤ len → Tracks (HasFreed es i) (grown_of (object_at number es i))
tracks_at number es len q d zero le = inl refl
tracks_at number es len q d (suc i) le =
    let e : Entry = get_or es i d in
    let before : Tracks (HasFreed es i) (grown_of (object_at number es i)) = tracks_at number es len q d i (omega arith) in
    let next : Tracks (HasFreed es (i + 1)) (grown_of (object_at number es (i + 1))) =
    subst (Tracks (HasFreed es (i + 1))) (grown_more number es len q i d (omega arith))
    (tracks_by (HasFreed es i) (HasFreed es (i + 1)) e (grown_of (object_at number es i)) e.request
    (λ h. (h.0, omega (arith, h.1), h.2))
    (λ is. (i, omega arith, λ c. ap frees (any_default es i c d (omega (arith, q.inside))) ∙ is)) before) in
    let same : i + 1 ≡ suc i = omega arith in
    subst (λ (k : ℕ). Tracks (HasFreed es k) (grown_of (object_at number es k))) same next

freed_in : (P : Type 0) (m : Made) → m.memory.live ≡ false → Tracks P (grown_in (Some m)) → P
freed_in P m off (inl none) = absurd (cc)
freed_in P m off (inr (inl on)) = absurd (let never : true ≡ false = sym on ∙ off in cc)
freed_in P m off (inr (inr h)) = h

-- The searches of the code.

make_found : (es : List Entry) → has_make es ≡ true → find is_make_step es ≡ None → ⊥
make_found [] h none = let never : false ≡ true = h in cc
make_found (x ∷ es) h none = by_case (is_make x.request) h none (make_found es)
  where
    by_case : (b : Bool) → (b || has_make es) ≡ true → cond b (Some x) (find is_make_step es) ≡ None → (has_make es ≡ true → find is_make_step es ≡ None → ⊥) → ⊥
    by_case true made past rest = cc
    by_case false made past rest = rest made past

module _ (number : ℕ) (es : List Entry) (len : ℕ) (q : IsQuiet number es len) (d : Entry) where
  found_where : (p : Entry → Bool) (k : ℕ) → k < len → ((c : Entry) → p (get_or es k c) ≡ true) → find p (take len es) ≡ None → ⊥
  found_where p k lt is none =
      find_some p (take len es) k d (let inside = q.inside in omega (arith, length-take-le len es)) (ap p (get_or-take len es k d lt) ∙ is d) none

  pub maker_told : (x : Tag) → IsStamp es len x.0 → IsTold (find (λ e. e.stamp.0 == x.0) (take len es)) (IsMaker (take len es) x)
  maker_told x h =
      told_where (IsMaker (take len es) x) (find (λ (e : Entry). e.stamp.0 == x.0) (take len es))
      (found_where (λ (e : Entry). e.stamp.0 == x.0) h.0 h.1 (λ c. tested (stamp_of (get_or es h.0 c)) x.0 (h.2 c)))
      (λ e is. let f = find_has (λ (y : Entry). y.stamp.0 == x.0) (take len es) e is in record { among = f.0; stamp = untested (stamp_of e) x.0 f.1 })
    where
      tested : (a b : ℕ) → a ≡ b → (a == b) ≡ true
      tested a b h = grind (arith, nat_tests)

      untested : (a b : ℕ) → (a == b) ≡ true → a ≡ b
      untested a b h = grind (arith, nat_tests)

  pub freer_told : HasFreed es len → IsTold (find frees (take len es)) (IsFreer (take len es))
  freer_told h =
      told_where (IsFreer (take len es)) (find frees (take len es))
      (found_where frees h.0 h.1 h.2)
      (λ e is.
      let f = find_has frees (take len es) e is in
      let both = and_parts (is_free e.request) (is_done e.reply.plain) f.1 in
      record { among = f.0; asked = both.0; done = done_is e.reply.plain both.1 })
    where
      and_parts : (a b : Bool) → (a && b) ≡ true → (a ≡ true) × (b ≡ true)
      and_parts true b h = (refl, h)
      and_parts false b h = absurd (let never : false ≡ true = h in cc)

      done_is : (p : Plain) → is_done p ≡ true → p ≡ Done
      done_is Done h = refl
      done_is p h = absurd (cc)

  pub freed_told : (m : Made) → (object_at number es len).made ≡ Some m → m.memory.live ≡ false → HasFreed es len
  freed_told m is off = freed_in (HasFreed es len) m off (subst (λ (o : Option Made). Tracks (HasFreed es len) (grown_in o)) is (tracks_at number es len q d len (omega arith)))

  pub making_told : (m : Made) → (object_at number es len).made ≡ Some m → IsTold (find is_make_step (take len es)) (IsMaking (take len es))
  making_told m is =
      told_where (IsMaking (take len es)) (find is_make_step (take len es))
      (λ none. make_found (take len es) (sym (made_where_make number (take len es)) ∙ ap (λ (o : Option Made). is_some o) is) none)
      (λ e at. let f = find_has is_make_step (take len es) e at in record { among = f.0; asked = f.1 })
