-- A free, in the eager tree's words.
use Rattle.std.proofs.Common.{◌≡◌, ℕ, ◌≤◌, ◌&&◌, List, [], length, Option, Some, None, refl, sym, ap, subst, ◌∙◌, arith, inl, inr}
use Rattle.std.proofs.lemmas.Bool.{cases_eq}
use Rattle.bsan_ids.specs.declared.numbers.Tag.{Tag}
use Rattle.bsan_ids.specs.declared.numbers.Span.{Span}
use Rattle.perm_table.specs.declared.Kind.TheVariants.{Write}
use Rattle.eager_tree.specs.declared.violation.Violation.{Violation}
use Rattle.eager_tree.specs.Tree.{Tree, new_tree}
use Rattle.eager_tree.specs.Visit.{first_in, first_below}
use Rattle.eager_tree.specs.Steps.{access, strong_at, is_strong, strong_free, freed_unless, free_all}
use Rattle.lazy_tree.specs.declared.tree.Node.{Node}
use Rattle.lazy_tree.specs.Skip.{node_at, slot_at, IsSound}
use Rattle.lazy_tree.specs.Eager.{eager_nodes, eager_with}
use Rattle.lazy_access.specs.declared.frees.Held.{Held}
use Rattle.lazy_access.specs.Held.{NoneHeld, IsFirstHeld, strong_free_of}
use Rattle.lazy_access.proofs.Holding.{strong-none, strong-some}
use Rattle.lazy_access.proofs.Ties.{eager_with-some}
use Rattle.lazy_access.proofs.Accessing.{alone, root_runs, root-sound, root-tree, access-root}

abbrev pub whole : ℕ → Span
whole size = record { start = 0; len = size }

strong-stored : (root : Tag) (size : ℕ) (nodes : List Node) → 1 ≤ length nodes → strong_free (eager_with root size nodes) ≡ first_below (λ b. first_in (strong_at b) (eager_nodes nodes)) size
strong-stored root size nodes some = ap strong_free (eager_with-some root size nodes some)

size-stored : (root : Tag) (size : ℕ) (nodes : List Node) → 1 ≤ length nodes → (eager_with root size nodes).size ≡ size
size-stored root size nodes some = ap (λ (t : Tree). t.size) (eager_with-some root size nodes some)

pair : Option Violation → Tree → Option Violation × Tree
pair o t = (o, t)

freed-none : (o : Option Violation) (before t : Tree) → (let p : Option Violation × Tree = (o, t) in p) ≡ freed_unless None before (let p : Option Violation × Tree = (o, t) in p)
freed-none None before t = refl
freed-none (Some v) before t = refl

-- no node holds a byte: the free is the write
pub free-clean : (root : Tag) (size : ℕ) (nodes after : List Node) (tag : Tag) (o : Option Violation) → IsSound size nodes → 1 ≤ length nodes → NoneHeld size nodes (length nodes) → (let p : Option Violation × Tree = (o, eager_with root size after) in p) ≡ access (eager_with root size nodes) tag (whole size) Write → (let p : Option Violation × Tree = (o, eager_with root size after) in p) ≡ free_all (eager_with root size nodes) tag
free-clean root size nodes after tag o h some none done =
    freed-none o (eager_with root size nodes) (eager_with root size after)
    ∙ ap (freed_unless None (eager_with root size nodes)) (done ∙ ap (λ n. access (eager_with root size nodes) tag (whole n) Write) (sym (size-stored root size nodes some)))
    ∙ ap (λ s. freed_unless s (eager_with root size nodes) (access (eager_with root size nodes) tag (whole (eager_with root size nodes).size) Write)) (sym (strong-stored root size nodes some ∙ strong-none size nodes h none))

freed-denied : (s : Option Violation) (before t : Tree) (v : Violation) → (let p : Option Violation × Tree = (Some v, t) in p) ≡ freed_unless s before (let p : Option Violation × Tree = (Some v, t) in p)
freed-denied None before t v = refl
freed-denied (Some w) before t v = refl

-- the write is denied
pub free-denied : (root : Tag) (size : ℕ) (nodes : List Node) (tag : Tag) (v : Violation) → 1 ≤ length nodes → (let p : Option Violation × Tree = (Some v, eager_with root size nodes) in p) ≡ access (eager_with root size nodes) tag (whole size) Write → (let p : Option Violation × Tree = (Some v, eager_with root size nodes) in p) ≡ free_all (eager_with root size nodes) tag
free-denied root size nodes tag v some done =
    freed-denied (strong_free (eager_with root size nodes)) (eager_with root size nodes) (eager_with root size nodes) v
    ∙ ap (freed_unless (strong_free (eager_with root size nodes)) (eager_with root size nodes)) (done ∙ ap (λ n. access (eager_with root size nodes) tag (whole n) Write) (sym (size-stored root size nodes some)))

-- a byte is held
pub free-held : (root : Tag) (size : ℕ) (nodes : List Node) (tag : Tag) (held : Held) (t : Tree) → IsSound size nodes → 1 ≤ length nodes → IsFirstHeld size nodes (length nodes) held → (let p : Option Violation × Tree = (None, t) in p) ≡ access (eager_with root size nodes) tag (whole size) Write → (let p : Option Violation × Tree = (Some (strong_free_of nodes held), eager_with root size nodes) in p) ≡ free_all (eager_with root size nodes) tag
free-held root size nodes tag held t h some first done =
    ap (freed_unless (Some (strong_free_of nodes held)) (eager_with root size nodes)) (done ∙ ap (λ n. access (eager_with root size nodes) tag (whole n) Write) (sym (size-stored root size nodes some)))
    ∙ ap (λ s. freed_unless s (eager_with root size nodes) (access (eager_with root size nodes) tag (whole (eager_with root size nodes).size) Write)) (sym (strong-stored root size nodes some ∙ strong-some size nodes held h first))

-- the root alone
pub free-root : (root : Tag) (size : ℕ) (tag : Tag) → strong_free (new_tree size root) ≡ None → (let p : Option Violation × Tree = (None, new_tree size root) in p) ≡ access (new_tree size root) tag (whole size) Write → (let p : Option Violation × Tree = (None, new_tree size root) in p) ≡ free_all (new_tree size root) tag
free-root root size tag none done =
    ap (freed_unless None (new_tree size root)) done ∙ ap (λ s. freed_unless s (new_tree size root) (access (new_tree size root) tag (whole size) Write)) (sym none)

alone-held : (root : Tag) (size : ℕ) → NoneHeld size (alone root size) (length (alone root size))
alone-held root size i b lt in_size =
    elim (cases_eq i 0) [ inl here ↦ ap (λ k. is_strong (node_at (alone root size) k).guard && (slot_at (alone root size) k b).accessed) here | inr other ↦ absurd (omega (arith, other, lt)) ]

-- a free of an allocation whose root alone is known
pub free-none : (root : Tag) (size : ℕ) (nodes : List Node) (tag : Tag) → nodes ≡ [] → tag ≡ root → (let p : Option Violation × Tree = (None, eager_with root size nodes) in p) ≡ free_all (eager_with root size nodes) tag
free-none root size nodes tag none e =
    subst (λ (ns : List Node). (let p : Option Violation × Tree = (None, eager_with root size ns) in p) ≡ free_all (eager_with root size ns) tag) (sym none)
    (free-root root size tag
    (ap strong_free (sym (root-tree root size (root_runs size) refl)) ∙ strong-stored root size (alone root size) (omega arith) ∙ strong-none size (alone root size) (root-sound root size) (alone-held root size))
    (access-root root tag size (whole size) Write e))
