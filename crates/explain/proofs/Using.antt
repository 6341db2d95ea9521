-- What the replay in code makes of an entry.
use Rattle.std.proofs.Common.{◌≡◌, ◌&&◌, not, Bool, true, false, if◌then◌else◌, Option, Some, None, MatchOption, ℕ, [], ◌∷◌, List, refl, sym, ap, subst, ◌∙◌}
use Rattle.std.specs.Option.{option_map, option_eq}
use Rattle.ir_ast.specs.declared.types.Place.{Place}
use Rattle.bsan_ids.specs.declared.numbers.Tag.{Tag}
use Rattle.perm_table.specs.declared.Perm.{Perm}
use Rattle.perm_table.specs.contracts.PermPartialEq.TheImpl as perm_eq
use Rattle.perm_table.specs.declared.Perm.TheVariants.{Reserved, Conflicted, CellReserved, Unique, Frozen, Disabled, Cell}
use Rattle.eager_tree.specs.Tree.{Tree}
use Rattle.history.specs.declared.entry.Entry.{Entry}
use Rattle.history.specs.declared.entry.Request.{Request}
use Rattle.history.specs.declared.entry.Request.TheVariants.{Make}
use Rattle.lazy_tree.specs.Eager.{eager_of, eager_with}
use Rattle.lazy_tree.specs.Shape.{Shape}
use Rattle.lazy_tree.specs.declared.tree.Node.{Node as Stored}
use Rattle.lazy_access.specs.declared.request.TreeRequest.{TreeRequest}
use Rattle.explain.specs.Replays.{Grown, IsAskable, advanced, advanced_by, asked, asked_by, frees, tag_of, traps, tree_told}

size_with : (root : Tag) (size : ℕ) (nodes : List Stored) → (eager_with root size nodes).size ≡ size
size_with root size [] = refl
size_with root size (node ∷ nodes) = refl

pub size_eager : (t : Shape) → (eager_of t).size ≡ t.size
size_eager t = size_with t.root t.size t.nodes

-- what is asked where the step didn't trap
pub asked_where : (live : Bool) (t : Tree) (e : Entry) → traps e ≡ false → asked live t e ≡ asked_by live t e.request
asked_where live t e h = ap (λ (b : Bool). if b then None else asked_by live t e.request) h

pub askable_where : (live : Bool) (t : Tree) (e : Entry) (request : TreeRequest) → MatchOption (asked live t e) (Unit {0}) (IsAskable t) → traps e ≡ false → asked_by live t e.request ≡ Some request → IsAskable t request
askable_where live t e request may h is = subst (λ (o : Option TreeRequest). MatchOption o (Unit {0}) (IsAskable t)) (asked_where live t e h ∙ is) may

-- a step that makes no allocation
advanced_other : (g : Grown) (e : Entry) (r : Request) → ((size : ℕ) (place : Place) → r ≡ Make size place → ⊥)
    → advanced_by g e r ≡ record { tree = option_map (λ (t : Tree). tree_told t (tag_of e) (asked g.live t e)) g.tree; live = g.live && not (frees e) }
advanced_other g e (Make size place) h = absurd (h size place refl)
advanced_other g e _ h = refl

pub advanced_without : (g : Grown) (e : Entry) (tree : Option Tree) (live : Bool) → ((size : ℕ) (place : Place) → e.request ≡ Make size place → ⊥)
    → tree ≡ option_map (λ (t : Tree). tree_told t (tag_of e) (asked g.live t e)) g.tree → live ≡ (g.live && not (frees e)) → record { tree = tree; live = live } ≡ advanced g e
advanced_without g e tree live h is alive =
    ap (λ (o : Option Tree). record { tree = o; live = live }) is
    ∙ ap (λ (b : Bool). record { tree = option_map (λ (t : Tree). tree_told t (tag_of e) (asked g.live t e)) g.tree; live = b }) alive
    ∙ sym (advanced_other g e e.request h)

-- whether the allocation is live after a step
pub live_on : (before live free : Bool) → before ≡ true → before ≡ live → not free ≡ (live && not free)
live_on before true free on same = refl
live_on before false free on same = let never : true ≡ false = sym on ∙ same in absurd (cc)

pub live_off : (before live free : Bool) → before ≡ false → before ≡ live → before ≡ (live && not free)
live_off before false free off same = off
live_off before true free off same = let never : false ≡ true = sym off ∙ same in absurd (cc)

-- states are told apart
perm_same : (p q : Perm) → (perm_eq.eq-value).it p q ≡ true → p ≡ q
perm_same Reserved Reserved e = refl
perm_same Conflicted Conflicted e = refl
perm_same CellReserved CellReserved e = refl
perm_same Unique Unique e = refl
perm_same Frozen Frozen e = refl
perm_same Disabled Disabled e = refl
perm_same Cell Cell e = refl
perm_same p q e = absurd (cc)

perm_itself : (p : Perm) → (perm_eq.eq-value).it p p ≡ true
perm_itself Reserved = refl
perm_itself Conflicted = refl
perm_itself CellReserved = refl
perm_itself Unique = refl
perm_itself Frozen = refl
perm_itself Disabled = refl
perm_itself Cell = refl

abbrev pub same_perms : Option Perm → Option Perm → Bool
same_perms = option_eq (perm_eq.eq-value).it

itself : (p : Option Perm) → same_perms p p ≡ true
itself None = refl
itself (Some p) = perm_itself p

pub perms_same : (p q : Option Perm) → not (same_perms p q) ≡ false → p ≡ q
perms_same None None e = refl
perms_same None (Some q) e = absurd (cc)
perms_same (Some p) None e = absurd (cc)
perms_same (Some p) (Some q) e = ap (λ (r : Perm). Some r) (perm_same p q (not_false ((perm_eq.eq-value).it p q) e))
  where
    not_false : (b : Bool) → not b ≡ false → b ≡ true
    not_false true h = refl
    not_false false h = absurd (cc)

pub perms_differ : (p q : Option Perm) → not (same_perms p q) ≡ true → p ≡ q → ⊥
perms_differ p q e same =
    let one : same_perms p q ≡ true = subst (λ (r : Option Perm). same_perms p r ≡ true) same (itself p) in
    let never : false ≡ true = sym (ap not one) ∙ e in
    absurd (cc)
