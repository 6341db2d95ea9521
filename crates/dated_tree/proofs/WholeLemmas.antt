-- A whole access, and the date that it takes.
use Rattle.std.proofs.Common.{◌≡◌, ℕ, ◌+◌, ◌≤◌, ◌⊎◌, inl, inr, Bool, true, false, length, Option, Some, None, refl, sym, ap, ◌∙◌, arith}
use Rattle.bsan_ids.specs.declared.numbers.Span.{Span}
use Rattle.perm_table.specs.declared.Kind.{Kind}
use Rattle.perm_table.specs.declared.Guard.{Guard}
use Rattle.perm_table.specs.declared.Guard.TheVariants.{Free, Weak, Strong}
use Rattle.perm_table.specs.Table.{is_protected}
use Rattle.eager_tree.specs.declared.node.Cell.{Cell}
use Rattle.eager_tree.specs.declared.violation.Violation.{Violation}
use Rattle.eager_tree.specs.declared.violation.Violation.TheVariants.{Denied}
use Rattle.eager_tree.specs.Tree.{Tree}
use Rattle.eager_tree.specs.Steps.{access, on_span}
use Rattle.dated_tree.specs.Shape.{Shape, node_at}
use Rattle.dated_tree.specs.Dates.{is_noted}
use Rattle.dated_tree.specs.Eager.{eager_of, cell_of, tag_at}
use Rattle.dated_tree.specs.Path.{is_on_path}
use Rattle.dated_tree.specs.Meet.{is_refused}
use Rattle.dated_tree.specs.Access.{IsFresh, IsAccessed, NoDenial, IsFirstDenial, denies}
use Rattle.dated_tree.specs.Kept.{IsSound}
use Rattle.dated_tree.proofs.AccessLemmas.{cell-after, every-place}
use Rattle.dated_tree.proofs.EagerLemmas.{Steps, visit-silent, visit-denied, visit-done, visit-refused}
use Rattle.dated_tree.proofs.SoundLemmas.{not-noted}

steps-after : (t u : Shape) (x : ℕ) (kinds : ℕ → Option Kind) (date : ℕ) → IsSound t → IsFresh t x date → NoDenial t x kinds → IsAccessed x kinds date t u → Steps t u x kinds (λ _. true)
steps-after t u x kinds date h f fine a = record {
  root = a.root;
  size = a.size;
  count = a.count;
  links = a.links;
  reached = λ i b some stored in_size r. (cell-after x kinds date t u h f a i b some stored in_size (fine i b some stored in_size)).1;
  left = λ i b some stored in_size wrong. let no : true ≡ false = wrong in cc;
}

pub access-done : (t u : Shape) (x : ℕ) (span : Span) (kind : Kind) (date : ℕ) → IsSound t → x ≤ length t.nodes → IsFresh t x date → NoDenial t x (on_span span kind) → IsAccessed x (on_span span kind) date t u →
    (let p : Option Violation × Tree = (None, eager_of u) in p) ≡ access (eager_of t) (tag_at t x) span kind
access-done t u x span kind date h low f fine a =
    visit-done t u x (on_span span kind) (λ _. true) h low (steps-after t u x (on_span span kind) date h f fine a)
    (visit-silent t x (on_span span kind) (λ _. true) h low (λ i b some stored in_size r. fine i b some stored in_size))

refused-kind : (o : Option Kind) (local : Bool) (guard : Guard) (cell : Cell) → is_refused o local guard cell ≡ true → (kind : Kind) × (o ≡ Some kind)
refused-kind None local guard cell e = cc
refused-kind (Some kind) local guard cell e = (kind, refl)

pub access-refused : (t : Shape) (x : ℕ) (span : Span) (kind : Kind) (place b : ℕ) → IsSound t → x ≤ length t.nodes → IsFirstDenial t x (on_span span kind) place b →
    (let p : Option Violation × Tree = (Some (Denied b (tag_at t place) (cell_of t place b).perm (is_on_path t.nodes x place)), eager_of t) in p) ≡ access (eager_of t) (tag_at t x) span kind
access-refused t x span kind place b h low d =
    let there = refused-kind (on_span span kind b) (is_on_path t.nodes x place) (node_at t.nodes place).guard (cell_of t place b) d.denied in
    visit-refused t x (on_span span kind) (λ _. true) (Denied b (tag_at t place) (cell_of t place b).perm (is_on_path t.nodes x place))
    (visit-denied t x (on_span span kind) (λ _. true) place b there.0 h low d.some d.stored d.within there.1 refl
    (ap (λ o. is_refused o (is_on_path t.nodes x place) (node_at t.nodes place).guard (cell_of t place b)) (sym there.1) ∙ d.denied)
    (λ j c some stored in_size r denied. d.least j c some stored in_size denied))

off-free : (o : Option Kind) (local : Bool) (guard : Guard) (cell : Cell) → is_refused o local guard cell ≡ true → (local ≡ true) ⊎ (is_protected guard ≡ true)
off-free None local guard cell e = cc
off-free (Some kind) true guard cell e = inl refl
off-free (Some kind) false Weak cell e = inr refl
off-free (Some kind) false Strong cell e = inr refl
off-free (Some kind) false Free cell e = let wrong : false ≡ true = e in cc

pub path-or-guard : (t : Shape) (x : ℕ) (kinds : ℕ → Option Kind) (place b : ℕ) → denies t x kinds place b ≡ true → (is_on_path t.nodes x place ≡ true) ⊎ (is_protected (node_at t.nodes place).guard ≡ true)
path-or-guard t x kinds place b e = off-free (kinds b) (is_on_path t.nodes x place) (node_at t.nodes place).guard (cell_of t place b) e

-- no step was made at the next date
pub next-fresh : (t : Shape) (x : ℕ) → IsSound t → IsFresh t x (t.clock + 1)
next-fresh t x h = record {
  now = omega arith;
  ends = every-place (λ n m. is_noted n.ends (t.clock + 1) ≡ false) t t refl refl (λ place some stored. not-noted (node_at t.nodes place).ends t.clock (h.nodes place some stored).ends);
  met = λ place b some stored in_size off.
      let s = h.slots place b some stored in_size in
      record { access = omega (arith, s.access); write = omega (arith, s.write) };
}
