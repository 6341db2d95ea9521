-- The two kinds of visit that the code makes, in the words of `Visit`.
use Rattle.std.specs.Prelude.{ℕ, Bool, true, Option, List}
use Rattle.bsan_ids.specs.declared.numbers.Tag.{Tag}
use Rattle.perm_table.specs.declared.Kind.{Kind}
use Rattle.eager_tree.specs.declared.node.Node.{Node}
use Rattle.eager_tree.specs.declared.violation.Violation.{Violation}
use Rattle.eager_tree.specs.declared.sweep.Sweep.{Sweep}
use Rattle.eager_tree.specs.declared.sweep.Sweep.TheVariants.{Access, EndProtector}
use Rattle.eager_tree.specs.Tree.{Links, links}
use Rattle.eager_tree.specs.Visit.{first_denial, next_nodes}
use Rattle.eager_tree.specs.Steps.{on_span, implicit_kinds, is_no_descendant}

abbrev pub kinds_of : Sweep → List Node → Tag → ℕ → Option Kind
kinds_of (Access span kind) nodes x = on_span span kind
kinds_of EndProtector nodes x = implicit_kinds nodes x

abbrev pub reaches_of : Sweep → Links → Tag → Tag → Bool
reaches_of (Access span kind) ls x = λ _. true
reaches_of EndProtector ls x = is_no_descendant ls x

-- the denial that a visit through the node x reports
abbrev pub denial_in : Sweep → Tag → ℕ → List Node → Option Violation
denial_in sweep x size nodes = first_denial (kinds_of sweep nodes x) (reaches_of sweep (links nodes) x) (links nodes) x size nodes

-- what a visit through the node x leaves of the nodes, where it is not denied
abbrev pub visited : Sweep → Tag → List Node → List Node
visited sweep x nodes = next_nodes (kinds_of sweep nodes x) (reaches_of sweep (links nodes) x) (links nodes) x nodes
