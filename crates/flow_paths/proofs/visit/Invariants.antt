use Rattle.std.proofs.Common.{◌≡◌, ℕ, Bool, List, length, drop}
use Rattle.flow_paths.specs.Paths.{Visited}
use Rattle.flow_paths.proofs.visit.Given as goal

abbrev pub invariant-loop-node : goal.invariant-loop-node
invariant-loop-node l = record {
  size : length l.marked.items ≡ length l.fn.marked.items;
  goes : (m : List Bool) (w : List ℕ) → Visited (drop l.node-index l.next) l.marked.items l.work.items m w → Visited l.next l.fn.marked.items l.fn.work.items m w;
}
