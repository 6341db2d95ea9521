use Rattle.std.proofs.Common.{◌≡◌, ℕ, ◌+◌, ◌*◌, ◌≤◌}
use Rattle.eager_tree.specs.Steps.{on_span}
use Rattle.dated_tree.specs.Shape.{node_at}
use Rattle.dated_tree.specs.Access.{IsAccessed}
use Rattle.dated_access.specs.Pieces.{piece_start, visited}
use Rattle.dated_access.proofs.SpanLemmas.{bytes}
use Rattle.dated_access.proofs.span.meet_pieces.Given as goal

abbrev pub invariant-loop-end : goal.invariant-loop-end
invariant-loop-end l = record {
  accessed : IsAccessed l.access.node (on_span (bytes l.access.span.start l.from) l.access.kind) l.fn.tree.clock l.fn.tree l.tree;
  from : l.from ≡ piece_start l.access.span.start l.ends l.end-index;
  low : l.access.span.start ≤ l.from;
  spare : (place : ℕ) → (node_at l.fn.tree.nodes place).runs.spare ≤ (node_at l.tree.nodes place).runs.spare + 2 * l.end-index;
  date_spare : l.fn.tree.accesses.spare ≤ l.tree.accesses.spare + 2 * l.end-index;
  write_spare : l.fn.tree.writes.spare ≤ l.tree.writes.spare + 2 * l.end-index;
  visits : l.tree.visits ≤ l.fn.tree.visits + l.end-index * (2 * visited l.path l.others);
}
