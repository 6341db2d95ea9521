use Rattle.std.proofs.Common.{◌≡◌, ◌≤◌, not, length, take, filter, vec_capacity}
use Rattle.dated_tree.specs.Path.{is_on_path}
use Rattle.dated_access.proofs.others.others_of.Given as goal

abbrev pub invariant-loop-place : goal.invariant-loop-place
invariant-loop-place l = record {
  others : l.others.items ≡ filter (λ place. not (is_on_path l.tree.nodes l.x place)) (take l.place-index l.tree.guarded);
  few : length l.others.items ≤ l.place-index;
  capacity : vec_capacity l.others ≡ vec_capacity l.fn.others;
}
