use Rattle.std.proofs.Common.{◌≡◌, ◌*◌, sym, ap, subst, ◌∙◌, arith}
use Rattle.lazy_tree.specs.Shape.{Shape}
use Rattle.lazy_tree.specs.Skip.{run_after}
use Rattle.lazy_access.specs.Ends.{HasEndRoomOn, runs_from}
use Rattle.lazy_access.proofs.Reserving.{roomier-through}
use Rattle.lazy_access.proofs.Ending.{end-room-more, end-room-less, run-after-same, runs-same}
use Rattle.lazy_access.proofs.reserve.reserve_ends.Goals as goal

pub runs-preserved : goal.runs-preserved
runs-preserved c =
    let end : run_after c.runs.tree.nodes c.args.x c.runs.at ≡ c.run_end-at.result = sym (run-after-same c.runs.tree.nodes c.reserve_run.new.tree.nodes c.args.x c.runs.at c.reserve_run.ensures.same) ∙ sym c.run_end-at.ensures.next in
    let size : c.reserve_run.new.tree.size ≡ c.args.tree.now.size = ap (λ (t : Shape). t.size) c.reserve_run.ensures.tree ∙ ap (λ (t : Shape). t.size) c.runs.invariant.tree in
    record {
      tree = c.reserve_run.ensures.tree ∙ ap (λ (t : Shape). record t { nodes = c.reserve_run.new.tree.nodes; visits = c.reserve_run.new.tree.visits }) c.runs.invariant.tree;
      rises = omega (arith, c.runs.invariant.rises, c.reserve_run.ensures.rises);
      within = omega (arith, c.run_end-at.ensures.within, size);
      same = roomier-through c.args.tree.now.nodes c.runs.tree.nodes c.reserve_run.new.tree.nodes c.runs.invariant.same c.reserve_run.ensures.same;
      room = end-room-more c.runs.tree.nodes c.reserve_run.new.tree.nodes c.args.x c.runs.at c.run_end-at.result c.in-Some.runs c.reserve_run.ensures.same c.runs.invariant.room
          (subst (λ e. HasEndRoomOn c.reserve_run.new.tree.nodes c.args.x c.runs.at e c.in-Some.runs) end c.in_ok-reserve_run.ensures.room);
    }

pub returns-clause-room : goal.returns-clause-room
returns-clause-room c =
    let size : c.runs.tree.size ≡ c.args.tree.now.size = ap (λ (t : Shape). t.size) c.runs.invariant.tree in
    let whole : c.runs.at ≡ c.runs.tree.size = omega (arith, c.runs-test.false, c.runs.invariant.within, c.size-size.ensures, size) in
    let twice : c.in-Some.runs ≡ c.count_runs.result * 2 = c.in-Some.ensures.1 in
    let count : runs_from c.runs.tree.size c.runs.tree.nodes c.args.x 0 ≡ runs_from c.args.tree.now.size c.args.tree.now.nodes c.args.x 0 =
    ap (λ s. runs_from s c.runs.tree.nodes c.args.x 0) size ∙ runs-same c.args.tree.now.size c.args.tree.now.nodes c.runs.tree.nodes c.args.x c.runs.invariant.same in
    end-room-less c.runs.tree.nodes c.args.x 0 c.runs.tree.size c.in-Some.runs (2 * runs_from c.runs.tree.size c.runs.tree.nodes c.args.x 0) (omega (arith, count, c.count_runs.ensures, twice))
    (subst (λ e. HasEndRoomOn c.runs.tree.nodes c.args.x 0 e c.in-Some.runs) whole c.runs.invariant.room)
