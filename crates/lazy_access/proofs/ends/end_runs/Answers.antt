use Rattle.std.proofs.Common.{◌≡◌, ◌-◌, ◌<◌, ◌≤◌, ℕ, true, List, length, refl, sym, ap, subst, ◌∙◌, arith, inl, inr}
use Rattle.bsan_ids.specs.declared.numbers.Span.{Span}
use Rattle.lazy_tree.specs.declared.tree.Node.{Node}
use Rattle.lazy_tree.specs.Shape.{Shape}
use Rattle.lazy_tree.specs.Skip.{run_after, IsSound}
use Rattle.lazy_access.specs.Change.{AddsStarts}
use Rattle.lazy_access.specs.Ends.{NoEndDenial, HasEndRoomOn, IsEnded}
use Rattle.lazy_access.proofs.Ending.{ended-none, ended-more, denies-back, room-here, room-more, runs-fewer, room-first}
use Rattle.lazy_tree.specs.Ring.{is_cut}
use Rattle.lazy_access.proofs.Ringing.{run-cut, cut-past, cuts-added}
use Rattle.lazy_access.proofs.ends.end_runs.Goals as goal

pub runs-init : goal.runs-init
runs-init c = record {
  tree = refl;
  rises = omega arith;
  within = omega arith;
  ended = ended-none c.args.tree.now.size c.args.tree.now.nodes c.args.x;
  left = room-first c.args.tree.now.size c.args.tree.now.nodes c.args.x c.requires.room;
  begins = λ lt some. absurd (omega (arith, some));
  cuts = λ s lt e. e;
}

pub end_run-requires-clause-allowed : goal.end_run-requires-clause-allowed
end_run-requires-clause-allowed c =
    let size : c.runs.tree.size ≡ c.args.tree.now.size = ap (λ (t : Shape). t.size) c.runs.invariant.tree in
    subst (λ end. NoEndDenial c.runs.tree.nodes c.args.x c.runs.at end) c.run_end-end.ensures.next
    (denies-back c.args.tree.now.size c.args.tree.now.nodes c.runs.tree.nodes c.args.x c.runs.at c.run_end-end.result c.requires.node (omega (arith, c.run_end-end.ensures.within, size)) c.runs.invariant.ended c.requires.allowed)

pub end_run-requires-clause-room : goal.end_run-requires-clause-room
end_run-requires-clause-room c =
    let size : c.runs.tree.size ≡ c.args.tree.now.size = ap (λ (t : Shape). t.size) c.runs.invariant.tree in
    subst (λ end. HasEndRoomOn c.runs.tree.nodes c.args.x c.runs.at end 2) c.run_end-end.ensures.next
    (room-here c.args.tree.now.size c.args.tree.now.nodes c.runs.tree.nodes c.args.x c.runs.at c.run_end-end.result c.requires.node c.run_end-end.ensures.after (omega (arith, c.run_end-end.ensures.within, size)) c.runs.invariant.ended c.runs.invariant.left)

pub runs-preserved : goal.runs-preserved
runs-preserved c =
    let nodes : List Node = c.args.tree.now.nodes in
    let end : ℕ = c.run_end-end.result in
    let size : c.runs.tree.size ≡ c.args.tree.now.size = ap (λ (t : Shape). t.size) c.runs.invariant.tree in
    let within : c.run_end-end.result ≤ c.args.tree.now.size = omega (arith, c.run_end-end.ensures.within, size) in
    let lt_now : c.args.x < length c.runs.tree.nodes = (let n = c.runs.invariant.ended.links.count in omega (arith, n, c.requires.node)) in
    let sound : IsSound c.args.tree.now.size c.runs.tree.nodes = subst (λ s. IsSound s c.runs.tree.nodes) size c.soundness-in-runs.ensures.sound in
    let span : Span = record { start = c.runs.at; len = c.run_end-end.result - c.runs.at } in
    let ended : IsEnded c.args.tree.now.size c.runs.tree.nodes c.end_run.new.tree.nodes c.args.x c.runs.at c.run_end-end.result =
    subst (λ e. IsEnded c.args.tree.now.size c.runs.tree.nodes c.end_run.new.tree.nodes c.args.x c.runs.at e) (sym c.run_end-end.ensures.next)
    (subst (λ s. IsEnded s c.runs.tree.nodes c.end_run.new.tree.nodes c.args.x c.runs.at (run_after c.runs.tree.nodes c.args.x c.runs.at)) size c.end_run.ensures.ended) in
    let adds : AddsStarts c.runs.tree.nodes c.end_run.new.tree.nodes span =
    subst (λ e. AddsStarts c.runs.tree.nodes c.end_run.new.tree.nodes (record { start = c.runs.at; len = e - c.runs.at })) (sym c.run_end-end.ensures.next) c.end_run.ensures.adds in
    let fewer = runs-fewer c.args.tree.now.size c.runs.tree.nodes c.end_run.new.tree.nodes c.args.x c.runs.at c.run_end-end.result span sound lt_now c.run_end-end.ensures.after within c.run_end-end.ensures.next refl (omega (arith, c.run_end-end.ensures.after)) adds in
    record {
      tree = c.end_run.ensures.tree ∙ ap (λ (t : Shape). record t { nodes = c.end_run.new.tree.nodes; visits = c.end_run.new.tree.visits }) c.runs.invariant.tree;
      rises = omega (arith, c.runs.invariant.rises, c.end_run.ensures.rises);
      within = within;
      ended = ended-more c.args.tree.now.size nodes c.runs.tree.nodes c.end_run.new.tree.nodes c.args.x c.runs.at c.run_end-end.result c.requires.node within c.runs.invariant.ended ended c.run_end-end.ensures.after;
      left = room-more c.args.tree.now.size nodes c.runs.tree.nodes c.end_run.new.tree.nodes c.args.x c.runs.at c.run_end-end.result c.run_end-end.ensures.after fewer c.end_run.ensures.spare c.runs.invariant.left;
      begins = λ lt some. c.runs.invariant.cuts c.run_end-end.result lt (run-cut c.args.tree.now.size c.runs.tree.nodes c.args.x c.runs.at c.run_end-end.result sound lt_now c.run_end-end.ensures.next lt c.run_end-end.ensures.after);
      cuts = λ s lt e. elim (cuts-added c.runs.tree.nodes c.end_run.new.tree.nodes span s c.end_run.ensures.ended.links.count adds e) [
        | inl old ↦ c.runs.invariant.cuts s lt old
        | inr new ↦ elim new [
          | inl start ↦ subst (λ k. is_cut nodes k ≡ true) (sym start) (c.runs.invariant.begins (omega (arith, start, lt)) (let past = cut-past c.end_run.new.tree.nodes s e in omega (arith, start, past)))
          | inr stop ↦
              let here : s ≡ c.run_end-end.result = omega (arith, stop, c.run_end-end.ensures.after) in
              c.runs.invariant.cuts s lt (subst (λ k. is_cut c.runs.tree.nodes k ≡ true) (sym here) (run-cut c.args.tree.now.size c.runs.tree.nodes c.args.x c.runs.at c.run_end-end.result sound lt_now c.run_end-end.ensures.next (omega (arith, here, lt)) c.run_end-end.ensures.after))
        ]
      ];
    }

pub returns-clause-ended : goal.returns-clause-ended
returns-clause-ended c =
    let size : c.runs.tree.size ≡ c.args.tree.now.size = ap (λ (t : Shape). t.size) c.runs.invariant.tree in
    let whole : c.runs.at ≡ c.args.tree.now.size = omega (arith, c.runs-test.false, c.runs.invariant.within, c.size-size.ensures) in
    subst (λ e. IsEnded c.args.tree.now.size c.args.tree.now.nodes c.runs.tree.nodes c.args.x 0 e) whole c.runs.invariant.ended
