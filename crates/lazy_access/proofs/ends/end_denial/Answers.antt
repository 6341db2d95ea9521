use Rattle.std.proofs.Common.{◌≡◌, ◌≤◌, ℕ, None, List, Option, sym, ap, subst, ◌∙◌, arith}
use Rattle.lazy_tree.specs.declared.tree.Node.{Node}
use Rattle.lazy_tree.specs.Shape.{Shape}
use Rattle.lazy_tree.specs.Skip.{run_after}
use Rattle.lazy_access.specs.declared.check.Found.{Found}
use Rattle.lazy_access.specs.Ends.{FindsEnd}
use Rattle.lazy_access.proofs.Ending.{end-found, end-more}
use Rattle.lazy_access.proofs.ends.end_denial.Goals as goal

-- what the run at hand says, in the tree at the beginning
found-at : (now start : Shape) (x at : ℕ) (found : Option Found) → now ≡ (record start { visits = now.visits }) → FindsEnd now.nodes x at (run_after now.nodes x at) found → FindsEnd start.nodes x at (run_after start.nodes x at) found
found-at now start x at found same h = subst (λ (ns : List Node). FindsEnd ns x at (run_after ns x at) found) (ap (λ (t : Shape). t.nodes) same) h

bound-at : (now start : Shape) (x at : ℕ) → now ≡ (record start { visits = now.visits }) → run_after now.nodes x at ≤ now.size → run_after start.nodes x at ≤ start.size
bound-at now start x at same h =
    let size : now.size ≡ start.size = ap (λ (t : Shape). t.size) same in
    let end : run_after now.nodes x at ≡ run_after start.nodes x at = ap (λ (t : Shape). run_after t.nodes x at) same in
    omega (arith, h, size, end)

pub returns-in-Some-clause-found : goal.returns-in-Some-clause-found
returns-in-Some-clause-found c =
    let t : Shape = c.args.tree.now in
    end-found t.nodes c.args.x c.runs.at (run_after t.nodes c.args.x c.runs.at) t.size c.in-Some.found c.runs.invariant.none (bound-at c.runs.tree t c.args.x c.runs.at c.runs.invariant.tree c.run_denial.ensures.within)
    (subst (λ (o : Option Found). FindsEnd t.nodes c.args.x c.runs.at (run_after t.nodes c.args.x c.runs.at) o) c.in-Some.is (found-at c.runs.tree t c.args.x c.runs.at c.run_denial.result c.runs.invariant.tree c.run_denial.ensures.found))

pub runs-preserved : goal.runs-preserved
runs-preserved c =
    let nodes : List Node = c.args.tree.now.nodes in
    let before : c.runs.tree.nodes ≡ nodes = ap (λ (t : Shape). t.nodes) c.runs.invariant.tree in
    let same : c.run_denial.new.tree.nodes ≡ nodes = ap (λ (t : Shape). t.nodes) c.run_denial.ensures.tree ∙ before in
    let size : c.run_denial.new.tree.size ≡ c.args.tree.now.size = ap (λ (t : Shape). t.size) c.run_denial.ensures.tree ∙ ap (λ (t : Shape). t.size) c.runs.invariant.tree in
    let end : run_after nodes c.args.x c.runs.at ≡ c.run_end-at.result = ap (λ (ns : List Node). run_after ns c.args.x c.runs.at) (sym same) ∙ sym c.run_end-at.ensures.next in
    record {
      tree = c.run_denial.ensures.tree ∙ ap (λ (t : Shape). record t { visits = c.run_denial.new.tree.visits }) c.runs.invariant.tree;
      rises = omega (arith, c.runs.invariant.rises, c.run_denial.ensures.rises);
      within = omega (arith, c.run_end-at.ensures.within, size);
      none = end-more nodes c.args.x c.runs.at c.run_end-at.result c.runs.invariant.none
          (subst (λ e. FindsEnd nodes c.args.x c.runs.at e None) end (subst (λ (o : Option Found). FindsEnd nodes c.args.x c.runs.at (run_after nodes c.args.x c.runs.at) o) c.in_default.is (found-at c.runs.tree c.args.tree.now c.args.x c.runs.at c.run_denial.result c.runs.invariant.tree c.run_denial.ensures.found)));
    }
