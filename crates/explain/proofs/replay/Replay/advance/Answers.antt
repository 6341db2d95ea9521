use Rattle.std.proofs.Common.{◌≡◌, ◌&&◌, not, Bool, Some, Option, sym, ap, ◌∙◌}
use Rattle.std.specs.Option.{option_map}
use Rattle.eager_tree.specs.Tree.{Tree}
use Rattle.lazy_tree.specs.Eager.{eager_of}
use Rattle.lazy_tree.specs.Shape.{Shape}
use Rattle.explain.specs.declared.replay.Replay.TheInside.{Inside}
use Rattle.explain.specs.Replays.{Grown, asked, frees, tag_of, tree_told}
use Rattle.explain.proofs.Using.{advanced_without, live_on, live_off}
use Rattle.explain.proofs.replay.Replay.advance.Goals.{in-Some+in_ok-grow, in_default-tree, then-self, else-self}
use Rattle.explain.proofs.replay.Replay.advance.Goals as goal

pub returns : goal.returns
returns c =
    let g = c.args.self.now in
    let e = c.args.entry.now in
    let tree_is : option_map eager_of c.self.inside.tree ≡ g.tree = ap (λ (x : Grown). x.tree) c.self.view_is in
    let live_is : c.self.inside.live ≡ g.live = ap (λ (x : Grown). x.live) c.self.view_is in
    let next : Bool → Tree → Tree = λ (live : Bool) (t : Tree). tree_told t (tag_of e) (asked live t e) in
    let tree : option_map eager_of c.match-self-3.self-inside.tree ≡ option_map (next g.live) g.tree =
    elim c.match-self-3.branch [
      | in-Some+in_ok-grow w ↦
          ap (λ (i : Inside). option_map eager_of i.tree) w.self-inside-is
          ∙ ap (λ (t : Tree). Some t) w.in_ok-grow.ensures
          ∙ ap (λ (live : Bool). Some (next live (eager_of w.in-Some.tree))) live_is
          ∙ ap (λ (o : Option Tree). option_map (next g.live) o) (ap (λ (o : Option Shape). option_map eager_of o) (sym w.in-Some.is) ∙ tree_is)
      | in_default-tree w ↦
          ap (λ (i : Inside). option_map eager_of i.tree) w.self-inside-is
          ∙ ap (λ (o : Option Shape). option_map eager_of o) w.in_default-tree.is
          ∙ ap (λ (o : Option Tree). option_map (next g.live) o) (ap (λ (o : Option Shape). option_map eager_of o) (sym w.in_default-tree.is) ∙ tree_is)
    ] in
    let stays : c.match-self-3.self-inside.live ≡ g.live =
    elim c.match-self-3.branch [
      | in-Some+in_ok-grow w ↦ ap (λ (i : Inside). i.live) w.self-inside-is ∙ live_is
      | in_default-tree w ↦ ap (λ (i : Inside). i.live) w.self-inside-is ∙ live_is
    ] in
    let live : c.if-self.self ≡ (g.live && not (frees e)) =
    elim c.if-self.branch [
      | then-self w ↦ w.self-is ∙ ap not w.frees.ensures ∙ live_on c.match-self-3.self-inside.live g.live (frees e) w.if-self.true stays
      | else-self w ↦ w.self-is ∙ live_off c.match-self-3.self-inside.live g.live (frees e) w.if-self.false stays
    ] in
    advanced_without g e (option_map eager_of c.match-self-3.self-inside.tree) c.if-self.self c.in_default.not-Make tree live
