use Rattle.lazy_tree.proofs.Settling.{settled-bare, kept-settled}
use Rattle.lazy_tree.proofs.tree.LazyTree.settle.Goals as goal

pub invariant_of-self : goal.invariant_of-self
invariant_of-self c =
    let settled = settled-bare c.args.self.now c.args.tag c.args.span c.args.kind c.requires in
    record {
      some = c.self.invariant.some;
      sound = c.self.invariant.sound;
      ready = c.self.invariant.ready;
      clear = c.self.invariant.clear;
      settled = kept-settled _ _ _ _ _ _ _ c.keep.ensures (rw (← c.self.view_is) at settled) c.self.invariant.settled;
    }
