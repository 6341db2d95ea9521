use Rattle.std.proofs.Common.{◌≡◌, ◌++◌, ◌≤◌, ◌∙◌, length, ap, sym, subst, arith, length-append, ◌∷◌, []}
use Rattle.dated_access.specs.Path.{ups_to}
use Rattle.dated_access.proofs.PathLemmas.{ups-more, path-whole}
use Rattle.dated_access.proofs.path.path_to.Goals as goal

pub up-preserved : goal.up-preserved
up-preserved c =
    let some : 1 ≤ c.up.here = omega (arith, c.up-test.true) in
    let stored : c.up.here ≤ length c.args.tree.now.nodes = omega (arith, c.up.invariant.room, c.requires.stored) in
    record {
      tree = c.up.invariant.tree;
      ups = subst (λ p. c.push_reserved.new.self.items ++ ups_to c.args.tree.now.nodes p ≡ ups_to c.args.tree.now.nodes c.args.x) (sym c.parent-here.ensures.parent)
          (ups-more c.args.tree.now.size c.up.here c.args.x c.args.tree.now.nodes c.up.path.items c.push_reserved.new.self.items c.up.invariant.tree.nodes some stored c.up.invariant.ups c.push_reserved.ensures.items);
      room = omega (arith, c.up.invariant.room, c.parent-here.ensures.before, ap length c.push_reserved.ensures.items, length-append c.up.path.items (c.up.here ∷ []));
      capacity = c.push_reserved.ensures.capacity ∙ c.up.invariant.capacity;
    }

pub returns-clause-path : goal.returns-clause-path
returns-clause-path c =
    path-whole c.args.tree.now.size c.up.here c.args.x c.up.path.len c.args.tree.now.nodes c.up.path.items c.as_mut_slice.result.now c.reverse.new.self c.up.invariant.tree.nodes c.requires.stored c.up-test.false c.up.invariant.ups c.as_mut_slice.ensures.value c.reverse.ensures.after c.as_mut_slice.ensures.len
