use Rattle.std.proofs.Common.{ap, sym, ◌∙◌, arith}
use Rattle.eager_tree.proofs.Cells.{next_cells-past, next_cells-next, next_cells-denied}
use Rattle.eager_tree.proofs.node.Node.apply.Goals as goal

pub returns-in_default : goal.returns-in_default
returns-in_default c =
    let node = c.args.self.now in
    ap (λ cells. record node { cells = cells })
    (sym (next_cells-past c.args.kind c.args.local node.guard 0 c.args.offset c.args.offset node.cells (omega arith) (sym c.in_default.ensures.value)))

pub returns-in-Next : goal.returns-in-Next
returns-in-Next c =
    let node = c.args.self.now in
    ap (λ cells. record node { cells = cells })
    (c.set.ensures ∙ sym (next_cells-next c.args.kind c.args.local node.guard c.args.offset node.cells c.in-Some.cell.now c.in-Next.perm c.in-Next.accessed (sym c.in-Some.ensures.value) c.in-Next.ensures))

pub returns-in_default-step : goal.returns-in_default-step
returns-in_default-step c =
    let node = c.args.self.now in
    ap (λ cells. record node { cells = cells })
    (sym (next_cells-denied c.args.kind c.args.local node.guard c.args.offset node.cells c.in-Some.cell.now (sym c.in-Some.ensures.value) c.in_default-step.ensures))
