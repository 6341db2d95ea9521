use Rattle.std.specs.BTreeMap as tree
use Rattle.std.specs.Cmp.Lexicographic.{slice_cmp}
use Rattle.std.specs.Ordering.{nat_cmp}
use Rattle.ir_assigned.specs.Graph.{listed}
use Rattle.ir_assigned.proofs.Ways.{on_ok_map, two_goals}
use Rattle.ir_assigned.proofs.graph.note_goals.Goals as goal

pub returns-in_ok-note_goal-in-CondBr : goal.returns-in_ok-note_goal-in-CondBr
returns-in_ok-note_goal-in-CondBr c = on_ok_map c.note_goal-in-CondBr-2.result _ _
    (two_goals (λ g. listed (tree.get_by (λ k. slice_cmp nat_cmp g.label.name k.now) c.args.labels.now)) c.args.next.now.items c.note_goal-in-CondBr.new.next.items c.note_goal-in-CondBr-2.new.next.items
    c.args.jump.now c.in-CondBr.cond c.in-CondBr.yes c.in-CondBr.no c.in-CondBr.is c.in_ok-note_goal-in-CondBr.ensures)
    c.note_goal-in-CondBr-2.ensures
