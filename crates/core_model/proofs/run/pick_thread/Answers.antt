use Rattle.std.proofs.Common.{refl, inl, rules}
use Rattle.core_model.specs.Fibers.{all_seen}
use Rattle.core_model.proofs.SeenLists.{shut_seen}
use Rattle.core_model.proofs.Settling.{shut_rests}
use Rattle.core_model.proofs.run.pick_thread.Goals as goal

pub returns-else-is_open : goal.returns-else-is_open
returns-else-is_open g c = λ x p w. (
  p,
  inl (
    shut_rests x c.args.limits.now c.args.hosts.now.table (all_seen g.T.Thread.setting g.T.Thread.state c.args.run.now.fibers.items) c.args.run.now.memory p c.args.number.0 w
        (λ f at none. shut_seen g.T.Thread.setting g.T.Thread.state c.args.run.now.fibers.items c.args.number.0 (search rules) f at none),
    refl,
  ),
  w,
)
