use Rattle.std.proofs.Common.{◌<◌, ◌≤◌, List, map, take, length, get_or, sym, subst, ℕ, rules}
use Rattle.bsan_ids.specs.declared.numbers.ThreadNo.{ThreadNo}
use Rattle.core_model.specs.Fibers.{all_seen}
use Rattle.core_model.specs.Replays.{PlaysAll}
use Rattle.core_model.proofs.Resting.{way_on, plays_pick, more_taken, all_taken}
use Rattle.core_model.proofs.plays.play_schedule.Goals as goal

pub loop-number-preserved : goal.loop-number-preserved
loop-number-preserved g c =
    let F0 = all_seen g.T.Thread.setting g.T.Thread.state c.args.run.now.fibers.items in
    let F = all_seen g.T.Thread.setting g.T.Thread.state c.loop-number.run.fibers.items in
    let G = all_seen g.T.Thread.setting g.T.Thread.state c.pick_thread.new.run.fibers.items in
    let xs = c.args.schedule.now in
    let i = c.loop-number.number-index in
    let d : ThreadNo = record { 0 = 0 } in
    let n = get_or xs i d in
    let low : i < length xs = search rules in
    record {
      way = way_on c.args.limits.now c.args.hosts.now.table F G c.loop-number.run.memory c.pick_thread.new.run.memory n.0 c.pick_thread.result c.loop-number.invariant.way c.pick_thread.ensures;
      plays = subst (λ (ts : List ℕ). PlaysAll c.args.limits.now c.args.hosts.now.table F0 c.args.run.now.memory ts G c.pick_thread.new.run.memory) (sym (more_taken xs i d low))
          (plays_pick c.args.limits.now c.args.hosts.now.table F0 F G c.args.run.now.memory c.loop-number.run.memory c.pick_thread.new.run.memory (map (λ (k : ThreadNo). k.0) (take i xs)) n.0 c.pick_thread.result
          c.loop-number.invariant.plays c.pick_thread.ensures);
    }

pub returns : goal.returns
returns g c =
    let xs = c.args.schedule.now in
    let i = c.loop-number.number-index in
    let high : length xs ≤ i = search rules in
    subst (λ (l : List ThreadNo). PlaysAll c.args.limits.now c.args.hosts.now.table (all_seen g.T.Thread.setting g.T.Thread.state c.args.run.now.fibers.items) c.args.run.now.memory (map (λ (k : ThreadNo). k.0) l)
    (all_seen g.T.Thread.setting g.T.Thread.state c.loop-number.run.fibers.items) c.loop-number.run.memory) (all_taken xs i high) c.loop-number.invariant.plays
