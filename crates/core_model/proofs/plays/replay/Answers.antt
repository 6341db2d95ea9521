use Rattle.std.proofs.Common.{rules, ◌≡◌, refl, sym, subst, map, arith, [], ◌∷◌}
use Rattle.std.proofs.lemmas.List.{length-map}
use Rattle.bsan_ids.specs.declared.numbers.ThreadNo.{ThreadNo}
use Rattle.history.specs.declared.record.RunRecord.{RunRecord}
use Rattle.runs.specs.Objects.{objects}
use Rattle.runs.specs.ReplayLaw.{first_progress}
use Rattle.source_sem.specs.Starting.{main_of, main_start}
use Rattle.source_sem.specs.Source.{source}
use Rattle.core_model.specs.Fibers.{seen, all_seen, main_fiber}
use Rattle.core_model.specs.Kept.{Replayed}
use Rattle.core_model.proofs.Keeping.{starts, replayed}
use Rattle.core_model.proofs.Resting.{few_threads}
use Rattle.core_model.proofs.plays.replay.Goals as goal

pub play_schedule-requires : goal.play_schedule-requires
play_schedule-requires g c =
    let x = g.T.Thread.setting c.args.main in
    let f = main_fiber c.args.function c.args.main c.new-2.result in
    let items : c.push.new.self.items ≡ f ∷ [] = search rules in
    let none : c.new-2.result.items ≡ [] = search rules in (
      x,
      first_progress (source x) objects (main_of x.program) (main_start x),
      starts g.T.Thread.setting g.T.Thread.state c.args.limits.now c.args.hosts.now.table f c.requires.main.runnable c.requires.limits c.push.new.self.items c.new-3.result items refl c.requires.main.function_is c.requires.main.state_is none refl c.new-3.ensures,
    )

pub play_rest-requires : goal.play_rest-requires
play_rest-requires g c =
    let x = g.T.Thread.setting c.args.main in
    let f = main_fiber c.args.function c.args.main c.new-2.result in
    let items : c.push.new.self.items ≡ f ∷ [] = search rules in
    let none : c.new-2.result.items ≡ [] = search rules in
    let way = starts g.T.Thread.setting g.T.Thread.state c.args.limits.now c.args.hosts.now.table f c.requires.main.runnable c.requires.limits c.push.new.self.items c.new-3.result items refl c.requires.main.function_is c.requires.main.state_is none refl c.new-3.ensures in
    let a = c.play_schedule.ensures x (first_progress (source x) objects (main_of x.program) (main_start x)) way in
    (x, a.0, a.2)

pub record_of-requires : goal.record_of-requires
record_of-requires g c =
    let x = g.T.Thread.setting c.args.main in
    let f = main_fiber c.args.function c.args.main c.new-2.result in
    let items : c.push.new.self.items ≡ f ∷ [] = search rules in
    let none : c.new-2.result.items ≡ [] = search rules in
    let way = starts g.T.Thread.setting g.T.Thread.state c.args.limits.now c.args.hosts.now.table f c.requires.main.runnable c.requires.limits c.push.new.self.items c.new-3.result items refl c.requires.main.function_is c.requires.main.state_is none refl c.new-3.ensures in
    let a = c.play_schedule.ensures x (first_progress (source x) objects (main_of x.program) (main_start x)) way in
    let b = c.play_rest.ensures x a.0 a.2 in
    let few = few_threads c.args.limits.now c.args.hosts.now.table (all_seen g.T.Thread.setting g.T.Thread.state c.play_rest.new.run.fibers.items) c.play_rest.new.run.memory (x, b.0, b.4) in
    let same = length-map c.play_rest.new.run.fibers.items (seen g.T.Thread.setting g.T.Thread.state) in
    omega (arith, few, same)

pub returns-clause-ok : goal.returns-clause-ok
returns-clause-ok g c =
    let x = g.T.Thread.setting c.args.main in
    let f = main_fiber c.args.function c.args.main c.new-2.result in
    let items : c.push.new.self.items ≡ f ∷ [] = search rules in
    let none : c.new-2.result.items ≡ [] = search rules in
    let way = starts g.T.Thread.setting g.T.Thread.state c.args.limits.now c.args.hosts.now.table f c.requires.main.runnable c.requires.limits c.push.new.self.items c.new-3.result items refl c.requires.main.function_is c.requires.main.state_is none refl c.new-3.ensures in
    let ts = map (λ (n : ThreadNo). n.0) c.args.schedule.now in
    subst (λ (k : RunRecord). Replayed x.program x.input c.args.hosts.now.table c.args.limits.now ts k) (sym c.in_ok-kept.ensures)
    (replayed x c.args.limits.now c.args.hosts.now.table c.requires.main.runnable c.requires.limits ts (all_seen g.T.Thread.setting g.T.Thread.state c.push.new.self.items)
    (all_seen g.T.Thread.setting g.T.Thread.state c.play_schedule.new.run.fibers.items) (all_seen g.T.Thread.setting g.T.Thread.state c.play_rest.new.run.fibers.items)
    c.new-3.result c.play_schedule.new.run.memory c.play_rest.new.run.memory way c.play_schedule.ensures c.play_rest.ensures)
