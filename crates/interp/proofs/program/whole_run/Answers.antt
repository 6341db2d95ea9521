use Rattle.std.proofs.Common.{◌≡◌, ◌∙◌, ap, refl, subst, sym, length}
use Rattle.run_memory.specs.States.{AreLegal}
use Rattle.turn_lock.specs.Plays.{DeskView}
use Rattle.interp.proofs.Mains.{main_first}
use Rattle.interp.proofs.Wholes.{main_answers, run_is_right}
use Rattle.interp.proofs.program.whole_run.Goals as goal

pub run_thread-tree-requires-clause-first : goal.run_thread-tree-requires-clause-first
run_thread-tree-requires-clause-first g c κs within =
    main_first g.T.Thread.setting g.T.Thread.state c.in_ok-space.space c.args.hosts.now.table c.args.function c.args.machine c.in_ok-space.desk c.requires.main c.in_ok-space.ensures.desk

pub returns : goal.returns
returns g c =
    let x = g.T.Thread.setting c.args.machine in
    let hosts = c.args.hosts.now.table in
    let answer = main_answers g.T.Thread.setting g.T.Thread.state hosts c.args.function c.args.machine c.args.limits.now c.in_ok-space.desk _ _ c.requires.main c.run_thread-tree.ensures in
    let ok = c.in_ok-words.states.ok in
    let many : length c.in_ok-words.states.items ≡ c.args.limits.now.allocs = sym ok.0 ∙ (c.in_ok-words.ensures.numbers ∙ ap (λ l. l.allocs) c.in_ok-space.ensures.limits) in
    run_is_right x.program x.input hosts c.args.limits.now c.in_ok-space.desk _ _ c.in_ok-words.words c.in_ok-words.states.items answer (ap (λ (d : DeskView). d.view.seen) c.in_ok-space.ensures.desk)
    c.in_ok-words.ensures.counts many c.in_ok-words.ensures.states (subst AreLegal c.in_ok-logs_of.ensures.logs c.in_ok-logs_of.ensures.legal) _ c.in_ok-logs_of.ensures.logs refl c.in_ok-ordered_logs.ensures.same c.in_ok-ordered_logs.ensures.ordered
