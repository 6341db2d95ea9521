use Rattle.std.proofs.Common.{◌∙◌, refl, sym, ap, subst, [], ◌∷◌, ◌++◌, Some, None, append-nil}
use Rattle.std.specs.Prelude.{slice_set}
use Rattle.core_model.specs.declared.run.Pick.{Pick}
use Rattle.core_model.specs.Running.{Played, UnderWay, PickedAs}
use Rattle.core_model.specs.Fibers.{Seen, seen, all_seen}
use Rattle.core_model.proofs.Numbers.{has_numbers}
use Rattle.core_model.proofs.Taking.{ask_allowed, ask_host}
use Rattle.core_model.proofs.SeenLists.{asked_here, fitting_here, end_here, took_step, took_end, seen_set, seen_push}
use Rattle.core_model.proofs.run.take_step.Goals as goal

pub step-requires-clause-asks : goal.step-requires-clause-asks
step-requires-clause-asks g c =
    let w = c.requires.settled in
    asked_here g.T.Thread.setting g.T.Thread.state w.0 c.args.limits.now c.args.hosts.now.table w.1 c.args.run.now.memory w.2 c.args.number.0 w.3 w.4 c.args.ask c.args.run.now.fibers.items w.5
    c.index_mut-fiber.result.now c.index_mut-fiber.ensures.value

pub step-requires-clause-room : goal.step-requires-clause-room
step-requires-clause-room g c =
    let w = c.requires.settled in
    has_numbers w.0 c.args.limits.now c.args.hosts.now.table w.1 c.args.run.now.memory w.2 w.5.way

pub step-requires-clause-allowed : goal.step-requires-clause-allowed
step-requires-clause-allowed g c =
    let w = c.requires.settled in
    ask_allowed w.0 c.args.limits.now c.args.hosts.now.table w.1 c.args.run.now.memory w.2 c.args.number.0 w.3 w.4 c.args.ask _ w.5

pub step-requires-clause-hosts : goal.step-requires-clause-hosts
step-requires-clause-hosts g c =
    let w = c.requires.settled in
    ask_host w.0 c.args.limits.now c.args.hosts.now.table w.1 c.args.run.now.memory w.2 c.args.number.0 w.3 w.4 c.args.ask _ w.5

pub step-requires-clause-fitting : goal.step-requires-clause-fitting
step-requires-clause-fitting g c =
    let w = c.requires.settled in
    fitting_here g.T.Thread.setting g.T.Thread.state w.0 c.args.limits.now c.args.hosts.now.table w.1 c.args.run.now.memory w.2 c.args.number.0 w.3 w.4 c.args.ask c.args.run.now.fibers.items w.5
    c.index_mut-fiber.result.now c.index_mut-fiber.ensures.value c.args.number c.args.joined refl
    (end_here g.T.Thread.setting g.T.Thread.state w.0 c.args.limits.now c.args.hosts.now.table w.1 c.args.run.now.memory w.2 c.args.number.0 w.3 w.4 c.args.ask c.args.run.now.fibers.items w.5 c.args.joined c.requires.joined)

pub returns-in-Ended : goal.returns-in-Ended
returns-in-Ended g c = λ x before p f now s.
    took_end g.T.Thread.setting g.T.Thread.state x c.args.limits.now c.args.hosts.now.table before c.args.run.now.memory p c.args.number.0 f now c.args.ask c.args.run.now.fibers.items s
    c.args.number refl c.args.joined c.requires.joined c.step.new.memory c.index_mut-fiber.result.now c.index_mut-fiber.ensures.value c.requires.step _ c.in-Ended.ensures _
    (seen_set g.T.Thread.setting g.T.Thread.state c.args.run.now.fibers.items c.args.number.0 c.step.new.self)

pub returns-in-Stepped-None : goal.returns-in-Stepped-None
returns-in-Stepped-None g c = λ x before p f now s.
    let r = c.rest.ensures in
    let L = c.args.limits.now in
    let H = c.args.hosts.now.table in
    let t = c.args.number.0 in
    let after = all_seen g.T.Thread.setting g.T.Thread.state (slice_set c.args.run.now.fibers.items t c.rest.new.fiber) in
    subst (λ (came : Pick). (q : Played x) × PickedAs x L H came p t q × UnderWay x L H after c.step.new.memory q) (sym r.3)
    (took_step g.T.Thread.setting g.T.Thread.state x L H before c.args.run.now.memory p t f now c.args.ask c.args.run.now.fibers.items s
    c.args.number refl c.args.joined c.requires.joined c.step.new.memory c.index_mut-fiber.result.now c.index_mut-fiber.ensures.value _ None (rw c.in-Stepped-None.field-0-is at c.in-Stepped-None.ensures) r.0 r.1 after
    (seen_set g.T.Thread.setting g.T.Thread.state c.args.run.now.fibers.items t c.rest.new.fiber
    ∙ ap (λ (z : Seen). slice_set (all_seen g.T.Thread.setting g.T.Thread.state c.args.run.now.fibers.items) t z) r.2 ∙ sym (append-nil _)))

pub returns-in-Stepped-Some : goal.returns-in-Stepped-Some
returns-in-Stepped-Some g c = λ x before p f now s.
    let r = c.rest-came.ensures in
    let L = c.args.limits.now in
    let H = c.args.hosts.now.table in
    let t = c.args.number.0 in
    let after = all_seen g.T.Thread.setting g.T.Thread.state c.add_child.new.fibers.items in
    subst (λ (came : Pick). (q : Played x) × PickedAs x L H came p t q × UnderWay x L H after c.step.new.memory q) (sym r.3)
    (took_step g.T.Thread.setting g.T.Thread.state x L H before c.args.run.now.memory p t f now c.args.ask c.args.run.now.fibers.items s
    c.args.number refl c.args.joined c.requires.joined c.step.new.memory c.index_mut-fiber.result.now c.index_mut-fiber.ensures.value _ (Some c.in-Stepped-Some.child) (rw c.in-Stepped-Some.field-0-is at c.in-Stepped-Some.ensures) r.0 r.1 after
    (ap (all_seen g.T.Thread.setting g.T.Thread.state) c.add_child.ensures
    ∙ seen_push g.T.Thread.setting g.T.Thread.state _ c.in-Stepped-Some.child.value
    ∙ ap (λ l. l ++ seen g.T.Thread.setting g.T.Thread.state c.in-Stepped-Some.child.value ∷ []) (seen_set g.T.Thread.setting g.T.Thread.state c.args.run.now.fibers.items t c.rest-came.new.fiber
    ∙ ap (λ (z : Seen). slice_set (all_seen g.T.Thread.setting g.T.Thread.state c.args.run.now.fibers.items) t z) r.2)))
