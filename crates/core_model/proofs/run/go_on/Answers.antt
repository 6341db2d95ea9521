use Rattle.std.proofs.Common.{◌∙◌, ap, Some}
use Rattle.std.specs.Prelude.{slice_set}
use Rattle.source_sem.specs.Source.{Setting}
use Rattle.core_model.specs.Fibers.{Seen, seen, all_seen}
use Rattle.core_model.proofs.SeenLists.{open_here, seen_set}
use Rattle.core_model.proofs.Settling.{count_within, settled_asks, halted}
use Rattle.core_model.proofs.run.go_on.Goals as goal

pub settle-requires : goal.settle-requires
settle-requires g c =
    let w = c.requires.under_way in
    let items = c.args.run.now.fibers.items in
    let el = c.index_mut-fiber.result.now in
    let o = open_here g.T.Thread.setting g.T.Thread.state items c.args.number.0 el c.requires.within c.index_mut-fiber.ensures.value in
    count_within w.0 c.args.limits.now c.args.hosts.now.table (all_seen g.T.Thread.setting g.T.Thread.state items) c.args.run.now.memory w.1 c.args.number.0 w.2 (seen g.T.Thread.setting g.T.Thread.state el) o.at o.«open»

pub act-requires : goal.act-requires
act-requires g c =
    let w = c.requires.under_way in
    let items = c.args.run.now.fibers.items in
    let F = all_seen g.T.Thread.setting g.T.Thread.state items in
    let el = c.index_mut-fiber.result.now in
    let f = seen g.T.Thread.setting g.T.Thread.state el in
    let now = g.T.Thread.state c.settle.new.thread in
    let turned = record el { thread = c.settle.new.thread } in
    let o = open_here g.T.Thread.setting g.T.Thread.state items c.args.number.0 el c.requires.within c.index_mut-fiber.ensures.value in
    let same = w.2.shows.settings c.args.number.0 f o.at in
    let s = settled_asks w.0 c.args.limits.now c.args.hosts.now.table F c.args.run.now.memory w.1 c.args.number.0 w.2 f o.at o.«open» now (g.T.Thread.setting el.thread) c.settle.ensures.turned same
    c.in-Ok.ask c.in-Ok.ensures.may c.in-Ok.ensures.asks c.in-Ok.ensures.no_turn (all_seen g.T.Thread.setting g.T.Thread.state (slice_set items c.args.number.0 turned))
    (seen_set g.T.Thread.setting g.T.Thread.state items c.args.number.0 turned ∙ ap (λ (y : Setting). slice_set F c.args.number.0 (record f { setting = y; state = now })) c.settle.ensures.setting) in
    (w.0, F, w.1, f, now, s)

pub returns-in-Ok : goal.returns-in-Ok
returns-in-Ok g c = λ x p w.
    let items = c.args.run.now.fibers.items in
    let F = all_seen g.T.Thread.setting g.T.Thread.state items in
    let el = c.index_mut-fiber.result.now in
    let f = seen g.T.Thread.setting g.T.Thread.state el in
    let now = g.T.Thread.state c.settle.new.thread in
    let turned = record el { thread = c.settle.new.thread } in
    let o = open_here g.T.Thread.setting g.T.Thread.state items c.args.number.0 el c.requires.within c.index_mut-fiber.ensures.value in
    let same = w.shows.settings c.args.number.0 f o.at in
    let s = settled_asks x c.args.limits.now c.args.hosts.now.table F c.args.run.now.memory p c.args.number.0 w f o.at o.«open» now (g.T.Thread.setting el.thread) c.settle.ensures.turned same
    c.in-Ok.ask c.in-Ok.ensures.may c.in-Ok.ensures.asks c.in-Ok.ensures.no_turn (all_seen g.T.Thread.setting g.T.Thread.state (slice_set items c.args.number.0 turned))
    (seen_set g.T.Thread.setting g.T.Thread.state items c.args.number.0 turned ∙ ap (λ (y : Setting). slice_set F c.args.number.0 (record f { setting = y; state = now })) c.settle.ensures.setting) in
    c.act.ensures x F p f now s

pub returns-in-Err : goal.returns-in-Err
returns-in-Err g c = λ x p w.
    let items = c.args.run.now.fibers.items in
    let F = all_seen g.T.Thread.setting g.T.Thread.state items in
    let el = c.index_mut-fiber.result.now in
    let f = seen g.T.Thread.setting g.T.Thread.state el in
    let now = g.T.Thread.state c.settle.new.thread in
    let turned = record el { thread = c.settle.new.thread } in
    let o = open_here g.T.Thread.setting g.T.Thread.state items c.args.number.0 el c.requires.within c.index_mut-fiber.ensures.value in
    let same = w.shows.settings c.args.number.0 f o.at in
    halted x c.args.limits.now c.args.hosts.now.table F c.args.run.now.memory p c.args.number.0 w f o.at o.«open» now (g.T.Thread.setting el.thread) c.settle.ensures.turned same
    c.in-Err.why c.in-Err.ensures.halts _
    (seen_set g.T.Thread.setting g.T.Thread.state items c.args.number.0 c.finish.new.self
    ∙ ap (λ (z : Seen). slice_set F c.args.number.0 z) c.finish.ensures
    ∙ ap (λ (y : Setting). slice_set F c.args.number.0 (record f { setting = y; state = now; «end» = Some c.in-Err.why })) c.settle.ensures.setting)
