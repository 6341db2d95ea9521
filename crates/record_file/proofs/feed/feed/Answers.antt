use Rattle.std.proofs.Common.{sym, ◌∙◌, ap, subst}
use Rattle.std.proofs.lemmas.Bool.{true≢false}
use Rattle.history.specs.Replies.{Answers}
use Rattle.runs.specs.Parts.{child_of}
use Rattle.source_machine.specs.Running.{Running}
use Rattle.source_sem.specs.Source.{frames_type, source_answer, source_ask, source_child, source_fits}
use Rattle.thread_parts.specs.Fits.{ReplyFits}
use Rattle.record_file.specs.Starting.{HasStarted}
use Rattle.record_file.proofs.Beginning.{numbers_started, of_started}
use Rattle.record_file.proofs.Feeding.{refuses_stopped, refuses_other, settled_asks, takes}
use Rattle.record_file.proofs.feed.feed.Goals as goal
use Rattle.record_file.proofs.feed.feed.Goals.{then-site-entry-via-then-site-entry, then-site-entry-via-else-site-entry+then-not-is_answered}

pub returns-in_default-clause-fed : goal.returns-in_default-clause-fed
returns-in_default-clause-fed c =
    let h = c.in_ok-ask.ensures.settled in
    refuses_stopped c.args.machine.now.setting c.args.turns c.args.machine.now.thread c.settle.new.machine.thread c.args.entry.now h.turned (h.stops c.in_default.is)

pub returns-then-site-entry-clause-fed : goal.returns-then-site-entry-clause-fed
returns-then-site-entry-clause-fed c =
    let x = c.args.machine.now.setting in
    let t = c.settle.new.machine.thread in
    let e = c.args.entry.now in
    let h = c.in_ok-ask.ensures.settled in
    let asked = settled_asks x c.args.turns c.args.machine.now.thread t c.in-Some.ask c.in_ok-ask.field-0 h c.in-Some.is in
    refuses_other x c.args.turns c.args.machine.now.thread t e h.turned (λ turn. asked.1 (asked.0 ∙ turn))
    (λ site asks fits. elim c.then-site-entry.branch [
      | then-site-entry-via-then-site-entry w ↦ w.if-site-entry.true (c.site.ensures ∙ site)
      | then-site-entry-via-else-site-entry+then-not-is_answered w ↦ true≢false (sym (w.is_answered.ensures.1 (subst (λ a. Answers a e) (sym asked.0) asks)) ∙ w.if-not-is_answered.true)
    ])

pub returns-then-not-does_fit-clause-fed : goal.returns-then-not-does_fit-clause-fed
returns-then-not-does_fit-clause-fed c =
    let x = c.args.machine.now.setting in
    let t = c.settle.new.machine.thread in
    let e = c.args.entry.now in
    let h = c.in_ok-ask.ensures.settled in
    let asked = settled_asks x c.args.turns c.args.machine.now.thread t c.in-Some.ask c.in_ok-ask.field-0 h c.in-Some.is in
    let ty = c.join_type.ensures ∙ ap (λ y. frames_type y t.frames) c.in_ok-ask.ensures.setting in
    refuses_other x c.args.turns c.args.machine.now.thread t e h.turned (λ turn. asked.1 (asked.0 ∙ turn))
    (λ site asks fits. true≢false (sym (c.does_fit.ensures.1 (subst (λ z. ReplyFits z e e.request) (sym ty) fits)) ∙ c.if-not-does_fit.true))

pub returns-clause-fed : goal.returns-clause-fed
returns-clause-fed c =
    let x = c.args.machine.now.setting in
    let m = c.settle.new.machine in
    let t = m.thread in
    let e = c.args.entry.now in
    let h = c.in_ok-ask.ensures.settled in
    let same = c.in_ok-ask.ensures.setting in
    let asked = settled_asks x c.args.turns c.args.machine.now.thread t c.in-Some.ask c.in_ok-ask.field-0 h c.in-Some.is in
    let ty = c.join_type.ensures ∙ ap (λ y. frames_type y t.frames) same in
    let asks : Answers (source_ask x t) e = subst (λ a. Answers a e) asked.0 (c.is_answered.ensures.0 c.if-not-is_answered.false) in
    let fits : source_fits x t e = subst (λ z. ReplyFits z e e.request) ty (c.does_fit.ensures.0 c.if-not-does_fit.false) in
    let started : HasStarted x (child_of e) (source_child x t) c.args.children.now.items c.start_child.new.children.items =
    subst (λ y. HasStarted y (child_of e) (source_child y t) c.args.children.now.items c.start_child.new.children.items) same c.in_ok-start_child.ensures in
    let goes = ap (λ (r : Running). r.thread) c.answer.ensures ∙ ap (λ (r : Running). source_answer r.setting r.thread e.reply) c.in_ok-prepare.ensures.ok ∙ ap (λ y. source_answer y t e.reply) same in
    takes x c.args.turns c.args.machine.now.thread t e c.args.children.now.items c.start_child.new.children.items c.answer.new.self.thread
    h.turned (λ turn. asked.1 (asked.0 ∙ turn)) asked.2 (sym c.site.ensures ∙ c.if-site-entry.false) asks fits started goes

pub returns-clause-children : goal.returns-clause-children
returns-clause-children c =
    let x = c.args.machine.now.setting in
    let t = c.settle.new.machine.thread in
    let e = c.args.entry.now in
    let same = c.in_ok-ask.ensures.setting in
    let started : HasStarted x (child_of e) (source_child x t) c.args.children.now.items c.start_child.new.children.items =
    subst (λ y. HasStarted y (child_of e) (source_child y t) c.args.children.now.items c.start_child.new.children.items) same c.in_ok-start_child.ensures in
    of_started x (child_of e) (source_child x t) c.args.children.now.items c.start_child.new.children.items started c.requires

pub returns-clause-numbers : goal.returns-clause-numbers
returns-clause-numbers c =
    let t = c.settle.new.machine in
    let e = c.args.entry.now in
    λ yes. numbers_started t.setting (child_of e) (source_child t.setting t.thread) c.args.children.now.items c.start_child.new.children.items c.in_ok-start_child.ensures
