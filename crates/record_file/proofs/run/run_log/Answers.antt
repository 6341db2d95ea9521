use Rattle.std.proofs.Common.{◌≡◌, sym, ◌∙◌, ap, subst, All}
use Rattle.std.proofs.lemmas.Bool.{true≢false}
use Rattle.history.specs.declared.entry.Entry.{Entry}
use Rattle.runs.specs.Right.{asks_make, asks_spawn}
use Rattle.runs.specs.Threads.{EndsAs}
use Rattle.source_sem.specs.Source.{source, source_ask}
use Rattle.record_file.specs.Feeding.{IsNoRun, TakesAll}
use Rattle.record_file.proofs.Feeding.{came, never_came}
use Rattle.record_file.proofs.Running.{is_run, no_run_count, no_run_end, no_run_site}
use Rattle.record_file.proofs.run.run_log.Goals as goal
use Rattle.record_file.proofs.run.run_log.Goals.{then-not-branch-via-then-not-branch, then-not-branch-via-else-not-branch+then-site-log}

pub returns-then-not-branch-clause-ran : goal.returns-then-not-branch-clause-ran
returns-then-not-branch-clause-ran c =
    let x = c.args.machine.now.setting in
    let s = c.args.machine.now.thread in
    let log = c.args.log.now in
    let limits = c.args.limits.now in
    let t = c.feed_all.new.machine in
    let last = c.come_to.new.machine.thread in
    let children = c.in-Some.children.items in
    let takes : TakesAll x limits.turns s log.entries t.thread children =
    subst (λ es. TakesAll x limits.turns s es t.thread children) c.as_slice-entries.ensures (rw c.in-Some.is at c.in_ok-children.ensures.fed) in
    let none : IsNoRun x limits s log = elim c.then-not-branch.branch [
      | then-not-branch-via-then-not-branch w ↦
          no_run_count x limits s log t.thread children takes
          (never_came c.in_ok-come_to.field-0 x t.setting limits.turns log.instructions t.thread last w.if-not-branch.true c.in_ok-children.ensures.setting c.in_ok-come_to.ensures.comes)
      | then-not-branch-via-else-not-branch+then-site-log w ↦
          let came_here = came c.in_ok-come_to.field-0 x t.setting limits.turns log.instructions t.thread last w.if-not-branch.false c.in_ok-children.ensures.setting c.in_ok-come_to.ensures.comes in
          no_run_site x limits s log t.thread children takes last came_here.0 came_here.1 (λ is. w.if-site-log.true (w.site.ensures ∙ is))
    ] in
    none

pub returns-then-not-ends_as-clause-ran : goal.returns-then-not-ends_as-clause-ran
returns-then-not-ends_as-clause-ran c =
    let x = c.args.machine.now.setting in
    let s = c.args.machine.now.thread in
    let log = c.args.log.now in
    let limits = c.args.limits.now in
    let t = c.feed_all.new.machine in
    let last = c.come_to.new.machine.thread in
    let children = c.in-Some.children.items in
    let takes : TakesAll x limits.turns s log.entries t.thread children =
    subst (λ es. TakesAll x limits.turns s es t.thread children) c.as_slice-entries.ensures (rw c.in-Some.is at c.in_ok-children.ensures.fed) in
    let came_here = came c.in_ok-come_to.field-0 x t.setting limits.turns log.instructions t.thread last c.if-not-branch.false c.in_ok-children.ensures.setting c.in_ok-come_to.ensures.comes in
    let same = c.in_ok-come_to.ensures.setting ∙ c.in_ok-children.ensures.setting in
    no_run_end x limits s log t.thread children takes last came_here.0 came_here.1
    (λ ends. true≢false (sym (c.ends_as.ensures.1 (subst (λ y. EndsAs (source y) limits last log.«end») (sym same) ends)) ∙ c.if-not-ends_as.true))

pub returns-clause-ran : goal.returns-clause-ran
returns-clause-ran c =
    let x = c.args.machine.now.setting in
    let s = c.args.machine.now.thread in
    let log = c.args.log.now in
    let limits = c.args.limits.now in
    let t = c.feed_all.new.machine in
    let last = c.come_to.new.machine.thread in
    let children = c.in-Some.children.items in
    let takes : TakesAll x limits.turns s log.entries t.thread children =
    subst (λ es. TakesAll x limits.turns s es t.thread children) c.as_slice-entries.ensures (rw c.in-Some.is at c.in_ok-children.ensures.fed) in
    let came_here = came c.in_ok-come_to.field-0 x t.setting limits.turns log.instructions t.thread last c.if-not-branch.false c.in_ok-children.ensures.setting c.in_ok-come_to.ensures.comes in
    let same = c.in_ok-come_to.ensures.setting ∙ c.in_ok-children.ensures.setting in
    let asked = c.in_ok-ask.ensures.asks ∙ ap (λ y. source_ask y last) same in
    let own : All (λ (e : Entry). e.thread ≡ log.number) log.entries = subst (λ es. All (λ (e : Entry). e.thread ≡ log.number) es) c.as_slice-entries.ensures (c.are_own.ensures.0 c.if-not-are_own.false) in
    let ends : EndsAs (source x) limits last log.«end» = subst (λ y. EndsAs (source y) limits last log.«end») same (c.ends_as.ensures.0 c.if-not-ends_as.false) in
    is_run x limits s log t.thread children takes last came_here.0 came_here.1 own (sym c.site.ensures ∙ c.if-site-log.false) ends
    c.is_make.result c.is_spawn.result (c.is_make.ensures ∙ ap asks_make asked) (c.is_spawn.ensures ∙ ap asks_spawn asked)
