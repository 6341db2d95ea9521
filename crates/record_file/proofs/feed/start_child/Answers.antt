use Rattle.std.proofs.Common.{◌≡◌, refl, sym, ap, subst}
use Rattle.std.specs.Prelude.{Some}
use Rattle.runs.specs.Parts.{child_of}
use Rattle.source_machine.specs.Running.{Running}
use Rattle.source_sem.specs.Source.{source_child}
use Rattle.record_file.specs.declared.feed.Child.{Child}
use Rattle.record_file.specs.Starting.{HasStarted}
use Rattle.record_file.proofs.feed.start_child.Goals as goal

pub returns-in_ok-push : goal.returns-in_ok-push
returns-in_ok-push c =
    let m = c.args.machine.now in
    let n = c.in-Spawn-Spawned.number in
    let tells : child_of c.args.entry.now ≡ Some n.0 = cc in
    let child : Child = record { number = n; machine = c.in_ok-child.field-0 } in
    subst (λ o. HasStarted m.setting o (source_child m.setting m.thread) c.args.children.now.items c.push.new.self.items) (sym tells)
    (child, refl, ap (λ (r : Running). r.setting) c.in_ok-child.ensures, ap (λ (r : Running). r.thread) c.in_ok-child.ensures, c.in_ok-push.ensures.items)
