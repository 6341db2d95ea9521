use Rattle.std.proofs.Common.{ap, sym, ◌∙◌, subst, arith, map, All}
use Rattle.std.specs.List.{remove}
use Rattle.interp.specs.declared.child.Child.{Child}
use Rattle.interp.specs.Running.{view_of, kid_of, kids_of, IsPromised}
use Rattle.interp.specs.Goes.{Takes}
use Rattle.interp.proofs.Children.{takes_removed}
use Rattle.interp.proofs.Joining.{may_join, joined_goes, root_there, end_kept, promised_answer, any_default, all_removed, place_within}
use Rattle.interp.proofs.running.Running.join_kid.Goals as goal

pub join-requires-clause-out : goal.join-requires-clause-out
join-requires-clause-out g c =
    let setting = g.T.Thread.setting in
    let state = g.T.Thread.state in
    let space = c.args.space.now in
    let r = c.args.self.now in
    let x = c.remove-kid.result in
    let q = x.handle.promise in
    let over = c.requires.there.0 in
    let going = c.requires.there.1 in
    let takes = takes_removed (kid_of setting state) r.kids.items c.args.at x (place_within r.kids c.args.at c.requires.place) c.remove-kid.ensures.value in
    let promised = subst (λ (y : Child g.row.T.Denot). IsPromised setting state space r.hosts.value (setting r.machine) r.number y.handle.promise) (sym c.remove-kid.ensures.value) (going.promised c.args.at x (place_within r.kids c.args.at c.requires.place)) in
    let answer = promised_answer setting state space r.hosts.value (setting r.machine) r.number c.into_handle.result.promise q c.join-kid_tree.result.0 c.join-kid_tree.result.1 c.into_handle.ensures.handle promised c.join-kid_tree.ensures in
    (may_join setting state space r over (view_of setting state r.machine) (kids_of setting state r) (map (kid_of setting state) (remove r.kids.items c.args.at)) q.number q.function (view_of setting state q.machine.value) q.desk.value c.join-kid_tree.result.1 c.join-kid_tree.result.0 takes answer promised.setting_is going).2

pub returns-clause-going : goal.returns-clause-going
returns-clause-going g c = λ over going.
    let setting = g.T.Thread.setting in
    let state = g.T.Thread.state in
    let space = c.args.space.now in
    let r = c.args.self.now in
    let x = c.remove-kid.result in
    let q = x.handle.promise in
    let ks = c.remove-kid.new.self in
    let ts = c.push_reserved.new.self in
    let takes = subst (λ l. Takes (kids_of setting state r) (kid_of setting state x) (map (kid_of setting state) l)) (sym c.remove-kid.ensures.items) (takes_removed (kid_of setting state) r.kids.items c.args.at x (place_within r.kids c.args.at c.requires.place) c.remove-kid.ensures.value) in
    let P = λ (y : Child g.row.T.Denot). IsPromised setting state space r.hosts.value (setting r.machine) r.number y.handle.promise in
    let promised = subst (λ (y : Child g.row.T.Denot). IsPromised setting state space r.hosts.value (setting r.machine) r.number y.handle.promise) (sym c.remove-kid.ensures.value) (going.promised c.args.at x (place_within r.kids c.args.at c.requires.place)) in
    let answer = promised_answer setting state space r.hosts.value (setting r.machine) r.number c.into_handle.result.promise q c.join-kid_tree.result.0 c.join-kid_tree.result.1 c.into_handle.ensures.handle promised c.join-kid_tree.ensures in
    joined_goes setting state space r over (view_of setting state r.machine) (kids_of setting state r) (map (kid_of setting state) ks.items) q.number q.function (view_of setting state q.machine.value) q.desk.value c.join-kid_tree.result.1 c.join-kid_tree.result.0 takes answer promised.setting_is going
    c.join.new.desk ks ts c.join.ensures c.push_reserved.ensures.items (subst (λ l. All P l) (sym c.remove-kid.ensures.items) (all_removed P r.kids.items c.args.at going.promised))
    (let room = going.room in let a = c.remove-kid.ensures.len in let b = c.push_reserved.ensures.len in let d = c.push_reserved.ensures.capacity in omega (arith, room, a, b, d))

pub returns-clause-below : goal.returns-clause-below
returns-clause-below g c = λ k e.
    let setting = g.T.Thread.setting in
    let state = g.T.Thread.state in
    let space = c.args.space.now in
    let r = c.args.self.now in
    let x = c.remove-kid.result in
    let q = x.handle.promise in
    let over = c.requires.there.0 in
    let going = c.requires.there.1 in
    let takes = takes_removed (kid_of setting state) r.kids.items c.args.at x (place_within r.kids c.args.at c.requires.place) c.remove-kid.ensures.value in
    let promised = subst (λ (y : Child g.row.T.Denot). IsPromised setting state space r.hosts.value (setting r.machine) r.number y.handle.promise) (sym c.remove-kid.ensures.value) (going.promised c.args.at x (place_within r.kids c.args.at c.requires.place)) in
    let answer = promised_answer setting state space r.hosts.value (setting r.machine) r.number c.into_handle.result.promise q c.join-kid_tree.result.0 c.join-kid_tree.result.1 c.into_handle.ensures.handle promised c.join-kid_tree.ensures in
    end_kept setting state space r over (view_of setting state r.machine) (kids_of setting state r) (map (kid_of setting state) (remove r.kids.items c.args.at)) q.number q.function (view_of setting state q.machine.value) q.desk.value c.join-kid_tree.result.1 c.join-kid_tree.result.0 takes answer promised.setting_is going
    c.push_reserved.new.self.items k c.push_reserved.ensures.items e

pub returns-clause-root : goal.returns-clause-root
returns-clause-root g c = λ d.
    let setting = g.T.Thread.setting in
    let state = g.T.Thread.state in
    let space = c.args.space.now in
    let r = c.args.self.now in
    let x = c.remove-kid.result in
    let q = x.handle.promise in
    let over = c.requires.there.0 in
    let going = c.requires.there.1 in
    let takes = takes_removed (kid_of setting state) r.kids.items c.args.at x (place_within r.kids c.args.at c.requires.place) c.remove-kid.ensures.value in
    let promised = subst (λ (y : Child g.row.T.Denot). IsPromised setting state space r.hosts.value (setting r.machine) r.number y.handle.promise) (sym c.remove-kid.ensures.value) (going.promised c.args.at x (place_within r.kids c.args.at c.requires.place)) in
    let answer = promised_answer setting state space r.hosts.value (setting r.machine) r.number c.into_handle.result.promise q c.join-kid_tree.result.0 c.join-kid_tree.result.1 c.into_handle.ensures.handle promised c.join-kid_tree.ensures in
    let there = root_there setting state space r over (view_of setting state r.machine) (kids_of setting state r) (map (kid_of setting state) (remove r.kids.items c.args.at)) q.number q.function (view_of setting state q.machine.value) q.desk.value c.join-kid_tree.result.1 c.join-kid_tree.result.0 takes answer promised.setting_is going
    c.push_reserved.new.self.items c.push_reserved.ensures.items in
    (there.0, there.1, there.2 ∙ (sym x.named ∙ ap (λ (y : Child g.row.T.Denot). y.number) (c.remove-kid.ensures.value ∙ any_default r.kids.items c.args.at x d (place_within r.kids c.args.at c.requires.place))))
