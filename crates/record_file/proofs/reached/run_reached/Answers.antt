use Rattle.std.proofs.Common.{rules, ◌≡◌, ◌-◌, ℕ, List, [], ◌∷◌, ◌++◌, append-nil, length, refl, sym, ◌∙◌, ap, subst, take, vec_len, arith}
use Rattle.std.specs.Prelude.{Option, Some, None, slice_get}
use Rattle.record_file.specs.declared.feed.Child.{Child}
use Rattle.record_file.specs.declared.reached.Standing.{Standing}
use Rattle.record_file.specs.Reaching.{ComesOn, HasCome}
use Rattle.record_file.proofs.Ending.{came_not, came_on, none_set}
use Rattle.record_file.proofs.Others.{of_parts}
use Rattle.record_file.proofs.Reaching.{begins}
use Rattle.record_file.proofs.reached.run_reached.Goals as goal

pub loop-child-init : goal.loop-child-init
loop-child-init c =
    let x = c.args.machine.setting in
    let logs = c.args.logs.now in
    let ss = c.in_ok-standing.standing.items in
    let child : Child = record { number = record { 0 = 0 }; machine = c.args.machine } in
    let none : (i : ℕ) (o : Option Standing) → slice_get ss i ≡ Some o → o ≡ None =
    λ i o is. none_set _ i o (subst (λ (xs : List (Option Standing)). slice_get xs i ≡ Some o) (c.in_ok-standing.ensures.items_if_clones_equal (λ y h. search rules)) is) in
    let long : length ss ≡ length logs = omega (arith, c.in_ok-standing.ensures.len, c.in_ok-standing.standing.ok.0) in
    subst (HasCome x c.args.limits.now c.args.main logs ss) (sym (c.in_ok-push.ensures.items ∙ ap (λ (z : List Child). z ++ child ∷ []) c.new-waiting.ensures.items))
    (begins x c.args.limits.now c.args.main logs ss child long none refl refl c.requires.begins)

pub run_child-requires-clause-come : goal.run_child-requires-clause-come
run_child-requires-clause-come c =
    let x = c.args.machine.setting in
    let come = subst (HasCome x c.args.limits.now c.args.main c.args.logs.now c.loop-child.standing.items) c.in-Some.ensures.items c.loop-child.invariant in
    subst (λ s. HasCome s c.args.limits.now c.args.main c.args.logs.now c.loop-child.standing.items (c.pop.new.self.items ++ c.in-Some.child ∷ [])) (sym (of_parts x c.pop.new.self.items (c.in-Some.child ∷ []) come.of).1.0) come

pub returns-then-not-branch : goal.returns-then-not-branch
returns-then-not-branch c =
    let x = c.args.machine.setting in
    let ss = c.loop-child.standing.items in
    let come = subst (HasCome x c.args.limits.now c.args.main c.args.logs.now ss) c.in-Some.ensures.items c.loop-child.invariant in
    let own = (of_parts x c.pop.new.self.items (c.in-Some.child ∷ []) come.of).1.0 in
    came_not x c.args.limits.now c.args.main c.args.logs.now c.in_ok-run_child.field-0 ss c.run_child.new.standing.items c.run_child.new.waiting.items c.if-not-branch.true
    (subst (λ s. ComesOn c.in_ok-run_child.field-0 s c.args.limits.now c.args.main c.args.logs.now ss c.run_child.new.standing.items c.run_child.new.waiting.items) own c.in_ok-run_child.ensures)

pub loop-child-preserved : goal.loop-child-preserved
loop-child-preserved c =
    let x = c.args.machine.setting in
    let ss = c.loop-child.standing.items in
    let come = subst (HasCome x c.args.limits.now c.args.main c.args.logs.now ss) c.in-Some.ensures.items c.loop-child.invariant in
    let own = (of_parts x c.pop.new.self.items (c.in-Some.child ∷ []) come.of).1.0 in
    (came_on x c.args.limits.now c.args.main c.args.logs.now c.in_ok-run_child.field-0 ss c.run_child.new.standing.items c.run_child.new.waiting.items c.if-not-branch.false
    (subst (λ s. ComesOn c.in_ok-run_child.field-0 s c.args.limits.now c.args.main c.args.logs.now ss c.run_child.new.standing.items c.run_child.new.waiting.items) own c.in_ok-run_child.ensures)).0

pub loop-child-smaller : goal.loop-child-smaller
loop-child-smaller c =
    let x = c.args.machine.setting in
    let ss = c.loop-child.standing.items in
    let come = subst (HasCome x c.args.limits.now c.args.main c.args.logs.now ss) c.in-Some.ensures.items c.loop-child.invariant in
    let own = (of_parts x c.pop.new.self.items (c.in-Some.child ∷ []) come.of).1.0 in
    (came_on x c.args.limits.now c.args.main c.args.logs.now c.in_ok-run_child.field-0 ss c.run_child.new.standing.items c.run_child.new.waiting.items c.if-not-branch.false
    (subst (λ s. ComesOn c.in_ok-run_child.field-0 s c.args.limits.now c.args.main c.args.logs.now ss c.run_child.new.standing.items c.run_child.new.waiting.items) own c.in_ok-run_child.ensures)).1

pub returns : goal.returns
returns c =
    let empty : vec_len c.loop-child.waiting ≡ 0 = c.in_default.ensures.cases.0 in
    let none : take (vec_len c.loop-child.waiting - 1) c.loop-child.waiting.items ≡ [] = rw empty refl in
    let nothing : c.loop-child.waiting.items ≡ [] = c.in_default.ensures.items ∙ append-nil c.pop.new.self.items ∙ c.in_default.ensures.rest ∙ none in
    subst (HasCome c.args.machine.setting c.args.limits.now c.args.main c.args.logs.now c.loop-child.standing.items) nothing c.loop-child.invariant
