use Rattle.std.proofs.Common.{◌≡◌, ◌↔◌, true, List, [], sym, ◌∙◌, ap, subst}
use Rattle.std.specs.Prelude.{Option}
use Rattle.std.proofs.lemmas.Bool.{true≢false}
use Rattle.record_file.specs.declared.reached.Standing.{Standing}
use Rattle.record_file.specs.Joins.{AreJoinedRight}
use Rattle.record_file.specs.Reaching.{AllStand, HasCome, so_many}
use Rattle.record_file.proofs.Ending.{runs_joined}
use Rattle.record_file.proofs.Reaching.{all_stand, are_all_runs}
use Rattle.record_file.proofs.reached.has_runs.Goals as goal

pub returns-then-not-are_joined_right : goal.returns-then-not-are_joined_right
returns-then-not-are_joined_right c =
    λ r. true≢false (sym (c.are_joined_right.ensures.1 (runs_joined c.args.machine.setting c.args.limits.now c.args.main c.args.logs.now r)) ∙ c.if-not-are_joined_right.true)

pub returns-then-not-all_ran : goal.returns-then-not-all_ran
returns-then-not-all_ran c =
    let x = c.args.machine.setting in
    let ss = c.in-Some.standing.items in
    let come : HasCome x c.args.limits.now c.args.main c.args.logs.now ss [] = rw c.in-Some.is at c.in_ok-standing.ensures in
    let stand : (c.all_ran.result ≡ true) ↔ AllStand ss = subst (λ (xs : List (Option Standing)). (c.all_ran.result ≡ true) ↔ AllStand xs) c.deref.ensures.value c.all_ran.ensures in
    λ r. true≢false (sym (stand.1 (all_stand x c.args.limits.now c.args.main c.args.logs.now c.requires.threads ss come r)) ∙ c.if-not-all_ran.true)

pub returns-in_default : goal.returns-in_default
returns-in_default c = rw c.in_default.is at c.in_ok-standing.ensures

pub returns : goal.returns
returns c =
    let x = c.args.machine.setting in
    let ss = c.in-Some.standing.items in
    let come : HasCome x c.args.limits.now c.args.main c.args.logs.now ss [] = rw c.in-Some.is at c.in_ok-standing.ensures in
    let all : AllStand ss = subst AllStand c.deref.ensures.value (c.all_ran.ensures.0 c.if-not-all_ran.false) in
    let joined : AreJoinedRight c.args.logs.now = c.are_joined_right.ensures.0 c.if-not-are_joined_right.false in
    let makes : c.asking_makes.result ≡ so_many (λ a. a.makes) ss = c.asking_makes.ensures.count ∙ ap (so_many (λ a. a.makes)) c.deref-2.ensures.value in
    let spawns : c.asking_spawns.result ≡ so_many (λ a. a.spawns) ss = c.asking_spawns.ensures.count ∙ ap (so_many (λ a. a.spawns)) c.deref-3.ensures.value in
    are_all_runs x c.args.limits.now c.args.main c.args.logs.now c.requires.threads ss come all joined (record { makes = c.asking_makes.result; spawns = c.asking_spawns.result }) makes spawns
