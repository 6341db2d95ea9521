use Rattle.std.proofs.Common.{◌≡◌, ◌<◌, ◌≤◌, Option, Some, None, MatchOption, All, List, sym, subst, ◌∙◌, vec_len, vec_capacity, arith}
use Rattle.history.specs.declared.entry.Entry.{Entry}
use Rattle.history.specs.Objects.{Object, unmade}
use Rattle.alloc_state.specs.Log.{Log}
use Rattle.history.specs.Histories.{HasBytes, IsHistory, replay}
use Rattle.alloc_state.specs.Repeats.{IsStillAfter, HasCutsBy, IsWithinRepeat, visits_of}
use Rattle.alloc_state.proofs.Repeating.{prepare-still, prepare-cuts, prepare-repeat, prepare-rises}
use Rattle.alloc_state.proofs.alloc_state.AllocState.prepare.Goals as goal

for-each : {A : Type 0} (o : Option A) (P : Type 0) → P → MatchOption o (Unit {0}) (λ _. P)
for-each None P h = tt
for-each (Some a) P h = h

pub invariant_of-self-2 : goal.invariant_of-self-2
invariant_of-self-2 c =
    let number = c.self.inside.number.0 in
    let old = c.self.inside.state in
    let now = c.prepare.new.self in
    let same = sym c.reserve.ensures.items in
    let entries = c.self.inside.entries.items in
    let made = old.object.made in
    record {
      history = subst (λ (es : List Entry). IsHistory number es) same c.self.invariant.history;
      bytes = subst (λ (es : List Entry). All (λ (e : Entry). HasBytes e.request) es) same c.self.invariant.bytes;
      state = subst (λ (es : List Entry). replay (unmade number) es ≡ now.object) same (c.self.invariant.state ∙ sym c.prepare.ensures.object);
      still = subst (λ (es : List Entry). IsStillAfter es now.tree) same (prepare-still entries old.object.number made old.tree now.tree c.args.request.now c.self.invariant.still c.prepare.ensures.counted);
      cuts = subst (λ (es : List Entry). HasCutsBy es now.tree) same (prepare-cuts entries old.object.number made old.tree now.tree c.args.request.now c.self.invariant.cuts c.prepare.ensures.counted);
      room = for-each now.ready (vec_len c.reserve.new.self < vec_capacity c.reserve.new.self) (omega (arith, c.in_ok-reserve.ensures.ok));
    }

pub returns-clause-repeat : goal.returns-clause-repeat
returns-clause-repeat c =
    let old = c.self.inside.state in
    let now = c.prepare.new.self in
    let entries = c.self.inside.entries.items in
    let request = c.args.request.now in
    subst (λ (l : Log). IsWithinRepeat (replay (unmade l.number.0) l.entries) l.entries request l.visits (visits_of now.tree)) c.self.view_is
    (subst (λ (o : Object). IsWithinRepeat o entries request (visits_of old.tree) (visits_of now.tree)) (sym c.self.invariant.state)
    (prepare-repeat old.object entries old.tree now.tree request c.prepare.ensures.stands c.self.invariant.still c.self.invariant.cuts c.prepare.ensures.counted))

pub returns-clause-rises : goal.returns-clause-rises
returns-clause-rises c =
    let old = c.self.inside.state in
    let now = c.prepare.new.self in
    subst (λ (l : Log). l.visits ≤ visits_of now.tree) c.self.view_is (prepare-rises old.object.number old.object.made old.tree now.tree c.args.request.now c.prepare.ensures.counted)
