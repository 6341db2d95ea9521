use Rattle.std.proofs.Common.{◌≡◌, ◌∷◌, ◌++◌, ◌<◌, ◌≤◌, [], All, true, false, Some, None, ap, sym, ◌∙◌, subst, refl, List, Option}
use Rattle.std.proofs.lemmas.List.Elements.{All-append, All-cons, All-nil}
use Rattle.history.specs.declared.entry.Entry.{Entry}
use Rattle.history.specs.declared.entry.Request.{Request}
use Rattle.history.specs.declared.entry.Reply.{Reply}
use Rattle.history.specs.Objects.{Object, answer, unmade}
use Rattle.history.specs.Histories.{replay, is_make, HasBytes}
use Rattle.alloc_state.specs.Log.{Log, has_make}
use Rattle.alloc_state.specs.Prepared.{AreBelow, is_made_in}
use Rattle.alloc_state.specs.Repeats.{IsWithinRepeat, visits_of}
use Rattle.alloc_state.proofs.LongerHistory.{IsHistory-push, replay-push}
use Rattle.alloc_state.proofs.TagsBelow.{AreBelow-replay}
use Rattle.alloc_state.proofs.Makes.{none_made, made_where_make}
use Rattle.alloc_state.proofs.Repeating.{still-after, run-cuts, run-repeat, run-rises}
use Rattle.alloc_state.proofs.alloc_state.AllocState.commit.Goals as goal

pub run-ran-requires-clause-newest : goal.run-ran-requires-clause-newest
run-ran-requires-clause-newest c =
    let number = c.self.inside.number.0 in
    let entries = c.self.inside.entries.items in
    let stamp = c.args.stamp in
    let later = subst (λ (l : Log). All (λ (e : Entry). e.stamp.0 < stamp.0) l.entries) (sym c.self.view_is) c.requires.later in
    subst (λ (o : Object). AreBelow stamp.0 o) c.self.invariant.state (AreBelow-replay (unmade number) entries stamp.0 later tt)

pub invariant_of-self : goal.invariant_of-self
invariant_of-self c =
    let number = c.self.inside.number.0 in
    let entries = c.self.inside.entries.items in
    let request = c.args.request in
    let stamp = c.args.stamp in
    let entry : Entry = record { thread = c.args.thread; stamp = stamp; site = c.args.site; alloc = Some c.self.inside.number; request = request; reply = c.run-ran.result.reply } in
    let state = c.self.invariant.state in
    let later = subst (λ (l : Log). All (λ (e : Entry). e.stamp.0 < stamp.0) l.entries) (sym c.self.view_is) c.requires.later in
    let once = subst (λ (l : Log). is_make request ≡ true → has_make l.entries ≡ false) (sym c.self.view_is) c.requires.once in
    let reply = c.run-ran.ensures.reply ∙ ap (λ (o : Object). (answer o request stamp).reply) (sym state) in
    record {
      history = rw c.push_reserved.ensures.items (IsHistory-push number entries entry c.self.invariant.history later refl c.requires.fitting (λ h. none_made entries (once h)) reply);
      bytes = rw c.push_reserved.ensures.items (All-append (λ (x : Entry). HasBytes x.request) entries (entry ∷ []) c.self.invariant.bytes (All-cons (λ (x : Entry). HasBytes x.request) entry [] c.requires.bytes (All-nil (λ (x : Entry). HasBytes x.request))));
      state = ap (replay (unmade number)) c.push_reserved.ensures.items ∙ replay-push (unmade number) entries entry ∙ ap (λ (o : Object). (answer o request stamp).object) state ∙ sym c.run-ran.ensures.object;
      still = rw c.push_reserved.ensures.items (still-after c.self.inside.state.object.number c.self.inside.state.object.made c.self.inside.state.tree c.run-ran.new.self.tree entries entry c.run-ran.ensures.reply c.run-ran.ensures.counted);
      cuts = rw c.push_reserved.ensures.items (run-cuts entries entry c.self.inside.state.object.number c.self.inside.state.object.made c.self.inside.state.tree c.run-ran.new.self.tree c.self.invariant.cuts c.run-ran.ensures.counted);
      room = rw c.run-ran.ensures.ready tt;
    }

pub returns-clause-appended : goal.returns-clause-appended
returns-clause-appended c =
    let request = c.args.request in
    let stamp = c.args.stamp in
    let items = c.self.inside.entries.items in
    let visits = visits_of c.run-ran.new.self.tree in
    let entry : Request → Reply → Entry = λ q r. record { thread = c.args.thread; stamp = stamp; site = c.args.site; alloc = Some c.self.inside.number; request = q; reply = r } in
    let log : List Entry → Option Request → Log = λ es r. record { number = c.self.inside.number; entries = es; ready = r; visits = visits } in
    ap (λ (es : List Entry). log es c.run-ran.new.self.ready) c.push_reserved.ensures.items
    ∙ ap (λ (r : Option Request). log (items ++ entry request c.run-ran.result.reply ∷ []) r) c.run-ran.ensures.ready
    ∙ ap (λ (q : Request). log (items ++ entry q c.run-ran.result.reply ∷ []) None) (sym c.run-ran.ensures.request)
    ∙ ap (λ (r : Reply). log (items ++ entry c.run-ran.result.request r ∷ []) None) (sym c.run-ran.ensures.again)
    ∙ ap (λ (l : Log). record { number = l.number; entries = l.entries ++ entry c.run-ran.result.request c.run-ran.result.again ∷ []; ready = None; visits = visits }) c.self.view_is

pub returns-clause-repeat : goal.returns-clause-repeat
returns-clause-repeat c =
    let old = c.self.inside.state in
    let now = c.run-ran.new.self in
    let entries = c.self.inside.entries.items in
    let request = c.args.request in
    subst (λ (l : Log). IsWithinRepeat (replay (unmade l.number.0) l.entries) l.entries request l.visits (visits_of now.tree)) c.self.view_is
    (subst (λ (o : Object). IsWithinRepeat o entries request (visits_of old.tree) (visits_of now.tree)) (sym c.self.invariant.state)
    (run-repeat old.object entries old.tree now.tree request c.run-ran.result.reply.verdict c.run-ran.ensures.stands c.self.invariant.still c.self.invariant.cuts c.run-ran.ensures.counted))

pub returns-clause-rises : goal.returns-clause-rises
returns-clause-rises c =
    let old = c.self.inside.state in
    let now = c.run-ran.new.self in
    let entries = c.self.inside.entries.items in
    let once = subst (λ (l : Log). is_make c.args.request ≡ true → has_make l.entries ≡ false) (sym c.self.view_is) c.requires.once in
    let made : is_made_in old.object ≡ has_make entries = ap (λ (o : Object). is_made_in o) (sym c.self.invariant.state) ∙ made_where_make c.self.inside.number.0 entries in
    subst (λ (l : Log). l.visits ≤ visits_of now.tree) c.self.view_is
    (run-rises old.object.number old.object.made old.tree now.tree c.args.request c.run-ran.result.reply.verdict (λ make. made ∙ once make) c.run-ran.ensures.counted)

pub returns-clause-history : goal.returns-clause-history
returns-clause-history c = (invariant_of-self c).history

pub returns-clause-bytes : goal.returns-clause-bytes
returns-clause-bytes c = (invariant_of-self c).bytes
