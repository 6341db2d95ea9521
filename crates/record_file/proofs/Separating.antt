-- A run of all threads over all numbers is in order, and its part on each number is a legal history.
use Rattle.std.proofs.Common.{◌≡◌, ◌≢◌, ℕ, zero, suc, Bool, true, false, List, [], ◌∷◌, refl, sym, ◌∙◌, ap, subst, inl, inr}
use Rattle.std.specs.Prelude.{Some, None, if◌then◌else◌}
use Rattle.std.specs.declared.option.Option.{Option}
use Rattle.std.proofs.lemmas.Bool.{eq-eqb, eqb-true, true≢false}
use Rattle.bsan_ids.specs.declared.numbers.AllocNo.{AllocNo}
use Rattle.bsan_ids.specs.declared.numbers.Prov.{Prov}
use Rattle.bsan_ids.specs.declared.numbers.ThreadNo.{ThreadNo}
use Rattle.history.specs.declared.ask.Ask.{Ask}
use Rattle.history.specs.declared.ask.Ask.TheVariants as ask
use Rattle.history.specs.declared.ask.MachineEnd.TheVariants as end
use Rattle.history.specs.declared.entry.Entry.{Entry}
use Rattle.history.specs.declared.entry.Plain.TheVariants as plain
use Rattle.history.specs.declared.entry.Reply.{Reply}
use Rattle.history.specs.declared.entry.Request.{Request}
use Rattle.history.specs.declared.entry.Request.TheVariants as request
use Rattle.history.specs.declared.log.End.{End}
use Rattle.history.specs.declared.log.End.TheVariants as log_end
use Rattle.runs.specs.Interleaving.{World, world_after, HasReturned, Allowed, Replies, Event, Interleaves, Legal, MakesUnmade}
use Rattle.runs.specs.Machine.{Machine, Memory, TurnsTo, Settles}
use Rattle.runs.specs.Order.{StandsRight, with_child, InOrder}
use Rattle.runs.specs.Parts.{Has, Answers, names, of_alloc, of_thread, child_of}
use Rattle.runs.specs.Threads.{Fed}
use Rattle.runs.proofs.Composition.{ThreadAt, other_step, own_entries, settles_without, thread_after}

-- who is joined has returned what the entry answers
abbrev pub JoinsEnded : (ℕ → End) → List Entry → Type 0
JoinsEnded ends es = (e : Entry) (c : ThreadNo) → Has es e → e.request ≡ request.Join c → (v : ℕ) × (e.reply.plain ≡ plain.Value v) × (ends c.0 ≡ log_end.Returned v e.reply.carried)

value_inj : (v w : ℕ) → plain.Value v ≡ plain.Value w → v ≡ w
value_inj v w is = cc

-- what an entry asks besides ----------------------------------------------------------

-- no request to an allocation
abbrev IsAlone : Request → Type 0
IsAlone (request.Print v) = Unit {0}
IsAlone (request.Host n a b) = Unit {0}
IsAlone (request.Spawn f) = Unit {0}
IsAlone (request.Join c) = Unit {0}
IsAlone _ = ⊥

on_alone : (r : Request) → Rattle.history.specs.Replies.IsOnNumber r → IsAlone r → ⊥
on_alone (request.Print v) on alone = on
on_alone (request.Host n a b) on alone = on
on_alone (request.Spawn f) on alone = on
on_alone (request.Join c) on alone = on
on_alone _ on alone = alone

alone_nowhere : (k : Ask) (e : Entry) → Answers k e → IsAlone e.request → e.alloc ≡ None
alone_nowhere ask.Turn e h alone = absurd h
alone_nowhere (ask.Ended over) e h alone = absurd h
alone_nowhere (ask.Make size place) e h alone = absurd (subst IsAlone h alone)
alone_nowhere (ask.At a r) e h alone = absurd (on_alone r h.2 (subst IsAlone h.0 alone))
alone_nowhere (ask.Print v) e h alone = h.1
alone_nowhere (ask.Host n a b) e h alone = h.1
alone_nowhere (ask.Spawn f) e h alone = h.1
alone_nowhere (ask.Join c) e h alone = h.1

nowhere : {X : Type 0} (o : Option AllocNo) (a : AllocNo) → o ≡ None → o ≡ Some a → X
nowhere o a none is = absurd (let no : None ≡ Some a = sym none ∙ is in cc)

same_number : (o : Option AllocNo) (a b : AllocNo) → o ≡ Some a → o ≡ Some b → a ≡ b
same_number o a b p q = let both : Some a ≡ Some b = sym p ∙ q in cc

pub named_some : (o : Option AllocNo) (a : ℕ) → names o a ≡ true → o ≡ Some (record { 0 = a })
named_some None a is = absurd (true≢false (sym is))
named_some (Some b) a is = ap (λ (n : ℕ). Some (record { 0 = n })) (eqb-true b.0 a is)

module _ (M : Machine) where
  -- local turns lead to one state that asks for something else
  settled_once : (n k : ℕ) (s a b : M.State) → TurnsTo M n s a → TurnsTo M k s b → M.ask a ≢ ask.Turn → M.ask b ≢ ask.Turn → a ≡ b
  settled_once zero zero s a b h g rests_a rests_b = sym h ∙ g
  settled_once zero (suc k) s a b h g rests_a rests_b = absurd (rests_a (ap M.ask (sym h) ∙ g.0))
  settled_once (suc n) zero s a b h g rests_a rests_b = absurd (rests_b (ap M.ask (sym g) ∙ h.0))
  settled_once (suc n) (suc k) s a b h g rests_a rests_b = settled_once n k (M.turn s) a b h.1 g.1 rests_a rests_b

  asks_no_turn : (s : M.State) (e : Entry) → Answers (M.ask s) e → M.ask s ≢ ask.Turn
  asks_no_turn s e h turn = subst (λ k. Answers k e) turn h

  -- a started thread stands where the world says
  started_there : (b : Bool) (at : Option M.State) (now before : M.State) → at ≡ Some before → at ≡ (if b then Some now else None) → (b ≡ true) × (now ≡ before)
  started_there true at now before is stands = (refl, let same : Some now ≡ Some before = sym stands ∙ is in cc)
  started_there false at now before is stands = absurd (let no : None ≡ Some before = sym stands ∙ is in cc)

  not_started : (b : Bool) (at : Option M.State) (now : M.State) → at ≡ None → at ≡ (if b then Some now else None) → b ≡ false
  not_started true at now none stands = absurd (let no : None ≡ Some now = sym none ∙ stands in cc)
  not_started false at now none stands = refl

module _ (M : Machine) (O : Memory) (A : Allowed) (turns : ℕ) (starts : ℕ → M.State) (ends : ℕ → End) where
  -- a thread that has returned asks nothing more
  none_left : (b : Bool) (at : Option M.State) (t : ℕ) (es : List Entry) (v : ℕ) (p : Option Prov) → HasReturned M at v p → ThreadAt M turns starts ends b at t es → es ≡ []
  none_left b at t [] v p r h = refl
  none_left b at t (e ∷ es) v p r h =
      let f : Fed M turns starts h.now e = h.feeds.0 in
      let here : h.now ≡ r.before = (started_there M b at h.now r.before r.started h.stands).1 in
      let fed : Settles M h.now f.now = settles_without M turns h.now f.now f.settles in
      let over : Settles M h.now r.now = subst (λ s. Settles M s r.now) (sym here) r.settles in
      let rests : M.ask r.now ≢ ask.Turn = λ turn. (let no : ask.Turn ≡ ask.Ended (end.Returned v p) = sym turn ∙ r.returned in cc) in
      let one : f.now ≡ r.now = settled_once M fed.0 over.0 h.now f.now r.now fed.1 over.1 (asks_no_turn M f.now e f.asks) rests in
      absurd (subst (λ k. Answers k e) (ap M.ask one ∙ r.returned) f.asks)

  stands_right : (started : ℕ → Bool) (w : World M O) (e : Entry) (es : List Entry) (r : Request) → e.request ≡ r → Replies M O A w e r
      → ((t : ℕ) → ThreadAt M turns starts ends (started t) (w.threads t) t (of_thread t (e ∷ es)))
      → ((c : ThreadNo) → e.request ≡ request.Join c → (v : ℕ) × (e.reply.plain ≡ plain.Value v) × (ends c.0 ≡ log_end.Returned v e.reply.carried))
      → StandsRight A ends started (e ∷ es) e r
  stands_right started w e es (request.Make size place) is h threads joins = (h.0, h.1, h.2, h.3)
  stands_right started w e es (request.Print v) is h threads joins = h
  stands_right started w e es (request.Host n x y) is h threads joins = h
  stands_right started w e es (request.Spawn f) is h threads joins =
      let at = threads h.0.0 in (h.0, h.1, h.2, not_started M (started h.0.0) (w.threads h.0.0) at.now h.3 at.stands, h.4)
  stands_right started w e es (request.Join c) is h threads joins =
      let at = threads c.0 in
      let j = joins c is in
      let word : j.0 ≡ h.0 = value_inj j.0 h.0 (sym j.1 ∙ ap (λ (y : Reply). y.plain) h.3) in
      let carried : e.reply.carried ≡ h.1 = ap (λ (y : Reply). y.carried) h.3 in (
        h.0,
        h.1,
        (started_there M (started c.0) (w.threads c.0) at.now h.2.before h.2.started at.stands).0,
        none_left (started c.0) (w.threads c.0) c.0 (of_thread c.0 (e ∷ es)) h.0 h.1 h.2 at,
        j.2 ∙ ap (λ (k : ℕ). log_end.Returned k e.reply.carried) word ∙ ap (λ (q : Option Prov). log_end.Returned h.0 q) carried,
        h.3,
      )
  stands_right started w e es _ is h threads joins = (h.0, h.1)

  -- the object of the entry's number gives its reply
  object_gives : (w : World M O) (e : Entry) (r : Request) → e.request ≡ r → (IsAlone r → e.alloc ≡ None) → Replies M O A w e r → (a : AllocNo) → e.alloc ≡ Some a
      → MakesUnmade O (w.objects a.0) r × (e.reply ≡ O.reply (w.objects a.0) e.request e.stamp.0)
  object_gives w e (request.Make size place) is alone h a at =
      let one : h.0 ≡ a = same_number e.alloc h.0 a h.1 at in
      (subst (λ (b : AllocNo). O.made (w.objects b.0) ≡ false) one h.4, subst (λ (b : AllocNo). e.reply ≡ O.reply (w.objects b.0) e.request e.stamp.0) one h.5)
  object_gives w e (request.Print v) is alone h a at = nowhere e.alloc a (alone tt) at
  object_gives w e (request.Host n x y) is alone h a at = nowhere e.alloc a (alone tt) at
  object_gives w e (request.Spawn f) is alone h a at = nowhere e.alloc a (alone tt) at
  object_gives w e (request.Join c) is alone h a at = nowhere e.alloc a (alone tt) at
  object_gives w e _ is alone h a at =
      let one : h.0 ≡ a = same_number e.alloc h.0 a h.1 at in
      (tt, subst (λ (b : AllocNo). e.reply ≡ O.reply (w.objects b.0) e.request e.stamp.0) one h.2)

  legal_before : (w : World M O) (e : Entry) (es : List Entry) (a : ℕ)
      → ((b : AllocNo) → e.alloc ≡ Some b → MakesUnmade O (w.objects b.0) e.request × (e.reply ≡ O.reply (w.objects b.0) e.request e.stamp.0))
      → (b : Bool) → names e.alloc a ≡ b
      → Legal O (if names e.alloc a then O.next (w.objects a) e.request e.stamp.0 else w.objects a) (of_alloc a es)
      → Legal O (w.objects a) (of_alloc a (e ∷ es))
  legal_before w e es a gives true is legal =
      let g = gives (record { 0 = a }) (named_some e.alloc a is) in
      let F : Bool → Type 0 = λ c. Legal O (w.objects a) (if c then e ∷ of_alloc a es else of_alloc a es) in
      let G : Bool → Type 0 = λ c. Legal O (if c then O.next (w.objects a) e.request e.stamp.0 else w.objects a) (of_alloc a es) in
      subst F (sym is) (g.0, g.1, subst G is legal)
  legal_before w e es a gives false is legal =
      let F : Bool → Type 0 = λ c. Legal O (w.objects a) (if c then e ∷ of_alloc a es else of_alloc a es) in
      let G : Bool → Type 0 = λ c. Legal O (if c then O.next (w.objects a) e.request e.stamp.0 else w.objects a) (of_alloc a es) in
      subst F (sym is) (subst G is legal)

  pub separated : (es : List Entry) (started : ℕ → Bool) (w : World M O) → Interleaves M O A w es
      → ((t : ℕ) → ThreadAt M turns starts ends (started t) (w.threads t) t (of_thread t es))
      → JoinsEnded ends es
      → InOrder A ends started es × ((a : ℕ) → Legal O (w.objects a) (of_alloc a es))
  separated [] started w run threads joins = (tt, λ a. tt)
  separated (e ∷ es) started w run threads joins =
      let v : Event M O A w e = run.0 in
      let t = e.thread.0 in
      let at = threads t in
      let there = started_there M (started t) (w.threads t) at.now v.before v.started at.stands in
      let own : ThreadAt M turns starts ends (started e.thread.0) (w.threads e.thread.0) e.thread.0 (e ∷ of_thread e.thread.0 es) =
      other_step M turns starts ends (started t) (w.threads t) t (of_thread t (e ∷ es)) (e ∷ of_thread t es) (own_entries t e es (eq-eqb t t refl)) at in
      let f : Fed M turns starts own.now e = own.feeds.0 in
      let here : own.now ≡ v.before = (started_there M (started t) (w.threads t) own.now v.before v.started own.stands).1 in
      let fed : Settles M own.now f.now = settles_without M turns own.now f.now f.settles in
      let came : Settles M own.now v.now = subst (λ s. Settles M s v.now) (sym here) v.settles in
      let one : f.now ≡ v.now = settled_once M fed.0 came.0 own.now f.now v.now fed.1 came.1 (asks_no_turn M f.now e f.asks) (asks_no_turn M v.now e v.asks) in
      let right : StandsRight A ends started (e ∷ es) e e.request = stands_right started w e es e.request refl v.replies threads (λ c is. joins e c (inl refl) is) in
      let gives = object_gives w e e.request refl (alone_nowhere (M.ask v.now) e v.asks) v.replies in
      let rest = separated es (with_child started (child_of e)) (world_after M O w v.now e) run.1
      (λ k. subst (λ s. ThreadAt M turns starts ends (with_child started (child_of e) k) ((world_after M O w s e).threads k) k (of_thread k es)) one
      (thread_after M O A turns starts ends started w e es there.0 right own k (threads k)))
      (λ x c h is. joins x c (inr h) is) in
      ((there.0, right, rest.0), λ a. legal_before w e es a gives (names e.alloc a) refl (rest.1 a))
