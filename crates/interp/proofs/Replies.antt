-- What a step that was made says of its reply.
use Rattle.std.proofs.Common.{◌≡◌, ℕ, ◌<◌, ◌^◌, true, false, List, [], ◌∷◌, ◌++◌, refl, sym, ◌∙◌, ap, subst, inl, inr, arith, All}
use Rattle.std.specs.Prelude.{Some, None, ◌⊎◌}
use Rattle.std.proofs.lemmas.Bool.{true≢false}
use Rattle.std.proofs.lemmas.Bool.Decides.{nat_tests}
use Rattle.std.proofs.lemmas.List.Elements.{All-head, All-tail}
use Rattle.bsan_ids.specs.declared.numbers.AllocNo.{AllocNo}
use Rattle.bsan_ids.specs.declared.numbers.Limits.{Limits}
use Rattle.history.specs.declared.entry.Entry.{Entry}
use Rattle.history.specs.declared.entry.Plain.{Plain}
use Rattle.history.specs.declared.entry.Plain.TheVariants as plain
use Rattle.history.specs.declared.entry.Reply.{Reply}
use Rattle.history.specs.declared.entry.Request.{Request}
use Rattle.history.specs.declared.entry.Request.TheVariants as request
use Rattle.history.specs.Histories.{replay, Replies, HasBytes, is_make, fits}
use Rattle.history.specs.Objects.{Object, answer, unmade}
use Rattle.runs.specs.Objects.{objects}
use Rattle.runs.specs.Parts.{IsOnNumber, spawned_by}
use Rattle.runs.specs.Right.{made_by, spawned_by_reply}
use Rattle.runs.proofs.ObjectLaws.{objects_make_alone}
use Rattle.source_runs.specs.Allocations.{ObjectFits, IsOfAllocation, IsMake}
use Rattle.source_runs.proofs.Bytes.{allocation_law}
use Rattle.source_sem.specs.Traps.{PlainIsOwn}
use Rattle.alloc_space.specs.Steps.{IsLastOf, has_slot}
use Rattle.interp.specs.Came.{IsFitting}

last_replies : (o : Object) (es : List Entry) (e : Entry) → Replies o (es ++ e ∷ []) → e.reply ≡ (answer (replay o es) e.request e.stamp).reply
last_replies o [] e r = r.0
last_replies o (x ∷ es) e r = last_replies (answer o x.request x.stamp).object es e r.1

replay_fits : (a : ℕ) (o : Object) (es : List Entry) (e : Entry) → ObjectFits a o → All (λ (x : Entry). HasBytes x.request) (es ++ e ∷ []) → ObjectFits a (replay o es)
replay_fits a o [] e fit pieces = fit
replay_fits a o (x ∷ es) e fit pieces =
    replay_fits a (answer o x.request x.stamp).object es e
    (allocation_law.next a o x.request x.stamp.0 fit (All-head (λ (x : Entry). HasBytes x.request) x (es ++ e ∷ []) pieces))
    (All-tail (λ (x : Entry). HasBytes x.request) x (es ++ e ∷ []) pieces)

-- the object that answered
pub record Answering (a : AllocNo) (e : Entry) : Type 0 where
  pub object : Object
  pub fits : ObjectFits a.0 object
  pub reply : e.reply ≡ (answer object e.request e.stamp).reply

pub answering : (limits : Limits) (a : AllocNo) (e : Entry) → IsLastOf limits a.0 e → Answering a e
answering limits a e l = record {
  object = replay (unmade a.0) l.before;
  fits = replay_fits a.0 (unmade a.0) l.before e (allocation_law.first a.0) l.bytes;
  reply = last_replies (unmade a.0) l.before e l.history.replies;
}

no_slot : (limit n : ℕ) → (n ≡ 0) ⊎ (limit < n) → has_slot limit n ≡ false
no_slot limit n (inl none) = grind (arith, nat_tests, none)
no_slot limit n (inr high) = grind (arith, nat_tests, high)

-- of a number that can't be made, the reply is that of the unmade object
pub outside_reply : (limits : Limits) (a : AllocNo) (e : Entry) → IsLastOf limits a.0 e → (a.0 ≡ 0) ⊎ (limits.allocs < a.0) → e.reply ≡ objects.reply (objects.unmade a.0) e.request e.stamp.0
outside_reply limits a e l out =
    let F : List Entry → Type 0 = λ es. e.reply ≡ (answer (replay (unmade a.0) es) e.request e.stamp).reply in
    subst F (l.unmade (no_slot limits.allocs a.0 out)) (last_replies (unmade a.0) l.before e l.history.replies)

of_allocation : (r : Request) → fits r ≡ true → IsOfAllocation r
of_allocation (request.Print v) is = absurd (true≢false (sym is))
of_allocation (request.Host n x y) is = absurd (true≢false (sym is))
of_allocation (request.Spawn f) is = absurd (true≢false (sym is))
of_allocation (request.Join c) is = absurd (true≢false (sym is))
of_allocation _ is = tt

pub no_make : (r : Request) → IsOnNumber r → is_make r ≡ false
no_make (request.Make size place) h = absurd h
no_make (request.Print v) h = refl
no_make (request.Host n x y) h = refl
no_make (request.Spawn f) h = refl
no_make (request.Join c) h = refl
no_make _ h = refl

pub makes_nothing : (a : AllocNo) (e : Entry) → Answering a e → IsOnNumber e.request → made_by e.reply.plain ≡ []
makes_nothing a e w on = ap (λ (r : Reply). made_by r.plain) w.reply ∙ objects_make_alone.others w.object e.request e.stamp.0 (no_make e.request on)

pub starts_nothing : (a : AllocNo) (e : Entry) → Answering a e → spawned_by_reply e.reply.plain ≡ []
starts_nothing a e w = ap (λ (r : Reply). spawned_by_reply r.plain) w.reply ∙ objects_make_alone.no_thread w.object e.request e.stamp.0

-- an allocation's reply is one to which the thread can go on
pub answered_fits : (a : AllocNo) (e : Entry) → Answering a e → (IsMake e.request → a.0 < 2 ^ 32) → fits e.request ≡ true → e.alloc ≡ Some a → IsFitting e
answered_fits a e w small fit named = record {
  fits = λ ty. (allocation_law.replies a w.object e ty w.fits small (of_allocation e.request fit) named w.reply).0;
  plain = (allocation_law.replies a w.object e None w.fits small (of_allocation e.request fit) named w.reply).1;
  own = subst (λ (r : Reply). PlainIsOwn r.plain) (sym w.reply) (allocation_law.own w.object e.request e.stamp.0);
  alone = starts_nothing a e w;
}

-- a Make answers its number
pub makes_number : (a : AllocNo) (e : Entry) → Answering a e → IsMake e.request → e.reply.plain ≡ plain.Made a
makes_number a e w make = ap (λ (r : Reply). r.plain) w.reply ∙ by e.request make
  where
    number_is : w.object.number ≡ a.0
    number_is = w.fits.number

    by : (r : Request) → IsMake r → (answer w.object r e.stamp).reply.plain ≡ plain.Made a
    by (request.Make size place) h = ap (λ (n : ℕ). plain.Made (record { 0 = n })) number_is
    by (request.Load at ty prov) h = absurd h
    by (request.Store at ty value carried prov) h = absurd h
    by (request.Modify at width op value prov) h = absurd h
    by (request.CmpXchg at width expected value prov) h = absurd h
    by (request.CopyOut at len prov) h = absurd h
    by (request.CopyIn at piece prov) h = absurd h
    by (request.Retag at len kind guard prov) h = absurd h
    by (request.EndProtector tag) h = absurd h
    by (request.Free at stack prov) h = absurd h
    by (request.Print value) h = absurd h
    by (request.Host n x y) h = absurd h
    by (request.Spawn f) h = absurd h
    by (request.Join c) h = absurd h

cons_nil : (n : ℕ) → n ∷ [] ≡ [] → ⊥
cons_nil n e = cc

-- a reply that names no thread starts none
pub no_child : (r : Request) (p : Plain) → spawned_by_reply p ≡ [] → spawned_by r p ≡ None
no_child (request.Spawn f) (plain.Spawned c) none = absurd (cons_nil c.0 none)
no_child (request.Spawn f) (plain.Made a) none = refl
no_child (request.Spawn f) (plain.Value v) none = refl
no_child (request.Spawn f) (plain.Copied v) none = refl
no_child (request.Spawn f) plain.Done none = refl
no_child (request.Spawn f) (plain.Retagged v) none = refl
no_child (request.Spawn f) (plain.Trapped v) none = refl
no_child _ p none = refl
