-- Entries in the order of their stamps, whose restrictions to each thread and each number are right, are one interleaving run.
use Rattle.std.proofs.Common.{◌≡◌, ℕ, zero, suc, Bool, true, false, List, [], ◌∷◌, refl, sym, ◌∙◌, ap, subst, inl, inr}
use Rattle.std.specs.Prelude.{Some, None, if◌then◌else◌, ◌==◌}
use Rattle.std.specs.declared.option.Option.{Option}
use Rattle.std.proofs.lemmas.Bool.{eq-eqb, eqb-true, true≢false}
use Rattle.std.proofs.lemmas.Bool.Decides.{eqb_tells}
use Rattle.history.specs.declared.entry.Entry.{Entry}
use Rattle.bsan_ids.specs.declared.numbers.Prov.{Prov}
use Rattle.history.specs.declared.log.End.{End}
use Rattle.history.specs.declared.log.End.TheVariants as log_end
use Rattle.bsan_ids.specs.declared.numbers.AllocNo.{AllocNo}
use Rattle.history.specs.declared.entry.Request.{Request}
use Rattle.history.specs.declared.entry.Request.TheVariants as request
use Rattle.history.specs.declared.ask.Ask.TheVariants as ask
use Rattle.history.specs.declared.ask.MachineEnd.TheVariants as end
use Rattle.runs.specs.Parts.{of_thread, of_alloc, names, child_of, is_child, spawned_by, spawned_of}
use Rattle.history.specs.declared.entry.Reply.{Reply}
use Rattle.runs.specs.Machine.{Machine, Memory, TurnsTo, TurnsWithin, Settles, SettlesWithin}
use Rattle.runs.specs.Threads.{Feeds, StartsAs}
use Rattle.runs.specs.Interleaving.{World, world_after, HasReturned, Allowed, Replies, Event, Interleaves, Legal, MakesUnmade}
use Rattle.runs.specs.Order.{StandsRight, with_child, InOrder, RunsToEnd}

-- local turns stay local turns without the limit
pub without_limit : (M : Machine) (limit n : ℕ) (s t : M.State) → TurnsWithin M limit n s t → TurnsTo M n s t
without_limit M limit zero s t h = h
without_limit M limit (suc n) s t h = (h.0, without_limit M limit n (M.turn s) t h.2)

pub settles_without : (M : Machine) (limit : ℕ) (s t : M.State) → SettlesWithin M limit s t → Settles M s t
settles_without M limit s t h = (h.0, without_limit M limit h.0 s t h.1)

-- a thread, started or not, whose remaining entries are a run to its end
pub record ThreadAt (M : Machine) (turns : ℕ) (starts : ℕ → M.State) (ends : ℕ → End) (started : Bool) (at : Option M.State) (t : ℕ) (es : List Entry) : Type 0 where
  pub now : M.State
  pub stands : at ≡ (if started then Some now else None)
  pub waits : started ≡ false → now ≡ starts t
  pub last : M.State
  pub feeds : Feeds M turns starts now es last
  pub ended : (v : ℕ) (p : Option Prov) → ends t ≡ log_end.Returned v p → M.ask last ≡ ask.Ended (end.Returned v p)

-- a started thread with nothing left to do, whose end is a return, has returned
pub has_returned : (M : Machine) (turns : ℕ) (starts : ℕ → M.State) (ends : ℕ → End) (started : Bool) (at : Option M.State) (t : ℕ) (es : List Entry) (v : ℕ) (p : Option Prov)
    → started ≡ true → es ≡ [] → ends t ≡ log_end.Returned v p
    → ThreadAt M turns starts ends started at t es → HasReturned M at v p
has_returned M turns starts ends started at t es v p on none is h =
    let F : List Entry → Type 0 = λ l. Feeds M turns starts h.now l h.last in
    record {
      before = h.now;
      now = h.last;
      started = rw on at h.stands;
      settles = settles_without M turns h.now h.last (subst F none h.feeds);
      returned = h.ended v p is;
    }

-- the world gives the reply of an entry that stands right
pub replies : (M : Machine) (O : Memory) (A : Allowed) (turns : ℕ) (starts : ℕ → M.State) (ends : ℕ → End) (started : ℕ → Bool) (w : World M O) (e : Entry) (es : List Entry) (r : Request)
    → StandsRight A ends started es e r
    → ((t : ℕ) → ThreadAt M turns starts ends (started t) (w.threads t) t (of_thread t es))
    → ((a : AllocNo) → e.alloc ≡ Some a → MakesUnmade O (w.objects a.0) r × (e.reply ≡ O.reply (w.objects a.0) e.request e.stamp.0))
    → Replies M O A w e r
replies M O A turns starts ends started w e es (request.Make size place) h th ob =
    let q = ob h.0 h.1 in (h.0, h.1, h.2, h.3, q.0, q.1)
replies M O A turns starts ends started w e es (request.Print v) h th ob = h
replies M O A turns starts ends started w e es (request.Host n x y) h th ob = h
replies M O A turns starts ends started w e es (request.Spawn f) h th ob =
    let q = th h.0.0 in (h.0, h.1, h.2, rw h.3 at q.stands, h.4)
replies M O A turns starts ends started w e es (request.Join c) h th ob =
    (h.0, h.1, has_returned M turns starts ends (started c.0) (w.threads c.0) c.0 (of_thread c.0 es) h.0 h.1 h.2 h.3 h.4 (th c.0), h.5)
replies M O A turns starts ends started w e es _ h th ob = (h.0, h.1, (ob h.0 h.1).1)

-- the thread's own entries, after one of them
pub own_entries : (t : ℕ) (e : Entry) (es : List Entry) → (e.thread.0 == t) ≡ true → of_thread t (e ∷ es) ≡ e ∷ of_thread t es
own_entries t e es is = rw is refl

pub other_entries : (t : ℕ) (e : Entry) (es : List Entry) → (e.thread.0 == t) ≡ false → of_thread t (e ∷ es) ≡ of_thread t es
other_entries t e es is = rw is refl

-- a started thread whose first entry is done
pub own_step : (M : Machine) (turns : ℕ) (starts : ℕ → M.State) (ends : ℕ → End) (started : Bool) (at : Option M.State) (t : ℕ) (e : Entry) (es : List Entry)
    → (h : ThreadAt M turns starts ends started at t (e ∷ es))
    → ThreadAt M turns starts ends true (Some (M.after h.feeds.0.now e)) t es
own_step M turns starts ends started at t e es h = record {
  now = M.after h.feeds.0.now e;
  stands = refl;
  waits = λ off. absurd (true≢false off);
  last = h.last;
  feeds = h.feeds.1;
  ended = h.ended;
}

pub other_step : (M : Machine) (turns : ℕ) (starts : ℕ → M.State) (ends : ℕ → End) (started : Bool) (at : Option M.State) (t : ℕ) (es fs : List Entry)
    → es ≡ fs → ThreadAt M turns starts ends started at t es → ThreadAt M turns starts ends started at t fs
other_step M turns starts ends started at t es fs is h =
    let F : List Entry → Type 0 = λ l. ThreadAt M turns starts ends started at t l in subst F is h

-- a child that starts
pub child_step : (M : Machine) (turns : ℕ) (starts : ℕ → M.State) (ends : ℕ → End) (started : Bool) (at : Option M.State) (t : ℕ) (first : M.State) (es : List Entry)
    → started ≡ false → starts t ≡ first
    → ThreadAt M turns starts ends started at t es
    → ThreadAt M turns starts ends true (Some first) t es
child_step M turns starts ends started at t first es off is h = record {
  now = h.now;
  stands = ap Some (sym (h.waits off ∙ is));
  waits = λ no. absurd (true≢false no);
  last = h.last;
  feeds = h.feeds;
  ended = h.ended;
}

-- a child that an entry starts is new
pub child_is_new : (A : Allowed) (ends : ℕ → End) (started : ℕ → Bool) (es : List Entry) (e : Entry) (t : ℕ) (r : Request)
    → StandsRight A ends started es e r → is_child (spawned_by r e.reply.plain) t ≡ true → started t ≡ false
child_is_new A ends started es e t (request.Spawn f) h is =
    let at_reply : (h.0.0 == t) ≡ true = subst (λ (y : Reply). is_child (spawned_of y.plain) t ≡ true) h.4 is in
    subst (λ k. started k ≡ false) (eqb-true h.0.0 t at_reply) h.3
child_is_new A ends started es e t _ h is = absurd (true≢false (sym is))

pub starts_as : (M : Machine) (starts : ℕ → M.State) (c : Option ℕ) (first : M.State) (t : ℕ)
    → StartsAs M starts c first → is_child c t ≡ true → starts t ≡ first
starts_as M starts None first t h is = absurd (true≢false (sym is))
starts_as M starts (Some c) first t h is = subst (λ k. starts k ≡ first) (eqb-true c t is) h

pub with_child_on : (started : ℕ → Bool) (c : Option ℕ) (t : ℕ) → started t ≡ true → with_child started c t ≡ true
with_child_on started c t on =
    elim (is_child c t) as (λ b. (if b then true else started t) ≡ true) [ true ↦ refl | false ↦ on ]

-- the entry's own thread after it
pub own_thread : (M : Machine) (turns : ℕ) (starts : ℕ → M.State) (ends : ℕ → End) (started : ℕ → Bool) (at : Option M.State) (e : Entry) (es : List Entry)
    → started e.thread.0 ≡ true
    → (own : ThreadAt M turns starts ends (started e.thread.0) at e.thread.0 (e ∷ of_thread e.thread.0 es))
    → (t : ℕ) → e.thread.0 ≡ t
    → ThreadAt M turns starts ends (with_child started (child_of e) t) (Some (M.after own.feeds.0.now e)) t (of_thread t es)
own_thread M turns starts ends started at e es on own t same =
    let next = Some (M.after own.feeds.0.now e) in
    let F : ℕ → Type 0 = λ k. ThreadAt M turns starts ends true next k (of_thread k es) in
    let G : Bool → Type 0 = λ b. ThreadAt M turns starts ends b next t (of_thread t es) in
    subst
    G
    (sym (with_child_on started (child_of e) t (rw (← same) on)))
    (subst F same (own_step M turns starts ends (started e.thread.0) at e.thread.0 e (of_thread e.thread.0 es) own))

-- another thread after the entry, which may have started it
pub other_thread : (M : Machine) (O : Memory) (A : Allowed) (turns : ℕ) (starts : ℕ → M.State) (ends : ℕ → End) (started : ℕ → Bool) (w : World M O) (e : Entry) (es all : List Entry) (s : M.State) (t : ℕ)
    → StandsRight A ends started all e e.request
    → StartsAs M starts (child_of e) (M.child s)
    → ThreadAt M turns starts ends (started t) (w.threads t) t (of_thread t es)
    → (b : Bool) → is_child (child_of e) t ≡ b
    → ThreadAt M turns starts ends (with_child started (child_of e) t) (if is_child (child_of e) t then Some (M.child s) else w.threads t) t (of_thread t es)
other_thread M O A turns starts ends started w e es all s t right first h true is =
    rw is (child_step M turns starts ends (started t) (w.threads t) t (M.child s) (of_thread t es) (child_is_new A ends started all e t e.request right is) (starts_as M starts (child_of e) (M.child s) t first is) h)
other_thread M O A turns starts ends started w e es all s t right first h false is = rw is h

-- each thread after an entry
pub thread_after : (M : Machine) (O : Memory) (A : Allowed) (turns : ℕ) (starts : ℕ → M.State) (ends : ℕ → End) (started : ℕ → Bool) (w : World M O) (e : Entry) (es : List Entry)
    → (on : started e.thread.0 ≡ true)
    → StandsRight A ends started (e ∷ es) e e.request
    → (own : ThreadAt M turns starts ends (started e.thread.0) (w.threads e.thread.0) e.thread.0 (e ∷ of_thread e.thread.0 es))
    → (t : ℕ) → ThreadAt M turns starts ends (started t) (w.threads t) t (of_thread t (e ∷ es))
    → ThreadAt M turns starts ends (with_child started (child_of e) t) ((world_after M O w own.feeds.0.now e).threads t) t (of_thread t es)
thread_after M O A turns starts ends started w e es on right own t h =
    elim (eqb_tells e.thread.0 t) [
      | inl hit ↦ rw hit.0 (own_thread M turns starts ends started (w.threads e.thread.0) e es on own t hit.1)
      | inr miss ↦ rw miss.0
          (other_thread M O A turns starts ends started w e es (e ∷ es) own.feeds.0.now t right own.feeds.0.child (other_step M turns starts ends (started t) (w.threads t) t (of_thread t (e ∷ es)) (of_thread t es) (other_entries t e es miss.0) h) (is_child (child_of e) t) refl)
    ]

-- each object after an entry
pub object_after : (O : Memory) (o : O.Object) (e : Entry) (es : List Entry) (a : ℕ) (b : Bool) → names e.alloc a ≡ b
    → Legal O o (of_alloc a (e ∷ es))
    → Legal O (if names e.alloc a then O.next o e.request e.stamp.0 else o) (of_alloc a es)
object_after O o e es a true is h =
    let F : Bool → Type 0 = λ c. Legal O o (if c then e ∷ of_alloc a es else of_alloc a es) in
    let all : Legal O o (e ∷ of_alloc a es) = subst F is h in rw is all.2
object_after O o e es a false is h =
    let F : Bool → Type 0 = λ c. Legal O o (if c then e ∷ of_alloc a es else of_alloc a es) in
    let all : Legal O o (of_alloc a es) = subst F is h in rw is all

-- what the entry's own object says
pub object_says : (M : Machine) (O : Memory) (w : World M O) (e : Entry) (es : List Entry)
    → ((a : ℕ) → Legal O (w.objects a) (of_alloc a (e ∷ es)))
    → (a : AllocNo) → e.alloc ≡ Some a
    → MakesUnmade O (w.objects a.0) e.request × (e.reply ≡ O.reply (w.objects a.0) e.request e.stamp.0)
object_says M O w e es objects a is =
    let hit : names e.alloc a.0 ≡ true = rw is (eq-eqb a.0 a.0 refl) in
    let F : Bool → Type 0 = λ c. Legal O (w.objects a.0) (if c then e ∷ of_alloc a.0 es else of_alloc a.0 es) in
    let all : Legal O (w.objects a.0) (e ∷ of_alloc a.0 es) = subst F hit (objects a.0) in (all.0, all.1)

pub is_started : (M : Machine) (turns : ℕ) (starts : ℕ → M.State) (ends : ℕ → End) (started : Bool) (at : Option M.State) (t : ℕ) (es : List Entry)
    → started ≡ true → (h : ThreadAt M turns starts ends started at t es) → at ≡ Some h.now
is_started M turns starts ends started at t es on h = rw on at h.stands

pub one_run : (M : Machine) (O : Memory) (A : Allowed) (turns : ℕ) (starts : ℕ → M.State) (ends : ℕ → End) (entries : List Entry) (started : ℕ → Bool) (w : World M O)
    → InOrder A ends started entries
    → ((t : ℕ) → ThreadAt M turns starts ends (started t) (w.threads t) t (of_thread t entries))
    → ((a : ℕ) → Legal O (w.objects a) (of_alloc a entries))
    → Interleaves M O A w entries
one_run M O A turns starts ends [] started w order threads objects = tt
one_run M O A turns starts ends (e ∷ es) started w order threads objects =
    let t = e.thread.0 in
    let own : ThreadAt M turns starts ends (started e.thread.0) (w.threads e.thread.0) e.thread.0 (e ∷ of_thread e.thread.0 es) =
    other_step M turns starts ends (started t) (w.threads t) t (of_thread t (e ∷ es)) (e ∷ of_thread t es) (own_entries t e es (eq-eqb t t refl)) (threads t) in
    let fed = own.feeds.0 in
    let event : Event M O A w e = record {
      before = own.now;
      now = fed.now;
      started = is_started M turns starts ends (started t) (w.threads t) t (e ∷ of_thread t es) order.0 own;
      settles = settles_without M turns own.now fed.now fed.settles;
      site = fed.site;
      asks = fed.asks;
      replies = replies M O A turns starts ends started w e (e ∷ es) e.request order.1 threads (object_says M O w e es objects);
    } in (
      event,
      one_run M O A turns starts ends es (with_child started (child_of e)) (world_after M O w fed.now e) order.2
          (λ k. thread_after M O A turns starts ends started w e es order.0 order.1 own k (threads k))
          (λ a. object_after O (w.objects a) e es a (names e.alloc a) refl (objects a)),
    )

-- at the start thread 0 alone has started
pub at_start : (M : Machine) (turns : ℕ) (starts : ℕ → M.State) (ends : ℕ → End) (t : ℕ) (es : List Entry)
    → RunsToEnd M turns starts ends t es
    → ThreadAt M turns starts ends (0 == t) (if 0 == t then Some (starts 0) else None) t es
at_start M turns starts ends t es h =
    record {
      now = starts t;
      stands = elim (eqb_tells 0 t) [ inl hit ↦ rw hit.0 (ap (λ k. Some (starts k)) hit.1) | inr miss ↦ rw miss.0 refl ];
      waits = λ off. refl;
      last = h.last;
      feeds = h.feeds;
      ended = h.ended;
    }
