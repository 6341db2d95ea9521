-- What a step leaves of its desk and of its allocation's log, from what the calls before it say.
use Rattle.std.proofs.Common.{◌≡◌, ℕ, ◌<◌, ◌≤◌, le_refl, max, Bool, true, false, cond, eqb, Option, Result, Ok, Err, OnOk, OnErr, List, [], ◌∷◌, ◌++◌, append-nil, All, sum_by, Some, None, refl, sym, ap, ◌∙◌, subst, arith}
use Rattle.std.proofs.lemmas.List.Sums.{sum_by-cons}
use Rattle.std.proofs.lemmas.List.Elements.{All-cons, All-nil}
use Rattle.std.proofs.lemmas.Bool.Decides.{nat_tests}
use Rattle.bsan_ids.specs.declared.numbers.AllocNo.{AllocNo}
use Rattle.bsan_ids.specs.declared.numbers.Limits.{Limits}
use Rattle.bsan_ids.specs.declared.numbers.Stamp.{Stamp}
use Rattle.bsan_ids.specs.declared.numbers.ThreadNo.{ThreadNo}
use Rattle.history.specs.declared.entry.Entry.{Entry}
use Rattle.history.specs.declared.entry.Reply.{Reply}
use Rattle.history.specs.declared.entry.Request.{Request}
use Rattle.history.specs.Histories.{IsHistory, HasBytes, is_make_step}
use Rattle.history.specs.Merge.{stamp_of}
use Rattle.history.specs.Restriction.{number_of}
use Rattle.turn_lock.specs.declared.view.View.{View}
use Rattle.turn_lock.specs.Weights.{makes, latest}
use Rattle.turn_lock.specs.Steps.{draws, took, gave, drew_stamp, since_turn}
use Rattle.turn_lock.specs.Plays.{DeskView}
use Rattle.turn_lock.proofs.Turning.{gave_nothing, gave_stamped, gave_call}
use Rattle.alloc_state.specs.Log.{Log, has_make}
use Rattle.alloc_space.specs.Steps.{stamped, has_slot, IsEntryOf, IsLastOf, IsStamped, IsPastSteps, HasSeen}

-- all entries are at most the latest
pub all_below : (es : List Entry) (n : ℕ) → latest es < n → All (λ (e : Entry). e.stamp.0 < n) es
all_below [] n lt = All-nil (λ (e : Entry). e.stamp.0 < n)
all_below (e ∷ es) n lt = All-cons (λ (e : Entry). e.stamp.0 < n) e es (omega (arith, lt)) (all_below es n (omega (arith, lt)))

clash : (a b : ℕ) → a ≡ 0 → b ≡ 1 → a ≡ b → ⊥
clash a b none one e = absurd (omega arith)

-- a value whose entries all name its number and make nothing has no Make
pub makes_none : (n : ℕ) (es : List Entry) → sum_by (λ (e : Entry). cond (eqb (number_of e.alloc) n) 0 1) es ≡ 0 → sum_by (makes n) es ≡ 0 → has_make es ≡ false
makes_none n [] about none = refl
makes_none n (e ∷ es) about none =
    let a = sum_by-cons (λ (e : Entry). cond (eqb (number_of e.alloc) n) 0 1) e es in
    let b = sum_by-cons (makes n) e es in
    by (is_make_step e) (eqb (number_of e.alloc) n) refl refl (omega arith) (omega arith) (makes_none n es (omega arith) (omega arith))
  where
    by : (m named : Bool) → is_make_step e ≡ m → eqb (number_of e.alloc) n ≡ named → cond {A = ℕ} (eqb (number_of e.alloc) n) 0 1 ≡ 0 → makes n e ≡ 0 → has_make es ≡ false → has_make (e ∷ es) ≡ false
    by false named is names about none rest = rw (is, rest) refl
    by true true is names about none rest = absurd (clash (makes n e) (makes n e) none (ap (λ b. cond {A = ℕ} b (cond {A = ℕ} (eqb (number_of e.alloc) n) 1 0) 0) is ∙ ap (λ b. cond {A = ℕ} b 1 0) names) refl)
    by true false is names about none rest = absurd (clash (cond {A = ℕ} (eqb (number_of e.alloc) n) 0 1) (cond {A = ℕ} (eqb (number_of e.alloc) n) 0 1) about (ap (λ b. cond {A = ℕ} b 0 1) names) refl)

-- a log that was prepared for a request, or was refused it, has its entries and its number
pub prepared_keeps : {A E : Type 0} (r : Result A E) (old new : Log) (q : Option Request) → OnOk r (new ≡ record old { ready = q; visits = new.visits }) → OnErr r (new ≡ record old { visits = new.visits }) → (new.entries ≡ old.entries) × (new.number ≡ old.number)
prepared_keeps (Ok a) old new q ok err = (ap (λ (l : Log). l.entries) ok, ap (λ (l : Log). l.number) ok)
prepared_keeps (Err e) old new q ok err = (ap (λ (l : Log). l.entries) err, ap (λ (l : Log). l.number) err)

module _ (d e f : DeskView) (k : ℕ) (es after : List Entry) (idle : d.view.turn ≡ None) (taken : e ≡ record { table = d.table; view = took d.view k es }) where
  -- a turn that is given back as it was taken
  pub seen_desk : after ≡ es → f ≡ record { table = e.table; view = gave e.view after } → HasSeen d f
  seen_desk same is = record {
    reached = max d.view.seen (latest es);
    seen = omega arith;
    desk = is
        ∙ (λ i. record { table = (taken i).table; view = gave (taken i).view (same i) })
        ∙ ap (λ (v : View). record { table = d.table; view = v }) (gave_nothing d.view k es idle);
  }

  reached : e.view.seen ≡ max d.view.seen (latest es)
  reached = ap (λ (x : DeskView). x.view.seen) taken

  module _ (limits : Limits) (n : ℕ) (g : DeskView) (drawn : g ≡ record { table = e.table; view = drew_stamp e.view n }) (later : e.view.seen < n) where
    above_all : (d.view.seen < n) × (latest es < n)
    above_all = (let a = reached in omega (arith, later), let a = reached in omega (arith, later))

    pub entries_below : after ≡ es → All (λ (x : Entry). x.stamp.0 < n) after
    entries_below same = subst (λ l. All (λ (x : Entry). x.stamp.0 < n) l) (sym same) (all_below es n above_all.1)

    pub turn_is : g.view ≡ drew_stamp (took d.view k es) n
    turn_is = ap (λ (x : DeskView). x.view) drawn ∙ ap (λ (x : DeskView). drew_stamp x.view n) taken

    -- the same after a stamp above the limit was drawn
    pub past_desk : after ≡ es → limits.steps < n → f ≡ record { table = g.table; view = gave g.view after } → IsPastSteps limits d f n
    past_desk same above is = record {
      above = above;
      later = above_all.0;
      desk = is
          ∙ (λ i. record { table = (drawn i).table; view = gave (drawn i).view (same i) })
          ∙ ap (λ (x : DeskView). record { table = x.table; view = gave (drew_stamp x.view n) es }) taken
          ∙ ap (λ (v : View). record { table = d.table; view = v }) (gave_stamped d.view k es idle n);
    }

    -- a turn that is given back with one entry more
    pub step_desk : (x : Entry) → x.stamp.0 ≡ n → after ≡ es ++ x ∷ [] → n ≤ limits.steps → has_slot limits.allocs (number_of x.alloc) ≡ true → f ≡ record { table = g.table; view = gave g.view after } → IsStamped limits d f x
    step_desk x stamp same few slot is = record {
      later = let a = above_all.0 in omega (arith, stamp);
      within = omega (arith, stamp, few);
      desk = is
          ∙ (λ i. record { table = (drawn i).table; view = gave (drawn i).view (same i) })
          ∙ ap (λ (y : DeskView). record { table = y.table; view = gave (drew_stamp y.view n) (es ++ x ∷ []) }) taken
          ∙ ap (λ (m : ℕ). record { table = d.table; view = gave (drew_stamp (took d.view k es) m) (es ++ x ∷ []) }) (sym stamp)
          ∙ ap (λ (v : View). record { table = d.table; view = v }) (gave_call d.view k es idle x)
          ∙ ap (λ (b : Bool). record { table = d.table; view = record d.view { stamps = draws d.view.stamps (stamp_of x); seen = stamp_of x; calls = d.view.calls ++ cond b (x ∷ []) [] } }) (sym slot);
    }

-- a step of no turn
pub plain_desk : (limits : Limits) (d f : DeskView) (n : ℕ) (x : Entry) → d.view.turn ≡ None → d.view.seen < n → n ≤ limits.steps → x.stamp.0 ≡ n → has_slot limits.allocs (number_of x.alloc) ≡ false
    → f ≡ record { table = d.table; view = drew_stamp d.view n } → IsStamped limits d f x
plain_desk limits d f n x idle later few stamp out is = record {
  later = omega (arith, stamp, later);
  within = omega (arith, stamp, few);
  desk = is
      ∙ (λ i. record { table = d.table; view = record (drew_stamp d.view n) { turn = since n i } })
      ∙ ap (λ (m : ℕ). record { table = d.table; view = stamped d.view m }) (sym stamp)
      ∙ (λ i. record { table = d.table; view = record d.view { stamps = draws d.view.stamps (stamp_of x); seen = stamp_of x; calls = sym (append-nil d.view.calls) i } })
      ∙ ap (λ (b : Bool). record { table = d.table; view = record d.view { stamps = draws d.view.stamps (stamp_of x); seen = stamp_of x; calls = d.view.calls ++ cond b (x ∷ []) [] } }) (sym out);
}
  where
    since : (n : ℕ) → since_turn n d.view.turn ≡ d.view.turn
    since n = ap (since_turn n) idle ∙ sym idle

pub plain_past : (limits : Limits) (d f : DeskView) (n : ℕ) → d.view.turn ≡ None → d.view.seen < n → limits.steps < n
    → f ≡ record { table = d.table; view = drew_stamp d.view n } → IsPastSteps limits d f n
plain_past limits d f n idle later above is = record {
  above = above;
  later = later;
  desk = is ∙ (λ i. record { table = d.table; view = record (drew_stamp d.view n) { turn = (ap (since_turn n) idle ∙ sym idle) i } });
}

pub nothing_seen : (d : DeskView) → HasSeen d d
nothing_seen d = record { reached = d.view.seen; seen = le_refl _; desk = refl }

pub last_of : (limits : Limits) (a : ℕ) (l m : Log) (e : Entry) → m ≡ record { number = l.number; entries = l.entries ++ e ∷ []; ready = None; visits = m.visits }
    → IsHistory m.number.0 m.entries → All (λ (x : Entry). HasBytes x.request) m.entries → l.number.0 ≡ a → (has_slot limits.allocs a ≡ false → l.entries ≡ []) → IsLastOf limits a e
last_of limits a l m e is history bytes number unmade = record {
  before = l.entries;
  history = subst (λ (n : ℕ). IsHistory n (l.entries ++ e ∷ [])) (ap (λ (x : Log). x.number.0) is ∙ number) (subst (λ es. IsHistory m.number.0 es) (ap (λ (x : Log). x.entries) is) history);
  bytes = subst (λ es. All (λ (x : Entry). HasBytes x.request) es) (ap (λ (x : Log). x.entries) is) bytes;
  unmade = unmade;
}

pub entry_of : (thread : ThreadNo) (stamp : Stamp) (site : ℕ) (number alloc : AllocNo) (request : Request) (reply : Reply) (e : Entry)
    → e ≡ record { thread = thread; stamp = stamp; site = site; alloc = Some number; request = request; reply = reply } → number.0 ≡ alloc.0 → IsEntryOf thread site (Some alloc) request e
entry_of thread stamp site number alloc request reply e is named = record {
  thread_is = ap (λ (x : Entry). x.thread) is;
  site_is = ap (λ (x : Entry). x.site) is;
  alloc_is = ap (λ (x : Entry). x.alloc) is ∙ ap (λ (n : ℕ). Some (record { 0 = n })) named;
  request_is = ap (λ (x : Entry). x.request) is;
}

pub slot_of : (limit n : ℕ) → 1 ≤ n → n ≤ limit → has_slot limit n ≡ true
slot_of limit n low high = grind (arith, nat_tests)
