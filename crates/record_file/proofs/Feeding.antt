-- A thread that makes its local turns and takes an entry is fed more exactly as from the state after it.
use Rattle.std.proofs.Common.{◌≡◌, ◌≢◌, ◌↔◌, ℕ, zero, suc, ◌+◌, ◌<◌, ◌≤◌, Bool, true, false, List, [], ◌∷◌, ◌++◌, refl, sym, ◌∙◌, ap, subst, inl, inr, arith, length, drop, take, get_or, nat_eq}
use Rattle.std.specs.Prelude.{Some, None, Option, IfSome}
use Rattle.std.proofs.lemmas.Bool.Decides.{eqb_tells}
use Rattle.history.specs.declared.ask.Ask.{Ask}
use Rattle.history.specs.declared.ask.Ask.TheVariants as ask
use Rattle.history.specs.declared.entry.Entry.{Entry}
use Rattle.runs.specs.Machine.{Machine, MayGoOn, TurnsWithin, SettlesWithin}
use Rattle.runs.specs.Parts.{Answers, child_of}
use Rattle.runs.specs.Threads.{CountsTurns}
use Rattle.runs.specs.Tree.{started_by}
use Rattle.source_sem.specs.Source.{Setting, Source, source, source_ask, source_answer, source_child, source_fits, source_site, source_turn}
use Rattle.record_file.specs.declared.feed.Child.{Child}
use Rattle.runs.proofs.Feeding.{settles_one_more}
use Rattle.runs.proofs.Standing.{stands_once}
use Rattle.source_sem.proofs.Stepping.{instructions_count}
use Rattle.source_machine.specs.Running.{Running}
use Rattle.record_file.specs.AsWritten.{AllBeginAs, BeginsAs, ChildBeginsAs, FedAsWritten, FeedsAsWritten}
use Rattle.record_file.specs.Feeding.{firsts, AreOf, ComesTo, FeedsOne, HasFed, HasTurned, Settled, Takes, TakesAll, Refuses, TurnsOn, numbers, starts_of}
use Rattle.record_file.specs.Starting.{HasStarted}
use Rattle.record_file.proofs.Beginning.{starts_push}

module _ (M : Machine) (limit : ℕ) where
  no_turn : (a : M.State) (e : Entry) → M.ask a ≡ ask.Turn → Answers (M.ask a) e → ⊥
  no_turn a e turn h = subst (λ x. Answers x e) turn h

  -- local turns to a state that asks for an entry lead through each state on the way
  turns_rest : (n k : ℕ) (s a t : M.State) (e : Entry) → TurnsWithin M limit n s a → TurnsWithin M limit k s t → Answers (M.ask a) e → SettlesWithin M limit t a
  turns_rest n zero s a t e h g on = (n, subst (λ z. TurnsWithin M limit n z a) g h)
  turns_rest zero (suc k) s a t e h g on = absurd (no_turn s e g.0 (subst (λ z. Answers (M.ask z) e) (sym h) on))
  turns_rest (suc n) (suc k) s a t e h g on = turns_rest n k (M.turn s) a t e h.2 g.2 on

  -- and one that asks no turn is the last
  at_rest : (n : ℕ) (t a : M.State) → TurnsWithin M limit n t a → M.ask t ≢ ask.Turn → t ≡ a
  at_rest zero t a h rests = h
  at_rest (suc n) t a h rests = absurd (rests h.0)

  pub fed_there : (starts : ℕ → M.State) (s t : M.State) (e : Entry) (f : FedAsWritten M limit starts s e) → SettlesWithin M limit s t → M.ask t ≢ ask.Turn → t ≡ f.now
  fed_there starts s t e f g rests =
      let on = turns_rest f.settles.0 g.0 s f.now t e f.settles.1 g.1 f.asks in
      at_rest on.0 t f.now on.1 rests

  -- a thread's last state is told by its log and its count of instructions
  pub written_once : CountsTurns M → (starts : ℕ → M.State) (s a b : M.State) (es : List Entry) → FeedsAsWritten M limit starts s es a → FeedsAsWritten M limit starts s es b → M.count a ≡ M.count b → a ≡ b
  written_once counts starts s a b [] f g same = stands_once M counts limit starts s a b [] f g same
  written_once counts starts s a b (e ∷ es) f g same =
      let here : f.0.now ≡ g.0.now = fed_there starts s f.0.now e g.0 f.0.settles (λ turn. no_turn f.0.now e turn f.0.asks) in
      written_once counts starts (M.after f.0.now e) a b es f.1 (subst (λ z. FeedsAsWritten M limit starts (M.after z e) es b) (sym here) g.1) same

  may_at : (n : ℕ) (t a : M.State) → TurnsWithin M limit n t a → MayGoOn M limit a → MayGoOn M limit t
  may_at zero t a h may = subst (λ z. MayGoOn M limit z) (sym h) may
  may_at (suc n) t a h may = h.1

  -- none is taken where an instruction would begin at the limit
  pub fed_may : (starts : ℕ → M.State) (s t : M.State) (e : Entry) → FedAsWritten M limit starts s e → SettlesWithin M limit s t → MayGoOn M limit t
  fed_may starts s t e f g =
      let on = turns_rest f.settles.0 g.0 s f.now t e f.settles.1 g.1 f.asks in
      may_at on.0 t f.now on.1 f.may

  -- local turns from a state on
  pub turn_or_here : (t a : M.State) → SettlesWithin M limit t a → (M.count t ≢ M.count a) → (M.ask t ≡ ask.Turn) × MayGoOn M limit t × SettlesWithin M limit (M.turn t) a
  turn_or_here t a h apart = by h.0 h.1
    where
      by : (n : ℕ) → TurnsWithin M limit n t a → (M.ask t ≡ ask.Turn) × MayGoOn M limit t × SettlesWithin M limit (M.turn t) a
      by zero g = absurd (apart (ap M.count g))
      by (suc n) g = (g.0, g.1, (n, g.2))

  pub count_up : CountsTurns M → (t a : M.State) → SettlesWithin M limit t a → M.count t ≤ M.count a
  count_up counts t a h = by h.0 t h.1
    where
      by : (n : ℕ) (u : M.State) → TurnsWithin M limit n u a → M.count u ≤ M.count a
      by zero u g = let same = ap M.count g in omega (arith, same)
      by (suc n) u g = let one = counts u g.0 in let more = by n (M.turn u) g.2 in omega (arith, one, more)

-- children ----------------------------------------------------------------------

pub agrees_push : (starts : ℕ → Source) (before : List Child) (child : Child) → AllBeginAs starts (firsts (before ++ child ∷ [])) ↔ (AllBeginAs starts (firsts before) × BeginsAs starts child.number.0 child.machine.thread)
agrees_push starts [] child = (λ a. (tt, a.0), λ a. (a.1, tt))
agrees_push starts (c ∷ cs) child =
    let more = agrees_push starts cs child in
    (λ a. (let m = more.0 a.1 in ((a.0, m.0), m.1)), λ a. (a.0.0, more.1 (a.0.1, a.1)))

pub agrees_started : (x : Setting) (starts : ℕ → Source) (o : Option ℕ) (s : Source) (before after : List Child) → HasStarted x o s before after
    → AllBeginAs starts (firsts after) ↔ (AllBeginAs starts (firsts before) × ChildBeginsAs starts o s)
agrees_started x starts None s before after is =
    (λ a. (subst (λ l. AllBeginAs starts (firsts l)) is a, tt), λ a. subst (λ l. AllBeginAs starts (firsts l)) (sym is) a.0)
agrees_started x starts (Some c) s before after h =
    let push = agrees_push starts before h.0 in (
      λ a. (let p = push.0 (subst (λ l. AllBeginAs starts (firsts l)) h.4 a) in (p.0, subst (BeginsAs starts c) h.3 (subst (λ n. BeginsAs starts n h.0.machine.thread) h.1 p.1))),
      λ a. subst (λ l. AllBeginAs starts (firsts l)) (sym h.4) (push.1 (a.0, subst (λ n. BeginsAs starts n h.0.machine.thread) (sym h.1) (subst (BeginsAs starts c) (sym h.3) a.1))),
    )

-- one entry ---------------------------------------------------------------------

pub takes : (x : Setting) (turns : ℕ) (s now : Source) (e : Entry) (before after : List Child) (t : Source)
    → SettlesWithin (source x) turns s now → source_ask x now ≢ ask.Turn → MayGoOn (source x) turns now → source_site now ≡ e.site
    → Answers (source_ask x now) e → source_fits x now e → HasStarted x (child_of e) (source_child x now) before after
    → t ≡ source_answer x now e.reply → Takes x turns s e before t after
takes x turns s now e before after t settles rests may site asks fits started is = λ starts es last.
    (let agree = agrees_started x starts (child_of e) (source_child x now) before after started in (
      λ p. (
          let f = p.1.0 in
          let here : now ≡ f.now = fed_there (source x) turns starts s now e f settles rests in
          let child : ChildBeginsAs starts (child_of e) (source_child x now) = subst (λ z. ChildBeginsAs starts (child_of e) (source_child x z)) (sym here) f.child in
          (agree.1 (p.0, child), subst (λ z. FeedsAsWritten (source x) turns starts z es last) (sym is) (subst (λ z. FeedsAsWritten (source x) turns starts (source_answer x z e.reply) es last) (sym here) p.1.1))),
      λ q. (
          let both = agree.0 q.0 in
          let f : FedAsWritten (source x) turns starts s e = record { now = now; settles = settles; may = may; site = site; asks = asks; fits = fits; child = both.1 } in
          (both.0, (f, subst (λ z. FeedsAsWritten (source x) turns starts z es last) is q.1))),
    ))

-- none is taken where an instruction would begin at the limit
pub refuses_stopped : (x : Setting) (turns : ℕ) (s now : Source) (e : Entry) → SettlesWithin (source x) turns s now → (MayGoOn (source x) turns now → ⊥) → (es : List Entry) → Refuses x turns s (e ∷ es)
refuses_stopped x turns s now e settles stops es = λ starts last fed. stops (fed_may (source x) turns starts s now e fed.0 settles)

-- nor one that isn't asked there, or whose reply doesn't fit
pub refuses_other : (x : Setting) (turns : ℕ) (s now : Source) (e : Entry) → SettlesWithin (source x) turns s now → source_ask x now ≢ ask.Turn
    → (source_site now ≡ e.site → Answers (source_ask x now) e → source_fits x now e → ⊥) → (es : List Entry) → Refuses x turns s (e ∷ es)
refuses_other x turns s now e settles rests other es = λ starts last fed.
    (let f = fed.0 in
    let here : now ≡ f.now = fed_there (source x) turns starts s now e f settles rests in
    other (ap source_site here ∙ f.site) (subst (λ z. Answers (source_ask x z) e) (sym here) f.asks) (subst (λ z. source_fits x z e) (sym here) f.fits))

-- one more local turn
pub turned_more : (x : Setting) (turns : ℕ) (s : Source) (before after : Running) → HasTurned x turns s before → source_ask before.setting before.thread ≡ ask.Turn → MayGoOn (source before.setting) turns before.thread
    → after.setting ≡ before.setting → after.thread ≡ source_turn before.setting before.thread → HasTurned x turns s after
turned_more x turns s before after h asks may same turned = record {
  setting = same ∙ h.setting;
  turned = subst (λ z. SettlesWithin (source x) turns s z) (sym (turned ∙ ap (λ y. source_turn y before.thread) h.setting))
      (settles_one_more (source x) turns s before.thread h.turned (ap (λ y. source_ask y before.thread) (sym h.setting) ∙ asks) may);
}

-- what the calls answer ------------------------------------------------------------

pub settled_asks : (x : Setting) (turns : ℕ) (s t : Source) (a : Ask) (o : Option Ask) → Settled x turns s t o → o ≡ Some a → (a ≡ source_ask x t) × (a ≢ ask.Turn) × MayGoOn (source x) turns t
settled_asks x turns s t a o h is = subst (λ z. IfSome z (λ b. (b ≡ source_ask x t) × (b ≢ ask.Turn) × MayGoOn (source x) turns t)) is h.asks

pub one_refused : (b : Bool) (x : Setting) (turns : ℕ) (s t : Source) (e : Entry) (before after : List Child) → b ≡ false → FeedsOne b x turns s e before t after → (es : List Entry) → Refuses x turns s (e ∷ es)
one_refused true x turns s t e before after is h = absurd (cc)
one_refused false x turns s t e before after is h = h

pub one_taken : (b : Bool) (x : Setting) (turns : ℕ) (s t : Source) (e : Entry) (before after : List Child) → b ≡ true → FeedsOne b x turns s e before t after → Takes x turns s e before t after
one_taken true x turns s t e before after is h = h
one_taken false x turns s t e before after is h = absurd (cc)

pub turned_on : (b : Bool) (x : Setting) (turns : ℕ) (s t : Source) → b ≡ true → TurnsOn b x turns s t → (source_ask x s ≡ ask.Turn) × MayGoOn (source x) turns s × (t ≡ source_turn x s)
turned_on true x turns s t is h = h
turned_on false x turns s t is h = absurd (cc)

pub not_turned : (b : Bool) (x : Setting) (turns : ℕ) (s t : Source) → b ≡ false → TurnsOn b x turns s t → source_ask x s ≡ ask.Turn → MayGoOn (source x) turns s → ⊥
not_turned true x turns s t is h = absurd (cc)
not_turned false x turns s t is h = h

-- all entries -----------------------------------------------------------------------

pub drop_item : (xs : List Entry) (k : ℕ) (x : Entry) → k < length xs → x ≡ get_or xs k x → drop k xs ≡ x ∷ drop (k + 1) xs
drop_item [] k x less is = absurd (omega (arith, less))
drop_item (y ∷ ys) zero x less is = ap (λ z. z ∷ ys) (sym is)
drop_item (y ∷ ys) (suc k) x less is =
    let e : suc (k + 1) ≡ suc k + 1 = omega arith in
    drop_item ys k x (omega (arith, less)) is ∙ ap (λ n. x ∷ drop n (y ∷ ys)) e

drop_end : (xs : List Entry) (k : ℕ) → length xs ≤ k → drop k xs ≡ []
drop_end [] zero le = refl
drop_end [] (suc k) le = refl
drop_end (x ∷ xs) zero le = absurd (omega (arith, le))
drop_end (x ∷ xs) (suc k) le = drop_end xs k (omega (arith, le))

module _ (turns : ℕ) (old : Running) (es : List Entry) (k : ℕ) (new : Running) (children : List Child) (h : HasFed turns old es k new children) where
  pub fed_more : (e : Entry) (after : Running) (later : List Child) → drop k es ≡ e ∷ drop (k + 1) es → after.setting ≡ new.setting → AreOf new.setting later
      → take (k + 1) es ≡ take k es ++ e ∷ [] → numbers later ≡ numbers children ++ started_by (child_of e)
      → Takes new.setting turns new.thread e children after.thread later → HasFed turns old es (k + 1) after later
  fed_more e after later here same of taking more takes =
      let taken : Takes old.setting turns new.thread e children after.thread later = subst (λ y. Takes y turns new.thread e children after.thread later) h.setting takes in
      record {
        setting = same ∙ h.setting;
        of = subst (λ y. AreOf y later) h.setting of;
        started = more ∙ ap (λ ns. ns ++ started_by (child_of e)) h.started ∙ sym (starts_push (take k es) e) ∙ ap starts_of (sym taking);
        fed = λ starts last. (
            let f = h.fed starts last in
            let t = taken starts (drop (k + 1) es) last in (
              λ p. (let q = f.0 p in t.0 (q.0, subst (λ l. FeedsAsWritten (source old.setting) turns starts new.thread l last) here q.1)),
              λ p. (let q = t.1 p in f.1 (q.0, subst (λ l. FeedsAsWritten (source old.setting) turns starts new.thread l last) (sym here) q.1)),
            ));
      }

  pub fed_refused : (e : Entry) → drop k es ≡ e ∷ drop (k + 1) es → ((fs : List Entry) → Refuses new.setting turns new.thread (e ∷ fs)) → Refuses old.setting turns old.thread es
  fed_refused e here refuses starts last p =
      let q = (h.fed starts last).0 p in
      let r : Refuses old.setting turns new.thread (e ∷ drop (k + 1) es) = subst (λ y. Refuses y turns new.thread (e ∷ drop (k + 1) es)) h.setting (refuses (drop (k + 1) es)) in
      r starts last (subst (λ l. FeedsAsWritten (source old.setting) turns starts new.thread l last) here q.1)

  pub fed_all : length es ≤ k → TakesAll old.setting turns old.thread es new.thread children
  fed_all le starts last =
      let f = h.fed starts last in
      let none = drop_end es k le in (
        λ p. (let q = f.0 p in (q.0, subst (λ l. FeedsAsWritten (source old.setting) turns starts new.thread l last) none q.1)),
        λ p. f.1 (p.0, subst (λ l. FeedsAsWritten (source old.setting) turns starts new.thread l last) (sym none) p.1),
      )

-- to a count -------------------------------------------------------------------------

counts_turns : (x : Setting) → CountsTurns (source x)
counts_turns x = λ s turn. (instructions_count x).turn s

module _ (x : Setting) (turns count : ℕ) (t : Running) (same : t.setting ≡ x) (less : t.thread.count < count) (last : Source) (settles : SettlesWithin (source x) turns t.thread last) (is : last.count ≡ count) where
  next : (source_ask x t.thread ≡ ask.Turn) × MayGoOn (source x) turns t.thread × SettlesWithin (source x) turns (source_turn x t.thread) last
  next = turn_or_here (source x) turns t.thread last settles (λ here. omega (arith, here, less, is))

  pub comes_not : (source_ask t.setting t.thread ≡ ask.Turn → MayGoOn (source t.setting) turns t.thread → ⊥) → ⊥
  comes_not never =
      let other : source_ask x t.thread ≡ ask.Turn → MayGoOn (source x) turns t.thread → ⊥ = subst (λ y. source_ask y t.thread ≡ ask.Turn → MayGoOn (source y) turns t.thread → ⊥) same never in
      other next.0 next.1

  pub comes_more : (u : Source) → u ≡ source_turn t.setting t.thread → SettlesWithin (source x) turns u last
  comes_more u turned = subst (λ z. SettlesWithin (source x) turns z last) (sym (turned ∙ ap (λ y. source_turn y t.thread) same)) next.2

pub comes_end : (x : Setting) (turns : ℕ) (s : Source) (count n : ℕ) (t : Running) → HasTurned x turns s t
    → ((last : Source) → SettlesWithin (source x) turns s last → last.count ≡ count → SettlesWithin (source x) turns t.thread last)
    → n ≡ t.thread.count → count ≤ n → ComesTo (nat_eq n count) x turns s count t.thread
comes_end x turns s count n t h on same le = elim (eqb_tells n count) [
  | inl hit ↦ subst (λ b. ComesTo b x turns s count t.thread) (sym hit.0) (h.turned, sym same ∙ hit.1)
  | inr miss ↦ subst (λ b. ComesTo b x turns s count t.thread) (sym miss.0)
      (λ last settles is. (let up = count_up (source x) turns (counts_turns x) t.thread last (on last settles is) in miss.1 (omega (arith, up, same, le, is))))
]

pub came : (b : Bool) (x y : Setting) (turns count : ℕ) (s t : Source) → b ≡ true → y ≡ x → ComesTo b y turns s count t → SettlesWithin (source x) turns s t × (t.count ≡ count)
came true x y turns count s t is same h = (subst (λ z. SettlesWithin (source z) turns s t) same h.0, h.1)
came false x y turns count s t is same h = absurd (cc)

pub never_came : (b : Bool) (x y : Setting) (turns count : ℕ) (s t : Source) → b ≡ false → y ≡ x → ComesTo b y turns s count t → (last : Source) → SettlesWithin (source x) turns s last → last.count ≡ count → ⊥
never_came true x y turns count s t is same h = absurd (cc)
never_came false x y turns count s t is same h = λ last settles. h last (subst (λ z. SettlesWithin (source z) turns s last) (sym same) settles)
