-- Entries are in order exactly where they come right in turn.
use Rattle.std.proofs.Common.{◌≡◌, ◌↔◌, ◌⊎◌, ℕ, zero, suc, ◌<◌, Bool, true, false, List, [], ◌∷◌, length, replicate, refl, sym, ◌∙◌, ap, subst, inl, inr, arith}
use Rattle.std.specs.Prelude.{Option, Some, None, if◌then◌else◌, ◌==◌, slice_get, slice_set}
use Rattle.std.proofs.lemmas.Bool.{eq-eqb, true≢false}
use Rattle.std.proofs.lemmas.Bool.Decides.{eqb_tells}
use Rattle.std.proofs.lemmas.Option.{slice_get_within}
use Rattle.bsan_ids.specs.declared.numbers.ThreadNo.{ThreadNo}
use Rattle.history.specs.declared.entry.Entry.{Entry}
use Rattle.history.specs.declared.entry.Plain.{Plain}
use Rattle.history.specs.declared.entry.Plain.TheVariants as plain
use Rattle.history.specs.declared.entry.Reply.{Reply}
use Rattle.history.specs.declared.entry.Request.{Request}
use Rattle.history.specs.declared.entry.Request.TheVariants as request
use Rattle.history.specs.declared.entry.Verdict.{Verdict}
use Rattle.history.specs.declared.entry.Verdict.TheVariants as verdict
use Rattle.history.specs.declared.log.End.{End}
use Rattle.history.specs.declared.log.End.TheVariants as log_end
use Rattle.history.specs.Objects.{clean}
use Rattle.runs.specs.Interleaving.{Allowed}
use Rattle.runs.specs.Order.{StandsRight, with_child, InOrder}
use Rattle.runs.specs.Parts.{child_of, of_thread, spawned_by, spawned_of}
use Rattle.runs.proofs.Composition.{other_entries, own_entries}
use Rattle.runs.proofs.Tracking.{length_set, some_inj}
use Rattle.record_file.specs.Following.{ComesRight, ComeInTurn, first_thread, flag_of, is_set, joined_by, no_thread, set_by}
use Rattle.record_file.proofs.Marking.{set_here, set_other}
use Rattle.record_file.proofs.Separating.{JoinsEnded}

-- flags -----------------------------------------------------------------------------

set_within : (flags : List Bool) (n : ℕ) → is_set flags n ≡ true → n < length flags
set_within flags n is = by_flag (slice_get flags n) refl is
  where
    by_flag : (o : Option Bool) → slice_get flags n ≡ o → flag_of o ≡ true → n < length flags
    by_flag None here set = absurd (true≢false (sym set))
    by_flag (Some b) here set = slice_get_within flags n b here

set_one : (flags : List Bool) (n k : ℕ) → n < length flags → is_set (slice_set flags n true) k ≡ (if n == k then true else is_set flags k)
set_one flags n k less = elim (eqb_tells n k) [
  | inl hit ↦ rw hit.0 (ap (λ j. is_set (slice_set flags n true) j) (sym hit.1) ∙ ap flag_of (set_here flags n true less))
  | inr miss ↦ rw miss.0 (ap flag_of (set_other flags n k true (λ same. miss.1 (sym same))))
]

-- flags that tell who has started, after an entry that starts a thread
child_set : (flags : List Bool) (started : ℕ → Bool) (o : Option ℕ) → ((c : ℕ) → o ≡ Some c → c < length flags) → ((t : ℕ) → started t ≡ is_set flags t)
    → (t : ℕ) → with_child started o t ≡ is_set (set_by flags o) t
child_set flags started None within same t = same t
child_set flags started (Some c) within same t = ap (λ b. if c == t then true else b) (same t) ∙ sym (set_one flags c t (within c refl))

long_set : (flags : List Bool) (o : Option ℕ) → length (set_by flags o) ≡ length flags
long_set flags None = refl
long_set flags (Some c) = length_set flags c true

nothing : {X : Type 0} (n : ℕ) → None ≡ Some n → X
nothing n is = absurd (cc)

-- joins -----------------------------------------------------------------------------

joined_at : (r : Request) (n : ℕ) → joined_by r ≡ Some n → (c : ThreadNo) × (r ≡ request.Join c) × (c.0 ≡ n)
joined_at (request.Join c) n is = (c, refl, some_inj is)
joined_at _ n is = nothing n is

-- a reply is told by its parts
reply_is : (y : Reply) (v : ℕ) → y.plain ≡ plain.Value v → y.verdict ≡ verdict.Clean → y ≡ clean (plain.Value v) y.carried
reply_is y v is clear =
    let one : (p : Plain) → Reply = λ p. record { plain = p; carried = y.carried; verdict = y.verdict } in
    let two : (q : Verdict) → Reply = λ q. record { plain = plain.Value v; carried = y.carried; verdict = q } in
    ap one is ∙ ap two clear

some_entries : (e : Entry) (es : List Entry) → (e ∷ es) ≡ [] → ⊥
some_entries e es is = cc

-- who has no entry among these has none among the later ones
none_later : (t : ℕ) (e : Entry) (es : List Entry) → of_thread t (e ∷ es) ≡ [] → of_thread t es ≡ []
none_later t e es none = elim (eqb_tells e.thread.0 t) [
  | inl hit ↦ absurd (some_entries e (of_thread t es) (sym (own_entries t e es hit.0) ∙ none))
  | inr miss ↦ sym (other_entries t e es miss.0) ∙ none
]

module _ (A : Allowed) (ends : ℕ → End) where
  -- a child's number is within the flags
  child_below : (flags : List Bool) (e : Entry) (r : Request) (n : ℕ) → ComesRight A flags e r → spawned_by r e.reply.plain ≡ Some n → n < 1024
  child_below flags e (request.Spawn f) n h is =
      let same : h.0.0 ≡ n = some_inj (sym (ap (λ (y : Reply). spawned_of y.plain) h.4) ∙ is) in
      let le = h.2 in omega (arith, same, le)
  child_below flags e _ n h is = nothing n is

  right_here : (started : ℕ → Bool) (flags : List Bool) (e : Entry) (es : List Entry) (r : Request) → ((t : ℕ) → started t ≡ is_set flags t)
      → StandsRight A ends started (e ∷ es) e r → ComesRight A flags e r
  right_here started flags e es (request.Spawn f) same h = (h.0, h.1, h.2, sym (same h.0.0) ∙ h.3, h.4)
  right_here started flags e es (request.Join c) same h = (
    sym (same c.0) ∙ h.2,
    λ is. some_entries e (of_thread c.0 es) (sym (own_entries c.0 e es (eq-eqb e.thread.0 c.0 (sym is))) ∙ h.3),
    ap (λ (y : Reply). y.verdict) h.5,
  )
  right_here started flags e es _ same h = h

  stands_here : (started : ℕ → Bool) (flags : List Bool) (e : Entry) (es : List Entry) (r : Request) → e.request ≡ r → ((t : ℕ) → started t ≡ is_set flags t)
      → ComesRight A flags e r
      → ((c : ThreadNo) → e.request ≡ request.Join c → (v : ℕ) × (e.reply.plain ≡ plain.Value v) × (ends c.0 ≡ log_end.Returned v e.reply.carried))
      → ((n : ℕ) → joined_by r ≡ Some n → of_thread n es ≡ [])
      → StandsRight A ends started (e ∷ es) e r
  stands_here started flags e es (request.Spawn f) is same h joins none = (h.0, h.1, h.2, same h.0.0 ∙ h.3, h.4)
  stands_here started flags e es (request.Join c) is same h joins none =
      let j = joins c is in
      let other : (e.thread.0 == c.0) ≡ false = elim (eqb_tells e.thread.0 c.0) [ inl hit ↦ absurd (h.1 (sym hit.1)) | inr miss ↦ miss.0 ] in
      (j.0, e.reply.carried, same c.0 ∙ h.0, other_entries c.0 e es other ∙ none c.0 refl, j.2, reply_is e.reply j.0 j.1 h.2)
  stands_here started flags e es _ is same h joins none = h

  -- the entries are in order, and none is of a thread that was joined
  pub record AreInOrder (started : ℕ → Bool) (joined : List Bool) (es : List Entry) : Type 0 where
    pub order : InOrder A ends started es
    pub none : (t : ℕ) → is_set joined t ≡ true → of_thread t es ≡ []

  -- who was joined, after an entry
  joined_later : (started joined : List Bool) (e : Entry) (r : Request) (t : ℕ) → length joined ≡ length started → ComesRight A started e r
      → is_set (set_by joined (joined_by r)) t ≡ true → (is_set joined t ≡ true) ⊎ (joined_by r ≡ Some t)
  joined_later started joined e (request.Join c) t long h is = elim (eqb_tells c.0 t) [
    | inl hit ↦ inr (ap Some hit.1)
    | inr miss ↦ inl (sym (ap flag_of (set_other joined c.0 t true (λ same. miss.1 (sym same)))) ∙ is)
  ]
  joined_later started joined e _ t long h is = inl is

  still_joined : (joined : List Bool) (o : Option ℕ) (t : ℕ) → ((n : ℕ) → o ≡ Some n → n < length joined) → is_set joined t ≡ true → is_set (set_by joined o) t ≡ true
  still_joined joined None t within is = is
  still_joined joined (Some n) t within is = set_one joined n t (within n refl) ∙ elim (n == t) as (λ b. (if b then true else is_set joined t) ≡ true) [ true ↦ refl | false ↦ is ]

  joined_now : (joined : List Bool) (o : Option ℕ) (n : ℕ) → o ≡ Some n → n < length joined → is_set (set_by joined o) n ≡ true
  joined_now joined o n is less = ap (λ p. is_set (set_by joined p) n) is ∙ ap flag_of (set_here joined n true less)

  -- a joined number is within the flags
  join_below : (started : List Bool) (e : Entry) (r : Request) (n : ℕ) → ComesRight A started e r → joined_by r ≡ Some n → n < length started
  join_below started e (request.Join c) n h is = let same = some_inj is in subst (λ k. k < length started) same (set_within started c.0 h.0)
  join_below started e _ n h is = nothing n is

  none_of_joined : (started joined : List Bool) (e : Entry) (es : List Entry) (r : Request) (f : ℕ → Bool) → StandsRight A ends f (e ∷ es) e r
      → ((t : ℕ) → is_set joined t ≡ true → of_thread t (e ∷ es) ≡ []) → (t : ℕ) → (is_set joined t ≡ true) ⊎ (joined_by r ≡ Some t) → of_thread t es ≡ []
  none_of_joined started joined e es r f h none t (inl old) = none_later t e es (none t old)
  none_of_joined started joined e es (request.Join c) f h none t (inr is) = none_later t e es (subst (λ n. of_thread n (e ∷ es) ≡ []) (some_inj is) h.3)
  none_of_joined started joined e es _ f h none t (inr is) = nothing t is

  -- a child's number, and a joined one, are within the flags
  child_less : (flags : List Bool) (e : Entry) → length flags ≡ 1024 → ComesRight A flags e e.request → (n : ℕ) → child_of e ≡ Some n → n < length flags
  child_less flags e long h n is = let less = child_below flags e e.request n h is in omega (arith, less, long)

  join_less : (flags joined : List Bool) (e : Entry) → length joined ≡ length flags → ComesRight A flags e e.request → (n : ℕ) → joined_by e.request ≡ Some n → n < length joined
  join_less flags joined e long h n is = let less = join_below flags e e.request n h is in omega (arith, less, long)

  module _ (e : Entry) (es : List Entry) (started : ℕ → Bool) (flags joined : List Bool) (long : length flags ≡ 1024) (wide : length joined ≡ 1024) (same : (t : ℕ) → started t ≡ is_set flags t) (joins : JoinsEnded ends (e ∷ es))
      (rest : ComesRight A flags e e.request
      → AreInOrder (with_child started (child_of e)) (set_by joined (joined_by e.request)) es ↔ ComeInTurn A (set_by flags (child_of e)) (set_by joined (joined_by e.request)) es) where
    not_joined : AreInOrder started joined (e ∷ es) → (b : Bool) → is_set joined e.thread.0 ≡ b → is_set joined e.thread.0 ≡ false
    not_joined h true is = absurd (some_entries e (of_thread e.thread.0 es) (sym (own_entries e.thread.0 e es (eq-eqb e.thread.0 e.thread.0 refl)) ∙ h.none e.thread.0 is))
    not_joined h false is = is

    turns : AreInOrder started joined (e ∷ es) → ComeInTurn A flags joined (e ∷ es)
    turns h =
        let right = right_here started flags e es e.request same h.order.1 in (
          record { on = sym (same e.thread.0) ∙ h.order.0; apart = not_joined h (is_set joined e.thread.0) refl; right = right },
          (rest right).0 (record {
            order = h.order.2;
            none = λ t is. none_of_joined flags joined e es e.request started h.order.1 h.none t (joined_later flags joined e e.request t (wide ∙ sym long) right is);
          }),
        )

    ordered : ComeInTurn A flags joined (e ∷ es) → AreInOrder started joined (e ∷ es)
    ordered h =
        let more = (rest h.0.right).1 h.1 in
        let within = join_less flags joined e (wide ∙ sym long) h.0.right in
        record {
          order = (
            same e.thread.0 ∙ h.0.on,
            stands_here started flags e es e.request refl same h.0.right (λ c is. joins e c (inl refl) is) (λ n is. more.none n (joined_now joined (joined_by e.request) n is (within n is))),
            more.order,
          );
          none = λ t is. (
              let other : (e.thread.0 == t) ≡ false = elim (eqb_tells e.thread.0 t) [
                | inl hit ↦ absurd (true≢false (sym is ∙ ap (is_set joined) (sym hit.1) ∙ h.0.apart))
                | inr miss ↦ miss.0
              ] in
              other_entries t e es other ∙ more.none t (still_joined joined (joined_by e.request) t within is));
        }

  pub come_in_turn : (es : List Entry) (started : ℕ → Bool) (flags joined : List Bool) → length flags ≡ 1024 → length joined ≡ 1024 → ((t : ℕ) → started t ≡ is_set flags t) → JoinsEnded ends es
      → AreInOrder started joined es ↔ ComeInTurn A flags joined es
  come_in_turn [] started flags joined long wide same joins = (λ h. tt, λ h. record { order = tt; none = λ t is. refl })
  come_in_turn (e ∷ es) started flags joined long wide same joins =
      let rest : ComesRight A flags e e.request
      → AreInOrder (with_child started (child_of e)) (set_by joined (joined_by e.request)) es ↔ ComeInTurn A (set_by flags (child_of e)) (set_by joined (joined_by e.request)) es =
      λ h. come_in_turn es (with_child started (child_of e)) (set_by flags (child_of e)) (set_by joined (joined_by e.request))
      (long_set flags (child_of e) ∙ long) (long_set joined (joined_by e.request) ∙ wide) (child_set flags started (child_of e) (child_less flags e long h) same) (λ x c g is. joins x c (inr g) is) in
      (turns e es started flags joined long wide same joins rest, ordered e es started flags joined long wide same joins rest)

-- at the start ----------------------------------------------------------------------

none_set : (n t : ℕ) → is_set (replicate n false) t ≡ false
none_set zero t = refl
none_set (suc n) zero = refl
none_set (suc n) (suc t) = none_set n t

long_none : (n : ℕ) → length (replicate n false) ≡ n
long_none zero = refl
long_none (suc n) = let more = long_none n in omega (arith, more)

pub first_set : (t : ℕ) → (0 == t) ≡ is_set first_thread t
first_set t = elim (eqb_tells 0 t) [
  | inl hit ↦ hit.0 ∙ sym (set_one no_thread 0 t (omega (arith, long_none 1024)) ∙ ap (λ b. if b then true else is_set no_thread t) hit.0)
  | inr miss ↦ miss.0 ∙ sym (set_one no_thread 0 t (omega (arith, long_none 1024)) ∙ ap (λ b. if b then true else is_set no_thread t) miss.0 ∙ none_set 1024 t)
]

pub from_start : (A : Allowed) (ends : ℕ → End) (es : List Entry) → JoinsEnded ends es → InOrder A ends (λ t. 0 == t) es ↔ ComeInTurn A first_thread no_thread es
from_start A ends es joins =
    let both = come_in_turn A ends es (λ t. 0 == t) first_thread no_thread (length_set no_thread 0 true ∙ long_none 1024) (long_none 1024) first_set joins in (
      λ order. both.0 (record { order = order; none = λ t is. absurd (true≢false (sym is ∙ none_set 1024 t)) }),
      λ h. (both.1 h).order,
    )
