-- Threads that are started once, by marks on their logs.
use Rattle.std.proofs.Common.{◌≡◌, ◌≢◌, ℕ, zero, suc, ◌+◌, ◌<◌, ◌≤◌, Bool, true, false, List, [], ◌∷◌, ◌++◌, refl, sym, ◌∙◌, ap, subst, inl, inr, arith, length}
use Rattle.std.specs.Prelude.{◌⊎◌, Some, None, Option, count_by, slice_get, slice_set}
use Rattle.std.proofs.lemmas.Bool.{true≢false}
use Rattle.std.proofs.lemmas.Bool.Decides.{eqb_tells}
use Rattle.std.proofs.lemmas.List.Sums.{sum_by-append}
use Rattle.std.proofs.lemmas.Option.{slice_get_within}
use Rattle.bsan_ids.specs.declared.numbers.ThreadNo.{ThreadNo}
use Rattle.history.specs.declared.entry.Entry.{Entry}
use Rattle.history.specs.declared.entry.Request.{Request}
use Rattle.history.specs.declared.entry.Request.TheVariants as request
use Rattle.history.specs.declared.entry.Plain.{Plain}
use Rattle.history.specs.declared.entry.Plain.TheVariants as plain
use Rattle.history.specs.declared.log.ThreadLog.{ThreadLog}
use Rattle.runs.specs.Merge.{all_entries, merged, entries_of}
use Rattle.runs.specs.Parts.{Has, child_of, is_child, spawned_by}
use Rattle.runs.specs.Right.{NumbersRiseFrom, HasThreads, IsSpawnedOnce, starts_thread}
use Rattle.runs.proofs.Counting.{one_if, one_is, none_is, count_cons, count_there, one_passes}
use Rattle.runs.proofs.LogLists.{weigh_merged, log_weighs, one_log, entries_there}
use Rattle.runs.proofs.RightErases.{number_above}
use Rattle.runs.proofs.Tracking.{some_inj}
use Rattle.runs.proofs.Tying.{in_merge, starts_one, spawned_inj}
use Rattle.record_file.specs.Family.{StartsBy, StartsOne, bit, Marks, StartsAgain, StartEach, IsFirstRight}

-- places ------------------------------------------------------------------------

pub has_at : {X : Type 0} (xs : List X) (i : ℕ) (x : X) → slice_get xs i ≡ Some x → Has xs x
has_at [] i x is = absurd (cc)
has_at (y ∷ ys) zero x is = inl (some_inj is)
has_at (y ∷ ys) (suc i) x is = inr (has_at ys i x is)

pub place_of : {X : Type 0} (xs : List X) (x : X) → Has xs x → (i : ℕ) × (slice_get xs i ≡ Some x)
place_of [] x h = absurd h
place_of (y ∷ ys) x (inl same) = (0, ap Some same)
place_of (y ∷ ys) x (inr h) = let r = place_of ys x h in (suc r.0, r.1)

pub at_within : {X : Type 0} (xs : List X) (i : ℕ) → i < length xs → (x : X) × (slice_get xs i ≡ Some x)
at_within [] i less = absurd (omega (arith, less))
at_within (y ∷ ys) zero less = (y, refl)
at_within (y ∷ ys) (suc i) less = at_within ys i (omega (arith, less))

pub set_here : {X : Type 0} (xs : List X) (i : ℕ) (b : X) → i < length xs → slice_get (slice_set xs i b) i ≡ Some b
set_here [] i b less = absurd (omega (arith, less))
set_here (x ∷ xs) zero b less = refl
set_here (x ∷ xs) (suc i) b less = set_here xs i b (omega (arith, less))

pub set_other : {X : Type 0} (xs : List X) (i j : ℕ) (b : X) → j ≢ i → slice_get (slice_set xs i b) j ≡ slice_get xs j
set_other [] i j b apart = refl
set_other (x ∷ xs) zero zero b apart = absurd (apart refl)
set_other (x ∷ xs) zero (suc j) b apart = refl
set_other (x ∷ xs) (suc i) zero b apart = refl
set_other (x ∷ xs) (suc i) (suc j) b apart = set_other xs i j b (λ same. apart (ap suc same))

pub one_place : (k : ℕ) (logs : List ThreadLog) → NumbersRiseFrom k logs → (i j : ℕ) (a b : ThreadLog) → slice_get logs i ≡ Some a → slice_get logs j ≡ Some b → a.number.0 ≡ b.number.0 → i ≡ j
one_place k [] r i j a b at on same = absurd (cc)
one_place k (l ∷ ls) r zero zero a b at on same = refl
one_place k (l ∷ ls) r zero (suc j) a b at on same =
    let above = number_above (suc l.number.0) ls b r.1 (has_at ls j b on) in
    let here = ap (λ (z : ThreadLog). z.number.0) (some_inj at) in absurd (omega (arith, above, here, same))
one_place k (l ∷ ls) r (suc i) zero a b at on same =
    let above = number_above (suc l.number.0) ls a r.1 (has_at ls i a at) in
    let here = ap (λ (z : ThreadLog). z.number.0) (some_inj on) in absurd (omega (arith, above, here, same))
one_place k (l ∷ ls) r (suc i) (suc j) a b at on same = ap suc (one_place (suc l.number.0) ls r.1 i j a b at on same)

-- what an entry starts -------------------------------------------------------------

pub child_inj : (e : Entry) (n : ℕ) → starts_thread n e ≡ true → child_of e ≡ Some n
child_inj e n is = by (child_of e) refl
  where
    by : (o : Option ℕ) → child_of e ≡ o → child_of e ≡ Some n
    by None none = absurd (true≢false (sym is ∙ ap (λ z. is_child z n) none))
    by (Some c) some = elim (eqb_tells c n) [
      | inl hit ↦ some ∙ ap Some hit.1
      | inr miss ↦ absurd (true≢false (sym is ∙ ap (λ z. is_child z n) some ∙ miss.0))
    ]

-- a Spawn that answers this thread
pub spawn_of : (e : Entry) (n : ℕ) → child_of e ≡ Some n → (f : ℕ) × (c : ThreadNo) × (e.request ≡ request.Spawn f) × (e.reply.plain ≡ plain.Spawned c) × (c.0 ≡ n)
spawn_of e n is = by e.request e.reply.plain refl refl is
  where
    by : (r : Request) (p : Plain) → e.request ≡ r → e.reply.plain ≡ p → spawned_by r p ≡ Some n
        → (f : ℕ) × (c : ThreadNo) × (e.request ≡ request.Spawn f) × (e.reply.plain ≡ plain.Spawned c) × (c.0 ≡ n)
    by (request.Spawn f) (plain.Spawned c) asks tells some = (f, c, asks, tells, some_inj some)
    by (request.Spawn f) _ asks tells some = absurd (cc)
    by _ p asks tells some = absurd (cc)

pub starts_none : (e : Entry) (c n : ℕ) → child_of e ≡ Some c → c ≢ n → starts_thread n e ≡ false
starts_none e c n some apart = ap (λ o. is_child o n) some ∙ elim (eqb_tells c n) [ inl hit ↦ absurd (apart hit.1) | inr miss ↦ miss.0 ]

-- another request starts none
pub no_spawn : (e : Entry) → ((f : ℕ) → e.request ≡ request.Spawn f → ⊥) → child_of e ≡ None
no_spawn e other = by e.request refl
  where
    by : (r : Request) → e.request ≡ r → child_of e ≡ None
    by (request.Spawn f) is = absurd (other f is)
    by _ is = ap (λ r. spawned_by r e.reply.plain) is

pub child_there : (e : Entry) (f : ℕ) (c : ThreadNo) → e.request ≡ request.Spawn f → e.reply.plain ≡ plain.Spawned c → child_of e ≡ Some c.0
child_there e f c asks tells = ap (λ r. spawned_by r e.reply.plain) asks ∙ ap (spawned_by (request.Spawn f)) tells

-- counts --------------------------------------------------------------------------

pub count_logs : (p : Entry → Bool) (l : ThreadLog) (ls : List ThreadLog) → count_by p (all_entries (l ∷ ls)) ≡ count_by p l.entries + count_by p (all_entries ls)
count_logs p l ls = sum_by-append (one_if p) l.entries (all_entries ls)

count_log : (p : Entry → Bool) (ls : List ThreadLog) (l : ThreadLog) (x : Entry) → Has ls l → Has l.entries x → p x ≡ true → 1 ≤ count_by p (all_entries ls)
count_log p ls l x h g is = let a = log_weighs (one_if p) ls l x h g in let one = one_is p x is in omega (arith, a, one)

-- what passes in two logs passes twice
two_logs : (p : Entry → Bool) (ls : List ThreadLog) (a b : ThreadLog) (x y : Entry) → Has ls a → Has ls b → a.number.0 ≢ b.number.0 → Has a.entries x → Has b.entries y → p x ≡ true → p y ≡ true
    → 2 ≤ count_by p (all_entries ls)
two_logs p [] a b x y h g apart hx gy is also = absurd h
two_logs p (l ∷ ls) a b x y (inl s) (inl t) apart hx gy is also = absurd (apart (ap (λ (z : ThreadLog). z.number.0) (sym s ∙ t)))
two_logs p (l ∷ ls) a b x y (inl s) (inr g) apart hx gy is also =
    let one = count_there p l.entries x (subst (λ (z : ThreadLog). Has z.entries x) (sym s) hx) is in
    let more = count_log p ls b y g gy also in omega (arith, one, more, count_logs p l ls)
two_logs p (l ∷ ls) a b x y (inr h) (inl t) apart hx gy is also =
    let one = count_there p l.entries y (subst (λ (z : ThreadLog). Has z.entries y) (sym t) gy) also in
    let more = count_log p ls a x h hx is in omega (arith, one, more, count_logs p l ls)
two_logs p (l ∷ ls) a b x y (inr h) (inr g) apart hx gy is also =
    let more = two_logs p ls a b x y h g apart hx gy is also in omega (arith, more, count_logs p l ls)

some_entry : (p : Entry → Bool) (es : List Entry) → 1 ≤ count_by p es → (x : Entry) × Has es x × (p x ≡ true)
some_entry p [] le = absurd (omega (arith, le))
some_entry p (e ∷ es) le = by (p e) refl (λ some. some_entry p es some)
  where
    by : (b : Bool) → p e ≡ b → (1 ≤ count_by p es → (x : Entry) × Has es x × (p x ≡ true)) → (x : Entry) × Has (e ∷ es) x × (p x ≡ true)
    by true is more = (e, inl refl, is)
    by false is more = let none = none_is p e is in let r = more (omega (arith, le, none, count_cons p e es)) in (r.0, inr r.1, r.2)

-- what passes stands in a log
some_passes : (p : Entry → Bool) (ls : List ThreadLog) → 1 ≤ count_by p (all_entries ls) → (l : ThreadLog) × (x : Entry) × Has ls l × Has l.entries x × (p x ≡ true)
some_passes p [] le = absurd (omega (arith, le))
some_passes p (l ∷ ls) le = by (count_by p l.entries) refl (λ some. some_passes p ls some)
  where
    by : (n : ℕ) → count_by p l.entries ≡ n → (1 ≤ count_by p (all_entries ls) → (m : ThreadLog) × (x : Entry) × Has ls m × Has m.entries x × (p x ≡ true)) → (m : ThreadLog) × (x : Entry) × Has (l ∷ ls) m × Has m.entries x × (p x ≡ true)
    by zero none more = let r = more (omega (arith, le, none, count_logs p l ls)) in (r.0, r.1, inr r.2, r.3, r.4)
    by (suc n) some more = let r = some_entry p l.entries (omega (arith, some)) in (l, r.0, inl refl, r.1, r.2)

-- the threads are right ------------------------------------------------------------

-- a log in which an entry of this number stands
log_with : (logs : List ThreadLog) (t : ℕ) (e : Entry) → Has (entries_of logs t) e → (log : ThreadLog) × Has logs log × Has log.entries e × (log.number.0 ≡ t)
log_with [] t e h = absurd h
log_with (l ∷ ls) t e h = elim (eqb_tells l.number.0 t) [
  | inl hit ↦ (l, inl refl, subst (λ es. Has es e) (rw hit.0 refl) h, hit.1)
  | inr miss ↦ (let r = log_with ls t e (subst (λ es. Has es e) (rw miss.0 refl) h) in (r.0, inr r.1, r.2, r.3))
]

pub threads_count : (main : ℕ) (logs : List ThreadLog) → HasThreads main logs → (log : ThreadLog) → Has logs log → log.number.0 ≢ 0 → count_by (starts_thread log.number.0) (all_entries logs) ≡ 1
threads_count main logs h log there other = elim (h.spawned log there) [
  | inl zero_is ↦ absurd (other zero_is)
  | inr one ↦ sym (weigh_merged (one_if (starts_thread log.number.0)) logs) ∙ one.once
]

pub threads_start : (main : ℕ) (logs : List ThreadLog) → HasThreads main logs → StartEach logs logs
threads_start main logs h log there e on = by e.request refl
  where
    starts : (f : ℕ) → e.request ≡ request.Spawn f → StartsOne logs log.number e f
    starts f asks = (
        let c = h.children log e f there on asks in (
          c.0,
          c.1,
          c.2,
          elim (eqb_tells c.0.number.0 0) [
            | inl hit ↦ inl hit.1
            | inr miss ↦ inr (elim (h.spawned c.0 c.1) [
              | inl zero_is ↦ absurd (miss.1 zero_is)
              | inr one ↦ (
                  let p : Entry → Bool = starts_thread c.0.number.0 in
                  let l = log_with logs one.parent.0 one.spawn one.stands in
                  let is = starts_one e c.0.number.0 (child_there e f c.0.number asks c.2) in
                  let also = starts_one one.spawn c.0.number.0 one.answers in
                  let once = threads_count main logs h c.0 c.1 miss.1 in
                  let le : count_by p (merged logs) ≤ 1 = (let o = one.once in omega (arith, o)) in
                  let same : e ≡ one.spawn = one_passes p (merged logs) e one.spawn le (in_merge logs log e there on) (in_merge logs l.0 one.spawn l.1 l.2) is also in
                  let here : log.number.0 ≡ one.parent.0 = (elim (eqb_tells log.number.0 l.0.number.0) [
                    | inl hit ↦ hit.1 ∙ l.3
                    | inr other ↦ (let two = two_logs p logs log l.0 e one.spawn there l.1 other.1 on l.2 is also in absurd (omega (arith, two, once)))
                  ]) in
                  let asked : request.Spawn f ≡ request.Spawn c.0.entry_function = sym asks ∙ ap (λ (z : Entry). z.request) same ∙ one.request in
                  (one.names_parent ∙ ap (λ n. Some (record { 0 = n })) (sym here), sym (the_function f c.0.entry_function asked)))
            ])
          ],
        ))
      where
        the_function : (a b : ℕ) → request.Spawn a ≡ request.Spawn b → a ≡ b
        the_function a b is = cc

    by : (r : Request) → e.request ≡ r → StartsBy logs log.number e e.request
    by (request.Spawn f) asks = subst (StartsBy logs log.number e) (sym asks) (starts f asks)
    by (request.Make s p) asks = subst (StartsBy logs log.number e) (sym asks) tt
    by (request.Load a t p) asks = subst (StartsBy logs log.number e) (sym asks) tt
    by (request.Store a t v c p) asks = subst (StartsBy logs log.number e) (sym asks) tt
    by (request.Modify a w o v p) asks = subst (StartsBy logs log.number e) (sym asks) tt
    by (request.CmpXchg a w x v p) asks = subst (StartsBy logs log.number e) (sym asks) tt
    by (request.CopyOut a n p) asks = subst (StartsBy logs log.number e) (sym asks) tt
    by (request.CopyIn a n p) asks = subst (StartsBy logs log.number e) (sym asks) tt
    by (request.Retag a n k g p) asks = subst (StartsBy logs log.number e) (sym asks) tt
    by (request.EndProtector t) asks = subst (StartsBy logs log.number e) (sym asks) tt
    by (request.Free a s p) asks = subst (StartsBy logs log.number e) (sym asks) tt
    by (request.Print v) asks = subst (StartsBy logs log.number e) (sym asks) tt
    by (request.Host n a b) asks = subst (StartsBy logs log.number e) (sym asks) tt
    by (request.Join c) asks = subst (StartsBy logs log.number e) (sym asks) tt

first_is : (main : ℕ) (logs : List ThreadLog) → NumbersRiseFrom 0 logs → IsFirstRight main logs → (log : ThreadLog) → Has logs log → log.number.0 ≡ 0 → (log.parent ≡ None) × (log.entry_function ≡ main)
first_is main [] rise first log there zero_is = absurd there
first_is main (l ∷ ls) rise first log there zero_is =
    let same : l ≡ log = one_log 0 (l ∷ ls) l log rise (inl refl) there (first.0 ∙ sym zero_is) in
    (ap (λ (z : ThreadLog). z.parent) (sym same) ∙ first.1, ap (λ (z : ThreadLog). z.entry_function) (sym same) ∙ first.2)

first_there : (main : ℕ) (logs : List ThreadLog) → IsFirstRight main logs → (log : ThreadLog) × Has logs log × (log.number.0 ≡ 0)
first_there main [] first = absurd first
first_there main (l ∷ ls) first = (l, inl refl, first.0)

pub first_of : (main : ℕ) (logs : List ThreadLog) → HasThreads main logs → IsFirstRight main logs
first_of main [] h = h.has_first.1
first_of main (l ∷ ls) h = by h.has_first.0 h.has_first.1 h.has_first.2
  where
    by : (log : ThreadLog) → Has (l ∷ ls) log → log.number.0 ≡ 0 → IsFirstRight main (l ∷ ls)
    by log (inl same) zero_is =
        let is : l.number.0 ≡ 0 = ap (λ (z : ThreadLog). z.number.0) same ∙ zero_is in
        let f = h.first l (inl refl) is in (is, f.0, f.1)
    by log (inr g) zero_is = let above = number_above (suc l.number.0) ls log h.rise.1 g in absurd (omega (arith, above, zero_is))

pub threads_right : (main : ℕ) (logs : List ThreadLog) → NumbersRiseFrom 0 logs → IsFirstRight main logs → StartEach logs logs
    → ((log : ThreadLog) → Has logs log → log.number.0 ≢ 0 → count_by (starts_thread log.number.0) (all_entries logs) ≡ 1) → HasThreads main logs
threads_right main logs rise first each counts = record {
  rise = rise;
  first = first_is main logs rise first;
  has_first = first_there main logs first;
  spawned = λ log there. (elim (eqb_tells log.number.0 0) [ inl hit ↦ inl hit.1 | inr miss ↦ inr (once log there miss.1) ]);
  children = λ log e f there on asks. (let s : StartsOne logs log.number e f = subst (StartsBy logs log.number e) asks (each log there e on) in (s.0, s.1, s.2));
}
  where
    once : (log : ThreadLog) → Has logs log → log.number.0 ≢ 0 → IsSpawnedOnce logs log
    once log there other =
        let count = counts log there other in
        let s = some_passes (starts_thread log.number.0) logs (omega (arith, count)) in
        let answers = child_inj s.1 log.number.0 s.4 in
        let is = spawn_of s.1 log.number.0 answers in
        let one : StartsOne logs s.0.number s.1 is.0 = subst (StartsBy logs s.0.number s.1) is.2 (each s.0 s.2 s.1 s.3) in
        let named : one.0.number ≡ is.1 = spawned_inj (sym one.2 ∙ is.3) in
        let same : one.0 ≡ log = one_log 0 logs one.0 log rise one.1 there (ap (λ (z : ThreadNo). z.0) named ∙ is.4) in
        let of : (one.0.parent ≡ Some s.0.number) × (one.0.entry_function ≡ is.0) = elim one.3 [ inl zero_is ↦ absurd (other (sym (ap (λ (z : ThreadLog). z.number.0) same) ∙ zero_is)) | inr both ↦ both ] in
        record {
          parent = s.0.number;
          spawn = s.1;
          names_parent = ap (λ (z : ThreadLog). z.parent) (sym same) ∙ of.0;
          stands = subst (λ es. Has es s.1) (sym (entries_there 0 logs s.0 rise s.2)) s.3;
          request = is.2 ∙ ap request.Spawn (sym of.1 ∙ ap (λ (z : ThreadLog). z.entry_function) same);
          answers = answers;
          once = weigh_merged (one_if (starts_thread log.number.0)) logs ∙ count;
        }

-- marks ---------------------------------------------------------------------------

module _ (logs : List ThreadLog) where
  pub marks_kept : (before : List Bool) (e : Entry) → ((n : ℕ) → n ≢ 0 → starts_thread n e ≡ false) → Marks logs before (e ∷ []) before
  marks_kept before e none at log old new there was now other =
      let same : old ≡ new = some_inj (sym was ∙ now) in
      let bits : bit old ≡ bit new = ap bit same in
      let zero_is = none_is (starts_thread log.number.0) e (none log.number.0 other) in
      omega (arith, bits, zero_is, count_cons (starts_thread log.number.0) e [])

  module _ (rise : NumbersRiseFrom 0 logs) (at : ℕ) (child : ThreadLog) (there : slice_get logs at ≡ Some child) (e : Entry) (answers : child_of e ≡ Some child.number.0) where
    pub marks_one : (before after : List Bool) → slice_get before at ≡ Some false → slice_get after at ≡ Some true → ((i : ℕ) → i ≢ at → slice_get after i ≡ slice_get before i) → Marks logs before (e ∷ []) after
    marks_one before after free marked others i log old new on was now other = elim (eqb_tells i at) [
      | inl hit ↦
          let same : child ≡ log = some_inj (sym there ∙ ap (slice_get logs) (sym hit.1) ∙ on) in
          let old_is : false ≡ old = some_inj (sym free ∙ ap (slice_get before) (sym hit.1) ∙ was) in
          let new_is : true ≡ new = some_inj (sym marked ∙ ap (slice_get after) (sym hit.1) ∙ now) in
          let is = one_is (starts_thread log.number.0) e (starts_one e log.number.0 (answers ∙ ap (λ (z : ThreadLog). Some z.number.0) same)) in
          let b : bit false ≡ bit old = ap bit old_is in
          let c : bit true ≡ bit new = ap bit new_is in
          omega (arith, is, b, c, count_cons (starts_thread log.number.0) e [])
      | inr miss ↦
          let same : old ≡ new = some_inj (sym was ∙ sym (others i miss.1) ∙ now) in
          let bits : bit old ≡ bit new = ap bit same in
          let none = none_is (starts_thread log.number.0) e (ap (λ o. is_child o log.number.0) answers ∙ apart i log on miss.1) in
          omega (arith, bits, none, count_cons (starts_thread log.number.0) e [])
    ]
      where
        apart : (i : ℕ) (log : ThreadLog) → slice_get logs i ≡ Some log → i ≢ at → is_child (Some child.number.0) log.number.0 ≡ false
        apart i log on miss = elim (eqb_tells child.number.0 log.number.0) [
          | inl hit ↦ absurd (miss (one_place 0 logs rise i at log child on there (sym hit.1)))
          | inr other ↦ other.0
        ]

    pub marked_again : (before : List Bool) → slice_get before at ≡ Some true → child.number.0 ≢ 0 → StartsAgain logs before (e ∷ [])
    marked_again before was other =
        let is = one_is (starts_thread child.number.0) e (starts_one e child.number.0 answers) in
        (at, child, true, there, was, other, omega (arith, is, count_cons (starts_thread child.number.0) e []))

  -- one that answers another's child, or one of another function
  pub wrong_start : NumbersRiseFrom 0 logs → (parent c : ThreadNo) (child : ThreadLog) (e : Entry) (f : ℕ) → e.request ≡ request.Spawn f → e.reply.plain ≡ plain.Spawned c → Has logs child → child.number ≡ c
      → c.0 ≢ 0 → (child.parent ≡ Some parent → child.entry_function ≡ f → ⊥) → StartsBy logs parent e e.request → ⊥
  wrong_start rise parent c child e f asks tells there named other wrong h =
      let one : StartsOne logs parent e f = subst (StartsBy logs parent e) asks h in
      let same_number : one.0.number ≡ child.number = spawned_inj (sym one.2 ∙ tells) ∙ sym named in
      let same : one.0 ≡ child = one_log 0 logs one.0 child rise one.1 there (ap (λ (z : ThreadNo). z.0) same_number) in
      elim one.3 [
        | inl zero_is ↦ other (ap (λ (z : ThreadNo). z.0) (sym named) ∙ ap (λ (z : ThreadLog). z.number.0) (sym same) ∙ zero_is)
        | inr both ↦ wrong (ap (λ (z : ThreadLog). z.parent) (sym same) ∙ both.0) (ap (λ (z : ThreadLog). z.entry_function) (sym same) ∙ both.1)
      ]

  -- one that answers a thread without a log
  pub no_start : (parent c : ThreadNo) (e : Entry) (f : ℕ) → e.request ≡ request.Spawn f → e.reply.plain ≡ plain.Spawned c → ((log : ThreadLog) → Has logs log → log.number ≢ c) → StartsBy logs parent e e.request → ⊥
  no_start parent c e f asks tells none h =
      let one : StartsOne logs parent e f = subst (StartsBy logs parent e) asks h in
      none one.0 one.1 (spawned_inj (sym one.2 ∙ tells))

  pub no_thread : (parent : ThreadNo) (e : Entry) (f : ℕ) → e.request ≡ request.Spawn f → ((c : ThreadNo) → e.reply.plain ≡ plain.Spawned c → ⊥) → StartsBy logs parent e e.request → ⊥
  no_thread parent e f asks other h = let one : StartsOne logs parent e f = subst (StartsBy logs parent e) asks h in other one.0.number one.2

  pub starts_right : (parent c : ThreadNo) (child : ThreadLog) (e : Entry) (f : ℕ) → e.request ≡ request.Spawn f → e.reply.plain ≡ plain.Spawned c → Has logs child → child.number ≡ c
      → (child.number.0 ≡ 0) ⊎ ((child.parent ≡ Some parent) × (child.entry_function ≡ f)) → StartsBy logs parent e e.request
  starts_right parent c child e f asks tells there named of =
      let one : StartsOne logs parent e f = (child, there, tells ∙ ap plain.Spawned (sym named), of) in subst (StartsBy logs parent e) (sym asks) one

  -- more entries
  pub marks_more : (before mid after : List Bool) (es fs : List Entry) → length mid ≡ length logs → Marks logs before es mid → Marks logs mid fs after → Marks logs before (es ++ fs) after
  marks_more before mid after es fs len h g at log old new on was now other =
      let m = at_within mid at (subst (λ n. at < n) (sym len) (slice_get_within logs at log on)) in
      let one = h at log old m.0 on was m.1 other in
      let two = g at log m.0 new on m.1 now other in
      omega (arith, one, two, sum_by-append (one_if (starts_thread log.number.0)) es fs)

  pub again_later : (before mid : List Bool) (es fs rest : List Entry) → length mid ≡ length logs → length before ≡ length logs → Marks logs before es mid → StartsAgain logs mid fs → StartsAgain logs before (es ++ (fs ++ rest))
  again_later before mid es fs rest len first h s =
      let p : Entry → Bool = starts_thread s.1.number.0 in
      let b = at_within before s.0 (subst (λ n. s.0 < n) (sym first) (slice_get_within logs s.0 s.1 s.3)) in
      let one = h s.0 s.1 b.0 s.2 s.3 b.1 s.4 s.5 in
      let two = s.6 in
      (s.0, s.1, b.0, s.3, b.1, s.5, omega (arith, one, two, sum_by-append (one_if p) es (fs ++ rest), sum_by-append (one_if p) fs rest))
