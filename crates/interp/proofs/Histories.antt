-- The closed logs of allocations are the legal histories of the entries on their numbers.
use Rattle.std.proofs.Common.{◌≡◌, ◌≢◌, ℕ, zero, suc, ◌+◌, ◌<◌, ◌≤◌, Bool, true, false, cond, eqb, List, [], ◌∷◌, ◌++◌, length, refl, sym, ◌∙◌, ap, subst, inl, inr, arith, sum_by, All}
use Rattle.std.specs.Prelude.{◌⊎◌, Some, None, slice_get, count_by}
use Rattle.std.specs.declared.option.Option.{Option}
use Rattle.std.proofs.lemmas.Bool.{true≢false}
use Rattle.std.proofs.lemmas.Bool.Decides.{eqb_tells, nat_tests}
use Rattle.std.proofs.lemmas.List.Elements.{All-head, All-tail}
use Rattle.std.proofs.lemmas.List.Sums.{sum_by_push}
use Rattle.bsan_ids.specs.declared.numbers.AllocNo.{AllocNo}
use Rattle.bsan_ids.specs.declared.numbers.Limits.{Limits}
use Rattle.history.specs.declared.entry.Entry.{Entry}
use Rattle.history.specs.declared.entry.Request.{Request}
use Rattle.history.specs.declared.entry.Request.TheVariants as request
use Rattle.history.specs.declared.log.AllocLog.{AllocLog}
use Rattle.history.specs.declared.log.ThreadLog.{ThreadLog}
use Rattle.history.specs.Histories.{IsHistory, Replies, is_make, is_make_step}
use Rattle.history.specs.Merge.{stamp_of}
use Rattle.history.specs.Objects.{Object, unmade}
use Rattle.history.specs.Restriction.{number_of}
use Rattle.runs.specs.Interleaving.{Legal, MakesUnmade}
use Rattle.runs.specs.Merge.{all_entries}
use Rattle.runs.specs.Objects.{objects}
use Rattle.runs.specs.Parts.{Has, names, of_alloc}
use Rattle.runs.specs.ReplayLaw.{with_history}
use Rattle.runs.specs.Right.{AllocsRiseFrom, history_of, counting_from}
use Rattle.runs.specs.Stamps.{RisesFrom}
use Rattle.runs.proofs.Counting.{one_is, none_is, count_cons}
use Rattle.runs.proofs.FiberLists.{counting_more}
use Rattle.runs.proofs.LogLists.{entry_weighs}
use Rattle.runs.proofs.ObjectLaws.{objects_make_alone}
use Rattle.runs.proofs.WholeParts.{sum_alloc, entries_weigh, zero_weigh}
use Rattle.runs.proofs.Weights.{equals, equals_cases, sum_same}
use Rattle.turn_lock.specs.Rule.{Rising}
use Rattle.turn_lock.specs.Weights.{naming, sum_up_to}
use Rattle.alloc_state.specs.Log.{Log}
use Rattle.alloc_space.specs.Steps.{has_slot}
use Rattle.interp.specs.Desks.{slotted}
use Rattle.run_memory.specs.States.{named_in}

-- the numbers up to a count
pub sum_counts : (h : ℕ → ℕ) (n : ℕ) → sum_up_to h n ≡ sum_by h (counting_from 1 n)
sum_counts h zero = refl
sum_counts h (suc n) =
    let more = sum_counts h n in
    let all = ap (sum_by h) (counting_more 1 n) in
    let same : 1 + n ≡ suc n = omega arith in
    let at = ap h same in
    omega (arith, more, all, at, sum_by_push h (counting_from 1 n) (1 + n))

-- histories are legal -------------------------------------------------------------

no_make_unmade : (o : Object) (r : Request) → is_make r ≡ false → MakesUnmade objects o r
no_make_unmade o (request.Make size place) off = absurd (true≢false off)
no_make_unmade o _ off = tt

makes_unmade : (a : ℕ) (r : Request) → MakesUnmade objects (objects.unmade a) r
makes_unmade a (request.Make size place) = refl
makes_unmade a _ = tt

module _ (a : ℕ) where
  -- the object was never made, or none of these entries makes it
  abbrev IsOpen : Object → List Entry → Type 0
  IsOpen o es = (o ≡ unmade a) ⊎ (count_by is_make_step es ≡ 0)

  open_step : (o : Object) (e : Entry) (es : List Entry) → IsOpen o (e ∷ es) → count_by is_make_step (e ∷ es) ≤ 1
      → MakesUnmade objects o e.request × IsOpen (objects.next o e.request e.stamp.0) es × (count_by is_make_step es ≤ 1)
  open_step o e es fresh once = by_make (is_make_step e) refl fresh
    where
      by_make : (b : Bool) → is_make_step e ≡ b → IsOpen o (e ∷ es)
          → MakesUnmade objects o e.request × IsOpen (objects.next o e.request e.stamp.0) es × (count_by is_make_step es ≤ 1)
      by_make true is (inl same) =
          let one = one_is is_make_step e is in
          let rest : count_by is_make_step es ≡ 0 = omega (arith, once, one, count_cons is_make_step e es) in
          (subst (λ z. MakesUnmade objects z e.request) (sym same) (makes_unmade a e.request), inr rest, omega (arith, rest))
      by_make true is (inr none) = let one = one_is is_make_step e is in absurd (omega (arith, none, one, count_cons is_make_step e es))
      by_make false is (inl same) =
          let zero_is = none_is is_make_step e is in (
            no_make_unmade o e.request is,
            inl (ap (λ z. objects.next z e.request e.stamp.0) same ∙ objects_make_alone.kept a e.request e.stamp.0 is),
            omega (arith, once, zero_is, count_cons is_make_step e es),
          )
      by_make false is (inr none) =
          let zero_is = none_is is_make_step e is in
          let rest : count_by is_make_step es ≡ 0 = omega (arith, none, zero_is, count_cons is_make_step e es) in
          (no_make_unmade o e.request is, inr rest, omega (arith, rest))

  legal_from : (o : Object) (es : List Entry) → IsOpen o es → count_by is_make_step es ≤ 1 → Replies o es → Legal objects o es
  legal_from o [] fresh once replies = tt
  legal_from o (e ∷ es) fresh once replies =
      let more = open_step o e es fresh once in
      (more.0, replies.0, legal_from (objects.next o e.request e.stamp.0) es more.1 more.2 replies.1)

pub history_legal : (a : ℕ) (es : List Entry) → IsHistory a es → Legal objects (objects.unmade a) es
history_legal a es h = legal_from a (unmade a) es (inl refl) h.once h.replies

pub logs_legal : (logs : List AllocLog) (a : ℕ) → All (λ (log : AllocLog). IsHistory log.number.0 log.entries) logs → Legal objects (objects.unmade a) (history_of logs a)
logs_legal [] a all = tt
logs_legal (l ∷ ls) a all = elim (eqb_tells l.number.0 a) [
  | inl hit ↦ rw hit.0 (subst (λ n. Legal objects (objects.unmade n) l.entries) hit.1 (history_legal l.number.0 l.entries (All-head (λ (log : AllocLog). IsHistory log.number.0 log.entries) l ls all)))
  | inr miss ↦ rw miss.0 (logs_legal ls a (All-tail (λ (log : AllocLog). IsHistory log.number.0 log.entries) l ls all))
]

-- stamps rise ----------------------------------------------------------------------

later_than : (e : Entry) (es : List Entry) → All (λ (f : Entry). stamp_of e < stamp_of f) es → (x : Entry) → Has es x → stamp_of e < stamp_of x
later_than e [] all x h = absurd h
later_than e (y ∷ ys) all x (inl same) = subst (λ (z : Entry). stamp_of e < stamp_of z) same (All-head (λ (f : Entry). stamp_of e < stamp_of f) y ys all)
later_than e (y ∷ ys) all x (inr h) = later_than e ys (All-tail (λ (f : Entry). stamp_of e < stamp_of f) y ys all) x h

pub rises_of : (n : ℕ) (es : List Entry) → ((x : Entry) → Has es x → n < x.stamp.0) → Rising es → RisesFrom n es
rises_of n [] all r = tt
rises_of n (e ∷ es) all r =
    (all e (inl refl), rises_of e.stamp.0 es (λ x h. later_than e es (λ k d lt. r 0 (suc k) d (omega arith) (omega (arith, lt))) x h) (λ i j d lt inside. r (suc i) (suc j) d (omega (arith, lt)) (omega (arith, inside))))

-- the entries are exactly those on the number --------------------------------------------

slot_is : (limit n : ℕ) → 0 < n → n ≤ limit → has_slot limit n ≡ true
slot_is limit n low high = grind (arith, nat_tests, low, high)

nothing : (b : Bool) → cond {A = ℕ} b 0 0 ≡ 0
nothing true = refl
nothing false = refl

named_weight : (limit a : ℕ) (h : Entry → ℕ) (e : Entry) → 0 < a → a ≤ limit → slotted limit (naming a h) e ≡ cond (names e.alloc a) (h e) 0
named_weight limit a h e low high = by_alloc e.alloc
  where
    by_alloc : (o : Option AllocNo) → cond (has_slot limit (number_of o)) (cond (eqb (number_of o) a) (h e) 0) 0 ≡ cond (names o a) (h e) 0
    by_alloc None = elim (eqb_tells 0 a) [
      | inl hit ↦ (let same = hit.1 in absurd (omega (arith, same, low)))
      | inr miss ↦ ap (λ b. cond (has_slot limit 0) (cond b (h e) 0) 0) miss.0 ∙ nothing (has_slot limit 0)
    ]
    by_alloc (Some n) = elim (eqb_tells n.0 a) [
      | inl hit ↦
          let at = hit.1 in
          ap (λ b. cond b (cond (eqb n.0 a) (h e) 0) 0) (slot_is limit n.0 (omega (arith, at, low)) (omega (arith, at, high)))
      | inr miss ↦ ap (λ b. cond (has_slot limit n.0) (cond b (h e) 0) 0) miss.0 ∙ (nothing (has_slot limit n.0) ∙ ap (λ b. cond b (h e) 0) (sym miss.0))
    ]

module _ (limits : Limits) (logs : List ThreadLog) (calls : List Entry) (exact : (h : Entry → ℕ) → sum_by h calls ≡ sum_by (slotted limits.allocs h) (all_entries logs)) (above : (l : ThreadLog) (e : Entry) → Has logs l → Has l.entries e → 0 < e.stamp.0)
    (a : ℕ) (low : 0 < a) (high : a ≤ limits.allocs) (es : List Entry) (whole : (h : Entry → ℕ) → sum_by h es ≡ sum_by (naming a h) calls) where
  pub entries_exact : (h : Entry → ℕ) → sum_by h es ≡ sum_by h (of_alloc a (all_entries logs))
  entries_exact h =
      whole h ∙ (exact (naming a h) ∙ (sum_same (slotted limits.allocs (naming a h)) (λ (e : Entry). cond (names e.alloc a) (h e) 0) (λ e. named_weight limits.allocs a h e low high) (all_entries logs) ∙ sym (sum_alloc h a (all_entries logs))))

  first_stamps : sum_by (λ (e : Entry). equals 0 e.stamp.0) es ≡ 0
  first_stamps =
      let w : Entry → ℕ = λ e. equals 0 e.stamp.0 in
      entries_exact w ∙ (sum_alloc w a (all_entries logs) ∙ (entries_weigh (λ (e : Entry). cond (names e.alloc a) (w e) 0) (λ (e : Entry). 0) logs (λ l e h g. (ap (λ n. cond (names e.alloc a) n 0) (no_zero e.stamp.0 (above l e h g)) ∙ nothing (names e.alloc a))) ∙ zero_weigh (all_entries logs)))
    where
      no_zero : (n : ℕ) → 0 < n → equals 0 n ≡ 0
      no_zero n lt = elim (equals_cases 0 n) [ inl hit ↦ absurd (let same = hit.0 in omega (arith, same, lt)) | inr miss ↦ miss.1 ]

  pub stamps_above : (x : Entry) → Has es x → 0 < x.stamp.0
  stamps_above x h =
      let few = entry_weighs (λ (e : Entry). equals 0 e.stamp.0) es x h in
      let none = first_stamps in
      elim (equals_cases 0 x.stamp.0) [
        | inl hit ↦ (let one = hit.1 in absurd (omega (arith, few, none, one)))
        | inr miss ↦ positive x.stamp.0 miss.0
      ]
    where
      positive : (n : ℕ) → n ≢ 0 → 0 < n
      positive zero ne = absurd (ne refl)
      positive (suc n) ne = omega arith

-- logs by their numbers --------------------------------------------------------------------

-- the states have the numbers after n, one after another
abbrev pub AreNumbered : ℕ → List Log → Type 0
AreNumbered n [] = Unit {0}
AreNumbered n (s ∷ ss) = (s.number.0 ≡ suc n) × AreNumbered (suc n) ss

pub numbered_from : (n : ℕ) (ss : List Log) → ((k : ℕ) (s : Log) → slice_get ss k ≡ Some s → s.number.0 ≡ suc (n + k)) → AreNumbered n ss
numbered_from n [] all = tt
numbered_from n (s ∷ ss) all =
    ((let a = all 0 s refl in omega (arith, a)), numbered_from (suc n) ss (λ k x is. (let a = all (suc k) x is in omega (arith, a))))

-- a number that no state has
pub no_history : (n a : ℕ) (ss : List Log) → AreNumbered n ss → a ≤ n → history_of (named_in ss) a ≡ []
no_history n a [] all low = refl
no_history n a (s ∷ ss) all low = by_entries s.entries (no_history (suc n) a ss all.1 (omega (arith, low)))
  where
    apart : s.number.0 ≢ a
    apart same = let b = all.0 in omega (arith, b, same, low)

    by_entries : (es : List Entry) → history_of (named_in ss) a ≡ [] → history_of (with_history s.number.0 es (named_in ss)) a ≡ []
    by_entries [] rest = rest
    by_entries (e ∷ es) rest = elim (eqb_tells s.number.0 a) [
      | inl hit ↦ absurd (apart hit.1)
      | inr miss ↦ rw miss.0 rest
    ]

pub history_at : (n k : ℕ) (ss : List Log) (x : Log) → AreNumbered n ss → slice_get ss k ≡ Some x → history_of (named_in ss) (suc (n + k)) ≡ x.entries
history_at n k [] x all is = none_some is
  where
    none_some : {B : Type 0} → None ≡ Some x → B
    none_some is = cc
history_at n zero (s ∷ ss) x all is = by_entries s.entries refl
  where
    same : s ≡ x
    same = some_same is
      where
        some_same : Some s ≡ Some x → s ≡ x
        some_same h = cc

    place : s.number.0 ≡ suc (n + 0)
    place = let a = all.0 in omega (arith, a)

    by_entries : (es : List Entry) → s.entries ≡ es → history_of (with_history s.number.0 es (named_in ss)) (suc (n + 0)) ≡ x.entries
    by_entries [] at = no_history (suc n) (suc (n + 0)) ss all.1 (omega arith) ∙ (sym at ∙ ap (λ (z : Log). z.entries) same)
    by_entries (e ∷ es) at = elim (eqb_tells s.number.0 (suc (n + 0))) [
      | inl hit ↦ rw hit.0 (sym at ∙ ap (λ (z : Log). z.entries) same)
      | inr miss ↦ absurd (miss.1 place)
    ]
history_at n (suc k) (s ∷ ss) x all is = by_entries s.entries (subst (λ m. history_of (named_in ss) m ≡ x.entries) next (history_at (suc n) k ss x all.1 is))
  where
    next : suc (suc n + k) ≡ suc (n + suc k)
    next = omega arith

    apart : s.number.0 ≢ suc (n + suc k)
    apart same = let a = all.0 in omega (arith, a, same)

    by_entries : (es : List Entry) → history_of (named_in ss) (suc (n + suc k)) ≡ x.entries → history_of (with_history s.number.0 es (named_in ss)) (suc (n + suc k)) ≡ x.entries
    by_entries [] rest = rest
    by_entries (e ∷ es) rest = elim (eqb_tells s.number.0 (suc (n + suc k))) [
      | inl hit ↦ absurd (apart hit.1)
      | inr miss ↦ rw miss.0 rest
    ]

allocs_lower : (n k limit : ℕ) (ls : List AllocLog) → n ≤ k → AllocsRiseFrom k limit ls → AllocsRiseFrom n limit ls
allocs_lower n k limit [] le r = tt
allocs_lower n k limit (l ∷ ls) le r = ((let a = r.0 in omega (arith, a, le)), r.1, r.2, r.3)

pub logs_rise : (n limit : ℕ) (ss : List Log) → AreNumbered n ss → n + length ss ≤ limit → AllocsRiseFrom n limit (named_in ss)
logs_rise n limit [] all most = tt
logs_rise n limit (s ∷ ss) all most = by_entries s.entries (logs_rise (suc n) limit ss all.1 (omega (arith, most)))
  where
    some_entry : (e : Entry) (es : List Entry) → e ∷ es ≡ [] → ⊥
    some_entry e es is = cc

    by_entries : (es : List Entry) → AllocsRiseFrom (suc n) limit (named_in ss) → AllocsRiseFrom n limit (with_history s.number.0 es (named_in ss))
    by_entries [] rest = allocs_lower n (suc n) limit (named_in ss) (omega arith) rest
    by_entries (e ∷ es) rest =
        ((let a = all.0 in omega (arith, a)), (let a = all.0 in omega (arith, a, most)), some_entry e es, subst (λ m. AllocsRiseFrom m limit (named_in ss)) (sym all.0) rest)
