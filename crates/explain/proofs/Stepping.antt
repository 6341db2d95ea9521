-- Along the first entries of a log, of which none is a violation.
use Rattle.std.proofs.Common.{◌≡◌, ℕ, zero, suc, ◌+◌, ◌<◌, ◌≤◌, false, Option, Some, None, MatchOption, List, [], ◌∷◌, ◌++◌, length, map, take, All, get_or, length-take, length-take-le, refl, sym, ap, subst, ◌∙◌, arith, inl, inr, ◌⊎◌}
use Rattle.std.specs.Option.{option_and_then}
use Rattle.std.specs.List.Sorted.{IsStrictlyIncreasing}
use Rattle.std.proofs.lemmas.Bool.{cases_lt}
use Rattle.std.proofs.lemmas.List.{get_or-map, get_or-take, length-map}
use Rattle.std.proofs.lemmas.List.Kept.{AllPairs-from_increasing}
use Rattle.bsan_ids.specs.declared.numbers.Tag.{Tag}
use Rattle.history.specs.declared.entry.Entry.{Entry}
use Rattle.history.specs.declared.log.AllocLog.{AllocLog}
use Rattle.history.specs.Histories.{IsHistory, Replies, replay}
use Rattle.history.specs.Merge.{stamp_of}
use Rattle.history.specs.Objects.{Object, Made, answer, unmade}
use Rattle.history.specs.Records.{violates}
use Rattle.alloc_state.specs.Prepared.{AreBelow}
use Rattle.alloc_state.proofs.LongerHistory.{replay-push}
use Rattle.alloc_state.proofs.TagsBelow.{AreBelow-replay}
use Rattle.explain.specs.Explanations.{perm_in}
use Rattle.explain.specs.Replays.{MayAdvance, advanced, grown_in, grown_of, perm_of}
use Rattle.explain.specs.Searches.{IsFound, IsLastChange, perm_at}
use Rattle.explain.proofs.Advancing.{StandsOpen, Steps, steps}

lt_or_eq : (j n : ℕ) → j < n + 1 → (j < n) ⊎ (j ≡ n)
lt_or_eq j n lt = elim (cases_lt j n) [ inl less ↦ inl less | inr more ↦ inr (omega arith) ]

pub take_more : {A : Type 0} (xs : List A) (i : ℕ) (d : A) → i < length xs → take (i + 1) xs ≡ take i xs ++ get_or xs i d ∷ []
take_more [] i d lt = absurd (omega arith)
take_more (x ∷ xs) zero d lt = refl
take_more (x ∷ xs) (suc i) d lt = let more : suc i + 1 ≡ suc (i + 1) = omega arith in rw more (ap (λ ys. x ∷ ys) (take_more xs i d (omega arith)))

-- each reply is the answer after the entries before it
pub reply_at : (o : Object) (es : List Entry) (i : ℕ) (d : Entry) → i < length es → Replies o es → (get_or es i d).reply ≡ (answer (replay o (take i es)) (get_or es i d).request (get_or es i d).stamp).reply
reply_at o [] i d lt h = absurd (omega arith)
reply_at o (e ∷ es) zero d lt h = h.0
reply_at o (e ∷ es) (suc i) d lt h = reply_at (answer o e.request e.stamp).object es i d (omega arith) h.1

-- one further entry
pub replay_more : (o : Object) (es : List Entry) (i : ℕ) (d : Entry) → i < length es → replay o (take (i + 1) es) ≡ (answer (replay o (take i es)) (get_or es i d).request (get_or es i d).stamp).object
replay_more o es i d lt = ap (replay o) (take_more es i d lt) ∙ replay-push o (take i es) (get_or es i d)

-- the stamps before an entry's are lower
pub earlier_stamps : (es : List Entry) → IsStrictlyIncreasing (map stamp_of es) → (i : ℕ) (d : Entry) → i < length es → All (λ e. stamp_of e < stamp_of (get_or es i d)) (take i es)
earlier_stamps es up i d lt k e low =
    let inside : k < i = omega (arith, length-take i es) in
    let long : i < length (map stamp_of es) = omega (arith, length-map es stamp_of) in
    let less : get_or (map stamp_of es) k 0 < get_or (map stamp_of es) i 0 = AllPairs-from_increasing (map stamp_of es) up k i 0 inside long in
    let a : get_or (map stamp_of es) k 0 ≡ stamp_of (get_or es k e) = get_or-map stamp_of es k e 0 (omega arith) in
    let b : get_or (map stamp_of es) i 0 ≡ stamp_of (get_or es i d) = get_or-map stamp_of es i d 0 lt in
    subst (λ (x : Entry). stamp_of x < stamp_of (get_or es i d)) (sym (get_or-take i es k e inside)) (omega (arith, less, a, b))

pub perm_of_grown : (made : Option Made) (x : Tag) (offset : ℕ) → perm_of (grown_in made) x offset ≡ option_and_then (λ (m : Made). perm_in m.tree x offset) made
perm_of_grown None x offset = refl
perm_of_grown (Some m) x offset = refl

newest_in : (made : Option Made) (bound : ℕ) → MatchOption made (Unit {0}) (λ m. All (λ n. n.tag.0 < bound) m.tree.nodes) → MatchOption (grown_in made).tree (Unit {0}) (λ t. All (λ n. n.tag.0 < bound) t.nodes)
newest_in None bound h = h
newest_in (Some m) bound h = h

-- the entries are a log's, and the first of them no violations
pub record IsQuiet (number : ℕ) (es : List Entry) (len : ℕ) : Type 0 where
  pub history : IsHistory number es
  pub inside : len ≤ length es
  pub quiet : All (λ e. violates e ≡ false) (take len es)

-- the allocation after the first i entries
abbrev pub object_at : ℕ → List Entry → ℕ → Object
object_at number es i = replay (unmade number) (take i es)

clean_at : (number : ℕ) (es : List Entry) (len : ℕ) → IsQuiet number es len → (i : ℕ) (d : Entry) → i < len → violates (get_or es i d) ≡ false
clean_at number es len q i d lt =
    subst (λ (x : Entry). violates x ≡ false) (get_or-take len es i d lt) (q.quiet i d (let inside = q.inside in omega (arith, length-take-le len es)))

below_at : (number : ℕ) (es : List Entry) (len : ℕ) → IsQuiet number es len → (i : ℕ) (d : Entry) → i < len → AreBelow (stamp_of (get_or es i d)) (object_at number es i)
below_at number es len q i d lt =
    AreBelow-replay (unmade number) (take i es) (stamp_of (get_or es i d)) (earlier_stamps es q.history.rising i d (omega (arith, q.inside))) tt

step_at : (number : ℕ) (es : List Entry) (len : ℕ) → IsQuiet number es len → (i : ℕ) (d : Entry) → i < len → StandsOpen (object_at number es i).made
    → Steps (grown_of (object_at number es i)) (get_or es i d) (answer (object_at number es i) (get_or es i d).request (get_or es i d).stamp).object
step_at number es len q i d lt opened =
    let inside : i < length es = omega (arith, q.inside) in
    steps (object_at number es i) (get_or es i d) opened (below_at number es len q i d lt) (q.history.fitting i d inside) (reply_at (unmade number) es i d inside q.history.replies) (clean_at number es len q i d lt)

-- what holds at each of them
pub opens_at : (number : ℕ) (es : List Entry) (len : ℕ) → IsQuiet number es len → (d : Entry) (i : ℕ) → i ≤ len → StandsOpen (object_at number es i).made
opens_at number es len q d zero le = tt
opens_at number es len q d (suc i) le =
    let s = step_at number es len q i d (omega arith) (opens_at number es len q d i (omega arith)) in
    let more : object_at number es (i + 1) ≡ (answer (object_at number es i) (get_or es i d).request (get_or es i d).stamp).object = replay_more (unmade number) es i d (omega (arith, q.inside)) in
    let same : i + 1 ≡ suc i = omega arith in
    subst (λ (k : ℕ). StandsOpen (object_at number es k).made) same (subst (λ (o : Object). StandsOpen o.made) (sym more) s.opens)

pub may_at : (number : ℕ) (es : List Entry) (len : ℕ) → IsQuiet number es len → (i : ℕ) (d : Entry) → i < len → MayAdvance (grown_of (object_at number es i)) (get_or es i d)
may_at number es len q i d lt = record {
  asks = (step_at number es len q i d lt (opens_at number es len q d i (omega arith))).asks;
  newest = newest_in (object_at number es i).made (stamp_of (get_or es i d)) (below_at number es len q i d lt);
}

pub grown_more : (number : ℕ) (es : List Entry) (len : ℕ) → IsQuiet number es len → (i : ℕ) (d : Entry) → i < len → advanced (grown_of (object_at number es i)) (get_or es i d) ≡ grown_of (object_at number es (i + 1))
grown_more number es len q i d lt =
    sym (step_at number es len q i d lt (opens_at number es len q d i (omega arith))).grown
    ∙ ap grown_of (sym (replay_more (unmade number) es i d (omega (arith, q.inside))))

-- the search
pub found_changed : (log : AllocLog) (x : Tag) (offset i : ℕ) → (perm_at log x offset (i + 1) ≡ perm_at log x offset i → ⊥) → IsLastChange log x offset (i + 1) i
found_changed log x offset i ne = record {
  inside = omega arith;
  changed = ne;
  last = λ j lt le. ap (perm_at log x offset) (let same : j ≡ i + 1 = omega arith in same);
}

pub found_same : (log : AllocLog) (x : Tag) (offset i : ℕ) (found : Option ℕ) → perm_at log x offset (i + 1) ≡ perm_at log x offset i → IsFound log x offset i found → IsFound log x offset (i + 1) found
found_same log x offset i None same h = same ∙ h
found_same log x offset i (Some k) same h = record {
  inside = omega (arith, h.inside);
  changed = h.changed;
  last = λ j lt le. by_case j lt (lt_or_eq j (i + 1) le);
}
  where
    by_case : (j : ℕ) → k < j → (j < i + 1) ⊎ (j ≡ i + 1) → perm_at log x offset j ≡ perm_at log x offset (k + 1)
    by_case j lt (inl low) = h.last j lt low
    by_case j lt (inr top) = ap (perm_at log x offset) top ∙ same ∙ h.last i h.inside (omega arith)
