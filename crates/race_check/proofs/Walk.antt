-- One step of the walk: the clock of the next entry, and the marks after it.
use Rattle.std.proofs.Common.{◌≡◌, ℕ, suc, ◌+◌, ◌<◌, Bool, true, false, List, length, get_or, map, refl, sym, ap, subst, ◌∙◌, arith, inl, inr}
use Rattle.std.specs.Prelude.{◌⊎◌, ◌≢◌, max, Option, Some, None, if◌then◌else◌}
use Rattle.std.specs.List.Sorted.{IsStrictlyIncreasing}
use Rattle.bsan_ids.specs.declared.numbers.ThreadNo.{ThreadNo}
use Rattle.bsan_ids.specs.declared.numbers.AllocNo.{AllocNo}
use Rattle.history.specs.declared.entry.Entry.{Entry}
use Rattle.history.specs.declared.entry.Request.{Request}
use Rattle.history.specs.declared.entry.Request.TheVariants.{Spawn, Join}
use Rattle.history.specs.declared.entry.Plain.{Plain}
use Rattle.history.specs.declared.entry.Plain.TheVariants.{Spawned}
use Rattle.history.specs.Merge.{stamp_of}
use Rattle.race_check.specs.declared.key.Key.{Key}
use Rattle.race_check.specs.declared.key.Key.TheVariants.{Thread, Start, Place}
use Rattle.race_check.specs.declared.clocks.Clocks.{Clocks}
use Rattle.race_check.specs.Accesses.{is_atomic, has_trapped, start_of}
use Rattle.race_check.specs.Races.{IsStartOf, IsAtomicAt}
use Rattle.race_check.specs.Keys.{Gives, Takes}
use Rattle.race_check.specs.Clocks.{mark_at, mark_if, clock_mark, start_key, started_by, started_in, join_key, joined_by, place_key, place_in}
use Rattle.race_check.specs.Vectors.{IsSeen, IsKnown, IsBefore, IsMark, AreClocks, IsClock}
use Rattle.race_check.proofs.Vectors.{IsNext, With, IsAdded, before_of_known, known_of_before, known_then, known_grows, known_of_added, mark_none, mark_same, mark_either}
use Rattle.race_check.proofs.Exact.{key_or, option_key_or}
use Rattle.std.proofs.lemmas.List.{get_or_default}
use Rattle.race_check.proofs.Places.{next_at, seen_more, seen_last}

-- an entry of the set of an optional key
pub record IsKnownIf (es : List Entry) (Seen : Entry → Type 0) (o : Option Key) (t : ThreadNo) (e : Entry) : Type 0 where
  pub key : Key
  pub is : o ≡ Some key
  pub known : IsKnown es Seen key t e

mark_known_if : (es : List Entry) (Seen : Entry → Type 0) (clocks : Clocks) (s : ℕ) (t : ThreadNo) → ((k : Key) → IsMark (IsKnown es Seen k t) (mark_at clocks k s))
    → (o : Option Key) → IsMark (IsKnownIf es Seen o t) (mark_if clocks o s)
mark_known_if es Seen clocks s t marks None = mark_none (IsKnownIf es Seen None t) (λ e h. absurd (none_some h.is))
  where
    none_some : {k : Key} → None ≡ Some k → ⊥
    none_some h = absurd cc
mark_known_if es Seen clocks s t marks (Some k) =
    mark_same (IsKnown es Seen k t) (IsKnownIf es Seen (Some k) t) (mark_at clocks k s)
    (λ e h. record { key = k; is = refl; known = h })
    (λ e h. subst (λ (j : Key). IsKnown es Seen j t e) (some_same (sym h.is)) h.known)
    (marks k)
  where
    some_same : {j : Key} → Some j ≡ Some k → j ≡ k
    some_same h = cc

join_of_key : (f : Entry) (k : Key) → join_key f ≡ Some k → Takes k f
join_of_key f k h = by_request f.request refl h
  where
    by_request : (r : Request) → f.request ≡ r → joined_by r ≡ Some k → Takes k f
    by_request (Join child) is at = subst (λ (j : Key). Takes j f) (some_same at) (inr is)
      where
        some_same : {j : Key} → Some j ≡ Some k → j ≡ k
        some_same e = cc
    by_request _ is at = absurd cc

place_of_key : (f : Entry) (k : Key) → place_key f ≡ Some k → Takes k f
place_of_key f k h = go (is_atomic f.request) refl (has_trapped f) refl f.alloc refl h
  where
    go : (a : Bool) → is_atomic f.request ≡ a → (t : Bool) → has_trapped f ≡ t → (o : Option AllocNo) → f.alloc ≡ o
        → (if a then (if t then None else place_in (start_of f.request) o) else None) ≡ Some k → Takes k f
    go true ea false et (Some n) eo at = subst (λ (j : Key). Takes j f) (some_same at) (record { atomic = ea; done = et; alloc = eo; start = refl })
      where
        some_same : {j : Key} → Some j ≡ Some k → j ≡ k
        some_same e = cc
    go true ea false et None eo at = absurd cc
    go true ea true et o eo at = absurd cc
    go false ea t et o eo at = absurd cc

pub key_of_place : (f : Entry) (n : AllocNo) (at : ℕ) → IsAtomicAt n at f → place_key f ≡ Some (Place n at)
key_of_place f n at h = simp (h.atomic, h.done, h.alloc, h.start)

-- what the four marks of a clock stand for
abbrev Taken : List Entry → (Entry → Type 0) → Entry → ThreadNo → Entry → Type 0
Taken es Seen f t e =
    ((IsKnown es Seen (Thread f.thread) t e ⊎ IsKnown es Seen (Start f.thread) t e) ⊎ IsKnownIf es Seen (join_key f) t e) ⊎ IsKnownIf es Seen (place_key f) t e

before_of_taken : (es : List Entry) (Seen : Entry → Type 0) (f : Entry) → IsNext es Seen f → (t : ThreadNo) (e : Entry) → Taken es Seen f t e → IsBefore es Seen f t e
before_of_taken es Seen f next t e (inl (inl (inl h))) = before_of_known es Seen f next (Thread f.thread) t e (inl refl) h
before_of_taken es Seen f next t e (inl (inl (inr h))) = before_of_known es Seen f next (Start f.thread) t e refl h
before_of_taken es Seen f next t e (inl (inr h)) = before_of_known es Seen f next h.key t e (join_of_key f h.key h.is) h.known
before_of_taken es Seen f next t e (inr h) = before_of_known es Seen f next h.key t e (place_of_key f h.key h.is) h.known

taken_of_known : (es : List Entry) (Seen : Entry → Type 0) (f : Entry) (t : ThreadNo) (e : Entry) (k : Key) → Takes k f → IsKnown es Seen k t e → Taken es Seen f t e
taken_of_known es Seen f t e (Thread u) (inl same) h = inl (inl (inl (subst (λ (v : ThreadNo). IsKnown es Seen (Thread v) t e) (sym same) h)))
taken_of_known es Seen f t e (Thread u) (inr joins) h = inl (inr (record { key = Thread u; is = ap joined_by joins; known = h }))
taken_of_known es Seen f t e (Start u) same h = inl (inl (inr (subst (λ (v : ThreadNo). IsKnown es Seen (Start v) t e) (sym same) h)))
taken_of_known es Seen f t e (Place n at) atomic h = inr (record { key = Place n at; is = key_of_place f n at atomic; known = h })

pub clock_mark_is : (es : List Entry) (Seen : Entry → Type 0) (f : Entry) → IsNext es Seen f → (clocks : Clocks) (s : ℕ) (t : ThreadNo)
    → ((k : Key) → IsMark (IsKnown es Seen k t) (mark_at clocks k s)) → IsMark (IsBefore es Seen f t) (clock_mark clocks f s)
clock_mark_is es Seen f next clocks s t marks =
    mark_same (Taken es Seen f t) (IsBefore es Seen f t) (clock_mark clocks f s)
    (before_of_taken es Seen f next t)
    (λ e h. let by = known_of_before es Seen f next t e h in taken_of_known es Seen f t e by.key by.takes by.known)
    (mark_either (λ e. (IsKnown es Seen (Thread f.thread) t e ⊎ IsKnown es Seen (Start f.thread) t e) ⊎ IsKnownIf es Seen (join_key f) t e) (IsKnownIf es Seen (place_key f) t) _ _
    (mark_either (λ e. IsKnown es Seen (Thread f.thread) t e ⊎ IsKnown es Seen (Start f.thread) t e) (IsKnownIf es Seen (join_key f) t) _ _
    (mark_either (IsKnown es Seen (Thread f.thread) t) (IsKnown es Seen (Start f.thread) t) _ _ (marks (Thread f.thread)) (marks (Start f.thread)))
    (mark_known_if es Seen clocks s t marks (join_key f)))
    (mark_known_if es Seen clocks s t marks (place_key f)))

start_of_key : (e : Entry) (t : ThreadNo) → start_key e ≡ Some (Start t) → IsStartOf t e
start_of_key e t h = by_request e.request refl h
  where
    by_request : (r : Request) → e.request ≡ r → started_by r e.reply.plain ≡ Some (Start t) → IsStartOf t e
    by_request (Spawn function) asked at = by_plain e.reply.plain refl at
      where
        by_plain : (p : Plain) → e.reply.plain ≡ p → started_in p ≡ Some (Start t) → IsStartOf t e
        by_plain (Spawned u) is at' = record { function = function; asked = asked; answered = is ∙ ap (λ (v : ThreadNo). Spawned v) (same_start at') }
          where
            same_start : Some (Start u) ≡ Some (Start t) → u ≡ t
            same_start eq = cc
        by_plain _ is at' = absurd cc
    by_request _ asked at = absurd cc

pub key_of_start : (e : Entry) (t : ThreadNo) → IsStartOf t e → start_key e ≡ Some (Start t)
key_of_start e t h = simp (h.asked, h.answered)

place_is : (e : Entry) (n : AllocNo) (at : ℕ) → place_key e ≡ Some (Place n at) → IsAtomicAt n at e
place_is e n at h = place_of_key e (Place n at) h

-- whether an entry belongs to a set can be told
pub gives_or : (k : Key) (e : Entry) → Gives k e ⊎ (Gives k e → ⊥)
gives_or (Thread t) e = by_case (key_or (Thread e.thread) (Thread t))
  where
    by_case : (Thread e.thread ≡ Thread t) ⊎ (Thread e.thread ≡ Thread t → ⊥) → (e.thread ≡ t) ⊎ (e.thread ≡ t → ⊥)
    by_case (inl h) = inl (cc)
    by_case (inr h) = inr (λ same. h (ap (λ (u : ThreadNo). Thread u) same))
gives_or (Start t) e = by_case (option_key_or (start_key e) (Start t))
  where
    by_case : (start_key e ≡ Some (Start t)) ⊎ (start_key e ≡ Some (Start t) → ⊥) → IsStartOf t e ⊎ (IsStartOf t e → ⊥)
    by_case (inl h) = inl (start_of_key e t h)
    by_case (inr h) = inr (λ g. h (key_of_start e t g))
gives_or (Place n at) e = by_case (option_key_or (place_key e) (Place n at))
  where
    by_case : (place_key e ≡ Some (Place n at)) ⊎ (place_key e ≡ Some (Place n at) → ⊥) → IsAtomicAt n at e ⊎ (IsAtomicAt n at e → ⊥)
    by_case (inl h) = inl (place_is e n at h)
    by_case (inr h) = inr (λ g. h (key_of_place e n at g))

-- f and what goes before it, of one thread
abbrev pub IsOwn : List Entry → (Entry → Type 0) → Entry → ThreadNo → Entry → Type 0
IsOwn es Seen f t e = ((e ≡ f) × (f.thread ≡ t)) ⊎ IsBefore es Seen f t e

pub own_mark : (es : List Entry) (Seen : Entry → Type 0) (f : Entry) → IsNext es Seen f → (t : ThreadNo) → f.thread ≡ t → IsMark (IsOwn es Seen f t) (suc (stamp_of f))
own_mark es Seen f next t same = record { bound = bound; reached = inr (f, inl (refl, same), refl) }
  where
    bound : (e : Entry) → IsOwn es Seen f t e → stamp_of e < suc (stamp_of f)
    bound e (inl h) = let at : stamp_of e ≡ stamp_of f = ap stamp_of h.0 in omega arith
    bound e (inr h) = let lt : stamp_of e < stamp_of f = next.below e h.seen in omega arith

pub others_mark : (es : List Entry) (Seen : Entry → Type 0) (f : Entry) (t : ThreadNo) (n : ℕ) → (f.thread ≡ t → ⊥) → IsMark (IsBefore es Seen f t) n → IsMark (IsOwn es Seen f t) n
others_mark es Seen f t n other mark = mark_same (IsBefore es Seen f t) (IsOwn es Seen f t) n (λ e h. inr h) from mark
  where
    from : (e : Entry) → IsOwn es Seen f t e → IsBefore es Seen f t e
    from e (inl h) = absurd (other h.1)
    from e (inr h) = h

pub given_mark : (es : List Entry) (Seen : Entry → Type 0) (f : Entry) → IsNext es Seen f → (k : Key) (t : ThreadNo) (c m : ℕ) → Gives k f
    → IsMark (IsOwn es Seen f t) c → IsMark (IsKnown es Seen k t) m → IsMark (IsKnown es (With Seen f) k t) (max c m)
given_mark es Seen f next k t c m gives own mark =
    mark_same (λ e. IsOwn es Seen f t e ⊎ IsKnown es Seen k t e) (IsKnown es (With Seen f) k t) (max c m) to from
    (mark_either (IsOwn es Seen f t) (IsKnown es Seen k t) c m own mark)
  where
    to : (e : Entry) → IsOwn es Seen f t e ⊎ IsKnown es Seen k t e → IsKnown es (With Seen f) k t e
    to e (inl h) = known_of_added es Seen f k t e (record { gives = gives; is = h })
    to e (inr h) = known_grows es Seen f k t e h

    from : (e : Entry) → IsKnown es (With Seen f) k t e → IsOwn es Seen f t e ⊎ IsKnown es Seen k t e
    from e h = by_case (known_then es Seen f next k t e h)
      where
        by_case : IsKnown es Seen k t e ⊎ IsAdded es Seen f k t e → IsOwn es Seen f t e ⊎ IsKnown es Seen k t e
        by_case (inl known) = inr known
        by_case (inr added) = inl added.is

pub kept_mark : (es : List Entry) (Seen : Entry → Type 0) (f : Entry) → IsNext es Seen f → (k : Key) (t : ThreadNo) (m : ℕ) → (Gives k f → ⊥)
    → IsMark (IsKnown es Seen k t) m → IsMark (IsKnown es (With Seen f) k t) m
kept_mark es Seen f next k t m other mark = mark_same (IsKnown es Seen k t) (IsKnown es (With Seen f) k t) m (known_grows es Seen f k t) from mark
  where
    from : (e : Entry) → IsKnown es (With Seen f) k t e → IsKnown es Seen k t e
    from e h = by_case (known_then es Seen f next k t e h)
      where
        by_case : IsKnown es Seen k t e ⊎ IsAdded es Seen f k t e → IsKnown es Seen k t e
        by_case (inl known) = known
        by_case (inr added) = absurd (other added.gives)

known_seen : (es : List Entry) (S T : Entry → Type 0) → ((e : Entry) → S e → T e) → (k : Key) (t : ThreadNo) (e : Entry) → IsKnown es S k t e → IsKnown es T k t e
known_seen es S T to k t e h =
    record { seen = to e h.seen; thread = h.thread; by = h.by; by_seen = to h.by h.by_seen; gives = h.gives; reaches = h.reaches }

-- the same after one more place
mark_after : (es : List Entry) (i : ℕ) (f : Entry) → i < length es → get_or es i f ≡ f → (k : Key) (t : ThreadNo) (n : ℕ)
    → IsMark (IsKnown es (With (IsSeen es i) f) k t) n → IsMark (IsKnown es (IsSeen es (i + 1)) k t) n
mark_after es i f inside at k t n mark =
    mark_same (IsKnown es (With (IsSeen es i) f) k t) (IsKnown es (IsSeen es (i + 1)) k t) n
    (known_seen es (With (IsSeen es i) f) (IsSeen es (i + 1)) (λ e. seen_more es i f e inside at) k t)
    (known_seen es (IsSeen es (i + 1)) (With (IsSeen es i) f) (λ e. seen_last es i f e inside at) k t)
    mark

pub clock_is : (es : List Entry) → IsStrictlyIncreasing (map stamp_of es) → (threads : List ThreadNo) (i : ℕ) (f : Entry) → i < length es → get_or es i f ≡ f
    → (clocks : Clocks) → AreClocks es threads i clocks
    → (clock : List ℕ) → ((s : ℕ) → s < length threads → get_or clock s 0 ≡ clock_mark clocks f s) → IsClock es threads i f clock
clock_is es up threads i f inside at clocks are clock marks s t lt =
    subst (λ (n : ℕ). IsMark (IsBefore es (IsSeen es i) f (get_or threads s t)) n) (sym (marks s lt))
    (clock_mark_is es (IsSeen es i) f (next_at es up i f inside at) clocks s (get_or threads s t) (λ k. are k s t lt))

-- the clocks after an entry is noted, with its clock and its own stamp in it
pub clocks_after : (es : List Entry) → IsStrictlyIncreasing (map stamp_of es) → (threads : List ThreadNo) (i : ℕ) (f : Entry) → i < length es → get_or es i f ≡ f
    → (clocks noted : Clocks) → AreClocks es threads i clocks
    → (clock own : List ℕ) → IsClock es threads i f clock → length own ≡ length threads
    → ((s : ℕ) → s < length threads → get_or threads s f.thread ≡ f.thread → get_or own s 0 ≡ stamp_of f + 1)
    → ((s : ℕ) → s < length threads → get_or threads s f.thread ≢ f.thread → get_or own s 0 ≡ get_or clock s 0)
    → ((k : Key) → Gives k f → (s : ℕ) → s < length own → mark_at noted k s ≡ max (get_or own s 0) (mark_at clocks k s))
    → ((k : Key) → (Gives k f → ⊥) → (s : ℕ) → mark_at noted k s ≡ mark_at clocks k s)
    → AreClocks es threads (i + 1) noted
clocks_after es up threads i f inside at clocks noted are clock own is len its others given kept k s t lt =
    mark_after es i f inside at k u (mark_at noted k s) (by_gives (gives_or k f))
  where
    Seen : Entry → Type 0
    Seen = IsSeen es i

    u : ThreadNo
    u = get_or threads s t

    next : IsNext es (IsSeen es i) f
    next = next_at es up i f inside at

    same_thread : get_or threads s f.thread ≡ get_or threads s t
    same_thread = get_or_default threads s f.thread t lt

    by_thread : (f.thread ≡ get_or threads s t) ⊎ (f.thread ≡ get_or threads s t → ⊥) → IsMark (IsOwn es (IsSeen es i) f (get_or threads s t)) (get_or own s 0)
    by_thread (inl same) =
        subst (λ (n : ℕ). IsMark (IsOwn es (IsSeen es i) f (get_or threads s t)) n) (sym (its s lt (same_thread ∙ sym same) ∙ plus_one (stamp_of f)))
        (own_mark es (IsSeen es i) f next (get_or threads s t) same)
      where
        plus_one : (n : ℕ) → n + 1 ≡ suc n
        plus_one n = omega arith
    by_thread (inr other) =
        subst (λ (n : ℕ). IsMark (IsOwn es (IsSeen es i) f (get_or threads s t)) n) (sym (others s lt (λ h. other (sym h ∙ same_thread))))
        (others_mark es (IsSeen es i) f (get_or threads s t) (get_or clock s 0) other (is s t lt))

    by_gives : Gives k f ⊎ (Gives k f → ⊥) → IsMark (IsKnown es (With (IsSeen es i) f) k (get_or threads s t)) (mark_at noted k s)
    by_gives (inl gives) =
        subst (λ (n : ℕ). IsMark (IsKnown es (With (IsSeen es i) f) k (get_or threads s t)) n) (sym (given k gives s (omega arith)))
        (given_mark es (IsSeen es i) f next k (get_or threads s t) (get_or own s 0) (mark_at clocks k s) gives (by_thread (gives_or (Thread (get_or threads s t)) f)) (are k s t lt))
    by_gives (inr other) =
        subst (λ (n : ℕ). IsMark (IsKnown es (With (IsSeen es i) f) k (get_or threads s t)) n) (sym (kept k other s))
        (kept_mark es (IsSeen es i) f next k (get_or threads s t) (mark_at clocks k s) other (are k s t lt))

pub clocks_first : (es : List Entry) (threads : List ThreadNo) (clocks : Clocks) → ((k : Key) (s : ℕ) → mark_at clocks k s ≡ 0) → AreClocks es threads 0 clocks
clocks_first es threads clocks none k s t lt =
    subst (λ (n : ℕ). IsMark (IsKnown es (IsSeen es 0) k (get_or threads s t)) n) (sym (none k s))
    (mark_none (IsKnown es (IsSeen es 0) k (get_or threads s t)) (λ e h. let lt' : h.seen.0 < 0 = h.seen.1 in omega arith))
