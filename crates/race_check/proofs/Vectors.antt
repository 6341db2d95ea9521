-- What a vector stands for: the greatest stamp of an entry of each thread that is known.
use Rattle.std.proofs.Common.{◌≡◌, ℕ, suc, ◌<◌, ◌≤◌, List, refl, sym, ap, subst, ◌∙◌, arith, inl, inr}
use Rattle.std.specs.Prelude.{◌⊎◌, Contains, max}
use Rattle.bsan_ids.specs.declared.numbers.ThreadNo.{ThreadNo}
use Rattle.history.specs.declared.entry.Entry.{Entry}
use Rattle.history.specs.declared.entry.Request.TheVariants.{Join}
use Rattle.history.specs.Merge.{stamp_of}
use Rattle.race_check.specs.declared.key.Key.{Key}
use Rattle.race_check.specs.declared.key.Key.TheVariants.{Thread, Start, Place}
use Rattle.race_check.specs.Races.{IsStartOf, IsLinked, GoesBefore, Ordered}
use Rattle.race_check.specs.Races.IsLinked.{one_thread, start, join, one_place}
use Rattle.race_check.specs.Races.Ordered.{directly, through}
use Rattle.race_check.specs.Keys.{Gives, Takes}
use Rattle.race_check.specs.Vectors.{IsKnown, IsBefore, IsMark}

-- an ordered entry is later
pub ordered_later : (es : List Entry) (e f : Entry) → Ordered es e f → stamp_of e < stamp_of f
ordered_later es e _ (directly f g) = g.later
ordered_later es e _ (through m f among o g) = let h : stamp_of e < stamp_of m = ordered_later es e m o in omega (arith, g.later)

-- a chain may begin one entry earlier
pub ordered_behind : (es : List Entry) (a e f : Entry) → Contains es e → GoesBefore a e → Ordered es e f → Ordered es a f
ordered_behind es a e _ among first (directly f g) = through e f among (directly e first) g
ordered_behind es a e _ among first (through m f amid o g) = through m f amid (ordered_behind es a e m among first o) g

pub link_of_key : (k : Key) (e f : Entry) → Gives k e → Takes k f → IsLinked e f
link_of_key (Thread t) e f g (inl same) = one_thread (g ∙ sym same)
link_of_key (Thread t) e f g (inr joins) = join (joins ∙ ap (λ (u : ThreadNo). Join u) (sym g))
link_of_key (Start t) e f g same = start (subst (λ (u : ThreadNo). IsStartOf u e) (sym same) g)
link_of_key (Place n at) e f g h = one_place n at g h

pub record Shares (e f : Entry) : Type 0 where
  pub key : Key
  pub gives : Gives key e
  pub takes : Takes key f

pub key_of_link : (e f : Entry) → IsLinked e f → Shares e f
key_of_link e f (one_thread same) = record { key = Thread f.thread; gives = same; takes = inl refl }
key_of_link e f (start g) = record { key = Start f.thread; gives = g; takes = refl }
key_of_link e f (join joins) = record { key = Thread e.thread; gives = refl; takes = inr joins }
key_of_link e f (one_place n at g h) = record { key = Place n at; gives = g; takes = h }

-- the entries that were seen before f are those with a lower stamp
pub record IsNext (es : List Entry) (Seen : Entry → Type 0) (f : Entry) : Type 0 where
  pub among : (e : Entry) → Seen e → Contains es e
  pub below : (e : Entry) → Seen e → stamp_of e < stamp_of f
  pub each : (e : Entry) → Contains es e → stamp_of e < stamp_of f → Seen e

pub before_of_known : (es : List Entry) (Seen : Entry → Type 0) (f : Entry) → IsNext es Seen f
    → (k : Key) (t : ThreadNo) (e : Entry) → Takes k f → IsKnown es Seen k t e → IsBefore es Seen f t e
before_of_known es Seen f next k t e takes known =
    record { seen = known.seen; thread = known.thread; ordered = by_case known.reaches }
  where
    goes : GoesBefore known.by f
    goes = record { later = next.below known.by known.by_seen; link = link_of_key k known.by f known.gives takes }

    by_case : (e ≡ known.by) ⊎ Ordered es e known.by → Ordered es e f
    by_case (inl same) = directly f (subst (λ (x : Entry). GoesBefore x f) (sym same) goes)
    by_case (inr o) = through known.by f (next.among known.by known.by_seen) o goes

pub record KnownBy (es : List Entry) (Seen : Entry → Type 0) (f : Entry) (t : ThreadNo) (e : Entry) : Type 0 where
  pub key : Key
  pub takes : Takes key f
  pub known : IsKnown es Seen key t e

known_by : (es : List Entry) (Seen : Entry → Type 0) (f m : Entry) (t : ThreadNo) (e : Entry) → Seen e → e.thread ≡ t
    → Seen m → (e ≡ m) ⊎ Ordered es e m → Shares m f → KnownBy es Seen f t e
known_by es Seen f m t e seen thread m_seen reaches shares =
    record {
      key = shares.key;
      takes = shares.takes;
      known = record { seen = seen; thread = thread; by = m; by_seen = m_seen; gives = shares.gives; reaches = reaches };
    }

known_of_ordered : (es : List Entry) (Seen : Entry → Type 0) (f : Entry) → IsNext es Seen f
    → (t : ThreadNo) (e : Entry) → Seen e → e.thread ≡ t → Ordered es e f → KnownBy es Seen f t e
known_of_ordered es Seen _ next t e seen thread (directly f g) =
    known_by es Seen f e t e seen thread seen (inl refl) (key_of_link e f g.link)
known_of_ordered es Seen _ next t e seen thread (through m f among o g) =
    known_by es Seen f m t e seen thread (next.each m among g.later) (inr o) (key_of_link m f g.link)

pub known_of_before : (es : List Entry) (Seen : Entry → Type 0) (f : Entry) → IsNext es Seen f
    → (t : ThreadNo) (e : Entry) → IsBefore es Seen f t e → KnownBy es Seen f t e
known_of_before es Seen f next t e before = known_of_ordered es Seen f next t e before.seen before.thread before.ordered

-- what f adds to a set that it belongs to: itself, and all that goes before it
pub record IsAdded (es : List Entry) (Seen : Entry → Type 0) (f : Entry) (k : Key) (t : ThreadNo) (e : Entry) : Type 0 where
  pub gives : Gives k f
  pub is : ((e ≡ f) × (f.thread ≡ t)) ⊎ IsBefore es Seen f t e

-- the entries seen after f
abbrev pub With : (Entry → Type 0) → Entry → Entry → Type 0
With Seen f e = Seen e ⊎ (e ≡ f)

pub known_then : (es : List Entry) (Seen : Entry → Type 0) (f : Entry) → IsNext es Seen f
    → (k : Key) (t : ThreadNo) (e : Entry) → IsKnown es (With Seen f) k t e → IsKnown es Seen k t e ⊎ IsAdded es Seen f k t e
known_then es Seen f next k t e known = by_case known.seen known.by_seen known.reaches
  where
    itself : e ≡ f → known.by ≡ f → IsAdded es Seen f k t e
    itself same by = record { gives = subst (λ (x : Entry). Gives k x) by known.gives; is = inl (same, subst (λ (x : Entry). x.thread ≡ t) same known.thread) }

    not_before : e ≡ f → Seen known.by → Ordered es e known.by → ⊥
    not_before same by o =
        let up : stamp_of e < stamp_of known.by = ordered_later es e known.by o in
        let down : stamp_of known.by < stamp_of f = next.below known.by by in
        let at : stamp_of e ≡ stamp_of f = ap stamp_of same in
        omega arith

    by_case : With Seen f e → With Seen f known.by → (e ≡ known.by) ⊎ Ordered es e known.by → IsKnown es Seen k t e ⊎ IsAdded es Seen f k t e
    by_case (inl seen) (inl by) reaches = inl (record { seen = seen; thread = known.thread; by = known.by; by_seen = by; gives = known.gives; reaches = reaches })
    by_case (inl seen) (inr by) (inl same) = inr (itself (same ∙ by) by)
    by_case (inl seen) (inr by) (inr o) =
        inr (record {
          gives = subst (λ (x : Entry). Gives k x) by known.gives;
          is = inr (record { seen = seen; thread = known.thread; ordered = subst (λ (x : Entry). Ordered es e x) by o });
        })
    by_case (inr is) (inl by) (inl same) =
        inl (record { seen = subst (λ (x : Entry). Seen x) (sym same) by; thread = known.thread; by = known.by; by_seen = by; gives = known.gives; reaches = inl same })
    by_case (inr is) (inl by) (inr o) = absurd (not_before is by o)
    by_case (inr is) (inr by) reaches = inr (itself is by)

pub known_grows : (es : List Entry) (Seen : Entry → Type 0) (f : Entry) (k : Key) (t : ThreadNo) (e : Entry)
    → IsKnown es Seen k t e → IsKnown es (With Seen f) k t e
known_grows es Seen f k t e known =
    record { seen = inl known.seen; thread = known.thread; by = known.by; by_seen = inl known.by_seen; gives = known.gives; reaches = known.reaches }

pub known_of_added : (es : List Entry) (Seen : Entry → Type 0) (f : Entry) (k : Key) (t : ThreadNo) (e : Entry)
    → IsAdded es Seen f k t e → IsKnown es (With Seen f) k t e
known_of_added es Seen f k t e added = by_case added.is
  where
    by_case : ((e ≡ f) × (f.thread ≡ t)) ⊎ IsBefore es Seen f t e → IsKnown es (With Seen f) k t e
    by_case (inl h) = record { seen = inr h.0; thread = ap (λ (x : Entry). x.thread) h.0 ∙ h.1; by = f; by_seen = inr refl; gives = added.gives; reaches = inl h.0 }
    by_case (inr before) = record { seen = inl before.seen; thread = before.thread; by = f; by_seen = inr refl; gives = added.gives; reaches = inr before.ordered }

pub mark_none : (P : Entry → Type 0) → ((e : Entry) → P e → ⊥) → IsMark P 0
mark_none P none = record { bound = λ e h. absurd (none e h); reached = inl refl }

pub mark_one : (P : Entry → Type 0) (f : Entry) → P f → ((e : Entry) → P e → e ≡ f) → IsMark P (suc (stamp_of f))
mark_one P f h only =
    record { bound = λ e p. let at : stamp_of e ≡ stamp_of f = ap stamp_of (only e p) in omega arith; reached = inr (f, h, refl) }

pub mark_same : (P Q : Entry → Type 0) (n : ℕ) → ((e : Entry) → P e → Q e) → ((e : Entry) → Q e → P e) → IsMark P n → IsMark Q n
mark_same P Q n to from mark = record { bound = λ e q. mark.bound e (from e q); reached = by_case mark.reached }
  where
    by_case : (n ≡ 0) ⊎ ((e : Entry) × P e × (n ≡ suc (stamp_of e))) → (n ≡ 0) ⊎ ((e : Entry) × Q e × (n ≡ suc (stamp_of e)))
    by_case (inl none) = inl none
    by_case (inr h) = inr (h.0, to h.0 h.1, h.2)

pub mark_either : (P Q : Entry → Type 0) (m n : ℕ) → IsMark P m → IsMark Q n → IsMark (λ e. P e ⊎ Q e) (max m n)
mark_either P Q m n p q = record { bound = bound; reached = by_order (max_is m n) p.reached q.reached }
  where
    bound : (e : Entry) → P e ⊎ Q e → stamp_of e < max m n
    bound e (inl h) = let l : stamp_of e < m = p.bound e h in omega arith
    bound e (inr h) = let l : stamp_of e < n = q.bound e h in omega arith

    max_is : (m n : ℕ) → (max m n ≡ m) ⊎ (max m n ≡ n)
    max_is m n = grind arith

    by_order : (max m n ≡ m) ⊎ (max m n ≡ n) → (m ≡ 0) ⊎ ((e : Entry) × P e × (m ≡ suc (stamp_of e))) → (n ≡ 0) ⊎ ((e : Entry) × Q e × (n ≡ suc (stamp_of e)))
        → (max m n ≡ 0) ⊎ ((e : Entry) × (P e ⊎ Q e) × (max m n ≡ suc (stamp_of e)))
    by_order (inl at) (inl none) q' = inl (at ∙ none)
    by_order (inl at) (inr h) q' = inr (h.0, inl h.1, at ∙ h.2)
    by_order (inr at) p' (inl none) = inl (at ∙ none)
    by_order (inr at) p' (inr h) = inr (h.0, inr h.1, at ∙ h.2)

-- no two entries have one stamp
abbrev pub ByStamp : List Entry → Type 0
ByStamp es = (a b : Entry) → Contains es a → Contains es b → stamp_of a ≡ stamp_of b → a ≡ b

-- an entry that was seen goes before f exactly where its stamp is below the mark of its thread
pub before_of_mark : (es : List Entry) (Seen : Entry → Type 0) (f : Entry) → ByStamp es → IsNext es Seen f
    → (e : Entry) (n : ℕ) → Seen e → IsMark (IsBefore es Seen f e.thread) n → stamp_of e < n → Ordered es e f
before_of_mark es Seen f unique next e n seen mark low = by_case mark.reached
  where
    by_entry : (g : Entry) → IsBefore es Seen f e.thread g → stamp_of e ≤ stamp_of g → (stamp_of e < stamp_of g) ⊎ (stamp_of e ≡ stamp_of g) → Ordered es e f
    by_entry g before le (inl lt) =
        ordered_behind es e g f (next.among g before.seen) (record { later = lt; link = one_thread (sym before.thread) }) before.ordered
    by_entry g before le (inr at) =
        subst (λ (x : Entry). Ordered es x f) (sym (unique e g (next.among e seen) (next.among g before.seen) at)) before.ordered

    lt_or_eq : (a b : ℕ) → a ≤ b → (a < b) ⊎ (a ≡ b)
    lt_or_eq a b le = grind arith

    by_case : (n ≡ 0) ⊎ ((g : Entry) × IsBefore es Seen f e.thread g × (n ≡ suc (stamp_of g))) → Ordered es e f
    by_case (inl none) = absurd (omega arith)
    by_case (inr h) =
        let at : n ≡ suc (stamp_of h.0) = h.2 in
        let le : stamp_of e ≤ stamp_of h.0 = omega arith in
        by_entry h.0 h.1 le (lt_or_eq (stamp_of e) (stamp_of h.0) le)

pub mark_of_before : (es : List Entry) (Seen : Entry → Type 0) (f e : Entry) (n : ℕ) → Seen e
    → IsMark (IsBefore es Seen f e.thread) n → Ordered es e f → stamp_of e < n
mark_of_before es Seen f e n seen mark o = mark.bound e (record { seen = seen; thread = refl; ordered = o })
