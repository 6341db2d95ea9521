-- What stands of each thread's state, whatever it was given.
use Rattle.std.proofs.Common.{◌≡◌, ℕ, zero, suc, ◌<◌, ◌≤◌, List, refl, ap, subst, inl, inr, arith}
use Rattle.std.specs.Prelude.{Option, Some, None}
use Rattle.history.specs.declared.ask.Arg.{Arg}
use Rattle.history.specs.declared.ask.Ask.TheVariants as ask
use Rattle.history.specs.declared.entry.Entry.{Entry}
use Rattle.history.specs.Replies.{Answers}
use Rattle.runs.specs.Machine.{MayGoOn, TurnsWithin, SettlesWithin}
use Rattle.runs.specs.Parts.{Has, child_of}
use Rattle.source_sem.specs.Children.{with_child}
use Rattle.source_sem.specs.Joining.{ThreadStands, JoinLaw}
use Rattle.source_sem.specs.Requests.{TopFits}
use Rattle.source_sem.specs.Source.{Setting, Source, source, source_ask, source_turn, source_answer, source_start, source_child, source_fits}
use Rattle.source_sem.specs.Traps.{EndIsOwn, PlainIsOwn}
use Rattle.source_sem.proofs.Fresh.{turns_are_fresh}
use Rattle.source_sem.proofs.RequestLaws.{requests_fit}
use Rattle.source_sem.proofs.Stepping.{instructions_count, spawns_start, counts_within}
use Rattle.source_sem.proofs.TrapLaws.{traps_are_own}

pub lt_of : (a b : ℕ) → a ≤ b → (a ≡ b → ⊥) → a < b
lt_of zero zero le ne = absurd (ne refl)
lt_of zero (suc b) le ne = omega arith
lt_of (suc a) zero le ne = absurd (omega (arith, le))
lt_of (suc a) (suc b) le ne = (let less = lt_of a b (omega (arith, le)) (λ is. ne (ap suc is)) in omega (arith, less))

-- thread t of n: what it asks fits, its children are later threads, and it has begun no more instructions than it may
pub record StateStands (x : Setting) (turns t n : ℕ) (s : Source) : Type 0 where
  pub requests : TopFits x s.frames
  pub joins : ThreadStands x.program s
  pub own : EndIsOwn s.over
  pub count : s.count ≤ turns
  pub kids : (c : ℕ) → Has s.started c → (t < c) × (c < n)

module _ (x : Setting) (turns : ℕ) (joins : JoinLaw x) where
  pub stands_more : (t n m : ℕ) (s : Source) → n ≤ m → StateStands x turns t n s → StateStands x turns t m s
  stands_more t n m s le h = record {
    requests = h.requests;
    joins = h.joins;
    own = h.own;
    count = h.count;
    kids = λ c k. (let old = h.kids c k in (old.0, omega (arith, old.1, le)));
  }

  pub stands_turn : (t n : ℕ) (s : Source) → StateStands x turns t n s → source_ask x s ≡ ask.Turn → MayGoOn (source x) turns s → StateStands x turns t n (source_turn x s)
  stands_turn t n s h asks may = record {
    requests = (requests_fit x).turn s h.requests;
    joins = joins.turn s h.joins asks;
    own = (traps_are_own x).turn s h.own;
    count = (let less = may (turns_are_fresh x s asks) in let more = (instructions_count x).turn s in omega (arith, less, more));
    kids = λ c k. h.kids c (subst (λ l. Has l c) ((spawns_start x).turn s) k);
  }

  stands_turns : (t n k : ℕ) (s u : Source) → TurnsWithin (source x) turns k s u → StateStands x turns t n s → StateStands x turns t n u
  stands_turns t n zero s u h i = subst (λ z. StateStands x turns t n z) h i
  stands_turns t n (suc k) s u h i = stands_turns t n k (source_turn x s) u h.2 (stands_turn t n s i h.0 h.1)

  pub stands_settled : (t n : ℕ) (s u : Source) → SettlesWithin (source x) turns s u → StateStands x turns t n s → StateStands x turns t n u
  stands_settled t n s u h i = stands_turns t n h.0 s u h.1 i

  pub stands_after : (t n m : ℕ) (s : Source) (e : Entry) → StateStands x turns t n s → MayGoOn (source x) turns s → Answers (source_ask x s) e → source_fits x s e → PlainIsOwn e.reply.plain
      → n ≤ m → ((c : ℕ) → child_of e ≡ Some c → (t < c) × (c < m)) → StateStands x turns t m (source_answer x s e.reply)
  stands_after t n m s e h may asks fits own le kid = record {
    requests = (requests_fit x).after s e h.requests asks fits;
    joins = joins.after s e h.joins asks fits (λ c is. (let later = (kid c is).0 in omega (arith, later)));
    own = (traps_are_own x).after s e.reply h.own own;
    count = counts_within x s e.reply turns may h.count;
    kids = λ c k. by_child (child_of e) refl c (subst (λ l. Has l c) ((spawns_start x).after s e asks fits) k);
  }
    where
      old : (c : ℕ) → Has s.started c → (t < c) × (c < m)
      old c k = (let o = h.kids c k in (o.0, omega (arith, o.1, le)))

      by_child : (o : Option ℕ) → child_of e ≡ o → (c : ℕ) → Has (with_child o s.started) c → (t < c) × (c < m)
      by_child None is c k = old c k
      by_child (Some n) is c (inl same) = subst (λ z. (t < z) × (z < m)) same (kid n is)
      by_child (Some n) is c (inr k) = old c k

  pub stands_child : (t n : ℕ) (s : Source) → StateStands x turns t n (source_child x s)
  stands_child t n s = record {
    requests = (requests_fit x).child s;
    joins = joins.child s;
    own = (traps_are_own x).child s;
    count = (let none = (instructions_count x).child s in omega (arith, none));
    kids = λ c k. absurd (subst (λ l. Has l c) ((spawns_start x).child s) k);
  }

  pub stands_start : (t n k : ℕ) (args : List Arg) → StateStands x turns t n (source_start x k args)
  stands_start t n k args = record {
    requests = (requests_fit x).start k args;
    joins = joins.start k args;
    own = (traps_are_own x).start k args;
    count = omega arith;
    kids = λ c k. absurd k;
  }
