-- Runs as they are written, along which stamps rise and of which none starts thread 0, are runs.
use Rattle.std.proofs.Common.{◌≡◌, ◌≢◌, ◌↔◌, ℕ, zero, suc, ◌<◌, Bool, List, [], ◌∷◌, refl, sym, ◌∙◌, ap, subst, inl, inr, arith}
use Rattle.std.specs.Prelude.{Option, Some, None}
use Rattle.bsan_ids.specs.declared.numbers.Limits.{Limits}
use Rattle.bsan_ids.specs.declared.numbers.ThreadNo.{ThreadNo}
use Rattle.history.specs.declared.ask.Ask.{Ask}
use Rattle.history.specs.declared.entry.Entry.{Entry}
use Rattle.history.specs.declared.entry.Plain.{Plain}
use Rattle.history.specs.declared.entry.Plain.TheVariants as plain
use Rattle.history.specs.declared.entry.Request.{Request}
use Rattle.history.specs.declared.entry.Request.TheVariants as request
use Rattle.history.specs.Objects.{clean}
use Rattle.history.specs.declared.log.ThreadLog.{ThreadLog}
use Rattle.runs.specs.Interleaving.{Allowed, Interleaves, Replies, World, world_after}
use Rattle.runs.specs.Machine.{Machine, Memory}
use Rattle.runs.specs.Merge.{merged}
use Rattle.runs.specs.Parts.{Has, child_of, spawned_by}
use Rattle.runs.specs.Right.{AtLeast, HasRuns, StandsAsking}
use Rattle.runs.specs.Threads.{Feeds, IsThreadRun, StartsAs}
use Rattle.runs.proofs.Tracking.{some_inj}
use Rattle.runs.proofs.Tying.{in_merge}
use Rattle.record_file.specs.AsWritten.{AsksAsWritten, BeginsAs, ChildBeginsAs, FeedsAsWritten, HasRunsAsWritten, IsRunAsWritten, StampsRise}
use Rattle.record_file.specs.Counts.{IsCount}
use Rattle.record_file.specs.Following.{ComeInTurn, ComesRight, joined_by, set_by}

-- none of the entries starts thread 0
abbrev pub StartOthers : List Entry → Type 0
StartOthers es = (e : Entry) → Has es e → child_of e ≢ Some 0

module _ (M : Machine) (limits : Limits) (starts : ℕ → M.State) where
  child_begins : (o : Option ℕ) (s : M.State) → o ≢ Some 0 → ChildBeginsAs starts o s → StartsAs M starts o s
  child_begins None s other h = h
  child_begins (Some zero) s other h = absurd (other refl)
  child_begins (Some (suc c)) s other h = h

  child_starts : (o : Option ℕ) (s : M.State) → StartsAs M starts o s → ChildBeginsAs starts o s
  child_starts None s h = h
  child_starts (Some zero) s h = tt
  child_starts (Some (suc c)) s h = h

  pub feeds_of : (s last : M.State) (es : List Entry) → StartOthers es → FeedsAsWritten M limits.turns starts s es last → Feeds M limits.turns starts s es last
  feeds_of s last [] others f = f
  feeds_of s last (e ∷ es) others f = (
    record { now = f.0.now; settles = f.0.settles; may = f.0.may; site = f.0.site; asks = f.0.asks; fits = f.0.fits; child = child_begins (child_of e) (M.child f.0.now) (others e (inl refl)) f.0.child },
    feeds_of (M.after f.0.now e) last es (λ x there. others x (inr there)) f.1,
  )

  pub written_feeds : (s last : M.State) (es : List Entry) → Feeds M limits.turns starts s es last → FeedsAsWritten M limits.turns starts s es last
  written_feeds s last [] f = f
  written_feeds s last (e ∷ es) f = (
    record { now = f.0.now; settles = f.0.settles; may = f.0.may; site = f.0.site; asks = f.0.asks; fits = f.0.fits; child = child_starts (child_of e) (M.child f.0.now) f.0.child },
    written_feeds (M.after f.0.now e) last es f.1,
  )

  module _ (asks : Ask → Bool) (log : ThreadLog) where
    asking_of : StartOthers log.entries → AsksAsWritten M asks limits starts log → StandsAsking M asks limits starts log
    asking_of others a = record { last = a.last; feeds = feeds_of (starts log.number.0) a.last log.entries others a.feeds; count = a.count; asking = a.asking }

    written_asking : StandsAsking M asks limits starts log → AsksAsWritten M asks limits starts log
    written_asking a = record { last = a.last; feeds = written_feeds (starts log.number.0) a.last log.entries a.feeds; count = a.count; asking = a.asking }

  -- as many logs stand asking
  pub same_count : (asks : Ask → Bool) (logs : List ThreadLog) → ((log : ThreadLog) → Has logs log → StartOthers log.entries) → (n : ℕ)
      → IsCount (AsksAsWritten M asks limits starts) logs n → IsCount (StandsAsking M asks limits starts) logs n
  same_count asks logs others n h = (
    at_least (AsksAsWritten M asks limits starts) (StandsAsking M asks limits starts) n logs (λ log there. asking_of asks log (others log there)) h.0,
    λ more. h.1 (at_least (StandsAsking M asks limits starts) (AsksAsWritten M asks limits starts) (suc n) logs (λ log there. written_asking asks log) more),
  )
    where
      at_least : (P Q : ThreadLog → Type 0) (k : ℕ) (ls : List ThreadLog) → ((log : ThreadLog) → Has ls log → P log → Q log) → AtLeast P k ls → AtLeast Q k ls
      at_least P Q zero ls each g = tt
      at_least P Q (suc k) [] each g = absurd g
      at_least P Q (suc k) (l ∷ ls) each (inl g) = inl (each l (inl refl) g.0, at_least P Q k ls (λ x there. each x (inr there)) g.1)
      at_least P Q (suc k) (l ∷ ls) each (inr g) = inr (at_least P Q (suc k) ls (λ x there. each x (inr there)) g)

module _ (M : Machine) (limits : Limits) (main : M.State) (logs : List ThreadLog) where
  abbrev pub runs_of : StampsRise logs → ((log : ThreadLog) → Has logs log → StartOthers log.entries) → HasRunsAsWritten M limits main logs → HasRuns M limits main logs
  runs_of rise others r = record {
    starts = r.starts;
    first = r.first;
    reached = r.reached;
    runs = λ log there. (let run = r.runs log there in record {
      last = run.last;
      own = run.own;
      rises = rise log there;
      feeds = feeds_of M limits r.starts (r.starts log.number.0) run.last log.entries (others log there) run.feeds;
      «end» = run.«end»;
      count = run.count;
      site = run.site;
    });
    joined = r.joined;
    ended = r.ended;
  }

  abbrev pub written_runs : HasRuns M limits main logs → HasRunsAsWritten M limits main logs
  written_runs r = record {
    starts = r.starts;
    first = r.first;
    reached = r.reached;
    runs = λ log there. (let run = r.runs log there in record {
      last = run.last;
      own = run.own;
      feeds = written_feeds M limits r.starts (r.starts log.number.0) run.last log.entries run.feeds;
      «end» = run.«end»;
      count = run.count;
      site = run.site;
    });
    joined = r.joined;
    ended = r.ended;
  }

-- a merge in which none starts thread 0 ------------------------------------------------

pub in_logs : (logs : List ThreadLog) → StartOthers (merged logs) → (log : ThreadLog) → Has logs log → StartOthers log.entries
in_logs logs others log there e own = others e (in_merge logs log e there own)

spawned_zero : (c : ThreadNo) → 0 < c.0 → Some c.0 ≡ Some 0 → ⊥
spawned_zero c above is = let zero_is : c.0 ≡ 0 = some_inj is in omega (arith, above, zero_is)

replied_zero : (e : Entry) (r : Request) (c : ThreadNo) → 0 < c.0 → e.reply ≡ clean (plain.Spawned c) None → child_of e ≡ Some 0 → e.request ≡ r → (f : ℕ) → r ≡ request.Spawn f → ⊥
replied_zero e r c above is child asked f spawn =
    let answers : child_of e ≡ Some c.0 = ap (λ q. spawned_by q e.reply.plain) (asked ∙ spawn) ∙ ap (λ (p : Plain). spawned_by (request.Spawn f) p) (ap (λ z. z.plain) is) in
    spawned_zero c above (sym answers ∙ child)

never_none : (e : Entry) (r : Request) → e.request ≡ r → spawned_by r e.reply.plain ≡ None → child_of e ≡ Some 0 → ⊥
never_none e r is none child = (let no : None ≡ Some 0 = sym none ∙ ap (λ q. spawned_by q e.reply.plain) (sym is) ∙ child in cc)

right_other : (A : Allowed) (started : _) (e : Entry) (r : Request) → e.request ≡ r → ComesRight A started e r → child_of e ≢ Some 0
right_other A started e (request.Spawn f) is h child = replied_zero e (request.Spawn f) h.0 h.1 h.4 child is f refl
right_other A started e _ is h child = never_none e _ is refl child

pub turns_other : (A : Allowed) (started joined : _) (es : List Entry) → ComeInTurn A started joined es → StartOthers es
turns_other A started joined [] h e there = absurd there
turns_other A started joined (y ∷ es) h e (inl same) = subst (λ (z : Entry). child_of z ≢ Some 0) same (right_other A started y y.request refl h.0.right)
turns_other A started joined (y ∷ es) h e (inr there) = turns_other A (set_by started (child_of y)) (set_by joined (joined_by y.request)) es h.1 e there

module _ (M : Machine) (O : Memory) (A : Allowed) where
  reply_other : (w : World M O) (e : Entry) (r : Request) → e.request ≡ r → Replies M O A w e r → child_of e ≢ Some 0
  reply_other w e (request.Spawn f) is h child = replied_zero e (request.Spawn f) h.0 h.1 h.4 child is f refl
  reply_other w e _ is h child = never_none e _ is refl child

  pub run_other : (w : World M O) (es : List Entry) → Interleaves M O A w es → StartOthers es
  run_other w [] h e there = absurd there
  run_other w (y ∷ es) h e (inl same) = subst (λ (z : Entry). child_of z ≢ Some 0) same (reply_other w y y.request refl h.0.replies)
  run_other w (y ∷ es) h e (inr there) = run_other (world_after M O w h.0.now y) es h.1 e there
