-- A step that a pick makes is an event of the interleaving run so far.
use Rattle.std.proofs.Common.{◌≡◌, ℕ, ◌+◌, ◌<◌, false, refl, sym, ◌∙◌, ap, subst, arith}
use Rattle.std.specs.Prelude.{Some, None, slice_get}
use Rattle.std.specs.declared.option.Option.{Option}
use Rattle.history.specs.declared.ask.Ask.{Ask}
use Rattle.history.specs.declared.ask.Ask.TheVariants as ask
use Rattle.history.specs.declared.log.End.{End}
use Rattle.history.specs.declared.log.End.TheVariants as log_end
use Rattle.history.specs.declared.entry.Entry.{Entry}
use Rattle.bsan_ids.specs.declared.numbers.Limits.{Limits}
use Rattle.ir_ast.specs.declared.types.Place.{Place}
use Rattle.bsan_ids.specs.declared.numbers.Prov.{Prov}
use Rattle.history.specs.declared.entry.Request.{Request}
use Rattle.history.specs.declared.entry.Request.TheVariants as request
use Rattle.runs.specs.Parts.{Answers, IsOnNumber}
use Rattle.runs.specs.Machine.{Machine, Memory, Settles}
use Rattle.runs.specs.Interleaving.{World, HasReturned, Allowed, Replies, Event}
use Rattle.runs.specs.Replay.{Progress, Fiber, Steps, end_at, object_at, DrawsStamp, RepliesNext, Chooses}
use Rattle.runs.proofs.Composition.{settles_without}
use Rattle.runs.proofs.ErasedRun.{settles_more}

-- the replay's lists show the world that its entries lead to
pub record Tracks (M : Machine) (O : Memory) (p : Progress M O) (w : World M O) : Type 0 where
  pub threads : (t : ℕ) (f : Fiber M) → slice_get p.threads t ≡ Some f → (s : M.State) × (w.threads t ≡ Some s) × Settles M s f.state
  pub unused : (t : ℕ) → p.words.threads < t → w.threads t ≡ None
  pub objects : (a : ℕ) → w.objects a ≡ object_at M O p a
  pub unmade : (a : ℕ) → p.words.allocs < a → O.made (object_at M O p a) ≡ false
  pub returned : (t v : ℕ) (q : Option Prov) → end_at M O p t ≡ Some (log_end.Returned v q) → HasReturned M (w.threads t) v q

-- a request that no number answers is asked for by its own kind of ask
pub not_on_number : (r s : Request) (e : Entry) → e.request ≡ r → e.request ≡ s → IsOnNumber r → (IsOnNumber s → ⊥) → ⊥
not_on_number r s e h g on off = off (subst IsOnNumber (sym h ∙ g) on)

pub make_within : (M : Machine) (O : Memory) (limits : Limits) (p : Progress M O) (e : Entry) (size : ℕ) (place : Place) (a : Ask)
    → Answers a e → e.request ≡ request.Make size place → DrawsStamp M O limits p a → p.words.allocs < limits.allocs
make_within M O limits p e size place (ask.Make n k) h is draws = draws
make_within M O limits p e size place ask.Turn h is draws = absurd h
make_within M O limits p e size place (ask.Ended o) h is draws = absurd h
make_within M O limits p e size place (ask.At a r) h is draws = absurd (not_on_number r (request.Make size place) e h.0 is h.2 (λ x. x))
make_within M O limits p e size place (ask.Print v) h is draws = absurd (let x : request.Print v ≡ request.Make size place = sym h.0 ∙ is in cc)
make_within M O limits p e size place (ask.Host n x y) h is draws = absurd (let z : request.Host n x y ≡ request.Make size place = sym h.0 ∙ is in cc)
make_within M O limits p e size place (ask.Spawn f) h is draws = absurd (let x : request.Spawn f ≡ request.Make size place = sym h.0 ∙ is in cc)
make_within M O limits p e size place (ask.Join c) h is draws = absurd (let x : request.Join c ≡ request.Make size place = sym h.0 ∙ is in cc)

pub spawn_within : (M : Machine) (O : Memory) (limits : Limits) (p : Progress M O) (e : Entry) (f : ℕ) (a : Ask)
    → Answers a e → e.request ≡ request.Spawn f → DrawsStamp M O limits p a → p.words.threads < 1023
spawn_within M O limits p e f (ask.Spawn g) h is draws = draws
spawn_within M O limits p e f ask.Turn h is draws = absurd h
spawn_within M O limits p e f (ask.Ended o) h is draws = absurd h
spawn_within M O limits p e f (ask.At a r) h is draws = absurd (not_on_number r (request.Spawn f) e h.0 is h.2 (λ x. x))
spawn_within M O limits p e f (ask.Make n k) h is draws = absurd (let x : request.Make n k ≡ request.Spawn f = sym h ∙ is in cc)
spawn_within M O limits p e f (ask.Print v) h is draws = absurd (let x : request.Print v ≡ request.Spawn f = sym h.0 ∙ is in cc)
spawn_within M O limits p e f (ask.Host n x y) h is draws = absurd (let z : request.Host n x y ≡ request.Spawn f = sym h.0 ∙ is in cc)
spawn_within M O limits p e f (ask.Join c) h is draws = absurd (let x : request.Join c ≡ request.Spawn f = sym h.0 ∙ is in cc)

pub replies_next : (M : Machine) (O : Memory) (A : Allowed) (limits : Limits) (p : Progress M O) (w : World M O) (e : Entry) (a : Ask) (r : Request)
    → limits.allocs ≡ A.allocs → Tracks M O p w → Answers a e → e.request ≡ r → DrawsStamp M O limits p a
    → RepliesNext M O A p e r → Replies M O A w e r
replies_next M O A limits p w e a (request.Make size place) lim h asked is draws g =
    let d = p.words.allocs + 1 in
    let less = make_within M O limits p e size place a asked is draws in (
      record { 0 = d },
      g.0,
      omega arith,
      omega (arith, less, lim),
      rw (h.objects d) (h.unmade d (omega arith)),
      rw (h.objects d) g.1,
    )
replies_next M O A limits p w e a (request.Print v) lim h asked is draws g = g
replies_next M O A limits p w e a (request.Host n x y) lim h asked is draws g = g
replies_next M O A limits p w e a (request.Spawn f) lim h asked is draws g =
    let less = spawn_within M O limits p e f a asked is draws in
    (record { 0 = p.words.threads + 1 }, omega arith, omega (arith, less), h.unused (p.words.threads + 1) (omega arith), g)
replies_next M O A limits p w e a (request.Join c) lim h asked is draws g = (g.0, g.1, h.returned c.0 g.0 g.1 g.2, g.3)
replies_next M O A limits p w e a _ lim h asked is draws g = (g.0, g.1, rw (h.objects g.0.0) g.2)

-- the step of a pick
abbrev pub step_is_event : (M : Machine) (O : Memory) (A : Allowed) (limits : Limits) (p : Progress M O) (w : World M O) (t : ℕ) (f : Fiber M) (now : M.State) (e : Entry) (over : Option End)
    → limits.allocs ≡ A.allocs → Tracks M O p w → slice_get p.threads t ≡ Some f → Chooses M O A limits p t f (Steps now e over) → Event M O A w e
step_is_event M O A limits p w t f now e over lim h at c =
    let s = h.threads t f at in
    record {
      before = s.0;
      now = now;
      started = ap w.threads c.4 ∙ s.1;
      settles = settles_more M s.0 f.state now s.2 (settles_without M limits.turns f.state now c.0);
      site = sym c.6;
      asks = c.7;
      replies = replies_next M O A limits p w e (M.ask now) e.request lim h c.7 refl c.2 c.8;
    }
