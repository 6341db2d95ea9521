-- What stands after each pick of a replay.
use Rattle.std.proofs.Common.{◌≡◌, ℕ, zero, suc, ◌+◌, ◌<◌, ◌≤◌, List, [], refl, sym, ◌∙◌, ap, subst, ◌≢◌, inl, inr, arith, length}
use Rattle.std.specs.Prelude.{Some, None, slice_get, slice_set, unwrap_or, option_map, count_by, ◌⊎◌}
use Rattle.std.specs.declared.option.Option.{Option}
use Rattle.std.proofs.lemmas.Bool.Decides.{eqb_tells}
use Rattle.bsan_ids.specs.declared.numbers.Counters.{Counters}
use Rattle.bsan_ids.specs.declared.numbers.Limits.{Limits}
use Rattle.bsan_ids.specs.declared.numbers.Prov.{Prov}
use Rattle.bsan_ids.specs.declared.numbers.ThreadNo.{ThreadNo}
use Rattle.history.specs.declared.entry.Entry.{Entry}
use Rattle.history.specs.declared.entry.Plain.TheVariants as plain
use Rattle.history.specs.declared.entry.Request.TheVariants as request
use Rattle.history.specs.declared.entry.Verdict.TheVariants as verdict
use Rattle.history.specs.declared.log.End.{End}
use Rattle.history.specs.declared.log.End.TheVariants as log_end
use Rattle.runs.specs.Parts.{Has, of_thread, child_of}
use Rattle.runs.specs.Machine.{Machine, Memory, Settles, SettlesWithin}
use Rattle.runs.specs.Threads.{Feeds, EndsAs}
use Rattle.runs.specs.Interleaving.{World, first_world, Allowed, Interleaves, last_world}
use Rattle.runs.specs.Right.{Numbered, starts_thread}
use Rattle.runs.specs.Replay.{Fiber, Progress, object_at}
use Rattle.runs.proofs.Composition.{settles_without}
use Rattle.runs.proofs.ErasedRun.{settles_more}
use Rattle.runs.proofs.Feeding.{feeds_settled}
use Rattle.runs.proofs.Picking.{Tracks}
use Rattle.runs.proofs.Tracking.{got_set_same, got_set_other, length_set, some_inj}
use Rattle.runs.proofs.FiberLists.{got_past}

abbrev pub entries_in : {M : Machine} → Option (Fiber M) → List Entry
entries_in None = []
entries_in (Some f) = f.entries

abbrev pub end_in : {M : Machine} → Option (Fiber M) → Option End
end_in o = unwrap_or (option_map (λ f. f.«end») o) None

-- the entry that started this thread
pub record HasParent (merge : List Entry) (t : ℕ) (parent : Option ThreadNo) (function : ℕ) : Type 0 where
  pub number : ThreadNo
  pub spawn : Entry
  pub names : parent ≡ Some number
  pub stands : Has merge spawn
  pub own : spawn.thread.0 ≡ number.0
  pub request : spawn.request ≡ request.Spawn function
  pub answers : child_of spawn ≡ Some t
  pub below : number.0 < t

pub record IsRoot (main t : ℕ) (parent : Option ThreadNo) (function : ℕ) : Type 0 where
  pub zero_is : t ≡ 0
  pub none : parent ≡ None
  pub first : function ≡ main

pub record NotReturned (o : Option End) : Type 0 where
  pub why : End
  pub is : o ≡ Some why
  pub other : (v : ℕ) (q : Option Prov) → why ≢ log_end.Returned v q

pub record Joined (o : Option End) (e : Entry) : Type 0 where
  pub value : ℕ
  pub carried : Option Prov
  pub is : o ≡ Some (log_end.Returned value carried)
  pub reply : e.reply ≡ record { plain = plain.Value value; carried = carried; verdict = verdict.Clean }

pub record StartedOne (n : ℕ) (e : Entry) : Type 0 where
  pub child : ThreadNo
  pub above : 0 < child.0
  pub below : child.0 < n
  pub reply : e.reply.plain ≡ plain.Spawned child

pub record Stands (M : Machine) (O : Memory) (A : Allowed) (limits : Limits) (main : ℕ) (start : M.State) (p : Progress M O) : Type 0 where
  pub starts : ℕ → M.State
  pub first : starts 0 ≡ start
  pub run : Interleaves M O A (first_world M O start) p.merge
  pub tracks : Tracks M O p (last_world M O A (first_world M O start) p.merge run)
  pub numbered : Numbered 1 p.merge
  pub parts : (t : ℕ) → of_thread t p.merge ≡ entries_in (slice_get p.threads t)
  pub feeds : (t : ℕ) (f : Fiber M) → slice_get p.threads t ≡ Some f → Feeds M limits.turns starts (starts t) f.entries f.state
  pub ends : (t : ℕ) (f : Fiber M) (why : End) → slice_get p.threads t ≡ Some f → f.«end» ≡ Some why → EndsAs M limits f.state why
  pub roots : (t : ℕ) (f : Fiber M) → slice_get p.threads t ≡ Some f → IsRoot main t f.parent f.function ⊎ HasParent p.merge t f.parent f.function
  pub ended : (t : ℕ) (f : Fiber M) (c : ThreadNo) → slice_get p.threads t ≡ Some f → f.«end» ≡ Some (log_end.ChildEnded c) → NotReturned (end_in (slice_get p.threads c.0))
  pub joins : (e : Entry) (c : ThreadNo) → Has p.merge e → e.request ≡ request.Join c → Joined (end_in (slice_get p.threads c.0)) e
  pub spawns : (e : Entry) (f : ℕ) → Has p.merge e → e.request ≡ request.Spawn f → StartedOne (length p.threads) e
  pub once : (c : ℕ) → count_by (starts_thread c) p.merge ≤ 1
  pub below : (x : Entry) (c : ℕ) → Has p.merge x → child_of x ≡ Some c → c < length p.threads
  pub has_main : 0 < length p.threads
  pub fewer : length p.threads ≤ p.words.threads + 1
  pub threads_are : p.words.stamps ≤ limits.steps → p.words.threads ≤ 1023 → length p.threads ≡ p.words.threads + 1
  pub objects_fewer : length p.objects ≤ p.words.allocs
  pub objects_are : p.words.stamps ≤ limits.steps → p.words.allocs ≤ limits.allocs → length p.objects ≡ p.words.allocs

-- fibers ------------------------------------------------------------------------

pub has_end : {M : Machine} (o : Option (Fiber M)) (e : End) → end_in o ≡ Some e → (g : Fiber M) × (o ≡ Some g) × (g.«end» ≡ Some e)
has_end None e h = cc
has_end (Some g) e h = (g, refl, h)

-- a fiber that has ended stays as it is
abbrev pub EndedStay : (M : Machine) → List (Fiber M) → List (Fiber M) → Type 0
EndedStay M fs gs = (c : ℕ) (g : Fiber M) (e : End) → slice_get fs c ≡ Some g → g.«end» ≡ Some e → slice_get gs c ≡ Some g

pub end_stays : (M : Machine) (fs gs : List (Fiber M)) (c : ℕ) (e : End) → EndedStay M fs gs → end_in (slice_get fs c) ≡ Some e → end_in (slice_get gs c) ≡ Some e
end_stays M fs gs c e stay h =
    let g = has_end (slice_get fs c) e h in ap end_in (stay c g.0 e g.1 g.2) ∙ g.2

module _ {X : Type 0} where
  pub found_set : (xs : List X) (i j : ℕ) (x y z : X) → slice_get xs i ≡ Some x → slice_get (slice_set xs i y) j ≡ Some z → ((i ≡ j) × (y ≡ z)) ⊎ ((i ≢ j) × (slice_get xs j ≡ Some z))
  found_set xs i j x y z at got = elim (eqb_tells i j) [
    | inl hit ↦ inl (hit.1, some_inj (sym (got_set_same xs i x y at) ∙ ap (slice_get (slice_set xs i y)) hit.1 ∙ got))
    | inr miss ↦ inr (miss.1, sym (got_set_other xs i j y miss.1) ∙ got)
  ]

pub not_ended : {e : End} (o : Option End) → o ≡ None → o ≡ Some e → ⊥
not_ended o h g = cc

pub set_stays : (M : Machine) (fs : List (Fiber M)) (t : ℕ) (f g : Fiber M) → slice_get fs t ≡ Some f → f.«end» ≡ None → EndedStay M fs (slice_set fs t g)
set_stays M fs t f g at opened c h e got is = elim (eqb_tells t c) [
  | inl hit ↦
      let same : f ≡ h = some_inj (sym at ∙ (ap (slice_get fs) hit.1 ∙ got)) in
      absurd (not_ended f.«end» opened (ap (λ (k : Fiber M). k.«end») same ∙ is))
  | inr miss ↦ got_set_other fs t c g miss.1 ∙ got
]

-- objects -------------------------------------------------------------------------

pub same_object : (M : Machine) (O : Memory) (p q : Progress M O) (a : ℕ) → p.objects ≡ q.objects → object_at M O p a ≡ object_at M O q a
same_object M O p q zero is = refl
same_object M O p q (suc k) is = ap (λ l. unwrap_or (slice_get l k) (O.unmade (suc k))) is

pub object_past : (M : Machine) (O : Memory) (p : Progress M O) (a : ℕ) → length p.objects < a → object_at M O p a ≡ O.unmade a
object_past M O p zero less = refl
object_past M O p (suc k) less = ap (λ o. unwrap_or o (O.unmade (suc k))) (got_past p.objects k (omega (arith, less)))

-- a pick without a step: the fiber goes on by local turns, and may end ----------------

abbrev pub set_aside : (M : Machine) → (O : Memory) → Progress M O → ℕ → Fiber M → M.State → Option End → Counters → Progress M O
set_aside M O p t f now why words = record p { threads = slice_set p.threads t (record f { state = now; «end» = why }); words = words }

pub record Aside (M : Machine) (O : Memory) (limits : Limits) (p : Progress M O) (t : ℕ) (f : Fiber M) (now : M.State) (why : Option End) (words : Counters) : Type 0 where
  pub at : slice_get p.threads t ≡ Some f
  pub «open» : f.«end» ≡ None
  pub settles : SettlesWithin M limits.turns f.state now
  pub ends : (e : End) → why ≡ Some e → EndsAs M limits now e
  pub ended : (c : ThreadNo) → why ≡ Some (log_end.ChildEnded c) → NotReturned (end_in (slice_get p.threads c.0))
  pub more_threads : p.words.threads ≤ words.threads
  pub more_allocs : p.words.allocs ≤ words.allocs
  pub threads_are : words.stamps ≤ limits.steps → words.threads ≤ 1023 → (p.words.stamps ≤ limits.steps) × (words.threads ≡ p.words.threads)
  pub allocs_are : words.stamps ≤ limits.steps → words.allocs ≤ limits.allocs → (p.words.stamps ≤ limits.steps) × (words.allocs ≡ p.words.allocs)

module _ (M : Machine) (O : Memory) (A : Allowed) (limits : Limits) where
  tracks_aside : (p : Progress M O) (w : World M O) (t : ℕ) (f : Fiber M) (now : M.State) (why : Option End) (words : Counters)
      → Tracks M O p w → Aside M O limits p t f now why words → Tracks M O (set_aside M O p t f now why words) w
  tracks_aside p w t f now why words k a =
      let q = set_aside M O p t f now why words in
      let f' : Fiber M = record f { state = now; «end» = why } in
      let mine = k.threads t f a.at in
      let settled : Settles M mine.0 now = settles_more M mine.0 f.state now mine.2 (settles_without M limits.turns f.state now a.settles) in
      record {
        threads = λ u g got. elim (found_set p.threads t u f f' g a.at got) [
          | inl hit ↦ (mine.0, subst (λ n. w.threads n ≡ Some mine.0) hit.0 mine.1, subst (λ (h : Fiber M). Settles M mine.0 h.state) hit.1 settled)
          | inr miss ↦ k.threads u g miss.1
        ];
        unused = λ u less. k.unused u (omega (arith, less, a.more_threads));
        objects = λ n. k.objects n ∙ same_object M O p q n refl;
        unmade = λ n less. ap O.made (sym (same_object M O p q n refl)) ∙ k.unmade n (omega (arith, less, a.more_allocs));
        returned = λ u v o is.
            let g = has_end (slice_get q.threads u) (log_end.Returned v o) is in
            elim (found_set p.threads t u f f' g.0 a.at g.1) [
              | inl hit ↦
                  let over : why ≡ Some (log_end.Returned v o) = ap (λ (h : Fiber M). h.«end») hit.1 ∙ g.2 in
                  let ends : EndsAs M limits now (log_end.Returned v o) = a.ends (log_end.Returned v o) over in
                  record { before = mine.0; now = now; started = subst (λ n. w.threads n ≡ Some mine.0) hit.0 mine.1; settles = settled; returned = ends.0 }
              | inr miss ↦ k.returned u v o (ap end_in miss.1 ∙ g.2)
            ];
      }

  pub stands_aside : (main : ℕ) (start : M.State) (p : Progress M O) (t : ℕ) (f : Fiber M) (now : M.State) (why : Option End) (words : Counters)
      → Stands M O A limits main start p → Aside M O limits p t f now why words → Stands M O A limits main start (set_aside M O p t f now why words)
  stands_aside main start p t f now why words s a =
      let q = set_aside M O p t f now why words in
      let f' : Fiber M = record f { state = now; «end» = why } in
      let stay : EndedStay M p.threads q.threads = set_stays M p.threads t f f' a.at a.«open» in
      let long : length q.threads ≡ length p.threads = length_set p.threads t f' in
      record {
        starts = s.starts;
        first = s.first;
        run = s.run;
        tracks = tracks_aside p _ t f now why words s.tracks a;
        numbered = s.numbered;
        parts = λ u. s.parts u ∙ elim (eqb_tells t u) [
          | inl hit ↦ subst (λ n. entries_in (slice_get p.threads n) ≡ entries_in (slice_get q.threads n)) hit.1 (ap entries_in a.at ∙ ap entries_in (sym (got_set_same p.threads t f f' a.at)))
          | inr miss ↦ ap entries_in (sym (got_set_other p.threads t u f' miss.1))
        ];
        feeds = λ u g got. elim (found_set p.threads t u f f' g a.at got) [
          | inl hit ↦
              subst (λ n. Feeds M limits.turns s.starts (s.starts n) g.entries g.state) hit.0
              (subst (λ (h : Fiber M). Feeds M limits.turns s.starts (s.starts t) h.entries h.state) hit.1
              (feeds_settled M limits.turns s.starts (s.starts t) f.state now f.entries (s.feeds t f a.at) a.settles))
          | inr miss ↦ s.feeds u g miss.1
        ];
        ends = λ u g e got is. elim (found_set p.threads t u f f' g a.at got) [
          | inl hit ↦ subst (λ (h : Fiber M). EndsAs M limits h.state e) hit.1 (a.ends e (ap (λ (h : Fiber M). h.«end») hit.1 ∙ is))
          | inr miss ↦ s.ends u g e miss.1 is
        ];
        roots = λ u g got. elim (found_set p.threads t u f f' g a.at got) [
          | inl hit ↦
              let F : ℕ → Fiber M → Type 0 = λ n h. IsRoot main n h.parent h.function ⊎ HasParent p.merge n h.parent h.function in
              subst (λ n. F n g) hit.0 (subst (λ (h : Fiber M). F t h) hit.1 (s.roots t f a.at))
          | inr miss ↦ s.roots u g miss.1
        ];
        ended = λ u g c got is.
            let old : NotReturned (end_in (slice_get p.threads c.0)) = elim (found_set p.threads t u f f' g a.at got) [
              | inl hit ↦ a.ended c (ap (λ (h : Fiber M). h.«end») hit.1 ∙ is)
              | inr miss ↦ s.ended u g c miss.1 is
            ] in
            record { why = old.why; is = end_stays M p.threads q.threads c.0 old.why stay old.is; other = old.other };
        joins = λ e c in_ is.
            let old = s.joins e c in_ is in
            record { value = old.value; carried = old.carried; is = end_stays M p.threads q.threads c.0 _ stay old.is; reply = old.reply };
        spawns = λ e k in_ is.
            let old = s.spawns e k in_ is in
            record { child = old.child; above = old.above; below = omega (arith, old.below, long); reply = old.reply };
        once = s.once;
        below = λ x c in_ is. let old = s.below x c in_ is in omega (arith, old, long);
        has_main = omega (arith, s.has_main, long);
        fewer = omega (arith, s.fewer, long, a.more_threads);
        threads_are = λ less few. let old = a.threads_are less few in
            let were = s.threads_are old.0 (omega (arith, few, old.1)) in omega (arith, were, long, old.1);
        objects_fewer = omega (arith, s.objects_fewer, a.more_allocs);
        objects_are = λ less few. let old = a.allocs_are less few in
            let were = s.objects_are old.0 (omega (arith, few, old.1)) in omega (arith, were, old.1);
      }
