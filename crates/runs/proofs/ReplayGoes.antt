-- What stands before a step of a pick stands after it.
use Rattle.std.proofs.Common.{◌≡◌, ℕ, ◌+◌, ◌<◌, ◌≤◌, Bool, true, false, [], ◌∷◌, ◌++◌, refl, sym, ◌∙◌, ap, subst, ◌≢◌, inl, inr, arith, length}
use Rattle.std.specs.Prelude.{Some, None, slice_get, count_by, ◌==◌, ◌⊎◌, if◌then◌else◌}
use Rattle.std.specs.declared.option.Option.{Option}
use Rattle.std.proofs.lemmas.Bool.{true≢false, eq-eqb}
use Rattle.std.proofs.lemmas.Bool.Decides.{eqb_tells}
use Rattle.std.proofs.lemmas.Option.{slice_get_within}
use Rattle.bsan_ids.specs.declared.numbers.Limits.{Limits}
use Rattle.bsan_ids.specs.declared.numbers.Prov.{Prov}
use Rattle.bsan_ids.specs.declared.numbers.ThreadNo.{ThreadNo}
use Rattle.ir_ast.specs.declared.types.Place.{Place}
use Rattle.history.specs.declared.entry.Entry.{Entry}
use Rattle.history.specs.declared.entry.Reply.{Reply}
use Rattle.history.specs.declared.entry.Request.{Request}
use Rattle.history.specs.declared.entry.Request.TheVariants as request
use Rattle.history.specs.declared.log.End.{End}
use Rattle.history.specs.declared.log.End.TheVariants as log_end
use Rattle.runs.specs.Parts.{Has, of_thread, child_of, is_child}
use Rattle.runs.specs.Machine.{Machine, Memory, Settles}
use Rattle.runs.specs.Threads.{Feeds, StartsAs, EndsAs}
use Rattle.runs.specs.Interleaving.{World, first_world, world_after, HasReturned, Allowed, Event, Interleaves, last_world}
use Rattle.runs.specs.Right.{starts_thread}
use Rattle.runs.specs.Replay.{Fiber, Progress, Steps, RepliesNext, IsOwnEnd, RestsAs, Chooses, picked}
use Rattle.runs.specs.ReplayLaw.{makes, MakesAlone, FitsAlways}
use Rattle.runs.proofs.Feeding.{feeds_entry, feeds_agree, feeds_settled}
use Rattle.runs.proofs.Merges.{in_all}
use Rattle.runs.proofs.Order.{some_child}
use Rattle.runs.proofs.Picking.{Tracks, spawn_within, make_within, step_is_event}
use Rattle.runs.proofs.Prefixes.{run_more, last_world_more}
use Rattle.runs.proofs.Tracking.{some_inj, not_none, child_next, spawn_child, other_stands}
use Rattle.runs.proofs.Counting.{one_is, none_is, count_none}
use Rattle.runs.proofs.FiberLists.{has_old, has_last, has_more, own_more, other_more, numbered_more, count_more}
use Rattle.runs.proofs.ReplayState.{entries_in, end_in, HasParent, IsRoot, NotReturned, Joined, StartedOne, Stands, has_end, EndedStay, end_stays, not_ended, object_past}
use Rattle.runs.proofs.ReplayStep.{After, own, other, new, after_step, kept_step, own_step, long_step, child_is_spawn, long_objects, objects_grow, drawn_allocs, object_step}

-- a step that a pick makes, with what stands before it
pub record Goes (M : Machine) (O : Memory) (A : Allowed) (limits : Limits) (main : ℕ) (start : M.State) (p : Progress M O) (t : ℕ) (f : Fiber M) (now : M.State) (e : Entry) (over : Option End) : Type 0 where
  pub limit : limits.allocs ≡ A.allocs
  pub laws : MakesAlone O
  pub fits : FitsAlways M O A start
  pub stands : Stands M O A limits main start p
  pub at : slice_get p.threads t ≡ Some f
  pub «open» : f.«end» ≡ None
  pub chosen : Chooses M O A limits p t f (Steps now e over)
  pub place : e.stamp.0 ≡ length p.merge + 1

makes_is : (r : Request) → makes r ≡ true → (size : ℕ) × (place : Place) × (r ≡ request.Make size place)
makes_is (request.Make size place) is = (size, place, refl)
makes_is _ is = absurd (true≢false (sym is))

module _ (M : Machine) (O : Memory) (A : Allowed) (limits : Limits) (main : ℕ) (start : M.State) (p : Progress M O) (t : ℕ) (f : Fiber M) (now : M.State) (e : Entry) (over : Option End) (g : Goes M O A limits main start p t f now e over) where
  abbrev f' : Fiber M
  f' = record f { state = M.after now e; entries = f.entries ++ e ∷ []; «end» = over }

  abbrev q : Progress M O
  q = picked M O p t f (Steps now e over)

  abbrev w0 : World M O
  w0 = first_world M O start

  abbrev w : World M O
  w = last_world M O A w0 p.merge g.stands.run

  abbrev event : Event M O A w e
  event = step_is_event M O A limits p w t f now e over g.limit g.stands.tracks g.at g.chosen

  within : t < length p.threads
  within = slice_get_within p.threads t f g.at

  few_stamps : p.words.stamps ≤ limits.steps
  few_stamps = let less = g.chosen.3 in omega (arith, less)

  spawn_few : (k : ℕ) → e.request ≡ request.Spawn k → p.words.threads < 1023
  spawn_few k is = spawn_within M O limits p e k (M.ask now) g.chosen.7 is g.chosen.2

  spawn_long : (k : ℕ) → e.request ≡ request.Spawn k → length p.threads ≡ p.words.threads + 1
  spawn_long k is = let few = spawn_few k is in g.stands.threads_are few_stamps (omega (arith, few))

  new_child : (c : ℕ) → child_of e ≡ Some c → c ≡ length p.threads
  new_child c is =
      let k = child_is_spawn e.request e.reply.plain c is in
      let long = spawn_long k.0 k.1 in
      let number = child_next M O A p e c e.request g.chosen.8 is in omega (arith, long, number)

  not_child : (u : ℕ) → u < length p.threads → is_child (child_of e) u ≡ false
  not_child u less = by_test (is_child (child_of e) u) refl
    where
      by_test : (b : Bool) → is_child (child_of e) u ≡ b → is_child (child_of e) u ≡ false
      by_test false is = is
      by_test true is = let number = new_child u (some_child (child_of e) u is) in absurd (omega (arith, number, less))

  is_spawned : (k : ℕ) → e.request ≡ request.Spawn k → child_of e ≡ Some (length p.threads)
  is_spawned k is = let long = spawn_long k is in spawn_child M O A p e k e.request is g.chosen.8 ∙ ap Some (sym long)

  is_new : (u : ℕ) (k : ℕ) → e.request ≡ request.Spawn k → u ≡ length p.threads → is_child (child_of e) u ≡ true
  is_new u k is last = ap (λ c. is_child c u) (is_spawned k is) ∙ eq-eqb (length p.threads) u (sym last)

  other_thread : (u : ℕ) → t ≢ u → (e.thread.0 == u) ≡ false
  other_thread u ne = elim (eqb_tells e.thread.0 u) [ inl hit ↦ absurd (ne (sym g.chosen.4 ∙ hit.1)) | inr miss ↦ miss.0 ]

  -- the end that the step brings
  own_end : (why : End) → over ≡ Some why → IsOwnEnd why × EndsAs M limits (M.after now e) why
  own_end why is = subst (λ o. RestsAs M limits (M.after now e) o) is g.chosen.9

  brought : (k : Fiber M) (why : End) → f' ≡ k → k.«end» ≡ Some why → over ≡ Some why
  brought k why same is = ap (λ (h : Fiber M). h.«end») same ∙ is

  ahead : (u : ℕ) (k : Fiber M) → slice_get q.threads u ≡ Some k → After M p.threads t f' (M.child now) e.request u k
  ahead u k got = after_step M p.threads t f f' (M.child now) e.request u k g.at got

  stay : EndedStay M p.threads q.threads
  stay c k why got is = elim (eqb_tells t c) [
    | inl hit ↦
        let same : f ≡ k = some_inj (sym g.at ∙ (ap (slice_get p.threads) hit.1 ∙ got)) in
        absurd (not_ended f.«end» g.«open» (ap (λ (h : Fiber M). h.«end») same ∙ is))
    | inr miss ↦ kept_step M p.threads t f' (M.child now) e.request c k miss.1 got
  ]

  tracks_step : Tracks M O q (world_after M O w now e)
  tracks_step = record {
    threads = λ u k got. by_place u k (ahead u k got);
    unused = unused;
    objects = λ a.
        object_step M O A limits g.laws p e w.objects g.stands.tracks.objects g.chosen.8
        (λ m. let r = makes_is e.request m in let less = make_within M O limits p e r.0 r.1 (M.ask now) g.chosen.7 r.2 g.chosen.2 in g.stands.objects_are few_stamps (omega (arith, less)))
        q.threads q.merge q.words a;
    unmade = λ a less. ap O.made (object_past M O q a (fewer_objects a less)) ∙ g.laws.first a;
    returned = λ u v o is. let k = has_end (slice_get q.threads u) (log_end.Returned v o) is in returned u v o k.0 (ahead u k.0 k.1) k.2;
  }
    where
      by_place : (u : ℕ) (k : Fiber M) → After M p.threads t f' (M.child now) e.request u k → (s : M.State) × ((world_after M O w now e).threads u ≡ Some s) × Settles M s k.state
      by_place u k (own here is) = (M.after now e, rw (eq-eqb e.thread.0 u (g.chosen.4 ∙ here)) refl, (0, ap (λ (h : Fiber M). h.state) is))
      by_place u k (other ne got) = other_stands M O A p w now e u k g.stands.tracks g.chosen.8 (other_thread u ne) got
      by_place u k (new n is last same) =
          let apart : t ≢ u = λ z. (let l = within in omega (arith, z, last, l)) in
          (M.child now, rw (other_thread u apart, is_new u n is last) refl, (0, ap (λ (h : Fiber M). h.state) same))

      unused : (u : ℕ) → q.words.threads < u → (world_after M O w now e).threads u ≡ None
      unused u less = elim (long_step M p.threads t f' (M.child now) p.words e.request) [
        | inl more ↦
            let k = more.2 in
            let long = spawn_long k.0 k.1 in
            let l = within in
            let apart : t ≢ u = λ z. omega (arith, z, l, long, less, more.1) in
            let not_new : is_child (child_of e) u ≡ false = ap (λ c. is_child c u) (is_spawned k.0 k.1) ∙ off (length p.threads) u (λ z. omega (arith, z, long, less, more.1)) in
            rw (other_thread u apart, not_new) (g.stands.tracks.unused u (omega (arith, less, more.1)))
        | inr same ↦
            let l = within in
            let few = g.stands.fewer in
            let apart : t ≢ u = λ z. omega (arith, z, l, few, less, same.1) in
            rw (other_thread u apart, no_spawn u same.2) (g.stands.tracks.unused u (omega (arith, less, same.1)))
      ]
        where
          off : (a b : ℕ) → a ≢ b → (a == b) ≡ false
          off a b ne = elim (eqb_tells a b) [ inl hit ↦ absurd (ne hit.1) | inr miss ↦ miss.0 ]

          no_spawn : (v : ℕ) → ((k : ℕ) → e.request ≢ request.Spawn k) → is_child (child_of e) v ≡ false
          no_spawn v none = by_test (is_child (child_of e) v) refl
            where
              by_test : (b : Bool) → is_child (child_of e) v ≡ b → is_child (child_of e) v ≡ false
              by_test false is = is
              by_test true is = let k = child_is_spawn e.request e.reply.plain v (some_child (child_of e) v is) in absurd (none k.0 k.1)

      fewer_objects : (a : ℕ) → q.words.allocs < a → length q.objects < a
      fewer_objects a less =
          let few = g.stands.objects_fewer in
          elim (drawn_allocs p.words e.request) [
            | inl more ↦ elim (long_objects M O A p e e.request refl g.chosen.8) [
              | inl same ↦ omega (arith, few, less, more.1, same)
              | inr longer ↦ omega (arith, few, less, more.1, longer.1)
            ]
            | inr same ↦ elim (long_objects M O A p e e.request refl g.chosen.8) [
              | inl old ↦ omega (arith, few, less, same.1, old)
              | inr longer ↦ absurd (true≢false (sym longer.0 ∙ same.0))
            ]
          ]

      returned : (u v : ℕ) (o : Option Prov) (k : Fiber M) → After M p.threads t f' (M.child now) e.request u k → k.«end» ≡ Some (log_end.Returned v o) → HasReturned M ((world_after M O w now e).threads u) v o
      returned u v o k (own here same) is =
          let ends = (own_end (log_end.Returned v o) (brought k (log_end.Returned v o) same is)).1 in
          record { before = M.after now e; now = M.after now e; started = rw (eq-eqb e.thread.0 u (g.chosen.4 ∙ here)) refl; settles = (0, refl); returned = ends.0 }
      returned u v o k (other ne got) is =
          rw (other_thread u ne, not_child u (slice_get_within p.threads u k got)) (g.stands.tracks.returned u v o (ap end_in got ∙ is))
      returned u v o k (new n at last same) is = absurd (not_ended k.«end» (sym (ap (λ (h : Fiber M). h.«end») same)) is)

  abbrev run_step : Interleaves M O A w0 q.merge
  run_step = run_more M O A w0 p.merge e g.stands.run event

  parts_step : (u : ℕ) → of_thread u q.merge ≡ entries_in (slice_get q.threads u)
  parts_step u = elim (eqb_tells e.thread.0 u) [
    | inl hit ↦
        let here : t ≡ u = sym g.chosen.4 ∙ hit.1 in
        own_more u p.merge e hit.0
        ∙ ap (λ l. l ++ e ∷ []) (g.stands.parts u ∙ ap entries_in (ap (slice_get p.threads) (sym here) ∙ g.at))
        ∙ ap entries_in (sym (own_step M p.threads t f f' (M.child now) e.request g.at) ∙ ap (slice_get q.threads) here)
    | inr miss ↦ other_more u p.merge e miss.0 ∙ g.stands.parts u ∙ kept (λ z. miss.1 (g.chosen.4 ∙ z)) (slice_get p.threads u) refl (slice_get q.threads u) refl
  ]
    where
      kept : t ≢ u → (o : Option (Fiber M)) → slice_get p.threads u ≡ o → (o' : Option (Fiber M)) → slice_get q.threads u ≡ o' → entries_in (slice_get p.threads u) ≡ entries_in (slice_get q.threads u)
      kept ne (Some k) is o' is' = ap entries_in (is ∙ sym (kept_step M p.threads t f' (M.child now) e.request u k ne is))
      kept ne None is None is' = ap entries_in (is ∙ sym is')
      kept ne None is (Some k) is' = by_new (ahead u k is')
        where
          by_new : After M p.threads t f' (M.child now) e.request u k → entries_in (slice_get p.threads u) ≡ entries_in (slice_get q.threads u)
          by_new (own here same) = absurd (ne here)
          by_new (other away got) = absurd (not_none k (slice_get p.threads u) got is)
          by_new (new n at last same) = ap entries_in is ∙ ap (λ (h : Fiber M). h.entries) same ∙ ap entries_in (sym is')

  abbrev starts' : ℕ → M.State
  starts' u = if is_child (child_of e) u then M.child now else g.stands.starts u

  starts_old : (u : ℕ) → u < length p.threads → g.stands.starts u ≡ starts' u
  starts_old u less = rw (not_child u less) refl

  -- the children in an old log are old
  agree : (u : ℕ) (k : Fiber M) → slice_get p.threads u ≡ Some k → (x : Entry) (c : ℕ) → Has k.entries x → child_of x ≡ Some c → g.stands.starts c ≡ starts' c
  agree u k got x c in_ is =
      let own_part : of_thread u p.merge ≡ k.entries = g.stands.parts u ∙ ap entries_in got in
      let in_merge : Has p.merge x = in_all u p.merge x (subst (λ l. Has l x) (sym own_part) in_) in
      starts_old c (g.stands.below x c in_merge is)

  feeds_old : (u : ℕ) (k : Fiber M) → slice_get p.threads u ≡ Some k → Feeds M limits.turns starts' (starts' u) k.entries k.state
  feeds_old u k got =
      subst (λ s. Feeds M limits.turns starts' s k.entries k.state) (starts_old u (slice_get_within p.threads u k got))
      (feeds_agree M limits.turns g.stands.starts starts' (g.stands.starts u) k.state k.entries (agree u k got) (g.stands.feeds u k got))

  starts_as : (c : Option ℕ) → child_of e ≡ c → StartsAs M starts' c (M.child now)
  starts_as None is = tt
  starts_as (Some c) is = rw (ap (λ o. is_child o c) is ∙ eq-eqb c c refl) refl

  feeds_step : (u : ℕ) (k : Fiber M) → After M p.threads t f' (M.child now) e.request u k → Feeds M limits.turns starts' (starts' u) k.entries k.state
  feeds_step u k (own here same) =
      subst (λ n. Feeds M limits.turns starts' (starts' n) k.entries k.state) here
      (subst (λ (h : Fiber M). Feeds M limits.turns starts' (starts' t) h.entries h.state) same
      (feeds_entry M limits.turns starts' (starts' t) now f.entries e
      (feeds_settled M limits.turns starts' (starts' t) f.state now f.entries (feeds_old t f g.at) g.chosen.0)
      g.chosen.1 (sym g.chosen.6) g.chosen.7 (g.fits p.merge g.stands.run e event) (starts_as (child_of e) refl)))
  feeds_step u k (other ne got) = feeds_old u k got
  feeds_step u k (new n is last same) =
      let first : starts' u ≡ M.child now = rw (is_new u n is last) refl in
      subst (λ (h : Fiber M). Feeds M limits.turns starts' (starts' u) h.entries h.state) same (0, first)

  root_step : (u : ℕ) (k : Fiber M) → After M p.threads t f' (M.child now) e.request u k → IsRoot main u k.parent k.function ⊎ HasParent q.merge u k.parent k.function
  root_step u k at = by_place at
    where
      longer : (v : ℕ) (parent : Option ThreadNo) (function : ℕ) → IsRoot main v parent function ⊎ HasParent p.merge v parent function → IsRoot main v parent function ⊎ HasParent q.merge v parent function
      longer v parent function (inl r) = inl r
      longer v parent function (inr h) =
          inr (record { number = h.number; spawn = h.spawn; names = h.names; stands = has_old p.merge (e ∷ []) h.spawn h.stands; own = h.own; request = h.request; answers = h.answers; below = h.below })

      by_place : After M p.threads t f' (M.child now) e.request u k → IsRoot main u k.parent k.function ⊎ HasParent q.merge u k.parent k.function
      by_place (own here same) =
          subst (λ n. IsRoot main n k.parent k.function ⊎ HasParent q.merge n k.parent k.function) here
          (subst (λ (h : Fiber M). IsRoot main t h.parent h.function ⊎ HasParent q.merge t h.parent h.function) same (longer t f.parent f.function (g.stands.roots t f g.at)))
      by_place (other ne got) = longer u k.parent k.function (g.stands.roots u k got)
      by_place (new n is last same) =
          let l = within in
          inr
          (subst (λ (h : Fiber M). HasParent q.merge u h.parent h.function) same
          (record { number = record { 0 = t }; spawn = e; names = refl; stands = has_last p.merge e; own = g.chosen.4; request = is; answers = is_spawned n is ∙ ap Some (sym last); below = omega (arith, last, l) }))

  joined_new : (x : Entry) (c : ThreadNo) (r : Request) → e ≡ x → e.request ≡ r → r ≡ request.Join c → RepliesNext M O A p e r → Joined (end_in (slice_get p.threads c.0)) x
  joined_new x c r same at is next =
      let h : RepliesNext M O A p e (request.Join c) = subst (λ y. RepliesNext M O A p e y) is next in
      subst (λ (y : Entry). Joined (end_in (slice_get p.threads c.0)) y) same (record { value = h.0; carried = h.1; is = h.2; reply = h.3 })

  join_step : (x : Entry) (c : ThreadNo) → Has q.merge x → x.request ≡ request.Join c → Joined (end_in (slice_get q.threads c.0)) x
  join_step x c in_ is =
      let before : Joined (end_in (slice_get p.threads c.0)) x = elim (has_more p.merge e x in_) [
        | inl old ↦ g.stands.joins x c old is
        | inr same ↦ joined_new x c e.request same refl (ap (λ (y : Entry). y.request) same ∙ is) g.chosen.8
      ] in
      record { value = before.value; carried = before.carried; is = end_stays M p.threads q.threads c.0 _ stay before.is; reply = before.reply }

  longer : length p.threads ≤ length q.threads
  longer = elim (long_step M p.threads t f' (M.child now) p.words e.request) [ inl more ↦ (let l = more.0 in omega (arith, l)) | inr same ↦ (let l = same.0 in omega (arith, l)) ]

  longer_spawn : (k : ℕ) → e.request ≡ request.Spawn k → length p.threads < length q.threads
  longer_spawn k is = elim (long_step M p.threads t f' (M.child now) p.words e.request) [ inl more ↦ (let l = more.0 in omega (arith, l)) | inr same ↦ absurd (same.2 k is) ]

  spawn_step : (x : Entry) (k : ℕ) → Has q.merge x → x.request ≡ request.Spawn k → StartedOne (length q.threads) x
  spawn_step x k in_ is = elim (has_more p.merge e x in_) [
    | inl old ↦
        let was = g.stands.spawns x k old is in
        let l = longer in
        record { child = was.child; above = was.above; below = omega (arith, was.below, l); reply = was.reply }
    | inr same ↦
        let at : e.request ≡ request.Spawn k = ap (λ (y : Entry). y.request) same ∙ is in
        let next : RepliesNext M O A p e (request.Spawn k) = subst (λ y. RepliesNext M O A p e y) at g.chosen.8 in
        let long = spawn_long k at in
        let l = longer_spawn k at in
        subst (λ (y : Entry). StartedOne (length q.threads) y) same
        (record { child = record { 0 = p.words.threads + 1 }; above = omega arith; below = omega (arith, long, l); reply = ap (λ (y : Reply). y.plain) next })
  ]

  -- no old entry starts the new thread
  none_started : (c : ℕ) → child_of e ≡ Some c → count_by (starts_thread c) p.merge ≡ 0
  none_started c is = count_none (starts_thread c) p.merge (λ x in_. by_test x in_ (starts_thread c x) refl)
    where
      by_test : (x : Entry) → Has p.merge x → (b : Bool) → starts_thread c x ≡ b → starts_thread c x ≡ false
      by_test x in_ false off = off
      by_test x in_ true hit =
          let number = new_child c is in
          let b = g.stands.below x c in_ (some_child (child_of x) c hit) in
          absurd (omega (arith, number, b))

  once_step : (c : ℕ) → count_by (starts_thread c) q.merge ≤ 1
  once_step c = by_test (starts_thread c e) refl
    where
      by_test : (b : Bool) → starts_thread c e ≡ b → count_by (starts_thread c) q.merge ≤ 1
      by_test true hit =
          let none = none_started c (some_child (child_of e) c hit) in
          let all = count_more (starts_thread c) p.merge e in
          let one = one_is (starts_thread c) e hit in
          omega (arith, none, all, one)
      by_test false off =
          let old = g.stands.once c in
          let all = count_more (starts_thread c) p.merge e in
          let none = none_is (starts_thread c) e off in
          omega (arith, old, all, none)

  below_step : (x : Entry) (c : ℕ) → Has q.merge x → child_of x ≡ Some c → c < length q.threads
  below_step x c in_ is = elim (has_more p.merge e x in_) [
    | inl old ↦ (let b = g.stands.below x c old is in let l = longer in omega (arith, b, l))
    | inr same ↦
        let at : child_of e ≡ Some c = ap child_of same ∙ is in
        let number = new_child c at in
        let k = child_is_spawn e.request e.reply.plain c at in
        let l = longer_spawn k.0 k.1 in omega (arith, number, l)
  ]

  pub stands_step : Stands M O A limits main start q
  stands_step = record {
    starts = starts';
    first = sym (starts_old 0 g.stands.has_main) ∙ g.stands.first;
    run = run_step;
    tracks = subst (λ v. Tracks M O q v) (sym (last_world_more M O A w0 p.merge e g.stands.run event)) tracks_step;
    numbered = numbered_more 1 p.merge e g.stands.numbered (let n = g.place in omega (arith, n));
    parts = parts_step;
    feeds = λ u k got. feeds_step u k (ahead u k got);
    ends = λ u k why got is. by_end u k why (ahead u k got) is;
    roots = λ u k got. root_step u k (ahead u k got);
    ended = λ u k c got is. (
        let old = by_ended u k c (ahead u k got) is in
        record { why = old.why; is = end_stays M p.threads q.threads c.0 old.why stay old.is; other = old.other });
    joins = join_step;
    spawns = spawn_step;
    once = once_step;
    below = below_step;
    has_main = (let l = longer in let h = g.stands.has_main in omega (arith, l, h));
    fewer = elim (long_step M p.threads t f' (M.child now) p.words e.request) [
      | inl more ↦ (let few = g.stands.fewer in omega (arith, few, more.0, more.1))
      | inr same ↦ (let few = g.stands.fewer in omega (arith, few, same.0, same.1))
    ];
    threads_are = λ less few. elim (long_step M p.threads t f' (M.child now) p.words e.request) [
      | inl more ↦ (let were = g.stands.threads_are few_stamps (omega (arith, few, more.1)) in omega (arith, were, more.0, more.1))
      | inr same ↦ (let were = g.stands.threads_are few_stamps (omega (arith, few, same.1)) in omega (arith, were, same.0, same.1))
    ];
    objects_fewer = by_objects g.stands.objects_fewer (λ a. a);
    objects_are = λ less few. exact_objects few;
  }
    where
      by_end : (u : ℕ) (k : Fiber M) (why : End) → After M p.threads t f' (M.child now) e.request u k → k.«end» ≡ Some why → EndsAs M limits k.state why
      by_end u k why (own here same) is = subst (λ (h : Fiber M). EndsAs M limits h.state why) same (own_end why (brought k why same is)).1
      by_end u k why (other ne got) is = g.stands.ends u k why got is
      by_end u k why (new n at last same) is = absurd (not_ended k.«end» (sym (ap (λ (h : Fiber M). h.«end») same)) is)

      by_ended : (u : ℕ) (k : Fiber M) (c : ThreadNo) → After M p.threads t f' (M.child now) e.request u k → k.«end» ≡ Some (log_end.ChildEnded c) → NotReturned (end_in (slice_get p.threads c.0))
      by_ended u k c (own here same) is = absurd (own_end (log_end.ChildEnded c) (brought k (log_end.ChildEnded c) same is)).0
      by_ended u k c (other ne got) is = g.stands.ended u k c got is
      by_ended u k c (new n at last same) is = absurd (not_ended k.«end» (sym (ap (λ (h : Fiber M). h.«end») same)) is)

      by_objects : length p.objects ≤ p.words.allocs → (length q.objects ≤ q.words.allocs → length q.objects ≤ q.words.allocs) → length q.objects ≤ q.words.allocs
      by_objects few id = elim (drawn_allocs p.words e.request) [
        | inl more ↦ elim (long_objects M O A p e e.request refl g.chosen.8) [
          | inl same ↦ omega (arith, few, more.1, same)
          | inr long ↦ omega (arith, few, more.1, long.1)
        ]
        | inr same ↦ elim (long_objects M O A p e e.request refl g.chosen.8) [
          | inl old ↦ omega (arith, few, same.1, old)
          | inr long ↦ absurd (true≢false (sym long.0 ∙ same.0))
        ]
      ]

      exact_objects : q.words.allocs ≤ limits.allocs → length q.objects ≡ q.words.allocs
      exact_objects few = elim (drawn_allocs p.words e.request) [
        | inl more ↦
            let were = g.stands.objects_are few_stamps (omega (arith, few, more.1)) in
            elim (long_objects M O A p e e.request refl g.chosen.8) [
              | inl same ↦ (let long = objects_grow M O A p e e.request refl g.chosen.8 more.0 were in omega (arith, long, same))
              | inr long ↦ omega (arith, were, more.1, long.1)
            ]
        | inr same ↦
            let were = g.stands.objects_are few_stamps (omega (arith, few, same.1)) in
            elim (long_objects M O A p e e.request refl g.chosen.8) [
              | inl old ↦ omega (arith, were, same.1, old)
              | inr long ↦ absurd (true≢false (sym long.0 ∙ same.0))
            ]
      ]
