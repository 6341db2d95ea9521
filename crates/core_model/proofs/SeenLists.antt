-- The code's threads as lists, and the children that its steps start.
use Rattle.std.proofs.Common.{◌≡◌, ℕ, zero, suc, ◌<◌, List, [], ◌∷◌, ◌++◌, true, false, refl, sym, ◌∙◌, ap, subst, length, arith, get_or}
use Rattle.std.specs.Prelude.{Option, Some, None, Box, is_none, slice_get, slice_set, IsTrue}
use Rattle.std.specs.declared.alloc.Global.{Global}
use Rattle.std.proofs.lemmas.Bool.{true≢false}
use Rattle.std.proofs.lemmas.List.{map-set, map-append, length-map, length-set}
use Rattle.std.proofs.lemmas.Option.{slice_get_read, slice_get_within}
use Rattle.bsan_ids.specs.declared.numbers.Limits.{Limits}
use Rattle.bsan_ids.specs.declared.numbers.ThreadNo.{ThreadNo}
use Rattle.history.specs.declared.ask.Ask.{Ask}
use Rattle.history.specs.declared.ask.Ask.TheVariants as ask
use Rattle.ir_ast.specs.declared.hosts.HostTable.{HostTable}
use Rattle.run_memory.specs.Memory.{Memory}
use Rattle.run_memory.specs.declared.states.Step.TheVariants.{Done}
use Rattle.history.specs.declared.log.End.{End}
use Rattle.runs.proofs.Tracking.{some_inj}
use Rattle.source_sem.specs.Source.{Setting, Source, source, source_ask, source_site, source_fits}
use Rattle.core_model.specs.declared.fiber.Fiber.{Fiber}
use Rattle.core_model.specs.Ends.{end_in, is_open, IsEndOf, pick_of}
use Rattle.core_model.specs.declared.fiber.Took.TheVariants.{Stepped, Ended}
use Rattle.core_model.specs.declared.run.Pick.TheVariants as pick
use Rattle.core_model.specs.Fibers.{Seen, seen, all_seen, StartsChild, first_seen, unboxed, GivesFitting, Takes}
use Rattle.runs.specs.Objects.{objects}
use Rattle.runs.specs.Replay.{waits}
use Rattle.runs.specs.Threads.{AsksStep}
use Rattle.core_model.specs.Running.{Played, Settled, UnderWay, PickedAs}
use Rattle.core_model.specs.Steps.{IsStep}
use Rattle.core_model.specs.Turns.{Rests}
use Rattle.core_model.proofs.Choosing.{got_map, got_set, EndOf}
use Rattle.core_model.proofs.Taking.{end_seen, ends_are, gives_fitting, not_waiting, never_waiting, NewSeen, stepped_picked, ends_picked}

module _ {T : Type 0} (setting : T → Setting) (state : T → Source) where
  abbrev pub child_list : Option (Fiber T) → List Seen
  child_list None = []
  child_list (Some g) = seen setting state g ∷ []

  pub ends_in : (items : List (Fiber T)) (c : ℕ) → end_in items c ≡ end_seen (all_seen setting state items) c
  ends_in [] c = refl
  ends_in (f ∷ fs) zero = refl
  ends_in (f ∷ fs) (suc c) = ends_in fs c

  pub seen_set : (items : List (Fiber T)) (t : ℕ) (f : Fiber T) → all_seen setting state (slice_set items t f) ≡ slice_set (all_seen setting state items) t (seen setting state f)
  seen_set items t f = map-set (seen setting state) items t f

  pub seen_push : (items : List (Fiber T)) (f : Fiber T) → all_seen setting state (items ++ f ∷ []) ≡ all_seen setting state items ++ seen setting state f ∷ []
  seen_push items f = map-append (seen setting state) items (f ∷ [])

  pub seen_at : (items : List (Fiber T)) (t : ℕ) (f : Fiber T) → t < length items → f ≡ get_or items t f → slice_get (all_seen setting state items) t ≡ Some (seen setting state f)
  seen_at items t f within item = got_map (seen setting state) items t f (slice_get_read items (length items) t f refl within item)

  -- an open thread is seen as one
  pub open_seen : (items : List (Fiber T)) (t : ℕ) → IsTrue (is_open (slice_get items t)) → (f : Seen) × (slice_get (all_seen setting state items) t ≡ Some f) × (f.«end» ≡ None)
  open_seen [] t h = absurd (true≢false (sym h))
  open_seen (x ∷ xs) zero h = (seen setting state x, refl, none_is x.«end» h)
    where
      none_is : (o : Option End) → is_none o ≡ true → o ≡ None
      none_is None h = refl
      none_is (Some e) h = absurd (true≢false (sym h))
  open_seen (x ∷ xs) (suc t) h = open_seen xs t h

  pub shut_seen : (items : List (Fiber T)) (t : ℕ) → is_open (slice_get items t) ≡ false → (f : Seen) → slice_get (all_seen setting state items) t ≡ Some f → f.«end» ≡ None → ⊥
  shut_seen [] t h f at none = cc
  shut_seen (x ∷ xs) zero h f at none = true≢false (sym (ap is_none (ap (λ (z : Seen). z.«end») (some_inj at) ∙ none)) ∙ h)
  shut_seen (x ∷ xs) (suc t) h f at none = shut_seen xs t h f at none

  module _ (x : Setting) (limits : Limits) (hosts : HostTable) (before : List Seen) (m : Memory) (p : Played x) (t : ℕ) (f : Seen) (now : Source) (a : Ask) (items : List (Fiber T))
      (s : Settled x limits hosts before m p t f now a (all_seen setting state items)) where
    pub within_items : t < length items
    within_items =
        let low : t < length before = slice_get_within before t f s.at in
        let long : length (slice_set before t (record f { state = now })) ≡ length before = length-set before t (record f { state = now }) in
        let same : length (all_seen setting state items) ≡ length items = length-map items (seen setting state) in
        let is = ap (length {A = Seen}) s.fibers_are in
        omega (arith, low, long, same, is)

    module _ (el : Fiber T) (item : el ≡ get_or items t el) where
      pub seen_is : seen setting state el ≡ record f { state = now }
      seen_is = some_inj (sym (seen_at items t el within_items item) ∙ (ap (λ l. slice_get l t) s.fibers_are ∙ got_set before t f (record f { state = now }) s.at))

      pub setting_is : setting el.thread ≡ x
      setting_is = ap (λ (z : Seen). z.setting) seen_is ∙ s.way.shows.settings t f s.at

      pub state_is : state el.thread ≡ now
      state_is = ap (λ (z : Seen). z.state) seen_is

      pub asked_here : a ≡ source_ask (setting el.thread) (state el.thread)
      asked_here = s.asks ∙ ap (λ y. source_ask y now) (sym setting_is) ∙ ap (source_ask (setting el.thread)) (sym state_is)

      pub fitting_here : (number : ThreadNo) (joined : Option End) → number.0 ≡ t → EndOf x p joined a → GivesFitting (setting el.thread) (state el.thread) m hosts number joined a
      fitting_here number joined same is_end = λ after e h.
          let here : IsStep m hosts number (source_site now) joined a after (Done e) = subst (λ z. IsStep m hosts number (source_site z) joined a after (Done e)) state_is h in
          let fit : source_fits x now e = gives_fitting x limits hosts before m p t f now a (all_seen setting state items) s number joined after same is_end e here in
          subst (λ y. source_fits y (state el.thread) e) (sym setting_is) (subst (λ z. source_fits x z e) (sym state_is) fit)

  -- what a spawn starts
  pub no_child : (x : Setting) (now : Source) (number : ThreadNo) (a : Ask) → StartsChild setting state x now number a None → ((k : ℕ) → a ≡ ask.Spawn k → ⊥)
  no_child x now number (ask.Spawn j) h k is = h
  no_child x now number ask.Turn h k is = cc
  no_child x now number (ask.Ended w) h k is = cc
  no_child x now number (ask.Make size place) h k is = cc
  no_child x now number (ask.At b r) h k is = cc
  no_child x now number (ask.Print v) h k is = cc
  no_child x now number (ask.Host i b c) h k is = cc
  no_child x now number (ask.Join c) h k is = cc

  module _ (x : Setting) (limits : Limits) (hosts : HostTable) (before : List Seen) (m : Memory) (p : Played x) (t : ℕ) (f : Seen) (now : Source) (a : Ask) (items : List (Fiber T))
      (s : Settled x limits hosts before m p t f now a (all_seen setting state items)) (joined : Option End) where
    end_by_ask : (b : Ask) → IsEndOf b items joined → EndOf x p joined b
    end_by_ask (ask.Join c) h = h.0 ∙ ends_in items c.0 ∙ ends_are x limits hosts before m p t f now a (all_seen setting state items) s c.0
    end_by_ask ask.Turn h = tt
    end_by_ask (ask.Ended w) h = tt
    end_by_ask (ask.Make size place) h = tt
    end_by_ask (ask.At b r) h = tt
    end_by_ask (ask.Print v) h = tt
    end_by_ask (ask.Host i b c) h = tt
    end_by_ask (ask.Spawn k) h = tt

    pub end_here : IsEndOf a items joined → EndOf x p joined a
    end_here h = end_by_ask a h

    pub free_here : IsEndOf a items joined → waits (source x) objects p (source_ask x now) ≡ false
    free_here h = by_ask a refl h
      where
        by_ask : (b : Ask) → a ≡ b → IsEndOf b items joined → waits (source x) objects p (source_ask x now) ≡ false
        by_ask (ask.Join c) is h = not_waiting x limits hosts before m p t f now a (all_seen setting state items) s joined (end_by_ask a (subst (λ b. IsEndOf b items joined) (sym is) h)) h.1
        by_ask ask.Turn is h = never_waiting x limits hosts before m p t f now a (all_seen setting state items) s (λ c z. (let w : ask.Turn ≡ ask.Join c = sym is ∙ z in cc))
        by_ask (ask.Ended e) is h = never_waiting x limits hosts before m p t f now a (all_seen setting state items) s (λ c z. (let w : ask.Ended e ≡ ask.Join c = sym is ∙ z in cc))
        by_ask (ask.Make size place) is h = never_waiting x limits hosts before m p t f now a (all_seen setting state items) s (λ c z. (let w : ask.Make size place ≡ ask.Join c = sym is ∙ z in cc))
        by_ask (ask.At b r) is h = never_waiting x limits hosts before m p t f now a (all_seen setting state items) s (λ c z. (let w : ask.At b r ≡ ask.Join c = sym is ∙ z in cc))
        by_ask (ask.Print v) is h = never_waiting x limits hosts before m p t f now a (all_seen setting state items) s (λ c z. (let w : ask.Print v ≡ ask.Join c = sym is ∙ z in cc))
        by_ask (ask.Host i b d) is h = never_waiting x limits hosts before m p t f now a (all_seen setting state items) s (λ c z. (let w : ask.Host i b d ≡ ask.Join c = sym is ∙ z in cc))
        by_ask (ask.Spawn k) is h = never_waiting x limits hosts before m p t f now a (all_seen setting state items) s (λ c z. (let w : ask.Spawn k ≡ ask.Join c = sym is ∙ z in cc))

  module _ (x : Setting) (limits : Limits) (hosts : HostTable) (before : List Seen) (m : Memory) (p : Played x) (t : ℕ) (f : Seen) (now : Source) (a : Ask) (items : List (Fiber T))
      (s : Settled x limits hosts before m p t f now a (all_seen setting state items)) (number : ThreadNo) (same_number : number.0 ≡ t) (joined : Option End) (h : IsEndOf a items joined) (n : Memory)
      (el : Fiber T) (item : el ≡ get_or items t el) where
    abbrev F : List Seen
    F = all_seen setting state items

    is_end : EndOf x p joined a
    is_end = end_here x limits hosts before m p t f now a items s joined h

    new_by : (b : Ask) (y : Setting) (z : Source) (child : Option (Fiber T)) → y ≡ x → z ≡ now → StartsChild setting state y z number b child → NewSeen x limits hosts before m p t f now a F s number joined n same_number is_end b (child_list child)
    new_by (ask.Spawn k) y z None ys zs c = absurd c
    new_by (ask.Spawn k) y z (Some g) ys zs c = ap (λ (w : Seen). w ∷ []) (c ∙ ap (λ y. first_seen y z number k) ys ∙ ap (λ z. first_seen x z number k) zs)
    new_by ask.Turn y z child ys zs c = ap child_list c
    new_by (ask.Ended w) y z child ys zs c = ap child_list c
    new_by (ask.Make size place) y z child ys zs c = ap child_list c
    new_by (ask.At b r) y z child ys zs c = ap child_list c
    new_by (ask.Print v) y z child ys zs c = ap child_list c
    new_by (ask.Host i b d) y z child ys zs c = ap child_list c
    new_by (ask.Join d) y z child ys zs c = ap child_list c

    pub took_step : (after : Seen) (child : Option (Box (Fiber T) Global)) → Takes setting state (seen setting state el) m hosts number joined a after n (Stepped child) → (over : Option End) → Rests after.setting limits after.state over
        → (more : List Seen) → more ≡ slice_set F t (record after { «end» = over }) ++ child_list (unboxed child)
        → (q : Played x) × PickedAs x limits hosts (pick_of over) p t q × UnderWay x limits hosts more n q
    took_step after child k over rests more is =
        stepped_picked x limits hosts before m p t f now a F s number joined n same_number is_end (free_here x limits hosts before m p t f now a items s joined h)
        (seen setting state el) (seen_is x limits hosts before m p t f now a items s el item) k.0 k.1 over (subst (λ (z : Seen). Rests z.setting limits z.state over) k.2 rests) (child_list (unboxed child))
        (new_by a (setting el.thread) (state el.thread) (unboxed child) (setting_is x limits hosts before m p t f now a items s el item) (state_is x limits hosts before m p t f now a items s el item) k.3)
        more (is ∙ ap (λ (z : Seen). slice_set F t (record z { «end» = over }) ++ child_list (unboxed child)) k.2)

    pub took_end : AsksStep a → (after : Seen) → Takes setting state (seen setting state el) m hosts number joined a after n Ended → (more : List Seen) → more ≡ slice_set F t after
        → (q : Played x) × PickedAs x limits hosts pick.Ended p t q × UnderWay x limits hosts more n q
    took_end step after k more is =
        ends_picked x limits hosts before m p t f now a F s number joined n step is_end (free_here x limits hosts before m p t f now a items s joined h)
        (seen setting state el) (seen_is x limits hosts before m p t f now a items s el item) k.0 k.1 more (is ∙ ap (λ z. slice_set F t z) k.2)

  -- an open thread of the code, and the same thread after its local turns
  pub record OpenHere (items : List (Fiber T)) (t : ℕ) (el : Fiber T) : Type 0 where
    pub within : t < length items
    pub at : slice_get (all_seen setting state items) t ≡ Some (seen setting state el)
    pub «open» : el.«end» ≡ None

  pub open_here : (items : List (Fiber T)) (t : ℕ) (el : Fiber T) → IsTrue (is_open (slice_get items t)) → el ≡ get_or items t el → OpenHere items t el
  open_here items t el opened item =
      let o = open_seen items t opened in
      let within : t < length items = (let low = slice_get_within (all_seen setting state items) t o.0 o.1 in let same : length (all_seen setting state items) ≡ length items = length-map items (seen setting state) in omega (arith, low, same)) in
      let at = seen_at items t el within item in
      record { within = within; at = at; «open» = ap (λ (z : Seen). z.«end») (some_inj (sym at ∙ o.1)) ∙ o.2 }
