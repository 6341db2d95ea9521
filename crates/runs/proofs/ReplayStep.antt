-- A step of a pick keeps what stands.
use Rattle.std.proofs.Common.{◌≡◌, ℕ, zero, suc, ◌+◌, Bool, true, false, List, [], ◌∷◌, ◌++◌, refl, sym, ◌∙◌, ap, subst, ◌≢◌, inl, inr, arith, length, append-nil}
use Rattle.std.specs.Prelude.{Some, None, slice_get, slice_set, unwrap_or, ◌==◌, ◌⊎◌, if◌then◌else◌}
use Rattle.std.specs.declared.option.Option.{Option}
use Rattle.std.proofs.lemmas.Bool.{true≢false}
use Rattle.std.proofs.lemmas.Bool.Decides.{eqb_tells}
use Rattle.bsan_ids.specs.declared.numbers.AllocNo.{AllocNo}
use Rattle.bsan_ids.specs.declared.numbers.Counters.{Counters}
use Rattle.bsan_ids.specs.declared.numbers.Limits.{Limits}
use Rattle.history.specs.declared.entry.Entry.{Entry}
use Rattle.history.specs.declared.entry.Plain.{Plain}
use Rattle.history.specs.declared.entry.Request.{Request}
use Rattle.history.specs.declared.entry.Request.TheVariants as request
use Rattle.runs.specs.Parts.{names, spawned_by}
use Rattle.runs.specs.Machine.{Machine, Memory}
use Rattle.runs.specs.Interleaving.{Allowed}
use Rattle.runs.specs.Replay.{Fiber, Progress, object_at, RepliesNext, drawn_by, new_fibers, with_new, with_object, on_number, objects_after}
use Rattle.runs.specs.ReplayLaw.{makes, MakesAlone}
use Rattle.runs.proofs.Order.{none_is_some}
use Rattle.runs.proofs.Tracking.{got_set_same, got_set_other, got_more, length_set, some_inj, not_none}
use Rattle.runs.proofs.FiberLists.{got_old, got_last, got_past, length_more}
use Rattle.runs.proofs.ReplayState.{found_set}

-- who stands where after a step: the thread itself, another one, or the new one
pub data After (M : Machine) (fs : List (Fiber M)) (t : ℕ) (f' : Fiber M) (child : M.State) (r : Request) (u : ℕ) (g : Fiber M) : Type 0 where
  own : t ≡ u → f' ≡ g → After M fs t f' child r u g
  other : t ≢ u → slice_get fs u ≡ Some g → After M fs t f' child r u g
  new : (k : ℕ) → r ≡ request.Spawn k → u ≡ length fs
      → record { parent = Some (record { 0 = t }); function = k; state = child; entries = []; «end» = None } ≡ g → After M fs t f' child r u g

by_set : (M : Machine) (fs : List (Fiber M)) (t : ℕ) (f f' : Fiber M) (child : M.State) (r : Request) (u : ℕ) (g : Fiber M)
    → slice_get fs t ≡ Some f → slice_get (slice_set fs t f') u ≡ Some g → After M fs t f' child r u g
by_set M fs t f f' child r u g at got = elim (found_set fs t u f f' g at got) [ inl hit ↦ own hit.0 hit.1 | inr miss ↦ other miss.0 miss.1 ]

pub after_step : (M : Machine) (fs : List (Fiber M)) (t : ℕ) (f f' : Fiber M) (child : M.State) (r : Request) (u : ℕ) (g : Fiber M)
    → slice_get fs t ≡ Some f → slice_get (slice_set fs t f' ++ new_fibers M t child r) u ≡ Some g → After M fs t f' child r u g
after_step M fs t f f' child (request.Spawn k) u g at got = elim (got_more (slice_set fs t f') _ g u got) [
  | inl old ↦ by_set M fs t f f' child (request.Spawn k) u g at old
  | inr fresh ↦ new k refl (fresh.0 ∙ length_set fs t f') fresh.1
]
after_step M fs t f f' child _ u g at got = by_set M fs t f f' child _ u g at (rw append-nil at got)

-- an old thread that isn't the asking one stays
pub kept_step : (M : Machine) (fs : List (Fiber M)) (t : ℕ) (f' : Fiber M) (child : M.State) (r : Request) (u : ℕ) (g : Fiber M)
    → t ≢ u → slice_get fs u ≡ Some g → slice_get (slice_set fs t f' ++ new_fibers M t child r) u ≡ Some g
kept_step M fs t f' child r u g ne got = got_old (slice_set fs t f') (new_fibers M t child r) u g (got_set_other fs t u f' ne ∙ got)

pub own_step : (M : Machine) (fs : List (Fiber M)) (t : ℕ) (f f' : Fiber M) (child : M.State) (r : Request)
    → slice_get fs t ≡ Some f → slice_get (slice_set fs t f' ++ new_fibers M t child r) t ≡ Some f'
own_step M fs t f f' child r at = got_old (slice_set fs t f') (new_fibers M t child r) t f' (got_set_same fs t f f' at)

pub long_step : (M : Machine) (fs : List (Fiber M)) (t : ℕ) (f' : Fiber M) (child : M.State) (words : Counters) (r : Request)
    → ((length (slice_set fs t f' ++ new_fibers M t child r) ≡ length fs + 1) × ((drawn_by words r).threads ≡ words.threads + 1) × ((k : ℕ) × (r ≡ request.Spawn k)))
    ⊎ ((length (slice_set fs t f' ++ new_fibers M t child r) ≡ length fs) × ((drawn_by words r).threads ≡ words.threads) × ((k : ℕ) → r ≢ request.Spawn k))
long_step M fs t f' child words (request.Spawn k) = inl (length_more (slice_set fs t f') _ ∙ ap (λ n. n + 1) (length_set fs t f'), refl, (k, refl))
long_step M fs t f' child words _ = inr (ap length (append-nil (slice_set fs t f')) ∙ length_set fs t f', refl, λ k is. cc)

pub child_is_spawn : (r : Request) (p : Plain) (c : ℕ) → spawned_by r p ≡ Some c → (k : ℕ) × (r ≡ request.Spawn k)
child_is_spawn (request.Spawn k) p c h = (k, refl)
child_is_spawn _ p c h = absurd (none_is_some c h)

-- the objects after a step --------------------------------------------------------

-- a Make is of the next number, and any other step leaves their length
pub long_objects : (M : Machine) (O : Memory) (A : Allowed) (p : Progress M O) (e : Entry) (r : Request) → e.request ≡ r → RepliesNext M O A p e r
    → (length (objects_after O p.objects e.alloc e) ≡ length p.objects) ⊎ ((makes r ≡ true) × (length (objects_after O p.objects e.alloc e) ≡ length p.objects + 1))
long_objects M O A p e r is next = by_number e.alloc
  where
    by_request : (k : ℕ) (q : Request) → e.request ≡ q → q ≡ r → (length (with_new O p.objects k e q) ≡ length p.objects) ⊎ ((makes r ≡ true) × (length (with_new O p.objects k e q) ≡ length p.objects + 1))
    by_request k (request.Make size place) same at = inr (ap makes (sym at), length_more p.objects _)
    by_request k _ same at = inl refl

    by_object : (k : ℕ) (o : Option O.Object) → (length (with_object O p.objects k e o) ≡ length p.objects) ⊎ ((makes r ≡ true) × (length (with_object O p.objects k e o) ≡ length p.objects + 1))
    by_object k (Some o) = inl (length_set p.objects k (O.next o e.request e.stamp.0))
    by_object k None = by_request k e.request refl is

    by_number : (o : Option AllocNo) → (length (objects_after O p.objects o e) ≡ length p.objects) ⊎ ((makes r ≡ true) × (length (objects_after O p.objects o e) ≡ length p.objects + 1))
    by_number None = inl refl
    by_number (Some a) = on_it a.0
      where
        on_it : (n : ℕ) → (length (on_number O p.objects n e) ≡ length p.objects) ⊎ ((makes r ≡ true) × (length (on_number O p.objects n e) ≡ length p.objects + 1))
        on_it zero = inl refl
        on_it (suc k) = by_object k (slice_get p.objects k)

suc_is : (n : ℕ) → n + 1 ≡ suc n
suc_is n = omega arith

-- a Make of the next number adds it
pub objects_grow : (M : Machine) (O : Memory) (A : Allowed) (p : Progress M O) (e : Entry) (r : Request) → e.request ≡ r → RepliesNext M O A p e r
    → makes r ≡ true → length p.objects ≡ p.words.allocs → length (objects_after O p.objects e.alloc e) ≡ length p.objects + 1
objects_grow M O A p e (request.Make size place) is next m long =
    let none : slice_get p.objects p.words.allocs ≡ None = got_past p.objects p.words.allocs (omega (arith, long)) in
    ap (λ o. length (objects_after O p.objects o e)) next.0
    ∙ ap (λ n. length (on_number O p.objects n e)) (suc_is p.words.allocs)
    ∙ ap (λ o. length (with_object O p.objects p.words.allocs e o)) none
    ∙ ap (λ r. length (with_new O p.objects p.words.allocs e r)) is
    ∙ length_more p.objects _
objects_grow M O A p e _ is next m long = absurd (true≢false (sym m))

pub drawn_allocs : (words : Counters) (r : Request) → ((makes r ≡ true) × ((drawn_by words r).allocs ≡ words.allocs + 1)) ⊎ ((makes r ≡ false) × ((drawn_by words r).allocs ≡ words.allocs))
drawn_allocs words (request.Make size place) = inl (refl, refl)
drawn_allocs words (request.Spawn k) = inr (refl, refl)
drawn_allocs words _ = inr (refl, refl)

pub drawn_stamps : (words : Counters) (r : Request) → (drawn_by words r).stamps ≡ words.stamps + 1
drawn_stamps words (request.Make size place) = refl
drawn_stamps words (request.Spawn k) = refl
drawn_stamps words _ = refl

-- the number of a Make
make_number : (M : Machine) (O : Memory) (A : Allowed) (p : Progress M O) (e : Entry) (r : Request) → makes r ≡ true → RepliesNext M O A p e r → e.alloc ≡ Some (record { 0 = p.words.allocs + 1 })
make_number M O A p e (request.Make size place) is h = h.0
make_number M O A p e _ is h = absurd (true≢false (sym is))

alloc_inj : (a b : AllocNo) → Some a ≡ Some b → a.0 ≡ b.0
alloc_inj a b h = ap (λ (n : AllocNo). n.0) (some_inj h)

module _ (M : Machine) (O : Memory) (A : Allowed) (limits : Limits) where
  -- the object of each number after a step, in the list and in the world
  pub object_step : MakesAlone O → (p : Progress M O) (e : Entry) (w : ℕ → O.Object)
      → ((a : ℕ) → w a ≡ object_at M O p a) → RepliesNext M O A p e e.request → (makes e.request ≡ true → length p.objects ≡ p.words.allocs)
      → (threads : List (Fiber M)) (merge : List Entry) (words : Counters) (a : ℕ)
      → (if names e.alloc a then O.next (w a) e.request e.stamp.0 else w a) ≡ object_at M O (record { threads = threads; objects = objects_after O p.objects e.alloc e; merge = merge; words = words }) a
  object_step laws p e w same next long threads merge words a = by_number e.alloc refl
    where
      at : List O.Object → ℕ → O.Object
      at objects n = object_at M O (record { threads = threads; objects = objects; merge = merge; words = words }) n

      w_is : (n : ℕ) → w n ≡ at p.objects n
      w_is zero = same zero
      w_is (suc k) = same (suc k)

      -- the number's own object
      own_some : (k : ℕ) (o : O.Object) → slice_get p.objects k ≡ Some o → O.next (w (suc k)) e.request e.stamp.0 ≡ at (slice_set p.objects k (O.next o e.request e.stamp.0)) (suc k)
      own_some k o is =
          ap (λ n. O.next n e.request e.stamp.0) (w_is (suc k) ∙ ap (λ x. unwrap_or x (O.unmade (suc k))) is)
          ∙ ap (λ x. unwrap_or x (O.unmade (suc k))) (sym (got_set_same p.objects k o (O.next o e.request e.stamp.0) is))

      other_some : (k n : ℕ) (y : O.Object) → k ≢ n → w (suc n) ≡ at (slice_set p.objects k y) (suc n)
      other_some k n y ne = w_is (suc n) ∙ ap (λ x. unwrap_or x (O.unmade (suc n))) (sym (got_set_other p.objects k n y ne))

      was_unmade : (k : ℕ) → slice_get p.objects k ≡ None → w (suc k) ≡ O.unmade (suc k)
      was_unmade k is = w_is (suc k) ∙ ap (λ x. unwrap_or x (O.unmade (suc k))) is

      own_none : (k : ℕ) (r : Request) → e.request ≡ r → slice_get p.objects k ≡ None → (makes r ≡ true → k ≡ length p.objects)
          → O.next (w (suc k)) e.request e.stamp.0 ≡ at (with_new O p.objects k e r) (suc k)
      own_none k (request.Make size place) is none place_is =
          let y = O.next (O.unmade (suc k)) e.request e.stamp.0 in
          let got : slice_get (p.objects ++ y ∷ []) k ≡ Some y = subst (λ n. slice_get (p.objects ++ y ∷ []) n ≡ Some y) (sym (place_is refl)) (got_last p.objects y) in
          ap (λ n. O.next n e.request e.stamp.0) (was_unmade k none) ∙ ap (λ x. unwrap_or x (O.unmade (suc k))) (sym got)
      own_none k _ is none place_is =
          ap (λ n. O.next n e.request e.stamp.0) (was_unmade k none) ∙ laws.kept (suc k) e.request e.stamp.0 (ap makes is) ∙ ap (λ x. unwrap_or x (O.unmade (suc k))) (sym none)

      other_none : (k n : ℕ) (r : Request) → (makes r ≡ true → k ≡ length p.objects) → k ≢ n → w (suc n) ≡ at (with_new O p.objects k e r) (suc n)
      other_none k n (request.Make size place) place_is ne = w_is (suc n) ∙ ap (λ x. unwrap_or x (O.unmade (suc n))) (sym (more n _))
        where
          more : (m : ℕ) (y : O.Object) → slice_get (p.objects ++ y ∷ []) n ≡ slice_get p.objects n
          more m y = by_old (slice_get p.objects n) refl
            where
              by_end : (o : Option O.Object) → slice_get (p.objects ++ y ∷ []) n ≡ o → slice_get p.objects n ≡ None → o ≡ None
              by_end None is none = refl
              by_end (Some z) is none = elim (got_more p.objects y z n is) [
                | inl old ↦ absurd (not_none z (slice_get p.objects n) old none)
                | inr last ↦ absurd (ne (place_is refl ∙ sym last.0))
              ]

              by_old : (o : Option O.Object) → slice_get p.objects n ≡ o → slice_get (p.objects ++ y ∷ []) n ≡ slice_get p.objects n
              by_old (Some z) is = got_old p.objects (y ∷ []) n z is ∙ sym is
              by_old None is = by_end (slice_get (p.objects ++ y ∷ []) n) refl is ∙ sym is
      other_none k n _ place_is ne = w_is (suc n)

      -- where a Make stands
      make_place : (b : AllocNo) (k : ℕ) → e.alloc ≡ Some b → b.0 ≡ suc k → makes e.request ≡ true → k ≡ length p.objects
      make_place b k is at_k m =
          let number = alloc_inj b (record { 0 = p.words.allocs + 1 }) (sym is ∙ make_number M O A p e e.request m next) in
          let l = long m in omega (arith, number, at_k, l)

      hits : (k : ℕ) (o : Option O.Object) → slice_get p.objects k ≡ o → (makes e.request ≡ true → k ≡ length p.objects)
          → O.next (w (suc k)) e.request e.stamp.0 ≡ at (with_object O p.objects k e o) (suc k)
      hits k (Some o) is place_is = own_some k o is
      hits k None is place_is = own_none k e.request refl is place_is

      misses : (k n : ℕ) (o : Option O.Object) → (makes e.request ≡ true → k ≡ length p.objects) → k ≢ n → w (suc n) ≡ at (with_object O p.objects k e o) (suc n)
      misses k n (Some o) place_is ne = other_some k n _ ne
      misses k n None place_is ne = other_none k n e.request place_is ne

      on_it : (b : AllocNo) (n m : ℕ) → e.alloc ≡ Some b → b.0 ≡ n → (if n == m then O.next (w m) e.request e.stamp.0 else w m) ≡ at (on_number O p.objects n e) m
      on_it b zero zero is at_n = by_make (makes e.request) refl
        where
          by_make : (c : Bool) → makes e.request ≡ c → O.next (w zero) e.request e.stamp.0 ≡ O.unmade zero
          by_make true m =
              let number = alloc_inj b (record { 0 = p.words.allocs + 1 }) (sym is ∙ make_number M O A p e e.request m next) in absurd (omega (arith, number, at_n))
          by_make false m = ap (λ o. O.next o e.request e.stamp.0) (same zero) ∙ laws.kept zero e.request e.stamp.0 m
      on_it b zero (suc m) is at_n = elim (eqb_tells zero (suc m)) [ inl hit ↦ absurd (omega (arith, hit.1)) | inr miss ↦ rw miss.0 (w_is (suc m)) ]
      on_it b (suc k) zero is at_n = elim (eqb_tells (suc k) zero) [ inl hit ↦ absurd (omega (arith, hit.1)) | inr miss ↦ rw miss.0 (same zero) ]
      on_it b (suc k) (suc m) is at_n = elim (eqb_tells (suc k) (suc m)) [
        | inl hit ↦
            let km : k ≡ m = omega (arith, hit.1) in
            rw hit.0 (subst (λ z. O.next (w (suc z)) e.request e.stamp.0 ≡ at (on_number O p.objects (suc k) e) (suc z)) km (hits k (slice_get p.objects k) refl (make_place b k is at_n)))
        | inr miss ↦ rw miss.0 (misses k m (slice_get p.objects k) (make_place b k is at_n) (λ z. miss.1 (ap suc z)))
      ]

      by_number : (o : Option AllocNo) → e.alloc ≡ o → (if names o a then O.next (w a) e.request e.stamp.0 else w a) ≡ at (objects_after O p.objects o e) a
      by_number None is = w_is a
      by_number (Some b) is = on_it b b.0 a is refl
