-- The numbers that a replay draws: stamps above the limit, allocation numbers and thread numbers.
use Rattle.std.proofs.Common.{◌≡◌, ℕ, zero, suc, ◌+◌, ◌<◌, ◌≤◌, Bool, true, false, cond, List, [], ◌∷◌, ◌++◌, refl, sym, ◌∙◌, ap, subst, inl, inr, arith, length, append-nil}
use Rattle.std.specs.Prelude.{Some, None, slice_get, slice_set, unwrap_or, ◌⊎◌, if◌then◌else◌, IsPermutation, count_by}
use Rattle.std.specs.List.{flat_map}
use Rattle.std.specs.declared.option.Option.{Option}
use Rattle.std.proofs.lemmas.List.Sorted.{IsPermutation-sym, IsPermutation-trans, IsPermutation-append_left, IsPermutation-append_comm, length_permutation}
use Rattle.bsan_ids.specs.declared.numbers.Counters.{Counters}
use Rattle.bsan_ids.specs.declared.numbers.Limits.{Limits}
use Rattle.history.specs.declared.ask.Ask.{Ask}
use Rattle.history.specs.declared.ask.Ask.TheVariants as ask
use Rattle.history.specs.declared.entry.Entry.{Entry}
use Rattle.history.specs.declared.entry.Plain.{Plain}
use Rattle.history.specs.declared.entry.Reply.{Reply}
use Rattle.history.specs.declared.entry.Request.{Request}
use Rattle.history.specs.declared.entry.Request.TheVariants as request
use Rattle.history.specs.declared.trap.Trap.TheVariants as trap
use Rattle.history.specs.declared.log.End.{End}
use Rattle.history.specs.declared.log.End.TheVariants as log_end
use Rattle.runs.specs.Machine.{Machine, Memory}
use Rattle.runs.specs.Threads.{EndsAs}
use Rattle.runs.specs.Interleaving.{Allowed}
use Rattle.history.specs.Histories.{is_make_step}
use Rattle.runs.specs.Right.{beyond_of, counting_from, made_by, spawned_by_reply, alloc_limit_of, thread_limit_of, is_spawn, asks_make, asks_spawn}
use Rattle.runs.specs.Replay.{Fiber, Progress, Steps, object_at, IsOwnEnd, RestsAs, RepliesNext, EndsNext, drawn_by, drawn_by_end, new_fibers, picked}
use Rattle.runs.specs.ReplayLaw.{makes, MakesAlone}
use Rattle.runs.proofs.FiberLists.{gained, gained_none, gained_last, total, total_set, total_more, Drawn, drawn_more, drawn_one, drawn_moved, counting_more, count_more, told_more, length_more}
use Rattle.runs.proofs.ReplayState.{object_past}
use Rattle.runs.proofs.ReplayStep.{drawn_stamps}

abbrev pub beyond_at : (M : Machine) → Fiber M → List ℕ
beyond_at M f = beyond_of (unwrap_or f.«end» log_end.NoMemory)

abbrev pub told_in : (Plain → List ℕ) → List Entry → List ℕ
told_in k es = flat_map (λ (e : Entry). k e.reply.plain) es

abbrev pub allocs_at : (M : Machine) → Fiber M → List ℕ
allocs_at M f = told_in made_by f.entries ++ alloc_limit_of (unwrap_or f.«end» log_end.NoMemory)

abbrev pub threads_at : (M : Machine) → Fiber M → List ℕ
threads_at M f = told_in spawned_by_reply f.entries ++ thread_limit_of (unwrap_or f.«end» log_end.NoMemory)

abbrev pub ended_by : (Ask → Bool) → Ask → Option End → ℕ
ended_by asks a None = 0
ended_by asks a (Some e) = if asks a then 1 else 0

abbrev pub ended_at : (M : Machine) → (Ask → Bool) → Fiber M → ℕ
ended_at M asks f = ended_by asks (M.ask f.state) f.«end»

abbrev pub beyond_in : (M : Machine) → List (Fiber M) → List ℕ
beyond_in M fs = flat_map (λ f. beyond_at M f) fs

pub record Sums (M : Machine) (O : Memory) (limits : Limits) (p : Progress M O) : Type 0 where
  pub stamps : p.words.stamps ≡ length p.merge + length (beyond_in M p.threads)
  pub above : IsPermutation (beyond_in M p.threads) (counting_from (limits.steps + 1) (length (beyond_in M p.threads)))
  pub full : 0 < length (beyond_in M p.threads) → length p.merge ≡ limits.steps
  pub within : length p.merge ≤ limits.steps
  pub allocs : p.words.allocs ≤ count_by is_make_step p.merge + total (λ f. ended_at M asks_make f) p.threads
  pub threads : p.words.threads ≤ count_by is_spawn p.merge + total (λ f. ended_at M asks_spawn f) p.threads
  pub made : Drawn p.words.allocs (flat_map (λ f. allocs_at M f) p.threads)
  pub spawned : Drawn p.words.threads (flat_map (λ f. threads_at M f) p.threads)

-- a list of drawn numbers after a pick: the same, or with the next number
abbrev pub NextOrNone : ℕ → ℕ → List ℕ → Type 0
NextOrNone n m ns = ((ns ≡ []) × (n ≤ m)) ⊎ ((ns ≡ (n + 1) ∷ []) × (m ≡ n + 1))

pub drawn_next : (n m : ℕ) (ns xs ys : List ℕ) → NextOrNone n m ns → IsPermutation (ns ++ xs) ys → Drawn n xs → Drawn m ys
drawn_next n m ns xs ys (inl none) p d =
    drawn_more n m ys none.1 (drawn_moved n xs ys (subst (λ l. IsPermutation (l ++ xs) ys) none.0 p) d)
drawn_next n m ns xs ys (inr next) p d =
    subst (λ k. Drawn k ys) (sym next.1) (drawn_moved (n + 1) ((n + 1) ∷ xs) ys (subst (λ l. IsPermutation (l ++ xs) ys) next.0 p) (drawn_one n xs d))

-- the stamps of an end: none, or the next one, above the limit
abbrev pub EndStamps : Limits → Counters → End → Counters → Type 0
EndStamps limits words why after =
    ((beyond_of why ≡ []) × (after.stamps ≡ words.stamps)) ⊎ ((beyond_of why ≡ (words.stamps + 1) ∷ []) × (after.stamps ≡ words.stamps + 1) × (limits.steps < words.stamps + 1))

-- a pick without a step draws what its end says, or nothing
pub record Draws (M : Machine) (O : Memory) (limits : Limits) (p : Progress M O) (now : M.State) (why : Option End) (words : Counters) : Type 0 where
  pub stamps : EndStamps limits p.words (unwrap_or why log_end.NoMemory) words
  pub allocs : words.allocs ≤ p.words.allocs + ended_by asks_make (M.ask now) why
  pub threads : words.threads ≤ p.words.threads + ended_by asks_spawn (M.ask now) why
  pub alloc_numbers : NextOrNone p.words.allocs words.allocs (alloc_limit_of (unwrap_or why log_end.NoMemory))
  pub thread_numbers : NextOrNone p.words.threads words.threads (thread_limit_of (unwrap_or why log_end.NoMemory))

-- what an end draws ------------------------------------------------------------------

module _ (M : Machine) (O : Memory) (limits : Limits) (p : Progress M O) where
  end_allocs : (a : Ask) (why : End) → EndsNext M O limits p a why → (drawn_by_end p.words a why).allocs ≤ p.words.allocs + ended_by asks_make a (Some why)
  end_allocs (ask.Make size place) (log_end.StepLimit s) h = omega arith
  end_allocs (ask.Spawn f) (log_end.StepLimit s) h = omega arith
  end_allocs _ (log_end.StepLimit s) h = omega arith
  end_allocs (ask.Make size place) (log_end.Trapped (trap.AllocLimit d)) h = omega arith
  end_allocs _ (log_end.Trapped (trap.AllocLimit d)) h = absurd h.0
  end_allocs a (log_end.Trapped (trap.ThreadLimit d)) h = omega arith
  end_allocs a (log_end.Trapped _) h = omega arith
  end_allocs a _ h = omega arith

  end_threads : (a : Ask) (why : End) → EndsNext M O limits p a why → (drawn_by_end p.words a why).threads ≤ p.words.threads + ended_by asks_spawn a (Some why)
  end_threads (ask.Make size place) (log_end.StepLimit s) h = omega arith
  end_threads (ask.Spawn f) (log_end.StepLimit s) h = omega arith
  end_threads _ (log_end.StepLimit s) h = omega arith
  end_threads (ask.Spawn f) (log_end.Trapped (trap.ThreadLimit d)) h = omega arith
  end_threads _ (log_end.Trapped (trap.ThreadLimit d)) h = absurd h.0
  end_threads a (log_end.Trapped (trap.AllocLimit d)) h = omega arith
  end_threads a (log_end.Trapped _) h = omega arith
  end_threads a _ h = omega arith

  end_alloc_numbers : (a : Ask) (why : End) → EndsNext M O limits p a why → NextOrNone p.words.allocs (drawn_by_end p.words a why).allocs (alloc_limit_of why)
  end_alloc_numbers (ask.Make size place) (log_end.StepLimit s) h = inl (refl, omega arith)
  end_alloc_numbers (ask.Spawn f) (log_end.StepLimit s) h = inl (refl, omega arith)
  end_alloc_numbers _ (log_end.StepLimit s) h = inl (refl, omega arith)
  end_alloc_numbers a (log_end.Trapped (trap.AllocLimit d)) h = inr (ap (λ n. n ∷ []) h.1, refl)
  end_alloc_numbers a (log_end.Trapped (trap.ThreadLimit d)) h = inl (refl, omega arith)
  end_alloc_numbers a (log_end.Trapped _) h = inl (refl, omega arith)
  end_alloc_numbers a _ h = inl (refl, omega arith)

  end_thread_numbers : (a : Ask) (why : End) → EndsNext M O limits p a why → NextOrNone p.words.threads (drawn_by_end p.words a why).threads (thread_limit_of why)
  end_thread_numbers (ask.Make size place) (log_end.StepLimit s) h = inl (refl, omega arith)
  end_thread_numbers (ask.Spawn f) (log_end.StepLimit s) h = inl (refl, omega arith)
  end_thread_numbers _ (log_end.StepLimit s) h = inl (refl, omega arith)
  end_thread_numbers a (log_end.Trapped (trap.ThreadLimit d)) h = inr (ap (λ n. n ∷ []) h.1, refl)
  end_thread_numbers a (log_end.Trapped (trap.AllocLimit d)) h = inl (refl, omega arith)
  end_thread_numbers a (log_end.Trapped _) h = inl (refl, omega arith)
  end_thread_numbers a _ h = inl (refl, omega arith)

  end_stamps : (now : M.State) (why : End) → EndsAs M limits now why → EndsNext M O limits p (M.ask now) why → EndStamps limits p.words why (drawn_by_end p.words (M.ask now) why)
  end_stamps now (log_end.StepLimit s) ends h = inr (ap (λ n. n ∷ []) h.0, by_ask (M.ask now), (let l = ends.1 in omega (arith, l, h.0)))
    where
      by_ask : (a : Ask) → (drawn_by_end p.words a (log_end.StepLimit s)).stamps ≡ p.words.stamps + 1
      by_ask (ask.Make size place) = refl
      by_ask (ask.Spawn f) = refl
      by_ask _ = refl
  end_stamps now (log_end.Trapped (trap.AllocLimit d)) ends h = inl (refl, refl)
  end_stamps now (log_end.Trapped (trap.ThreadLimit d)) ends h = inl (refl, refl)
  end_stamps now (log_end.Trapped _) ends h = inl (refl, refl)
  end_stamps now _ ends h = inl (refl, refl)

-- the stamps above the limit with one more
one_more_above : (limit m s : ℕ) (xs ys : List ℕ) → IsPermutation xs (counting_from (limit + 1) (length xs)) → IsPermutation (s ∷ xs) ys → s ≡ limit + 1 + length xs
    → IsPermutation ys (counting_from (limit + 1) (length ys))
one_more_above limit m s xs ys h p is =
    let long : length ys ≡ suc (length xs) = length_permutation (s ∷ xs) ys p in
    let all : counting_from (limit + 1) (length xs) ++ s ∷ [] ≡ counting_from (limit + 1) (suc (length xs)) =
    ap (λ n. counting_from (limit + 1) (length xs) ++ n ∷ []) is ∙ counting_more (limit + 1) (length xs) in
    let last : IsPermutation (xs ++ s ∷ []) (counting_from (limit + 1) (length xs) ++ s ∷ []) = IsPermutation-append_left (s ∷ []) xs (counting_from (limit + 1) (length xs)) h in
    let moved : IsPermutation (s ∷ xs) (xs ++ s ∷ []) = IsPermutation-append_comm (s ∷ []) xs in
    subst (λ n. IsPermutation ys (counting_from (limit + 1) n)) (sym long)
    (subst (λ l. IsPermutation ys l) all (IsPermutation-trans ys (s ∷ xs) _ (IsPermutation-sym (s ∷ xs) ys p) (IsPermutation-trans (s ∷ xs) (xs ++ s ∷ []) _ moved last)))

-- at a stamp above the limit the merge is full
is_full : (limit m b : ℕ) → m ≤ limit → limit < m + b + 1 → (0 < b → m ≡ limit) → m ≡ limit
is_full limit m zero le less full = omega (arith, le, less)
is_full limit m (suc b) le less full = full (omega arith)

pub waits_draw : (M : Machine) (O : Memory) (limits : Limits) (p : Progress M O) (now : M.State) → Draws M O limits p now None p.words
waits_draw M O limits p now = record { stamps = inl (refl, refl); allocs = omega arith; threads = omega arith; alloc_numbers = inl (refl, omega arith); thread_numbers = inl (refl, omega arith) }

pub end_draws : (M : Machine) (O : Memory) (limits : Limits) (p : Progress M O) (now : M.State) (why : End) → EndsAs M limits now why → EndsNext M O limits p (M.ask now) why
    → Draws M O limits p now (Some why) (drawn_by_end p.words (M.ask now) why)
end_draws M O limits p now why ends h = record {
  stamps = end_stamps M O limits p now why ends h;
  allocs = end_allocs M O limits p (M.ask now) why h;
  threads = end_threads M O limits p (M.ask now) why h;
  alloc_numbers = end_alloc_numbers M O limits p (M.ask now) why h;
  thread_numbers = end_thread_numbers M O limits p (M.ask now) why h;
}

no_more : {A : Type 0} (xs ns : List A) → (xs ++ []) ++ ns ≡ xs ++ ns
no_more xs ns = ap (λ l. l ++ ns) (append-nil xs)

-- the numbers of a fiber that ends are those of its entries and of its end
ended_numbers : (k : End → List ℕ) (xs : List ℕ) (o : Option End) (why : End) → k log_end.NoMemory ≡ [] → o ≡ None → xs ++ k why ≡ (xs ++ k (unwrap_or o log_end.NoMemory)) ++ k why
ended_numbers k xs o why none is = sym (ap (λ e. (xs ++ k (unwrap_or e log_end.NoMemory)) ++ k why) is ∙ ap (λ l. (xs ++ l) ++ k why) none ∙ no_more xs (k why))

pub sums_aside : (M : Machine) (O : Memory) (limits : Limits) (p : Progress M O) (t : ℕ) (f : Fiber M) (now : M.State) (why : Option End) (words : Counters)
    → Sums M O limits p → slice_get p.threads t ≡ Some f → f.«end» ≡ None → Draws M O limits p now why words
    → Sums M O limits (record p { threads = slice_set p.threads t (record f { state = now; «end» = why }); words = words })
sums_aside M O limits p t f now why words s at opened d =
    let f' : Fiber M = record f { state = now; «end» = why } in
    let fs : List (Fiber M) = slice_set p.threads t f' in
    let last : End = unwrap_or why log_end.NoMemory in
    let gained_beyond : IsPermutation (beyond_of last ++ beyond_in M p.threads) (beyond_in M fs) = gained (λ (k : Fiber M). beyond_at M k) p.threads t f f' (beyond_of last) at (ap (λ e. beyond_of (unwrap_or e log_end.NoMemory) ++ beyond_of last) (sym opened)) in
    let gained_allocs : IsPermutation (alloc_limit_of last ++ flat_map (λ (k : Fiber M). allocs_at M k) p.threads) (flat_map (λ (k : Fiber M). allocs_at M k) fs) = gained (λ (k : Fiber M). allocs_at M k) p.threads t f f' (alloc_limit_of last) at (ended_numbers alloc_limit_of (told_in made_by f.entries) f.«end» last refl opened) in
    let gained_threads : IsPermutation (thread_limit_of last ++ flat_map (λ (k : Fiber M). threads_at M k) p.threads) (flat_map (λ (k : Fiber M). threads_at M k) fs) = gained (λ (k : Fiber M). threads_at M k) p.threads t f f' (thread_limit_of last) at (ended_numbers thread_limit_of (told_in spawned_by_reply f.entries) f.«end» last refl opened) in
    let none_make : ended_at M asks_make f ≡ 0 = ap (ended_by asks_make (M.ask f.state)) opened in
    let none_spawn : ended_at M asks_spawn f ≡ 0 = ap (ended_by asks_spawn (M.ask f.state)) opened in
    let total_make = total_set (λ (k : Fiber M). ended_at M asks_make k) p.threads t f f' at in
    let total_spawn = total_set (λ (k : Fiber M). ended_at M asks_spawn k) p.threads t f f' at in
    let long : length (beyond_in M fs) ≡ length (beyond_of last ++ beyond_in M p.threads) = length_permutation _ _ gained_beyond in
    let fullness : (0 < length (beyond_in M p.threads) → length p.merge ≡ limits.steps) = s.full in
    record {
      stamps = elim d.stamps [
        | inl none ↦ (let b = long ∙ ap (λ l. length (l ++ beyond_in M p.threads)) none.0 in let n = s.stamps in omega (arith, b, n, none.1))
        | inr next ↦ (let b = long ∙ ap (λ l. length (l ++ beyond_in M p.threads)) next.0 in let n = s.stamps in omega (arith, b, n, next.1))
      ];
      above = elim d.stamps [
        | inl none ↦
            let moved : IsPermutation (beyond_in M p.threads) (beyond_in M fs) = subst (λ l. IsPermutation (l ++ beyond_in M p.threads) (beyond_in M fs)) none.0 gained_beyond in
            subst (λ n. IsPermutation (beyond_in M fs) (counting_from (limits.steps + 1) n)) (sym (long ∙ ap (λ l. length (l ++ beyond_in M p.threads)) none.0))
            (IsPermutation-trans _ _ _ (IsPermutation-sym _ _ moved) s.above)
        | inr next ↦
            let moved : IsPermutation ((p.words.stamps + 1) ∷ beyond_in M p.threads) (beyond_in M fs) = subst (λ l. IsPermutation (l ++ beyond_in M p.threads) (beyond_in M fs)) next.0 gained_beyond in
            let n = s.stamps in
            let w = s.within in
            let m : length p.merge ≡ limits.steps = is_full limits.steps (length p.merge) (length (beyond_in M p.threads)) w (omega (arith, n, next.2)) fullness in
            one_more_above limits.steps 0 (p.words.stamps + 1) (beyond_in M p.threads) (beyond_in M fs) s.above moved (omega (arith, n, m))
      ];
      full = λ some. elim d.stamps [
        | inl none ↦ (let b = long ∙ ap (λ l. length (l ++ beyond_in M p.threads)) none.0 in s.full (omega (arith, some, b)))
        | inr next ↦ (let n = s.stamps in is_full limits.steps (length p.merge) (length (beyond_in M p.threads)) s.within (omega (arith, n, next.2)) fullness)
      ];
      within = s.within;
      allocs = (let n = s.allocs in let more = d.allocs in omega (arith, n, more, none_make, total_make));
      threads = (let n = s.threads in let more = d.threads in omega (arith, n, more, none_spawn, total_spawn));
      made = drawn_next p.words.allocs words.allocs (alloc_limit_of last) _ _ d.alloc_numbers gained_allocs s.made;
      spawned = drawn_next p.words.threads words.threads (thread_limit_of last) _ _ d.thread_numbers gained_threads s.spawned;
    }

-- a step --------------------------------------------------------------------------------

new_none : (M : Machine) (g : Fiber M → List ℕ) (t : ℕ) (child : M.State) (r : Request) (fs : List (Fiber M))
    → ((k : ℕ) → g (record { parent = Some (record { 0 = t }); function = k; state = child; entries = []; «end» = None }) ≡ []) → flat_map g (fs ++ new_fibers M t child r) ≡ flat_map g fs
new_none M g t child (request.Spawn k) fs none = gained_last g fs _ (none k)
new_none M g t child _ fs none = ap (flat_map g) (append-nil fs)

new_total : (M : Machine) (h : Fiber M → ℕ) (t : ℕ) (child : M.State) (r : Request) (fs : List (Fiber M))
    → ((k : ℕ) → h (record { parent = Some (record { 0 = t }); function = k; state = child; entries = []; «end» = None }) ≡ 0) → total h (fs ++ new_fibers M t child r) ≡ total h fs
new_total M h t child (request.Spawn k) fs none = let more = total_more h fs (record { parent = Some (record { 0 = t }); function = k; state = child; entries = []; «end» = None }) in let n = none k in omega (arith, more, n)
new_total M h t child _ fs none = ap (total h) (append-nil fs)

pub is_make_is : (e : Entry) (r : Request) → is_make_step (record e { request = r }) ≡ makes r
is_make_is e (request.Make size place) = refl
is_make_is e _ = refl

abbrev pub spawns : Request → Bool
spawns (request.Spawn f) = true
spawns other = false

pub is_spawn_is : (e : Entry) (r : Request) → is_spawn (record e { request = r }) ≡ spawns r
is_spawn_is e (request.Spawn f) = refl
is_spawn_is e _ = refl

drawn_threads : (words : Counters) (r : Request) → (drawn_by words r).threads ≡ words.threads + cond (spawns r) 1 0
drawn_threads words (request.Make size place) = omega arith
drawn_threads words (request.Spawn k) = refl
drawn_threads words _ = omega arith

drawn_made : (words : Counters) (r : Request) → (drawn_by words r).allocs ≡ words.allocs + cond (makes r) 1 0
drawn_made words (request.Make size place) = refl
drawn_made words (request.Spawn k) = omega arith
drawn_made words _ = omega arith

plain_of : (r : Reply) → Plain
plain_of r = r.plain

module _ (M : Machine) (O : Memory) (A : Allowed) (p : Progress M O) (laws : MakesAlone O) (few : length p.objects ≤ p.words.allocs) where
  step_allocs : (e : Entry) (r : Request) → e.request ≡ r → RepliesNext M O A p e r → NextOrNone p.words.allocs (drawn_by p.words r).allocs (made_by e.reply.plain)
  step_allocs e (request.Make size place) is h =
      let a = p.words.allocs + 1 in
      let reply : e.reply ≡ O.reply (O.unmade a) (request.Make size place) e.stamp.0 = h.1 ∙ ap (λ o. O.reply o e.request e.stamp.0) (object_past M O p a (omega (arith, few))) ∙ ap (λ q. O.reply (O.unmade a) q e.stamp.0) is in
      inr (ap (λ (y : Reply). made_by y.plain) reply ∙ ap made_by (laws.number a size e.stamp.0 place), refl)
  step_allocs e (request.Print v) is h = inl (ap (λ (y : Reply). made_by y.plain) h, omega arith)
  step_allocs e (request.Host n a b) is h = inl (ap (λ (y : Reply). made_by y.plain) h.2, omega arith)
  step_allocs e (request.Spawn f) is h = inl (ap (λ (y : Reply). made_by y.plain) h, omega arith)
  step_allocs e (request.Join c) is h = inl (ap (λ (y : Reply). made_by y.plain) h.3, omega arith)
  step_allocs e _ is h = inl (ap (λ (y : Reply). made_by y.plain) h.2 ∙ laws.others (object_at M O p h.0.0) e.request e.stamp.0 (ap makes is), omega arith)

  step_threads : (e : Entry) (r : Request) → e.request ≡ r → RepliesNext M O A p e r → NextOrNone p.words.threads (drawn_by p.words r).threads (spawned_by_reply e.reply.plain)
  step_threads e (request.Make size place) is h = inl (ap (λ (y : Reply). spawned_by_reply y.plain) h.1 ∙ laws.no_thread (object_at M O p (p.words.allocs + 1)) e.request e.stamp.0, omega arith)
  step_threads e (request.Print v) is h = inl (ap (λ (y : Reply). spawned_by_reply y.plain) h, omega arith)
  step_threads e (request.Host n a b) is h = inl (ap (λ (y : Reply). spawned_by_reply y.plain) h.2, omega arith)
  step_threads e (request.Spawn f) is h = inr (ap (λ (y : Reply). spawned_by_reply y.plain) h, refl)
  step_threads e (request.Join c) is h = inl (ap (λ (y : Reply). spawned_by_reply y.plain) h.3, omega arith)
  step_threads e _ is h = inl (ap (λ (y : Reply). spawned_by_reply y.plain) h.2 ∙ laws.no_thread (object_at M O p h.0.0) e.request e.stamp.0, omega arith)

-- a fiber that goes on has the numbers of one entry more
more_numbers : (k : Plain → List ℕ) (limit : End → List ℕ) (es : List Entry) (e : Entry) (o : Option End) → limit log_end.NoMemory ≡ [] → o ≡ None
    → told_in k (es ++ e ∷ []) ++ limit (unwrap_or o log_end.NoMemory) ≡ (told_in k es ++ limit (unwrap_or o log_end.NoMemory)) ++ k e.reply.plain
more_numbers k limit es e o none is =
    let empty : limit (unwrap_or o log_end.NoMemory) ≡ [] = ap (λ x. limit (unwrap_or x log_end.NoMemory)) is ∙ none in
    ap (λ l. told_in k (es ++ e ∷ []) ++ l) empty ∙ append-nil (told_in k (es ++ e ∷ [])) ∙ told_more k es e
    ∙ sym (ap (λ l. (told_in k es ++ l) ++ k e.reply.plain) empty ∙ no_more (told_in k es) (k e.reply.plain))

-- with no stamp above the limit the stamps are the entries
pub none_beyond : (limit m b stamps : ℕ) → stamps ≡ m + b → stamps < limit → (0 < b → m ≡ limit) → b ≡ 0
none_beyond limit m zero stamps is less full = refl
none_beyond limit m (suc b) stamps is less full = let m_is = full (omega arith) in absurd (omega (arith, is, less, m_is))

-- an end that comes of the thread's own state carries no number
record CarriesNone (why : End) : Type 0 where
  beyond : beyond_of why ≡ []
  allocs : alloc_limit_of why ≡ []
  threads : thread_limit_of why ≡ []

own_carries_none : (why : End) → IsOwnEnd why → CarriesNone why
own_carries_none (log_end.Returned v p) own = record { beyond = refl; allocs = refl; threads = refl }
own_carries_none (log_end.Trapped (trap.AllocLimit d)) own = absurd own
own_carries_none (log_end.Trapped (trap.ThreadLimit d)) own = absurd own
own_carries_none (log_end.Trapped _) own = record { beyond = refl; allocs = refl; threads = refl }
own_carries_none (log_end.StepLimit s) own = absurd own
own_carries_none log_end.TurnLimit own = record { beyond = refl; allocs = refl; threads = refl }
own_carries_none log_end.NoMemory own = record { beyond = refl; allocs = refl; threads = refl }
own_carries_none (log_end.ChildEnded c) own = absurd own

rest_carries_none : (M : Machine) (limits : Limits) (s : M.State) (over : Option End) → RestsAs M limits s over → CarriesNone (unwrap_or over log_end.NoMemory)
rest_carries_none M limits s None rests = own_carries_none log_end.NoMemory tt
rest_carries_none M limits s (Some why) rests = own_carries_none why rests.0

-- a fiber that goes on, or ends of itself, has the numbers of one entry more
rest_numbers : (k : Plain → List ℕ) (limit : End → List ℕ) (es : List Entry) (e : Entry) (o over : Option End) → limit log_end.NoMemory ≡ [] → o ≡ None → limit (unwrap_or over log_end.NoMemory) ≡ []
    → told_in k (es ++ e ∷ []) ++ limit (unwrap_or over log_end.NoMemory) ≡ (told_in k es ++ limit (unwrap_or o log_end.NoMemory)) ++ k e.reply.plain
rest_numbers k limit es e o over none is off =
    ap (λ l. told_in k (es ++ e ∷ []) ++ l) (off ∙ sym none ∙ ap (λ x. limit (unwrap_or x log_end.NoMemory)) (sym is)) ∙ more_numbers k limit es e o none is

pub sums_step : (M : Machine) (O : Memory) (A : Allowed) (limits : Limits) (p : Progress M O) (t : ℕ) (f : Fiber M) (now : M.State) (e : Entry) (over : Option End)
    → MakesAlone O → length p.objects ≤ p.words.allocs → Sums M O limits p → slice_get p.threads t ≡ Some f → f.«end» ≡ None
    → p.words.stamps < limits.steps → RepliesNext M O A p e e.request → RestsAs M limits (M.after now e) over → Sums M O limits (picked M O p t f (Steps now e over))
sums_step M O A limits p t f now e over laws few s at opened less next rests =
    let f' : Fiber M = record f { state = M.after now e; entries = f.entries ++ e ∷ []; «end» = over } in
    let carries = rest_carries_none M limits (M.after now e) over rests in
    let child = M.child now in
    let fs : List (Fiber M) = slice_set p.threads t f' in
    let gs : List (Fiber M) = fs ++ new_fibers M t child e.request in
    let beyond : beyond_in M gs ≡ beyond_in M p.threads = new_none M (λ k. beyond_at M k) t child e.request fs (λ k. refl) ∙ gained_none (λ (k : Fiber M). beyond_at M k) p.threads t f f' at (carries.beyond ∙ ap (λ o. beyond_of (unwrap_or o log_end.NoMemory)) (sym opened)) in
    let none : length (beyond_in M p.threads) ≡ 0 = none_beyond limits.steps (length p.merge) (length (beyond_in M p.threads)) p.words.stamps s.stamps less s.full in
    let long : length (p.merge ++ e ∷ []) ≡ length p.merge + 1 = length_more p.merge e in
    let gained_allocs : IsPermutation (made_by e.reply.plain ++ flat_map (λ (k : Fiber M). allocs_at M k) p.threads) (flat_map (λ (k : Fiber M). allocs_at M k) gs) = subst
    (λ l. IsPermutation (made_by e.reply.plain ++ flat_map (λ (k : Fiber M). allocs_at M k) p.threads) l) (sym (new_none M (λ k. allocs_at M k) t child e.request fs (λ k. refl)))
    (gained (λ (k : Fiber M). allocs_at M k) p.threads t f f' (made_by e.reply.plain) at (rest_numbers made_by alloc_limit_of f.entries e f.«end» over refl opened carries.allocs)) in
    let gained_threads : IsPermutation (spawned_by_reply e.reply.plain ++ flat_map (λ (k : Fiber M). threads_at M k) p.threads) (flat_map (λ (k : Fiber M). threads_at M k) gs) = subst
    (λ l. IsPermutation (spawned_by_reply e.reply.plain ++ flat_map (λ (k : Fiber M). threads_at M k) p.threads) l) (sym (new_none M (λ k. threads_at M k) t child e.request fs (λ k. refl)))
    (gained (λ (k : Fiber M). threads_at M k) p.threads t f f' (spawned_by_reply e.reply.plain) at (rest_numbers spawned_by_reply thread_limit_of f.entries e f.«end» over refl opened carries.threads)) in
    let none_make : ended_at M asks_make f ≡ 0 = ap (ended_by asks_make (M.ask f.state)) opened in
    let none_spawn : ended_at M asks_spawn f ≡ 0 = ap (ended_by asks_spawn (M.ask f.state)) opened in
    let total_make = total_set (λ (k : Fiber M). ended_at M asks_make k) p.threads t f f' at in
    let total_spawn = total_set (λ (k : Fiber M). ended_at M asks_spawn k) p.threads t f f' at in
    let new_make = new_total M (λ k. ended_at M asks_make k) t child e.request fs (λ k. refl) in
    let new_spawn = new_total M (λ k. ended_at M asks_spawn k) t child e.request fs (λ k. refl) in
    let count_make = count_more is_make_step p.merge e ∙ ap (λ b. count_by is_make_step p.merge + cond b 1 0) (is_make_is e e.request) in
    let count_spawn = count_more is_spawn p.merge e ∙ ap (λ b. count_by is_spawn p.merge + cond b 1 0) (is_spawn_is e e.request) in
    record {
      stamps = (let a = s.stamps in let b = drawn_stamps p.words e.request in let c = ap length beyond in omega (arith, a, b, c, none, long));
      above = subst (λ l. IsPermutation l (counting_from (limits.steps + 1) (length l))) (sym beyond) s.above;
      full = λ some. (let c = ap length beyond in absurd (omega (arith, some, c, none)));
      within = (let a = s.stamps in omega (arith, a, none, long, less));
      allocs = (let a = s.allocs in let d = drawn_made p.words e.request in omega (arith, a, d, count_make, none_make, total_make, new_make));
      threads = (let a = s.threads in let d = drawn_threads p.words e.request in omega (arith, a, d, count_spawn, none_spawn, total_spawn, new_spawn));
      made = drawn_next p.words.allocs _ (made_by e.reply.plain) _ _ (step_allocs M O A p laws few e e.request refl next) gained_allocs s.made;
      spawned = drawn_next p.words.threads _ (spawned_by_reply e.reply.plain) _ _ (step_threads M O A p laws few e e.request refl next) gained_threads s.spawned;
    }
