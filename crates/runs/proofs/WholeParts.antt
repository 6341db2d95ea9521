-- Parts of the law of whole runs: first states by a list, sums of stamps and of numbers, and what replies name.
use Rattle.std.proofs.Common.{◌≡◌, ◌≢◌, ℕ, ◌+◌, ◌<◌, ◌≤◌, Bool, true, false, cond, List, [], ◌∷◌, ◌++◌, refl, sym, ◌∙◌, ap, subst, inl, inr, arith, map, length, sum_by}
use Rattle.std.specs.Prelude.{◌⊎◌, ◌==◌, Some, None, if◌then◌else◌}
use Rattle.std.specs.List.{flat_map}
use Rattle.std.specs.declared.option.Option.{Option}
use Rattle.std.proofs.lemmas.Bool.{true≢false}
use Rattle.std.proofs.lemmas.Bool.Decides.{eqb_tells}
use Rattle.std.proofs.lemmas.List.{length-append}
use Rattle.std.proofs.lemmas.List.Sums.{sum_by-cons, sum_by-append}
use Rattle.history.specs.declared.entry.Entry.{Entry}
use Rattle.history.specs.declared.entry.Plain.{Plain}
use Rattle.history.specs.declared.entry.Plain.TheVariants as plain
use Rattle.history.specs.declared.entry.Reply.{Reply}
use Rattle.history.specs.declared.entry.Request.{Request}
use Rattle.history.specs.declared.entry.Request.TheVariants as request
use Rattle.history.specs.declared.log.AllocLog.{AllocLog}
use Rattle.history.specs.declared.log.End.{End}
use Rattle.history.specs.declared.log.ThreadLog.{ThreadLog}
use Rattle.runs.specs.Interleaving.{World, world_after, Allowed, Replies, Interleaves, Legal, MakesUnmade}
use Rattle.runs.specs.Machine.{Machine, Memory}
use Rattle.runs.specs.Merge.{all_entries, IsOwn, MayMerge, no_logs, one_more}
use Rattle.runs.specs.Parts.{Has, names, of_alloc, child_of, is_child, spawned_by, spawned_of}
use Rattle.runs.specs.ReplayLaw.{makes, MakesAlone}
use Rattle.runs.specs.Right.{AllocsRiseFrom, history_of, starts_thread, beyond, beyond_of, made_by, spawned_by_reply}
use Rattle.runs.specs.Stamps.{RisesFrom}
use Rattle.runs.specs.Tree.{stamps_of, started_by, Firsts, Agrees, first_numbers}
use Rattle.runs.proofs.Counting.{one_if}
use Rattle.runs.proofs.LogLists.{entry_weighs, log_weighs}
use Rattle.runs.proofs.ReplaySums.{spawns}
use Rattle.runs.proofs.Tying.{log_of_entry}
use Rattle.runs.proofs.Weights.{equals, equals_same, sum_map}

-- first states by a list in which each number stands once -------------------------------

module _ {S : Type 0} where
  abbrev pub first_in : Firsts S → S → ℕ → S
  first_in [] rest t = rest
  first_in (p ∷ ps) rest t = cond (t == p.0) p.1 (first_in ps rest t)

  agrees_same : (ps : Firsts S) (f g : ℕ → S) → ((c : ℕ) → 1 ≤ sum_by (equals c) (first_numbers ps) → f c ≡ g c) → Agrees g ps → Agrees f ps
  agrees_same [] f g same h = tt
  agrees_same (p ∷ ps) f g same h = (
    same p.0 (let one = equals_same p.0 in omega (arith, one, sum_by-cons (equals p.0) p.0 (first_numbers ps))) ∙ h.0,
    agrees_same ps f g (λ c le. same c (omega (arith, le, sum_by-cons (equals c) p.0 (first_numbers ps)))) h.1,
  )

  first_else : (p : ℕ × S) (ps : Firsts S) (rest : S) (c : ℕ) → c ≢ p.0 → first_in (p ∷ ps) rest c ≡ first_in ps rest c
  first_else p ps rest c apart = elim (eqb_tells c p.0) [ inl hit ↦ absurd (apart hit.1) | inr miss ↦ ap (λ b. cond b p.1 (first_in ps rest c)) miss.0 ]

  pub first_agrees : (ps : Firsts S) (rest : S) → ((c : ℕ) → sum_by (equals c) (first_numbers ps) ≤ 1) → Agrees (first_in ps rest) ps
  first_agrees [] rest once = tt
  first_agrees (p ∷ ps) rest once = (
    elim (eqb_tells p.0 p.0) [ inl hit ↦ ap (λ b. cond b p.1 (first_in ps rest p.0)) hit.0 | inr miss ↦ absurd (miss.1 refl) ],
    agrees_same ps (first_in (p ∷ ps) rest) (first_in ps rest)
        (λ c le. first_else p ps rest c (λ same.
        let o = once c in
        let one = equals_same c in
        let at : equals c p.0 ≡ equals c c = ap (equals c) (sym same) in
        omega (arith, le, o, one, at, sum_by-cons (equals c) p.0 (first_numbers ps))))
        (first_agrees ps rest (λ c. (let o = once c in omega (arith, o, sum_by-cons (equals c) p.0 (first_numbers ps))))),
  )

  pub first_none : (ps : Firsts S) (rest : S) (t : ℕ) → sum_by (equals t) (first_numbers ps) ≡ 0 → first_in ps rest t ≡ rest
  first_none [] rest t none = refl
  first_none (p ∷ ps) rest t none =
      let apart : t ≢ p.0 = λ same.
      (let one = equals_same t in
      let at : equals t p.0 ≡ equals t t = ap (equals t) (sym same) in
      omega (arith, none, one, at, sum_by-cons (equals t) p.0 (first_numbers ps))) in
      first_else p ps rest t apart ∙ first_none ps rest t (omega (arith, none, sum_by-cons (equals t) p.0 (first_numbers ps)))

-- sums over the entries of logs -----------------------------------------------------------

some_starts : (o : Option ℕ) (n : ℕ) → cond (is_child o n) 1 0 ≡ sum_by (equals n) (started_by o)
some_starts None n = refl
some_starts (Some c) n = let nothing : sum_by (equals n) [] ≡ 0 = refl in omega (arith, nothing, sum_by-cons (equals n) c [])

pub starts_weigh : (n : ℕ) (e : Entry) → one_if (starts_thread n) e ≡ sum_by (equals n) (started_by (child_of e))
starts_weigh n e = some_starts (child_of e) n

list_weigh : (w v : Entry → ℕ) (es : List Entry) → ((e : Entry) → Has es e → w e ≡ v e) → sum_by w es ≡ sum_by v es
list_weigh w v [] same = refl
list_weigh w v (e ∷ es) same =
    let here = same e (inl refl) in
    let more = list_weigh w v es (λ x h. same x (inr h)) in
    omega (arith, here, more, sum_by-cons w e es, sum_by-cons v e es)

pub entries_weigh : (w v : Entry → ℕ) (ls : List ThreadLog) → ((l : ThreadLog) (e : Entry) → Has ls l → Has l.entries e → w e ≡ v e) → sum_by w (all_entries ls) ≡ sum_by v (all_entries ls)
entries_weigh w v [] same = refl
entries_weigh w v (l ∷ ls) same =
    let here = list_weigh w v l.entries (λ e h. same l e (inl refl) h) in
    let more = entries_weigh w v ls (λ m e h g. same m e (inr h) g) in
    omega (arith, here, more, sum_by-append w l.entries (all_entries ls), sum_by-append v l.entries (all_entries ls))

pub list_less : (w v : Entry → ℕ) (es : List Entry) → ((e : Entry) → Has es e → w e ≤ v e) → sum_by w es ≤ sum_by v es
list_less w v [] less = omega arith
list_less w v (e ∷ es) less =
    let here = less e (inl refl) in
    let more = list_less w v es (λ x h. less x (inr h)) in
    omega (arith, here, more, sum_by-cons w e es, sum_by-cons v e es)

pub zero_weigh : (es : List Entry) → sum_by (λ (e : Entry). 0) es ≡ 0
zero_weigh [] = refl
zero_weigh (e ∷ es) = let more = zero_weigh es in omega (arith, more, sum_by-cons (λ (x : Entry). 0) e es)

-- stamps of entries, and stamps above the limit
pub stamps_weigh : (h : ℕ → ℕ) (ls : List ThreadLog) → sum_by h (flat_map stamps_of ls) ≡ sum_by (λ (e : Entry). h e.stamp.0) (all_entries ls) + sum_by h (beyond ls)
stamps_weigh h [] = let nothing : sum_by h [] ≡ 0 = refl in let none : sum_by (λ (e : Entry). h e.stamp.0) [] ≡ 0 = refl in omega (arith, nothing, none)
stamps_weigh h (l ∷ ls) =
    let more = stamps_weigh h ls in
    omega (
      arith,
      more,
      sum_by-append h (stamps_of l) (flat_map stamps_of ls),
      sum_by-append h (map (λ (e : Entry). e.stamp.0) l.entries) (beyond_of l.«end»),
      sum_map h (λ (e : Entry). e.stamp.0) l.entries,
      sum_by-append (λ (e : Entry). h e.stamp.0) l.entries (all_entries ls),
      sum_by-append h (beyond_of l.«end») (beyond ls),
    )

pub beyond_weigh : (h k : ℕ → ℕ) (ls : List ThreadLog) → ((l : ThreadLog) → Has ls l → sum_by h (beyond_of l.«end») ≡ sum_by k (beyond_of l.«end»)) → sum_by h (beyond ls) ≡ sum_by k (beyond ls)
beyond_weigh h k [] same = refl
beyond_weigh h k (l ∷ ls) same =
    let here = same l (inl refl) in
    let more = beyond_weigh h k ls (λ m g. same m (inr g)) in
    omega (arith, here, more, sum_by-append h (beyond_of l.«end») (beyond ls), sum_by-append k (beyond_of l.«end») (beyond ls))

pub nothing_weighs : (xs : List ℕ) → sum_by (λ (n : ℕ). 0) xs ≡ 0
nothing_weighs [] = refl
nothing_weighs (x ∷ xs) = let more = nothing_weighs xs in omega (arith, more, sum_by-cons (λ (n : ℕ). 0) x xs)

-- logs of which no stamp stands twice may merge
pub once_may_merge : (ls : List ThreadLog) → ((l : ThreadLog) → Has ls l → IsOwn l.number.0 l.entries × RisesFrom 0 l.entries) → ((s : ℕ) → sum_by (λ (e : Entry). equals s e.stamp.0) (all_entries ls) ≤ 1) → MayMerge ls
once_may_merge [] each once = no_logs
once_may_merge (l ∷ ls) each once = one_more (each l (inl refl)).0 (each l (inl refl)).1
    (λ x y hx hy same.
    let w : Entry → ℕ = λ e. equals x.stamp.0 e.stamp.0 in
    let a = entry_weighs w l.entries x hx in
    let s = equals_same x.stamp.0 in
    let f = log_of_entry ls y hy in
    let b = log_weighs w ls f.0 y f.1 f.2 in
    let c : equals x.stamp.0 y.stamp.0 ≡ equals x.stamp.0 x.stamp.0 = ap (equals x.stamp.0) same in
    let d = once x.stamp.0 in
    omega (arith, a, s, b, c, d, sum_by-append w l.entries (all_entries ls)))
    (once_may_merge ls (λ m h. each m (inr h)) (λ s. (let d = once s in omega (arith, d, sum_by-append (λ (e : Entry). equals s e.stamp.0) l.entries (all_entries ls)))))

-- the numbers that replies and ends name
pub numbers_count : (k : Plain → List ℕ) (limit : End → List ℕ) (ls : List ThreadLog)
    → length (flat_map (λ (l : ThreadLog). flat_map (λ (e : Entry). k e.reply.plain) l.entries ++ limit l.«end») ls) ≡ sum_by (λ (e : Entry). length (k e.reply.plain)) (all_entries ls) + length (flat_map (λ (l : ThreadLog). limit l.«end») ls)
numbers_count k limit [] = let none : sum_by (λ (e : Entry). length (k e.reply.plain)) [] ≡ 0 = refl in omega (arith, none)
numbers_count k limit (l ∷ ls) =
    let more = numbers_count k limit ls in
    let f : ThreadLog → List ℕ = λ m. flat_map (λ (e : Entry). k e.reply.plain) m.entries ++ limit m.«end» in
    let g : ThreadLog → List ℕ = λ m. limit m.«end» in
    omega (
      arith,
      more,
      length-append (f l) (flat_map f ls),
      length-append (flat_map (λ (e : Entry). k e.reply.plain) l.entries) (limit l.«end»),
      length_flat l.entries,
      sum_by-append (λ (e : Entry). length (k e.reply.plain)) l.entries (all_entries ls),
      length-append (g l) (flat_map g ls),
    )
  where
    length_flat : (es : List Entry) → length (flat_map (λ (e : Entry). k e.reply.plain) es) ≡ sum_by (λ (e : Entry). length (k e.reply.plain)) es
    length_flat [] = refl
    length_flat (e ∷ es) = let more = length_flat es in omega (arith, more, length-append (k e.reply.plain) (flat_map (λ (x : Entry). k x.reply.plain) es), sum_by-cons (λ (x : Entry). length (k x.reply.plain)) e es)

-- what replies of a run name ----------------------------------------------------------------

module _ (M : Machine) (O : Memory) (A : Allowed) (laws : MakesAlone O) where
  reply_made : (w : World M O) (e : Entry) (r : Request) → e.request ≡ r → Replies M O A w e r → makes r ≡ false → made_by e.reply.plain ≡ []
  reply_made w e (request.Make size place) is h off = absurd (true≢false off)
  reply_made w e (request.Print v) is h off = ap (λ (y : Reply). made_by y.plain) h
  reply_made w e (request.Host n a b) is h off = ap (λ (y : Reply). made_by y.plain) h.2
  reply_made w e (request.Spawn f) is h off = ap (λ (y : Reply). made_by y.plain) h.4
  reply_made w e (request.Join c) is h off = ap (λ (y : Reply). made_by y.plain) h.3
  reply_made w e _ is h off = ap (λ (y : Reply). made_by y.plain) h.2 ∙ laws.others (w.objects h.0.0) e.request e.stamp.0 (ap makes is ∙ off)

  reply_spawned : (w : World M O) (e : Entry) (r : Request) → e.request ≡ r → Replies M O A w e r → spawns r ≡ false → spawned_by_reply e.reply.plain ≡ []
  reply_spawned w e (request.Make size place) is h off = ap (λ (y : Reply). spawned_by_reply y.plain) h.5 ∙ laws.no_thread (w.objects h.0.0) e.request e.stamp.0
  reply_spawned w e (request.Print v) is h off = ap (λ (y : Reply). spawned_by_reply y.plain) h
  reply_spawned w e (request.Host n a b) is h off = ap (λ (y : Reply). spawned_by_reply y.plain) h.2
  reply_spawned w e (request.Spawn f) is h off = absurd (true≢false off)
  reply_spawned w e (request.Join c) is h off = ap (λ (y : Reply). spawned_by_reply y.plain) h.3
  reply_spawned w e _ is h off = ap (λ (y : Reply). spawned_by_reply y.plain) h.2 ∙ laws.no_thread (w.objects h.0.0) e.request e.stamp.0

  pub run_made : (w : World M O) (es : List Entry) → Interleaves M O A w es → (e : Entry) → Has es e → makes e.request ≡ false → made_by e.reply.plain ≡ []
  run_made w [] run e h off = absurd h
  run_made w (x ∷ es) run e (inl same) off = subst (λ (z : Entry). made_by z.reply.plain ≡ []) same (reply_made w x x.request refl run.0.replies (ap (λ (z : Entry). makes z.request) same ∙ off))
  run_made w (x ∷ es) run e (inr h) off = run_made (world_after M O w run.0.now x) es run.1 e h off

  pub run_spawned : (w : World M O) (es : List Entry) → Interleaves M O A w es → (e : Entry) → Has es e → spawns e.request ≡ false → spawned_by_reply e.reply.plain ≡ []
  run_spawned w [] run e h off = absurd h
  run_spawned w (x ∷ es) run e (inl same) off = subst (λ (z : Entry). spawned_by_reply z.reply.plain ≡ []) same (reply_spawned w x x.request refl run.0.replies (ap (λ (z : Entry). spawns z.request) same ∙ off))
  run_spawned w (x ∷ es) run e (inr h) off = run_spawned (world_after M O w run.0.now x) es run.1 e h off

pub few_made : (p : Plain) → length (made_by p) ≤ 1
few_made (plain.Made a) = omega arith
few_made _ = omega arith

pub few_spawned : (p : Plain) → length (spawned_by_reply p) ≤ 1
few_spawned (plain.Spawned c) = omega arith
few_spawned _ = omega arith

-- a thread that an entry starts is named by its reply
pub child_named : (h : ℕ → ℕ) (r : Request) (p : Plain) → sum_by h (started_by (spawned_by r p)) ≤ sum_by h (spawned_by_reply p)
child_named h (request.Spawn f) p = by_plain p
  where
    by_plain : (q : Plain) → sum_by h (started_by (spawned_of q)) ≤ sum_by h (spawned_by_reply q)
    by_plain (plain.Spawned c) = omega arith
    by_plain (plain.Made a) = omega arith
    by_plain (plain.Value v) = omega arith
    by_plain (plain.Copied q) = omega arith
    by_plain plain.Done = omega arith
    by_plain (plain.Retagged b) = omega arith
    by_plain (plain.Trapped t) = omega arith
child_named h _ p = let none : sum_by h [] ≡ 0 = refl in omega (arith, none)

-- numbers that no log has -------------------------------------------------------------------

pub history_outside : (n limit : ℕ) (allocs : List AllocLog) (a : ℕ) → AllocsRiseFrom n limit allocs → (a ≤ n) ⊎ (limit < a) → history_of allocs a ≡ []
history_outside n limit [] a r out = refl
history_outside n limit (l ∷ ls) a r out = elim (eqb_tells l.number.0 a) [
  | inl hit ↦ absurd (by_side out hit.1)
  | inr miss ↦ rw miss.0 (history_outside l.number.0 limit ls a r.3 (on out))
]
  where
    by_side : (a ≤ n) ⊎ (limit < a) → l.number.0 ≡ a → ⊥
    by_side (inl low) same = let b = r.0 in omega (arith, low, same, b)
    by_side (inr high) same = let b = r.1 in omega (arith, high, same, b)

    on : (a ≤ n) ⊎ (limit < a) → (a ≤ l.number.0) ⊎ (limit < a)
    on (inl low) = let b = r.0 in inl (omega (arith, low, b))
    on (inr high) = inr high

pub sum_alloc : (h : Entry → ℕ) (a : ℕ) (es : List Entry) → sum_by h (of_alloc a es) ≡ sum_by (λ (e : Entry). cond (names e.alloc a) (h e) 0) es
sum_alloc h a [] = refl
sum_alloc h a (e ∷ es) = by_name (names e.alloc a) refl (sum_alloc h a es)
  where
    by_name : (b : Bool) → names e.alloc a ≡ b → sum_by h (of_alloc a es) ≡ sum_by (λ (x : Entry). cond (names x.alloc a) (h x) 0) es
        → sum_by h (if b then e ∷ of_alloc a es else of_alloc a es) ≡ sum_by (λ (x : Entry). cond (names x.alloc a) (h x) 0) (e ∷ es)
    by_name true is more =
        let here : cond (names e.alloc a) (h e) 0 ≡ h e = ap (λ b. cond b (h e) 0) is in
        omega (arith, more, here, sum_by-cons h e (of_alloc a es), sum_by-cons (λ (x : Entry). cond (names x.alloc a) (h x) 0) e es)
    by_name false is more =
        let here : cond (names e.alloc a) (h e) 0 ≡ 0 = ap (λ b. cond b (h e) 0) is in
        omega (arith, more, here, sum_by-cons (λ (x : Entry). cond (names x.alloc a) (h x) 0) e es)

module _ (O : Memory) (laws : MakesAlone O) where
  unmade_stays : (o : O.Object) (r : Request) → makes r ≡ false → MakesUnmade O o r
  unmade_stays o (request.Make size place) off = absurd (true≢false off)
  unmade_stays o _ off = tt

  -- entries on a number that nothing makes
  pub legal_unmade : (a : ℕ) (es : List Entry) → ((e : Entry) → Has es e → (makes e.request ≡ false) × (e.reply ≡ O.reply (O.unmade a) e.request e.stamp.0)) → Legal O (O.unmade a) es
  legal_unmade a [] each = tt
  legal_unmade a (e ∷ es) each =
      let here = each e (inl refl) in (
        unmade_stays (O.unmade a) e.request here.0,
        here.1,
        subst (λ o. Legal O o es) (sym (laws.kept a e.request e.stamp.0 here.0)) (legal_unmade a es (λ x h. each x (inr h))),
      )
