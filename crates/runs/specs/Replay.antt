-- The run on one native thread that a schedule picks.
use Rattle.std.specs.Prelude.{◌≡◌, ℕ, zero, suc, ◌+◌, ◌<◌, ◌≢◌, ◌⊎◌, Bool, true, false, is_none, List, [], ◌∷◌, ◌++◌, Some, None, slice_get, slice_set, unwrap_or, option_map}
use Rattle.std.specs.declared.option.Option.{Option}
use Rattle.bsan_ids.specs.declared.numbers.AllocNo.{AllocNo}
use Rattle.history.specs.declared.ask.Ask.{Ask}
use Rattle.history.specs.declared.ask.Ask.TheVariants as ask
use Rattle.bsan_ids.specs.declared.numbers.Counters.{Counters}
use Rattle.history.specs.declared.log.End.{End}
use Rattle.history.specs.declared.log.End.TheVariants as log_end
use Rattle.history.specs.declared.entry.Entry.{Entry}
use Rattle.bsan_ids.specs.declared.numbers.Limits.{Limits}
use Rattle.history.specs.declared.entry.Plain.TheVariants as plain
use Rattle.bsan_ids.specs.declared.numbers.Prov.{Prov}
use Rattle.history.specs.declared.entry.Request.{Request}
use Rattle.history.specs.declared.entry.Request.TheVariants as request
use Rattle.bsan_ids.specs.declared.numbers.ThreadNo.{ThreadNo}
use Rattle.history.specs.declared.trap.Trap.{Trap}
use Rattle.history.specs.declared.trap.Trap.TheVariants as trap
use Rattle.history.specs.Objects.{clean}
use Rattle.runs.specs.Parts.{Answers}
use Rattle.runs.specs.Machine.{Machine, Memory, MayGoOn, SettlesWithin}
use Rattle.runs.specs.Threads.{AsksStep, AsksMake, AsksSpawn, IsOwnTrap, EndsAs}
use Rattle.runs.specs.Interleaving.{Allowed, ByRequest}

-- a started thread, with its log so far
pub record Fiber (M : Machine) : Type 0 where
  pub parent : Option ThreadNo
  pub function : ℕ
  pub state : M.State
  pub entries : List Entry
  pub «end» : Option End

-- the k-th thread is thread k, the k-th object that of the number k + 1; the merge is all entries so far
pub record Progress (M : Machine) (O : Memory) : Type 0 where
  pub threads : List (Fiber M)
  pub objects : List O.Object
  pub merge : List Entry
  pub words : Counters

abbrev pub end_at : (M : Machine) → (O : Memory) → Progress M O → ℕ → Option End
end_at M O p t = unwrap_or (option_map (λ f. f.«end») (slice_get p.threads t)) None

abbrev pub object_at : (M : Machine) → (O : Memory) → Progress M O → ℕ → O.Object
object_at M O p zero = O.unmade zero
object_at M O p (suc k) = unwrap_or (slice_get p.objects k) (O.unmade (suc k))

-- a join of a child that hasn't ended
abbrev pub waits : (M : Machine) → (O : Memory) → Progress M O → Ask → Bool
waits M O p (ask.Join c) = is_none (end_at M O p c.0)
waits M O p _ = false

-- it hasn't ended, and doesn't wait
abbrev pub CanGoOn : (M : Machine) → (O : Memory) → Progress M O → ℕ → Type 0
CanGoOn M O p t = (f : Fiber M) × (slice_get p.threads t ≡ Some f) × (f.«end» ≡ None) × (waits M O p (M.ask f.state) ≡ false)

-- an end that comes of the thread's own state, or of having no memory: nothing is drawn for it, and no other thread is asked
abbrev pub IsOwnEnd : End → Type 0
IsOwnEnd (log_end.Returned v p) = Unit {0}
IsOwnEnd (log_end.Trapped t) = IsOwnTrap t
IsOwnEnd log_end.TurnLimit = Unit {0}
IsOwnEnd log_end.NoMemory = Unit {0}
IsOwnEnd other = ⊥

-- how a thread stands after a step: where its state is an end it has ended, at once with this part; else it goes on, if it finds memory
abbrev pub RestsAs : (M : Machine) → Limits → M.State → Option End → Type 0
RestsAs M limits s (Some why) = IsOwnEnd why × EndsAs M limits s why
RestsAs M limits s None = (why : End) → IsOwnEnd why → EndsAs M limits s why → why ≡ log_end.NoMemory

-- what a pick of a thread comes to, from its state after its local turns; a step comes with the end that it brings, if it brings one
pub data Choice (M : Machine) : Type 0 where
  Waits : (now : M.State) → Choice M
  Ends : (now : M.State) (why : End) → Choice M
  Steps : (now : M.State) (entry : Entry) (over : Option End) → Choice M

-- the numbers that an end carries are the next ones, which a Make or a Spawn drew
abbrev pub DrawsNext : Counters → Ask → Trap → Type 0
DrawsNext words a (trap.AllocLimit d) = AsksMake a × (d ≡ words.allocs + 1)
DrawsNext words a (trap.ThreadLimit d) = AsksSpawn a × (d ≡ words.threads + 1)
DrawsNext words a t = Unit {0}

-- the next numbers are within their limits, and a joined child has returned, so that a stamp is drawn
abbrev pub DrawsStamp : (M : Machine) → (O : Memory) → Limits → Progress M O → Ask → Type 0
DrawsStamp M O limits p (ask.Make size place) = p.words.allocs < limits.allocs
DrawsStamp M O limits p (ask.Spawn f) = p.words.threads < 1023
DrawsStamp M O limits p (ask.Join c) = (v : ℕ) × (q : Option Prov) × (end_at M O p c.0 ≡ Some (log_end.Returned v q))
DrawsStamp M O limits p a = AsksStep a

abbrev pub EndsNext : (M : Machine) → (O : Memory) → Limits → Progress M O → Ask → End → Type 0
EndsNext M O limits p a (log_end.Trapped t) = DrawsNext p.words a t
EndsNext M O limits p a (log_end.StepLimit s) = (s.0 ≡ p.words.stamps + 1) × DrawsStamp M O limits p a
EndsNext M O limits p a (log_end.ChildEnded c) = (e : End) × (end_at M O p c.0 ≡ Some e) × ((v : ℕ) (q : Option Prov) → e ≢ log_end.Returned v q)
EndsNext M O limits p a e = Unit {0}

-- the reply of a step, with the next numbers
abbrev pub RepliesNext : (M : Machine) → (O : Memory) → Allowed → Progress M O → Entry → Request → Type 0
RepliesNext M O A p e =
    ByRequest A e
    ((e.alloc ≡ Some (record { 0 = p.words.allocs + 1 })) × (e.reply ≡ O.reply (object_at M O p (p.words.allocs + 1)) e.request e.stamp.0))
    (e.reply ≡ clean (plain.Spawned (record { 0 = p.words.threads + 1 })) None)
    (λ c. ((v : ℕ) × (q : Option Prov) × (end_at M O p c.0 ≡ Some (log_end.Returned v q)) × (e.reply ≡ clean (plain.Value v) q)))
    ((a : AllocNo) × (e.alloc ≡ Some a) × (e.reply ≡ O.reply (object_at M O p a.0) e.request e.stamp.0))

abbrev pub Chooses : (M : Machine) → (O : Memory) → Allowed → Limits → Progress M O → ℕ → Fiber M → Choice M → Type 0
Chooses M O A limits p t f (Waits now) = SettlesWithin M limits.turns f.state now × MayGoOn M limits.turns now × (waits M O p (M.ask now) ≡ true)
Chooses M O A limits p t f (Ends now why) = SettlesWithin M limits.turns f.state now × EndsAs M limits now why × EndsNext M O limits p (M.ask now) why
Chooses M O A limits p t f (Steps now e over) =
    SettlesWithin M limits.turns f.state now × MayGoOn M limits.turns now × DrawsStamp M O limits p (M.ask now) × (p.words.stamps < limits.steps)
    × (e.thread.0 ≡ t) × (e.stamp.0 ≡ p.words.stamps + 1) × (e.site ≡ M.site now) × Answers (M.ask now) e × RepliesNext M O A p e e.request
    × RestsAs M limits (M.after now e) over

-- the number that a Make or a Spawn draws before its stamp
abbrev pub drawn_number : Counters → Ask → Counters
drawn_number words (ask.Make size place) = record words { allocs = words.allocs + 1 }
drawn_number words (ask.Spawn f) = record words { threads = words.threads + 1 }
drawn_number words a = words

abbrev pub drawn_stamp : Counters → Counters
drawn_stamp words = record words { stamps = words.stamps + 1 }

-- an end draws what it carries; a stamp above the limit is drawn after the number
abbrev pub drawn_by_end : Counters → Ask → End → Counters
drawn_by_end words a (log_end.StepLimit s) = drawn_stamp (drawn_number words a)
drawn_by_end words a (log_end.Trapped (trap.AllocLimit d)) = record words { allocs = words.allocs + 1 }
drawn_by_end words a (log_end.Trapped (trap.ThreadLimit d)) = record words { threads = words.threads + 1 }
drawn_by_end words a e = words

abbrev pub drawn_by : Counters → Request → Counters
drawn_by words (request.Make size place) = record { stamps = words.stamps + 1; allocs = words.allocs + 1; threads = words.threads }
drawn_by words (request.Spawn f) = record { stamps = words.stamps + 1; allocs = words.allocs; threads = words.threads + 1 }
drawn_by words r = drawn_stamp words

-- a new thread, where one was started; it has made no part, and ends in a pick of its own at the earliest
abbrev pub new_fibers : (M : Machine) → ℕ → M.State → Request → List (Fiber M)
new_fibers M t child (request.Spawn f) = record { parent = Some (record { 0 = t }); function = f; state = child; entries = []; «end» = None } ∷ []
new_fibers M t child r = []

-- the object of the number k + 1 after a step; a Make of the next number adds it
abbrev pub with_new : (O : Memory) → List O.Object → ℕ → Entry → Request → List O.Object
with_new O objects k e (request.Make size place) = objects ++ O.next (O.unmade (suc k)) e.request e.stamp.0 ∷ []
with_new O objects k e r = objects

abbrev pub with_object : (O : Memory) → List O.Object → ℕ → Entry → Option O.Object → List O.Object
with_object O objects k e (Some o) = slice_set objects k (O.next o e.request e.stamp.0)
with_object O objects k e None = with_new O objects k e e.request

abbrev pub on_number : (O : Memory) → List O.Object → ℕ → Entry → List O.Object
on_number O objects zero e = objects
on_number O objects (suc k) e = with_object O objects k e (slice_get objects k)

abbrev pub objects_after : (O : Memory) → List O.Object → Option AllocNo → Entry → List O.Object
objects_after O objects (Some a) e = on_number O objects a.0 e
objects_after O objects None e = objects

abbrev pub picked : (M : Machine) → (O : Memory) → Progress M O → ℕ → Fiber M → Choice M → Progress M O
picked M O p t f (Waits now) = record p { threads = slice_set p.threads t (record f { state = now }) }
picked M O p t f (Ends now why) = record p { threads = slice_set p.threads t (record f { state = now; «end» = Some why }); words = drawn_by_end p.words (M.ask now) why }
picked M O p t f (Steps now e over) = record {
  threads = slice_set p.threads t (record f { state = M.after now e; entries = f.entries ++ e ∷ []; «end» = over }) ++ new_fibers M t (M.child now) e.request;
  objects = objects_after O p.objects e.alloc e;
  merge = p.merge ++ e ∷ [];
  words = drawn_by p.words e.request;
}

-- a pick of a thread that can go on; any other is passed over
abbrev pub Picks : (M : Machine) → (O : Memory) → Allowed → Limits → Progress M O → ℕ → Progress M O → Type 0
Picks M O A limits p t q =
    ((CanGoOn M O p t → ⊥) × (q ≡ p))
    ⊎ ((f : Fiber M) × (c : Choice M) × (slice_get p.threads t ≡ Some f) × CanGoOn M O p t × Chooses M O A limits p t f c × (q ≡ picked M O p t f c))

abbrev pub Plays : (M : Machine) → (O : Memory) → Allowed → Limits → Progress M O → List ℕ → Progress M O → Type 0
Plays M O A limits p [] q = q ≡ p
Plays M O A limits p (t ∷ ts) q = (mid : Progress M O) × Picks M O A limits p t mid × Plays M O A limits mid ts q

-- each pick is of the least thread that can go on
abbrev pub PlaysLeast : (M : Machine) → (O : Memory) → Allowed → Limits → Progress M O → List ℕ → Progress M O → Type 0
PlaysLeast M O A limits p [] q = q ≡ p
PlaysLeast M O A limits p (t ∷ ts) q =
    CanGoOn M O p t × ((u : ℕ) → u < t → CanGoOn M O p u → ⊥) × ((mid : Progress M O) × Picks M O A limits p t mid × PlaysLeast M O A limits mid ts q)

-- the schedule is played, then the least thread that can go on, until all have ended
pub record IsReplay (M : Machine) (O : Memory) (A : Allowed) (limits : Limits) (schedule : List ℕ) (first last : Progress M O) : Type 0 where
  pub mid : Progress M O
  pub picks : List ℕ
  pub scheduled : Plays M O A limits first schedule mid
  pub least : PlaysLeast M O A limits mid picks last
  pub over : (t : ℕ) (f : Fiber M) → slice_get last.threads t ≡ Some f → f.«end» ≢ None
