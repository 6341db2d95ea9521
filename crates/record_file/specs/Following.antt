-- How entries in turn come right, where it is known of each join that the joined thread returned what the entry answers.
use Rattle.std.specs.Prelude.{◌≡◌, ◌≢◌, ◌<◌, ◌≤◌, ℕ, Bool, true, false, List, [], ◌∷◌, Option, Some, None, replicate, slice_get, slice_set}
use Rattle.bsan_ids.specs.declared.numbers.AllocNo.{AllocNo}
use Rattle.bsan_ids.specs.declared.numbers.ThreadNo.{ThreadNo}
use Rattle.history.specs.declared.entry.Entry.{Entry}
use Rattle.history.specs.declared.entry.Plain.TheVariants as plain
use Rattle.history.specs.declared.entry.Request.{Request}
use Rattle.history.specs.declared.entry.Request.TheVariants as request
use Rattle.history.specs.declared.entry.Verdict.TheVariants as verdict
use Rattle.history.specs.Objects.{clean}
use Rattle.runs.specs.Interleaving.{Allowed, ByRequest}
use Rattle.runs.specs.Parts.{child_of}

abbrev pub flag_of : Option Bool → Bool
flag_of None = false
flag_of (Some b) = b

-- whether the flag of this number is set; beyond the last none is
abbrev pub is_set : List Bool → ℕ → Bool
is_set flags n = flag_of (slice_get flags n)

abbrev pub set_by : List Bool → Option ℕ → List Bool
set_by flags None = flags
set_by flags (Some n) = slice_set flags n true

-- the thread that a request joins
abbrev pub joined_by : Request → Option ℕ
joined_by (request.Join c) = Some c.0
joined_by _ = None

-- the entry comes right by itself and by who has started: its numbers are allowed, a child is new, and a joined thread has started
abbrev pub ComesRight : Allowed → List Bool → Entry → Request → Type 0
ComesRight A started e =
    ByRequest A e ((a : AllocNo) × (e.alloc ≡ Some a) × (0 < a.0) × (a.0 ≤ A.allocs))
    ((c : ThreadNo) × (0 < c.0) × (c.0 ≤ 1023) × (is_set started c.0 ≡ false) × (e.reply ≡ clean (plain.Spawned c) None))
    (λ c. ((is_set started c.0 ≡ true) × (c.0 ≢ e.thread.0) × (e.reply.verdict ≡ verdict.Clean)))
    ((a : AllocNo) × (e.alloc ≡ Some a))

-- the entry is of a thread that has started and was not joined, and comes right
pub record ComesNext (A : Allowed) (started joined : List Bool) (e : Entry) : Type 0 where
  pub on : is_set started e.thread.0 ≡ true
  pub apart : is_set joined e.thread.0 ≡ false
  pub right : ComesRight A started e e.request

-- each entry, in turn, does
abbrev pub ComeInTurn : Allowed → List Bool → List Bool → List Entry → Type 0
ComeInTurn A started joined [] = Unit {0}
ComeInTurn A started joined (e ∷ es) = ComesNext A started joined e × ComeInTurn A (set_by started (child_of e)) (set_by joined (joined_by e.request)) es

-- none of the 1024 threads
abbrev pub no_thread : List Bool
no_thread = replicate 1024 false

-- thread 0 alone
abbrev pub first_thread : List Bool
first_thread = slice_set no_thread 0 true
