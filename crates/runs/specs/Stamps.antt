-- What stamps say of all entries of all logs.
use Rattle.std.specs.Prelude.{◌≡◌, ℕ, ◌<◌, ◌≤◌, ◌⊎◌, List, [], ◌∷◌, Some, None}
use Rattle.std.specs.declared.option.Option.{Option}
use Rattle.history.specs.declared.entry.Entry.{Entry}
use Rattle.bsan_ids.specs.declared.numbers.Prov.{Prov}
use Rattle.history.specs.declared.log.End.{End}
use Rattle.history.specs.declared.log.End.TheVariants as log_end
use Rattle.bsan_ids.specs.declared.numbers.AllocNo.{AllocNo}
use Rattle.bsan_ids.specs.declared.numbers.ThreadNo.{ThreadNo}
use Rattle.history.specs.declared.entry.Request.{Request}
use Rattle.history.specs.declared.entry.Plain.TheVariants as plain
use Rattle.history.specs.Objects.{clean}
use Rattle.runs.specs.Parts.{Has, child_of}
use Rattle.runs.specs.Interleaving.{Allowed, ByRequest}

-- the stamps rise, and are above n
abbrev pub RisesFrom : ℕ → List Entry → Type 0
RisesFrom n [] = Unit {0}
RisesFrom n (e ∷ es) = (n < e.stamp.0) × RisesFrom e.stamp.0 es

-- a Spawn entry of this thread is earlier
abbrev pub SpawnedBefore : List Entry → ℕ → Entry → Type 0
SpawnedBefore entries t e = (s : Entry) × Has entries s × (child_of s ≡ Some t) × (s.stamp.0 < e.stamp.0)

-- an entry among all entries
abbrev pub StandsAmong : Allowed → (ℕ → End) → List Entry → Entry → Request → Type 0
StandsAmong A ends entries e =
    ByRequest A e ((a : AllocNo) × (e.alloc ≡ Some a) × (0 < a.0) × (a.0 ≤ A.allocs))
    ((c : ThreadNo) × (0 < c.0) × (c.0 ≤ 1023) × ((s : Entry) → Has entries s → child_of s ≡ Some c.0 → s.stamp.0 ≡ e.stamp.0) × (e.reply ≡ clean (plain.Spawned c) None))
    (λ c. ((v : ℕ) × (p : Option Prov) × SpawnedBefore entries c.0 e × ((x : Entry) → Has entries x → x.thread.0 ≡ c.0 → x.stamp.0 < e.stamp.0) × (ends c.0 ≡ log_end.Returned v p) × (e.reply ≡ clean (plain.Value v) p)))
    ((a : AllocNo) × (e.alloc ≡ Some a))

-- children start before their entries, once, and their entries are before each join of them
pub record IsTied (A : Allowed) (ends : ℕ → End) (entries : List Entry) : Type 0 where
  pub rises : RisesFrom 0 entries
  pub started : (e : Entry) → Has entries e → (e.thread.0 ≡ 0) ⊎ SpawnedBefore entries e.thread.0 e
  pub stands : (e : Entry) → Has entries e → StandsAmong A ends entries e e.request
