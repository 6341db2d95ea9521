-- Journals, and what calls on them make of a desk.
use Rattle.std.specs.Prelude.{◌≡◌, ℕ, ◌<◌, ◌≤◌, false, List, [], ◌++◌, length, map, All, Some, None, Result, Ok, Err}
use Rattle.std.specs.List.{range_with_len}
use Rattle.atomic_table.specs.Seated.{TableId}
use Rattle.bsan_ids.specs.declared.numbers.AllocNo.{AllocNo}
use Rattle.bsan_ids.specs.declared.numbers.NoMemory.{NoMemory}
use Rattle.bsan_ids.specs.declared.numbers.Stamp.{Stamp}
use Rattle.bsan_ids.specs.declared.numbers.ThreadNo.{ThreadNo}
use Rattle.history.specs.declared.entry.Entry.{Entry}
use Rattle.bench.specs.declared.journal.Journal.{Journal}
use Rattle.turn_lock.specs.Closing.{AreBlank}
use Rattle.history.specs.Merge.{stamp_of}
use Rattle.history.specs.Histories.{is_make_step}
use Rattle.turn_lock.specs.Steps.{drew_thread, parted, child_of, saw, called}
use Rattle.turn_lock.specs.Plays.{DeskView}

-- the k-th journal has the number k, counted from 1, and no entry
abbrev pub AreBlankJournals : List Journal → Type 0
AreBlankJournals js = AreBlank (λ (j : Journal). j.number.0) (λ (j : Journal). j.entries.items) js

-- the entry of a call: none but its stamp was given by the table
pub record IsCall (thread : ThreadNo) (site : ℕ) (alloc : AllocNo) (stamp : Stamp) (e : Entry) : Type 0 where
  pub thread_is : e.thread ≡ thread
  pub site_is : e.site ≡ site
  pub alloc_is : e.alloc ≡ Some alloc
  pub stamp_is : e.stamp ≡ stamp
  pub no_make : is_make_step e ≡ false

-- One call: its entry is the desk's, with a stamp above all that the desk had seen. When out of memory, the desk has seen the stamps of the journal's entries, and made no call.
abbrev pub Answers : ThreadNo → ℕ → AllocNo → DeskView → DeskView → Result Stamp NoMemory → Type 0
Answers thread site alloc old new (Ok stamp) = (e : Entry) × IsCall thread site alloc stamp e × (old.view.seen < stamp.0) × (new ≡ record { table = old.table; view = called old.view e })
Answers thread site alloc old new (Err _) = (n : ℕ) × (old.view.seen ≤ n) × (new ≡ record { table = old.table; view = saw old.view n })

-- the desk made these calls more, and has seen stamps up to n; all else stays
abbrev pub continued : DeskView → List Entry → ℕ → DeskView
continued d more n = record {
  table = d.table;
  view = record d.view { stamps = record { own = d.view.stamps.own ++ map stamp_of more; joined = d.view.stamps.joined }; seen = n; calls = d.view.calls ++ more };
}

-- `count` calls of a thread on one number were made at a desk, at the sites 0, 1 and so on, and none is a Make. Their stamps are above all that it had seen, and it has seen them.
pub record Calls (thread : ThreadNo) (alloc : AllocNo) (count : ℕ) (old new : DeskView) : Type 0 where
  pub more : List Entry
  pub seen : ℕ
  pub many : length more ≡ count
  pub desk : new ≡ continued old more seen
  pub grows : old.view.seen ≤ seen
  pub later : All (λ (e : Entry). old.view.seen < stamp_of e) more
  pub reached : All (λ (e : Entry). stamp_of e ≤ seen) more
  pub threads : All (λ (e : Entry). e.thread ≡ thread) more
  pub allocs : All (λ (e : Entry). e.alloc ≡ Some alloc) more
  pub sites : map (λ (e : Entry). e.site) more ≡ range_with_len 0 count
  pub no_makes : All (λ (e : Entry). is_make_step e ≡ false) more

-- a desk of this table that drew nothing and from which none was split
abbrev pub IsNew : TableId → DeskView → Type 0
IsNew id d = (d.table ≡ id) × (d.view.turn ≡ None) × (d.view.outs ≡ []) × (d.view.stamps.own ≡ []) × (d.view.threads.own ≡ [])

-- the desk, after whatever was done at it, is its own name's still, holds no turn, and has all desks back that were split from it
abbrev pub IsAlone : DeskView → DeskView → Type 0
IsAlone old new = (new.table ≡ old.table) × (new.view.name ≡ old.view.name) × (new.view.turn ≡ None) × (new.view.outs ≡ [])

-- a thread number was drawn at the desk, and a desk was split from it for that number
abbrev pub IsChild : DeskView → DeskView → ThreadNo → DeskView → Type 0
IsChild old new name child = (name.0 ≤ 1023)
    × (new ≡ record { table = old.table; view = parted (drew_thread old.view name.0) name.0 })
    × (child ≡ record { table = old.table; view = child_of old.view name.0 })
