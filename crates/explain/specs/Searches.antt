-- The search for the last change, along the first entries of a log.
use Rattle.std.specs.Prelude.{ℕ, ◌≡◌, ◌≢◌, ◌<◌, ◌+◌, ◌==◌, Option, None, MatchOption, find, slice_index_or, take}
use Rattle.bsan_ids.specs.declared.numbers.Tag.{Tag}
use Rattle.perm_table.specs.declared.Perm.{Perm}
use Rattle.history.specs.declared.entry.Entry.{Entry}
use Rattle.history.specs.declared.log.AllocLog.{AllocLog}
use Rattle.history.specs.Merge.{stamp_of}
use Rattle.explain.specs.declared.explained.Explained.{Explained}
use Rattle.explain.specs.Explanations.{IsChanger, perm_after}

-- the state after the first i entries
abbrev pub perm_at : AllocLog → Tag → ℕ → ℕ → Option Perm
perm_at log x offset i = perm_after log.number.0 (take i log.entries) x offset

-- the entry at k is the last of the first i that changed the state
pub record IsLastChange (log : AllocLog) (x : Tag) (offset i k : ℕ) : Type 0 where
  pub inside : k < i
  pub changed : perm_at log x offset (k + 1) ≢ perm_at log x offset k
  pub last : (j : ℕ) → k < j → j < i + 1 → perm_at log x offset j ≡ perm_at log x offset (k + 1)

-- what is found among the first i entries: where none changed the state, there was none
abbrev pub IsFound : AllocLog → Tag → ℕ → ℕ → Option ℕ → Type 0
IsFound log x offset i found = MatchOption found (perm_at log x offset i ≡ None) (IsLastChange log x offset i)

-- an explanation as it is found for node x at the byte: the violation is the entry at a place
pub record IsFoundFor (log : AllocLog) (at : ℕ) (x : Tag) (offset : ℕ) (found : Explained) : Type 0 where
  pub violation : (d : Entry) → found.violation ≡ slice_index_or log.entries at d
  pub maker : found.maker ≡ find (λ e. stamp_of e == x.0) (take at log.entries)
  pub changer : MatchOption found.changer (perm_at log x offset at ≡ None) (IsChanger log.number.0 (take at log.entries) x offset)
