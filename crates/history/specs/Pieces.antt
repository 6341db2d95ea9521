-- A piece as its pairs of a byte and a fragment.
use Rattle.std.specs.Prelude.{ℕ, zero, suc, ◌≡◌, ◌+◌, ◌≤◌, Option, Some, None, MatchOption, List, [], ◌∷◌, ◌++◌, length, replicate, All}
use Rattle.bsan_ids.specs.declared.numbers.Prov.{Prov}
use Rattle.bsan_ids.specs.declared.numbers.Frag.{Frag}
use Rattle.history.specs.declared.piece.Run.{Run}

-- a byte of a piece: its value, and its fragment
abbrev pub Byte : Type 0
Byte = ℕ × Option Frag

-- the fragments of a provenance, from an index on
abbrev pub fragments_from : Prov → ℕ → ℕ → List (Option Frag)
fragments_from prov index zero = []
fragments_from prov index (suc more) =
    Some (record { prov = prov; index = index }) ∷ fragments_from prov (index + 1) more

-- the fragments of a run

abbrev pub run_of : ℕ → Option Frag → List (Option Frag)
run_of len None = replicate len None
run_of len (Some first) = fragments_from first.prov first.index len

abbrev pub fragments_of : List Run → List (Option Frag)
fragments_of [] = []
fragments_of (run ∷ runs) = run_of run.len run.first ++ fragments_of runs

-- the index of each fragment of a run is a byte
abbrev pub IsSmall : Run → Type 0
IsSmall run = MatchOption run.first (Unit {0}) (λ first. first.index + run.len ≤ 256)

pub record IsRuns (bytes : List ℕ) (runs : List Run) : Type 0 where
  pub short : length bytes ≤ 32
  pub long : length (fragments_of runs) ≡ length bytes
  pub small : All IsSmall runs
  pub few : length runs ≤ length bytes
