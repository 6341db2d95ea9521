-- What is answered of a record by its last three clauses.
use Rattle.std.specs.Prelude.{◌≡◌, ◌↔◌, ℕ, Bool, true, false, IsTrue}
use Rattle.bsan_ids.specs.declared.numbers.Limits.{Limits}
use Rattle.history.specs.declared.record.RunRecord.{RunRecord}
use Rattle.ir_ast.specs.declared.hosts.HostTable.{HostTable}
use Rattle.runs.specs.Merge.{merged}
use Rattle.runs.specs.Right.{asks_make, asks_spawn, HasCounts, StandsAsking}
use Rattle.source_sem.specs.Source.{Setting, Source, source}
use Rattle.record_file.specs.declared.clauses.Checked.{Checked}
use Rattle.record_file.specs.declared.clauses.Checked.TheVariants.{Holds, Fails}
use Rattle.record_file.specs.declared.clauses.Clause.TheVariants.{C, D, F}
use Rattle.record_file.specs.declared.counters.Asking.{Asking}
use Rattle.record_text.specs.Texts.{logs_from}
use Rattle.record_file.specs.Counts.{IsCount}
use Rattle.record_file.specs.Merging.{IsGoodMerge}

-- this is whether the counters are right, where so many logs stand asking for a number
abbrev pub CountsAre : Bool → Limits → RunRecord → Asking → Type 0
CountsAre holds limits kept asking =
    (x : Setting) (starts : ℕ → Source)
    → IsCount (StandsAsking (source x) asks_make limits starts) kept.threads asking.makes
    → IsCount (StandsAsking (source x) asks_spawn limits starts) kept.threads asking.spawns
    → IsTrue holds ↔ HasCounts (source x) limits starts kept.threads kept.words

-- the allocation logs are those that the merge makes
abbrev pub AreMerged : Limits → RunRecord → Type 0
AreMerged limits kept = kept.allocs ≡ logs_from (merged kept.threads) 1 limits.allocs

abbrev pub RestIs : Limits → HostTable → RunRecord → Asking → Checked → Type 0
RestIs limits hosts kept asking Holds = IsGoodMerge limits hosts (merged kept.threads) × AreMerged limits kept × CountsAre true limits kept asking
RestIs limits hosts kept asking (Fails C) = IsGoodMerge limits hosts (merged kept.threads) → ⊥
RestIs limits hosts kept asking (Fails D) = IsGoodMerge limits hosts (merged kept.threads) × (AreMerged limits kept → ⊥)
RestIs limits hosts kept asking (Fails F) = IsGoodMerge limits hosts (merged kept.threads) × AreMerged limits kept × CountsAre false limits kept asking
RestIs limits hosts kept asking _ = ⊥
