-- The thread that an entry starts.
use Rattle.std.specs.Prelude.{◌≡◌, ℕ, List, [], ◌∷◌, ◌++◌, Option, Some, None}
use Rattle.source_sem.specs.Source.{Setting, Source}
use Rattle.record_file.specs.declared.feed.Child.{Child}

-- it was added, in this first state and with this number
abbrev pub HasStarted : Setting → Option ℕ → Source → List Child → List Child → Type 0
HasStarted x None s before after = after ≡ before
HasStarted x (Some c) s before after = (child : Child) × (child.number.0 ≡ c) × (child.machine.setting ≡ x) × (child.machine.thread ≡ s) × (after ≡ before ++ child ∷ [])
