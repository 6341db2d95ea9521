-- The guarded nodes off a path.
use Rattle.std.specs.Prelude.{ℕ, ◌<◌, not, List, length, filter}
use Rattle.dated_tree.specs.Shape.{Shape}
use Rattle.dated_tree.specs.Path.{is_on_path}
use Rattle.dated_access.specs.Path.{entry}

-- each place is below the ones after it
abbrev pub IsRising : List ℕ → Type 0
IsRising places = (j k : ℕ) → j < k → k < length places → entry places j < entry places k

-- the places of the guarded nodes off the path of x, rising
abbrev pub others_to : Shape → ℕ → List ℕ
others_to t x = filter (λ place. not (is_on_path t.nodes x place)) t.guarded
