-- Flow graphs: paths that no node on them stops. A graph has for each node the nodes to which it goes.
use Rattle.std.specs.Prelude.{◌≡◌, ℕ, ◌+◌, ◌<◌, Bool, true, false, List, [], ◌∷◌, length, All, Contains, ◌⊎◌, slice_get, slice_index_or, Some}

-- every node goes to nodes of the graph
abbrev pub IsInside : List (List ℕ) → Type 0
IsInside graph = All (λ next. All (λ s. s < length graph) next) graph

-- what comes into the node b goes on to s
abbrev pub Passes : List (List ℕ) → List Bool → ℕ → ℕ → Type 0
Passes graph stops b s = (next : List ℕ) × (slice_get graph b ≡ Some next) × (slice_get stops b ≡ Some false) × Contains next s

-- A path, listed from its last node back to node 0: each node before the last goes to the one after it,
-- and doesn't stop what comes in.
abbrev pub IsPath : List (List ℕ) → List Bool → List ℕ → Type 0
IsPath graph stops [] = ⊥
IsPath graph stops (b ∷ []) = b ≡ 0
IsPath graph stops (s ∷ b ∷ path) = Passes graph stops b s × IsPath graph stops (b ∷ path)

-- some path enters the node
abbrev pub IsEntered : List (List ℕ) → List Bool → ℕ → Type 0
IsEntered graph stops b = (path : List ℕ) × IsPath graph stops (b ∷ path)

abbrev pub IsMarked : List Bool → ℕ → Type 0
IsMarked marked b = slice_index_or marked b false ≡ true

abbrev pub unmarked : List Bool → ℕ
unmarked [] = 0
unmarked (true ∷ bs) = unmarked bs
unmarked (false ∷ bs) = unmarked bs + 1

-- a mark for each node, and it says whether some path enters the node
pub record Answers (graph : List (List ℕ)) (stops : List Bool) (marked : List Bool) : Type 0 where
  pub size : length marked ≡ length graph
  pub only : (b : ℕ) → IsMarked marked b → IsEntered graph stops b
  pub each : (b : ℕ) → IsEntered graph stops b → IsMarked marked b

-- the marks and the work after going to each of these nodes
pub record Visited (next : List ℕ) (marked : List Bool) (work : List ℕ) (marked' : List Bool) (work' : List ℕ) : Type 0 where
  pub size : length marked' ≡ length marked
  pub grows : (b : ℕ) → IsMarked marked b → IsMarked marked' b
  pub each : (b : ℕ) → Contains next b → IsMarked marked' b
  pub only : (b : ℕ) → IsMarked marked' b → IsMarked marked b ⊎ (Contains next b × Contains work' b)
  pub keeps : (b : ℕ) → Contains work b → Contains work' b
  pub noted : (b : ℕ) → Contains work' b → Contains work b ⊎ IsMarked marked' b
  pub balance : unmarked marked' + length work' ≡ unmarked marked + length work
