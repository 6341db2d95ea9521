-- An allocation's log, as contracts see it, and what its type keeps.
use Rattle.std.specs.Prelude.{ℕ, ◌≡◌, ◌<◌, Option, MatchOption, List, Bool, All, vec_len, vec_capacity}
use Rattle.std.specs.List.{list_any}
use Rattle.std.specs.declared.vec.Vec.{Vec}
use Rattle.std.specs.declared.alloc.Global.{Global}
use Rattle.bsan_ids.specs.declared.numbers.AllocNo.{AllocNo}
use Rattle.history.specs.declared.entry.Entry.{Entry}
use Rattle.history.specs.declared.entry.Request.{Request}
use Rattle.history.specs.Objects.{unmade}
use Rattle.history.specs.Histories.{replay, is_make, HasBytes, IsHistory}
use Rattle.alloc_state.specs.Prepared.{Prepared}
use Rattle.alloc_state.specs.Repeats.{IsStillAfter, HasCutsBy}

-- an allocation's number, its entries, oldest first, and the request for which memory was taken; beside them
-- the counter of its tree
pub record Log : Type 0 where
  pub number : AllocNo
  pub entries : List Entry
  pub ready : Option Request
  pub visits : ℕ

-- whether one of the entries is a Make
abbrev pub has_make : List Entry → Bool
has_make entries = list_any (λ e. is_make e.request) entries

-- The entries are a legal history, the state is their replay, and there is room for the request that is ready.
-- The last access changes nothing when it is repeated, and the tree's cuts are those of the entries.
pub record IsKept (number : ℕ) (entries : Vec Entry Global) (prepared : Prepared) : Type 0 where
  pub history : IsHistory number entries.items
  pub bytes : All (λ e. HasBytes e.request) entries.items
  pub state : replay (unmade number) entries.items ≡ prepared.object
  pub still : IsStillAfter entries.items prepared.tree
  pub cuts : HasCutsBy entries.items prepared.tree
  pub room : MatchOption prepared.ready (Unit {0}) (λ _. vec_len entries < vec_capacity entries)
