-- The fragments for which a map of origins stands.
use Rattle.bsan_ids.specs.declared.numbers.Prov.{Prov}
use Rattle.history.specs.Fragments.{same_prov}
use Rattle.std.specs.Prelude.{Bool, false, ◌&&◌, ◌==◌, ℕ, ◌+◌, ◌-◌, ◌%◌, ◌<◌, Option, Some, None, List, [], ◌∷◌, All, length}
use Rattle.bsan_ids.specs.declared.numbers.Frag.{Frag}
use Rattle.range_map.specs.Ranges.{Ranges}
use Rattle.shadow_mem.specs.declared.Origin.{Origin}

-- what a clause sees of a shadow: each byte's fragment, and how many run starts may be added without memory
pub record Fragments : Type 0 where
  pub frags : List (Option Frag)
  pub spare : ℕ

-- how far a byte lies above the place of a run's fragment 0, modulo 2^32
abbrev pub index_at : ℕ → ℕ → ℕ
index_at at zero_at = (at + (4294967296 - zero_at)) % 4294967296

abbrev pub frag_at : ℕ → Option Origin → Option Frag
frag_at at None = None
frag_at at (Some origin) = Some (record { prov = origin.prov; index = index_at at origin.zero_at })

abbrev pub frags_from : ℕ → List (Option Origin) → List (Option Frag)
frags_from at [] = []
frags_from at (origin ∷ origins) = frag_at at origin ∷ frags_from (at + 1) origins

abbrev pub is_small : Option Frag → Type 0
is_small None = Unit {0}
is_small (Some frag) = frag.index < 256

pub record IsShadow (map : Ranges (Option Origin)) : Type 0 where
  pub small : All is_small (frags_from 0 map.bytes)
  pub short : length map.bytes < 4294967296

-- whether this is one fragment of a provenance
abbrev pub is_at : Prov → ℕ → Option Frag → Bool
is_at prov index None = false
is_at prov index (Some frag) = same_prov frag.prov prov && frag.index == index
