-- Fragments of stored pointers, one optional fragment a byte.
use Rattle.std.specs.Prelude.{ℕ, ◌+◌, ◌==◌, ◌&&◌, Bool, true, false, Option, Some, None, List, [], ◌∷◌, map, replicate, if◌then◌else◌}
use Rattle.std.specs.List.{zip}
use Rattle.bsan_ids.specs.declared.numbers.Prov.{Prov}
use Rattle.bsan_ids.specs.declared.numbers.Frag.{Frag}
use Rattle.ir_ast.specs.declared.types.Ty.{Ty}
use Rattle.ir_ast.specs.declared.types.Ty.TheVariants.{Int, Ptr}
use Rattle.history.specs.declared.entry.Request.{Request}
use Rattle.history.specs.declared.entry.Request.TheVariants.{Store, Modify, CmpXchg, CopyIn}
use Rattle.ir_ast.specs.Words.{width_bytes}
use Rattle.history.specs.Pieces.{Byte, fragments_from}
use Rattle.history.specs.Memory.{Memory, in_range, put, word_at}

abbrev pub Shadow : Type 0
Shadow = List (Option Frag)

-- what a stored pointer leaves in its eight bytes
abbrev pub stored : Option Prov → Shadow
stored None = replicate 8 None
stored (Some prov) = fragments_from prov 0 8

abbrev pub same_prov : Prov → Prov → Bool
same_prov p q = p.alloc.0 == q.alloc.0 && p.tag.0 == q.tag.0

-- whether these are the fragments of one provenance, from an index on
abbrev pub is_run : Prov → ℕ → Shadow → Bool
is_run prov index [] = true
is_run prov index (None ∷ frags) = false
is_run prov index (Some frag ∷ frags) =
    same_prov frag.prov prov && frag.index == index && is_run prov (index + 1) frags

-- the provenance of a pointer's eight bytes
abbrev pub loaded : Shadow → Option Prov
loaded (Some frag ∷ frags) = if is_run frag.prov 0 (Some frag ∷ frags) then Some frag.prov else None
loaded _ = None

abbrev pub stored_as : Ty → Option Prov → Shadow
stored_as Ptr carried = stored carried
stored_as (Int width) carried = replicate (width_bytes width) None

abbrev pub loaded_as : Ty → Shadow → Option Prov
loaded_as Ptr frags = loaded frags
loaded_as (Int width) frags = None

-- what a request without a trap leaves, over memory as it was before
abbrev pub next_shadow : Memory → Shadow → Request → Shadow
next_shadow m frags (Store at ty value carried prov) = put at (stored_as ty carried) frags
next_shadow m frags (Modify at width op value prov) = put at (replicate (width_bytes width) None) frags
next_shadow m frags (CmpXchg at width expected value prov) =
    if word_at m at (width_bytes width) == expected then put at (replicate (width_bytes width) None) frags else frags
next_shadow m frags (CopyIn at piece prov) = put at (map (λ pair. pair.1) piece) frags
next_shadow m frags _ = frags

-- the bytes that a copy takes with it
abbrev pub piece_at : Memory → Shadow → ℕ → ℕ → List Byte
piece_at m frags at len = zip (in_range at len m.bytes) (in_range at len frags)
