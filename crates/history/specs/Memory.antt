-- Plain memory of one allocation: its bytes, whether it is live, and its place.
use Rattle.std.specs.Prelude.{ℕ, ◌+◌, ◌==◌, ◌&&◌, ◌||◌, not, nat_lt, Bool, true, false, Option, Some, None, List, ◌++◌, length, map, take, drop, replicate, if◌then◌else◌}
use Rattle.bsan_ids.specs.declared.numbers.Span.{Span}
pub use Rattle.bsan_ids.specs.Lists.{put}
use Rattle.ir_ast.specs.declared.types.Place.{Place}
use Rattle.ir_ast.specs.declared.types.Place.TheVariants.{Stack, Heap}
use Rattle.history.specs.declared.trap.Trap.{Trap}
use Rattle.history.specs.declared.trap.Trap.TheVariants.{OutOfBounds, Freed, BadFree}
use Rattle.history.specs.declared.entry.Request.{Request}
use Rattle.history.specs.declared.entry.Request.TheVariants.{Load, Store, Modify, CmpXchg, CopyOut, CopyIn, Free}
use Rattle.ir_ast.specs.Words.{width_bytes, ty_bytes, modulus, word_of, bytes_of, modified}

pub record Memory : Type 0 where
  pub bytes : List ℕ
  pub live : Bool
  pub place : Place

-- an allocation's first bytes are 0
abbrev pub made_memory : ℕ → Place → Memory
made_memory size place = record { bytes = replicate size 0; live = true; place = place }

-- the bytes that an access reaches
abbrev pub span_of : Request → Option Span
span_of (Load at ty prov) = Some (record { start = at; len = ty_bytes ty })
span_of (Store at ty value carried prov) = Some (record { start = at; len = ty_bytes ty })
span_of (Modify at width op value prov) = Some (record { start = at; len = width_bytes width })
span_of (CmpXchg at width expected value prov) = Some (record { start = at; len = width_bytes width })
span_of (CopyOut at len prov) = Some (record { start = at; len = len })
span_of (CopyIn at piece prov) = Some (record { start = at; len = length piece })
span_of _ = None

abbrev pub is_outside : ℕ → Span → Bool
is_outside size span = nat_lt size (span.start + span.len)

abbrev pub is_stack : Place → Bool
is_stack Stack = true
is_stack Heap = false

-- a free that is refused: away from the first byte, or of a stack allocation before its function's return
abbrev pub is_bad_free : Place → Request → Bool
is_bad_free place (Free at stack prov) = not stack && (not (at == 0) || is_stack place)
is_bad_free place _ = false

abbrev pub trap_in : Memory → Request → Option Trap
trap_in m request =
    if not m.live then Some Freed
    else if is_out (span_of request) then Some OutOfBounds
    else if is_bad_free m.place request then Some BadFree
    else None where
      is_out : Option Span → Bool
      is_out None = false
      is_out (Some span) = is_outside (length m.bytes) span

abbrev pub in_range : {A : Type 0} → ℕ → ℕ → List A → List A
in_range at len xs = take len (drop at xs)

abbrev pub word_at : Memory → ℕ → ℕ → ℕ
word_at m at len = word_of (in_range at len m.bytes)

abbrev pub with_word : Memory → ℕ → ℕ → ℕ → Memory
with_word m at len value = record m { bytes = put at (bytes_of len value) m.bytes }

-- the number that a request without a trap answers, where it answers one
abbrev pub value_in : Memory → Request → Option ℕ
value_in m (Load at ty prov) = Some (word_at m at (ty_bytes ty))
value_in m (Modify at width op value prov) = Some (word_at m at (width_bytes width))
value_in m (CmpXchg at width expected value prov) = Some (word_at m at (width_bytes width))
value_in m _ = None

-- what a request without a trap leaves
abbrev pub next_memory : Memory → Request → Memory
next_memory m (Store at ty value carried prov) = with_word m at (ty_bytes ty) value
next_memory m (Modify at width op value prov) =
    with_word m at (width_bytes width) (modified op (modulus width) (word_at m at (width_bytes width)) value)
next_memory m (CmpXchg at width expected value prov) =
    if word_at m at (width_bytes width) == expected then with_word m at (width_bytes width) value else m
next_memory m (CopyIn at piece prov) = record m { bytes = put at (map (λ pair. pair.0) piece) m.bytes }
next_memory m (Free at stack prov) = record m { live = false }
next_memory m _ = m
