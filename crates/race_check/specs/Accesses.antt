-- How an entry uses the bytes of its allocation, and when two entries use them in conflict.
use Rattle.std.specs.Prelude.{ℕ, ◌+◌, ◌==◌, ◌&&◌, ◌||◌, nat_lt, max, min, Bool, true, false, not, Option, Some, None, length, if◌then◌else◌}
use Rattle.bsan_ids.specs.declared.numbers.AllocNo.{AllocNo}
use Rattle.history.specs.declared.entry.Entry.{Entry}
use Rattle.history.specs.declared.entry.Request.{Request}
use Rattle.history.specs.declared.entry.Request.TheVariants.{Load, Store, Modify, CmpXchg, CopyOut, CopyIn, Free}
use Rattle.history.specs.declared.entry.Plain.{Plain}
use Rattle.history.specs.declared.entry.Plain.TheVariants.{Trapped}
use Rattle.ir_ast.specs.Words.{width_bytes, ty_bytes}

abbrev pub is_trap : Plain → Bool
is_trap (Trapped trap) = true
is_trap _ = false

abbrev pub has_trapped : Entry → Bool
has_trapped entry = is_trap entry.reply.plain

abbrev pub reads : Request → Bool
reads (Load at ty prov) = true
reads (CopyOut at len prov) = true
reads _ = false

abbrev pub writes : Request → Bool
writes (Store at ty value carried prov) = true
writes (Modify at width op value prov) = true
writes (CmpXchg at width expected value prov) = true
writes (CopyIn at piece prov) = true
writes (Free at stack prov) = true
writes _ = false

abbrev pub is_atomic : Request → Bool
is_atomic (Modify at width op value prov) = true
is_atomic (CmpXchg at width expected value prov) = true
is_atomic _ = false

abbrev pub is_free : Request → Bool
is_free (Free at stack prov) = true
is_free _ = false

-- the bytes that a request reads or writes: the offset of the first, and how many they are
abbrev pub start_of : Request → ℕ
start_of (Load at ty prov) = at
start_of (Store at ty value carried prov) = at
start_of (Modify at width op value prov) = at
start_of (CmpXchg at width expected value prov) = at
start_of (CopyOut at len prov) = at
start_of (CopyIn at piece prov) = at
start_of _ = 0

abbrev pub bytes_of : Request → ℕ
bytes_of (Load at ty prov) = ty_bytes ty
bytes_of (Store at ty value carried prov) = ty_bytes ty
bytes_of (Modify at width op value prov) = width_bytes width
bytes_of (CmpXchg at width expected value prov) = width_bytes width
bytes_of (CopyOut at len prov) = len
bytes_of (CopyIn at piece prov) = length piece
bytes_of _ = 0

abbrev pub end_of : Request → ℕ
end_of request = start_of request + bytes_of request

-- the two ranges have a byte in common, or one of them is a free's, which overlaps every range
abbrev pub overlap : Request → Request → Bool
overlap a b = is_free a || is_free b || nat_lt (max (start_of a) (start_of b)) (min (end_of a) (end_of b))

-- it reads or writes, and its reply is no trap
abbrev pub accesses : Entry → Bool
accesses entry = not (has_trapped entry) && (reads entry.request || writes entry.request)

-- the allocation that it accesses
abbrev pub accessed : Entry → Option AllocNo
accessed entry = if accesses entry then entry.alloc else None

-- both name an allocation, and the same one
abbrev pub same_alloc : Option AllocNo → Option AllocNo → Bool
same_alloc (Some a) (Some b) = a.0 == b.0
same_alloc _ _ = false

-- both access the same allocation, their ranges overlap, one of them writes, and not both are atomic
abbrev pub conflict : Entry → Entry → Bool
conflict e f =
    accesses e && accesses f && same_alloc e.alloc f.alloc && overlap e.request f.request
    && (writes e.request || writes f.request) && not (is_atomic e.request && is_atomic f.request)
