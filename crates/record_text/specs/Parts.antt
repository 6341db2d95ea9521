-- How requests, replies and ends are read.
use Rattle.std.specs.Prelude.{ℕ, ◌==◌, Bool, nat_le, Option, Some, None, List, [], ◌∷◌, length, codes, if◌then◌else◌}
use Rattle.std.specs.Str.{bytes_eq}
use Rattle.std.specs.List.{slice_split}
use Rattle.bsan_ids.specs.declared.numbers.AllocNo.{AllocNo}
use Rattle.bsan_ids.specs.declared.numbers.ThreadNo.{ThreadNo}
use Rattle.bsan_ids.specs.declared.numbers.Prov.{Prov}
use Rattle.bsan_ids.specs.declared.numbers.Frag.{Frag}
use Rattle.perm_table.specs.declared.Perm.{Perm}
use Rattle.perm_table.specs.declared.Guard.{Guard}
use Rattle.perm_table.specs.declared.RetagKind.{RetagKind}
use Rattle.eager_tree.specs.declared.violation.Violation.TheVariants as violation
use Rattle.ir_ast.specs.declared.types.Width.{Width}
use Rattle.ir_ast.specs.declared.types.Ty.{Ty}
use Rattle.ir_ast.specs.declared.types.Place.{Place}
use Rattle.ir_ast.specs.declared.operators.ModifyOp.{ModifyOp}
use Rattle.history.specs.Pieces.{Byte}
use Rattle.history.specs.declared.trap.Trap.{Trap}
use Rattle.history.specs.declared.trap.Trap.TheVariants as trap
use Rattle.history.specs.declared.log.End.{End}
use Rattle.history.specs.declared.log.End.TheVariants as ends
use Rattle.history.specs.declared.entry.Request.{Request}
use Rattle.history.specs.declared.entry.Request.TheVariants as request
use Rattle.history.specs.declared.entry.Plain.{Plain}
use Rattle.history.specs.declared.entry.Plain.TheVariants as plain
use Rattle.history.specs.declared.entry.Verdict.{Verdict}
use Rattle.history.specs.declared.entry.Verdict.TheVariants as verdict
use Rattle.record_text.specs.declared.keys.RequestKey.{RequestKey}
use Rattle.record_text.specs.declared.keys.RequestKey.TheVariants as request_key
use Rattle.record_text.specs.declared.keys.PlainKey.{PlainKey}
use Rattle.record_text.specs.declared.keys.PlainKey.TheVariants as plain_key
use Rattle.record_text.specs.declared.keys.VerdictKey.{VerdictKey}
use Rattle.record_text.specs.declared.keys.VerdictKey.TheVariants as verdict_key
use Rattle.record_text.specs.declared.keys.EndKey.{EndKey}
use Rattle.record_text.specs.declared.keys.EndKey.TheVariants as end_key
use Rattle.record_text.specs.Reading.{Words, Reader, ◌>>=◌, one, both, mapped, given, two_of, three_of, lookup, number64, number32, number8}
use Rattle.record_text.specs.Tables.{types, widths, modifiers, kinds, guards, places, perms, traps, flags, sides, request_keys, plain_keys, verdict_keys, end_keys}

-- ---- single words

abbrev pub alloc_no : ℕ → AllocNo
alloc_no n = record { 0 = n }

abbrev pub prov_of : ℕ → ℕ → Prov
prov_of alloc tag = record { alloc = record { 0 = alloc }; tag = record { 0 = tag } }

abbrev pub prov_from : List ℕ × List ℕ → Option (Option Prov)
prov_from x = number32 x.0 >>= λ alloc. number64 x.1 >>= λ tag. Some (Some (prov_of alloc tag))

unfoldable pub prov_in : List ℕ → Option (Option Prov)
prov_in w = if bytes_eq w (codes "-") then Some None else two_of (slice_split (λ b. b == 46) w) >>= prov_from

abbrev pub some_thread : ℕ → Option ThreadNo
some_thread n = Some (record { 0 = n })

unfoldable pub parent_in : List ℕ → Option (Option ThreadNo)
parent_in w = if bytes_eq w (codes "-") then Some None else number32 w >>= λ n. Some (some_thread n)

abbrev pub frag_of : ℕ → ℕ → ℕ → Frag
frag_of alloc tag index = record { prov = prov_of alloc tag; index = index }

abbrev pub frag_from : List ℕ × (List ℕ × List ℕ) → Option Frag
frag_from x = number32 x.0 >>= λ alloc. number64 x.1.0 >>= λ tag. number8 x.1.1 >>= λ index. Some (frag_of alloc tag index)

unfoldable pub frag_in : List ℕ → Option Frag
frag_in w = three_of (slice_split (λ b. b == 46) w) >>= frag_from

abbrev pub byte_from : Words → Option Byte
byte_from (b ∷ []) = number8 b >>= λ byte. Some (byte, None)
byte_from (b ∷ f ∷ []) = number8 b >>= λ byte. frag_in f >>= λ frag. Some (byte, Some frag)
byte_from _ = None

unfoldable pub byte_in : List ℕ → Option Byte
byte_in w = byte_from (slice_split (λ b. b == 58) w)

unfoldable pub bytes_in : Words → Option (List Byte)
bytes_in [] = Some []
bytes_in (w ∷ ws) = byte_in w >>= λ b. bytes_in ws >>= λ bs. Some (b ∷ bs)

-- at most as many bytes as a piece has
abbrev pub few : List Byte → Option (List Byte)
few bytes = if nat_le (length bytes) 32 then Some bytes else None

-- what is between `[` and `]`
abbrev pub closed_in : List ℕ × List ℕ → Option (List ℕ)
closed_in (inner, []) = Some inner
closed_in (inner, b ∷ bs) = None

abbrev pub opened_in : List ℕ × List ℕ → Option (List ℕ)
opened_in ([], rest) = two_of (slice_split (λ b. b == 93) rest) >>= closed_in
opened_in (b ∷ bs, rest) = None

unfoldable pub enclosed : List ℕ → Option (List ℕ)
enclosed w = two_of (slice_split (λ b. b == 91) w) >>= opened_in

-- bytes with commas between them
unfoldable pub few_in : List ℕ → Option (List Byte)
few_in text = bytes_in (slice_split (λ c. c == 44) text) >>= few

abbrev pub listed : List ℕ → Option (List Byte)
listed [] = Some []
listed (b ∷ bs) = few_in (b ∷ bs)

unfoldable pub piece_in : List ℕ → Option (List Byte)
piece_in w = enclosed w >>= listed

-- ---- traps

abbrev pub with_drawn : Trap → Reader Trap
with_drawn (trap.AllocLimit drawn) = mapped trap.AllocLimit (one number64)
with_drawn (trap.ThreadLimit drawn) = mapped trap.ThreadLimit (one number64)
with_drawn other = given other

-- one, and then what the value that it gives asks for
abbrev pub chosen : {K A : Type 0} → Reader K → (K → Reader A) → Reader A
chosen key tail ws = key ws >>= λ x. tail x.0 x.1

unfoldable pub trap_at : Reader Trap
trap_at = chosen (one (lookup traps)) with_drawn

-- ---- ends

abbrev pub returned_of : ℕ × Option Prov → End
returned_of x = ends.Returned x.0 x.1

abbrev pub step_limit_of : ℕ → End
step_limit_of n = ends.StepLimit (record { 0 = n })

abbrev pub child_ended_of : ℕ → End
child_ended_of n = ends.ChildEnded (record { 0 = n })

abbrev pub end_tail : EndKey → Reader End
end_tail end_key.Returned = mapped returned_of (both (one number64) (one prov_in))
end_tail end_key.Trapped = mapped ends.Trapped trap_at
end_tail end_key.StepLimit = mapped step_limit_of (one number64)
end_tail end_key.TurnLimit = given ends.TurnLimit
end_tail end_key.NoMemory = given ends.NoMemory
end_tail end_key.ChildEnded = mapped child_ended_of (one number32)

unfoldable pub end_at : Reader End
end_at = chosen (one (lookup end_keys)) end_tail

-- ---- requests, each with the allocation that it asks

abbrev pub Asked : Type 0
Asked = Option AllocNo × Request

abbrev pub load_of : ℕ × (ℕ × (Ty × Option Prov)) → Asked
load_of x = (Some (alloc_no x.0), request.Load x.1.0 x.1.1.0 x.1.1.1)

unfoldable pub load_at : Reader Asked
load_at = mapped load_of (both (one number32) (both (one number32) (both (one (lookup types)) (one prov_in))))

abbrev pub store_of : ℕ × (ℕ × (Ty × (ℕ × (Option Prov × Option Prov)))) → Asked
store_of x = (Some (alloc_no x.0), request.Store x.1.0 x.1.1.0 x.1.1.1.0 x.1.1.1.1.0 x.1.1.1.1.1)

unfoldable pub store_at : Reader Asked
store_at = mapped store_of (both (one number32) (both (one number32) (both (one (lookup types)) (both (one number64) (both (one prov_in) (one prov_in))))))

abbrev pub modify_of : ℕ × (ℕ × (Width × (ModifyOp × (ℕ × Option Prov)))) → Asked
modify_of x = (Some (alloc_no x.0), request.Modify x.1.0 x.1.1.0 x.1.1.1.0 x.1.1.1.1.0 x.1.1.1.1.1)

unfoldable pub modify_at : Reader Asked
modify_at = mapped modify_of (both (one number32) (both (one number32) (both (one (lookup widths)) (both (one (lookup modifiers)) (both (one number64) (one prov_in))))))

abbrev pub exchange_of : ℕ × (ℕ × (Width × (ℕ × (ℕ × Option Prov)))) → Asked
exchange_of x = (Some (alloc_no x.0), request.CmpXchg x.1.0 x.1.1.0 x.1.1.1.0 x.1.1.1.1.0 x.1.1.1.1.1)

unfoldable pub exchange_at : Reader Asked
exchange_at = mapped exchange_of (both (one number32) (both (one number32) (both (one (lookup widths)) (both (one number64) (both (one number64) (one prov_in))))))

abbrev pub out_of : ℕ × (ℕ × (ℕ × Option Prov)) → Asked
out_of x = (Some (alloc_no x.0), request.CopyOut x.1.0 x.1.1.0 x.1.1.1)

unfoldable pub out_at : Reader Asked
out_at = mapped out_of (both (one number32) (both (one number32) (both (one number8) (one prov_in))))

abbrev pub into_of : ℕ × (ℕ × (List Byte × Option Prov)) → Asked
into_of x = (Some (alloc_no x.0), request.CopyIn x.1.0 x.1.1.0 x.1.1.1)

unfoldable pub into_at : Reader Asked
into_at = mapped into_of (both (one number32) (both (one number32) (both (one piece_in) (one prov_in))))

abbrev pub retag_of : ℕ × (ℕ × (ℕ × (RetagKind × (Guard × Option Prov)))) → Asked
retag_of x = (Some (alloc_no x.0), request.Retag x.1.0 x.1.1.0 x.1.1.1.0 x.1.1.1.1.0 x.1.1.1.1.1)

unfoldable pub retag_at : Reader Asked
retag_at = mapped retag_of (both (one number32) (both (one number32) (both (one number32) (both (one (lookup kinds)) (both (one (lookup guards)) (one prov_in))))))

abbrev pub protector_of : ℕ × ℕ → Asked
protector_of x = (Some (alloc_no x.0), request.EndProtector (record { 0 = x.1 }))

unfoldable pub protector_at : Reader Asked
protector_at = mapped protector_of (both (one number32) (one number64))

abbrev pub free_of : ℕ × (ℕ × (Bool × Option Prov)) → Asked
free_of x = (Some (alloc_no x.0), request.Free x.1.0 x.1.1.0 x.1.1.1)

unfoldable pub free_at : Reader Asked
free_at = mapped free_of (both (one number32) (both (one number32) (both (one (lookup flags)) (one prov_in))))

abbrev pub make_of : ℕ × Place → Asked
make_of x = (None, request.Make x.0 x.1)

unfoldable pub make_at : Reader Asked
make_at = mapped make_of (both (one number32) (one (lookup places)))

abbrev pub print_of : ℕ → Asked
print_of value = (None, request.Print value)

unfoldable pub print_at : Reader Asked
print_at = mapped print_of (one number64)

abbrev pub host_of : ℕ × (ℕ × ℕ) → Asked
host_of x = (None, request.Host x.0 x.1.0 x.1.1)

unfoldable pub host_at : Reader Asked
host_at = mapped host_of (both (one number32) (both (one number64) (one number64)))

abbrev pub spawn_of : ℕ → Asked
spawn_of function = (None, request.Spawn function)

unfoldable pub spawn_at : Reader Asked
spawn_at = mapped spawn_of (one number32)

abbrev pub join_of : ℕ → Asked
join_of child = (None, request.Join (record { 0 = child }))

unfoldable pub join_at : Reader Asked
join_at = mapped join_of (one number32)

abbrev pub request_tail : RequestKey → Reader Asked
request_tail request_key.Load = load_at
request_tail request_key.Store = store_at
request_tail request_key.Modify = modify_at
request_tail request_key.CmpXchg = exchange_at
request_tail request_key.CopyOut = out_at
request_tail request_key.CopyIn = into_at
request_tail request_key.Retag = retag_at
request_tail request_key.EndProtector = protector_at
request_tail request_key.Free = free_at
request_tail request_key.Make = make_at
request_tail request_key.Print = print_at
request_tail request_key.Host = host_at
request_tail request_key.Spawn = spawn_at
request_tail request_key.Join = join_at

unfoldable pub request_at : Reader Asked
request_at = chosen (one (lookup request_keys)) request_tail

-- ---- replies

abbrev pub made_of : ℕ → Plain
made_of n = plain.Made (record { 0 = n })

abbrev pub spawned_of : ℕ → Plain
spawned_of n = plain.Spawned (record { 0 = n })

abbrev pub plain_tail : PlainKey → Reader Plain
plain_tail plain_key.Made = mapped made_of (one number32)
plain_tail plain_key.Value = mapped plain.Value (one number64)
plain_tail plain_key.Copied = mapped plain.Copied (one piece_in)
plain_tail plain_key.Done = given plain.Done
plain_tail plain_key.Retagged = mapped plain.Retagged (one (lookup flags))
plain_tail plain_key.Spawned = mapped spawned_of (one number32)
plain_tail plain_key.Trapped = mapped plain.Trapped trap_at

unfoldable pub plain_at : Reader Plain
plain_at = chosen (one (lookup plain_keys)) plain_tail

abbrev pub denied_of : ℕ × (ℕ × (Perm × Bool)) → Verdict
denied_of x = verdict.Violated (violation.Denied x.0 (record { 0 = x.1.0 }) x.1.1.0 x.1.1.1)

unfoldable pub denied_at : Reader Verdict
denied_at = mapped denied_of (both (one number32) (both (one number64) (both (one (lookup perms)) (one (lookup sides)))))

abbrev pub strong_free_of : ℕ × (ℕ × Perm) → Verdict
strong_free_of x = verdict.Violated (violation.StrongFree x.0 (record { 0 = x.1.0 }) x.1.1)

unfoldable pub strong_free_at : Reader Verdict
strong_free_at = mapped strong_free_of (both (one number32) (both (one number64) (one (lookup perms))))

abbrev pub verdict_tail : VerdictKey → Reader Verdict
verdict_tail verdict_key.Clean = given verdict.Clean
verdict_tail verdict_key.Closed = given verdict.Closed
verdict_tail verdict_key.Denied = denied_at
verdict_tail verdict_key.StrongFree = strong_free_at
verdict_tail verdict_key.Stranger = given (verdict.Violated violation.Stranger)
verdict_tail verdict_key.Freed = given (verdict.Violated violation.Freed)
verdict_tail verdict_key.OutOfRange = given (verdict.Violated violation.OutOfRange)

unfoldable pub verdict_at : Reader Verdict
verdict_at = chosen (one (lookup verdict_keys)) verdict_tail
