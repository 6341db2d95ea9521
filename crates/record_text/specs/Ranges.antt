-- Numbers in the range of their type, and allocations that a step names as its own.
use Rattle.std.specs.Prelude.{◌≡◌, ℕ, ◌<◌, ◌≤◌, ◌^◌, Option, Some, None, List, length}
use Rattle.std.specs.List.{AllByRecursion}
use Rattle.bsan_ids.specs.declared.numbers.AllocNo.{AllocNo}
use Rattle.bsan_ids.specs.declared.numbers.ThreadNo.{ThreadNo}
use Rattle.bsan_ids.specs.declared.numbers.Counters.{Counters}
use Rattle.bsan_ids.specs.declared.numbers.Prov.{Prov}
use Rattle.bsan_ids.specs.declared.numbers.Frag.{Frag}
use Rattle.eager_tree.specs.declared.violation.Violation.TheVariants as violation
use Rattle.history.specs.Pieces.{Byte}
use Rattle.history.specs.declared.trap.Trap.{Trap}
use Rattle.history.specs.declared.trap.Trap.TheVariants as trap
use Rattle.history.specs.declared.log.End.{End}
use Rattle.history.specs.declared.log.End.TheVariants as ends
use Rattle.history.specs.declared.entry.Request.{Request}
use Rattle.history.specs.declared.entry.Request.TheVariants as request
use Rattle.history.specs.declared.entry.Plain.{Plain}
use Rattle.history.specs.declared.entry.Plain.TheVariants as plain
use Rattle.history.specs.declared.entry.Verdict.{Verdict}
use Rattle.history.specs.declared.entry.Verdict.TheVariants as verdict
use Rattle.record_text.specs.declared.line.Head.{Head}
use Rattle.record_text.specs.declared.line.Step.{Step}
use Rattle.record_text.specs.declared.line.Line.{Line}
use Rattle.record_text.specs.declared.line.Line.TheVariants as line

abbrev pub Fits8 : ℕ → Type 0
Fits8 n = n < 256

abbrev pub Fits32 : ℕ → Type 0
Fits32 n = n < 2 ^ 32

abbrev pub Fits64 : ℕ → Type 0
Fits64 n = n < 2 ^ 64

-- ---- what is made of numbers

abbrev pub ProvFits : Option Prov → Type 0
ProvFits None = Unit {0}
ProvFits (Some p) = Fits32 p.alloc.0 × Fits64 p.tag.0

abbrev pub ParentFits : Option ThreadNo → Type 0
ParentFits None = Unit {0}
ParentFits (Some number) = Fits32 number.0

abbrev pub FragFits : Option Frag → Type 0
FragFits None = Unit {0}
FragFits (Some f) = Fits32 f.prov.alloc.0 × (Fits64 f.prov.tag.0 × Fits8 f.index)

abbrev pub ByteFits : Byte → Type 0
ByteFits b = Fits8 b.0 × FragFits b.1

-- a piece has at most 32 bytes
abbrev pub PieceFits : List Byte → Type 0
PieceFits bytes = (length bytes ≤ 32) × AllByRecursion ByteFits bytes

-- the number of an allocation that is asked
abbrev pub AllocFits : Option AllocNo → Type 0
AllocFits None = ⊥
AllocFits (Some number) = Fits32 number.0

-- ---- traps, ends, requests and replies

abbrev pub TrapFits : Trap → Type 0
TrapFits (trap.AllocLimit drawn) = Fits64 drawn
TrapFits (trap.ThreadLimit drawn) = Fits64 drawn
TrapFits other = Unit {0}

abbrev pub EndFits : End → Type 0
EndFits (ends.Returned value carried) = Fits64 value × ProvFits carried
EndFits (ends.Trapped e) = TrapFits e
EndFits (ends.StepLimit stamp) = Fits64 stamp.0
EndFits ends.TurnLimit = Unit {0}
EndFits ends.NoMemory = Unit {0}
EndFits (ends.ChildEnded child) = Fits32 child.0

-- a request, and the allocation that it asks; a Make and what asks none have none
abbrev pub RequestFits : Option AllocNo × Request → Type 0
RequestFits (alloc, request.Load at ty prov) = AllocFits alloc × (Fits32 at × ProvFits prov)
RequestFits (alloc, request.Store at ty value carried prov) = AllocFits alloc × (Fits32 at × (Fits64 value × (ProvFits carried × ProvFits prov)))
RequestFits (alloc, request.Modify at width op value prov) = AllocFits alloc × (Fits32 at × (Fits64 value × ProvFits prov))
RequestFits (alloc, request.CmpXchg at width expected value prov) = AllocFits alloc × (Fits32 at × (Fits64 expected × (Fits64 value × ProvFits prov)))
RequestFits (alloc, request.CopyOut at len prov) = AllocFits alloc × (Fits32 at × (Fits8 len × ProvFits prov))
RequestFits (alloc, request.CopyIn at piece prov) = AllocFits alloc × (Fits32 at × (PieceFits piece × ProvFits prov))
RequestFits (alloc, request.Retag at len kind guard prov) = AllocFits alloc × (Fits32 at × (Fits32 len × ProvFits prov))
RequestFits (alloc, request.EndProtector tag) = AllocFits alloc × Fits64 tag.0
RequestFits (alloc, request.Free at stack prov) = AllocFits alloc × (Fits32 at × ProvFits prov)
RequestFits (alloc, request.Make size place) = (alloc ≡ None) × Fits32 size
RequestFits (alloc, request.Print value) = (alloc ≡ None) × Fits64 value
RequestFits (alloc, request.Host number first second) = (alloc ≡ None) × (Fits32 number × (Fits64 first × Fits64 second))
RequestFits (alloc, request.Spawn function) = (alloc ≡ None) × Fits32 function
RequestFits (alloc, request.Join child) = (alloc ≡ None) × Fits32 child.0

abbrev pub PlainFits : Plain → Type 0
PlainFits (plain.Made number) = Fits32 number.0
PlainFits (plain.Value value) = Fits64 value
PlainFits (plain.Copied piece) = PieceFits piece
PlainFits plain.Done = Unit {0}
PlainFits (plain.Retagged added) = Unit {0}
PlainFits (plain.Spawned number) = Fits32 number.0
PlainFits (plain.Trapped e) = TrapFits e

abbrev pub VerdictFits : Verdict → Type 0
VerdictFits verdict.Clean = Unit {0}
VerdictFits verdict.Closed = Unit {0}
VerdictFits (verdict.Violated (violation.Denied offset node perm local)) = Fits32 offset × Fits64 node.0
VerdictFits (verdict.Violated (violation.StrongFree offset node perm)) = Fits32 offset × Fits64 node.0
VerdictFits (verdict.Violated other) = Unit {0}

-- ---- lines

abbrev pub CountersFit : Counters → Type 0
CountersFit drawn = Fits64 drawn.stamps × (Fits64 drawn.allocs × Fits64 drawn.threads)

abbrev pub HeadFits : Head → Type 0
HeadFits h = Fits32 h.number.0 × (ParentFits h.parent × (Fits32 h.entry_function × (Fits64 h.instructions × (Fits32 h.last × EndFits h.end))))

-- what the request itself says of the allocation: nothing, where it is a Make, which its reply names
abbrev pub asked : Option AllocNo → Request → Option AllocNo
asked alloc (request.Make size place) = None
asked alloc other = alloc

-- a Make is answered by the number that its step names
abbrev pub IsMadeAs : Option AllocNo → Request → Plain → Type 0
IsMadeAs alloc (request.Make size place) (plain.Made number) = alloc ≡ Some number
IsMadeAs alloc (request.Make size place) other = ⊥
IsMadeAs alloc other reply = Unit {0}

abbrev pub StepFits : Step → Type 0
StepFits s = Fits64 s.stamp.0 × (Fits32 s.site × (RequestFits (asked s.alloc s.request, s.request)
    × ((PlainFits s.reply.plain × (ProvFits s.reply.carried × VerdictFits s.reply.verdict)) × IsMadeAs s.alloc s.request s.reply.plain)))

abbrev pub LineFits : Line → Type 0
LineFits line.Title = Unit {0}
LineFits (line.Words drawn) = CountersFit drawn
LineFits (line.Thread h) = HeadFits h
LineFits (line.Step s) = StepFits s
LineFits line.End = Unit {0}
