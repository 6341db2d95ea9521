-- Replies that fit their requests.
use Rattle.std.specs.Prelude.{ℕ, ◌^◌, Some, None, true, false, ◌≡◌, ◌<◌, ◌⊎◌, length}
use Rattle.std.specs.declared.option.Option.{Option}
use Rattle.history.specs.declared.ask.Arg.{Arg}
use Rattle.ir_ast.specs.declared.types.Ty.{Ty}
use Rattle.ir_ast.specs.declared.types.Ty.TheVariants.{Int}
use Rattle.bsan_ids.specs.declared.numbers.AllocNo.{AllocNo}
use Rattle.history.specs.declared.entry.Plain.{Plain}
use Rattle.history.specs.declared.entry.Plain.TheVariants as plain
use Rattle.history.specs.declared.entry.Reply.{Reply}
use Rattle.history.specs.declared.entry.Request.{Request}
use Rattle.history.specs.declared.entry.Request.TheVariants as request
use Rattle.ir_ast.specs.Words.{bits, word_bits}
use Rattle.thread_parts.specs.Words.{prov_at}
use Rattle.history.specs.declared.entry.Entry.{Entry}

-- a word of this type, with a provenance only where it is a pointer
pub record ValueFits (ty : Ty) (v : Arg) : Type 0 where
  pub word : v.value < 2 ^ word_bits ty
  pub prov : prov_at ty v.prov ≡ v.prov

abbrev pub IsTrap : Plain → Type 0
IsTrap (plain.Trapped e) = Unit {0}
IsTrap other = ⊥

abbrev pub IsDone : Plain → Type 0
IsDone plain.Done = Unit {0}
IsDone other = ⊥

abbrev pub ValueIn : Ty → Reply → Plain → Type 0
ValueIn ty r (plain.Value v) = ValueFits ty (record { value = v; prov = r.carried })
ValueIn ty r (plain.Trapped e) = Unit {0}
ValueIn ty r other = ⊥

abbrev pub CopiedOf : ℕ → Plain → Type 0
CopiedOf n (plain.Copied piece) = length piece ≡ n
CopiedOf n (plain.Trapped e) = Unit {0}
CopiedOf n other = ⊥

abbrev pub MadeAt : Entry → Plain → Type 0
MadeAt e (plain.Made a) = (e.alloc ≡ Some a) × (e.reply.carried ≡ Some (record { alloc = a; tag = record { 0 = e.stamp.0 } }))
MadeAt e other = ⊥

abbrev pub RetaggedAt : Entry → Plain → Type 0
RetaggedAt e (plain.Retagged true) = (a : AllocNo) × (e.alloc ≡ Some a) × (e.reply.carried ≡ Some (record { alloc = a; tag = record { 0 = e.stamp.0 } }))
RetaggedAt e (plain.Retagged false) = Unit {0}
RetaggedAt e other = ⊥

abbrev pub SpawnedChild : Plain → Type 0
SpawnedChild (plain.Spawned c) = c.0 < 2 ^ 32
SpawnedChild other = ⊥

-- a word of 64 bits; nothing is asked of what it carries
abbrev pub IsWord : Plain → Type 0
IsWord (plain.Value v) = v < 2 ^ 64
IsWord other = ⊥

abbrev pub JoinFits : Option Ty → Reply → Plain → Type 0
JoinFits (Some ty) r p = ValueIn ty r p
JoinFits None r (plain.Value v) = Unit {0}
JoinFits None r other = ⊥

abbrev pub ReplyFits : Option Ty → Entry → Request → Type 0
ReplyFits ty e (request.Make n place) = MadeAt e e.reply.plain
ReplyFits ty e (request.Load at u prov) = ValueIn u e.reply e.reply.plain
ReplyFits ty e (request.Store at u v c prov) = IsDone e.reply.plain ⊎ IsTrap e.reply.plain
ReplyFits ty e (request.Modify at w o v prov) = ValueIn (Int w) e.reply e.reply.plain
ReplyFits ty e (request.CmpXchg at w a v prov) = ValueIn (Int w) e.reply e.reply.plain
ReplyFits ty e (request.CopyOut at n prov) = CopiedOf n e.reply.plain
ReplyFits ty e (request.CopyIn at piece prov) = IsDone e.reply.plain ⊎ IsTrap e.reply.plain
ReplyFits ty e (request.Free at stack prov) = IsDone e.reply.plain ⊎ IsTrap e.reply.plain
ReplyFits ty e (request.Retag at n kind guard prov) = RetaggedAt e e.reply.plain
ReplyFits ty e (request.EndProtector tag) = IsDone e.reply.plain
ReplyFits ty e (request.Print v) = IsDone e.reply.plain
ReplyFits ty e (request.Host n a b) = IsWord e.reply.plain
ReplyFits ty e (request.Spawn k) = SpawnedChild e.reply.plain
ReplyFits ty e (request.Join c) = JoinFits ty e.reply e.reply.plain × (IsTrap e.reply.plain → ⊥)
