-- Each request that a thread asks of an allocation is one that allocations answer, and fits, in every state that a thread can reach.
use Rattle.std.specs.Prelude.{◌≡◌, ℕ, suc, ◌<◌, ◌≤◌, List, [], ◌∷◌, Option, Some, None, true, false, length}
use Rattle.history.specs.declared.ask.Arg.{Arg}
use Rattle.history.specs.declared.ask.Ask.TheVariants as ask
use Rattle.history.specs.declared.entry.Entry.{Entry}
use Rattle.history.specs.declared.entry.Request.{Request}
use Rattle.history.specs.declared.entry.Request.TheVariants as request
use Rattle.history.specs.Histories.{fits}
use Rattle.history.specs.Pieces.{Byte}
use Rattle.bsan_ids.specs.declared.numbers.AllocNo.{AllocNo}
use Rattle.ir_ast.specs.declared.types.Attr.{Attr}
use Rattle.ir_ast.specs.declared.types.Place.{Place}
use Rattle.ir_ast.specs.declared.program.Inst.{Inst}
use Rattle.ir_ast.specs.declared.program.Param.{Param}
use Rattle.runs.specs.Parts.{Answers, IsOnNumber}
use Rattle.thread_parts.specs.Parts.{Part, Copies}
use Rattle.thread_parts.specs.Copies.{Progress, copy_done}
use Rattle.source_sem.specs.Source.{Setting, Source, Frame, Doing, Entering, Copying, Retagging, op_part, source_ask, source_turn, source_answer, source_start, source_child, source_fits}

abbrev pub IsSized : Option Attr → Type 0
IsSized None = Unit {0}
IsSized (Some a) = 0 < a.size

abbrev pub AllSized : List Param → Type 0
AllSized [] = Unit {0}
AllSized (p ∷ ps) = IsSized p.attr × AllSized ps

-- a piece that was read has 1 to 32 bytes
abbrev pub HalfFits : Option (List Byte) → Type 0
HalfFits None = Unit {0}
HalfFits (Some piece) = (0 < length piece) × (length piece ≤ 32)

-- a copy that has begun isn't done
abbrev pub CopyGoes : Part → Progress → Type 0
CopyGoes (Copies d s n) pr = (copy_done n pr ≡ false) × HalfFits pr.half
CopyGoes other pr = Unit {0}

abbrev pub CopyStands : Setting → Frame → ℕ → List Inst → Progress → Type 0
CopyStands x f depth [] pr = Unit {0}
CopyStands x f depth (i ∷ rest) pr = CopyGoes (op_part x f.function depth f.env i.op) pr

abbrev pub DoingFits : Setting → Frame → ℕ → Doing → Type 0
DoingFits x f depth (Entering ps) = AllSized ps
DoingFits x f depth (Copying pr) = CopyStands x f depth f.insts pr
DoingFits x f depth (Retagging dest v a) = 0 < a.size
DoingFits x f depth other = Unit {0}

-- what the newest frame does
abbrev pub TopFits : Setting → List Frame → Type 0
TopFits x [] = Unit {0}
TopFits x (f ∷ fs) = DoingFits x f (suc (length fs)) f.doing

pub record RequestLaw (x : Setting) : Type 0 where
  pub start : (k : ℕ) (args : List Arg) → TopFits x (source_start x k args).frames
  pub child : (s : Source) → TopFits x (source_child x s).frames
  pub turn : (s : Source) → TopFits x s.frames → TopFits x (source_turn x s).frames
  pub after : (s : Source) (e : Entry) → TopFits x s.frames → Answers (source_ask x s) e → source_fits x s e → TopFits x (source_answer x s e.reply).frames
  pub asks : (s : Source) (a : AllocNo) (r : Request) → TopFits x s.frames → source_ask x s ≡ ask.At a r → fits r ≡ true
  pub numbered : (s : Source) (a : AllocNo) (r : Request) → source_ask x s ≡ ask.At a r → IsOnNumber r
  pub makes : (s : Source) (size : ℕ) (place : Place) → TopFits x s.frames → source_ask x s ≡ ask.Make size place → fits (request.Make size place) ≡ true
