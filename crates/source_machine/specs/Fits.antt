-- What a part needs of its reply, and of room.
use Rattle.std.specs.Prelude.{List, Option, Some, None}
use Rattle.history.specs.declared.entry.Plain.{Plain}
use Rattle.history.specs.declared.entry.Plain.TheVariants as plain
use Rattle.history.specs.Pieces.{Byte}
use Rattle.thread_parts.specs.Parts as sem
use Rattle.source_sem.specs.Source.{Doing, Ready}
use Rattle.source_machine.specs.declared.part.Step.{Step}
use Rattle.source_machine.specs.declared.part.Step.TheVariants as step
use Rattle.source_machine.specs.declared.part.Part.{Part}
use Rattle.source_machine.specs.declared.part.Part.TheVariants as part

-- the number in the reply is that of an allocation or of a thread
abbrev pub IsNumber : Plain → Type 0
IsNumber (plain.Value v) = ⊥
IsNumber other = Unit {0}

abbrev pub StepFits : Step → Plain → Type 0
StepFits (step.Makes n place) p = IsNumber p
StepFits (step.Spawns k args) p = IsNumber p
StepFits other p = Unit {0}

abbrev pub PartFits : Part → Plain → Type 0
PartFits (part.Steps s) p = StepFits s p
PartFits other p = Unit {0}

-- there is room for a piece
abbrev pub HasPieceRoom : Option (List Byte) → Type 0
HasPieceRoom None = ⊥
HasPieceRoom (Some piece) = Unit {0}

-- a copy has room for a piece
abbrev pub HasPartRoom : Part → Option (List Byte) → Type 0
HasPartRoom (part.Copies d s n) piece = HasPieceRoom piece
HasPartRoom other piece = Unit {0}

-- what an instruction needs of its reply
abbrev pub FitsPart : Option sem.Part → Plain → Type 0
FitsPart (Some (sem.Steps (sem.Makes n place))) p = IsNumber p
FitsPart (Some (sem.Steps (sem.Spawns k xs))) p = IsNumber p
FitsPart part p = Unit {0}

-- what a frame that does this needs of its reply
abbrev pub FitsDoing : Doing → Option sem.Part → Plain → Type 0
FitsDoing Ready part p = FitsPart part p
FitsDoing other part p = Unit {0}
