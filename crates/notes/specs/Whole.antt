-- The notes on all that a call can find in a text.
use Rattle.std.specs.Prelude.{◌≡◌, ℕ, List, ◌++◌}
use Rattle.std.specs.List.{flat_map}
use Rattle.excerpt.specs.Places.{instruction_places}
use Rattle.explain.specs.declared.explained.Explained.{Explained}
use Rattle.explain.specs.Explanations.{AreExplained}
use Rattle.history.specs.declared.record.RunRecord.{RunRecord}
use Rattle.ir_ast.specs.declared.hosts.HostTable.{HostTable}
use Rattle.ir_ast.specs.declared.program.Program.{Program}
use Rattle.ir_reader.specs.Readings.{IsProgramOf, Refuses}
use Rattle.ir_reader.specs.declared.fault.ReadFault.{ReadFault}
use Rattle.ir_rules.specs.Least.{fault}
use Rattle.ir_rules.specs.Rules.{IsAccepted, IsFirstBroken}
use Rattle.ir_rules.specs.declared.rule.Rule.{Rule}
use Rattle.race_check.specs.declared.race.Race.{Race}
use Rattle.notes.specs.Sources.{Source, Listing}
use Rattle.notes.specs.Violations.{run_notes}
use Rattle.notes.specs.Races.{race_note}
use Rattle.notes.specs.Refusals.{refusal_note, rule_note}

-- the text of a program, with the places of its instructions, and the threads of its run
abbrev pub listing_of : Source → Program → RunRecord → Listing
listing_of s program kept =
    record { source = s; places = instruction_places program; functions = program.functions; threads = kept.threads }

-- the notes on the run of an accepted program, with these explanations of its violations, and on these races of it
abbrev pub accepted_notes : Listing → RunRecord → List Explained → List Race → List ℕ
accepted_notes l kept list races = run_notes l kept list ++ flat_map (race_note l) races

-- the text is refused so, and the note is on that
abbrev pub IsUnreadNote : Source → ReadFault → List ℕ → Type 0
IsUnreadNote s f note = Refuses s.text f × (note ≡ refusal_note s f)

-- the notes are on the run, each first violation with its explanation, and on the races
abbrev pub AreRunNotes : Listing → RunRecord → List Race → List ℕ → Type 0
AreRunNotes l kept races notes = (list : List Explained) × AreExplained kept list × (notes ≡ accepted_notes l kept list races)

-- A text is refused, and the notes are on that; or it is a program's in which a rule is broken, and they are on that; or it is
-- an accepted program's, and they are on its run and these races.
pub data AreNotes (s : Source) (hosts : HostTable) (kept : RunRecord) (races : List Race) (notes : List ℕ) : Type 0 where
  unread : (f : ReadFault) → IsUnreadNote s f notes → AreNotes s hosts kept races notes
  unverified : (p : Program) (rule : Rule) (at : ℕ) → IsProgramOf s.text p → IsFirstBroken p hosts (fault rule at) → notes ≡ rule_note s rule at
      → AreNotes s hosts kept races notes
  accepted : (p : Program) → IsProgramOf s.text p → IsAccepted p hosts → AreRunNotes (listing_of s p kept) kept races notes
      → AreNotes s hosts kept races notes
