-- Notes on texts that aren't read, and on programs that aren't verified.
use Rattle.std.specs.Prelude.{ℕ, List, ◌∷◌, [], ◌++◌, codes}
use Rattle.std.specs.Fmt.{decimal}
use Rattle.excerpt.specs.Shown.{excerpt}
use Rattle.ir_reader.specs.FaultTexts.{fault_text}
use Rattle.ir_reader.specs.declared.fault.ReadFault.{ReadFault}
use Rattle.ir_reader.specs.declared.fault.ReadFault.TheVariants.{TooLarge, BadByte, IntToPtr, Unexpected, NumberTooLarge, NoMemory}
use Rattle.ir_rules.specs.Least.{name_of}
use Rattle.ir_rules.specs.declared.rule.Rule.{Rule}
use Rattle.notes.specs.Help.{fault_help, rule_help}
use Rattle.notes.specs.Sources.{Source, heading, help_line}

-- the place in the text; a reader that is out of memory refuses no place of it
abbrev pub place_of : ReadFault → ℕ
place_of (TooLarge at) = at
place_of (BadByte at) = at
place_of (IntToPtr at) = at
place_of (Unexpected at) = at
place_of (NumberTooLarge at) = at
place_of NoMemory = 0

abbrev pub refusal_line : ReadFault → List ℕ
refusal_line fault = codes "not read: " ++ (fault_text fault ++ codes "\n")

abbrev pub refusal_note : Source → ReadFault → List ℕ
refusal_note s fault = heading s (refusal_line fault) ++ (excerpt s.name s.text (place_of fault) ++ help_line s (fault_help s.text fault))

abbrev pub rule_line : Rule → ℕ → List ℕ
rule_line rule at = codes "not verified: " ++ (name_of rule ++ (codes " at " ++ (decimal at ++ codes "\n")))

abbrev pub rule_note : Source → Rule → ℕ → List ℕ
rule_note s rule at = heading s (rule_line rule at) ++ (excerpt s.name s.text at ++ help_line s (rule_help rule))
