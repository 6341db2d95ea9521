-- The file with rules of a call.
use Rattle.std.specs.Prelude.{ℕ, List}
use Rattle.ir_ast.specs.declared.program.Program.{Program}
use Rattle.ir_text.specs.Bytes.{most_bytes}
use Rattle.suppress.specs.Files.{AreRules, IsFault, lines_of}
use Rattle.suppress.specs.declared.read.RulesFault.{RulesFault}
use Rattle.suppress.specs.declared.read.RulesFault.TheVariants as rules
use Rattle.suppress.specs.declared.rules.Rules.{Rules}
use Rattle.bsan.specs.Seen.{FilesSeen, Failed, WasTooLong, WasRead}
use Rattle.bsan.specs.Words.{Text}
use Rattle.bsan.specs.declared.outcome.LineFault.{LineFault}
use Rattle.bsan.specs.declared.outcome.LineFault.TheVariants.{BadLine, NoFunction}
use Rattle.bsan.specs.declared.outcome.Role.TheVariants as role
use Rattle.bsan.specs.declared.outcome.Outcome.{Outcome}
use Rattle.bsan.specs.declared.outcome.Outcome.TheVariants.{FileFault, TooLong, RulesRefused}

-- the fault of a text that is refused at this line
abbrev pub rules_fault : LineFault → ℕ → RulesFault
rules_fault BadLine line = rules.BadLine line
rules_fault NoFunction line = rules.NoFunction line

-- the text is one of rules for the program, and these are they
abbrev pub AreRulesIn : Program → List ℕ → Rules → Type 0
AreRulesIn program text rules = AreRules program.functions (lines_of text) rules.list

-- the line of this number is the first one of the text that is refused, and this is why
abbrev pub IsRefusedAt : Program → List ℕ → LineFault → ℕ → Type 0
IsRefusedAt program text why line = IsFault program.functions (lines_of text) (rules_fault why line)

-- P holds of the text that was read of the file
abbrev pub OfRead : FilesSeen → Text → (List ℕ → Type 0) → Type 0
OfRead files file P = (text : List ℕ) × WasRead files file most_bytes text × P text

-- what was found is why a text is none of rules
abbrev pub AreNoRules : Program → List ℕ → Outcome → Type 0
AreNoRules program text (RulesRefused why line) = IsRefusedAt program text why line
AreNoRules program text found = ⊥

-- what was found is why no rules were read of the file
abbrev pub AreUnloaded : FilesSeen → Program → Text → Outcome → Type 0
AreUnloaded files program file (FileFault role.Rules) = Failed files file
AreUnloaded files program file (TooLong role.Rules) = WasTooLong files file most_bytes
AreUnloaded files program file (RulesRefused why line) = OfRead files file (λ text. IsRefusedAt program text why line)
AreUnloaded files program file found = ⊥
