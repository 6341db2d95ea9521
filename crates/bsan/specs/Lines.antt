-- How refusals, faults, acceptance and right records are told.
use Rattle.std.specs.Prelude.{ℕ, List, [], ◌∷◌, ◌++◌, codes}
use Rattle.std.specs.Fmt.{decimal}
use Rattle.ir_reader.specs.FaultTexts.{fault_text}
use Rattle.ir_reader.specs.declared.fault.ReadFault.{ReadFault}
use Rattle.ir_rules.specs.declared.rule.Rule.{Rule}
use Rattle.ir_rules.specs.Least.{name_of}
use Rattle.history.specs.declared.record.RunRecord.{RunRecord}
use Rattle.record_file.specs.declared.clauses.Clause.{Clause}
use Rattle.record_file.specs.declared.clauses.Clause.TheVariants.{A, B, C, D, F}
use Rattle.report.specs.Report.{part_of}
use Rattle.bsan.specs.declared.outcome.LineFault.{LineFault}
use Rattle.bsan.specs.declared.outcome.LineFault.TheVariants.{BadLine, NoFunction}
use Rattle.bsan.specs.declared.outcome.Role.{Role}
use Rattle.bsan.specs.declared.outcome.Role.TheVariants.{Program, Rules, Input, Record}

abbrev pub usage_text : List ℕ
usage_text =
    codes "usage: bsan check FILE | instrument FILE | solo FILE | replay FILE SCHEDULE | run FILE | load SEED SIZE | races FILE SCHEDULE | record FILE | recheck FILE RECORD | hush FILE RULES | explain FILE SCHEDULE" ++ 10
    ∷ (codes "options of solo, replay, run, races, record, recheck, hush and explain: --input FILE --steps N --turns N --allocs N" ++ 10 ∷ [])

abbrev pub role_text : Role → List ℕ
role_text Program = codes "program"
role_text Rules = codes "rules"
role_text Input = codes "input"
role_text Record = codes "record"

-- read fault: ROLE
abbrev pub file_fault_line : Role → List ℕ
file_fault_line role = codes "read fault: " ++ (role_text role ++ 10 ∷ [])

-- too long: ROLE
abbrev pub too_long_line : Role → List ℕ
too_long_line role = codes "too long: " ++ (role_text role ++ 10 ∷ [])

-- not read: FAULT at PLACE
abbrev pub fault_line : ReadFault → List ℕ
fault_line fault = codes "not read: " ++ (fault_text fault ++ 10 ∷ [])

-- not verified: RULE at PLACE
abbrev pub rule_line : Rule → ℕ → List ℕ
rule_line rule at = codes "not verified: " ++ (name_of rule ++ (codes " at " ++ (decimal at ++ 10 ∷ [])))

-- why a line of rules is refused
abbrev pub line_fault_text : LineFault → List ℕ
line_fault_text BadLine = codes "BadLine"
line_fault_text NoFunction = codes "NoFunction"

-- rules refused: FAULT at line LINE
abbrev pub rules_line : LineFault → ℕ → List ℕ
rules_line why line = codes "rules refused: " ++ (line_fault_text why ++ (codes " at line " ++ (decimal line ++ 10 ∷ [])))

-- record refused: line LINE
abbrev pub record_line : ℕ → List ℕ
record_line line = codes "record refused: line " ++ (decimal line ++ 10 ∷ [])

-- the letter of a clause
abbrev pub clause_text : Clause → List ℕ
clause_text A = codes "a"
clause_text B = codes "b"
clause_text C = codes "c"
clause_text D = codes "d"
clause_text F = codes "f"

-- record refused: clause CLAUSE
abbrev pub clause_line : Clause → List ℕ
clause_line clause = codes "record refused: clause " ++ (clause_text clause ++ 10 ∷ [])

-- record holds: steps N, threads T
abbrev pub holds_line : ℕ → ℕ → List ℕ
holds_line steps threads = codes "record holds: steps " ++ (decimal steps ++ (codes ", threads " ++ (decimal threads ++ 10 ∷ [])))

-- load SEED SIZE, with the summary of the run and its status
abbrev pub load_text : ℕ → ℕ → RunRecord → List ℕ
load_text seed size kept =
    codes "load " ++ (decimal seed ++ (codes " " ++ (decimal size ++ (codes ": " ++ (part_of 4 kept ++ part_of 5 kept)))))

-- accepted: F functions, I instructions
abbrev pub accepted_line : ℕ → ℕ → List ℕ
accepted_line functions instructions =
    codes "accepted: " ++ (decimal functions ++ (codes " functions, " ++ (decimal instructions ++ (codes " instructions" ++ 10 ∷ []))))
