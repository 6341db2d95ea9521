-- A rules file: its lines, and the first that is refused.
use Rattle.std.specs.Prelude.{◌≡◌, ◌⊎◌, ℕ, ◌+◌, ◌==◌, List, [], ◌∷◌, ◌++◌, length}
use Rattle.std.specs.List.{slice_split}
use Rattle.ir_ast.specs.declared.program.Function.{Function}
use Rattle.suppress.specs.declared.line.Reading.{Reading}
use Rattle.suppress.specs.declared.line.Reading.TheVariants as reading
use Rattle.suppress.specs.declared.read.RulesFault.{RulesFault}
use Rattle.suppress.specs.declared.read.RulesFault.TheVariants.{BadLine, NoFunction, NoMemory}
use Rattle.suppress.specs.declared.rules.Rule.{Rule}
use Rattle.suppress.specs.Lines.{Reads}

-- the lines, without the newlines between them
abbrev pub lines_of : List ℕ → List (List ℕ)
lines_of bytes = slice_split (λ byte. byte == 10) bytes

-- no line is refused, and these are the rules, in order
abbrev pub AreRules : List Function → List (List ℕ) → List Rule → Type 0
AreRules functions [] rules = rules ≡ []
AreRules functions (line ∷ lines) rules =
    (Reads functions line reading.Blank × AreRules functions lines rules)
    ⊎ ((rule : Rule) × (more : List Rule) × (rules ≡ rule ∷ more) × Reads functions line (reading.Rule rule) × AreRules functions lines more)

-- a reading for which a file is refused
abbrev pub IsRefusal : Reading → Type 0
IsRefusal reading.NoFunction = Unit {0}
IsRefusal reading.Bad = Unit {0}
IsRefusal reading.Blank = ⊥
IsRefusal (reading.Rule rule) = ⊥

-- the line of this number, counted from 1, is read so, and no line before it is refused
pub record IsFirstRefused (functions : List Function) (lines : List (List ℕ)) (number : ℕ) (why : Reading) : Type 0 where
  pub before : List (List ℕ)
  pub line : List ℕ
  pub after : List (List ℕ)
  pub rules : List Rule
  pub stands : lines ≡ before ++ line ∷ after
  pub counted : number ≡ length before + 1
  pub taken : AreRules functions before rules
  pub refused : Reads functions line why

-- why a file is refused; out of memory says nothing of the file
abbrev pub IsFault : List Function → List (List ℕ) → RulesFault → Type 0
IsFault functions lines (BadLine number) = IsFirstRefused functions lines number reading.Bad
IsFault functions lines (NoFunction number) = IsFirstRefused functions lines number reading.NoFunction
IsFault functions lines NoMemory = Unit {0}
