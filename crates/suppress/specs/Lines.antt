-- A line of a rules file: how rules are written, and what they are in a program.
use Rattle.std.specs.Prelude.{◌≡◌, ℕ, ◌+◌, ◌-◌, ◌<◌, ◌≤◌, true, List, [], ◌∷◌, ◌++◌, length, codes, Option, Some, None, slice_get, option_map}
use Rattle.std.specs.List.{list_all}
use Rattle.std.specs.Str.Parse.{digits_value}
use Rattle.bsan_ids.specs.Names.{is_digit}
use Rattle.ir_ast.specs.Numbers.{function_place, number_of_function}
use Rattle.ir_ast.specs.Programs.{function_instructions}
use Rattle.ir_ast.specs.Writable.{IsName}
use Rattle.ir_ast.specs.declared.program.Function.{Function}
use Rattle.suppress.specs.declared.case.Cause.{Cause}
use Rattle.suppress.specs.declared.case.Cause.TheVariants.{Denied, StrongFree, Stranger, Freed, OutOfRange}
use Rattle.suppress.specs.declared.place.Sites.{Sites}
use Rattle.suppress.specs.declared.line.Reading.{Reading}
use Rattle.suppress.specs.declared.line.Reading.TheVariants as reading
use Rattle.suppress.specs.declared.rules.Rule.{Rule}

-- where a rule holds: everywhere, at the instruction whose number these digits write, or in the function of this name
pub data Place : Type 0 where
  Everywhere : Place
  At : List ℕ → Place
  In : List ℕ → Place

-- a rule as it is written
pub record Written : Type 0 where
  pub cause : Option Cause
  pub place : Place

abbrev pub cause_word : Option Cause → List ℕ
cause_word None = codes "any"
cause_word (Some Denied) = codes "denied"
cause_word (Some StrongFree) = codes "strongfree"
cause_word (Some Stranger) = codes "stranger"
cause_word (Some Freed) = codes "freed"
cause_word (Some OutOfRange) = codes "outofrange"

abbrev pub place_text : Place → List ℕ
place_text Everywhere = []
place_text (At digits) = codes " at " ++ digits
place_text (In name) = codes " in @" ++ name

abbrev pub rule_text : Written → List ℕ
rule_text rule = codes "hold " ++ (cause_word rule.cause ++ place_text rule.place)

-- one to five digits, which write 65,535 at most
pub record IsSite (digits : List ℕ) : Type 0 where
  pub some : 0 < length digits
  pub few : length digits ≤ 5
  pub decimal : list_all is_digit digits ≡ true
  pub small : digits_value 10 digits ≤ 65535

abbrev pub IsPlace : Place → Type 0
IsPlace Everywhere = Unit {0}
IsPlace (At digits) = IsSite digits
IsPlace (In name) = IsName name

-- the line is this rule
pub record Writes (line : List ℕ) (rule : Written) : Type 0 where
  pub text : line ≡ rule_text rule
  pub place : IsPlace rule.place

-- an empty line, or a comment
abbrev pub IsBlank : List ℕ → Type 0
IsBlank [] = Unit {0}
IsBlank (byte ∷ bytes) = byte ≡ 59

-- the instructions of a function, of which the first has this number
abbrev pub sites_from : ℕ → Option Function → Option Sites
sites_from first function = option_map (λ f. record { first = first; last = first + function_instructions f - 1 }) function

-- those of the function of this name, if there is one
abbrev pub function_sites : List Function → List ℕ → Option Sites
function_sites functions name =
    sites_from (number_of_function 0 functions (function_place functions name)) (slice_get functions (function_place functions name))

abbrev pub sites_of : List Function → Place → Option Sites
sites_of functions Everywhere = Some (record { first = 0; last = 4294967295 })
sites_of functions (At digits) = Some (record { first = digits_value 10 digits; last = digits_value 10 digits })
sites_of functions (In name) = function_sites functions name

-- the rule in a program of these functions, if the function that it names is there
abbrev pub rule_of : List Function → Written → Option Rule
rule_of functions rule =
    option_map (λ sites. record { cause = rule.cause; first = sites.first; last = sites.last }) (sites_of functions rule.place)

-- which rule a line is, if it is one; without the function that it names there is none in the program
abbrev pub NamesRule : List Function → List ℕ → Option (Option Rule) → Type 0
NamesRule functions line (Some rule) = (written : Written) × Writes line written × (rule ≡ rule_of functions written)
NamesRule functions line None = (written : Written) → Writes line written → ⊥

-- what a line is in such a program: no rule, a rule, one that names a function that is not there, or none of these
abbrev pub Reads : List Function → List ℕ → Reading → Type 0
Reads functions line reading.Blank = IsBlank line
Reads functions line (reading.Rule rule) = NamesRule functions line (Some (Some rule))
Reads functions line reading.NoFunction = NamesRule functions line (Some None)
Reads functions line reading.Bad = (IsBlank line → ⊥) × NamesRule functions line None

-- which sites the text behind a rule's cause names, if it names a place
abbrev pub NamesSites : List Function → List ℕ → Option (Option Sites) → Type 0
NamesSites functions text (Some sites) = (place : Place) × (text ≡ place_text place) × IsPlace place × (sites ≡ sites_of functions place)
NamesSites functions text None = (place : Place) → IsPlace place → text ≡ place_text place → ⊥
