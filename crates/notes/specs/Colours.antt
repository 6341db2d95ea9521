-- Words in a colour, as terminals read it.
use Rattle.std.specs.Prelude.{ℕ, Bool, true, false, List, ◌∷◌, ◌++◌, codes}
use Rattle.notes.specs.declared.colours.Colour.{Colour}
use Rattle.notes.specs.declared.colours.Colour.TheVariants.{Red, Green, Cyan}

-- what begins a colour, in bold; a code begins with the byte 27
abbrev pub start_code : Colour → List ℕ
start_code Red = 27 ∷ codes "[1;31m"
start_code Green = 27 ∷ codes "[1;32m"
start_code Cyan = 27 ∷ codes "[1;36m"

-- what ends it
abbrev pub end_code : List ℕ
end_code = 27 ∷ codes "[0m"

-- the words, in the colour where colours are wanted
abbrev pub painted : Bool → Colour → List ℕ → List ℕ
painted false colour words = words
painted true colour words = start_code colour ++ (words ++ end_code)
