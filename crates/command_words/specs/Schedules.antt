-- Schedules: numbers of threads, separated by commas.
use Rattle.std.specs.Prelude.{◌==◌, ℕ, List, [], ◌∷◌, Option, Some, None, length, map, nat_le, if◌then◌else◌}
use Rattle.std.specs.List.{slice_split}
use Rattle.clap.specs.Words.{Text}
use Rattle.command_words.specs.Numbers.{number_in}

-- the number of a thread, of at most four digits
abbrev pub pick_of : Text → Option ℕ
pick_of text = number_in 4 0 1023 text

abbrev pub cons_some : Option ℕ → Option (List ℕ) → Option (List ℕ)
cons_some (Some first) (Some rest) = Some (first ∷ rest)
cons_some first rest = None

-- all the numbers, where each is there
abbrev pub all_some : List (Option ℕ) → Option (List ℕ)
all_some [] = Some []
all_some (first ∷ rest) = cons_some first (all_some rest)

abbrev pub at_most : ℕ → Option (List ℕ) → Option (List ℕ)
at_most limit None = None
at_most limit (Some numbers) = if nat_le (length numbers) limit then Some numbers else None

-- what stands between the commas
abbrev pub picks_of : Text → Option (List ℕ)
picks_of text = all_some (map pick_of (slice_split (λ byte. byte == 44) text))

-- the numbers of a schedule, of which there are at most 65,536
unfoldable pub schedule_of : Text → Option (List ℕ)
schedule_of text = at_most 65536 (picks_of text)
