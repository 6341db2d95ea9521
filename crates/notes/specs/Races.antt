-- Notes on data races.
use Rattle.std.specs.Prelude.{ℕ, List, ◌++◌, codes}
use Rattle.std.specs.Fmt.{decimal}
use Rattle.history.specs.declared.entry.Entry.{Entry}
use Rattle.race_check.specs.declared.race.Race.{Race}
use Rattle.notes.specs.Deeds.{deed_phrase}
use Rattle.notes.specs.Sources.{Listing, heading, note, help_line}

abbrev pub race_help : List ℕ
race_help = codes "nothing orders the two accesses; let one thread join the other before it goes on, or order them by atomic accesses"

abbrev pub race_line : Race → List ℕ
race_line race = codes "race on allocation " ++ (decimal race.alloc.0 ++ codes "\n")

-- WHICH access, DEED, was made
abbrev pub access_phrase : List ℕ → Entry → List ℕ
access_phrase which step = which ++ (codes ", " ++ (deed_phrase (codes "a non-atomic ") step.request ++ codes ", was made"))

abbrev pub access_note : Listing → List ℕ → Entry → List ℕ
access_note l which step = note l (access_phrase which step) step

-- the allocation; both accesses, what they did and their excerpts; and a sentence of help
abbrev pub race_note : Listing → Race → List ℕ
race_note l race = heading l.source (race_line race) ++ (access_note l (codes "one access") race.earlier
    ++ (access_note l (codes "the other access") race.later ++ help_line l.source race_help))
