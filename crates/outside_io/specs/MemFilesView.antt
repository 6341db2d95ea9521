-- What files in memory show.
use Rattle.std.specs.Prelude.{ℕ, Bool, ◌==◌, ◌||◌, List, Option, is_none}
use Rattle.std.specs.List.{list_any}
use Rattle.outside_io.specs.declared.mem_files.MemFiles.{MemFiles}
use Rattle.outside_io.specs.Held.{content_of, times_named, times_limited}

-- the content of a name
abbrev pub mem_content : MemFiles → List ℕ → Option (List ℕ)
mem_content files name = content_of files.files.items name

-- the numbers of the calls that fail
abbrev pub mem_failing : MemFiles → List ℕ
mem_failing files = files.failing.items

-- the number of the next call
abbrev pub mem_next : MemFiles → ℕ
mem_next files = files.next

-- the next call fails, where it reads this name
abbrev pub mem_fails : MemFiles → List ℕ → Bool
mem_fails files name =
    list_any (λ number. number == mem_next files) (mem_failing files) || is_none (mem_content files name)

-- the names whose reads failed, first to last
abbrev pub mem_failed : MemFiles → List (List ℕ)
mem_failed files = files.failed

-- the names that were longer than a limit, each with that limit, first to last
abbrev pub mem_too_long : MemFiles → List (List ℕ × ℕ)
mem_too_long files = files.too_long

-- how often a read of a name has failed
abbrev pub mem_faults : MemFiles → List ℕ → ℕ
mem_faults files name = times_named (mem_failed files) name

-- how often a name was longer than a limit
abbrev pub mem_overlong : MemFiles → List ℕ → ℕ → ℕ
mem_overlong files name limit = times_limited (mem_too_long files) name limit
