-- Notes on words that ask for nothing.
use Rattle.std.specs.Prelude.{ℕ, Bool, true, false, ◌&&◌, ◌||◌, not, Option, Some, None, List, [], ◌∷◌, ◌++◌, length, take, find, codes, is_some, if◌then◌else◌}
use Rattle.std.specs.Str.{bytes_eq}
use Rattle.excerpt.specs.Shown.{shown_text}
use Rattle.notes.specs.Cures.{first_of}
use Rattle.notes.specs.Sources.{Source, heading, help_line}

-- how the commands are written that take no options
abbrev pub text_form : List ℕ → Option (List ℕ)
text_form name =
    if bytes_eq name (codes "check") then Some (codes "`check FILE`, without options")
    else (if bytes_eq name (codes "instrument") then Some (codes "`instrument FILE`, without options")
    else (if bytes_eq name (codes "load") then Some (codes "`load SEED SIZE`, without options; SEED is 0 to 4294967295, and SIZE 1 to 10000")
    else None))

-- how those are written that run a program
abbrev pub run_form : List ℕ → Option (List ℕ)
run_form name =
    if bytes_eq name (codes "solo") then Some (codes "`solo FILE`, with any of the options --input FILE, --steps N (1 to 4000000), --turns N (1 to 100000000) and --allocs N (1 to 65536), each once")
    else (if bytes_eq name (codes "replay") then Some (codes "`replay FILE SCHEDULE`, with any of the options --input FILE, --steps N (1 to 4000000), --turns N (1 to 100000000) and --allocs N (1 to 65536), each once; SCHEDULE is numbers of threads, 0 to 1023, with commas between them, as 0,1,0")
    else (if bytes_eq name (codes "run") then Some (codes "`run FILE`, with any of the options --input FILE, --steps N (1 to 4000000), --turns N (1 to 100000000) and --allocs N (1 to 65536), each once")
    else (if bytes_eq name (codes "races") then Some (codes "`races FILE SCHEDULE`, with any of the options --input FILE, --steps N (1 to 4000000), --turns N (1 to 100000000) and --allocs N (1 to 65536), each once; SCHEDULE is numbers of threads, 0 to 1023, with commas between them, as 0,1,0")
    else (if bytes_eq name (codes "record") then Some (codes "`record FILE`, with any of the options --input FILE, --steps N (1 to 4000000), --turns N (1 to 100000000) and --allocs N (1 to 65536), each once")
    else None))))

-- how the others are written
abbrev pub other_form : List ℕ → Option (List ℕ)
other_form name =
    if bytes_eq name (codes "recheck") then Some (codes "`recheck FILE RECORD`, with any of the options --input FILE, --steps N (1 to 4000000), --turns N (1 to 100000000) and --allocs N (1 to 65536), each once")
    else (if bytes_eq name (codes "hush") then Some (codes "`hush FILE RULES`, with any of the options --input FILE, --steps N (1 to 4000000), --turns N (1 to 100000000) and --allocs N (1 to 65536), each once")
    else (if bytes_eq name (codes "explain") then Some (codes "`explain FILE SCHEDULE`, with any of the options --input FILE, --steps N (1 to 4000000), --turns N (1 to 100000000) and --allocs N (1 to 65536), each once; SCHEDULE is numbers of threads, 0 to 1023, with commas between them, as 0,1,0")
    else None))

-- how the command of this name is written, if there is one
abbrev pub form_of : List ℕ → Option (List ℕ)
form_of name = first_of (text_form name) (first_of (run_form name) (other_form name))

abbrev pub begins : List ℕ → List ℕ → Bool
begins start word = bytes_eq (take (length start) word) start

abbrev pub is_option : List ℕ → Bool
is_option word =
    begins (codes "--input") word || begins (codes "--steps") word || begins (codes "--turns") word || begins (codes "--allocs") word

abbrev pub takes_options : List ℕ → Bool
takes_options name = not (is_some (text_form name))

-- the word is written as an option, and the command has none of that name
abbrev pub is_unknown : Bool → List ℕ → Bool
is_unknown options word = begins (codes "-") word && not (options && is_option word)

-- which word is wrong, or that the command is written in another way
abbrev pub option_line : List ℕ → Option (List ℕ) → List ℕ
option_line name None = codes "not so: " ++ shown_text name
option_line name (Some word) = codes "no option: " ++ shown_text word

abbrev pub named_line : List ℕ → List (List ℕ) → Option (List ℕ) → List ℕ
named_line name rest None = codes "no command: " ++ shown_text name
named_line name rest (Some form) = option_line name (find (is_unknown (takes_options name)) rest)

abbrev pub words_line : List (List ℕ) → List ℕ
words_line [] = codes "no command"
words_line (name ∷ rest) = named_line name rest (form_of name)

abbrev pub form_help : Option (List ℕ) → List ℕ
form_help None = codes "the first word is a command: check, instrument, solo, replay, run, load, races, record, recheck, hush or explain"
form_help (Some form) = form

abbrev pub words_help : List (List ℕ) → List ℕ
words_help [] = form_help None
words_help (name ∷ rest) = form_help (form_of name)

abbrev pub no_source : Bool → Source
no_source colours = record { name = []; text = []; colours = colours }

-- the word that is wrong, and how the command is written
abbrev pub words_note : Bool → List (List ℕ) → List ℕ
words_note colours words = heading (no_source colours) (words_line words) ++ help_line (no_source colours) (words_help words)
