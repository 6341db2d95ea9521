-- The commands, as clap reads their words.
use Rattle.std.specs.Prelude.{◌≡◌, true, List, [], Some, codes}
use Rattle.clap.specs.Words.{App, Rule, Text, new_app, new_rule, with_rule, is_simple}
use Rattle.clap.specs.Simple.{on_top}
use Rattle.clap.specs.Faults.{fault_of, is_simple_and_free}
use Rattle.clap.specs.declared.builder.action.ArgAction.TheVariants.{Set}

-- a word that has to be there
abbrev pub needed : Text → Rule
needed id = record (new_rule id) { required = true; action = Some Set }

-- an option with a value
abbrev pub optional : Text → Rule
optional id = record (new_rule id) { long = Some id }

-- a command without a flag for help
abbrev pub plain : Text → App
plain name = on_top (λ top. record top { disable_help_flag = true }) (new_app name)

abbrev pub with_options : App → App
with_options app =
    with_rule (with_rule (with_rule (with_rule app (optional (codes "input"))) (optional (codes "steps"))) (optional (codes "turns"))) (optional (codes "allocs"))

-- the command NAME FILE
unfoldable pub file_app : Text → App
file_app name = with_rule (plain name) (needed (codes "FILE"))

-- the command NAME FILE, with options
unfoldable pub run_app : Text → App
run_app name = with_options (file_app name)

-- the command NAME FILE WORD, with options
unfoldable pub word_app : Text → Text → App
word_app name id = with_options (with_rule (file_app name) (needed id))

-- the command load SEED SIZE
unfoldable pub load_app : App
load_app = with_rule (with_rule (plain (codes "load")) (needed (codes "SEED"))) (needed (codes "SIZE"))

-- clap takes the words of the command, its name among them
abbrev pub Takes : App → List Text → Type 0
Takes app words = fault_of app words ≡ []

-- clap's clauses give the matches and the faults of such a command exactly
pub record IsReadable (app : App) : Type 0 where
  pub simple : is_simple app ≡ true
  pub free : is_simple_and_free app ≡ true
