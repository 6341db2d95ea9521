-- The commands are ones of which clap's clauses speak exactly.
use Rattle.std.proofs.Common.{◌≡◌, ◌∙◌, Result, Ok, Err, IfOk, refl, sym, subst, codes}
use Rattle.clap.specs.Words.{App, Text, app_of, with_rule}
use Rattle.clap.specs.declared.builder.command.Command.{Command}
use Rattle.command_words.specs.Commands.{file_app, run_app, word_app, load_app, plain, needed, with_options, IsReadable}

pub file_app_is : (name : Text) → with_rule (plain name) (needed (codes "FILE")) ≡ file_app name
unfolding file_app
file_app_is name = refl

pub run_app_is : (name : Text) → with_options (file_app name) ≡ run_app name
unfolding run_app
run_app_is name = refl

pub word_app_is : (name id : Text) → with_options (with_rule (file_app name) (needed id)) ≡ word_app name id
unfolding word_app
word_app_is name id = refl

pub load_app_is : with_rule (with_rule (plain (codes "load")) (needed (codes "SEED"))) (needed (codes "SIZE")) ≡ load_app
unfolding load_app
load_app_is = refl

file_readable : (name : Text) → IsReadable (file_app name)
unfolding file_app
file_readable name = record { simple = refl; free = refl }

run_readable : (name : Text) → IsReadable (run_app name)
unfolding run_app file_app
run_readable name = record { simple = refl; free = refl }

word_readable : (name id : Text) → IsReadable (word_app name id)
unfolding word_app file_app
word_readable name id = record { simple = refl; free = refl }

load_readable : IsReadable load_app
unfolding load_app
load_readable = record { simple = refl; free = refl }

-- the same at a command that was built
pub file_command_readable : (made : App) (name : Text) → made ≡ file_app name → IsReadable made
file_command_readable made name is = subst IsReadable (sym is) (file_readable name)

pub run_command_readable : (made : App) (name : Text) → made ≡ run_app name → IsReadable made
run_command_readable made name is = subst IsReadable (sym is) (run_readable name)

pub word_command_readable : (made : App) (name id : Text) → made ≡ word_app name id → IsReadable made
word_command_readable made name id is = subst IsReadable (sym is) (word_readable name id)

pub load_command_readable : (made : App) → made ≡ load_app → IsReadable made
load_command_readable made is = subst IsReadable (sym is) load_readable

-- a command whose words are read alike
pub made_as : {E : Type 0} (made : Result Command E) (app other : App) → app ≡ other → IfOk made (λ command. app_of command ≡ app)
    → IfOk made (λ command. app_of command ≡ other)
made_as (Ok command) app other same is = is ∙ same
made_as (Err e) app other same is = tt
