-- What is known of a closure that answers for rules.
use Rattle.std.specs.Prelude.{◌≡◌, Bool}
use Rattle.std.specs.Coded.{Π_prop, →_prop, Coded-set, coded_bool}
use Rattle.suppress.specs.declared.case.Case.{Case}
use Rattle.suppress.specs.declared.rules.Rules.{Rules}
use Rattle.suppress.specs.Rules.{holds}

-- it may be called for each case
abbrev pub MayBeAsked : (Case → Type 0) → Type 0
MayBeAsked may = (case : Case) → may case

-- for each case it answers whether the rules hold it
abbrev pub AnswersFor : Rules → (Case → Bool → Type 0) → Type 0
AnswersFor rules gives = (case : Case) (answer : Bool) → gives case answer → answer ≡ holds rules case

-- this has one proof at most
pub answers_once : (rules : Rules) (gives : Case → Bool → Type 0) → IsProp (AnswersFor rules gives)
answers_once rules gives = Π_prop (λ case. Π_prop (λ answer. →_prop (Coded-set coded_bool _ _)))
