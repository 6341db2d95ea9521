-- How each part of a program is read.
use Rattle.std.specs.Prelude.{List, [], ◌∷◌, Option, Some, None}
use Rattle.phrase.specs.Reading.{Reader, one, both, mapped, maybe, many_from}
use Rattle.ir_ast.specs.declared.types.Ty.{Ty}
use Rattle.ir_ast.specs.declared.program.Named.{Named}
use Rattle.ir_ast.specs.declared.program.Goal.{Goal}
use Rattle.ir_ast.specs.declared.program.TypedVal.{TypedVal}
use Rattle.ir_ast.specs.declared.program.Val.{Val}
use Rattle.ir_ast.specs.declared.mark.Mark.{Mark}
use Rattle.ir_ast.specs.declared.mark.Mark.TheVariants.{OpenRound, CloseRound, Comma}
use Rattle.ir_reader.specs.Tables.{types}
use Rattle.ir_reader.specs.Wants.{want_if, begins_if, is_mark, is_any_word, want_label, want_among, want_val}

abbrev pub second : {A B : Type 0} → A × B → B
second x = x.1

abbrev pub first_of : {A B : Type 0} → A × B → A
first_of x = x.0

abbrev pub cons_of : {A : Type 0} → A × List A → List A
cons_of x = x.0 ∷ x.1

abbrev pub listed : {A : Type 0} → Option (List A) → List A
listed None = []
listed (Some xs) = xs

abbrev pub mark_at : Mark → Reader (Unit {0})
mark_at mark = one (want_if (is_mark mark))

-- a comma, and then this
abbrev pub after_comma : {A : Type 0} → Reader A → Reader A
after_comma r = mapped second (both (mark_at Comma) (λ _. r))

abbrev pub typed_of : Ty × Val → TypedVal
typed_of x = record { ty = x.0; val = x.1 }

unfoldable pub typed_at : Reader TypedVal
typed_at = mapped typed_of (both (one (want_among types)) (λ ty. one (want_val ty)))

-- a comma and one more
unfoldable pub next_typed_at : Reader TypedVal
next_typed_at = after_comma typed_at

-- the ones before change nothing
abbrev pub same_state : {A : Type 0} → Unit {0} → A → Unit {0}
same_state s a = s

unfoldable pub more_at : Reader (List TypedVal)
more_at = many_from (begins_if (is_mark Comma)) (λ (s : Unit {0}). next_typed_at) same_state tt

unfoldable pub values_at : Reader (List TypedVal)
values_at = mapped cons_of (both typed_at (λ _. more_at))

-- what is read in parentheses
abbrev pub in_round : {A : Type 0} → Reader A → Reader A
in_round r = mapped second (both (mark_at OpenRound) (λ _. mapped first_of (both r (λ _. mark_at CloseRound))))

-- values, if a word is next
unfoldable pub some_values_at : Reader (List TypedVal)
some_values_at = mapped listed (maybe (begins_if is_any_word) values_at)

-- values in parentheses
unfoldable pub round_at : Reader (List TypedVal)
round_at = in_round values_at

-- the arguments of a call
unfoldable pub args_at : Reader (List TypedVal)
args_at = in_round some_values_at

unfoldable pub goal_args_at : Reader (List TypedVal)
goal_args_at = mapped listed (maybe (begins_if (is_mark OpenRound)) round_at)

abbrev pub goal_of : Named × List TypedVal → Goal
goal_of x = record { label = x.0; args = x.1 }

unfoldable pub goal_at : Reader Goal
goal_at = mapped goal_of (both (one want_label) (λ _. goal_args_at))
