-- What is read as values, lists of them, and goals.
use Rattle.std.proofs.Common.{◌≡◌, List, [], ◌∷◌, ◌++◌, Option, Some, None, refl, ap}
use Rattle.std.specs.List.{flat_map}
use Rattle.ir_ast.specs.Tokens.{Lex, Asked, Each, plain}
use Rattle.ir_ast.specs.Tokens.Form.{open_round, close_round, comma}
use Rattle.ir_ast.specs.Grammar.{type_token, val_token, typed_tokens, next_tokens, values_tokens, args_tokens, goal_args_tokens, goal_tokens, label}
use Rattle.ir_ast.specs.Shapes.{IsVal, IsTyped, IsGoal}
use Rattle.ir_ast.specs.declared.program.TypedVal.{TypedVal}
use Rattle.phrase.specs.Reading.{one, many_from}
use Rattle.phrase.proofs.Phrase.{Phrase, ok_both, spell_both}
use Rattle.phrase.proofs.Repeat.{Ends, ok_maybe, spell_maybe, Begins, mapped_phrase, maybe_phrase}
use Rattle.phrase.proofs.ManyFrom.{ok_from, spell_from, many_from_phrase}
use Rattle.ir_ast.specs.declared.mark.Mark.TheVariants.{OpenRound, Comma}
use Rattle.ir_reader.specs.Tables.{types}
use Rattle.ir_reader.specs.Wants.{begins_if, is_mark, is_any_word, want_label, want_among, want_val}
use Rattle.ir_reader.specs.Parts.{cons_of, listed, typed_of, typed_at, next_typed_at, same_state, more_at, values_at, some_values_at, round_at, args_at, goal_args_at, goal_of, goal_at}
use Rattle.ir_reader.proofs.Singles.{Any, type_phrase, label_phrase, spell_val, val_phrase}
use Rattle.ir_reader.proofs.Pieces.{pair_phrase, first_phrase, comma_phrase, round_phrase}

pub typed_phrase : Phrase IsTyped typed_tokens Any typed_at
unfolding typed_at
typed_phrase = mapped_phrase (ok_both Any IsVal) (spell_both (λ ty. type_token ty ∷ []) spell_val) Any _
    (pair_phrase Any IsVal (λ ty. type_token ty ∷ []) spell_val (one (want_among types)) (λ ty. one (want_val ty)) type_phrase val_phrase)
    typed_of IsTyped typed_tokens (λ x k. (k.1, refl)) (λ v k. ((v.ty, v.val), (tt, k), refl))

pub next_typed_phrase : Phrase IsTyped next_tokens Any next_typed_at
unfolding next_typed_at
next_typed_phrase = comma_phrase IsTyped typed_tokens Any typed_at typed_phrase

abbrev pub NoComma : List Lex → Type 0
NoComma = Ends (begins_if (is_mark Comma))

pub comma_begins : (s : Unit {0}) (v : TypedVal) → IsTyped v → Begins IsTyped next_tokens (begins_if (is_mark Comma)) v
comma_begins s v k = record { first = plain comma; others = typed_tokens v; parts = refl; passes = λ l fits. rw fits.0 refl }

pub from_phrase : (s : Unit {0}) → Phrase (ok_from (λ _. IsTyped) same_state s) (spell_from (λ _. next_tokens) same_state s) NoComma (many_from (begins_if (is_mark Comma)) (λ (s : Unit {0}). next_typed_at) same_state s)
from_phrase = many_from_phrase (λ _. IsTyped) (λ _. next_tokens) Any (λ (s : Unit {0}). next_typed_at) (λ _. next_typed_phrase) same_state (begins_if (is_mark Comma)) comma_begins NoComma (λ rest e. e) (λ _ _ _ _ _ _ _. tt)

-- a list in which each is written alike
each_from : (s : Unit {0}) (vs : List TypedVal) → ok_from (λ _. IsTyped) same_state s vs → Each IsTyped vs
each_from s [] k = tt
each_from s (v ∷ vs) k = (k.0, each_from s vs k.1)

from_each : (s : Unit {0}) (vs : List TypedVal) → Each IsTyped vs → ok_from (λ _. IsTyped) same_state s vs
from_each s [] k = tt
from_each s (v ∷ vs) k = (k.0, from_each s vs k.1)

same_tokens : (s : Unit {0}) (vs : List TypedVal) → flat_map next_tokens vs ≡ spell_from (λ _. next_tokens) same_state s vs
same_tokens s [] = refl
same_tokens s (v ∷ vs) = ap (λ (z : List Asked). next_tokens v ++ z) (same_tokens s vs)

-- one or more
abbrev pub OneOrMore : List TypedVal → Type 0
OneOrMore [] = ⊥
OneOrMore (v ∷ vs) = IsTyped v × Each IsTyped vs

values_back : (vs : List TypedVal) → OneOrMore vs → (x : TypedVal × List TypedVal) × ok_both IsTyped (λ _. ok_from (λ _. IsTyped) same_state tt) x × (cons_of x ≡ vs)
values_back [] k = absurd k
values_back (v ∷ vs) k = ((v, vs), (k.0, from_each tt vs k.1), refl)

pub more_phrase : Phrase (ok_from (λ _. IsTyped) same_state tt) (spell_from (λ _. next_tokens) same_state tt) NoComma more_at
unfolding more_at
more_phrase = from_phrase tt

pub values_phrase : Phrase OneOrMore values_tokens NoComma values_at
unfolding values_at
values_phrase = mapped_phrase (ok_both IsTyped (λ _. ok_from (λ _. IsTyped) same_state tt)) (spell_both typed_tokens (λ _. spell_from (λ _. next_tokens) same_state tt)) NoComma _
    (first_phrase IsTyped (λ _. ok_from (λ _. IsTyped) same_state tt) typed_tokens (λ _. spell_from (λ _. next_tokens) same_state tt) NoComma typed_at (λ _. more_at) typed_phrase (λ _. more_phrase))
    cons_of OneOrMore values_tokens (λ x k. ((k.0, each_from tt x.1 k.1), ap (λ (z : List Asked). typed_tokens x.0 ++ z) (same_tokens tt x.1))) values_back

abbrev pub round_tokens : List TypedVal → List Asked
round_tokens vs = plain open_round ∷ values_tokens vs ++ plain close_round ∷ []

pub round_values_phrase : Phrase OneOrMore round_tokens Any round_at
unfolding round_at
round_values_phrase = round_phrase OneOrMore values_tokens NoComma values_at values_phrase (λ l rest e. rw e refl)

abbrev pub NoOpen : List Lex → Type 0
NoOpen = Ends (begins_if (is_mark OpenRound))

abbrev pub NoWord : List Lex → Type 0
NoWord = Ends (begins_if is_any_word)

open_begins : (vs : List TypedVal) → OneOrMore vs → Begins OneOrMore round_tokens (begins_if (is_mark OpenRound)) vs
open_begins vs k = record { first = plain open_round; others = values_tokens vs ++ plain close_round ∷ []; parts = refl; passes = λ l fits. rw fits.0 refl }

word_begins : (vs : List TypedVal) → OneOrMore vs → Begins OneOrMore values_tokens (begins_if is_any_word) vs
word_begins [] k = absurd k
word_begins (v ∷ vs) k = record { first = type_token v.ty; others = val_token v.ty v.val ∷ flat_map next_tokens vs; parts = refl; passes = λ l fits. rw fits.0 refl }

maybe_there : (spell : List TypedVal → List Asked) → (o : Option (List TypedVal)) → ok_maybe OneOrMore o → Each IsTyped (listed o)
maybe_there spell None k = tt
maybe_there spell (Some []) k = absurd k
maybe_there spell (Some (v ∷ vs)) k = k

goal_args_spell : (o : Option (List TypedVal)) → ok_maybe OneOrMore o → goal_args_tokens (listed o) ≡ spell_maybe round_tokens o
goal_args_spell None k = refl
goal_args_spell (Some []) k = absurd k
goal_args_spell (Some (v ∷ vs)) k = refl

values_spell : (o : Option (List TypedVal)) → ok_maybe OneOrMore o → values_tokens (listed o) ≡ spell_maybe values_tokens o
values_spell None k = refl
values_spell (Some vs) k = refl

maybe_back : (vs : List TypedVal) → Each IsTyped vs → (o : Option (List TypedVal)) × ok_maybe OneOrMore o × (listed o ≡ vs)
maybe_back [] k = (None, tt, refl)
maybe_back (v ∷ vs) k = (Some (v ∷ vs), k, refl)

pub some_values_phrase : Phrase (Each IsTyped) values_tokens (λ rest. NoComma rest × NoWord rest) some_values_at
unfolding some_values_at
some_values_phrase = mapped_phrase (ok_maybe OneOrMore) (spell_maybe values_tokens) (λ rest. NoComma rest × NoWord rest) _
    (maybe_phrase OneOrMore values_tokens NoComma values_at values_phrase (begins_if is_any_word) word_begins)
    listed (Each IsTyped) values_tokens (λ o k. (maybe_there values_tokens o k, values_spell o k)) maybe_back

pub args_phrase : Phrase (Each IsTyped) args_tokens Any args_at
unfolding args_at
args_phrase = round_phrase (Each IsTyped) values_tokens (λ rest. NoComma rest × NoWord rest) some_values_at some_values_phrase (λ l rest e. (rw e refl, rw e refl))

pub goal_args_phrase : Phrase (Each IsTyped) goal_args_tokens (λ rest. Any rest × NoOpen rest) goal_args_at
unfolding goal_args_at
goal_args_phrase = mapped_phrase (ok_maybe OneOrMore) (spell_maybe round_tokens) (λ rest. Any rest × NoOpen rest) _
    (maybe_phrase OneOrMore round_tokens Any round_at round_values_phrase (begins_if (is_mark OpenRound)) open_begins)
    listed (Each IsTyped) goal_args_tokens (λ o k. (maybe_there round_tokens o k, goal_args_spell o k)) maybe_back

-- what may follow a goal: no parenthesis
abbrev pub AfterGoal : List Lex → Type 0
AfterGoal rest = Any rest × NoOpen rest

pub goal_phrase : Phrase IsGoal goal_tokens AfterGoal goal_at
unfolding goal_at
goal_phrase = mapped_phrase (ok_both Any (λ _. Each IsTyped)) (spell_both (λ n. label n ∷ []) (λ _. goal_args_tokens)) AfterGoal _
    (first_phrase Any (λ _. Each IsTyped) (λ n. label n ∷ []) (λ _. goal_args_tokens) AfterGoal (one want_label) (λ _. goal_args_at) label_phrase (λ _. goal_args_phrase))
    goal_of IsGoal goal_tokens (λ x k. (k.1, refl)) (λ g k. ((g.label, g.args), (tt, k), refl))
