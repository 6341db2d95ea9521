-- The lists of values as the code reads them.
use Rattle.std.proofs.Common.{◌≡◌, ℕ, true, false, List, [], ◌∷◌, Option, Some, Ok, Err, refl}
use Rattle.ir_ast.specs.Tokens.{Lex}
use Rattle.phrase.specs.Reading.{Got, ◌>>=◌}
use Rattle.phrase.specs.declared.Cause.{Cause}
use Rattle.ir_ast.specs.declared.program.TypedVal.{TypedVal}
use Rattle.ir_reader.specs.View.{lexes, Fails, begins, with_front}
use Rattle.ir_reader.specs.declared.stop.Stop.{Stop}
use Rattle.ir_reader.specs.declared.stop.Stop.TheVariants.{Memory, At}
use Rattle.ir_ast.specs.declared.mark.Mark.TheVariants.{OpenRound}
use Rattle.ir_reader.specs.Wants.{begins_if, is_mark, is_any_word}
use Rattle.ir_reader.specs.Parts.{listed, typed_at, more_at, values_at, some_values_at, round_at, goal_args_at}

abbrev pub paired_with : {A : Type 0} → A → Got (List A) → Got (A × List A)
paired_with v r = r >>= λ y. Ok ((v, y.0), y.1)

abbrev pub mapped_cons : {A : Type 0} → Got (A × List A) → Got (List A)
mapped_cons r = r >>= λ x. Ok (x.0.0 ∷ x.0.1, x.1)

abbrev pub some_of : {A : Type 0} → Got A → Got (Option A)
some_of r = r >>= λ x. Ok (Some x.0, x.1)

abbrev pub mapped_listed : {A : Type 0} → Got (Option (List A)) → Got (List A)
mapped_listed r = r >>= λ x. Ok (listed x.0, x.1)

pub by_more : {A : Type 0} (v : A) (r : Got (List A)) → mapped_cons (paired_with v r) ≡ with_front (v ∷ []) r
by_more v (Ok x) = refl
by_more v (Err d) = refl

pub by_listed : {A : Type 0} (r : Got (List A)) → mapped_listed (some_of r) ≡ r
by_listed (Ok x) = refl
by_listed (Err d) = refl

pub values_is : (ts : List Lex) (v : TypedVal) (rest : List Lex) → typed_at ts ≡ Ok (v, rest) → values_at ts ≡ with_front (v ∷ []) (more_at rest)
unfolding values_at
values_is ts v rest e = rw e (by_more v (more_at rest))

values_fails : (ts : List Lex) (d : Cause × List Lex) → typed_at ts ≡ Err d → values_at ts ≡ Err d
unfolding values_at
values_fails ts d e = rw e refl

pub fails_as : (text : List ℕ) (s : Stop) (ts : List Lex) → Fails text s (typed_at ts) → Fails text s (values_at ts)
fails_as text Memory ts h = tt
fails_as text (At c rest) ts h = values_fails ts (c, lexes text rest.now) h

pub args_round : (ts : List Lex) → begins (begins_if (is_mark OpenRound)) ts ≡ true → goal_args_at ts ≡ round_at ts
unfolding goal_args_at
args_round [] e = absurd cc
args_round (l ∷ ls) e = rw e (by_listed (round_at (l ∷ ls)))

pub args_none : (ts : List Lex) → begins (begins_if (is_mark OpenRound)) ts ≡ false → goal_args_at ts ≡ Ok ([], ts)
unfolding goal_args_at
args_none [] e = refl
args_none (l ∷ ls) e = rw e refl

pub values_some : (ts : List Lex) → begins (begins_if is_any_word) ts ≡ true → some_values_at ts ≡ values_at ts
unfolding some_values_at
values_some [] e = absurd cc
values_some (l ∷ ls) e = rw e (by_listed (values_at (l ∷ ls)))

pub values_none : (ts : List Lex) → begins (begins_if is_any_word) ts ≡ false → some_values_at ts ≡ Ok ([], ts)
unfolding some_values_at
values_none [] e = refl
values_none (l ∷ ls) e = rw e refl
