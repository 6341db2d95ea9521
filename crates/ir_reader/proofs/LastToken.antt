-- The last token of a list.
use Rattle.std.proofs.Common.{◌≡◌, ℕ, zero, suc, ◌+◌, Bool, List, [], ◌∷◌, length, get_or, arith}
use Rattle.ir_text.specs.declared.token.Token.{Token}
use Rattle.phrase.specs.Lexes.{lex, token_bytes}
use Rattle.ir_ast.specs.declared.mark.Mark.TheVariants.{Equals}
use Rattle.ir_reader.specs.View.{lexes}
use Rattle.ir_reader.specs.Wants.{is_mark, kind_is}
use Rattle.ir_reader.specs.Told.{ends_equal}
use Rattle.ir_reader.proofs.MarkForms.{mark_by_kind}

pub ends_at : (text : List ℕ) (before : Bool) (ts : List Token) (n : ℕ) (d : Token) → n + 1 ≡ length ts → ends_equal before (lexes text ts) ≡ kind_is Equals (get_or ts n d).kind
ends_at text before [] n d e = absurd (omega (arith, e))
ends_at text before (t ∷ []) zero d e = mark_by_kind Equals t.kind (token_bytes text t)
ends_at text before (t ∷ []) (suc n) d e = absurd (omega (arith, e))
ends_at text before (t ∷ u ∷ ts) zero d e = absurd (omega (arith, e))
ends_at text before (t ∷ u ∷ ts) (suc n) d e = ends_at text (is_mark Equals (lex text t).form) (u ∷ ts) n d (omega (arith, e))
