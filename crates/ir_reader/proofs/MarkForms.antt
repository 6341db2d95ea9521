-- Marks by their tokens' kinds.
use Rattle.std.proofs.Common.{◌≡◌, ℕ, List, refl}
use Rattle.ir_text.specs.declared.token.TokenKind.{TokenKind}
use Rattle.ir_text.specs.declared.token.TokenKind.TheVariants as kind
use Rattle.phrase.specs.Lexes.{form_of}
use Rattle.ir_ast.specs.declared.mark.Mark.{Mark}
use Rattle.ir_ast.specs.declared.mark.Mark.TheVariants.{OpenRound, CloseRound, OpenBrace, CloseBrace, Comma, Colon, Equals, Arrow}
use Rattle.ir_reader.specs.Wants.{is_mark, kind_is}

pub mark_by_kind : (mark : Mark) (k : TokenKind) (bytes : List ℕ) → is_mark mark (form_of k bytes) ≡ kind_is mark k
mark_by_kind OpenRound kind.OpenRound bytes = refl
mark_by_kind OpenRound _ bytes = refl
mark_by_kind CloseRound kind.CloseRound bytes = refl
mark_by_kind CloseRound _ bytes = refl
mark_by_kind OpenBrace kind.OpenBrace bytes = refl
mark_by_kind OpenBrace _ bytes = refl
mark_by_kind CloseBrace kind.CloseBrace bytes = refl
mark_by_kind CloseBrace _ bytes = refl
mark_by_kind Comma kind.Comma bytes = refl
mark_by_kind Comma _ bytes = refl
mark_by_kind Colon kind.Colon bytes = refl
mark_by_kind Colon _ bytes = refl
mark_by_kind Equals kind.Equals bytes = refl
mark_by_kind Equals _ bytes = refl
mark_by_kind Arrow kind.Arrow bytes = refl
mark_by_kind Arrow _ bytes = refl
