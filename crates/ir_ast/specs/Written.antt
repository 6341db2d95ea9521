-- What a writer adds to its text, and the texts of a program's parts without any counts.
use Rattle.std.specs.Prelude.{◌≡◌, ℕ, Bool, true, List, [], ◌∷◌, ◌++◌, Option, Some, None}
use Rattle.std.specs.List.{flat_map}
use Rattle.ir_ast.specs.Tokens.{Form, Asked, plain}
use Rattle.ir_ast.specs.Tokens.Form.{local, close_brace, comma, equals}
use Rattle.ir_ast.specs.Lines.{param_tokens, inst_line, label_line, term_line, header_line, outer}
use Rattle.ir_ast.specs.Texts.{spaced, no_space_after, line_text}
use Rattle.ir_ast.specs.declared.writer.Writer.{Writer}
use Rattle.ir_ast.specs.declared.program.Named.{Named}
use Rattle.ir_ast.specs.declared.program.Param.{Param}
use Rattle.ir_ast.specs.declared.program.Inst.{Inst}
use Rattle.ir_ast.specs.declared.program.Block.{Block}
use Rattle.ir_ast.specs.declared.program.Function.{Function}

-- whether no space is due after these tokens
abbrev pub tight_after : Bool → List Form → Bool
tight_after tight [] = tight
tight_after tight (f ∷ fs) = tight_after (no_space_after f) fs

-- these tokens were added
pub record Adds (old new : Writer) (fs : List Form) : Type 0 where
  pub text : new.text.items ≡ old.text.items ++ spaced old.tight fs
  pub tight : new.tight ≡ tight_after old.tight fs

-- a line was begun
pub record Begins (old new : Writer) (indent : List ℕ) : Type 0 where
  pub text : new.text.items ≡ old.text.items ++ indent
  pub tight : new.tight ≡ true

-- this text was added
pub record AddsText (old new : Writer) (text : List ℕ) : Type 0 where
  pub is : new.text.items ≡ old.text.items ++ text

-- the tokens before an operation
abbrev pub dest_forms : Option Named → List Form
dest_forms None = []
dest_forms (Some r) = local r.name ∷ equals ∷ []

abbrev pub next_param : Param → List Asked
next_param p = plain comma ∷ param_tokens 0 p

abbrev pub inst_text : Inst → List ℕ
inst_text i = line_text (inst_line 0 0 i)

abbrev pub block_text : Block → List ℕ
block_text b = line_text (label_line 0 b) ++ flat_map inst_text b.insts ++ line_text (term_line 0 b.term)

abbrev pub function_text : Function → List ℕ
function_text f = line_text (header_line 0 f) ++ flat_map block_text f.blocks ++ line_text (outer (plain close_brace ∷ []))
