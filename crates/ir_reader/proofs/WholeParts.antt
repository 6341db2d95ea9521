-- What the tokens of a text are read as, and how they are refused.
use Rattle.std.proofs.Common.{◌≡◌, ℕ, List, Ok, Err}
use Rattle.phrase.specs.Whole.{Reads, Refused, all_of}
use Rattle.phrase.specs.declared.Cause.{Cause}
use Rattle.phrase.proofs.Whole.{all_ok, all_only, all_refused}
use Rattle.phrase.proofs.Only.{refused_is_told}
use Rattle.ir_ast.specs.Tokens.{Lex}
use Rattle.ir_ast.specs.Lines.{spell}
use Rattle.ir_ast.specs.Shapes.{IsShaped}
use Rattle.ir_ast.specs.declared.program.Program.{Program}
use Rattle.ir_reader.specs.Blocks.{program_at}
use Rattle.ir_reader.specs.Laws.{with_end}
use Rattle.ir_reader.proofs.BlockParts.{NoFunc, Versioned, IsVersioned, spell_program, program_phrase, shaped_is}

are_shaped : (end : ℕ) (x : Versioned) → IsVersioned x → IsShaped (with_end end x)
are_shaped end x k = record { version = k.0; some_function = k.1.0; functions = k.1.1 }

pub all_read : (ts : List Lex) (x : Versioned) (end : ℕ) → all_of program_at ts ≡ Ok x → Reads IsShaped spell ts (with_end end x)
all_read ts x end e = let r = all_ok IsVersioned spell_program NoFunc program_at program_phrase tt ts x e in (are_shaped end x r.0, r.1)

pub only_read : (ts : List Lex) (p : Program) → Reads IsShaped spell ts p → all_of program_at ts ≡ Ok (p.version, p.functions)
only_read ts p r = all_only IsVersioned spell_program NoFunc program_at program_phrase tt ts (p.version, p.functions) (shaped_is p r.0, r.1)

pub refuses : (ts : List Lex) (c : Cause) (rest : List Lex) → all_of program_at ts ≡ Err (c, rest) → Refused IsShaped spell c ts rest
refuses ts c rest e =
    let r = all_refused IsVersioned spell_program NoFunc program_at program_phrase tt ts c rest e in
    record {
      front = r.front;
      whole = r.whole;
      value = with_end 0 r.value;
      is_ok = are_shaped 0 r.value r.is_ok;
      before = r.before;
      after = r.after;
      parts = r.parts;
      spelled = r.spelled;
      more = r.more;
      completes = r.completes;
      here = r.here;
      dead = λ u t later same start. r.dead u t later same ((start.0.version, start.0.functions), start.1, shaped_is start.0 start.2, start.3);
      short = λ u same p k m. r.short u same (p.version, p.functions) (shaped_is p k) m;
    }

-- a refusal is the only answer
pub is_told : (c : Cause) (ts rest : List Lex) → Refused IsShaped spell c ts rest → all_of program_at ts ≡ Err (c, rest)
is_told c ts rest r = refused_is_told IsVersioned spell_program NoFunc program_at program_phrase tt c ts rest (record {
  front = r.front;
  whole = r.whole;
  value = (r.value.version, r.value.functions);
  is_ok = shaped_is r.value r.is_ok;
  before = r.before;
  after = r.after;
  parts = r.parts;
  spelled = r.spelled;
  more = r.more;
  completes = r.completes;
  here = r.here;
  dead = λ u t later same start. r.dead u t later same (with_end 0 start.0, start.1, are_shaped 0 start.0 start.2, start.3);
  short = λ u same x k m. r.short u same (with_end 0 x) (are_shaped 0 x k) m;
})
