-- Words of a type, and what stands in a reply.
use Rattle.std.specs.Prelude.{ℕ, ◌%◌, ◌^◌, Some, None, ◌/◌}
use Rattle.std.specs.declared.option.Option.{Option}
use Rattle.history.specs.declared.ask.Arg.{Arg}
use Rattle.bsan_ids.specs.declared.numbers.Prov.{Prov}
use Rattle.ir_ast.specs.declared.types.Ty.{Ty}
use Rattle.ir_ast.specs.declared.types.Ty.TheVariants.{Int, Ptr}
use Rattle.bsan_ids.specs.declared.numbers.AllocNo.{AllocNo}
use Rattle.history.specs.declared.entry.Plain.{Plain}
use Rattle.history.specs.declared.entry.Plain.TheVariants as plain
use Rattle.ir_ast.specs.Words.{word_bits}

-- nothing was written
abbrev pub blank : Arg
blank = record { value = 0; prov = None }

abbrev pub plain_arg : ℕ → Arg
plain_arg n = record { value = n; prov = None }

-- a provenance, which only a pointer has
abbrev pub prov_at : Ty → Option Prov → Option Prov
prov_at (Int w) p = None
prov_at Ptr p = p

abbrev pub at_width : Ty → ℕ → ℕ
at_width ty n = n % 2 ^ word_bits ty

-- a value at a type
abbrev pub arg_at : Ty → Arg → Arg
arg_at ty a = record { value = a.value; prov = prov_at ty a.prov }

-- a value of a word's own width: the word is cut
abbrev pub cut_at : Ty → Arg → Arg
cut_at ty a = record { value = at_width ty a.value; prov = prov_at ty a.prov }

-- a request at a pointer: on the number in its address, at the offset
abbrev pub number_at : ℕ → AllocNo
number_at a = record { 0 = a / 2 ^ 32 }

-- the number in a reply
abbrev pub number_in : Plain → ℕ
number_in (plain.Made a) = a.0
number_in (plain.Value v) = v
number_in (plain.Spawned c) = c.0
number_in other = 0
