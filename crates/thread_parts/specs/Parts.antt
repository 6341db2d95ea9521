-- What an instruction does next: a local turn, a trap, a step, or parts of its own kind; and what it asks.
use Rattle.std.specs.Prelude.{ℕ, ◌%◌, ◌^◌, List, [], ◌∷◌, Some, None, zero, suc, ◌+◌, ◌*◌, Bool, true, false, nat_eq, nat_lt, ◌||◌, slice_get, unwrap_or}
use Rattle.std.specs.declared.option.Option.{Option}
use Rattle.history.specs.declared.ask.Arg.{Arg}
use Rattle.bsan_ids.specs.declared.numbers.Prov.{Prov}
use Rattle.ir_ast.specs.declared.types.Width.{Width}
use Rattle.ir_ast.specs.declared.types.Ty.{Ty}
use Rattle.history.specs.declared.ask.Ask.{Ask}
use Rattle.history.specs.declared.ask.Ask.TheVariants as ask
use Rattle.perm_table.specs.declared.Guard.{Guard}
use Rattle.perm_table.specs.declared.Guard.TheVariants.{Free}
use Rattle.history.specs.declared.ask.MachineEnd.TheVariants as end
use Rattle.ir_ast.specs.declared.operators.ModifyOp.{ModifyOp}
use Rattle.ir_ast.specs.declared.types.Place.{Place}
use Rattle.history.specs.declared.entry.Reply.{Reply}
use Rattle.history.specs.declared.entry.Request.{Request}
use Rattle.history.specs.declared.entry.Request.TheVariants as request
use Rattle.perm_table.specs.declared.RetagKind.{RetagKind}
use Rattle.history.specs.declared.trap.Trap.{Trap}
use Rattle.history.specs.declared.trap.Trap.TheVariants as trap
use Rattle.ir_ast.specs.declared.types.Attr.{Attr}
use Rattle.ir_ast.specs.declared.operators.BinaryOp.{BinaryOp}
use Rattle.ir_ast.specs.declared.operators.CastOp.{CastOp}
use Rattle.ir_ast.specs.declared.operators.Cond.{Cond}
use Rattle.ir_ast.specs.Sizes.{most_size_of}
use Rattle.ir_ast.specs.Arithmetic.{Worked, word, div_zero, shift_too_far, worked, holds, cast_word}
use Rattle.thread_parts.specs.Words.{plain_arg, prov_at, at_width, number_in, number_at}
use Rattle.ir_ast.specs.Words.{bits, word_bits}
use Rattle.thread_parts.specs.Copies.{untouched, copy_ask, copy_done}

-- the access of a step on a number
pub data Access : Type 0 where
  Loads : Ty → Access
  Stores : Ty → Arg → Access
  Modifies : Width → ModifyOp → ℕ → Access
  Compares : Width → ℕ → ℕ → Access
  Frees : Access

pub data Step : Type 0 where
  Makes : ℕ → Place → Step
  Accesses : Arg → Access → Step
  Prints : ℕ → Step
  Hosts : ℕ → ℕ → ℕ → Step
  Spawns : ℕ → List Arg → Step

-- what an instruction does of which no part is done
pub data Part : Type 0 where
  Gives : Option Arg → Part
  Fails : Trap → Part
  Steps : Step → Part
  Retags : Arg → RetagKind → ℕ → Part
  Copies : Arg → Arg → ℕ → Part
  Calls : ℕ → List Arg → Option Ty → Option Attr → Part
  Joins : ℕ → Option Ty → Option Attr → Part

abbrev pub access_request : ℕ → Option Prov → Access → Request
access_request at prov (Loads ty) = request.Load at ty prov
access_request at prov (Stores ty v) = request.Store at ty (at_width ty v.value) (prov_at ty v.prov) prov
access_request at prov (Modifies w o v) = request.Modify at w o (v % 2 ^ bits w) prov
access_request at prov (Compares w e v) = request.CmpXchg at w (e % 2 ^ bits w) (v % 2 ^ bits w) prov
access_request at prov Frees = request.Free at false prov

abbrev pub step_ask : Step → Ask
step_ask (Makes n place) = ask.Make n place
step_ask (Accesses p a) = ask.At (number_at p.value) (access_request (p.value % 2 ^ 32) p.prov a)
step_ask (Prints v) = ask.Print v
step_ask (Hosts n a b) = ask.Host n a b
step_ask (Spawns k xs) = ask.Spawn k

abbrev pub retag_ask : Arg → RetagKind → Guard → ℕ → Ask
retag_ask p kind guard n = ask.At (number_at p.value) (request.Retag (p.value % 2 ^ 32) n kind guard p.prov)

-- the children that the thread has started
abbrev pub step_started : Step → Reply → List ℕ → List ℕ
step_started (Spawns k xs) r cs = number_in r.plain ∷ cs
step_started other r cs = cs

abbrev pub access_result : Access → Reply → Option Arg
access_result (Loads ty) r = Some (record { value = number_in r.plain; prov = prov_at ty r.carried })
access_result (Stores ty v) r = None
access_result (Modifies w o v) r = Some (plain_arg (number_in r.plain))
access_result (Compares w e v) r = Some (plain_arg (number_in r.plain))
access_result Frees r = None

-- the value that a step gives
abbrev pub step_result : Step → Reply → Option Arg
step_result (Makes n place) r = Some (record { value = number_in r.plain * 2 ^ 32; prov = r.carried })
step_result (Accesses p a) r = access_result a r
step_result (Prints v) r = None
step_result (Hosts n a b) r = Some (plain_arg (number_in r.plain))
step_result (Spawns k xs) r = Some (plain_arg (number_in r.plain))

-- local values -------------------------------------------------------------

abbrev pub moved : Arg → Arg → Arg
moved p n = record { value = (p.value + n.value) % 2 ^ 64; prov = p.prov }

abbrev pub worked_part : Worked → Part
worked_part (word n) = Gives (Some (plain_arg n))
worked_part div_zero = Fails trap.DivZero
worked_part shift_too_far = Fails trap.ShiftTooFar

abbrev pub binary_part : BinaryOp → Width → Arg → Arg → Part
binary_part o w a b = worked_part (worked o (bits w) (a.value % 2 ^ bits w) (b.value % 2 ^ bits w))

abbrev pub truth : Bool → ℕ
truth true = 1
truth false = 0

abbrev pub compared : Cond → Ty → Arg → Arg → Arg
compared c ty a b = plain_arg (truth (holds c (word_bits ty) (at_width ty a.value) (at_width ty b.value)))

abbrev pub chosen : {A : Type 0} → ℕ → A → A → A
chosen zero first second = second
chosen (suc n) first second = first

abbrev pub cast_arg : CastOp → Width → Width → Arg → Arg
cast_arg c v w a = plain_arg (cast_word c (bits v) (bits w) (a.value % 2 ^ bits v))

abbrev pub input_arg : List ℕ → Arg → Arg
input_arg input a = plain_arg (unwrap_or (slice_get input (a.value % 2 ^ 64)) 256)

abbrev pub make_by : Bool → Place → ℕ → Part
make_by true place n = Fails trap.BadSize
make_by false place n = Steps (Makes n place)

-- an allocation in a program of this version
abbrev pub make_part : ℕ → Place → Arg → Part
make_part version place a = make_by (nat_eq (a.value % 2 ^ 64) 0 || nat_lt (most_size_of version) (a.value % 2 ^ 64)) place (a.value % 2 ^ 64)

-- a retag of 0 bytes makes no step, and none does in the plain program
abbrev pub makes_step : Bool → ℕ → Bool
makes_step false n = false
makes_step true zero = false
makes_step true (suc n) = true

abbrev pub retag_part : Bool → Arg → RetagKind → ℕ → Part
retag_part true p kind n = Retags p kind n
retag_part false p kind n = Gives (Some p)

abbrev pub copy_by : Bool → Arg → Arg → ℕ → Part
copy_by true d s n = Gives None
copy_by false d s n = Copies d s n

abbrev pub copy_part : Arg → Arg → Arg → Part
copy_part d s a = copy_by (copy_done (a.value % 2 ^ 64) untouched) d s (a.value % 2 ^ 64)

abbrev pub call_part : Bool → ℕ → List Arg → Option Ty → Option Attr → Part
call_part true k xs ty attr = Calls k xs ty attr
call_part false k xs ty attr = Fails trap.DepthLimit

abbrev pub nth_value : List Arg → ℕ → ℕ
nth_value [] k = 0
nth_value (x ∷ xs) zero = x.value
nth_value (x ∷ xs) (suc k) = nth_value xs k

abbrev pub host_part : ℕ → List Arg → Part
host_part n xs = Steps (Hosts n (nth_value xs 0) (nth_value xs 1))

abbrev pub join_part : Arg → Option Ty → Option Attr → Part
join_part h ty attr = Joins (h.value % 2 ^ 32) ty attr

abbrev pub part_ask : Part → Ask
part_ask (Gives a) = ask.Turn
part_ask (Fails t) = ask.Ended (end.Trapped t)
part_ask (Steps s) = step_ask s
part_ask (Retags p kind n) = retag_ask p kind Free n
part_ask (Copies d s n) = copy_ask d s n untouched
part_ask (Calls k xs ty attr) = ask.Turn
part_ask (Joins c ty attr) = ask.Join (record { 0 = c })
