-- The target thread: frames over lines, with slots, shadow slots and rows of arguments. It is always past its silent lines.
use Rattle.std.specs.Prelude.{ℕ, zero, suc, ◌+◌, ◌*◌, ◌%◌, ◌^◌, List, [], ◌∷◌, ◌++◌, Option, Some, None, Bool, true, false, not, length, map, nat_lt, slice_get, get_or, set, replicate, unwrap_or}
use Rattle.std.specs.Option.{option_map_or}
use Rattle.bsan_ids.specs.declared.numbers.Prov.{Prov}
use Rattle.perm_table.specs.declared.Guard.{Guard}
use Rattle.perm_table.specs.declared.Guard.TheVariants.{Free}
use Rattle.ir_ast.specs.declared.types.Ty.{Ty}
use Rattle.ir_ast.specs.declared.types.Ty.TheVariants.{Int, Ptr}
use Rattle.history.specs.declared.ask.Arg.{Arg}
use Rattle.history.specs.declared.ask.Ask.{Ask}
use Rattle.history.specs.declared.ask.Ask.TheVariants as ask
use Rattle.history.specs.declared.ask.MachineEnd.{MachineEnd}
use Rattle.history.specs.declared.ask.MachineEnd.TheVariants as end
use Rattle.history.specs.declared.entry.Plain.{Plain}
use Rattle.history.specs.declared.entry.Reply.{Reply}
use Rattle.history.specs.declared.trap.Trap.{Trap}
use Rattle.history.specs.declared.trap.Trap.TheVariants as trap
use Rattle.target_code.specs.declared.line.Operand.{Operand}
use Rattle.target_code.specs.declared.line.Operand.TheVariants as operand
use Rattle.target_code.specs.declared.line.Shadow.{Shadow}
use Rattle.target_code.specs.declared.line.Shadow.TheVariants as shadow
use Rattle.target_code.specs.declared.line.Line.{Line}
use Rattle.target_code.specs.declared.line.Line.TheVariants as line
use Rattle.target_code.specs.declared.line.TargetFunction.{TargetFunction}
use Rattle.target_code.specs.declared.line.Target.{Target}
use Rattle.history.specs.Replies.{trap_of}
use Rattle.thread_parts.specs.Words.{blank, plain_arg, at_width, number_in}
use Rattle.ir_ast.specs.Words.{bits}
use Rattle.thread_parts.specs.Parts.{Part, Gives, Fails, Steps, Accesses, Prints, Spawns, Loads, Stores, Modifies, Compares, Frees, part_ask, retag_ask, binary_part, compared, chosen, cast_arg, input_arg, make_part, makes_step, host_part, join_part}
use Rattle.thread_parts.specs.Copies.{Progress, untouched, copy_ask, copy_after, copy_done}
use Rattle.thread_parts.specs.Rooms.{has_none}
use Rattle.thread_parts.specs.Owned.{Owned, nothing_owned, release_ask, released, protect, Made, with_stack}
use Rattle.bsan_ids.specs.Lists.{without}

-- the target code, and the input
pub record TargetSetting : Type 0 where
  pub target : Target
  pub input : List ℕ

-- ---- states

-- a row of arguments; what wasn't written is 0 and none
pub record Row : Type 0 where
  pub words : List ℕ
  pub provs : List (Option Prov)

abbrev pub empty_row : Row
empty_row = record { words = []; provs = [] }

-- A frame: its function, the number of its instruction, what is left of its lines, slots and shadow slots; the row that it
-- was handed, what it gives back, what the last call or join gave it, and what it must give up at its return.
pub record TargetFrame : Type 0 where
  pub function : ℕ
  pub site : ℕ
  pub rest : List Line
  pub words : List ℕ
  pub shadows : List (Option Prov)
  pub handed : Row
  pub result : Arg
  pub given : Arg
  pub owned : Owned

-- A thread: its newest frame and the others, the row of arguments, what `loaded` and `stored` keep, how far a copy has come,
-- whether a part of the instruction is done, the count of instructions, and how it ended.
pub record Thread : Type 0 where
  pub top : TargetFrame
  pub callers : List TargetFrame
  pub row : Row
  pub loaded : Option Prov
  pub stored : Option Prov
  pub copying : Progress
  pub begun : Bool
  pub count : ℕ
  pub over : Option MachineEnd

-- ---- operands

abbrev pub word_at : TargetFrame → ℕ → ℕ
word_at f s = get_or f.words s 0

abbrev pub prov_of : TargetFrame → ℕ → Option Prov
prov_of f h = get_or f.shadows h None

-- the pointer in a slot, with a shadow slot's provenance
abbrev pub pointer_at : TargetFrame → ℕ → ℕ → Arg
pointer_at f s h = record { value = word_at f s; prov = prov_of f h }

abbrev pub word_of : TargetFrame → Operand → ℕ
word_of f (operand.Slot s) = word_at f s
word_of f (operand.Number n) = n

abbrev pub shadow_at : TargetFrame → Shadow → Option Prov
shadow_at f (shadow.Slot h) = prov_of f h
shadow_at f shadow.Nothing = None

-- an operand's word alone
abbrev pub operand_at : TargetFrame → Operand → Arg
operand_at f v = plain_arg (word_of f v)

abbrev pub operands_at : TargetFrame → List Operand → List Arg
operands_at f [] = []
operands_at f (v ∷ vs) = operand_at f v ∷ operands_at f vs

-- ---- writes

-- a list in which this place is written; what is missing before it is the default
abbrev pub put_at : {A : Type 0} → List A → ℕ → A → A → List A
put_at [] zero d x = x ∷ []
put_at [] (suc i) d x = d ∷ put_at [] i d x
put_at (y ∷ l) zero d x = x ∷ l
put_at (y ∷ l) (suc i) d x = y ∷ put_at l i d x

abbrev pub set_word : Thread → ℕ → ℕ → Thread
set_word t s v = record t { top = record t.top { words = set t.top.words s v } }

abbrev pub set_shadow : Thread → ℕ → Option Prov → Thread
set_shadow t h p = record t { top = record t.top { shadows = set t.top.shadows h p } }

abbrev pub set_row_word : Thread → ℕ → ℕ → Thread
set_row_word t i v = record t { row = record t.row { words = put_at t.row.words i 0 v } }

abbrev pub set_row_prov : Thread → ℕ → Option Prov → Thread
set_row_prov t i p = record t { row = record t.row { provs = put_at t.row.provs i None p } }

abbrev pub set_owned : Thread → Owned → Thread
set_owned t o = record t { top = record t.top { owned = o } }

abbrev pub set_given : Thread → Arg → Thread
set_given t v = record t { top = record t.top { given = v } }

abbrev pub set_result : Thread → Arg → Thread
set_result t v = record t { top = record t.top { result = v } }

abbrev pub at_lines : Thread → List Line → Thread
at_lines t ls = record t { top = record t.top { rest = ls } }

-- ---- silent lines

abbrev pub passed : Bool → Thread → Option Thread
passed true t = Some t
passed false t = None

-- the thread after a line that puts a local value into a slot; a trap isn't passed
abbrev pub with_value : Part → Thread → ℕ → Option Thread
with_value (Gives (Some v)) t s = Some (set_word t s v.value)
with_value other t s = None

-- a retag that makes no step keeps the provenance
abbrev pub unless_step : Bool → Thread → ℕ → ℕ → Option Thread
unless_step true t to from = None
unless_step false t to from = Some (set_shadow t to (prov_of t.top from))

-- The thread after a line that makes no step, meets no trap and leads to the line after it; none after any other line.
-- The bytes of a copy are copied with its check.
abbrev pub silent : List ℕ → Line → Thread → Option Thread
silent input line.PushFrame t = Some t
silent input (line.Param s i) t = Some (set_word t s (get_or t.top.handed.words i 0))
silent input (line.ShadowParam h i) t = Some (set_shadow t h (get_or t.top.handed.provs i None))
silent input (line.Const s ty n) t = Some (set_word t s (at_width ty n))
silent input (line.Move s p) t = Some (set_word t s (word_at t.top p))
silent input (line.ShadowMove h from) t = Some (set_shadow t h (shadow_at t.top from))
silent input (line.Gep s p v) t = Some (set_word t s ((word_at t.top p + word_of t.top v) % 2 ^ 64))
silent input (line.Loaded h) t = Some (set_shadow t h t.loaded)
silent input (line.Stored from) t = Some (record t { stored = shadow_at t.top from })
silent input (line.Retag h kind guard p from n) t = unless_step (makes_step true n) t h from
silent input (line.RetagResult kind n) t = passed (not (makes_step true n)) t
silent input (line.Binary s o w a b) t = with_value (binary_part o w (operand_at t.top a) (operand_at t.top b)) t s
silent input (line.Compare s c ty a b) t = Some (set_word t s (compared c ty (operand_at t.top a) (operand_at t.top b)).value)
silent input (line.Select s ty c a b) t = Some (set_word t s (at_width ty (chosen (word_of t.top c) (word_of t.top a) (word_of t.top b))))
silent input (line.ShadowSelect h c a b) t = Some (set_shadow t h (chosen (word_of t.top c) (shadow_at t.top a) (shadow_at t.top b)))
silent input (line.Cast s o from v to) t = Some (set_word t s (cast_arg o from to (operand_at t.top v)).value)
silent input (line.PtrToInt s p) t = Some (set_word t s (word_at t.top p))
silent input (line.Input s v) t = Some (set_word t s (input_arg input (operand_at t.top v)).value)
silent input (line.CheckCopy d dh s sh v) t = passed (copy_done (word_of t.top v % 2 ^ 64) untouched) t
silent input (line.Copy d s v) t = Some t
silent input (line.Arg i v) t = Some (set_row_word t i (word_of t.top v))
silent input (line.ShadowArg i from) t = Some (set_row_prov t i (shadow_at t.top from))
silent input (line.TakeArg s i) t = Some (set_word t s (get_or t.row.words i 0))
silent input (line.TakeShadowArg h i) t = Some (set_shadow t h (get_or t.row.provs i None))
silent input (line.CallResult s) t = Some (set_word t s t.top.given.value)
silent input (line.ShadowCallResult h) t = Some (set_shadow t h t.top.given.prov)
silent input (line.Result v) t = Some (set_result t (record t.top.result { value = word_of t.top v }))
silent input (line.ShadowResult from) t = Some (set_result t (record t.top.result { prov = shadow_at t.top from }))
silent input line.PopFrame t = passed (has_none (release_ask t.top.owned)) t
silent input other t = None

-- the thread at the first of these lines that isn't silent
abbrev pub run : List ℕ → List Line → Thread → Thread
run input [] t = at_lines t []
run input (l ∷ ls) t = option_map_or (run input ls) (silent input l t) (at_lines t (l ∷ ls))

-- An instruction that is over is left at a `turn` line: the next one's number is taken, and its first silent lines
-- are done. Elsewhere a part of the instruction is done.
abbrev pub cross_by : List ℕ → List Line → Thread → Thread
cross_by input (line.Turn n ∷ ls) t = run input ls (record t { begun = false; top = record t.top { site = n } })
cross_by input ls t = record t { begun = true }

abbrev pub cross : List ℕ → Thread → Thread
cross input t = cross_by input t.top.rest t

-- goes on with these lines, after a part of an instruction
abbrev pub go_on : List ℕ → List Line → Thread → Thread
go_on input ls t = cross input (run input ls t)

-- ---- what it asks

-- The access that a check and the line after it make. Lines that belong to no check make none.
abbrev pub nothing_there : Part
nothing_there = Fails trap.Unreachable

abbrev pub read_part : TargetFrame → ℕ → List Line → Part
read_part f h (line.Load s ty p ∷ ls) = Steps (Accesses (pointer_at f p h) (Loads ty))
read_part f h ls = nothing_there

abbrev pub write_part : TargetFrame → Option Prov → ℕ → List Line → Part
write_part f stored h (line.Store ty v p ∷ ls) = Steps (Accesses (pointer_at f p h) (Stores ty (record { value = word_of f v; prov = stored })))
write_part f stored h (line.Modify s o w p v ∷ ls) = Steps (Accesses (pointer_at f p h) (Modifies w o (word_of f v)))
write_part f stored h (line.CmpXchg s w p e v ∷ ls) = Steps (Accesses (pointer_at f p h) (Compares w (word_of f e) (word_of f v)))
write_part f stored h ls = nothing_there

abbrev pub free_part : TargetFrame → ℕ → List Line → Part
free_part f h (line.Free p ∷ ls) = Steps (Accesses (pointer_at f p h) Frees)
free_part f h ls = nothing_there

-- the part of an instruction that the first of these lines is, in code of this version
abbrev pub lines_part : ℕ → Thread → List Line → Part
lines_part version t (line.Binary s o w a b ∷ ls) = binary_part o w (operand_at t.top a) (operand_at t.top b)
lines_part version t (line.Make s h place size ∷ ls) = make_part version place (operand_at t.top size)
lines_part version t (line.CheckRead p h n ∷ ls) = read_part t.top h ls
lines_part version t (line.CheckWrite p h n ∷ ls) = write_part t.top t.stored h ls
lines_part version t (line.CheckFree p h ∷ ls) = free_part t.top h ls
lines_part version t (line.Print w v ∷ ls) = Steps (Prints (word_of t.top v % 2 ^ bits w))
lines_part version t (line.Host s n vs ∷ ls) = host_part n (operands_at t.top vs)
lines_part version t (line.Spawn s k ∷ ls) = Steps (Spawns k [])
lines_part version t (line.Join s ∷ ls) = join_part (plain_arg (word_at t.top s)) None None
lines_part version t ls = nothing_there

-- with 1024 frames there no call is made
abbrev pub call_ask : Bool → Ask
call_ask true = ask.Turn
call_ask false = ask.Ended (end.Trapped trap.DepthLimit)

abbrev pub lines_ask : ℕ → Thread → List Line → Ask
lines_ask version t (line.Turn n ∷ ls) = ask.Turn
lines_ask version t (line.Branch v ∷ ls) = ask.Turn
lines_ask version t (line.Jump n ∷ ls) = ask.Turn
lines_ask version t (line.Return ∷ ls) = ask.Turn
lines_ask version t (line.Call k ∷ ls) = call_ask (nat_lt (suc (length t.callers)) 1024)
lines_ask version t (line.Retag to kind guard p h n ∷ ls) = retag_ask (pointer_at t.top p h) kind guard n
lines_ask version t (line.RetagResult kind n ∷ ls) = retag_ask t.top.given kind Free n
lines_ask version t (line.CheckCopy d dh s sh v ∷ ls) = copy_ask (pointer_at t.top d dh) (pointer_at t.top s sh) (word_of t.top v % 2 ^ 64) t.copying
lines_ask version t (line.PopFrame ∷ ls) = unwrap_or (release_ask t.top.owned) ask.Turn
lines_ask version t ls = part_ask (lines_part version t ls)

abbrev pub over_ask : ℕ → Thread → Option MachineEnd → Ask
over_ask version t None = lines_ask version t t.top.rest
over_ask version t (Some e) = ask.Ended e

-- what the thread asks, in code of this version
abbrev pub version_ask : ℕ → Thread → Ask
version_ask version t = over_ask version t t.over

abbrev pub thread_ask : TargetSetting → Thread → Ask
thread_ask x t = version_ask x.target.version t

-- would an instruction begin
abbrev pub begins_by : Option MachineEnd → Bool → Bool
begins_by None begun = not begun
begins_by (Some e) begun = false

abbrev pub thread_begins : Thread → Bool
thread_begins t = begins_by t.over t.begun

abbrev pub thread_site : Thread → ℕ
thread_site t = t.top.site

-- ---- local turns

-- an instruction counts once, with its first part
abbrev pub counted_unless : Bool → Thread → Thread
counted_unless true t = t
counted_unless false t = record t { count = t.count + 1 }

abbrev pub counted : Thread → Thread
counted t = counted_unless t.begun t

abbrev pub lines_or_none : Option (List Line) → List Line
lines_or_none None = []
lines_or_none (Some ls) = ls

abbrev pub block_at : Option TargetFunction → ℕ → List Line
block_at None n = []
block_at (Some f) n = lines_or_none (slice_get f.blocks n)

-- the lines after the next `jump`
abbrev pub past_jump : List Line → List Line
past_jump [] = []
past_jump (line.Jump n ∷ ls) = ls
past_jump (l ∷ ls) = past_jump ls

-- a branch goes on with the lines after it where the value isn't 0, and else with those after the next `jump`
abbrev pub branch_lines : ℕ → List Line → List Line
branch_lines zero ls = past_jump ls
branch_lines (suc n) ls = ls

-- a `jump` goes to its block; at another line a part of the instruction is done
abbrev pub jump_by : TargetSetting → Thread → List Line → Thread
jump_by x t (line.Jump n ∷ ls) = go_on x.input (block_at (slice_get x.target.functions t.top.function) n) t
jump_by x t ls = cross x.input t

abbrev pub jumped : TargetSetting → Thread → Thread
jumped x t = jump_by x t t.top.rest

-- the thread after a branch: at its lines, and then in the block of their `jump`
abbrev pub branched : TargetSetting → Thread → Operand → List Line → Thread
branched x t v ls = jumped x (run x.input (branch_lines (word_of t.top v) ls) t)

-- the number of the instruction with which these lines begin
abbrev pub turn_number : List Line → ℕ
turn_number (line.Turn n ∷ ls) = n
turn_number ls = 0

-- a new frame; its site is that of its function's first instruction
abbrev pub frame_at : ℕ → Option TargetFunction → Row → TargetFrame
frame_at k None row =
    record { function = k; site = 0; rest = []; words = []; shadows = []; handed = row; result = blank; given = blank; owned = nothing_owned }
frame_at k (Some f) row =
    record { function = k; site = turn_number (block_at (Some f) 0); rest = []; words = replicate f.slots 0; shadows = replicate f.slots None; handed = row; result = blank; given = blank; owned = nothing_owned }

-- the entry lines go on with block 0
abbrev pub first_lines : Option TargetFunction → List Line
first_lines None = []
first_lines (Some f) = f.entry ++ block_at (Some f) 0

abbrev pub call_by : TargetSetting → Thread → ℕ → List Line → Thread
call_by x t k ls =
    go_on x.input (first_lines (slice_get x.target.functions k))
    (record t { top = frame_at k (slice_get x.target.functions k) t.row; callers = record t.top { rest = ls } ∷ t.callers; row = empty_row; begun = true })

-- a return hands the frame's result over to its caller, or ends the thread
abbrev pub return_by : List ℕ → Thread → List TargetFrame → Thread
return_by input t [] = record t { over = Some (end.Returned t.top.result.value t.top.result.prov) }
return_by input t (f ∷ fs) = go_on input f.rest (record t { top = record f { given = t.top.result }; callers = fs; begun = true })

abbrev pub lines_turn : TargetSetting → Thread → List Line → Thread
lines_turn x t (line.Turn n ∷ ls) = cross x.input t
lines_turn x t (line.Branch v ∷ ls) = branched x t v ls
lines_turn x t (line.Jump n ∷ ls) = jumped x t
lines_turn x t (line.Call k ∷ ls) = call_by x t k ls
lines_turn x t (line.Return ∷ ls) = return_by x.input t t.callers
lines_turn x t ls = t

abbrev pub thread_turn : TargetSetting → Thread → Thread
thread_turn x t = lines_turn x (counted t) t.top.rest

-- ---- answers

-- a load of a pointer writes `loaded`
abbrev pub loaded_by : Ty → Option Prov → Option Prov → Option Prov
loaded_by (Int w) p old = old
loaded_by Ptr p old = p

abbrev pub with_loaded : Ty → Option Prov → Thread → Thread
with_loaded ty p t = record t { loaded = loaded_by ty p t.loaded }

abbrev pub load_answer : List ℕ → Thread → List Line → Reply → Thread
load_answer input t (line.Load s ty p ∷ ls) r = go_on input ls (with_loaded ty r.carried (set_word t s (number_in r.plain)))
load_answer input t ls r = t

abbrev pub write_answer : List ℕ → Thread → List Line → Reply → Thread
write_answer input t (line.Store ty v p ∷ ls) r = go_on input ls t
write_answer input t (line.Modify s o w p v ∷ ls) r = go_on input ls (set_word t s (number_in r.plain))
write_answer input t (line.CmpXchg s w p e v ∷ ls) r = go_on input ls (set_word t s (number_in r.plain))
write_answer input t ls r = t

abbrev pub free_answer : List ℕ → Thread → List Line → Thread
free_answer input t (line.Free p ∷ ls) = go_on input ls t
free_answer input t ls = t

abbrev pub copy_by : List ℕ → Thread → List Line → Progress → Bool → Thread
copy_by input t ls pr true = go_on input ls (record t { copying = untouched })
copy_by input t ls pr false = record t { copying = pr; begun = true }

abbrev pub copy_answer : List ℕ → Thread → List Line → ℕ → Progress → Thread
copy_answer input t ls n pr = copy_by input t ls pr (copy_done n pr)

-- a guarded retag keeps a protector, where it added a node
abbrev pub guarded : Guard → Plain → Option Prov → Owned → Owned
guarded Free p carried o = o
guarded other p carried o = protect p carried o

-- what a frame gives up is given up one after the other; then it returns
abbrev pub pop_by : List ℕ → Thread → List Line → Option Ask → Thread
pop_by input t (line.Return ∷ ls) None = return_by input t t.callers
pop_by input t ls a = record t { begun = true }

abbrev pub popped : List ℕ → Thread → List Line → Thread
popped input t ls = pop_by input (set_owned t (released t.top.owned)) ls (release_ask (released t.top.owned))

abbrev pub made_by : Reply → Made
made_by r = record { number = record { 0 = number_in r.plain }; prov = r.carried }

-- a child was started: it is the frame's, and the row is empty
abbrev pub spawned : Thread → ℕ → ℕ → Thread
spawned t s c = record (set_owned (set_word t s c) (record t.top.owned { children = t.top.owned.children ++ c ∷ [] })) { row = empty_row }

-- the child of a handle was joined
abbrev pub joined : Thread → ℕ → Reply → Thread
joined t s r = set_given (set_owned t (record t.top.owned { children = without (word_at t.top s % 2 ^ 32) t.top.owned.children })) (record { value = number_in r.plain; prov = r.carried })

abbrev pub lines_answer : List ℕ → Thread → List Line → Reply → Thread
lines_answer input t (line.Make s h place size ∷ ls) r =
    go_on input ls (set_owned (set_shadow (set_word t s (number_in r.plain * 2 ^ 32)) h r.carried) (with_stack place (made_by r) t.top.owned))
lines_answer input t (line.CheckRead p h n ∷ ls) r = load_answer input t ls r
lines_answer input t (line.CheckWrite p h n ∷ ls) r = write_answer input t ls r
lines_answer input t (line.CheckFree p h ∷ ls) r = free_answer input t ls
lines_answer input t (line.Retag to kind guard p h n ∷ ls) r = go_on input ls (set_owned (set_shadow t to r.carried) (guarded guard r.plain r.carried t.top.owned))
lines_answer input t (line.RetagResult kind n ∷ ls) r = go_on input ls t
lines_answer input t (line.CheckCopy d dh s sh v ∷ ls) r = copy_answer input t ls (word_of t.top v % 2 ^ 64) (copy_after t.copying r.plain)
lines_answer input t (line.Print w v ∷ ls) r = go_on input ls t
lines_answer input t (line.Host s n vs ∷ ls) r = go_on input ls (set_word t s (number_in r.plain))
lines_answer input t (line.Spawn s k ∷ ls) r = go_on input ls (spawned t s (number_in r.plain))
lines_answer input t (line.Join s ∷ ls) r = go_on input ls (joined t s r)
lines_answer input t (line.PopFrame ∷ ls) r = popped input t ls
lines_answer input t ls r = t

-- a trap ends the thread
abbrev pub answer_by : List ℕ → Thread → Option Trap → Reply → Thread
answer_by input t (Some e) r = record t { over = Some (end.Trapped e) }
answer_by input t None r = lines_answer input t t.top.rest r

abbrev pub thread_answer : TargetSetting → Thread → Reply → Thread
thread_answer x t r = answer_by x.input (counted t) (trap_of r.plain) r

-- ---- new threads

-- a new thread with this row of arguments
abbrev pub thread_start : TargetSetting → ℕ → Row → Thread
thread_start x k row =
    go_on x.input (first_lines (slice_get x.target.functions k))
    (record { top = frame_at k (slice_get x.target.functions k) row; callers = []; row = empty_row; loaded = None; stored = None; copying = untouched; begun = true; count = 0; over = None })

-- the row that holds these arguments
abbrev pub row_of : List Arg → Row
row_of xs = record { words = map (λ a. a.value) xs; provs = map (λ a. a.prov) xs }

-- the child that a spawn starts, with the row
abbrev pub lines_child : TargetSetting → Thread → List Line → Thread
lines_child x t (line.Spawn s k ∷ ls) = thread_start x k t.row
lines_child x t ls = thread_start x 0 empty_row

abbrev pub thread_child : TargetSetting → Thread → Thread
thread_child x t = lines_child x t t.top.rest
