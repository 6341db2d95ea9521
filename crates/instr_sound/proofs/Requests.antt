-- What is asked of an allocation is a request on a number.
use Rattle.std.proofs.Common.{ℕ, List, [], ◌∷◌, Option, Some, None, Bool, true, false}
use Rattle.std.specs.Prelude.{unwrap_or}
use Rattle.bsan_ids.specs.declared.numbers.Prov.{Prov}
use Rattle.history.specs.Pieces.{Byte}
use Rattle.history.specs.Replies.{IsOnNumber}
use Rattle.history.specs.declared.ask.Arg.{Arg}
use Rattle.history.specs.declared.ask.Ask.{Ask}
use Rattle.history.specs.declared.ask.Ask.TheVariants as ask
use Rattle.history.specs.declared.ask.MachineEnd.{MachineEnd}
use Rattle.ir_ast.specs.Arithmetic.{Worked, word, div_zero, shift_too_far}
use Rattle.ir_ast.specs.declared.types.Place.{Place}
use Rattle.target_code.specs.declared.line.Line.{Line}
use Rattle.target_code.specs.declared.line.Line.TheVariants as line
use Rattle.thread_parts.specs.Copies.{copy_ask_by}
use Rattle.thread_parts.specs.Owned.{Made, release_by, release_ask}
use Rattle.thread_parts.specs.Parts.{part_ask, worked_part, make_by}
use Rattle.thread_machine.specs.Thread.{TargetFrame, Thread, read_part, write_part, free_part, call_ask, lines_ask, over_ask, version_ask}
use Rattle.instr_sound.specs.Sound.{IsOn}

read_on : (f : TargetFrame) (h : ℕ) (ls : List Line) → IsOn (part_ask (read_part f h ls))
read_on f h [] = tt
read_on f h (line.Load s ty p ∷ ls) = tt
read_on f h (other ∷ ls) = tt

write_on : (f : TargetFrame) (stored : Option Prov) (h : ℕ) (ls : List Line) → IsOn (part_ask (write_part f stored h ls))
write_on f stored h [] = tt
write_on f stored h (line.Store ty v p ∷ ls) = tt
write_on f stored h (line.Modify s o w p v ∷ ls) = tt
write_on f stored h (line.CmpXchg s w p e v ∷ ls) = tt
write_on f stored h (other ∷ ls) = tt

free_on : (f : TargetFrame) (h : ℕ) (ls : List Line) → IsOn (part_ask (free_part f h ls))
free_on f h [] = tt
free_on f h (line.Free p ∷ ls) = tt
free_on f h (other ∷ ls) = tt

worked_on : (z : Worked) → IsOn (part_ask (worked_part z))
worked_on (word n) = tt
worked_on div_zero = tt
worked_on shift_too_far = tt

make_on : (b : Bool) (place : Place) (n : ℕ) → IsOn (part_ask (make_by b place n))
make_on true place n = tt
make_on false place n = tt

copy_on : (d s : Arg) (n k : ℕ) (half : Option (List Byte)) → IsOn (copy_ask_by d s n k half)
copy_on d s n k None = tt
copy_on d s n k (Some piece) = tt

release_on : (cs : List ℕ) (ps : List Prov) (ss : List Made) → IsOn (unwrap_or (release_by cs ps ss) ask.Turn)
release_on (c ∷ cs) ps ss = tt
release_on [] (p ∷ ps) ss = tt
release_on [] [] (s ∷ ss) = tt
release_on [] [] [] = tt

call_on : (b : Bool) → IsOn (call_ask b)
call_on true = tt
call_on false = tt

lines_on : (version : ℕ) (t : Thread) (ls : List Line) → IsOn (lines_ask version t ls)
lines_on version t [] = tt
lines_on version t (line.Binary s o w a b ∷ ls) = worked_on _
lines_on version t (line.Make s h place size ∷ ls) = make_on _ place _
lines_on version t (line.CheckRead p h n ∷ ls) = read_on t.top h ls
lines_on version t (line.CheckWrite p h n ∷ ls) = write_on t.top t.stored h ls
lines_on version t (line.CheckFree p h ∷ ls) = free_on t.top h ls
lines_on version t (line.CheckCopy d dh s sh v ∷ ls) = copy_on _ _ _ _ t.copying.half
lines_on version t (line.PopFrame ∷ ls) = release_on t.top.owned.children t.top.owned.protectors t.top.owned.stack
lines_on version t (line.Call k ∷ ls) = call_on _
lines_on version t (other ∷ ls) = tt

over_on : (version : ℕ) (t : Thread) (o : Option MachineEnd) → IsOn (over_ask version t o)
over_on version t None = lines_on version t t.top.rest
over_on version t (Some over) = tt

pub asks_on : (version : ℕ) (t : Thread) → IsOn (version_ask version t)
asks_on version t = over_on version t t.over
