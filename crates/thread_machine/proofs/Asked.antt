-- Operands of a list.
use Rattle.std.proofs.Common.{◌≡◌, drop, sym, ℕ, zero, suc, ◌<◌, ◌≤◌, List, [], ◌∷◌, length, Some, None, refl, ap, ◌∙◌, arith}
use Rattle.std.specs.Prelude.{slice_get, slice_index_or}
use Rattle.thread_parts.specs.Parts.{nth_value, part_ask}
use Rattle.thread_parts.specs.Copies.{Progress, copy_ask_by, copy_ask}
use Rattle.history.specs.declared.ask.Arg.{Arg}
use Rattle.history.specs.Pieces.{Byte}
use Rattle.std.specs.declared.option.Option.{Option}
use Rattle.thread_machine.specs.Views.{ended_by}
use Rattle.target_code.specs.declared.line.Operand.{Operand}
use Rattle.history.specs.declared.ask.Ask.TheVariants as ask
use Rattle.history.specs.declared.ask.MachineEnd.{MachineEnd}
use Rattle.history.specs.declared.ask.MachineEnd.TheVariants as end
use Rattle.history.specs.declared.trap.Trap.TheVariants as trap
use Rattle.target_code.specs.declared.line.Line.{Line}
use Rattle.target_code.specs.declared.line.Line.TheVariants as line
use Rattle.bsan_ids.specs.declared.numbers.Prov.{Prov}
use Rattle.thread_machine.specs.Thread.{TargetFrame, Thread, word_of, operands_at, lines_ask, over_ask, version_ask, read_part, write_part, free_part}

pub nth_operand : (f : TargetFrame) (vs : List Operand) (k : ℕ) (v : Operand) → slice_get vs k ≡ Some v → nth_value (operands_at f vs) k ≡ word_of f v
nth_operand f [] k v e = absurd cc
nth_operand f (u ∷ vs) zero v e = ap (word_of f) (same e)
  where
    same : Some u ≡ Some v → u ≡ v
    same e = cc
nth_operand f (u ∷ vs) (suc k) v e = nth_operand f vs k v e

pub no_operand : (f : TargetFrame) (vs : List Operand) (k : ℕ) → length vs ≤ k → nth_value (operands_at f vs) k ≡ 0
no_operand f [] k le = refl
no_operand f (u ∷ vs) zero le = absurd (omega arith)
no_operand f (u ∷ vs) (suc k) le = no_operand f vs k (omega arith)

pub operand_at_place : (f : TargetFrame) (vs : List Operand) (k : ℕ) (d : Operand) → k < length vs → word_of f (slice_index_or vs k d) ≡ nth_value (operands_at f vs) k
operand_at_place f [] k d lt = absurd (omega arith)
operand_at_place f (u ∷ vs) zero d lt = refl
operand_at_place f (u ∷ vs) (suc k) d lt = operand_at_place f vs k d (omega arith)

-- what is asked at a line, at the end of the lines, and by a thread that has ended
pub asks_at : (v : ℕ) (t : Thread) (l : Line) (ls : List Line) → t.over ≡ None → t.top.rest ≡ l ∷ ls → version_ask v t ≡ lines_ask v t (l ∷ ls)
asks_at v t l ls o e = ap (over_ask v t) o ∙ ap (lines_ask v t) e

pub asks_nothing : (v : ℕ) (t : Thread) → t.over ≡ None → t.top.rest ≡ [] → version_ask v t ≡ ask.Ended (end.Trapped trap.Unreachable)
asks_nothing v t o e = ap (over_ask v t) o ∙ ap (lines_ask v t) e

pub asks_over : (v : ℕ) (t : Thread) (e : MachineEnd) → t.over ≡ Some e → version_ask v t ≡ ask.Ended e
asks_over v t e o = ap (over_ask v t) o

-- a copy doesn't end a thread
pub copy_goes : (to from : Arg) (n : ℕ) (p : Progress) → ended_by (copy_ask to from n p) ≡ None
copy_goes to from n p = by_half p.half
  where
    by_half : (half : Option (List Byte)) → ended_by (copy_ask_by to from n p.pieces half) ≡ None
    by_half None = refl
    by_half (Some piece) = refl

-- whether a check's access follows it doesn't depend on the frame
read_ends : (f g : TargetFrame) (h k : ℕ) (ls : List Line) → ended_by (part_ask (read_part f h ls)) ≡ ended_by (part_ask (read_part g k ls))
read_ends f g h k (line.Load s ty p ∷ ls) = refl
read_ends f g h k other = refl

free_ends : (f g : TargetFrame) (h k : ℕ) (ls : List Line) → ended_by (part_ask (free_part f h ls)) ≡ ended_by (part_ask (free_part g k ls))
free_ends f g h k (line.Free p ∷ ls) = refl
free_ends f g h k other = refl

write_ends : (f g : TargetFrame) (o q : Option Prov) (h k : ℕ) (ls : List Line) → ended_by (part_ask (write_part f o h ls)) ≡ ended_by (part_ask (write_part g q k ls))
write_ends f g o q h k (line.Store ty v p ∷ ls) = refl
write_ends f g o q h k (line.Modify s op w p v ∷ ls) = refl
write_ends f g o q h k (line.CmpXchg s w p e v ∷ ls) = refl
write_ends f g o q h k other = refl

-- the end of a thread at a check
ended_at : (v : ℕ) (t : Thread) (l m : Line) → t.over ≡ None → t.top.rest ≡ l ∷ drop 1 t.top.rest → l ≡ m → ended_by (version_ask v t) ≡ ended_by (lines_ask v t (m ∷ drop 1 t.top.rest))
ended_at v t l m none e is = ap ended_by (asks_at v t l (drop 1 t.top.rest) none e ∙ ap (λ z. lines_ask v t (z ∷ drop 1 t.top.rest)) is)

pub read_ended : (v : ℕ) (t : Thread) (f : TargetFrame) (l : Line) (s h n : ℕ) (o : Option MachineEnd) → f.rest ≡ t.top.rest → t.over ≡ None → f.rest ≡ l ∷ drop 1 f.rest → l ≡ line.CheckRead s h n
    → o ≡ ended_by (part_ask (read_part f 0 (drop 1 f.rest))) → o ≡ ended_by (version_ask v t)
read_ended v t f l s h n o same none e is ends = ends ∙ read_ends f t.top 0 h (drop 1 f.rest)
    ∙ ap (λ r. ended_by (part_ask (read_part t.top h (drop 1 r)))) same ∙ sym (ended_at v t l (line.CheckRead s h n) none (sym same ∙ e ∙ ap (λ r. l ∷ drop 1 r) same) is)

pub free_ended : (v : ℕ) (t : Thread) (f : TargetFrame) (l : Line) (s h : ℕ) (o : Option MachineEnd) → f.rest ≡ t.top.rest → t.over ≡ None → f.rest ≡ l ∷ drop 1 f.rest → l ≡ line.CheckFree s h
    → o ≡ ended_by (part_ask (free_part f 0 (drop 1 f.rest))) → o ≡ ended_by (version_ask v t)
free_ended v t f l s h o same none e is ends = ends ∙ free_ends f t.top 0 h (drop 1 f.rest)
    ∙ ap (λ r. ended_by (part_ask (free_part t.top h (drop 1 r)))) same ∙ sym (ended_at v t l (line.CheckFree s h) none (sym same ∙ e ∙ ap (λ r. l ∷ drop 1 r) same) is)

pub write_ended : (v : ℕ) (t : Thread) (f : TargetFrame) (l : Line) (s h n : ℕ) (o : Option MachineEnd) → f.rest ≡ t.top.rest → t.over ≡ None → f.rest ≡ l ∷ drop 1 f.rest → l ≡ line.CheckWrite s h n
    → o ≡ ended_by (part_ask (write_part f None 0 (drop 1 f.rest))) → o ≡ ended_by (version_ask v t)
write_ended v t f l s h n o same none e is ends = ends ∙ write_ends f t.top None t.stored 0 h (drop 1 f.rest)
    ∙ ap (λ r. ended_by (part_ask (write_part t.top t.stored h (drop 1 r)))) same ∙ sym (ended_at v t l (line.CheckWrite s h n) none (sym same ∙ e ∙ ap (λ r. l ∷ drop 1 r) same) is)
