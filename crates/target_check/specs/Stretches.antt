-- The list of well-formedness, taken by functions and their stretches of lines.
use Rattle.std.specs.Prelude.{ℕ, ◌<◌, List, length, drop, Option, None}
use Rattle.ir_ast.specs.Tokens.{Each}
use Rattle.target_code.specs.declared.line.Line.{Line}
use Rattle.target_code.specs.declared.line.TargetFunction.{TargetFunction}
use Rattle.target_code.specs.Formed.{IsChecked, IsShadowed, IsReturned, EachTwo, NamesKnown, Begins, NoPush, is_turn, is_push}

pub record FitTogether (before after : Option Line) : Type 0 where
  pub checked : IsChecked before after
  pub shadowed : IsShadowed before after
  pub returned : IsReturned before after

-- a stretch in code with so many slots, blocks and functions
pub record StretchFits (slot_count block_count function_count : ℕ) (lines : List Line) : Type 0 where
  pub neighbours : EachTwo FitTogether None lines
  pub names : Each (NamesKnown slot_count block_count function_count) lines

pub record BlockFits (slot_count block_count function_count : ℕ) (lines : List Line) : Type 0 where
  pub begun : Begins is_turn lines
  pub no_push : NoPush lines
  pub fits : StretchFits slot_count block_count function_count lines

pub record EntryFits (slot_count block_count function_count : ℕ) (lines : List Line) : Type 0 where
  pub begun : Begins is_push lines
  pub no_push : NoPush (drop 1 lines)
  pub fits : StretchFits slot_count block_count function_count lines

pub record FunctionFits (function_count : ℕ) (f : TargetFunction) : Type 0 where
  pub some_block : 0 < length f.blocks
  pub entry : EntryFits f.slots (length f.blocks) function_count f.entry
  pub blocks : Each (BlockFits f.slots (length f.blocks) function_count) f.blocks
