-- Frames as the definitions have them.
use Rattle.std.specs.Prelude.{ℕ, Bool, true, false, List, [], ◌∷◌}
use Rattle.history.specs.declared.entry.Reply.{Reply}
use Rattle.ir_ast.specs.declared.program.Param.{Param}
use Rattle.thread_parts.specs.Copies.{Progress, copy_done}
use Rattle.source_sem.specs.Source as sem
use Rattle.source_machine.specs.declared.frame.Frame.{Frame}
use Rattle.source_machine.specs.Positions.{insts_left, term_left, rest_of}
use Rattle.source_machine.specs.Doings.{doing_in}

abbrev pub frame_in : Frame → sem.Frame
frame_in f = record {
  function = f.function;
  insts = insts_left f.block f.at;
  term = term_left f.block;
  number = f.number;
  env = f.registers.env;
  owned = f.owned.owned;
  doing = doing_in f.piece f.doing;
}

-- a frame of which the first of these parameters is retagged
abbrev pub entered_in : sem.Frame → List Param → Reply → sem.Frame
entered_in f [] r = f
entered_in f (p ∷ ps) r = sem.entered f p ps r

-- a frame whose copy has come so far
abbrev pub copied_by : sem.Frame → Progress → Bool → sem.Frame
copied_by f pr true = sem.advance f (rest_of f.insts) f.env f.owned
copied_by f pr false = record f { doing = sem.Copying pr }

abbrev pub copied_in : sem.Frame → ℕ → Progress → sem.Frame
copied_in f n pr = copied_by f pr (copy_done n pr)
