-- What may be run, and a thread at the beginning of main.
use Rattle.std.specs.Prelude.{◌≡◌, ℕ, ◌<◌}
use Rattle.ir_ast.specs.Programs.{IsProgram}
use Rattle.ir_ast.specs.Tokens.{Each}
use Rattle.ir_ast.specs.declared.hosts.HostTable.{HostTable}
use Rattle.ir_rules.specs.Rules.{IsAccepted}
use Rattle.source_sem.specs.Source.{Setting, Source}
use Rattle.source_sem.specs.Starting.{setting_of, main_of, main_start}

-- a program that is accepted with these host functions, with an input of bytes
pub record IsRunnable (x : Setting) (hosts : HostTable) : Type 0 where
  pub program : IsProgram x.program
  pub accepted : IsAccepted x.program hosts
  pub bytes : Each (λ b. b < 256) x.input
  pub setting : x ≡ setting_of x.program x.input hosts

-- the thread stands at the beginning of main, which has this number, in a program that may be run
pub record IsMain {T : Type 0} (setting : T → Setting) (state : T → Source) (hosts : HostTable) (function : ℕ) (m : T) : Type 0 where
  pub runnable : IsRunnable (setting m) hosts
  pub function_is : function ≡ main_of (setting m).program
  pub state_is : state m ≡ main_start (setting m)
