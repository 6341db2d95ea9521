-- Registers, and how many more fit without memory.
use Rattle.std.specs.Prelude.{ℕ}
use Rattle.source_sem.specs.Env.{Env}

pub record RoomyEnv : Type 0 where
  pub env : Env
  pub room : ℕ
