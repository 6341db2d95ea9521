-- A copy, piece by piece: each piece is read and then written.
use Rattle.std.specs.Prelude.{ℕ, ◌%◌, ◌^◌, List, [], Some, None, ◌+◌, ◌-◌, ◌*◌, Bool, min, nat_le}
use Rattle.std.specs.declared.option.Option.{Option}
use Rattle.history.specs.declared.ask.Arg.{Arg}
use Rattle.history.specs.declared.ask.Ask.{Ask}
use Rattle.history.specs.declared.ask.Ask.TheVariants as ask
use Rattle.history.specs.Pieces.{Byte}
use Rattle.history.specs.declared.entry.Plain.{Plain}
use Rattle.history.specs.declared.entry.Plain.TheVariants as plain
use Rattle.history.specs.declared.entry.Request.TheVariants as request
use Rattle.thread_parts.specs.Words.{number_at}

-- how far a copy has come: pieces copied, and a piece that was read and not yet written
pub record Progress : Type 0 where
  pub pieces : ℕ
  pub half : Option (List Byte)

abbrev pub untouched : Progress
untouched = record { pieces = 0; half = None }

abbrev pub piece_at : ℕ → ℕ → ℕ
piece_at a k = (a + 32 * k) % 2 ^ 64

abbrev pub copy_ask_by : Arg → Arg → ℕ → ℕ → Option (List Byte) → Ask
copy_ask_by d s n k None = ask.At (number_at (piece_at s.value k)) (request.CopyOut (piece_at s.value k % 2 ^ 32) (min 32 (n - 32 * k)) s.prov)
copy_ask_by d s n k (Some piece) = ask.At (number_at (piece_at d.value k)) (request.CopyIn (piece_at d.value k % 2 ^ 32) piece d.prov)

abbrev pub copy_ask : Arg → Arg → ℕ → Progress → Ask
copy_ask d s n p = copy_ask_by d s n p.pieces p.half

abbrev pub copied_of : Plain → List Byte
copied_of (plain.Copied piece) = piece
copied_of other = []

abbrev pub copy_after_by : ℕ → Option (List Byte) → Plain → Progress
copy_after_by k None p = record { pieces = k; half = Some (copied_of p) }
copy_after_by k (Some piece) p = record { pieces = k + 1; half = None }

abbrev pub copy_after : Progress → Plain → Progress
copy_after p reply = copy_after_by p.pieces p.half reply

-- is the copy done: a half copied piece is never the last
abbrev pub copy_done : ℕ → Progress → Bool
copy_done n p = nat_le n (32 * p.pieces)
