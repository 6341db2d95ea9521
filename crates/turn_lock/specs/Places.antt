-- Where the words of the turns stand. The first eight words are a line of the processor's cache, which the clock and the counts have for themselves; then come blocks of 512 words, in which the
-- turns of 64 slots that follow one another stand in 64 lines.
use Rattle.std.specs.Prelude.{ℕ, ◌+◌, ◌*◌, ◌-◌, ◌/◌, ◌%◌}

-- the word of a slot's turn
abbrev pub place : ℕ → ℕ
place k = 8 + 512 * (k / 512) + 8 * (k % 64) + k % 512 / 64

-- the slot whose turn this word is
abbrev pub slot_at : ℕ → ℕ
slot_at w = 512 * ((w - 8) / 512) + 64 * ((w - 8) % 8) + (w - 8) % 512 / 8

-- how many words a table of so many slots has
abbrev pub width : ℕ → ℕ
width n = 8 + 512 * ((n + 511) / 512)
