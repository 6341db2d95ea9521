-- Each slot's turn has a word of its own, past the counts and inside the table.
use Rattle.std.proofs.Common.{◌≡◌, ℕ, ◌*◌, ◌/◌, ◌%◌, ◌<◌, ◌≤◌, sym, ap, ◌∙◌, arith}
use Rattle.turn_lock.specs.Places.{place, slot_at, width}

pub past_counts : (k : ℕ) → 3 ≤ place k
past_counts k = omega arith

pub inside_table : (k n : ℕ) → k < n → place k < width n
inside_table k n lt = omega arith

pub slot_of_place : (k : ℕ) → slot_at (place k) ≡ k
slot_of_place k = omega arith

pub place_once : (j k : ℕ) → place j ≡ place k → j ≡ k
place_once j k e = sym (slot_of_place j) ∙ ap slot_at e ∙ slot_of_place k
