-- The numbers that a generated program is made of.
use Rattle.std.specs.Prelude.{ℕ, zero, suc, ◌+◌, ◌*◌, ◌/◌, ◌%◌, List, [], ◌∷◌}

-- the state after a state, and the number that is drawn from it
abbrev pub next_state : ℕ → ℕ
next_state x = (x * 1103515245 + 12345) % 2147483648

abbrev pub drawn : ℕ → ℕ
drawn x = x / 65536

-- so many draws from a state, and the state after them
abbrev pub draws : ℕ → ℕ → List ℕ
draws zero x = []
draws (suc n) x = drawn (next_state x) ∷ draws n (next_state x)

abbrev pub after : ℕ → ℕ → ℕ
after zero x = x
after (suc n) x = after n (next_state x)
