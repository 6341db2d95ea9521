-- A layout, or why there is none.
use Rattle.std.specs.Prelude.{ℕ, ◌*◌, nat_lt, if◌then◌else◌, Result, Ok, Err}
use Rattle.ll_layout.specs.declared.layout.Layout.{Layout}
use Rattle.ll_layout.specs.declared.layout.LayoutFault.{LayoutFault}
use Rattle.ll_layout.specs.declared.layout.LayoutFault.TheVariants.{TooLarge}
use Rattle.ll_layout.specs.declared.layout.TheConstants.{MOST_BYTES}

abbrev pub Outcome : Type 0
Outcome = Result Layout LayoutFault

infixl 10 ◌>>=◌
abbrev pub ◌>>=◌ : {A B : Type 0} → Result A LayoutFault → (A → Result B LayoutFault) → Result B LayoutFault
(Ok x) >>= f = f x
(Err e) >>= f = Err e

-- so many bytes, if they are within the limit
abbrev pub bounded : ℕ → Result ℕ LayoutFault
bounded bytes = if nat_lt MOST_BYTES bytes then Err TooLarge else Ok bytes

-- whole bytes
abbrev pub whole : ℕ → ℕ → Layout
whole align size = record { bits = size * 8; size = size; align = align }

abbrev pub sized : ℕ → ℕ → Outcome
sized size align = bounded size >>= λ n. Ok (whole align n)
