-- The definitions, on cases worked out by hand.
use Rattle.std.proofs.Common.{◌≡◌, ℕ, ◌*◌, true, false, [], ◌∷◌, Ok, Err, refl}
use Rattle.ll_layout.specs.declared.layout.Target.{Target}
use Rattle.ll_layout.specs.declared.layout.LayoutFault.TheVariants.{TooLarge, Width, Endless}
use Rattle.ll_layout.specs.Layout.{Outcome, ◌>>=◌}
use Rattle.ll_layout.specs.Scalars.{integer, pointer, array_of, vector_of}
use Rattle.ll_layout.specs.Structs.{struct_of, all_placed, no_fields, offset_of}

abbrev modern : Target
modern = record { wide_align = 16 }

abbrev int : ℕ → Outcome
int = integer modern

abbrev laid : ℕ → ℕ → Outcome
laid size align = Ok (record { bits = size * 8; size = size; align = align })

-- `i24` lies in four bytes, `i1` in one; `i65` has no layout
odd_integer : int 24 ≡ Ok (record { bits = 24; size = 4; align = 4 })
odd_integer = refl

one_bit : int 1 ≡ Ok (record { bits = 1; size = 1; align = 1 })
one_bit = refl

wide_integer : int 128 ≡ laid 16 16
wide_integer = refl

no_width : int 65 ≡ Err Width
no_width = refl

-- `{ i8, i32, i8, i64, i16 }` is 32 bytes, aligned to 8; packed it is 16, aligned to 1
padded : struct_of false (int 8 ∷ int 32 ∷ int 8 ∷ int 64 ∷ int 16 ∷ []) ≡ laid 32 8
padded = refl

packed : struct_of true (int 8 ∷ int 32 ∷ int 8 ∷ int 64 ∷ int 16 ∷ []) ≡ laid 16 1
packed = refl

-- its field of 64 bits begins at 16, packed at 6
padded_offset : offset_of false (all_placed false no_fields (int 8 ∷ int 32 ∷ int 8 ∷ [])) (int 64) ≡ Ok 16
padded_offset = refl

packed_offset : offset_of true (all_placed true no_fields (int 8 ∷ int 32 ∷ int 8 ∷ [])) (int 64) ≡ Ok 6
packed_offset = refl

-- `{}` and `[0 x i64]` have no bytes, and the second is aligned to 8
empty_struct : struct_of false [] ≡ laid 0 1
empty_struct = refl

empty_array : (int 64 >>= array_of 0) ≡ laid 0 8
empty_array = refl

-- `<{ ptr, [16 x i8] }>` and `{ ptr, { i8 } }`
table_entry : struct_of true (pointer 0 ∷ (int 8 >>= array_of 16) ∷ []) ≡ laid 24 1
table_entry = refl

nested : struct_of false (pointer 0 ∷ struct_of false (int 8 ∷ []) ∷ []) ≡ laid 16 8
nested = refl

-- `<16 x i1>` has 16 bits, `<3 x i32>` lies in 16 bytes
bits_of_bytes : (int 1 >>= vector_of 16) ≡ Ok (record { bits = 16; size = 2; align = 2 })
bits_of_bytes = refl

three_words : (int 32 >>= vector_of 3) ≡ Ok (record { bits = 96; size = 16; align = 16 })
three_words = refl

-- a part that is too large, or endless
too_large : struct_of false (int 8 ∷ (int 64 >>= array_of 0x2000_0000) ∷ Err Endless ∷ []) ≡ Err TooLarge
too_large = refl

endless : struct_of false (int 8 ∷ Err Endless ∷ []) ≡ Err Endless
endless = refl
