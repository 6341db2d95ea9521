use Rattle.std.proofs.Common.{ℕ, ◌<◌, ◌≤◌, ◌^◌, ◌-◌, length, length-drop, length-take, take, drop, arith, lit<}
use Rattle.std.proofs.Math.Nat.{pow-le-pow_right}
use Rattle.byte_mem.proofs.words.+word.Goals as goal

-- a number of at most seven bytes leaves room for one more
small : (n r : ℕ) → n ≤ 7 → r < 256 ^ n → r < 256 ^ 7
small n r le lt = let most : 256 ^ n ≤ 256 ^ 7 = pow-le-pow_right {n = 256} (lit< tt) le in omega (arith, lt, most)

pub overflow_mul-result : goal.overflow_mul-result
overflow_mul-result t c =
    let bs = c.args.bytes.now in
    let short : length (take (length bs - 1) (drop 1 bs)) ≤ 7 = omega (arith, c.requires, length-take (length bs - 1) (drop 1 bs), length-drop 1 bs) in
    let r : c.word.result < 256 ^ 7 = small _ _ short c.word.ensures.bound in
    omega arith

pub overflow_add-result : goal.overflow_add-result
overflow_add-result t c =
    let bs = c.args.bytes.now in
    let short : length (take (length bs - 1) (drop 1 bs)) ≤ 7 = omega (arith, c.requires, length-take (length bs - 1) (drop 1 bs), length-drop 1 bs) in
    let r : c.word.result < 256 ^ 7 = small _ _ short c.word.ensures.bound in
    let first = c.from.ensures in let ty = c.type_inv.bytes in
    let byte : c.from.result < 256 = omega (arith, c.from.ensures, c.type_inv.bytes 0) in
    omega arith
