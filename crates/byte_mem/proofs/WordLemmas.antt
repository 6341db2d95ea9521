-- Words written into memory.
use Rattle.std.proofs.Common.{◌≡◌, ℕ, zero, suc, ◌+◌, ◌-◌, ◌/◌, ◌%◌, List, [], ◌∷◌, ◌++◌, ◌<◌, length, take, drop, set, length-set, append_assoc, add-one, arith, refl, ap, ◌∙◌}
use Rattle.std.proofs.Math.Seq.{take-suc-set}
use Rattle.ir_ast.specs.Words.{bytes_of}
use Rattle.history.specs.Memory.{put}

pub length-bytes_of : (n value : ℕ) → length (bytes_of n value) ≡ n
length-bytes_of zero value = refl
length-bytes_of (suc n) value = omega (arith, length-bytes_of n (value / 256))

pub bytes_of-first : (n i rest : ℕ) → i < n → bytes_of (n - i) rest ≡ rest % 256 ∷ bytes_of (n - (i + 1)) (rest / 256)
bytes_of-first n i rest lt = let e : n - i ≡ suc (n - (i + 1)) = omega arith in rw e refl

pub bytes_of-none : (n rest : ℕ) → bytes_of (n - n) rest ≡ []
bytes_of-none n rest = let e : n - n ≡ 0 = omega arith in rw e refl

-- one more byte is written
pub written_more : (bs after all : List ℕ) (i rest byte : ℕ) → i < length bs → take i bs ++ bytes_of (length bs - i) rest ≡ all → byte ≡ rest % 256 → after ≡ set bs i byte → take (i + 1) after ++ bytes_of (length after - (i + 1)) (rest / 256) ≡ all
written_more bs after all i rest byte lt h same e =
    let long : length after ≡ length bs = ap length e ∙ simp length-set in
    let front : take (i + 1) after ≡ take i bs ++ byte ∷ [] = ap (take (i + 1)) e ∙ rw add-one (take-suc-set bs i byte lt) in
    rw (front, long, append_assoc, same) (rw (← bytes_of-first (length bs) i rest lt) h)

-- what a write in the middle leaves
pub put-mid : (at len : ℕ) (xs new : List ℕ) → length new ≡ len → take at xs ++ (new ++ drop (at + len) xs) ≡ put at new xs
put-mid at len xs new e = rw (← e) (simp append_assoc)
