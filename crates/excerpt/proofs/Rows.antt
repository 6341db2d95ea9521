-- Rows that are appended one after another.
use Rattle.std.proofs.Common.{◌≡◌, ℕ, ◌<◌, true, nat_lt, List, [], ◌++◌, append_assoc, if◌then◌else◌}
use Rattle.std.proofs.lemmas.Bool.{lt-ltb}

pub five_rows : (t0 t1 t2 t3 t4 t5 a b c d e : List ℕ) → t0 ≡ [] → t1 ≡ t0 ++ a → t2 ≡ t1 ++ b → t3 ≡ t2 ++ c → t4 ≡ t3 ++ d → t5 ≡ t4 ++ e
    → t5 ≡ a ++ (b ++ (c ++ (d ++ e)))
five_rows t0 t1 t2 t3 t4 t5 a b c d e p0 p1 p2 p3 p4 p5 = simp (p5, p4, p3, p2, p1, p0, append_assoc)

pub row_where_above : (t0 t1 t2 a b : List ℕ) (most n : ℕ) → most < n → t1 ≡ t0 ++ a → t2 ≡ t1 ++ b → t2 ≡ t0 ++ (if nat_lt most n then a ++ b else [])
row_where_above t0 t1 t2 a b most n above p1 p2 =
    let test : nat_lt most n ≡ true = lt-ltb most n above in
    simp (test, p2, p1, append_assoc)
