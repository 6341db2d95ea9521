-- The generated program is one that the grammar can give.
use Rattle.std.proofs.Common.{◌≡◌, ℕ, zero, suc, ◌+◌, ◌*◌, ◌/◌, ◌^◌, ◌<◌, ◌≤◌, ◌%◌, Bool, true, false, List, [], ◌∷◌, ◌++◌, map, length, refl, ap, ◌∙◌, arith}
use Rattle.std.specs.Prelude.{codes, ◌==◌, if◌then◌else◌}
use Rattle.std.specs.List.{sum_by}
use Rattle.std.proofs.lemmas.List.Sums.{sum_by-cons}
use Rattle.ir_ast.specs.Tokens.{Each}
use Rattle.ir_ast.specs.Lines.{most_registers, definitions}
use Rattle.ir_ast.specs.Shapes.{IsInst, IsFunction, IsShaped}
use Rattle.ir_ast.specs.Writable.{IsName, IsWritableInst, IsWritableFunction, IsWritable}
use Rattle.ir_ast.specs.Programs.{KeepsLimits, function_instructions, function_registers}
use Rattle.ir_ast.specs.declared.program.Inst.{Inst}
use Rattle.ir_ast.specs.declared.program.Function.{Function}
use Rattle.workload.specs.Draws.{draws, after, next_state, drawn}
use Rattle.workload.specs.Made.{gep, pointer, store, word_pointers, totals, worker, main, main_insts, functions_of, made}

-- ---- the draws are small

drawn_small : (x : ℕ) → drawn (next_state x) < 32768
drawn_small x = small (x * 1103515245 + 12345)
  where
    small : (y : ℕ) → (y % 2147483648) / 65536 < 32768
    small y = omega arith

draws_small : (n x : ℕ) → Each (λ d. d < 32768) (draws n x)
draws_small zero x = tt
draws_small (suc n) x = (drawn_small x, draws_small n (next_state x))

draws_length : (n x : ℕ) → length (draws n x) ≡ n
draws_length zero x = refl
draws_length (suc n) x = ap (λ (k : ℕ). suc k) (draws_length n (next_state x))

-- ---- shapes

stores_shaped : (ds : List ℕ) (rest : List Inst) → Each (IsInst 1) rest → Each (IsInst 1) (map store ds ++ rest)
stores_shaped [] rest h = h
stores_shaped (d ∷ ds) rest h = ((tt, tt), stores_shaped ds rest h)

worker_shaped : (name ds : List ℕ) → IsFunction 1 (worker name ds)
worker_shaped name ds = record {
  params = ((refl, tt), tt);
  result = tt;
  some_block = omega arith;
  blocks = (record { params = tt; insts = ((tt, tt), ((tt, tt), ((tt, tt), stores_shaped ds totals totals_shaped))); term = tt }, tt);
}
  where
    totals_shaped : Each (IsInst 1) totals
    totals_shaped = ((tt, tt), ((tt, tt), ((tt, tt), ((tt, tt), ((tt, (tt, tt)), ((tt, (tt, tt)), ((tt, (tt, tt)), tt)))))))

main_shaped : IsFunction 1 main
main_shaped = record {
  params = tt;
  result = tt;
  some_block = omega arith;
  blocks = (record { params = tt; insts = insts; term = tt }, tt);
}
  where
    insts : Each (IsInst 1) main_insts
    insts = (
      (tt, tt),
      (
        (tt, tt),
        (
          (tt, tt),
          (
            (tt, tt),
            (
              (tt, (tt, tt)),
              (
                (tt, (tt, tt)),
                (
                  (tt, (tt, tt)),
                  (
                    (tt, (tt, tt)),
                    (
                      (tt, tt),
                      (
                        (tt, tt),
                        (
                          (tt, tt),
                          (
                            (tt, tt),
                            (
                              (tt, (tt, tt)),
                              (
                                (tt, (tt, tt)),
                                (
                                  (tt, (tt, tt)),
                                  ((tt, tt), ((tt, tt), tt)),
                                ),
                              ),
                            ),
                          ),
                        ),
                      ),
                    ),
                  ),
                ),
              ),
            ),
          ),
        ),
      ),
    )

pub shaped : (seed size : ℕ) → IsShaped (made seed size)
shaped seed size = record {
  version = (omega arith, omega arith);
  some_function = omega arith;
  functions = (worker_shaped _ _, (worker_shaped _ _, (worker_shaped _ _, (worker_shaped _ _, (main_shaped, tt)))));
}

-- ---- names and numbers

pointer_named_by : (a b c : Bool) → IsName (if a then codes "p0" else (if b then codes "p1" else (if c then codes "p2" else codes "p3")))
pointer_named_by true b c = (omega arith, refl)
pointer_named_by false true c = (omega arith, refl)
pointer_named_by false false true = (omega arith, refl)
pointer_named_by false false false = (omega arith, refl)

pointer_named : (d : ℕ) → IsName (pointer d)
pointer_named d = pointer_named_by (d % 4 == 0) (d % 4 == 1) (d % 4 == 2)

quarter_small : (d : ℕ) → d < 32768 → d / 4 < 2 ^ 64
quarter_small d h = let low : d / 4 ≤ d = omega arith in omega arith

stores_writable : (ds : List ℕ) (rest : List Inst) → Each (λ d. d < 32768) ds → Each IsWritableInst rest → Each IsWritableInst (map store ds ++ rest)
stores_writable [] rest small h = h
stores_writable (d ∷ ds) rest small h = ((tt, (quarter_small d small.0, pointer_named d)), stores_writable ds rest small.1 h)

worker_writable : (name ds : List ℕ) → IsName name → Each (λ d. d < 32768) ds → IsWritableFunction (worker name ds)
worker_writable name ds named small = record {
  name = named;
  params = ((omega arith, (omega arith, refl)), tt);
  result = tt;
  blocks = (record { label = (refl, refl); params = tt; insts = (((omega arith, refl), ((omega arith, refl), omega arith)), (((omega arith, refl), ((omega arith, refl), omega arith)), (((omega arith, refl), ((omega arith, refl), omega arith)), stores_writable ds totals small totals_writable))); term = (omega arith, refl) }, tt);
}
  where
    totals_writable : Each IsWritableInst totals
    totals_writable = (
      ((omega arith, refl), (omega arith, refl)),
      (
        ((omega arith, refl), (omega arith, refl)),
        (
          ((omega arith, refl), (omega arith, refl)),
          (
            ((omega arith, refl), (omega arith, refl)),
            (
              ((omega arith, refl), ((omega arith, refl), (omega arith, refl))),
              (
                ((omega arith, refl), ((omega arith, refl), (omega arith, refl))),
                (
                  ((omega arith, refl), ((omega arith, refl), (omega arith, refl))),
                  tt,
                ),
              ),
            ),
          ),
        ),
      ),
    )

main_writable : IsWritableFunction main
main_writable = record {
  name = (omega arith, refl);
  params = tt;
  result = tt;
  blocks = (record { label = (refl, refl); params = tt; insts = insts; term = omega arith }, tt);
}
  where
    insts : Each IsWritableInst main_insts
    insts = (
      ((omega arith, refl), omega arith),
      (
        ((omega arith, refl), ((omega arith, refl), omega arith)),
        (
          ((omega arith, refl), ((omega arith, refl), omega arith)),
          (
            ((omega arith, refl), ((omega arith, refl), omega arith)),
            (
              ((omega arith, refl), ((omega arith, refl), ((omega arith, refl), tt))),
              (
                ((omega arith, refl), ((omega arith, refl), ((omega arith, refl), tt))),
                (
                  ((omega arith, refl), ((omega arith, refl), ((omega arith, refl), tt))),
                  (
                    ((omega arith, refl), ((omega arith, refl), ((omega arith, refl), tt))),
                    (
                      ((omega arith, refl), (omega arith, refl)),
                      (
                        ((omega arith, refl), (omega arith, refl)),
                        (
                          ((omega arith, refl), (omega arith, refl)),
                          (
                            ((omega arith, refl), (omega arith, refl)),
                            (
                              ((omega arith, refl), ((omega arith, refl), (omega arith, refl))),
                              (
                                ((omega arith, refl), ((omega arith, refl), (omega arith, refl))),
                                (
                                  ((omega arith, refl), ((omega arith, refl), (omega arith, refl))),
                                  (
                                    (tt, (omega arith, refl)),
                                    (
                                      (tt, (omega arith, refl)),
                                      tt,
                                    ),
                                  ),
                                ),
                              ),
                            ),
                          ),
                        ),
                      ),
                    ),
                  ),
                ),
              ),
            ),
          ),
        ),
      ),
    )

pub writable : (seed size : ℕ) → IsWritable (made seed size)
writable seed size = (
  worker_writable _ _ (omega arith, refl) (draws_small size _),
  (
    worker_writable _ _ (omega arith, refl) (draws_small size _),
    (worker_writable _ _ (omega arith, refl) (draws_small size _), (worker_writable _ _ (omega arith, refl) (draws_small size _), (main_writable, tt))),
  ),
)

-- ---- limits

stores_length : (ds : List ℕ) (rest : List Inst) → length (map store ds ++ rest) ≡ length ds + length rest
stores_length [] rest = omega arith
stores_length (d ∷ ds) rest = let h : length (map store ds ++ rest) ≡ length ds + length rest = stores_length ds rest in omega arith

stores_define : (ds : List ℕ) (rest : List Inst) → sum_by definitions (map store ds ++ rest) ≡ sum_by definitions rest
stores_define [] rest = refl
stores_define (d ∷ ds) rest = sum_by-cons definitions (store d) (map store ds ++ rest) ∙ nothing (sum_by definitions (map store ds ++ rest)) ∙ stores_define ds rest
  where
    nothing : (n : ℕ) → 0 + n ≡ n
    nothing n = omega arith

worker_defines : (ds : List ℕ) → sum_by definitions (word_pointers ++ (map store ds ++ totals)) ≡ 10
worker_defines ds =
    sum_by-cons definitions (first) (second ∷ third ∷ (map store ds ++ totals))
    ∙ ap (λ (n : ℕ). 1 + n) (sum_by-cons definitions second (third ∷ (map store ds ++ totals)) ∙ ap (λ (n : ℕ). 1 + n) (sum_by-cons definitions third (map store ds ++ totals) ∙ ap (λ (n : ℕ). 1 + n) (stores_define ds totals)))
  where
    first : Inst
    first = gep (codes "p1") (codes "p0") 8

    second : Inst
    second = gep (codes "p2") (codes "p0") 16

    third : Inst
    third = gep (codes "p3") (codes "p0") 24

worker_instructions : (name ds : List ℕ) (n : ℕ) → length ds ≡ n → function_instructions (worker name ds) ≡ n + 11
worker_instructions name ds n is = omega (arith, stores_length ds totals)

worker_registers : (name ds : List ℕ) → function_registers (worker name ds) ≤ most_registers
worker_registers name ds = omega (arith, worker_defines ds)

five : (a b c d e : Function) (n : ℕ) → function_instructions a ≡ n + 11 → function_instructions b ≡ n + 11 → function_instructions c ≡ n + 11 → function_instructions d ≡ n + 11
    → function_instructions e ≡ 18 → sum_by function_instructions (a ∷ b ∷ c ∷ d ∷ e ∷ []) ≡ 4 * (n + 11) + 18
five a b c d e n p q r s t = omega arith

instructions_of : (a b c d : List ℕ) (n : ℕ) → length a ≡ n → length b ≡ n → length c ≡ n → length d ≡ n → sum_by function_instructions (functions_of a b c d) ≡ 4 * (n + 11) + 18
instructions_of a b c d n p q r t =
    five (worker (codes "w0") a) (worker (codes "w1") b) (worker (codes "w2") c) (worker (codes "w3") d) main n
    (worker_instructions (codes "w0") a n p) (worker_instructions (codes "w1") b n q) (worker_instructions (codes "w2") c n r) (worker_instructions (codes "w3") d n t) refl

limits_of : (a b c d : List ℕ) (n : ℕ) → length a ≡ n → length b ≡ n → length c ≡ n → length d ≡ n → n ≤ 10000
    → KeepsLimits (record { version = 1; functions = functions_of a b c d; end = 0 })
limits_of a b c d n p q r t small = record {
  functions = omega arith;
  instructions = let all : sum_by function_instructions (functions_of a b c d) ≡ 4 * (n + 11) + 18 = instructions_of a b c d n p q r t in omega arith;
  registers = (worker_registers (codes "w0") a, (worker_registers (codes "w1") b, (worker_registers (codes "w2") c, (worker_registers (codes "w3") d, (omega arith, tt)))));
}

pub instructions : (seed size : ℕ) → sum_by function_instructions (made seed size).functions ≡ 4 * (size + 11) + 18
instructions seed size =
    instructions_of (draws size seed) (draws size (after size seed)) (draws size (after size (after size seed))) (draws size (after size (after size (after size seed)))) size
    (draws_length size seed) (draws_length size (after size seed)) (draws_length size (after size (after size seed))) (draws_length size (after size (after size (after size seed))))

pub limits : (seed size : ℕ) → size ≤ 10000 → KeepsLimits (made seed size)
limits seed size small =
    limits_of (draws size seed) (draws size (after size seed)) (draws size (after size (after size seed))) (draws size (after size (after size (after size seed)))) size
    (draws_length size seed) (draws_length size (after size seed)) (draws_length size (after size (after size seed))) (draws_length size (after size (after size (after size seed)))) small
