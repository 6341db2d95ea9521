use Rattle.std.proofs.Common.{◌≡◌, ℕ, suc, List, [], ◌∷◌, ◌++◌, Contains, sym, refl, subst, arith}
use Rattle.turn_lock.specs.Plays.{DeskView}
use Rattle.bench.proofs.journal.next_desk.Goals as goal

contains_last : (xs : List ℕ) (n m : ℕ) → m ≡ n → Contains (xs ++ n ∷ []) m
contains_last [] n m same = (0, omega arith, sym same)
contains_last (x ∷ xs) n m same = let a = contains_last xs n m same in (suc a.0, (let b = a.1 in omega arith), a.2)

pub split-child-requires-clause-drawn : goal.split-child-requires-clause-drawn
split-child-requires-clause-drawn g c =
    let n : ℕ = c.draw_thread-number.result in
    (subst (λ (d : DeskView). Contains d.view.threads.own n) (sym c.draw_thread-number.ensures.desk) (contains_last c.args.desk.now.view.threads.own n n refl), omega arith)
