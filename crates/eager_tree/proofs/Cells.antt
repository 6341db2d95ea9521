-- What a visit leaves of a node's bytes.
use Rattle.std.proofs.Common.{◌≡◌, ℕ, zero, suc, ◌+◌, ◌<◌, ◌≤◌, Bool, List, [], ◌∷◌, length, Option, Some, None, slice_get, set, refl, ap, ◌∙◌, sym, arith, add-zero, eq-eqb}
use Rattle.std.proofs.lemmas.Bool.{ne_eqb}
use Rattle.perm_table.specs.declared.Kind.{Kind}
use Rattle.perm_table.specs.declared.Guard.{Guard}
use Rattle.eager_tree.specs.declared.node.Cell.{Cell}
use Rattle.perm_table.specs.declared.Perm.{Perm}
use Rattle.perm_table.specs.declared.Outcome.TheVariants.{Next, Denied as IsDenied}
use Rattle.perm_table.specs.Table.{outcome}
use Rattle.eager_tree.specs.Visit.{cell_of, next_cell, next_cells, only_at}

-- where no byte has a kind, nothing changes
pub next_cells-none : (kinds : ℕ → Option Kind) (local : Bool) (guard : Guard) (from : ℕ) (cells : List Cell) → ((k : ℕ) → from ≤ k → kinds k ≡ None) → next_cells kinds local guard from cells ≡ cells
next_cells-none kinds local guard from [] h = refl
next_cells-none kinds local guard from (cell ∷ cells) h =
    rw (h from (omega arith)) (ap (λ rest. cell ∷ rest) (next_cells-none kinds local guard (from + 1) cells (λ k le. h k (omega arith))))

pub only_at-other : (at k : ℕ) (kind : Kind) → (k ≡ at → ⊥) → only_at at kind k ≡ None
only_at-other at k kind ne = rw (ne_eqb k at ne) refl

pub only_at-same : (at k : ℕ) (kind : Kind) → k ≡ at → only_at at kind k ≡ Some kind
only_at-same at k kind e = rw (eq-eqb k at e) refl

pub next_cells-only_at : (kind : Kind) (local : Bool) (guard : Guard) (from at k : ℕ) (cells : List Cell) (cell : Cell) → at ≡ from + k → slice_get cells k ≡ Some cell → next_cells (only_at at kind) local guard from cells ≡ set cells k (next_cell (Some kind) local guard cell)
next_cells-only_at kind local guard from at k [] cell e h = cc
next_cells-only_at kind local guard from at zero (first ∷ cells) cell e h =
    let here : only_at at kind from ≡ Some kind = only_at-same at from kind (omega arith) in
    let rest : next_cells (only_at at kind) local guard (from + 1) cells ≡ cells = next_cells-none (only_at at kind) local guard (from + 1) cells (λ k le. only_at-other at k kind (λ same. omega arith)) in
    rw (here, rest) (ap (λ c. next_cell (Some kind) local guard c ∷ cells) (let same : first ≡ cell = cc in same))
next_cells-only_at kind local guard from at (suc k) (first ∷ cells) cell e h =
    let here : only_at at kind from ≡ None = only_at-other at from kind (λ same. omega arith) in
    rw here (ap (λ rest. first ∷ rest) (next_cells-only_at kind local guard (from + 1) at k cells cell (omega arith) h))

-- one visit of the bytes after another
pub next_cells-next_cells : (first then both : ℕ → Option Kind) (local : Bool) (guard : Guard) (from : ℕ) (cells : List Cell) → ((k : ℕ) (cell : Cell) → next_cell (then k) local guard (next_cell (first k) local guard cell) ≡ next_cell (both k) local guard cell) → next_cells then local guard from (next_cells first local guard from cells) ≡ next_cells both local guard from cells
next_cells-next_cells first then both local guard from [] h = refl
next_cells-next_cells first then both local guard from (cell ∷ cells) h =
    rw (h from cell) (ap (λ rest. next_cell (both from) local guard cell ∷ rest) (next_cells-next_cells first then both local guard (from + 1) cells h))

pub next_cells-same : (one other : ℕ → Option Kind) (local : Bool) (guard : Guard) (from : ℕ) (cells : List Cell) → ((k : ℕ) → from ≤ k → k < from + length cells → one k ≡ other k) → next_cells one local guard from cells ≡ next_cells other local guard from cells
next_cells-same one other local guard from [] h = refl
next_cells-same one other local guard from (cell ∷ cells) h =
    rw (h from (omega arith) (omega arith)) (ap (λ rest. next_cell (other from) local guard cell ∷ rest) (next_cells-same one other local guard (from + 1) cells (λ k lo hi. h k (omega arith) (omega arith))))

pub length-next_cells : (kinds : ℕ → Option Kind) (local : Bool) (guard : Guard) (from : ℕ) (cells : List Cell) → length (next_cells kinds local guard from cells) ≡ length cells
length-next_cells kinds local guard from [] = refl
length-next_cells kinds local guard from (cell ∷ cells) = omega (arith, length-next_cells kinds local guard (from + 1) cells)

-- a byte without a kind stays
pub slice_get-next_cells : (kinds : ℕ → Option Kind) (local : Bool) (guard : Guard) (from k : ℕ) (cells : List Cell) → kinds (from + k) ≡ None → slice_get (next_cells kinds local guard from cells) k ≡ slice_get cells k
slice_get-next_cells kinds local guard from k [] h = refl
slice_get-next_cells kinds local guard from zero (cell ∷ cells) h =
    let here : kinds from ≡ None = rw add-zero at h in rw here refl
slice_get-next_cells kinds local guard from (suc k) (cell ∷ cells) h =
    slice_get-next_cells kinds local guard (from + 1) k cells (let e : from + suc k ≡ from + 1 + k = omega arith in rw e at h)

pub next_cells-past : (kind : Kind) (local : Bool) (guard : Guard) (from at k : ℕ) (cells : List Cell) → at ≡ from + k → slice_get cells k ≡ None → next_cells (only_at at kind) local guard from cells ≡ cells
next_cells-past kind local guard from at k [] e h = refl
next_cells-past kind local guard from at zero (first ∷ cells) e h = cc
next_cells-past kind local guard from at (suc k) (first ∷ cells) e h =
    let here : only_at at kind from ≡ None = only_at-other at from kind (λ same. omega arith) in
    rw here (ap (λ rest. first ∷ rest) (next_cells-past kind local guard (from + 1) at k cells (omega arith) h))

set-slice_get : {A : Type 0} (cells : List A) (k : ℕ) (cell : A) → slice_get cells k ≡ Some cell → set cells k cell ≡ cells
set-slice_get [] k cell h = refl
set-slice_get (first ∷ cells) zero cell h = ap (λ c. c ∷ cells) (let same : cell ≡ first = cc in same)
set-slice_get (first ∷ cells) (suc k) cell h = ap (λ rest. first ∷ rest) (set-slice_get cells k cell h)

-- an access at one byte, by its outcome
pub next_cells-next : (kind : Kind) (local : Bool) (guard : Guard) (k : ℕ) (cells : List Cell) (cell : Cell) (perm : Perm) (accessed : Bool) → slice_get cells k ≡ Some cell → Next perm accessed ≡ outcome cell.perm cell.accessed guard local kind → next_cells (only_at k kind) local guard 0 cells ≡ set cells k (record { perm = perm; accessed = accessed })
next_cells-next kind local guard k cells cell perm accessed h e =
    next_cells-only_at kind local guard 0 k k cells cell (omega arith) h ∙ ap (λ o. set cells k (cell_of cell o)) (sym e)

pub next_cells-denied : (kind : Kind) (local : Bool) (guard : Guard) (k : ℕ) (cells : List Cell) (cell : Cell) → slice_get cells k ≡ Some cell → IsDenied ≡ outcome cell.perm cell.accessed guard local kind → next_cells (only_at k kind) local guard 0 cells ≡ cells
next_cells-denied kind local guard k cells cell h e =
    next_cells-only_at kind local guard 0 k k cells cell (omega arith) h ∙ ap (λ o. set cells k (cell_of cell o)) (sym e) ∙ set-slice_get cells k cell h
