-- Rows of last uses: what they tell, and how they are written back.
use Rattle.std.proofs.Common.{◌≡◌, ◌≢◌, ℕ, ◌<◌, ◌≤◌, Bool, true, false, List, [], Option, Some, None, Vec, Global, get_or, sym, ap, subst, arith, inl, inr}
use Rattle.std.specs.Prelude.{◌⊎◌, All}
use Rattle.std.specs.BTreeMap.{BTreeMap, Updates, get}
use Rattle.std.specs.Ordering.{is_eq, nat_cmp}
use Rattle.std.proofs.lemmas.Bool.Decides.{nat_tests}
use Rattle.race_check.specs.declared.uses.Access.{Access}
use Rattle.race_check.specs.declared.uses.LastUses.{LastUses}
use Rattle.race_check.specs.declared.uses.Kind.{Kind}
use Rattle.race_check.specs.declared.tracked.Rows.{Rows}
use Rattle.history.specs.declared.entry.Request.{Request}
use Rattle.race_check.specs.Accesses.{is_free, start_of, end_of}
use Rattle.race_check.specs.Uses.{HasUse, IsBelow, AllBelow, mark_of, row_of}
use Rattle.race_check.specs.Tracked.{Spot, row_at, Leaves, Meets}
use Rattle.race_check.specs.Tracked.Spot.{byte as at_byte, whole, freed}

byte_or : (a b : ℕ) → (a ≡ b) ⊎ (a ≢ b)
byte_or a b = grind arith

apart : (a b : ℕ) → a ≢ b → is_eq (nat_cmp a b) ≡ false
apart a b other = grind (arith, nat_tests)

pub kept_at : (old new : BTreeMap ℕ (Vec LastUses Global)) (byte : ℕ) (row : Vec LastUses Global) → Updates nat_cmp old new byte (Some row)
    → ((other : Access) → HasUse (row_of (get nat_cmp old byte)) other → HasUse row.items other)
    → (b : ℕ) (other : Access) → HasUse (row_of (get nat_cmp old b)) other → HasUse (row_of (get nat_cmp new b)) other
kept_at old new byte row updates kept b other h = by_case (byte_or byte b)
  where
    by_case : (byte ≡ b) ⊎ (byte ≢ b) → HasUse (row_of (get nat_cmp new b)) other
    by_case (inl same) =
        subst (λ (k : ℕ). HasUse (row_of (get nat_cmp new k)) other) same
        (subst (λ (o : Option (Vec LastUses Global)). HasUse (row_of o) other) (sym updates.1)
        (kept other (subst (λ (k : ℕ). HasUse (row_of (get nat_cmp old k)) other) (sym same) h)))
    by_case (inr not_same) = subst (λ (o : Option (Vec LastUses Global)). HasUse (row_of o) other) (sym (updates.2 b (apart byte b not_same))) h

-- where the row is new
pub kept_beside : (old new : BTreeMap ℕ (Vec LastUses Global)) (byte : ℕ) (row : Vec LastUses Global) → Updates nat_cmp old new byte (Some row) → get nat_cmp old byte ≡ None
    → (b : ℕ) (other : Access) → HasUse (row_of (get nat_cmp old b)) other → HasUse (row_of (get nat_cmp new b)) other
kept_beside old new byte row updates none = kept_at old new byte row updates (λ other h. absurd (never other (subst (λ (o : Option (Vec LastUses Global)). HasUse (row_of o) other) none h)))
  where
    never : (other : Access) → HasUse [] other → ⊥
    never other h = let lt : h.1.0 < 0 = h.1.1 in omega arith

pub all_below : (kind : Kind) (clock : List ℕ) (row : List LastUses) → All (λ last. IsBelow kind clock last) row → AllBelow kind clock row
all_below kind clock row all access told clashes =
    let last = told.0 in
    let below : IsBelow kind clock last = subst (λ (u : LastUses). IsBelow kind clock u) told.1.2 (all told.1.0 last told.1.1) in
    let low : mark_of last access.kind ≤ get_or clock last.slot 0 = below access.kind clashes in
    let slot : get_or clock last.slot 0 ≡ get_or clock access.slot 0 = ap (λ (s : ℕ). get_or clock s 0) told.2.slot in
    let mark : access.mark ≤ mark_of last access.kind = told.2.mark in
    omega arith

-- ---- spot by spot

pub rows_kept : (old new : Rows) → ((b : ℕ) (other : Access) → HasUse (row_of (get nat_cmp old.bytes b)) other → HasUse (row_of (get nat_cmp new.bytes b)) other)
    → ((other : Access) → HasUse old.whole.items other → HasUse new.whole.items other) → ((other : Access) → HasUse old.freed.items other → HasUse new.freed.items other)
    → (spot : Spot) (other : Access) → HasUse (row_at old spot) other → HasUse (row_at new spot) other
rows_kept old new bytes of_whole of_freed (at_byte b) other h = bytes b other h
rows_kept old new bytes of_whole of_freed whole other h = of_whole other h
rows_kept old new bytes of_whole of_freed freed other h = of_freed other h

not_both : (b : Bool) → b ≡ true → b ≡ false → ⊥
not_both b p q = absurd cc

pub range_left : (request : Request) (access : Access) (new : Rows) → is_free request ≡ false
    → ((b : ℕ) → start_of request ≤ b → b < end_of request → HasUse (row_of (get nat_cmp new.bytes b)) access) → HasUse new.whole.items access
    → (spot : Spot) → Leaves request spot → HasUse (row_at new spot) access
range_left request access new not_free bytes of_whole (at_byte b) leaves = bytes b leaves.1 leaves.2
range_left request access new not_free bytes of_whole whole leaves = of_whole
range_left request access new not_free bytes of_whole freed leaves = absurd (not_both (is_free request) leaves not_free)

pub range_below : (request : Request) (kind : Kind) (clock : List ℕ) (old : Rows) → is_free request ≡ false
    → ((b : ℕ) → start_of request ≤ b → b < end_of request → AllBelow kind clock (row_of (get nat_cmp old.bytes b))) → AllBelow kind clock old.freed.items
    → (spot : Spot) → Meets request spot → AllBelow kind clock (row_at old spot)
range_below request kind clock old not_free bytes of_freed (at_byte b) meets = bytes b meets.1 meets.2
range_below request kind clock old not_free bytes of_freed whole meets = absurd (not_both (is_free request) meets not_free)
range_below request kind clock old not_free bytes of_freed freed meets = of_freed

pub free_below : (request : Request) (kind : Kind) (clock : List ℕ) (old : Rows) → is_free request ≡ true → AllBelow kind clock old.whole.items
    → (spot : Spot) → Meets request spot → AllBelow kind clock (row_at old spot)
free_below request kind clock old free of_whole (at_byte b) meets = absurd (not_both (is_free request) free meets.0)
free_below request kind clock old free of_whole whole meets = of_whole
free_below request kind clock old free of_whole freed meets = absurd (not_both (is_free request) free meets)
