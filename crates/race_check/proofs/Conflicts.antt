-- What a conflict of two entries says.
use Rattle.std.proofs.Common.{◌≡◌, ℕ, ◌<◌, Bool, true, false, refl, sym, ap, ◌∙◌, arith}
use Rattle.std.specs.Prelude.{◌&&◌, ◌||◌, not, nat_lt, max, min, Option, Some, None, if◌then◌else◌}
use Rattle.std.proofs.lemmas.Bool.Decides.{nat_tests}
use Rattle.bsan_ids.specs.declared.numbers.AllocNo.{AllocNo}
use Rattle.history.specs.declared.entry.Entry.{Entry}
use Rattle.history.specs.declared.entry.Request.{Request}
use Rattle.race_check.specs.declared.uses.Kind.TheVariants.{Read, Write, Atomic}
use Rattle.race_check.specs.Accesses.{writes, is_atomic, is_free, start_of, end_of, overlap, accesses, accessed, same_alloc, conflict}
use Rattle.race_check.specs.Uses.{kind_of, clash}
use Rattle.race_check.specs.Tracked.{Spot, Leaves, Meets}
use Rattle.race_check.specs.Tracked.Spot.{byte, whole, freed}

pub both : (a b : Bool) → (a && b) ≡ true → (a ≡ true) × (b ≡ true)
both true b h = (refl, h)
both false b h = absurd cc

pub record Parts (e f : Entry) : Type 0 where
  pub earlier : accesses e ≡ true
  pub later : accesses f ≡ true
  pub alloc : same_alloc e.alloc f.alloc ≡ true
  pub overlap : overlap e.request f.request ≡ true
  pub write : (writes e.request || writes f.request) ≡ true
  pub apart : not (is_atomic e.request && is_atomic f.request) ≡ true

pub parts_of : (e f : Entry) → conflict e f ≡ true → Parts e f
parts_of e f h =
    let p = both (accesses e && accesses f && same_alloc e.alloc f.alloc && overlap e.request f.request && (writes e.request || writes f.request)) (not (is_atomic e.request && is_atomic f.request)) h in
    let w = both (accesses e && accesses f && same_alloc e.alloc f.alloc && overlap e.request f.request) (writes e.request || writes f.request) p.0 in
    let o = both (accesses e && accesses f && same_alloc e.alloc f.alloc) (overlap e.request f.request) w.0 in
    let s = both (accesses e && accesses f) (same_alloc e.alloc f.alloc) o.0 in
    let a = both (accesses e) (accesses f) s.0 in
    record { earlier = a.0; later = a.1; alloc = s.1; overlap = o.1; write = w.1; apart = p.1 }

same_alloc_is : (a b : Option AllocNo) → same_alloc a b ≡ true → (n : AllocNo) × (a ≡ Some n) × (b ≡ Some n)
same_alloc_is None b h = absurd cc
same_alloc_is (Some a) None h = absurd cc
same_alloc_is (Some a) (Some b) h = (a, refl, ap (λ (n : ℕ). Some (record { 0 = n })) (let e : a.0 ≡ b.0 = grind (arith, nat_tests) in sym e))

-- entries in conflict name one allocation
pub conflict_alloc : (e f : Entry) → conflict e f ≡ true → (n : AllocNo) × (e.alloc ≡ Some n) × (f.alloc ≡ Some n)
conflict_alloc e f h = same_alloc_is e.alloc f.alloc (parts_of e f h).alloc

pub accessed_is : (e : Entry) (n : AllocNo) → accesses e ≡ true → e.alloc ≡ Some n → accessed e ≡ Some n
accessed_is e n h at = ap (λ (b : Bool). if b then e.alloc else None) h ∙ at

pub alloc_of_accessed : (e : Entry) (n : AllocNo) → accessed e ≡ Some n → e.alloc ≡ Some n
alloc_of_accessed e n h = by_test (accesses e) h
  where
    by_test : (b : Bool) → (if b then e.alloc else None) ≡ Some n → e.alloc ≡ Some n
    by_test true at = at
    by_test false at = absurd cc

-- the kinds of entries in conflict clash
pub kinds_clash : (a b : Request) → (writes a || writes b) ≡ true → not (is_atomic a && is_atomic b) ≡ true → clash (kind_of a) (kind_of b) ≡ true
kinds_clash a b = by_tests (is_atomic a) (writes a) (is_atomic b) (writes b)
  where
    by_tests : (x v y w : Bool) → (v || w) ≡ true → not (x && y) ≡ true
        → clash (if x then Atomic else (if v then Write else Read)) (if y then Atomic else (if w then Write else Read)) ≡ true
    by_tests true v true w h g = absurd cc
    by_tests true v false true h g = refl
    by_tests true v false false h g = refl
    by_tests false true true w h g = refl
    by_tests false false true w h g = refl
    by_tests false true false true h g = refl
    by_tests false true false false h g = refl
    by_tests false false false true h g = refl
    by_tests false false false false h g = absurd cc

-- an access is kept where one that overlaps it looks
pub meeting : (a b : Request) → overlap a b ≡ true → (spot : Spot) × Leaves a spot × Meets b spot
meeting a b h = by_tests (is_free a) (is_free b) refl refl h
  where
    by_tests : (x y : Bool) → is_free a ≡ x → is_free b ≡ y → (x || y || nat_lt (max (start_of a) (start_of b)) (min (end_of a) (end_of b))) ≡ true
        → (spot : Spot) × Leaves a spot × Meets b spot
    by_tests x true ea eb h = (whole, tt, eb)
    by_tests true false ea eb h = (freed, ea, eb)
    by_tests false false ea eb h =
        let lt : max (start_of a) (start_of b) < min (end_of a) (end_of b) = grind (arith, nat_tests) in
        (byte (max (start_of a) (start_of b)), (ea, omega arith, omega arith), (eb, omega arith, omega arith))
