-- Paths from a tag up to the root.
use Rattle.std.proofs.Common.{◌≡◌, ℕ, zero, suc, ◌<◌, ◌≤◌, ◌||◌, ◌==◌, Bool, true, false, eqb, [], ◌∷◌, length, take, Option, Some, None, MatchOption, IsTrue, slice_get, refl, ap, ◌∙◌, sym, subst, arith}
use Rattle.std.specs.Option.{option_map_or}
use Rattle.std.proofs.Math.Seq.{take-length}
use Rattle.bsan_ids.specs.declared.numbers.Tag.{Tag}
use Rattle.eager_tree.specs.Tree.{Links, AreLinked, has_tag, parent_in, leads_to, is_on_path}

-- one step up
pub leads_to-up : (n m : ℕ) (ls : Links) (x y p : Tag) → n ≡ suc m → eqb x.0 y.0 ≡ false → parent_in ls x ≡ Some p → leads_to n ls x y ≡ leads_to m ls p y
leads_to-up n m ls x y p e ne up = rw (e, ne, up) refl

-- where a tag stands first
record Stands (n : ℕ) (ls : Links) (x : Tag) : Type 0 where
  at : ℕ
  link : Tag × Option Tag
  below : at < n
  here : slice_get ls at ≡ Some link
  parent : parent_in ls x ≡ link.1

stands_at : (n : ℕ) (l : Tag × Option Tag) (ls : Links) (x : Tag) → (b : Bool) → eqb l.0.0 x.0 ≡ b → (b ≡ false → Stands n ls x) → Stands (suc n) (l ∷ ls) x
stands_at n l ls x true e rest =
    record { at = 0; link = l; below = omega arith; here = refl; parent = rw e refl }
stands_at n l ls x false e rest =
    let s = rest refl in
    record { at = suc s.at; link = s.link; below = omega (arith, s.below); here = s.here; parent = rw e s.parent }

stands : (n : ℕ) (ls : Links) (x : Tag) → has_tag (take n ls) x ≡ true → Stands n ls x
stands zero ls x h = cc
stands (suc n) [] x h = cc
stands (suc n) (l ∷ ls) x h =
    stands_at n l ls x (eqb l.0.0 x.0) refl (λ (e : eqb l.0.0 x.0 ≡ false). stands n ls x (rw e at h))

-- what stands among the first links stands among more of them
has_tag_by : (k n : ℕ) (l : Tag × Option Tag) (ls : Links) (x : Tag) (b : Bool) → eqb l.0.0 x.0 ≡ b → has_tag (take (suc k) (l ∷ ls)) x ≡ true → (has_tag (take k ls) x ≡ true → has_tag (take n ls) x ≡ true) → has_tag (take (suc n) (l ∷ ls)) x ≡ true
has_tag_by k n l ls x true e h rest = rw e refl
has_tag_by k n l ls x false e h rest = rw e (rest (rw e at h))

has_tag-more : (k n : ℕ) (ls : Links) (x : Tag) → k ≤ n → has_tag (take k ls) x ≡ true → has_tag (take n ls) x ≡ true
has_tag-more zero n ls x le h = cc
has_tag-more (suc k) n [] x le h = cc
has_tag-more (suc k) zero (l ∷ ls) x le h = absurd (omega arith)
has_tag-more (suc k) (suc n) (l ∷ ls) x le h =
    has_tag_by k n l ls x (eqb l.0.0 x.0) refl h (λ (found : has_tag (take k ls) x ≡ true). has_tag-more k n ls x (omega arith) found)

-- a parent stands before its child
parent_of_link : (at n : ℕ) (ls : Links) (link : Option Tag) (p : Tag) → at ≤ n → link ≡ Some p → MatchOption link (at ≡ 0) (λ q. IsTrue (has_tag (take at ls) q)) → has_tag (take n ls) p ≡ true
parent_of_link at n ls (Some q) p le e h =
    let same : q ≡ p = cc in
    has_tag-more at n ls p le (subst (λ (t : Tag). IsTrue (has_tag (take at ls) t)) same h)
parent_of_link at n ls None p le e h = cc

parent-before : (n : ℕ) (ls : Links) (x p : Tag) → AreLinked ls → has_tag (take (suc n) ls) x ≡ true → parent_in ls x ≡ Some p → has_tag (take n ls) p ≡ true
parent-before n ls x p linked h up =
    let s = stands (suc n) ls x h in
    parent_of_link s.at n ls s.link.1 p (omega (arith, s.below)) (sym s.parent ∙ up) (linked.parents s.at s.link s.here)

-- a step more than there are nodes before a tag adds nothing
more_by : (n : ℕ) (ls : Links) (x y : Tag) (up : Option Tag) → parent_in ls x ≡ up → ((p : Tag) → up ≡ Some p → leads_to n ls p y ≡ leads_to (suc n) ls p y) → leads_to (suc n) ls x y ≡ leads_to (suc (suc n)) ls x y
more_by n ls x y None e h = rw e refl
more_by n ls x y (Some p) e h = rw (e, h p refl) refl

leads_to-more : (n : ℕ) (ls : Links) (x y : Tag) → AreLinked ls → has_tag (take n ls) x ≡ true → leads_to n ls x y ≡ leads_to (suc n) ls x y
leads_to-more zero ls x y linked h = cc
leads_to-more (suc n) ls x y linked h =
    more_by n ls x y (parent_in ls x) refl (λ p up. leads_to-more n ls p y linked (parent-before n ls x p linked h up))

-- a tag of no node has no parent
no_parent_by : (l : Tag × Option Tag) (ls : Links) (x : Tag) (b : Bool) → eqb l.0.0 x.0 ≡ b → has_tag (l ∷ ls) x ≡ false → (has_tag ls x ≡ false → parent_in ls x ≡ None) → parent_in (l ∷ ls) x ≡ None
no_parent_by l ls x true e h rest = let wrong : true ≡ false = rw e at h in cc
no_parent_by l ls x false e h rest = rw e (rest (rw e at h))

no_parent : (ls : Links) (x : Tag) → has_tag ls x ≡ false → parent_in ls x ≡ None
no_parent [] x h = refl
no_parent (l ∷ ls) x h = no_parent_by l ls x (eqb l.0.0 x.0) refl h (λ (none : has_tag ls x ≡ false). no_parent ls x none)

or_false : (b : Bool) → b ≡ (b || false)
or_false true = refl
or_false false = refl

alone : (n : ℕ) (ls : Links) (x y : Tag) → parent_in ls x ≡ None → leads_to n ls x y ≡ leads_to (suc n) ls x y
alone zero ls x y e = rw e (or_false (eqb x.0 y.0))
alone (suc n) ls x y e = rw e refl

path_by : (ls : Links) (x y : Tag) → AreLinked ls → (b : Bool) → has_tag ls x ≡ b → is_on_path ls x y ≡ leads_to (suc (length ls)) ls x y
path_by ls x y linked true h = leads_to-more (length ls) ls x y linked (ap (λ (l : Links). has_tag l x) (take-length ls) ∙ h)
path_by ls x y linked false h = alone (length ls) ls x y (no_parent ls x h)

-- the path test meets its recursion
pub path-by_parents : (ls : Links) (x y : Tag) → AreLinked ls → is_on_path ls x y ≡ (x.0 == y.0 || option_map_or (λ p. is_on_path ls p y) (parent_in ls x) false)
path-by_parents ls x y linked = path_by ls x y linked (has_tag ls x) refl
