-- A stable sort by stamps puts entries in stamp order.
use Rattle.std.proofs.Common.{◌≡◌, List, [], ◌∷◌, Bool, cond, refl, sym, ap, ◌∙◌, arith}
use Rattle.std.specs.Prelude.{◌==◌, filter}
use Rattle.std.specs.Ordering.{is_lt, nat_cmp}
use Rattle.std.specs.List.Sorted.{IsNonDecreasingBy, IsStableByKey, ties}
use Rattle.std.proofs.lemmas.Bool.Decides.{nat_tests}
use Rattle.history.specs.declared.entry.Entry.{Entry}
use Rattle.history.specs.Merge.{stamp_of, by_stamp}
use Rattle.history.proofs.Order.{with_stamp, unique, rises_from, by_stamp_rises, with_stamp-by_stamp}

abbrev pub is_below : Entry → Entry → Bool
is_below x y = is_lt (nat_cmp (stamp_of x) (stamp_of y))

tie : (x y : Entry) → ties is_below x y ≡ (stamp_of y == stamp_of x)
tie x y = grind (arith, nat_tests)

ties_filter : (x : Entry) (es : List Entry) → filter (ties is_below x) es ≡ with_stamp (stamp_of x) es
ties_filter x [] = refl
ties_filter x (e ∷ es) =
    ap (λ (b : Bool). cond b (e ∷ filter (ties is_below x) es) (filter (ties is_below x) es)) (tie x e)
    ∙ ap (λ (rest : List Entry). cond (stamp_of e == stamp_of x) (e ∷ rest) rest) (ties_filter x es)

pub sorted_by_stamp : (xs ys : List Entry) → IsNonDecreasingBy stamp_of ys → IsStableByKey stamp_of nat_cmp xs ys → ys ≡ by_stamp xs
sorted_by_stamp xs ys up stable =
    unique ys (by_stamp xs) (rises_from ys up) (by_stamp_rises xs)
    (λ e. sym (ties_filter e ys) ∙ stable e ∙ ties_filter e xs ∙ sym (with_stamp-by_stamp (stamp_of e) xs))
