use Rattle.std.proofs.Common.{◌∙◌, ◌++◌, ◌≢◌, ℕ, List, [], ap, sym}
use Rattle.suppress.proofs.Places.{at_site, in_function, no_place_at, nonempty}
use Rattle.suppress.proofs.place.sites_at.Goals as goal

pub returns-in_ok-site-in-Some : goal.returns-in_ok-site-in-Some
returns-in_ok-site-in-Some c =
    at_site c.args.functions.now c.args.text.now c.in-Some.digits.now c.in_ok-site-in-Some.site
    (c.in-Some.ensures.some ∙ ap (λ (w : List ℕ). w ++ c.in-Some.digits.now) c.as_slice.ensures)
    c.in_ok-site-in-Some.ensures.some.0 c.in_ok-site-in-Some.ensures.some.1

pub returns-then-is_name : goal.returns-then-is_name
returns-then-is_name c =
    in_function c.args.functions.now c.args.text.now c.in-Some-after.name.now c.function_sites.result
    (c.in-Some-after.ensures.some ∙ ap (λ (w : List ℕ). w ++ c.in-Some-after.name.now) c.as_slice-in-None.ensures)
    (c.is_name.ensures.yes c.if-is_name.true) c.function_sites.ensures

pub returns-in-None-after : goal.returns-in-None-after
returns-in-None-after c =
    let some : c.args.text.now ≢ [] = nonempty c.args.text.now c.is_empty.result c.is_empty.ensures c.if-is_empty.false in
    no_place_at c.args.functions.now c.args.text.now some
    (λ rest e. c.in-None.ensures.none rest (e ∙ ap (λ (w : List ℕ). w ++ rest) (sym c.as_slice.ensures)))
    (λ rest e. c.in-None-after.ensures.none rest (e ∙ ap (λ (w : List ℕ). w ++ rest) (sym c.as_slice-in-None.ensures)))
