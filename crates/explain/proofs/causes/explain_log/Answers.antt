use Rattle.std.proofs.Common.{◌≡◌, ◌<◌, false, Some, length-take-le, sym, ap, subst, ◌∙◌, arith}
use Rattle.std.proofs.lemmas.List.{get_or-take}
use Rattle.std.specs.Prelude.{position}
use Rattle.std.proofs.lemmas.List.Quantifiers.{position-Some}
use Rattle.history.specs.declared.entry.Entry.{Entry}
use Rattle.history.specs.Records.{violates}
use Rattle.explain.proofs.Listing.{find_here, find_nowhere}
use Rattle.explain.proofs.causes.explain_log.Goals as goal

pub returns-in_ok-explain_at-in-Some-clause-violation : goal.returns-in_ok-explain_at-in-Some-clause-violation
returns-in_ok-explain_at-in-Some-clause-violation c =
    let es = c.args.log.now.entries in
    let x = c.in_ok-explain_at-in-Some.field-0 in
    let d : Entry = x.violation in
    let at : position violates es ≡ Some c.in-Some.at = ap (position violates) (sym c.as_slice.ensures) ∙ sym c.first_place.ensures ∙ c.in-Some.is in
    let p = position-Some violates es c.in-Some.at d at in
    ap (λ (e : Entry). Some e) (c.in_ok-explain_at-in-Some.ensures.violation d) ∙ sym (find_here violates es c.in-Some.at d p.0 p.1 p.2)

pub returns-in-None-clause-violation : goal.returns-in-None-clause-violation
returns-in-None-clause-violation c =
    let es = c.args.log.now.entries in
    sym (find_nowhere violates es (ap (position violates) (sym c.as_slice.ensures) ∙ sym c.first_place.ensures ∙ c.in-None.is))

pub explain_at-requires-clause-violates : goal.explain_at-requires-clause-violates
explain_at-requires-clause-violates c = λ d.
    let es = c.args.log.now.entries in
    (position-Some violates es c.in-Some.at d (ap (position violates) (sym c.as_slice.ensures) ∙ sym c.first_place.ensures ∙ c.in-Some.is)).1

pub explain_at-requires-clause-first : goal.explain_at-requires-clause-first
explain_at-requires-clause-first c = λ k d lt.
    let es = c.args.log.now.entries in
    let at = c.in-Some.at in
    let p = position-Some violates es at d (ap (position violates) (sym c.as_slice.ensures) ∙ sym c.first_place.ensures ∙ c.in-Some.is) in
    let low : k < at = omega (arith, length-take-le at es, p.0, lt) in
    subst (λ (e : Entry). violates e ≡ false) (sym (get_or-take at es k d low)) (p.2 k low)
