use Rattle.std.proofs.Common.{◌≡◌, ℕ, Bool, true, false, List, [], ◌∷◌, ◌++◌, filter, cond, if◌then◌else◌, refl, ap}
use Rattle.std.specs.List.{flat_map}
use Rattle.history.specs.Records.{first_violations}
use Rattle.history.specs.declared.entry.Entry.{Entry}
use Rattle.report.specs.Violation.{violation_line}
use Rattle.suppress.specs.Held.{is_held, is_shown, shown_line}
use Rattle.suppress.specs.declared.rules.Rules.{Rules}
use Rattle.suppress.proofs.Shown.{kept_and_left}
use Rattle.bsan.proofs.laws.the_others_are_held.Goals as goal

lines_of : (rules : Rules) (es : List Entry) → flat_map (shown_line rules) es ≡ flat_map violation_line (filter (is_shown rules) es)
lines_of rules [] = refl
lines_of rules (e ∷ es) = by_test (is_shown rules e) (lines_of rules es)
  where
    by_test : (b : Bool) → flat_map (shown_line rules) es ≡ flat_map violation_line (filter (is_shown rules) es)
        → (if b then violation_line e else []) ++ flat_map (shown_line rules) es
        ≡ flat_map violation_line (cond b (e ∷ filter (is_shown rules) es) (filter (is_shown rules) es))
    by_test true more = ap (λ (rest : List ℕ). violation_line e ++ rest) more
    by_test false more = more

pub returns-clause-lines : goal.returns-clause-lines
returns-clause-lines c rules kept = lines_of rules (first_violations kept)

pub returns-clause-counts : goal.returns-clause-counts
returns-clause-counts c rules kept = kept_and_left (is_held rules) (first_violations kept)
