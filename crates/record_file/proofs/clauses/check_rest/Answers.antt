use Rattle.std.proofs.Common.{◌≡◌, List, sym, ◌∙◌, ap, subst}
use Rattle.history.specs.declared.entry.Entry.{Entry}
use Rattle.runs.specs.Merge.{merged}
use Rattle.record_text.specs.Texts.{logs_from}
use Rattle.record_file.specs.Merging.{IsGoodMerge}
use Rattle.record_file.specs.Rest.{AreMerged, CountsAre}
use Rattle.record_file.proofs.clauses.check_rest.Goals as goal

pub returns-then-not-branch-2 : goal.returns-then-not-branch-2
returns-then-not-branch-2 c =
    let kept = c.args.kept.now in
    let limits = c.args.limits.now in
    let whole : c.in_ok-entries.entries.items ≡ merged kept.threads = c.in_ok-entries.ensures ∙ ap merged c.as_slice.ensures in
    let good : IsGoodMerge limits c.args.hosts.now (merged kept.threads) = subst (IsGoodMerge limits c.args.hosts.now) (c.deref.ensures.value ∙ whole) (c.in_ok-is_good_merge.ensures.0 c.if-not-branch.false) in
    let are : AreMerged limits kept =
    sym c.as_slice-2.ensures ∙ c.are_same_logs.ensures.0 c.if-not-are_same_logs.false ∙ c.as_slice-3.ensures ∙ c.in_ok-logs.ensures
    ∙ ap (λ (es : List Entry). logs_from es 1 c.from.result) (c.deref-2.ensures.value ∙ whole) ∙ ap (logs_from (merged kept.threads) 1) c.from.ensures in
    (good, are, subst (λ b. CountsAre b limits kept c.args.asking) c.if-not-branch-2.true c.in_ok-has_counts.ensures)

pub returns : goal.returns
returns c =
    let kept = c.args.kept.now in
    let limits = c.args.limits.now in
    let whole : c.in_ok-entries.entries.items ≡ merged kept.threads = c.in_ok-entries.ensures ∙ ap merged c.as_slice.ensures in
    let good : IsGoodMerge limits c.args.hosts.now (merged kept.threads) = subst (IsGoodMerge limits c.args.hosts.now) (c.deref.ensures.value ∙ whole) (c.in_ok-is_good_merge.ensures.0 c.if-not-branch.false) in
    let are : AreMerged limits kept =
    sym c.as_slice-2.ensures ∙ c.are_same_logs.ensures.0 c.if-not-are_same_logs.false ∙ c.as_slice-3.ensures ∙ c.in_ok-logs.ensures
    ∙ ap (λ (es : List Entry). logs_from es 1 c.from.result) (c.deref-2.ensures.value ∙ whole) ∙ ap (logs_from (merged kept.threads) 1) c.from.ensures in
    (good, are, subst (λ b. CountsAre b limits kept c.args.asking) c.if-not-branch-2.false c.in_ok-has_counts.ensures)
