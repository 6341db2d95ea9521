use Rattle.std.proofs.Common.{◌≡◌, None, List, take, get_or, sym, ap, subst, ◌∙◌}
use Rattle.std.specs.Prelude.{find}
use Rattle.std.specs.Option.{option_copied}
use Rattle.eager_tree.specs.declared.violation.Violation.{Violation}
use Rattle.eager_tree.specs.declared.violation.Violation.TheVariants.{Denied, StrongFree, Stranger, Freed, OutOfRange}
use Rattle.history.specs.declared.entry.Entry.{Entry}
use Rattle.history.specs.declared.entry.Verdict.TheVariants.{Violated}
use Rattle.history.specs.Histories.{is_make_step}
use Rattle.explain.specs.declared.explained.Explained.{Explained}
use Rattle.explain.specs.Explanations.{IsExplainedBy}
use Rattle.explain.specs.Replays.{frees}
use Rattle.explain.specs.Searches.{IsFoundFor}
use Rattle.explain.proofs.Explaining.{if_ok_map, quiet_before, explained_found, explained_freed, explained_range, explained_stranger}
use Rattle.explain.proofs.causes.explain_at.Goals as goal

pub returns-in-Violated-Denied-clause-explained : goal.returns-in-Violated-Denied-clause-explained
returns-in-Violated-Denied-clause-explained c =
    let log = c.args.log.now in
    let quiet = quiet_before log c.args.at c.requires.history c.requires.at c.requires.first in
    let v = c.index-entries-at.result in
    let here : get_or log.entries c.args.at v ≡ v = sym (c.index-entries-at.is ∙ ap (λ (es : List Entry). get_or es c.args.at v) c.as_slice-entries.ensures) in
    let w = c.in-Violated-Denied in
    let is : v.reply.verdict ≡ Violated (Denied w.offset w.node w.field-0-2 w.field-0-3) = w.is ∙ ap (λ (x : Violation). Violated x) (rw w.is at w.field-0-is) in
    if_ok_map c.explain_node.result (IsFoundFor log c.args.at w.node w.offset) (IsExplainedBy log)
    (λ x found. explained_found log c.args.at c.requires.at quiet v w.node w.offset w.field-0-2 (Denied w.offset w.node w.field-0-2 w.field-0-3) x here is (λ h. h) (λ h. h) found)
    c.explain_node.ensures

pub returns-in-Violated-StrongFree-clause-explained : goal.returns-in-Violated-StrongFree-clause-explained
returns-in-Violated-StrongFree-clause-explained c =
    let log = c.args.log.now in
    let quiet = quiet_before log c.args.at c.requires.history c.requires.at c.requires.first in
    let v = c.index-entries-at.result in
    let here : get_or log.entries c.args.at v ≡ v = sym (c.index-entries-at.is ∙ ap (λ (es : List Entry). get_or es c.args.at v) c.as_slice-entries.ensures) in
    let w = c.in-Violated-StrongFree in
    let is : v.reply.verdict ≡ Violated (StrongFree w.offset w.node w.field-0-2) = w.is ∙ ap (λ (x : Violation). Violated x) (rw w.is at w.field-0-is) in
    if_ok_map c.explain_node-in-Violated-StrongFree.result (IsFoundFor log c.args.at w.node w.offset) (IsExplainedBy log)
    (λ x found. explained_found log c.args.at c.requires.at quiet v w.node w.offset w.field-0-2 (StrongFree w.offset w.node w.field-0-2) x here is (λ h. h) (λ h. h) found)
    c.explain_node-in-Violated-StrongFree.ensures

pub returns-in-Violated-Freed-clause-explained : goal.returns-in-Violated-Freed-clause-explained
returns-in-Violated-Freed-clause-explained c =
    let log = c.args.log.now in
    let quiet = quiet_before log c.args.at c.requires.history c.requires.at c.requires.first in
    let v = c.index-entries-at.result in
    let here : get_or log.entries c.args.at v ≡ v = sym (c.index-entries-at.is ∙ ap (λ (es : List Entry). get_or es c.args.at v) c.as_slice-entries.ensures) in
    let w = c.in-Violated-Freed in
    let is : v.reply.verdict ≡ Violated Freed = w.is ∙ ap (λ (x : Violation). Violated x) (rw w.is at w.field-0-is) in
    let found : option_copied c.freer.result ≡ find frees (take c.args.at log.entries) = c.freer.ensures ∙ ap (λ (es : List Entry). find frees (take c.args.at es)) c.as_slice-entries.ensures in
    if_ok_map c.with_causes.result (λ (x : Explained). x ≡ record { violation = v; maker = None; changer = option_copied c.freer.result }) (IsExplainedBy log)
    (λ x made. subst (IsExplainedBy log) (sym made) (explained_freed log c.args.at c.requires.at quiet v (option_copied c.freer.result) here is found))
    c.with_causes.ensures

pub returns-in-Violated-OutOfRange-clause-explained : goal.returns-in-Violated-OutOfRange-clause-explained
returns-in-Violated-OutOfRange-clause-explained c =
    let log = c.args.log.now in
    let quiet = quiet_before log c.args.at c.requires.history c.requires.at c.requires.first in
    let v = c.index-entries-at.result in
    let here : get_or log.entries c.args.at v ≡ v = sym (c.index-entries-at.is ∙ ap (λ (es : List Entry). get_or es c.args.at v) c.as_slice-entries.ensures) in
    let w = c.in-Violated-OutOfRange in
    let is : v.reply.verdict ≡ Violated OutOfRange = w.is ∙ ap (λ (x : Violation). Violated x) (rw w.is at w.field-0-is) in
    let found : option_copied c.making.result ≡ find is_make_step (take c.args.at log.entries) = c.making.ensures ∙ ap (λ (es : List Entry). find is_make_step (take c.args.at es)) c.as_slice-entries.ensures in
    if_ok_map c.with_causes-in-Violated-OutOfRange.result (λ (x : Explained). x ≡ record { violation = v; maker = option_copied c.making.result; changer = None }) (IsExplainedBy log)
    (λ x made. subst (IsExplainedBy log) (sym made) (explained_range log c.args.at c.requires.at quiet v (option_copied c.making.result) here is found))
    c.with_causes-in-Violated-OutOfRange.ensures

pub returns-in-Violated-Stranger-clause-explained : goal.returns-in-Violated-Stranger-clause-explained
returns-in-Violated-Stranger-clause-explained c =
    let log = c.args.log.now in
    let quiet = quiet_before log c.args.at c.requires.history c.requires.at c.requires.first in
    let v = c.index-entries-at.result in
    let here : get_or log.entries c.args.at v ≡ v = sym (c.index-entries-at.is ∙ ap (λ (es : List Entry). get_or es c.args.at v) c.as_slice-entries.ensures) in
    let w = c.in-Violated-Stranger in
    let is : v.reply.verdict ≡ Violated Stranger = w.is ∙ ap (λ (x : Violation). Violated x) (rw w.is at w.field-0-is) in
    if_ok_map c.with_causes-in-Violated-Stranger.result (λ (x : Explained). x ≡ record { violation = v; maker = None; changer = None }) (IsExplainedBy log)
    (λ x made. subst (IsExplainedBy log) (sym made) (explained_stranger log c.args.at c.requires.at quiet v here is))
    c.with_causes-in-Violated-Stranger.ensures
