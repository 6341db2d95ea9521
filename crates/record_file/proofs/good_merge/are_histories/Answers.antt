use Rattle.std.proofs.Common.{◌≡◌, ◌↔◌, ℕ, true, sym, subst, ◌∙◌}
use Rattle.std.proofs.lemmas.Result.{IfOk-weaker}
use Rattle.history.specs.declared.entry.Entry.{Entry}
use Rattle.runs.specs.Parts.{Has}
use Rattle.record_file.specs.ByNumber.{AreLegalLogs, IsSmall}
use Rattle.record_file.specs.Merging.{AreHistories}
use Rattle.record_file.proofs.Histories.{legal_iff, logs_rise_too}
use Rattle.record_file.proofs.good_merge.are_histories.Goals as goal

pub are_legal-requires : goal.are_legal-requires
are_legal-requires c = logs_rise_too c.args.numbers c.args.entries.now c.as_slice.result.now (c.as_slice.ensures ∙ c.in_ok-logs.ensures) c.requires.stamps

pub returns : goal.returns
returns c =
    let es = c.args.entries.now in
    let logs = c.as_slice.result.now in
    let small = subst (λ (bound : ℕ). (e : Entry) → Has es e → IsSmall bound e.alloc) (sym c.requires.numbers) c.are_small.ensures in
    let iff = legal_iff c.args.numbers es logs (c.as_slice.ensures ∙ c.in_ok-logs.ensures) small in
    IfOk-weaker c.are_legal.result (λ b. (b ≡ true) ↔ AreLegalLogs logs) (λ b. (b ≡ true) ↔ AreHistories es) (λ b h. (λ t. iff.0 (h.0 t), λ g. h.1 (iff.1 g))) c.are_legal.ensures
