use Rattle.std.proofs.Common.{◌++◌, ◌∙◌, ℕ, List, ap}
use Rattle.std.specs.Prelude.{codes}
use Rattle.std.specs.List.{flat_map}
use Rattle.history.specs.declared.log.ThreadLog.{ThreadLog}
use Rattle.record_text.specs.Written.{first_text, log_text}
use Rattle.record_text.proofs.Joining.{written_is}
use Rattle.record_text.proofs.write.write_record.Goals as goal

pub returns : goal.returns
returns c =
    c.in_ok-extend_from_slice.ensures.items
    ∙ ap (λ (x : List ℕ). x ++ codes "end\n")
    (c.in_ok-append_logs.ensures
    ∙ ap (λ (x : List ℕ). x ++ flat_map log_text c.as_slice.result.now) (c.in_ok-text.ensures.items ∙ c.as_bytes.ensures.value ∙ c.in_ok-first_lines.ensures)
    ∙ ap (λ (logs : List ThreadLog). first_text c.args.kept.now.words ++ flat_map log_text logs) c.as_slice.ensures)
    ∙ written_is c.args.kept.now
