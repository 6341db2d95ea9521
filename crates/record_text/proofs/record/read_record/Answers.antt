use Rattle.std.proofs.Common.{◌∙◌, ap}
use Rattle.std.proofs.lemmas.Result.{err_from_is_err_and}
use Rattle.record_text.specs.Texts.{alloc_logs}
use Rattle.record_text.proofs.KeptTexts.{text_of_told, read_again, refused_again}
use Rattle.record_text.proofs.record.read_record.Goals as goal

-- a record's text is refused for want of memory alone
pub returns-in_err-words-clause-again : goal.returns-in_err-words-clause-again
returns-in_err-words-clause-again c = λ kept text.
    let p = err_from_is_err_and c.from_residual.result c.from_residual.ensures.1 in
    rw (p.1, p.2) (refused_again c.args.allocs c.args.bytes.now kept c.in_err-words.field-0.0 text c.in_err-words.ensures.refused)

-- and what is read of it is that record
pub returns-clause-again : goal.returns-clause-again
returns-clause-again c = λ kept text.
    read_again c.args.allocs c.args.bytes.now _ kept
    (text_of_told c.args.allocs c.args.bytes.now c.in_ok-words.words c.in_ok-words.threads c.in_ok-allocs.allocs c.in_ok-words.ensures.told
    (c.in_ok-allocs.ensures ∙ ap (alloc_logs c.args.allocs) c.as_slice.ensures)) text
