use Rattle.std.proofs.Common.{◌≡◌, ℕ}
use Rattle.std.specs.Global.{Vec}
use Rattle.std.proofs.lemmas.Result.{IfOk-weaker}
use Rattle.notes.specs.Meaning.{source_meant}
use Rattle.notes.specs.Refusals.{refusal_note}
use Rattle.notes.specs.Whole.{IsUnreadNote}
use Rattle.notes.proofs.Refusing.{refuses}
use Rattle.notes.proofs.whole.unread_note.Goals as goal

pub returns-in_default : goal.returns-in_default
returns-in_default c =
    let s = source_meant c.args.source.now in
    let fault = c.args.fault in
    IfOk-weaker c.refusal_note.result (λ (note : Vec ℕ). note.items ≡ refusal_note s fault) (λ (note : Vec ℕ). IsUnreadNote s fault note.items)
    (λ note is. (refuses s.text fault c.in_default.not-NoMemory c.requires, is)) c.refusal_note.ensures
