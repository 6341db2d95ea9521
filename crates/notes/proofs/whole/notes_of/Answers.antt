use Rattle.std.proofs.Common.{◌≡◌, ℕ, subst}
use Rattle.std.specs.Global.{Vec}
use Rattle.std.proofs.lemmas.Result.{IfOk-weaker}
use Rattle.ir_ast.specs.declared.program.Program.{Program}
use Rattle.notes.specs.Meaning.{source_meant}
use Rattle.notes.specs.Refusals.{rule_note}
use Rattle.notes.specs.Whole.{AreNotes, AreRunNotes, IsUnreadNote, listing_of}
use Rattle.notes.specs.Whole.AreNotes.{unread, unverified, accepted}
use Rattle.notes.proofs.whole.notes_of.Goals as goal

pub returns-in-Err : goal.returns-in-Err
returns-in-Err c =
    let s = source_meant c.args.source.now in
    IfOk-weaker c.unread_note.result (λ (note : Vec ℕ). IsUnreadNote s c.in-Err.fault note.items)
    (λ (note : Vec ℕ). AreNotes s c.args.hosts.now c.args.kept.now c.args.races.now note.items)
    (λ note is. unread c.in-Err.fault is) c.unread_note.ensures

pub returns-in-Ok-verify : goal.returns-in-Ok-verify
returns-in-Ok-verify c =
    let s = source_meant c.args.source.now in
    let of : Program → Vec ℕ → Type 0 = λ (p : Program) (notes : Vec ℕ). AreRunNotes (listing_of s p c.args.kept.now) c.args.kept.now c.args.races.now notes.items in
    IfOk-weaker c.accepted_notes.result (of c.in-Ok-verify.verified.program)
    (λ (note : Vec ℕ). AreNotes s c.args.hosts.now c.args.kept.now c.args.races.now note.items)
    (λ notes is. accepted c.in-Ok.program c.in-Ok.ensures.program c.in-Ok-verify.ensures.accepted
    (subst (λ (p : Program). of p notes) c.in-Ok-verify.ensures.ok.0 is))
    c.accepted_notes.ensures

pub returns-in-Err-Refused : goal.returns-in-Err-Refused
returns-in-Err-Refused c =
    let s = source_meant c.args.source.now in
    let broken = rw c.in-Err-Refused.field-0-is at c.in-Err-Refused.ensures.refused in
    IfOk-weaker c.rule_note.result (λ (note : Vec ℕ). note.items ≡ rule_note s c.in-Err-Refused.rule c.in-Err-Refused.at)
    (λ (note : Vec ℕ). AreNotes s c.args.hosts.now c.args.kept.now c.args.races.now note.items)
    (λ note is. unverified c.in-Ok.program c.in-Err-Refused.rule c.in-Err-Refused.at c.in-Ok.ensures.program broken is)
    c.rule_note.ensures
