use Rattle.std.proofs.Common.{Option, sym, subst}
use Rattle.command_words.specs.Jobs.{Job}
use Rattle.bsan.specs.Answer.{Answers}
use Rattle.bsan.specs.Seen.{seen_by, put_by}
use Rattle.bsan.proofs.Found.{native_read}
use Rattle.bsan.proofs.native.answer.Goals as goal

pub returns-in-Some : goal.returns-in-Some
returns-in-Some g c = λ words read.
    let files = seen_by g.S.Files.content g.S.Files.faults g.S.Files.overlong c.args.files.now c.answer.new.files in
    let sink = put_by g.K.Sink.taken g.K.Sink.faults c.args.out.now c.answer.new.out in
    let same = native_read words c.args.asked.now c.in-Ok.job c.native.result c.in-Some.native_job read c.in-Ok.is c.native.ensures c.in-Some.is in
    subst (λ (asked : Option Job). Answers files c.args.hosts.now.table sink asked c.answer.new.kept c.answer.result) (sym same) c.answer.ensures
