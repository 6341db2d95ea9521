use Rattle.std.proofs.Common.{Some}
use Rattle.command_words.specs.Meaning.{job_meant}
use Rattle.bsan.specs.Seen.{seen_by}
use Rattle.bsan.proofs.Reportable.{found_told}
use Rattle.bsan.proofs.top.answer_job.Goals as goal

pub tell-requires : goal.tell-requires
tell-requires g c =
    found_told
    (seen_by g.S.Files.content g.S.Files.faults g.S.Files.overlong c.args.files.now c.find.new.files)
    c.args.hosts.now.table (Some (job_meant c.args.job.now)) c.find.new.kept c.in-Ok.found c.in-Ok.ensures
