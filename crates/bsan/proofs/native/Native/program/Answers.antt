use Rattle.std.proofs.Common.{sym, subst}
use Rattle.command_words.specs.Meaning.{native_job_meant}
use Rattle.command_words.specs.declared.jobs.NativeJob.{NativeJob}
use Rattle.bsan.specs.Answer.{IsLoaded}
use Rattle.bsan.specs.Seen.{FilesSeen, seen_by}
use Rattle.bsan.specs.Words.{origin_of}
use Rattle.bsan.proofs.native.Native.program.Goals as goal

pub returns-in_ok-generate-in-Load-clause-loaded : goal.returns-in_ok-generate-in-Load-clause-loaded
returns-in_ok-generate-in-Load-clause-loaded g c =
    let files : FilesSeen = seen_by g.S.Files.content g.S.Files.faults g.S.Files.overlong c.args.files.now c.args.files.now in
    subst (λ (job : NativeJob). IsLoaded files c.args.self.now.hosts.now.table (origin_of (native_job_meant job)) c.in_ok-generate-in-Load.field-0)
    (sym c.in-Load.is) (c.in_ok-generate-in-Load.ensures files)
