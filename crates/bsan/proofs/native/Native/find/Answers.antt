use Rattle.std.proofs.Common.{Some, refl, rules}
use Rattle.command_words.specs.Jobs.{Job}
use Rattle.command_words.specs.Meaning.{native_job_meant}
use Rattle.bsan.specs.Words.{origin_of}
use Rattle.bsan.specs.Seen.{FilesSeen, seen_by}
use Rattle.bsan.specs.Answer.{IsLoaded, IsUnloaded}
use Rattle.bsan.proofs.Found.{served, unloaded, loaded_hosts, ok_of, err_of}
use Rattle.bsan.proofs.native.Native.find.Goals as goal

pub serve-requires-clause-hosts : goal.serve-requires-clause-hosts
serve-requires-clause-hosts g c κs within =
    let hosts = c.args.self.now.hosts.now.table in
    let origin = origin_of (native_job_meant c.args.job.now) in
    loaded_hosts _ hosts origin c.in-Ok.verified
    (ok_of (IsLoaded _ hosts origin) (IsUnloaded _ hosts origin) c.in_ok-verified.field-0 c.in-Ok.verified c.in-Ok.is c.in_ok-verified.ensures.loaded)

pub returns-in-Ok : goal.returns-in-Ok
returns-in-Ok g c =
    let whole : FilesSeen = seen_by g.S.Files.content g.S.Files.faults g.S.Files.overlong c.args.files.now c.serve.new.files in
    let first : FilesSeen = seen_by g.S.Files.content g.S.Files.faults g.S.Files.overlong c.args.files.now c.program.new.files in
    let part : FilesSeen = seen_by g.S.Files.content g.S.Files.faults g.S.Files.overlong c.program.new.files c.serve.new.files in
    let hosts = c.args.self.now.hosts.now.table in
    let job : Job = native_job_meant c.args.job.now in
    let loaded = ok_of (IsLoaded first hosts (origin_of job)) (IsUnloaded first hosts (origin_of job)) c.in_ok-verified.field-0 c.in-Ok.verified
    c.in-Ok.is c.in_ok-verified.ensures.loaded in
    served first part whole hosts (Some job) c.serve.new.kept c.serve.result job c.in-Ok.verified
    (λ file. refl)
    (record {
      content = c.program.ensures.content;
      faults_before = c.program.ensures.faults;
      faults_after = λ file. refl;
      overlong_before = c.program.ensures.overlong;
      overlong_after = λ file limit. refl;
    })
    refl loaded c.serve.ensures

pub returns-in-Err : goal.returns-in-Err
returns-in-Err g c =
    let first : FilesSeen = seen_by g.S.Files.content g.S.Files.faults g.S.Files.overlong c.args.files.now c.program.new.files in
    let hosts = c.args.self.now.hosts.now.table in
    let job : Job = native_job_meant c.args.job.now in
    unloaded first hosts (Some job) c.args.kept.now job c.in-Err.found refl (search rules)
    (err_of (IsLoaded first hosts (origin_of job)) (IsUnloaded first hosts (origin_of job)) c.in_ok-verified.field-0 c.in-Err.found c.in-Err.is
    c.in_ok-verified.ensures.loaded)
