use Rattle.std.proofs.Common.{Some, refl, sym, subst, rules}
use Rattle.command_words.specs.Jobs.{Job}
use Rattle.command_words.specs.Meaning.{job_meant}
use Rattle.bsan.specs.Words.{Origin}
use Rattle.bsan.specs.Words.Origin.{InFile}
use Rattle.bsan.specs.Seen.{FilesSeen, seen_by}
use Rattle.bsan.specs.Answer.{IsLoaded, IsUnloaded}
use Rattle.bsan.proofs.Found.{served, unloaded, loaded_hosts, ok_of, err_of}
use Rattle.bsan.proofs.top.find.Goals as goal

pub serve-requires-clause-hosts : goal.serve-requires-clause-hosts
serve-requires-clause-hosts g c =
    let hosts = c.args.hosts.now.table in
    let origin = InFile c.file_of.result.now in
    loaded_hosts _ hosts origin c.in-Ok.verified
    (ok_of (IsLoaded _ hosts origin) (IsUnloaded _ hosts origin) c.in_ok-verified.field-0 c.in-Ok.verified c.in-Ok.is c.in_ok-verified.ensures.loaded)

pub returns-in-Ok : goal.returns-in-Ok
returns-in-Ok g c =
    let whole : FilesSeen = seen_by g.S.Files.content g.S.Files.faults g.S.Files.overlong c.args.files.now c.serve.new.files in
    let first : FilesSeen = seen_by g.S.Files.content g.S.Files.faults g.S.Files.overlong c.args.files.now c.load.new.files in
    let part : FilesSeen = seen_by g.S.Files.content g.S.Files.faults g.S.Files.overlong c.load.new.files c.serve.new.files in
    let hosts = c.args.hosts.now.table in
    let origin = InFile c.file_of.result.now in
    let job : Job = job_meant c.args.job.now in
    let loaded = ok_of (IsLoaded first hosts origin) (IsUnloaded first hosts origin) c.in_ok-verified.field-0 c.in-Ok.verified
    c.in-Ok.is c.in_ok-verified.ensures.loaded in
    served first part whole hosts (Some job) c.serve.new.kept c.serve.result job c.in-Ok.verified
    (λ file. refl)
    (record {
      content = c.load.ensures.content;
      faults_before = c.load.ensures.faults;
      faults_after = λ file. refl;
      overlong_before = c.load.ensures.overlong;
      overlong_after = λ file limit. refl;
    })
    refl (subst (λ (o : Origin). IsLoaded first hosts o c.in-Ok.verified) (sym c.file_of.ensures) loaded) c.serve.ensures

pub returns-in-Err : goal.returns-in-Err
returns-in-Err g c =
    let first : FilesSeen = seen_by g.S.Files.content g.S.Files.faults g.S.Files.overlong c.args.files.now c.load.new.files in
    let hosts = c.args.hosts.now.table in
    let origin = InFile c.file_of.result.now in
    let job : Job = job_meant c.args.job.now in
    let of = err_of (IsLoaded first hosts origin) (IsUnloaded first hosts origin) c.in_ok-verified.field-0 c.in-Err.found c.in-Err.is
    c.in_ok-verified.ensures.loaded in
    unloaded first hosts (Some job) c.args.kept.now job c.in-Err.found refl (search rules)
    (subst (λ (o : Origin). IsUnloaded first hosts o c.in-Err.found) (sym c.file_of.ensures) of)
