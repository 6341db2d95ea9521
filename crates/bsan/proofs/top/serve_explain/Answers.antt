use Rattle.command_words.specs.Meaning.{run_meant}
use Rattle.bsan.specs.Seen.{seen_by}
use Rattle.bsan.proofs.Reportable.{run_histories}
use Rattle.bsan.proofs.top.serve_explain.Goals as goal

pub find_causes-requires : goal.find_causes-requires
find_causes-requires g c =
    run_histories
    (seen_by g.S.Files.content g.S.Files.faults g.S.Files.overlong c.args.files.now c.run.new.files)
    c.args.hosts.now.table c.run.new.kept c.args.verified.now.program (run_meant c.args.asked.now) c.in-Ok.ensures.ran
