use Rattle.std.proofs.Common.{rules}
use Rattle.bsan_show.proofs.Told.{told_text}
use Rattle.bsan_show.proofs.remembering.Remembering.text_of.Goals as goal

pub returns-then-eq-clause-told : goal.returns-then-eq-clause-told
returns-then-eq-clause-told g c =
    told_text (g.S.Files.content c.args.self.now.files) c.args.self.now.first c.in_ok-file.file.now c.args.name.now c.as_slice-then-eq.result.now
    (search rules) (search rules) (search rules) c.args.self.now.told
