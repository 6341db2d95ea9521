use Rattle.std.proofs.Common.{◌∙◌}
use Rattle.std.proofs.lemmas.Result.{on_ok_weaker}
use Rattle.outside_io.proofs.HeldLemmas.{limited_rises}
use Rattle.outside_io.proofs.mem_files.note_too_long.Goals as goal

pub returns-clause-rose : goal.returns-clause-rose
returns-clause-rose c =
    on_ok_weaker _ (limited_rises _ _ _ _ _ (c.in_ok-from_slice.ensures ∙ c.as_bytes.ensures.value)) c.push.ensures.ok
