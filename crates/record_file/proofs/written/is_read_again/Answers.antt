use Rattle.std.proofs.Common.{List, subst}
use Rattle.std.specs.List.{AllByRecursion}
use Rattle.history.specs.declared.log.ThreadLog.{ThreadLog}
use Rattle.record_text.specs.Texts.{LogFits}
use Rattle.runs.specs.Parts.{Has}
use Rattle.record_file.proofs.ReadAgain.{right_names, right_text}
use Rattle.record_file.proofs.written.is_read_again.Goals as goal

pub logs_fit-requires : goal.logs_fit-requires
logs_fit-requires c = λ log there. right_names _ _ _ _ c.args.kept.now c.requires log (subst (λ (ls : List ThreadLog). Has ls log) c.as_slice.ensures there)

pub returns : goal.returns
returns c = right_text _ _ _ _ c.args.kept.now c.requires (subst (λ (ls : List ThreadLog). AllByRecursion LogFits ls) c.as_slice.ensures c.logs_fit.ensures) c.counters_fit.ensures
