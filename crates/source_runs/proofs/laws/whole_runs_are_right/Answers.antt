use Rattle.std.proofs.Common.{refl}
use Rattle.runs.specs.Objects.{objects}
use Rattle.runs.proofs.ObjectLaws.{objects_make_alone}
use Rattle.runs.proofs.WholeRuns.{whole_runs_are_right, numbers_differ}
use Rattle.source_sem.specs.Source.{source}
use Rattle.source_sem.specs.Starting.{setting_of, main_of, main_start}
use Rattle.source_sem.specs.Records.{allowed}
use Rattle.source_runs.proofs.Erasing.{right_records_erase}
use Rattle.source_runs.proofs.laws.whole_runs_are_right.Goals as goal

pub returns-clause-records : goal.returns-clause-records
returns-clause-records c program input hosts limits logs kept whole same rise =
    right_records_erase program input hosts limits kept
    (whole_runs_are_right (source (setting_of program input hosts)) objects (allowed limits hosts) limits (main_of program) (main_start (setting_of program input hosts)) logs kept refl objects_make_alone whole same rise)

pub returns-clause-differ : goal.returns-clause-differ
returns-clause-differ c program input hosts limits logs allocs words whole =
    numbers_differ (source (setting_of program input hosts)) objects (allowed limits hosts) limits (main_of program) (main_start (setting_of program input hosts)) logs allocs words whole
