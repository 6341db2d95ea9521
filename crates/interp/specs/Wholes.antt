-- The order of a record's logs.
use Rattle.std.specs.Prelude.{ℕ}
use Rattle.history.specs.declared.log.ThreadLog.{ThreadLog}

abbrev pub number_of_log : ThreadLog → ℕ
number_of_log log = log.number.0
