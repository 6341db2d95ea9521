-- The memory whose objects are allocations as they answer: bytes, fragments and an eager tree.
use Rattle.std.specs.Prelude.{is_some}
use Rattle.history.specs.Objects.{Object, unmade, answer}
use Rattle.runs.specs.Machine.{Memory}

abbrev pub objects : Memory
objects = record {
  Object = Object;
  unmade = unmade;
  made = λ o. is_some o.made;
  reply = λ o r stamp. (answer o r (record { 0 = stamp })).reply;
  next = λ o r stamp. (answer o r (record { 0 = stamp })).object;
}
