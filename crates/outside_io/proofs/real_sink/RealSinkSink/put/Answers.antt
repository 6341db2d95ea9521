use Rattle.std.proofs.Common.{◌++◌, take}
use Rattle.outside_io.proofs.Writing.{took_more, left_after, took_prefix}
use Rattle.outside_io.proofs.real_sink.RealSinkSink.put.Goals as goal

pub loop-rest-preserved : goal.loop-rest-preserved
loop-rest-preserved g c =
    let (done, split, wrote) = c.loop-rest.invariant.written in
    let rest = c.loop-rest.rest.now in
    let count = c.unwrap_or-count.result in
    record {
      steady = c.loop-rest.invariant.steady;
      written = (
        done ++ take count rest,
        left_after _ done rest count split,
        took_more _ _ _ done rest c.write.result count wrote c.write.ensures.bytes c.unwrap_or-count.ensures,
      );
    }

pub returns-then-count-eq0-clause-prefix : goal.returns-then-count-eq0-clause-prefix
returns-then-count-eq0-clause-prefix g c failed =
    let (done, split, wrote) = c.loop-rest.invariant.written in
    let rest = c.loop-rest.rest.now in
    let count = c.unwrap_or-count.result in
    took_prefix _ _ _ _ _ (left_after _ done rest count split)
    (took_more _ _ _ done rest c.write.result count wrote c.write.ensures.bytes c.unwrap_or-count.ensures)
