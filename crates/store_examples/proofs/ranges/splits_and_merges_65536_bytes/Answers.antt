use Rattle.std.proofs.Common.{arith, ap, length, ℕ}
use Rattle.std.proofs.lemmas.List.{length-replicate}
use Rattle.store_examples.proofs.ranges.splits_and_merges_65536_bytes.Goals as goal

pub run_end-end-requires : goal.run_end-end-requires
run_end-end-requires g c =
    omega (
      arith,
      ap length c.merge.ensures.bytes,
      c.set_run.ensures.size,
      c.put.ensures.size,
      ap length c.split_at-2.ensures.bytes,
      ap length c.split_at.ensures.bytes,
      ap length c.in_ok-reserve.ensures.bytes,
      ap length c.in_ok-map.ensures.bytes,
      length-replicate {A = ℕ} 65536 0,
    )
