-- Desks that can start their calls.
use Rattle.std.specs.Prelude.{◌≡◌, ◌≤◌, All, [], None}
use Rattle.atomic_table.specs.Seated.{TableId}
use Rattle.turn_lock.specs.Plays.{DeskView}
use Rattle.bench.specs.declared.rates.Job.{Job}

-- a job whose desk drew nothing, on a number that has a slot
abbrev pub CanStart : TableId → Job → Type 0
CanStart id job = (job.desk.table ≡ id) × (job.desk.view.turn ≡ None) × (job.desk.view.stamps.own ≡ []) × (1 ≤ job.alloc.0) × (job.alloc.0 ≤ id.slots)

-- a desk from which another one may be split
abbrev pub CanSplit : TableId → DeskView → Type 0
CanSplit id d = (d.table ≡ id) × (d.view.turn ≡ None) × All (λ n. n ≤ 1023) d.view.threads.own
