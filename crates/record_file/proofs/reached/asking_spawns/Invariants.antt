use Rattle.std.proofs.Common.{◌≡◌, ◌≤◌, take}
use Rattle.record_file.specs.Reaching.{so_many}
use Rattle.record_file.proofs.reached.asking_spawns.Given as goal

abbrev pub invariant-loop-stands : goal.invariant-loop-stands
invariant-loop-stands l = record { count : l.count ≡ so_many (λ a. a.spawns) (take l.stands-index l.standing); few : l.count ≤ l.stands-index }
