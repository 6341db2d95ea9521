use Rattle.std.proofs.Common.{◌≡◌, ◌≤◌, take}
use Rattle.record_file.specs.Reaching.{so_many}
use Rattle.record_file.proofs.reached.asking_makes.Given as goal

abbrev pub invariant-loop-stands : goal.invariant-loop-stands
invariant-loop-stands l = record { count : l.count ≡ so_many (λ a. a.makes) (take l.stands-index l.standing); few : l.count ≤ l.stands-index }
