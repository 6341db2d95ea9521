use Rattle.std.proofs.Common.{◌≡◌, length, map}
use denote.Text.{Utf8}
use denote.Shadow.{shadow}
use Rattle.command_words.specs.Schedules.{picks_of}
use Rattle.command_words.proofs.NumberLemmas.{after}
use Rattle.command_words.proofs.numbers.schedule.Given as goal

abbrev pub invariant-loop-first : goal.invariant-loop-first
invariant-loop-first l = record {
  text : shadow (Utf8 l.rest);
  picks : after (map (λ p. p.0) l.picks) (picks_of l.rest) ≡ picks_of l.text;
}

abbrev pub decreases-loop-first : goal.decreases-loop-first
decreases-loop-first l = length l.rest
