use Rattle.std.proofs.Common.{ℕ, List, ◌++◌, ◌∙◌, ap, codes}
use Rattle.notes.specs.Meaning.{listing_meant}
use Rattle.notes.specs.Races.{race_line, race_help, access_note}
use Rattle.notes.specs.Sources.{heading, help_line}
use Rattle.notes.proofs.Rows.{grown, grown_by}
use Rattle.notes.proofs.races.push_race.Goals as goal

pub returns : goal.returns
returns c =
    let l = listing_meant c.args.listing.now in
    let race = c.args.race.now in
    let t0 : List ℕ = c.args.notes.now.items in
    let t1 : List ℕ = c.push_heading.new.notes.items in
    let t2 : List ℕ = c.push_access.new.notes.items in
    let t3 : List ℕ = c.push_access-2.new.notes.items in
    let t : List ℕ = c.push_help.new.notes.items in
    let line : List ℕ = heading l.source (race_line race) in
    let one : List ℕ = access_note l (codes "one access") race.earlier in
    let other : List ℕ = access_note l (codes "the other access") race.later in
    let help : List ℕ = help_line l.source race_help in
    grown t0 t1 t line (one ++ (other ++ help))
    (grown_by t0 t1 (heading l.source c.as_bytes.result.now) line c.in_ok-push_heading.ensures
    (ap (heading l.source) (c.as_bytes.ensures.value ∙ c.in_ok-race_line.ensures)))
    (grown t1 t2 t one (other ++ help) c.in_ok-push_access.ensures (grown t2 t3 t other help c.in_ok-push_access-2.ensures c.in_ok-push_help.ensures))
