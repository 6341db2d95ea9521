use Rattle.std.proofs.Common.{rules, of_calls, arith, ◌≡◌, ◌≤◌, length, sym}
use Rattle.std.proofs.lemmas.Fn.{filter_same}
use Rattle.range_map.proofs.RunLemmas.{none_between}
use Rattle.range_map.specs.Ranges.{stays}
use Rattle.range_map.specs.Runs.{runs_until}
use Rattle.range_map.proofs.drop_between.Goals as goal

pub returns-then-run-end-clause-kept : goal.returns-then-run-end-clause-kept
returns-then-run-end-clause-kept g c = filter_same _ (λ r. stays c.args.from c.args.end r.start) _ (λ a r f k. search (rules, of_calls)) _ _ c.retain.ensures.filtered

pub returns-else-run-end-clause-kept : goal.returns-else-run-end-clause-kept
returns-else-run-end-clause-kept g c =
    let items = c.args.later.now.items in
    let index : c.runs_up_to.result ≡ runs_until c.args.from items = rw c.deref-2.ensures.value at c.runs_up_to.ensures in
    let found = rw c.deref.ensures.value at c.in-Some.ensures.lookup.3.1 in
    sym (none_between c.args.from c.args.end items c.requires (λ d lt. grind (arith, sym index, found d, c.if-run-end.false)))

pub returns-in-None-clause-kept : goal.returns-in-None-clause-kept
returns-in-None-clause-kept g c =
    let items = c.args.later.now.items in
    let index : c.runs_up_to.result ≡ runs_until c.args.from items = rw c.deref-2.ensures.value at c.runs_up_to.ensures in
    let reached : length items ≤ c.runs_up_to.result = rw c.deref.ensures.value at c.in-None.ensures.lookup.3 in
    let past : length items ≤ runs_until c.args.from items = rw index at reached in
    sym (none_between c.args.from c.args.end items c.requires (λ d lt. absurd (omega (arith, past, lt))))
