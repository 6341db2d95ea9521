use Rattle.std.proofs.Common.{ℕ, List, Option, Some, ◌∙◌, ap, Bor}
use Rattle.std.specs.BTreeMap as tree
use Rattle.std.specs.BTreeMap.{BTreeMap}
use Rattle.std.specs.Cmp.Lexicographic.{slice_cmp}
use Rattle.std.specs.Ordering.{nat_cmp}
use Rattle.std.proofs.lemmas.Map.Text.{btree_map_updates_str}
use Rattle.ir_verify.specs.declared.twice.Times.{Times}
use Rattle.ir_verify.specs.Counts.{number_of}
use Rattle.ir_verify.proofs.Seconds.{counted_now, times_next}
use Rattle.ir_verify.proofs.twice.count.Goals as goal

abbrev at_name : BTreeMap (Bor (List ℕ)) Times → List ℕ → Option Times
at_name m q = tree.get_by (λ k. slice_cmp nat_cmp q k.now) m

pub returns : goal.returns
returns c =
    let name = c.args.name.now in
    let old = at_name c.args.table.now in
    counted_now old (at_name c.insert.new.self) name c.next_times-times.result
    (ap (λ (t : Times). number_of (Some t)) c.next_times-times.ensures ∙ times_next (old name) c.contains_key-known.result c.contains_key-known.ensures)
    (λ q. btree_map_updates_str name c.args.table.now c.insert.new.self _ c.in_ok-insert.ensures.updates q)
