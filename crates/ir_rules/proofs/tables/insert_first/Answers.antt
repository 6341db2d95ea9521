use Rattle.std.proofs.Common.{ℕ, List, Option, sym, ◌∙◌, Bor}
use Rattle.std.specs.BTreeMap as tree
use Rattle.std.specs.BTreeMap.{BTreeMap}
use Rattle.std.specs.Cmp.Lexicographic.{slice_cmp}
use Rattle.std.specs.Ordering.{nat_cmp}
use Rattle.std.proofs.lemmas.Map.Text.{btree_map_updates_str}
use Rattle.ir_rules.proofs.Places.{new}
use Rattle.ir_rules.proofs.tables.insert_first.Goals as goal

abbrev at_name : {V : Type 0} → BTreeMap (Bor (List ℕ)) V → List ℕ → Option V
at_name m q = tree.get_by (λ k. slice_cmp nat_cmp q k.now) m

pub returns-in_ok-insert : goal.returns-in_ok-insert
returns-in_ok-insert g c = new (at_name c.args.table.now) (at_name c.insert.new.self) c.args.name.now c.args.value (sym c.contains_key.ensures ∙ c.if-not-contains_key.true)
    (λ q. btree_map_updates_str c.args.name.now c.args.table.now c.insert.new.self _ c.in_ok-insert.ensures.updates q)
