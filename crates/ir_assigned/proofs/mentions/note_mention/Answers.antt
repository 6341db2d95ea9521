use Rattle.std.proofs.Common.{cond, bytes_eq, ◌≡◌, ℕ, List, Option, Some, None, Vec, Global, Bor, sym, ap, ◌∙◌, rules}
use Rattle.std.specs.BTreeMap as tree
use Rattle.std.specs.BTreeMap.{BTreeMap}
use Rattle.std.specs.Cmp.Lexicographic.{slice_cmp}
use Rattle.std.specs.Ordering.{nat_cmp}
use Rattle.std.proofs.lemmas.Map.Text.{btree_map_updates_str}
use Rattle.ir_assigned.specs.declared.mentions.Mention.{Mention}
use Rattle.ir_assigned.proofs.Table.{more_in}
use Rattle.ir_assigned.proofs.mentions.note_mention.Goals as goal

abbrev at_name : BTreeMap (Bor (List ℕ)) (Vec Mention Global) → List ℕ → Option (Vec Mention Global)
at_name m q = tree.get_by (λ k. slice_cmp nat_cmp q k.now) m

pub returns-in_ok-push-in-Some : goal.returns-in_ok-push-in-Some
returns-in_ok-push-in-Some c = more_in (at_name c.args.table.now) (at_name (c.get_mut.follows.lender c.push.new.self)) c.args.register.now (Some c.in-Some.mentions.now) c.push.new.self c.args.mention
    (let found : Some c.in-Some.mentions.now ≡ at_name c.args.table.now c.args.register.now = c.in-Some.ensures.value in sym found)
    c.in_ok-push-in-Some.ensures.items
    (λ q. btree_map_updates_str c.args.register.now c.args.table.now (c.get_mut.follows.lender c.push.new.self) _ ((c.get_mut.follows.holds c.push.new.self).3 (search rules)) q)

pub returns-in_ok-insert-in-None : goal.returns-in_ok-insert-in-None
returns-in_ok-insert-in-None c = more_in (at_name c.args.table.now) (at_name c.insert.new.self) c.args.register.now None c.in_ok-mentions-in-None.mentions c.args.mention
    (let found : None ≡ at_name c.args.table.now c.args.register.now = c.in-None.ensures.value in sym found)
    c.in_ok-mentions-in-None.ensures.items
    (λ q. btree_map_updates_str c.args.register.now c.get_mut.follows.lender-at-none c.insert.new.self _ c.in_ok-insert-in-None.ensures.updates q
    ∙ ap (λ (z : BTreeMap (Bor (List ℕ)) (Vec Mention Global)). cond (bytes_eq c.args.register.now q) (Some c.in_ok-mentions-in-None.mentions) (at_name z q)) c.get_mut.follows.holds-at-none)
