use Rattle.std.proofs.Common.{◌≡◌, ◌<◌, List, length, map, sym, ap, subst, ◌∙◌, arith}
use Rattle.std.specs.Prelude.{All}
use Rattle.ir_ast.specs.declared.program.Param.{Param}
use Rattle.ir_rules.specs.Least.{IsLeast}
use Rattle.ir_rules.specs.Occurrences.{block_events, param_event}
use Rattle.flow_paths.specs.Paths.{IsInside}
use Rattle.ir_assigned.specs.declared.mentions.Mention.{Mention}
use Rattle.ir_assigned.specs.Graph.{assigns, successors}
use Rattle.ir_assigned.specs.Mentions.{mentions_from, Found}
use Rattle.ir_assigned.specs.Faults.{RegisterFault}
use Rattle.ir_assigned.proofs.Ways.{all_inside, length_map}
use Rattle.ir_assigned.proofs.Table.{all_within}
use Rattle.ir_assigned.proofs.Found.{register_found, param_none, if_ok_map}
use Rattle.ir_assigned.proofs.function.register_fault.Goals as goal

pub returns-then-is_param : goal.returns-then-is_param
returns-then-is_param c = param_none c.args.function.now c.args.register.now (sym (ap (λ (z : List Param). assigns c.args.register.now (map param_event z)) c.as_slice.ensures) ∙ sym c.is_param.ensures ∙ c.if-is_param.true)

pub search-requires : goal.search-requires
search-requires c =
    let blocks = c.args.function.now.blocks in
    let r = c.args.register.now in
    let size : length c.args.graph.now ≡ length blocks = ap length c.requires.graph ∙ length_map (successors blocks) blocks in
    let ms : c.mentions_of.result.now ≡ mentions_from r 0 (map block_events blocks) = c.mentions_of.ensures ∙ c.requires.table r in
    record {
      some = omega (arith, size, c.requires.some);
      inside = subst IsInside (sym c.requires.graph) (all_inside blocks);
      within = subst (λ (z : List Mention). All (λ m. m.block < length c.args.graph.now) z) (sym ms) (all_within (length c.args.graph.now) r (map block_events blocks) (length_map block_events blocks ∙ sym size));
    }

pub returns-else-is_param : goal.returns-else-is_param
returns-else-is_param c =
    let f = c.args.function.now in
    let r = c.args.register.now in
    if_ok_map c.search.result (Found c.args.graph.now c.mentions_of.result.now) (IsLeast (RegisterFault f r))
    (λ o. register_found f r c.args.graph.now c.mentions_of.result.now o c.requires.graph (c.mentions_of.ensures ∙ c.requires.table r) (sym (ap (λ (z : List Param). assigns r (map param_event z)) c.as_slice.ensures) ∙ sym c.is_param.ensures ∙ c.if-is_param.false)) c.search.ensures
