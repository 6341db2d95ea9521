-- The faults of the parts are the broken rules of the program.
use Rattle.std.proofs.Common.{◌≡◌, ℕ, ◌⊎◌, inl, inr, List, map, Option, refl, sym, subst}
use Rattle.std.specs.Prelude.{Contains}
use Rattle.ir_ast.specs.declared.program.Op.{Op}
use Rattle.ir_ast.specs.declared.program.Inst.{Inst}
use Rattle.ir_ast.specs.declared.program.Block.{Block}
use Rattle.ir_ast.specs.declared.program.Function.{Function}
use Rattle.ir_ast.specs.declared.program.Program.{Program}
use Rattle.ir_ast.specs.declared.hosts.HostTable.{HostTable}
use Rattle.ir_rules.specs.declared.rule.Rule.{Rule}
use Rattle.ir_rules.specs.declared.rule.Rule.TheVariants.{Unassigned, BadTarget, NoMain}
use Rattle.ir_rules.specs.declared.rule.Fault.{Fault}
use Rattle.ir_rules.specs.Least.{fault, lesser, IsLeast}
use Rattle.ir_rules.specs.Occurrences.{function_events}
use Rattle.ir_rules.specs.Rules.{OpBreaks, function_ops, Broken, BrokenFault, UnassignedFault}
use Rattle.ir_rules.specs.Rules.Broken.{of_use, of_op, twice_register, twice_label, twice_function, of_ret, of_path, of_goal, of_first, no_main}
use Rattle.ir_rules.proofs.Least.{least-or, least-same}
use Rattle.ir_verify.specs.Faults.{BlockFault, FunctionFault, ProgramFault}
use Rattle.ir_rules.proofs.Any.{in-map, map-in, in-flat, flat-in}

broken_at : (p : Program) (hosts : HostTable) (x y : Fault) → x ≡ y → BrokenFault p hosts y → BrokenFault p hosts x
broken_at p hosts x y e h = subst (BrokenFault p hosts) (sym e) h

abbrev block_ops : Block → List Op
block_ops b = map (λ i. i.op) b.insts

block_whole : (p : Program) (hosts : HostTable) (f : Function) (b : Block) (x : Fault) → Contains p.functions f → Contains f.blocks b → BlockFault p.functions hosts.entries f b x → BrokenFault p hosts x
block_whole p hosts f b x in_p in_f (inl (inl h)) =
    let i = h in
    of_op f i.0.op x.rule x.at in_p (flat-in block_ops f.blocks b i.0.op in_f (map-in (λ (z : Inst). z.op) b.insts i.0 i.1)) i.2
block_whole p hosts f b x in_p in_f (inl (inr h)) = subst (λ (r : Rule). Broken p hosts r x.at) (sym h.0) (of_ret f b x.at in_p in_f h.1)
block_whole p hosts f b x in_p in_f (inr h) =
    let g = h in
    broken_at p hosts x (fault BadTarget g.0.label.at) g.2.1 (of_goal f b g.0 in_p in_f g.1 g.2.0)

function_whole : (p : Program) (hosts : HostTable) (f : Function) (x : Fault) → Contains p.functions f → FunctionFault p.functions hosts.entries f x → BrokenFault p hosts x
function_whole p hosts f x in_p (inl (inl (inl h))) = subst (Broken p hosts x.rule) (sym h.3) (of_use f h.0 x.rule in_p h.1 h.2)
function_whole p hosts f x in_p (inl (inl (inr h))) = subst (λ (r : Rule). Broken p hosts r x.at) (sym h.0) (twice_register f x.at in_p h.1)
function_whole p hosts f x in_p (inl (inr (inl h))) = subst (λ (r : Rule). Broken p hosts r x.at) (sym h.0) (twice_label f x.at in_p h.1)
function_whole p hosts f x in_p (inl (inr (inr h))) = broken_at p hosts x (fault BadTarget h.0.label.at) h.4 (of_first f h.0 h.1 in_p h.2 h.3)
function_whole p hosts f x in_p (inr h) = let b = h in block_whole p hosts f b.0 x in_p b.1 b.2

abbrev pub Parts : Program → HostTable → Fault → Type 0
Parts p hosts x = ProgramFault p hosts.entries x ⊎ UnassignedFault p x

parts_whole : (p : Program) (hosts : HostTable) (x : Fault) → Parts p hosts x → BrokenFault p hosts x
parts_whole p hosts x (inl (inl (inl h))) = subst (λ (r : Rule). Broken p hosts r x.at) (sym h.0) (twice_function x.at h.1)
parts_whole p hosts x (inl (inl (inr h))) = broken_at p hosts x (fault NoMain p.end) h.1 (no_main h.0)
parts_whole p hosts x (inl (inr h)) = let f = h in function_whole p hosts f.0 x f.1 f.2
parts_whole p hosts x (inr h) = broken_at p hosts x (fault Unassigned h.1.reg.at) (sym h.6) (of_path h.0 h.1 h.2 h.3 h.4 h.5)

-- ---- and back
of_function : (p : Program) (hosts : HostTable) (f : Function) (x : Fault) → Contains p.functions f → FunctionFault p.functions hosts.entries f x → Parts p hosts x
of_function p hosts f x in_p h = inl (inr (f, in_p, h))

of_block : (p : Program) (hosts : HostTable) (f : Function) (b : Block) (x : Fault) → Contains p.functions f → Contains f.blocks b → BlockFault p.functions hosts.entries f b x → Parts p hosts x
of_block p hosts f b x in_p in_f h = of_function p hosts f x in_p (inr (b, in_f, h))

op_parts : (p : Program) (hosts : HostTable) (f : Function) (op : Op) (x : Fault) → Contains p.functions f → Contains (function_ops f) op → OpBreaks p.functions hosts.entries (function_events f) op x.rule x.at → Parts p hosts x
op_parts p hosts f op x in_p there h =
    let b = in-flat block_ops f.blocks op there in
    let i = in-map (λ (z : Inst). z.op) b.0.insts op b.2 in
    of_block p hosts f b.0 x in_p b.1 (inl (inl (i.0, i.1, subst (λ (z : Op). OpBreaks p.functions hosts.entries (function_events f) z x.rule x.at) (sym i.2) h)))

whole_parts : (p : Program) (hosts : HostTable) (rule : Rule) (at : ℕ) → Broken p hosts rule at → Parts p hosts (fault rule at)
whole_parts p hosts rule at (of_use f u r in_p there h) = of_function p hosts f (fault rule at) in_p (inl (inl (inl (u, there, h, refl))))
whole_parts p hosts rule at (of_op f op r a in_p there h) = op_parts p hosts f op (fault rule at) in_p there h
whole_parts p hosts rule at (twice_register f a in_p h) = of_function p hosts f (fault rule at) in_p (inl (inl (inr (refl, h))))
whole_parts p hosts rule at (twice_label f a in_p h) = of_function p hosts f (fault rule at) in_p (inl (inr (inl (refl, h))))
whole_parts p hosts rule at (twice_function a h) = inl (inl (inl (refl, h)))
whole_parts p hosts rule at (of_ret f b a in_p in_f h) = of_block p hosts f b (fault rule at) in_p in_f (inl (inr (refl, h)))
whole_parts p hosts rule at (of_path f u h in_p holds un) = inr (f, u, h, in_p, holds, un, refl)
whole_parts p hosts rule at (of_goal f b g in_p in_f in_b n) = of_block p hosts f b (fault rule at) in_p in_f (inr (g, in_b, (n, refl)))
whole_parts p hosts rule at (of_first f b rest in_p e n) = of_function p hosts f (fault rule at) in_p (inl (inr (inr (b, rest, e, n, refl))))
whole_parts p hosts rule at (no_main n) = inl (inl (inr (n, refl)))

pub least_whole : (p : Program) (hosts : HostTable) (a b : Option Fault) → IsLeast (ProgramFault p hosts.entries) a → IsLeast (UnassignedFault p) b → IsLeast (BrokenFault p hosts) (lesser a b)
least_whole p hosts a b of_parts of_paths = least-same (Parts p hosts) (BrokenFault p hosts) (lesser a b) (parts_whole p hosts) (λ x h. whole_parts p hosts x.rule x.at h)
    (least-or (ProgramFault p hosts.entries) (UnassignedFault p) a b of_parts of_paths)
