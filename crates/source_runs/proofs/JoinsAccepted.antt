-- Where no rule is broken, a join's handle is a spawn's and is defined on every path to the join.
use Rattle.std.proofs.Common.{◌≡◌, ℕ, ◌<◌, List, [], ◌∷◌, length, refl, sym, ap, subst, ◌∙◌, arith}
use Rattle.std.specs.Prelude.{slice_get, Some, None, Contains}
use Rattle.ir_ast.specs.declared.hosts.HostTable.{HostTable}
use Rattle.ir_ast.specs.declared.program.Block.{Block}
use Rattle.ir_ast.specs.declared.program.Function.{Function}
use Rattle.ir_ast.specs.declared.program.Inst.{Inst}
use Rattle.ir_ast.specs.declared.program.Named.{Named}
use Rattle.ir_ast.specs.declared.program.Param.{Param}
use Rattle.ir_ast.specs.declared.program.Program.{Program}
use Rattle.ir_ast.specs.Shapes.{IsFunction, IsBlock, IsInst, Defines, FitsDestination}
use Rattle.ir_ast.specs.Tokens.{Each}
use Rattle.ir_rules.specs.declared.rule.Rule.TheVariants.{Unassigned, BadTarget}
use Rattle.ir_rules.specs.declared.rule.Wanted.TheVariants.{AHandle}
use Rattle.ir_rules.specs.Occurrences.{Use, function_events}
use Rattle.ir_rules.specs.Occurrences.Holds.{handle}
use Rattle.ir_rules.specs.Occurrences.Event.{uses}
use Rattle.ir_rules.specs.Paths.{IsUnassigned}
use Rattle.ir_rules.specs.Rules.{held, IsAccepted}
use Rattle.ir_rules.specs.Rules.Broken.{of_path, of_first}
use Rattle.source_sem.specs.Joining.{IsHeld, IsWanted, StandsAt, FunctionJoins}
use Rattle.source_sem.proofs.Events.{each_in, block_held}
use Rattle.source_sem.proofs.Accepting.{events_held}
use Rattle.source_sem.proofs.Every.{contains_at, each_at}
use Rattle.source_runs.specs.AcceptedJoins.{AcceptedProgramsJoin}

same_block : {a b : Block} → Some a ≡ Some b → a ≡ b
same_block h = cc

module _ (p : Program) (hosts : HostTable) (ok : IsAccepted p hosts) (g : Function) (in_p : Contains p.functions g) (fn : IsFunction p.version g) where
  -- the use stands in a block, so that its register holds a handle
  assigned : (u : Use) → u.wanted ≡ AHandle → IsUnassigned g u → ⊥
  assigned u wanted x =
      let mine : IsHeld g (uses u) = each_in (IsHeld g) x.before x.after (uses u) (subst (Each (IsHeld g)) x.stands (block_held g x.last x.block (events_held p hosts ok g in_p) x.is_block)) in
      let named : (f : List ℕ) × (held (function_events g) u.reg.name ≡ Some (handle f)) = subst (IsWanted (held (function_events g) u.reg.name)) wanted mine in
      ok Unassigned u.reg.at (of_path g u (handle named.0) in_p named.1 x)

  -- an instruction with a destination gives a value
  dest_gives : (b : ℕ) (block : Block) (done rest : List Inst) (i : Inst) (n : Named) → StandsAt g b block done i rest → i.dest ≡ Some n → Defines i.op
  dest_gives b block done rest i n at is =
      let shaped : IsBlock p.version block = each_at (IsBlock p.version) g.blocks b block fn.blocks at.is_block in
      let inst : IsInst p.version i = each_in (IsInst p.version) done rest i (subst (Each (IsInst p.version)) at.insts shaped.insts) in
      subst (λ d. FitsDestination d i.op) is inst.0

  first_params : (bs : List Block) → g.blocks ≡ bs → (block : Block) → slice_get bs 0 ≡ Some block → block.params ≡ []
  first_params [] is block at = absurd (let none : None ≡ Some block = at in cc)
  first_params (b ∷ rest) is block at = by_params b.params refl
    where
      same : b ≡ block
      same = same_block at

      by_params : (ps : List Param) → b.params ≡ ps → block.params ≡ []
      by_params [] none = ap (λ (z : Block). z.params) (sym same) ∙ none
      by_params (q ∷ qs) some = absurd (ok BadTarget b.label.at (of_first g b rest in_p is (λ none. some_none q qs (sym some ∙ none))))
        where
          some_none : (y : Param) (ys : List Param) → y ∷ ys ≡ [] → ⊥
          some_none y ys h = cc

  some_block : (bs : List Block) → 0 < length bs → (b : Block) × (slice_get bs 0 ≡ Some b)
  some_block [] less = absurd (omega (arith, less))
  some_block (b ∷ bs) less = (b, refl)

  function_joins : FunctionJoins g
  function_joins =
      let begin = some_block g.blocks fn.some_block in
      record {
        begins = begin.0;
        begins_is = begin.1;
        joins = record { events = events_held p hosts ok g in_p; assigned = assigned; first = λ block at. first_params g.blocks refl block at };
        dests = dest_gives;
      }

pub accepted_programs_join : AcceptedProgramsJoin
accepted_programs_join p hosts program ok k g is =
    function_joins p hosts ok g (contains_at p.functions k g is) (each_at (IsFunction p.version) p.functions k g program.shaped.functions is)
