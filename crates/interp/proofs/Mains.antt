-- Main stands at the beginning of its function.
use Rattle.std.proofs.Common.{◌≡◌, ℕ, List, [], ◌∷◌, refl, sym, ◌∙◌, ap, subst}
use Rattle.std.specs.Prelude.{Some, None, codes}
use Rattle.std.specs.declared.option.Option.{Option}
use Rattle.ir_ast.specs.declared.hosts.HostTable.{HostTable}
use Rattle.ir_ast.specs.declared.program.Function.{Function}
use Rattle.ir_ast.specs.declared.program.Param.{Param}
use Rattle.ir_rules.specs.declared.rule.Rule.TheVariants.{NoMain}
use Rattle.ir_rules.specs.Rules.{function_named}
use Rattle.ir_rules.specs.Rules.Broken.{no_main}
use Rattle.source_runs.specs.Invariant.{StartsWell}
use Rattle.source_sem.specs.Source.{Setting, Source}
use Rattle.source_sem.specs.Starting.{main_of, main_start, ArgsFit}
use Rattle.source_sem.proofs.Deciding.{function_found}
use Rattle.turn_lock.specs.Plays.{DeskView}
use Rattle.turn_lock.specs.Rule.{newcomer}
use Rattle.alloc_space.specs.Spaces.{SpaceView}
use Rattle.interp.specs.Running.{IsFirst}
use Rattle.instr_sound.specs.Mains.{IsRunnable, IsMain}

some_same : {A : Type 0} {a b : A} → Some a ≡ Some b → a ≡ b
some_same h = cc

none_some : {A B : Type 0} {a : A} → None ≡ Some a → B
none_some h = cc

some_none : (y : Param) (ys : List Param) → y ∷ ys ≡ [] → ⊥
some_none y ys h = cc

module _ (x : Setting) (hosts : HostTable) (run : IsRunnable x hosts) where
  pub main_begins : StartsWell x (main_of x.program) (main_start x)
  main_begins = by_named (function_named x.program.functions (codes "main")) refl
    where
      by_params : (g : Function) → function_named x.program.functions (codes "main") ≡ Some g → (ps : List Param) → g.params ≡ ps → StartsWell x (main_of x.program) (main_start x)
      by_params g named [] none = record {
        function = g;
        code = function_found x.program.functions (codes "main") g named;
        args = [];
        fits = subst (λ ps. ArgsFit ps []) (sym none) tt;
        is = refl;
      }
      by_params g named (p ∷ ps) some = absurd (run.accepted NoMain x.program.«end» (no_main (λ has. some_none p ps (sym some ∙ ap (λ (z : Function). z.params) (some_same (sym named ∙ has.1)) ∙ has.2))))

      by_named : (o : Option Function) → function_named x.program.functions (codes "main") ≡ o → StartsWell x (main_of x.program) (main_start x)
      by_named (Some g) named = by_params g named g.params refl
      by_named None named = absurd (run.accepted NoMain x.program.«end» (no_main (λ has. none_some (sym named ∙ has.1))))

-- what its native thread begins with
pub main_first : {T : Type 0} (setting : T → Setting) (state : T → Source) (space : SpaceView) (hosts : HostTable) (function : ℕ) (m : T) (d : DeskView) → IsMain setting state hosts function m → d ≡ record { table = space.table; view = newcomer 0 0 [] }
    → IsFirst setting state space hosts (record { 0 = 0 }) function m d
main_first setting state space hosts function m d main is = record {
  runnable = main.runnable;
  begins = subst (λ s. StartsWell (setting m) function s) (sym main.state_is) (subst (λ f. StartsWell (setting m) f (main_start (setting m))) (sym main.function_is) (main_begins (setting m) hosts main.runnable));
  own = ap (λ (x : DeskView). x.table) is;
  stamp = 0;
  told = [];
  new = ap (λ (x : DeskView). x.view) is;
}
