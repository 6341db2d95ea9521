-- Functions of one block that returns: where each register is defined once, and before it is used
-- as it is wanted, no rule is broken.
use Rattle.std.proofs.Common.{eqb-true, ◌≡◌, ℕ, zero, suc, ◌+◌, Bool, true, false, List, [], ◌∷◌, ◌++◌, map, Option, Some, None, refl, sym, ap, subst, ◌∙◌, append_assoc, arith}
use Rattle.std.specs.Prelude.{◌&&◌, ◌==◌, Contains, slice_get, is_some, not, count_by, if◌then◌else◌}
use Rattle.std.specs.List.{flat_map, list_all}
use Rattle.std.specs.Str.{bytes_eq}
use Rattle.std.proofs.lemmas.List.{append-nil}
use Rattle.std.proofs.lemmas.List.Sums.{sum_by-cons}
use Rattle.std.proofs.lemmas.Slice.Eq.{bytes_eq-Decides}
use Rattle.ir_ast.specs.declared.types.Ty.{Ty}
use Rattle.ir_ast.specs.declared.hosts.HostTable.{HostTable}
use Rattle.ir_ast.specs.declared.hosts.HostEntry.{HostEntry}
use Rattle.ir_ast.specs.declared.program.Named.{Named}
use Rattle.ir_ast.specs.declared.program.TypedVal.{TypedVal}
use Rattle.ir_ast.specs.declared.program.Op.{Op}
use Rattle.ir_ast.specs.declared.program.Op.TheVariants as op
use Rattle.ir_ast.specs.declared.program.Jump.{Jump}
use Rattle.ir_ast.specs.declared.program.Jump.TheVariants.{Ret}
use Rattle.ir_ast.specs.declared.program.Block.{Block}
use Rattle.ir_ast.specs.declared.program.Function.{Function}
use Rattle.ir_ast.specs.declared.program.Program.{Program}
use Rattle.ir_rules.specs.declared.rule.Rule.{Rule}
use Rattle.ir_rules.specs.declared.rule.Rule.TheVariants.{TypeClash, BadCall, HandleUse}
use Rattle.ir_rules.specs.declared.rule.Wanted.{Wanted}
use Rattle.ir_rules.specs.declared.rule.Wanted.TheVariants.{AValue, AHandle}
use Rattle.ir_rules.specs.Walk.{same_ty}
use Rattle.ir_rules.specs.Checks.{same_types, same_result}
use Rattle.ir_rules.proofs.Uses.{ty_decides}
use Rattle.ir_rules.proofs.Agree.{types_decide, result_decides}
use Rattle.ir_rules.specs.Occurrences.{Holds, Use, Event, jump_goals, param_event, block_events, function_events}
use Rattle.ir_rules.specs.Occurrences.Holds.{value, handle}
use Rattle.ir_rules.specs.Occurrences.Event.{defines, uses}
use Rattle.ir_rules.specs.Paths.{IsUnassigned, Avoids}
use Rattle.ir_rules.specs.Rules.{held, used, defined, function_named, function_ops, param_types, arg_types, UseBreaks, OpBreaks, NameBreaks, SpawnFits, JoinBreaks, RetBreaks, ret_type, SecondOf, HasMain, Broken, IsAccepted}
use Rattle.ir_rules.specs.Rules.Broken.{of_use, of_op, twice_register, twice_label, twice_function, of_ret, of_path, of_goal, of_first, no_main}

both : (a b : Bool) → (a && b) ≡ true → (a ≡ true) × (b ≡ true)
both true b h = (refl, h)
both false b h = absurd cc

-- ---- registers

abbrev pub fits_wanted : Holds → Wanted → Bool
fits_wanted (value t) (AValue u) = same_ty t u
fits_wanted (handle f) AHandle = true
fits_wanted _ _ = false

abbrev pub use_fits : Option Holds → Wanted → Bool
use_fits None w = false
use_fits (Some h) w = fits_wanted h w

-- after the definitions that were seen, each register is defined once, and before it is used as it is wanted
abbrev pub is_straight : List Event → List Event → Bool
is_straight seen [] = true
is_straight seen (defines d h ∷ es) = not (is_some (held seen d.name)) && is_straight (seen ++ defines d h ∷ []) es
is_straight seen (uses u ∷ es) = use_fits (held seen u.reg.name) u.wanted && is_straight seen es

held_skip : (a b : List Event) (u : Use) (r : List ℕ) → held (a ++ uses u ∷ b) r ≡ held (a ++ b) r
held_skip [] b u r = refl
held_skip (defines d h ∷ a) b u r = ap (λ (x : Option Holds). if bytes_eq r d.name then Some h else x) (held_skip a b u r)
held_skip (uses v ∷ a) b u r = held_skip a b u r

held_front : (a b : List Event) (r : List ℕ) (h : Holds) → held a r ≡ Some h → held (a ++ b) r ≡ Some h
held_front [] b r h is = absurd cc
held_front (defines d g ∷ a) b r h is = by_test (bytes_eq r d.name) is (held_front a b r h)
  where
    by_test : (x : Bool) → (if x then Some g else held a r) ≡ Some h → (held a r ≡ Some h → held (a ++ b) r ≡ Some h) → (if x then Some g else held (a ++ b) r) ≡ Some h
    by_test true at more = at
    by_test false at more = more at
held_front (uses v ∷ a) b r h is = held_front a b r h is

pub record IsFitting (seen : List Event) (u : Use) : Type 0 where
  pub holds : Holds
  pub is_held : held seen u.reg.name ≡ Some holds
  pub fits : fits_wanted holds u.wanted ≡ true

fitting_now : (o : Option Holds) (seen : List Event) (u : Use) → held seen u.reg.name ≡ o → use_fits o u.wanted ≡ true → IsFitting seen u
fitting_now None seen u is h = absurd cc
fitting_now (Some g) seen u is h = record { holds = g; is_held = is; fits = h }

fitting_at : (seen other : List Event) (u : Use) → held seen u.reg.name ≡ held other u.reg.name → IsFitting seen u → IsFitting other u
fitting_at seen other u same f = record { holds = f.holds; is_held = sym same ∙ f.is_held; fits = f.fits }

at_use : (seen before after : List Event) (u : Use) → is_straight seen (before ++ uses u ∷ after) ≡ true → IsFitting (seen ++ before) u
at_use seen [] after u h =
    let parts = both (use_fits (held seen u.reg.name) u.wanted) (is_straight seen after) h in
    fitting_at seen (seen ++ []) u (ap (λ (es : List Event). held es u.reg.name) (sym (append-nil seen))) (fitting_now (held seen u.reg.name) seen u refl parts.0)
at_use seen (defines d g ∷ before) after u h =
    let parts = both (not (is_some (held seen d.name))) (is_straight (seen ++ defines d g ∷ []) (before ++ uses u ∷ after)) h in
    fitting_at ((seen ++ defines d g ∷ []) ++ before) (seen ++ defines d g ∷ before) u (ap (λ (es : List Event). held es u.reg.name) (append_assoc seen (defines d g ∷ []) before))
    (at_use (seen ++ defines d g ∷ []) before after u parts.1)
at_use seen (uses v ∷ before) after u h =
    let parts = both (use_fits (held seen v.reg.name) v.wanted) (is_straight seen (before ++ uses u ∷ after)) h in
    fitting_at (seen ++ before) (seen ++ uses v ∷ before) u (sym (held_skip seen before v u.reg.name)) (at_use seen before after u parts.1)

not_held : (o : Option Holds) → not (is_some o) ≡ true → o ≡ None
not_held None h = refl
not_held (Some g) h = absurd cc

at_definition : (seen before after : List Event) (d : Named) (g : Holds) → is_straight seen (before ++ defines d g ∷ after) ≡ true → held (seen ++ before) d.name ≡ None
at_definition seen [] after d g h =
    let parts = both (not (is_some (held seen d.name))) (is_straight (seen ++ defines d g ∷ []) after) h in
    ap (λ (es : List Event). held es d.name) (append-nil seen) ∙ not_held (held seen d.name) parts.0
at_definition seen (defines e k ∷ before) after d g h =
    let parts = both (not (is_some (held seen e.name))) (is_straight (seen ++ defines e k ∷ []) (before ++ defines d g ∷ after)) h in
    ap (λ (es : List Event). held es d.name) (sym (append_assoc seen (defines e k ∷ []) before)) ∙ at_definition (seen ++ defines e k ∷ []) before after d g parts.1
at_definition seen (uses v ∷ before) after d g h =
    let parts = both (use_fits (held seen v.reg.name) v.wanted) (is_straight seen (before ++ defines d g ∷ after)) h in
    held_skip seen before v d.name ∙ at_definition seen before after d g parts.1

-- ---- uses that break no rule

pub record UseStands (es : List Event) (u : Use) : Type 0 where
  pub before : List Event
  pub after : List Event
  pub is : es ≡ before ++ uses u ∷ after

use_stands : (es : List Event) (u : Use) → Contains (used es) u → UseStands es u
use_stands [] u (k, lt, is) = absurd (omega (arith, lt))
use_stands (defines d h ∷ es) u c =
    let s = use_stands es u c in
    record { before = defines d h ∷ s.before; after = s.after; is = ap (λ (xs : List Event). defines d h ∷ xs) s.is }
use_stands (uses v ∷ es) u (zero, lt, is) = record { before = []; after = es; is = ap (λ (x : Use). uses x ∷ es) is }
use_stands (uses v ∷ es) u (suc k, lt, is) =
    let s = use_stands es u (k, omega (arith, lt), is) in
    record { before = uses v ∷ s.before; after = s.after; is = ap (λ (xs : List Event). uses v ∷ xs) s.is }

no_break : (rule : Rule) (h : Holds) (w : Wanted) → fits_wanted h w ≡ true → UseBreaks rule (Some h) w → ⊥
no_break TypeClash (value t) (AValue u) f b = b ((ty_decides t u).0 f)
no_break HandleUse (handle g) (AValue u) f b = absurd cc
no_break HandleUse (value t) AHandle f b = absurd cc
no_break _ _ _ f b = b

use_breaks_none : (es : List Event) → is_straight [] es ≡ true → (u : Use) (rule : Rule) → Contains (used es) u → UseBreaks rule (held es u.reg.name) u.wanted → ⊥
use_breaks_none es straight u rule c breaks =
    let s = use_stands es u c in
    let f = at_use [] s.before s.after u (ap (is_straight []) (sym s.is) ∙ straight) in
    let all : held es u.reg.name ≡ Some f.holds = ap (λ (xs : List Event). held xs u.reg.name) s.is ∙ held_front s.before (uses u ∷ s.after) u.reg.name f.holds f.is_held in
    no_break rule f.holds u.wanted f.fits (subst (λ (o : Option Holds). UseBreaks rule o u.wanted) all breaks)

-- ---- definitions

pub record DefinitionStands (es : List Event) (before : List Named) (d : Named) : Type 0 where
  pub first : List Event
  pub holds : Holds
  pub after : List Event
  pub is : es ≡ first ++ defines d holds ∷ after
  pub same : defined first ≡ before

definition_stands : (es : List Event) (before after : List Named) (d : Named) → defined es ≡ before ++ d ∷ after → DefinitionStands es before d
definition_stands [] [] after d is = absurd cc
definition_stands [] (b ∷ before) after d is = absurd cc
definition_stands (defines e h ∷ es) [] after d is = record { first = []; holds = h; after = es; is = ap (λ (x : Named). defines x h ∷ es) (heads is); same = refl }
  where
    heads : e ∷ defined es ≡ d ∷ after → e ≡ d
    heads eq = cc
definition_stands (defines e h ∷ es) (b ∷ before) after d is =
    let s = definition_stands es before after d (tails is) in
    record { first = defines e h ∷ s.first; holds = s.holds; after = s.after; is = ap (λ (xs : List Event). defines e h ∷ xs) s.is; same = same_list (heads is) s.same }
  where
    tails : e ∷ defined es ≡ b ∷ (before ++ d ∷ after) → defined es ≡ before ++ d ∷ after
    tails eq = cc

    heads : e ∷ defined es ≡ b ∷ (before ++ d ∷ after) → e ≡ b
    heads eq = cc

    same_list : {xs : List Named} → e ≡ b → xs ≡ before → e ∷ xs ≡ b ∷ before
    same_list p q = cc
definition_stands (uses v ∷ es) before after d is =
    let s = definition_stands es before after d is in
    record { first = uses v ∷ s.first; holds = s.holds; after = s.after; is = ap (λ (xs : List Event). uses v ∷ xs) s.is; same = s.same }

none_counted : (es : List Event) (r : List ℕ) → held es r ≡ None → count_by (λ x. bytes_eq r x.name) (defined es) ≡ 0
none_counted [] r h = refl
none_counted (defines d g ∷ es) r h = by_test (bytes_eq r d.name) refl h (none_counted es r)
  where
    by_test : (x : Bool) → bytes_eq r d.name ≡ x → (if x then Some g else held es r) ≡ None → (held es r ≡ None → count_by (λ y. bytes_eq r y.name) (defined es) ≡ 0)
        → count_by (λ y. bytes_eq r y.name) (d ∷ defined es) ≡ 0
    by_test true is at more = absurd cc
    by_test false is at more =
        sum_by-cons (λ (y : Named). if bytes_eq r y.name then 1 else 0) d (defined es)
        ∙ ap (λ (x : Bool). (if x then 1 else 0) + count_by (λ y. bytes_eq r y.name) (defined es)) is ∙ nothing (count_by (λ y. bytes_eq r y.name) (defined es)) ∙ more at
      where
        nothing : (n : ℕ) → (if false then 1 else 0) + n ≡ n
        nothing n = omega arith
none_counted (uses v ∷ es) r h = none_counted es r h

second_none : (es : List Event) → is_straight [] es ≡ true → (at : ℕ) → SecondOf (defined es) at → ⊥
second_none es straight at (d, before, after, is, one, place) =
    let s = definition_stands es before after d is in
    let free : held s.first d.name ≡ None = at_definition [] s.first s.after d s.holds (ap (is_straight []) (sym s.is) ∙ straight) in
    let zero : count_by (λ (x : Named). bytes_eq d.name x.name) before ≡ 0 = ap (count_by (λ (x : Named). bytes_eq d.name x.name)) (sym s.same) ∙ none_counted s.first d.name free in
    absurd (omega arith)

-- ---- names by a test

abbrev pub are_apart : List Named → List Named → Bool
are_apart seen [] = true
are_apart seen (d ∷ ds) = (count_by (λ x. bytes_eq d.name x.name) seen == 0) && are_apart (seen ++ d ∷ []) ds

apart_at : (seen before after : List Named) (d : Named) → are_apart seen (before ++ d ∷ after) ≡ true → count_by (λ x. bytes_eq d.name x.name) (seen ++ before) ≡ 0
apart_at seen [] after d h =
    let parts = both (count_by (λ (x : Named). bytes_eq d.name x.name) seen == 0) (are_apart (seen ++ d ∷ []) after) h in
    ap (count_by (λ (x : Named). bytes_eq d.name x.name)) (append-nil seen) ∙ eqb-true (count_by (λ (x : Named). bytes_eq d.name x.name) seen) 0 parts.0
apart_at seen (b ∷ before) after d h =
    let parts = both (count_by (λ (x : Named). bytes_eq b.name x.name) seen == 0) (are_apart (seen ++ b ∷ []) (before ++ d ∷ after)) h in
    ap (count_by (λ (x : Named). bytes_eq d.name x.name)) (sym (append_assoc seen (b ∷ []) before)) ∙ apart_at (seen ++ b ∷ []) before after d parts.1

apart_second : (ds : List Named) → are_apart [] ds ≡ true → (at : ℕ) → SecondOf ds at → ⊥
apart_second ds h at (d, before, after, is, one, place) =
    let none : count_by (λ (x : Named). bytes_eq d.name x.name) before ≡ 0 = apart_at [] before after d (ap (are_apart []) (sym is) ∙ h) in
    absurd (omega arith)

-- ---- paths

avoids_held : (es : List Event) (r : List ℕ) → Avoids r es → held es r ≡ None
avoids_held [] r h = refl
avoids_held (defines d g ∷ es) r h = by_test (bytes_eq r d.name) refl (avoids_held es r h.1)
  where
    by_test : (x : Bool) → bytes_eq r d.name ≡ x → held es r ≡ None → (if x then Some g else held es r) ≡ None
    by_test true is more = absurd (h.0 (sym ((bytes_eq-Decides r d.name).0 is)))
    by_test false is more = more
avoids_held (uses v ∷ es) r h = avoids_held es r h

avoids_both : (a b : List Event) (r : List ℕ) → Avoids r a → Avoids r b → Avoids r (a ++ b)
avoids_both [] b r g h = h
avoids_both (defines d k ∷ a) b r g h = (g.0, avoids_both a b r g.1 h)
avoids_both (uses v ∷ a) b r g h = avoids_both a b r g h

one_block : (blocks : List Block) (b block : Block) (n : ℕ) → blocks ≡ b ∷ [] → slice_get blocks n ≡ Some block → block ≡ b
one_block blocks b block n one at = by_place n (ap (λ (bs : List Block). slice_get bs n) (sym one) ∙ at)
  where
    by_place : (n : ℕ) → slice_get (b ∷ []) n ≡ Some block → block ≡ b
    by_place zero is = cc
    by_place (suc n) is = absurd cc

events_of_one : (f : Function) (b : Block) → f.blocks ≡ b ∷ [] → function_events f ≡ map param_event f.params ++ block_events b
events_of_one f b one =
    ap (λ (bs : List Block). map param_event f.params ++ flat_map block_events bs) one ∙ ap (λ (es : List Event). map param_event f.params ++ es) (append-nil (block_events b))

assigned : (f : Function) (b : Block) → f.blocks ≡ b ∷ [] → is_straight [] (function_events f) ≡ true → (u : Use) → IsUnassigned f u → ⊥
assigned f b one straight u un =
    let is_b : un.block ≡ b = one_block f.blocks b un.block un.last one un.is_block in
    let stands : block_events b ≡ un.before ++ uses u ∷ un.after = ap block_events (sym is_b) ∙ un.stands in
    let whole : function_events f ≡ (map param_event f.params ++ un.before) ++ uses u ∷ un.after =
    events_of_one f b one ∙ ap (λ (es : List Event). map param_event f.params ++ es) stands ∙ sym (append_assoc (map param_event f.params) un.before (uses u ∷ un.after)) in
    let f' = at_use [] (map param_event f.params ++ un.before) un.after u (ap (is_straight []) (sym whole) ∙ straight) in
    let none : held (map param_event f.params ++ un.before) u.reg.name ≡ None = avoids_held (map param_event f.params ++ un.before) u.reg.name (avoids_both (map param_event f.params) un.before u.reg.name un.at_entry un.avoids) in
    absurd (contra f'.holds (sym none ∙ f'.is_held))
  where
    contra : (h : Holds) → None ≡ Some h → ⊥
    contra h e = absurd cc

-- ---- spawns and joins

abbrev pub found_fits : List TypedVal → Option Function → Bool
found_fits args None = false
found_fits args (Some g) = same_types (param_types g.params) (arg_types args)

abbrev pub result_fits : Option Ty → Option Function → Bool
result_fits result None = false
result_fits result (Some g) = same_result g.result.ty result

abbrev pub join_fits : List Function → Option Holds → Option Ty → Bool
join_fits fs (Some (handle f)) result = result_fits result (function_named fs f)
join_fits fs _ result = false

abbrev pub op_fits : List Function → List Event → Op → Bool
op_fits fs es (op.Call result f args) = false
op_fits fs es (op.Host result h args) = false
op_fits fs es (op.Cast o from to v at) = false
op_fits fs es (op.Spawn f args) = found_fits args (function_named fs f.name)
op_fits fs es (op.Join result at h) = join_fits fs (held es h.name) result
op_fits fs es _ = true

spawn_fits : (args : List TypedVal) (o : Option Function) (name : Named) (rule : Rule) (at : ℕ) → found_fits args o ≡ true → NameBreaks (SpawnFits args) o name rule at → ⊥
spawn_fits args None name rule at h b = absurd cc
spawn_fits args (Some g) name BadCall at h b = b.1 ((types_decide (param_types g.params) (arg_types args)).0 h)
spawn_fits args (Some g) name _ at h b = b

join_breaks : (fs : List Function) (o : Option Holds) (result : Option Ty) (ty_at : ℕ) (rule : Rule) (at : ℕ) → join_fits fs o result ≡ true → JoinBreaks o fs result ty_at rule at → ⊥
join_breaks fs (Some (handle f)) result ty_at BadCall at h b = b.3 ((result_decides b.0.result.ty result).0 (ap (result_fits result) (sym b.1) ∙ h))
join_breaks fs (Some (handle f)) result ty_at _ at h b = b
join_breaks fs (Some (value t)) result ty_at rule at h b = absurd cc
join_breaks fs None result ty_at rule at h b = absurd cc

op_breaks_none : (fs : List Function) (hosts : List HostEntry) (es : List Event) (o : Op) (rule : Rule) (at : ℕ) → op_fits fs es o ≡ true → OpBreaks fs hosts es o rule at → ⊥
op_breaks_none fs hosts es (op.Call result f args) rule at h b = absurd cc
op_breaks_none fs hosts es (op.Host result f args) rule at h b = absurd cc
op_breaks_none fs hosts es (op.Cast o from to v to_at) rule at h b = absurd cc
op_breaks_none fs hosts es (op.Spawn f args) rule at h b = spawn_fits args (function_named fs f.name) f rule at h b
op_breaks_none fs hosts es (op.Join result ty_at f) rule at h b = join_breaks fs (held es f.name) result ty_at rule at h b
op_breaks_none fs hosts es _ rule at h b = b

all_at : {A : Type 0} (test : A → Bool) (xs : List A) (x : A) → list_all test xs ≡ true → Contains xs x → test x ≡ true
all_at test [] x h (k, lt, is) = absurd (omega (arith, lt))
all_at test (y ∷ ys) x h (zero, lt, is) = ap test (sym is) ∙ (both (test y) (list_all test ys) h).0
all_at test (y ∷ ys) x h (suc k, lt, is) = all_at test ys x (both (test y) (list_all test ys) h).1 (k, omega (arith, lt), is)

-- ---- the whole program

pub record IsStraight (fs : List Function) (f : Function) : Type 0 where
  pub block : Block
  pub one : f.blocks ≡ block ∷ []
  pub no_params : block.params ≡ []
  pub val : Option TypedVal
  pub ty_at : ℕ
  pub returns : block.term.jump ≡ Ret val ty_at
  pub result : ret_type val ≡ f.result.ty
  pub straight : is_straight [] (function_events f) ≡ true
  pub fits : list_all (op_fits fs (function_events f)) (function_ops f) ≡ true

in_one : {A : Type 0} (xs : List A) (x y : A) → xs ≡ y ∷ [] → Contains xs x → x ≡ y
in_one xs x y one c = by_place (subst (λ (zs : List _). Contains zs x) one c)
  where
    by_place : Contains (y ∷ []) x → x ≡ y
    by_place (zero, lt, is) = sym is
    by_place (suc k, lt, is) = absurd (omega (arith, lt))

none_in : {A : Type 0} (x : A) → Contains [] x → ⊥
none_in x (k, lt, is) = omega (arith, lt)

pub straight_accepted : (p : Program) (hosts : HostTable) → ((f : Function) → Contains p.functions f → IsStraight p.functions f)
    → are_apart [] (map (λ f. f.name) p.functions) ≡ true → HasMain p.functions → IsAccepted p hosts
straight_accepted p hosts each names main = breaks
  where
    breaks : (rule : Rule) (at : ℕ) → Broken p hosts rule at → ⊥
    breaks _ _ (of_use f u rule c cu b) = use_breaks_none (function_events f) (each f c).straight u rule cu b
    breaks _ _ (of_op f o rule at c co b) =
        op_breaks_none p.functions hosts.entries (function_events f) o rule at (all_at (op_fits p.functions (function_events f)) (function_ops f) o (each f c).fits co) b
    breaks _ _ (twice_register f at c s) = second_none (function_events f) (each f c).straight at s
    breaks _ _ (twice_label f at c s) =
        apart_second (map (λ (b : Block). b.label) f.blocks) (ap (λ (bs : List Block). are_apart [] (map (λ (b : Block). b.label) bs)) (each f c).one) at s
    breaks _ _ (twice_function at s) = apart_second (map (λ (f : Function). f.name) p.functions) names at s
    breaks _ _ (of_ret f b at c cb r) =
        let is_b : b ≡ (each f c).block = in_one f.blocks b (each f c).block (each f c).one cb in
        let jump : b.term.jump ≡ Ret (each f c).val (each f c).ty_at = ap (λ (x : Block). x.term.jump) is_b ∙ (each f c).returns in
        (subst (λ (j : Jump). RetBreaks j f.result.ty at) jump r).1 (each f c).result
    breaks _ _ (of_path f u h c is un) = assigned f (each f c).block (each f c).one (each f c).straight u un
    breaks _ _ (of_goal f b g c cb cg no_fit) =
        let is_b : b ≡ (each f c).block = in_one f.blocks b (each f c).block (each f c).one cb in
        let jump : b.term.jump ≡ Ret (each f c).val (each f c).ty_at = ap (λ (x : Block). x.term.jump) is_b ∙ (each f c).returns in
        none_in g (subst (λ (j : Jump). Contains (jump_goals j) g) jump cg)
    breaks _ _ (of_first f b rest c is some) =
        some (ap (λ (x : Block). x.params) (heads (sym is ∙ (each f c).one)) ∙ (each f c).no_params)
      where
        heads : {x y : Block} {xs ys : List Block} → x ∷ xs ≡ y ∷ ys → x ≡ y
        heads eq = cc
    breaks _ _ (no_main never) = never main
