-- The faults that the walk finds are the wrong uses.
use Rattle.std.proofs.Common.{◌≡◌, ℕ, ◌≤◌, inl, inr, Bool, true, false, cond, List, [], ◌∷◌, length, map, take, Option, Some, None, refl, sym, ap, subst, ◌∙◌}
use Rattle.std.specs.Prelude.{Contains, Decides}
use Rattle.std.specs.Option.{option_map}
use Rattle.ir_ast.specs.declared.types.Ty.{Ty}
use Rattle.ir_ast.specs.declared.types.Ty.TheVariants.{Int, Ptr}
use Rattle.ir_ast.specs.declared.types.Width.{Width}
use Rattle.ir_ast.specs.declared.types.Width.TheVariants.{W8, W16, W32, W64}
use Rattle.ir_rules.specs.declared.rule.Rule.{Rule}
use Rattle.ir_rules.specs.declared.rule.Rule.TheVariants.{Unknown, Twice, TypeClash, Unassigned, BadTarget, BadCall, HandleUse, NoMain}
use Rattle.ir_rules.specs.declared.rule.Wanted.{Wanted}
use Rattle.ir_rules.specs.declared.rule.Wanted.TheVariants.{AValue, AHandle}
use Rattle.ir_rules.specs.declared.rule.Fault.{Fault}
use Rattle.ir_rules.specs.Occurrences.{Holds, Use, Event}
use Rattle.ir_rules.specs.Occurrences.Holds.{value, handle}
use Rattle.ir_rules.specs.Occurrences.Event.{defines, uses}
use Rattle.ir_rules.specs.Rules.{held, used, UseBreaks}
use Rattle.ir_rules.specs.Least.{fault, IsLeast}
use Rattle.ir_rules.specs.Walk.{same_width, same_ty, use_rule, event_fault, AnyGives, WrongUse}
use Rattle.ir_rules.proofs.Any.{here, further, none_in, head_of, any-map, map-any, any-all}
use Rattle.ir_rules.proofs.Least.{least-same}

pub width_decides : (v w : Width) → Decides (same_width v w) (v ≡ w)
width_decides W8 W8 = (λ e. refl, λ e. refl)
width_decides W8 W16 = (λ e. absurd cc, λ e. absurd cc)
width_decides W8 W32 = (λ e. absurd cc, λ e. absurd cc)
width_decides W8 W64 = (λ e. absurd cc, λ e. absurd cc)
width_decides W16 W8 = (λ e. absurd cc, λ e. absurd cc)
width_decides W16 W16 = (λ e. refl, λ e. refl)
width_decides W16 W32 = (λ e. absurd cc, λ e. absurd cc)
width_decides W16 W64 = (λ e. absurd cc, λ e. absurd cc)
width_decides W32 W8 = (λ e. absurd cc, λ e. absurd cc)
width_decides W32 W16 = (λ e. absurd cc, λ e. absurd cc)
width_decides W32 W32 = (λ e. refl, λ e. refl)
width_decides W32 W64 = (λ e. absurd cc, λ e. absurd cc)
width_decides W64 W8 = (λ e. absurd cc, λ e. absurd cc)
width_decides W64 W16 = (λ e. absurd cc, λ e. absurd cc)
width_decides W64 W32 = (λ e. absurd cc, λ e. absurd cc)
width_decides W64 W64 = (λ e. refl, λ e. refl)

pub ty_decides : (t u : Ty) → Decides (same_ty t u) (t ≡ u)
ty_decides (Int v) (Int w) = (λ e. ap (λ (z : Width). let t : Ty = Int z in t) ((width_decides v w).0 e), λ e. (width_decides v w).1 cc)
ty_decides (Int v) Ptr = (λ e. absurd cc, λ e. absurd cc)
ty_decides Ptr (Int w) = (λ e. absurd cc, λ e. absurd cc)
ty_decides Ptr Ptr = (λ e. refl, λ e. refl)

clash : (t u : Ty) (b : Bool) (r : Rule) → same_ty t u ≡ b → cond b None (Some TypeClash) ≡ Some r → UseBreaks r (Some (value t)) (AValue u)
clash t u true r e h = absurd cc
clash t u false r e h = subst (λ (z : Rule). UseBreaks z (Some (value t)) (AValue u)) (let q : TypeClash ≡ r = cc in q) (λ s. let z : true ≡ false = sym ((ty_decides t u).1 s) ∙ e in absurd cc)

is_clash : (t u : Ty) (b : Bool) → same_ty t u ≡ b → (t ≡ u → ⊥) → cond b None (Some TypeClash) ≡ Some TypeClash
is_clash t u true e n = absurd (n ((ty_decides t u).0 e))
is_clash t u false e n = refl

pub rule_breaks : (h : Option Holds) (w : Wanted) (r : Rule) → use_rule h w ≡ Some r → UseBreaks r h w
rule_breaks None w r e = subst (λ (z : Rule). UseBreaks z None w) (let q : Unknown ≡ r = cc in q) tt
rule_breaks (Some (value t)) (AValue u) r e = clash t u (same_ty t u) r refl e
rule_breaks (Some (handle f)) (AValue u) r e = subst (λ (z : Rule). UseBreaks z (Some (handle f)) (AValue u)) (let q : HandleUse ≡ r = cc in q) tt
rule_breaks (Some (value t)) AHandle r e = subst (λ (z : Rule). UseBreaks z (Some (value t)) AHandle) (let q : HandleUse ≡ r = cc in q) tt
rule_breaks (Some (handle f)) AHandle r e = absurd cc

pub breaks_rule : (r : Rule) (h : Option Holds) (w : Wanted) → UseBreaks r h w → use_rule h w ≡ Some r
breaks_rule Unknown None w b = refl
breaks_rule Unknown (Some (value t)) (AValue u) b = absurd b
breaks_rule Unknown (Some (handle f)) (AValue u) b = absurd b
breaks_rule Unknown (Some (value t)) AHandle b = absurd b
breaks_rule Unknown (Some (handle f)) AHandle b = absurd b
breaks_rule TypeClash None w b = absurd b
breaks_rule TypeClash (Some (value t)) (AValue u) b = is_clash t u (same_ty t u) refl b
breaks_rule TypeClash (Some (handle f)) (AValue u) b = absurd b
breaks_rule TypeClash (Some (value t)) AHandle b = absurd b
breaks_rule TypeClash (Some (handle f)) AHandle b = absurd b
breaks_rule HandleUse None w b = absurd b
breaks_rule HandleUse (Some (value t)) (AValue u) b = absurd b
breaks_rule HandleUse (Some (handle f)) (AValue u) b = refl
breaks_rule HandleUse (Some (value t)) AHandle b = refl
breaks_rule HandleUse (Some (handle f)) AHandle b = absurd b
breaks_rule Twice h w b = absurd b
breaks_rule Unassigned h w b = absurd b
breaks_rule BadTarget h w b = absurd b
breaks_rule BadCall h w b = absurd b
breaks_rule NoMain h w b = absurd b

-- ---- one event, and all of them; the table stays the whole function's
abbrev Wrong : (List ℕ → Option Holds) → List Event → Fault → Type 0
Wrong look es x = (u : Use) × Contains (used es) u × UseBreaks x.rule (look u.reg.name) u.wanted × (x.at ≡ u.reg.at)

mapped : (o : Option Rule) (at : ℕ) (x : Fault) → option_map (λ r. fault r at) o ≡ Some x → (o ≡ Some x.rule) × (x.at ≡ at)
mapped None at x e = absurd cc
mapped (Some r) at x e = let s : fault r at ≡ x = cc in (ap (λ (z : Fault). let o : Option Rule = Some z.rule in o) s, sym (ap (λ (z : Fault). z.at) s))

mapped_back : (o : Option Rule) (at : ℕ) (x : Fault) → o ≡ Some x.rule → x.at ≡ at → option_map (λ r. fault r at) o ≡ Some x
mapped_back o at x e s = ap (option_map (λ r. fault r at)) e ∙ ap (λ (n : ℕ). let o : Option Fault = Some (fault x.rule n) in o) (sym s)

-- a use among the events
used_has : (es : List Event) (u : Use) → Contains es (uses u) → Contains (used es) u
used_has [] u there = absurd (none_in (uses u) there)
used_has (defines d h ∷ es) u there = elim (head_of (defines d h) (uses u) es there) [
  | inl same ↦ absurd cc
  | inr more ↦ used_has es u more
]
used_has (uses v ∷ es) u there = elim (head_of (uses v) (uses u) es there) [
  | inl same ↦ let s : v ≡ u = cc in subst (λ (z : Use). Contains (v ∷ used es) z) s (here v (used es))
  | inr more ↦ further v u (used es) (used_has es u more)
]

has_used : (es : List Event) (u : Use) → Contains (used es) u → Contains es (uses u)
has_used [] u there = absurd (none_in u there)
has_used (defines d h ∷ es) u there = further (defines d h) (uses u) es (has_used es u there)
has_used (uses v ∷ es) u there = elim (head_of v u (used es) there) [
  | inl same ↦ subst (λ (z : Use). Contains (uses v ∷ es) (uses z)) same (here (uses v) es)
  | inr more ↦ further (uses v) (uses u) es (has_used es u more)
]

told_event : (look : List ℕ → Option Holds) (es : List Event) (x : Fault) (e : Event) → Contains es e → event_fault look e ≡ Some x → Wrong look es x
told_event look es x (defines d h) there is = absurd cc
told_event look es x (uses u) there is =
    let m = mapped (use_rule (look u.reg.name) u.wanted) u.reg.at x is in
    (u, used_has es u there, rule_breaks (look u.reg.name) u.wanted x.rule m.0, m.1)

told_wrong : (look : List ℕ → Option Holds) (es : List Event) (x : Fault) → AnyGives (event_fault look) es x → Wrong look es x
told_wrong look es x t = told_event look es x t.0 t.1 t.2

wrong_told : (look : List ℕ → Option Holds) (es : List Event) (x : Fault) → Wrong look es x → AnyGives (event_fault look) es x
wrong_told look es x w = (uses w.0, has_used es w.0 w.1, mapped_back (use_rule (look w.0.reg.name) w.0.wanted) w.0.reg.at x (breaks_rule x.rule (look w.0.reg.name) w.0.wanted w.2) w.3)

-- the walk looks registers up in a table that answers as the definitions do
pub least_wrong : (look : List ℕ → Option Holds) (es : List Event) (o : Option Fault) → ((q : List ℕ) → look q ≡ held es q) → IsLeast (AnyGives (event_fault look) es) o → IsLeast (WrongUse es) o
least_wrong look es o same l = least-same (AnyGives (event_fault look) es) (WrongUse es) o
    (λ x t. let w = told_wrong look es x t in (w.0, w.1, subst (λ (z : Option Holds). UseBreaks x.rule z w.0.wanted) (same w.0.reg.name) w.2, w.3))
    (λ x w. wrong_told look es x (w.0, w.1, subst (λ (z : Option Holds). UseBreaks x.rule z w.0.wanted) (sym (same w.0.reg.name)) w.2, w.3)) l

-- at the loop's end
pub least_at_end : {A : Type 0} (g : A → Event) (look : List ℕ → Option Holds) (xs : List A) (n : ℕ) (o : Option Fault) → length xs ≤ n → ((q : List ℕ) → look q ≡ held (map g xs) q)
    → IsLeast (AnyGives (λ a. event_fault look (g a)) (take n xs)) o → IsLeast (WrongUse (map g xs)) o
least_at_end g look xs n o le same l = least_wrong look (map g xs) o same
    (least-same (AnyGives (λ a. event_fault look (g a)) xs) (AnyGives (event_fault look) (map g xs)) o (any-map (λ e x. event_fault look e ≡ Some x) g xs) (map-any (λ e x. event_fault look e ≡ Some x) g xs)
    (any-all (λ a x. event_fault look (g a) ≡ Some x) xs n o le l))
