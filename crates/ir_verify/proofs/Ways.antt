-- Either some definition stands on the way, or the register is unassigned there.
use Rattle.std.proofs.Common.{◌≡◌, ◌≢◌, ◌≤◌, ℕ, zero, suc, ◌+◌, ◌⊎◌, inl, inr, Bool, true, false, cond, List, [], ◌∷◌, ◌++◌, map, Option, Some, None, refl, sym, ap, subst, ◌∙◌, append_assoc, arith}
use Rattle.std.specs.Prelude.{slice_get, Contains}
use Rattle.std.specs.List.{flat_map, count_by}
use Rattle.std.specs.Str.{bytes_eq}
use Rattle.std.proofs.lemmas.Grind.{flat_map-append}
use Rattle.std.proofs.lemmas.List.Concat.{flat_map-cons}
use Rattle.std.proofs.lemmas.Bool.{cases_Bool, cases_lt}
use Rattle.std.proofs.lemmas.List.Sums.{sum_by-cons, sum_by_push}
use Rattle.std.specs.Cmp.Lexicographic.{bytes_decides}
use Rattle.std.proofs.lemmas.List.Elements.{Contains-append_left, Contains-append_right}
use Rattle.ir_ast.specs.declared.types.Ty.{Ty}
use Rattle.ir_ast.specs.declared.program.Named.{Named}
use Rattle.ir_rules.specs.Walk.{same_ty}
use Rattle.ir_rules.proofs.Uses.{ty_decides}
use Rattle.ir_ast.specs.declared.program.Block.{Block}
use Rattle.ir_ast.specs.declared.program.Function.{Function}
use Rattle.ir_ast.specs.declared.program.Program.{Program}
use Rattle.ir_rules.specs.declared.rule.Rule.{Rule}
use Rattle.ir_rules.specs.declared.rule.Rule.TheVariants.{Unknown, Twice, TypeClash, HandleUse, Unassigned}
use Rattle.ir_rules.specs.declared.rule.Wanted.{Wanted}
use Rattle.ir_rules.specs.declared.rule.Wanted.TheVariants.{AValue, AHandle}
use Rattle.ir_ast.specs.declared.hosts.HostTable.{HostTable}
use Rattle.ir_rules.specs.Occurrences.{Holds, Use, Event, block_events, function_events, param_event}
use Rattle.ir_rules.specs.Occurrences.Holds.{value, handle}
use Rattle.ir_rules.specs.Occurrences.Event.{defines, uses}
use Rattle.ir_rules.specs.Paths.{Avoids, IsPath}
use Rattle.ir_rules.specs.Rules.{held, used, defined, SecondOf, IsAccepted, UseBreaks}
use Rattle.ir_rules.specs.Rules.Broken.{of_use, of_path, twice_register}
use Rattle.ir_verify.specs.Joins.{IsWay, Assigns, AssignsOnWay, IsAssigned, FitsUse, UsesAreAssigned, JoinsFindHandles}
use Rattle.ir_verify.specs.Joins.IsAssigned.{by_parameter, by_block, before_it}

same_or_not : (x y : List ℕ) → (x ≡ y) ⊎ (x ≡ y → ⊥)
same_or_not x y = elim (cases_Bool (bytes_eq x y)) [
  | inl t ↦ inl ((bytes_decides x y).0 t)
  | inr f ↦ inr (λ e. let t : bytes_eq x y ≡ true = (bytes_decides x y).1 e in let z : true ≡ false = sym t ∙ f in absurd cc)
]

avoids_or : (r : List ℕ) (es : List Event) → Avoids r es ⊎ ((h : Holds) × Assigns r h es)
avoids_or r [] = inl tt
avoids_or r (uses u ∷ es) = avoids_or r es
avoids_or r (defines d k ∷ es) = elim (same_or_not d.name r) [
  | inl e ↦ inr (k, inl (e, refl))
  | inr n ↦ elim (avoids_or r es) [ inl a ↦ inl (n, a) | inr s ↦ inr (s.0, inr s.1) ]
]

path_or : (f : Function) (r : List ℕ) (last : ℕ) (way : List ℕ) → IsWay f (last ∷ way) → IsPath f r (last ∷ way) ⊎ ((h : Holds) × AssignsOnWay f r h way)
path_or f r last [] e = inl e
path_or f r last (b ∷ way) w = elim (path_or f r b way w.1) [
  | inr s ↦ inr (s.0, inr s.1)
  | inl p ↦ elim (avoids_or r (block_events w.0.0)) [
    | inl a ↦ inl (w.0, (w.0.0, w.0.2, a), p)
    | inr s ↦ inr (s.0, inl (w.0.0, w.0.2, s.1))
  ]
]

same_or_clash : (t v : Ty) → (t ≢ v → ⊥) → t ≡ v
same_or_clash t v n = elim (cases_Bool (same_ty t v)) [
  | inl s ↦ (ty_decides t v).0 s
  | inr d ↦ absurd (n (λ e. let s : same_ty t v ≡ true = (ty_decides t v).1 e in let z : true ≡ false = sym s ∙ d in absurd cc))
]

used-append : (xs ys : List Event) → used (xs ++ ys) ≡ used xs ++ used ys
used-append [] ys = refl
used-append (defines d h ∷ xs) ys = used-append xs ys
used-append (uses u ∷ xs) ys = ap (λ (z : List Use). u ∷ z) (used-append xs ys)

abbrev Splits : {A : Type 0} → List A → A → Type 0
Splits {A = A} xs x = (front back : List A) × (xs ≡ front ++ x ∷ back)

split_at : {A : Type 0} (xs : List A) (n : ℕ) (x : A) → slice_get xs n ≡ Some x → Splits xs x
split_at [] n x e = absurd cc
split_at (y ∷ ys) zero x e = ([], ys, ap (λ (z : List _). z) (let same : y ≡ x = cc in ap (λ (z : _). z ∷ ys) same))
split_at (y ∷ ys) (suc n) x e = let s = split_at ys n x e in (y ∷ s.0, s.1, ap (λ (z : List _). y ∷ z) s.2)

first_of_rest : {A : Type 0} (x : A) (xs : List A) → Contains (x ∷ xs) x
first_of_rest x xs = (0, omega arith, refl)

used_there : (es before after : List Event) (u : Use) → es ≡ before ++ uses u ∷ after → Contains (used es) u
used_there es before after u e =
    subst (λ (z : List Use). Contains z u) (sym (ap used e ∙ used-append before (uses u ∷ after))) (Contains-append_right (used before) (u ∷ used after) u (first_of_rest u (used after)))

pub used_in : (f : Function) (last : ℕ) (block : Block) (before after : List Event) (u : Use) → slice_get f.blocks last ≡ Some block → block_events block ≡ before ++ uses u ∷ after → Contains (used (function_events f)) u
used_in f last block before after u at e =
    let s = split_at f.blocks last block at in
    let here : Contains (used (block_events block)) u = used_there (block_events block) before after u e in
    let rest : List Event = flat_map block_events s.1 in
    let joined : flat_map block_events f.blocks ≡ flat_map block_events s.0 ++ (block_events block ++ rest) = ap (flat_map block_events) s.2 ∙ flat_map-append block_events s.0 (block ∷ s.1) ∙ ap (λ (z : List Event). flat_map block_events s.0 ++ z) (flat_map-cons block_events block s.1) in
    let back : Contains (used (block_events block ++ rest)) u = subst (λ (z : List Use). Contains z u) (sym (used-append (block_events block) rest)) (Contains-append_left (used (block_events block)) (used rest) u here) in
    let all : Contains (used (flat_map block_events f.blocks)) u =
    subst (λ (z : List Use). Contains z u) (sym (ap used joined ∙ used-append (flat_map block_events s.0) (block_events block ++ rest))) (Contains-append_right (used (flat_map block_events s.0)) (used (block_events block ++ rest)) u back) in
    subst (λ (z : List Use). Contains z u) (sym (used-append (map param_event f.params) (flat_map block_events f.blocks))) (Contains-append_right (used (map param_event f.params)) (used (flat_map block_events f.blocks)) u all)

-- ---- in an accepted program a register has one definition
assigns-left : (r : List ℕ) (h : Holds) (xs ys : List Event) → Assigns r h xs → Assigns r h (xs ++ ys)
assigns-left r h [] ys s = absurd s
assigns-left r h (defines d k ∷ xs) ys (inl e) = inl e
assigns-left r h (defines d k ∷ xs) ys (inr s) = inr (assigns-left r h xs ys s)
assigns-left r h (uses u ∷ xs) ys s = assigns-left r h xs ys s

assigns-right : (r : List ℕ) (h : Holds) (xs ys : List Event) → Assigns r h ys → Assigns r h (xs ++ ys)
assigns-right r h [] ys s = s
assigns-right r h (defines d k ∷ xs) ys s = inr (assigns-right r h xs ys s)
assigns-right r h (uses u ∷ xs) ys s = assigns-right r h xs ys s

assigns-blocks : (r : List ℕ) (h : Holds) (blocks : List Block) (n : ℕ) (b : Block) → slice_get blocks n ≡ Some b → Assigns r h (block_events b) → Assigns r h (flat_map block_events blocks)
assigns-blocks r h [] n b e s = absurd cc
assigns-blocks r h (c ∷ blocks) zero b e s = let same : c ≡ b = cc in assigns-left r h (block_events c) (flat_map block_events blocks) (subst (λ (z : Block). Assigns r h (block_events z)) (sym same) s)
assigns-blocks r h (c ∷ blocks) (suc n) b e s = assigns-right r h (block_events c) (flat_map block_events blocks) (assigns-blocks r h blocks n b e s)

assigns-way : (f : Function) (r : List ℕ) (h : Holds) (way : List ℕ) → AssignsOnWay f r h way → Assigns r h (flat_map block_events f.blocks)
assigns-way f r h [] s = absurd s
assigns-way f r h (b ∷ way) (inl s) = assigns-blocks r h f.blocks b s.0 s.1 s.2
assigns-way f r h (b ∷ way) (inr s) = assigns-way f r h way s

abbrev once : Bool → ℕ
once b = cond b 1 0

abbrev times : List ℕ → List Named → ℕ
times r names = count_by (λ x. bytes_eq r x.name) names

times-cons : (r : List ℕ) (d : Named) (ds : List Named) → times r (d ∷ ds) ≡ once (bytes_eq r d.name) + times r ds
times-cons r d ds = sum_by-cons (λ (x : Named). cond (bytes_eq r x.name) 1 0) d ds

some_time : (r : List ℕ) (h : Holds) (es : List Event) → Assigns r h es → 1 ≤ times r (defined es)
some_time r h [] s = absurd s
some_time r h (uses u ∷ es) s = some_time r h es s
some_time r h (defines d k ∷ es) (inl e) =
    let c = times-cons r d (defined es) in
    let same : bytes_eq r d.name ≡ true = (bytes_decides r d.name).1 (sym e.0) in
    let one : once (bytes_eq r d.name) ≡ 1 = ap once same in
    omega (arith, c, one)
some_time r h (defines d k ∷ es) (inr s) = let c = times-cons r d (defined es) in let more = some_time r h es s in omega (arith, c, more)

-- what it is assigned is what it holds, or there are two definitions
abbrev OneOrTwo : List ℕ → Holds → Holds → List Event → Type 0
OneOrTwo r h k es = (h ≡ k) ⊎ (2 ≤ times r (defined es))

one_more : (r : List ℕ) (h k m : Holds) (d : Named) (es : List Event) → (held es r ≡ Some k → Assigns r h es → OneOrTwo r h k es) → (b : Bool) → bytes_eq r d.name ≡ b → cond b (Some m) (held es r) ≡ Some k
    → Assigns r h (defines d m ∷ es) → OneOrTwo r h k (defines d m ∷ es)
one_more r h k m d es more true same is (inl e) = inl (sym e.1 ∙ (let z : m ≡ k = cc in z))
one_more r h k m d es more true same is (inr s) =
    let c = times-cons r d (defined es) in
    let one : once (bytes_eq r d.name) ≡ 1 = ap once same in
    let some = some_time r h es s in
    inr (omega (arith, c, one, some))
one_more r h k m d es more false same is (inl e) = let t : bytes_eq r d.name ≡ true = (bytes_decides r d.name).1 (sym e.0) in let z : true ≡ false = sym t ∙ same in absurd cc
one_more r h k m d es more false same is (inr s) = elim (more is s) [
  | inl e ↦ inl e
  | inr two ↦ inr (let c = times-cons r d (defined es) in omega (arith, c, two))
]

one_or_two : (r : List ℕ) (h k : Holds) (es : List Event) → held es r ≡ Some k → Assigns r h es → OneOrTwo r h k es
one_or_two r h k [] e s = absurd s
one_or_two r h k (uses u ∷ es) e s = one_or_two r h k es e s
one_or_two r h k (defines d m ∷ es) e s = one_more r h k m d es (one_or_two r h k es) (bytes_eq r d.name) refl e s

-- where a name stands twice, one of its places is the second
abbrev Second : List Named → Type 0
Second ds = (at : ℕ) × SecondOf ds at

pushed : (r : List ℕ) (before : List Named) (d : Named) → times r (before ++ d ∷ []) ≡ times r before + once (bytes_eq r d.name)
pushed r before d = sum_by_push (λ (x : Named). cond (bytes_eq r x.name) 1 0) before d

second_here : (r : List ℕ) (before ds : List Named) (d : Named) → times r before ≤ 1 → (times r (before ++ d ∷ []) ≤ 1 → Second (before ++ d ∷ ds)) → (b : Bool) → bytes_eq r d.name ≡ b → Second (before ++ d ∷ ds)
second_here r before ds d few on false is = on (let p = pushed r before d in let none : once (bytes_eq r d.name) ≡ 0 = ap once is in omega (arith, p, none, few))
second_here r before ds d few on true is = elim (cases_lt (times r before) 1) [
  | inl lt ↦ on (let p = pushed r before d in let one : once (bytes_eq r d.name) ≡ 1 = ap once is in omega (arith, p, one, lt))
  | inr ge ↦ (d.at, (d, before, ds, refl, subst (λ (z : List ℕ). times z before ≡ 1) ((bytes_decides r d.name).0 is) (omega (arith, ge, few)), refl))
]

second : (r : List ℕ) (before ds : List Named) → times r before ≤ 1 → 2 ≤ times r before + times r ds → Second (before ++ ds)
second r before [] few many = absurd (omega (arith, few, many))
second r before (d ∷ ds) few many = second_here r before ds d few
    (λ le. subst Second (append_assoc before (d ∷ []) ds) (second r (before ++ d ∷ []) ds le (let p = pushed r before d in let c = times-cons r d ds in omega (arith, c, p, many)))) (bytes_eq r d.name) refl

only_one : (p : Program) (hosts : HostTable) (f : Function) (r : List ℕ) (h k : Holds) → IsAccepted p hosts → Contains p.functions f → held (function_events f) r ≡ Some k → Assigns r h (function_events f) → h ≡ k
only_one p hosts f r h k ok in_p e s = elim (one_or_two r h k (function_events f) e s) [
  | inl same ↦ same
  | inr two ↦ let again = second r [] (defined (function_events f)) (omega arith) (omega (arith, two)) in absurd (ok Twice again.0 (twice_register f again.0 in_p again.1))
]

-- ---- what an accepted program's use finds
use_fits : (p : Program) (hosts : HostTable) (f : Function) (u : Use) (h : Option Holds) (w : Wanted) → IsAccepted p hosts → Contains p.functions f → Contains (used (function_events f)) u → u.wanted ≡ w
    → held (function_events f) u.reg.name ≡ h → (k : Holds) × (h ≡ Some k) × FitsUse w k
use_fits p hosts f u h w ok in_p there want e = by h w (λ r b. ok r u.reg.at (of_use f u r in_p there (subst (λ (z : Option Holds). UseBreaks r z u.wanted) (sym e) (subst (UseBreaks r h) (sym want) b))))
  where
    by : (h : Option Holds) (w : Wanted) → ((r : Rule) → UseBreaks r h w → ⊥) → (k : Holds) × (h ≡ Some k) × FitsUse w k
    by None w n = absurd (n Unknown tt)
    by (Some (value t)) (AValue v) n = (value t, refl, same_or_clash t v (n TypeClash))
    by (Some (value t)) AHandle n = absurd (n HandleUse tt)
    by (Some (handle g)) (AValue v) n = absurd (n HandleUse tt)
    by (Some (handle g)) AHandle n = (handle g, refl, tt)

pub assigned : UsesAreAssigned
assigned p hosts ok f u last way block before after in_p is_way at e =
    let r = u.reg.name in
    let there = used_in f last block before after u at e in
    let k = use_fits p hosts f u (held (function_events f) r) u.wanted ok in_p there refl refl in
    let entry_events : List Event = map param_event f.params in
    let body : List Event = flat_map block_events f.blocks in
    let one : (h : Holds) → Assigns r h (function_events f) → h ≡ k.0 = λ h s. only_one p hosts f r h k.0 ok in_p k.1 s in (
      k.0,
      k.1,
      k.2,
      elim (avoids_or r entry_events) [
        | inr s ↦ by_parameter (subst (λ (z : Holds). Assigns r z entry_events) (one s.0 (assigns-left r s.0 entry_events body s.1)) s.1)
        | inl entry ↦ elim (avoids_or r before) [
          | inr s ↦ before_it (subst (λ (z : Holds). Assigns r z before) (one s.0 (assigns-right r s.0 entry_events body (assigns-blocks r s.0 f.blocks last block at
              (subst (Assigns r s.0) (sym e) (assigns-left r s.0 before (uses u ∷ after) s.1))))) s.1)
          | inl a ↦ elim (path_or f r last way is_way) [
            | inr s ↦ by_block (subst (λ (z : Holds). AssignsOnWay f r z way) (one s.0 (assigns-right r s.0 entry_events body (assigns-way f r s.0 way s.1))) s.1)
            | inl path ↦ absurd (ok Unassigned u.reg.at (of_path f u k.0 in_p k.1 (record {
              at_entry = entry;
              path = way;
              last = last;
              is_path = path;
              block = block;
              is_block = at;
              before = before;
              after = after;
              stands = e;
              avoids = a;
            })))
          ]
        ]
      ],
    )

handle_of : (h : Holds) → FitsUse AHandle h → (g : List ℕ) × (h ≡ handle g)
handle_of (value t) fits = absurd fits
handle_of (handle g) fits = (g, refl)

pub found : JoinsFindHandles
found p hosts ok f u last way block before after in_p w is_way at e =
    let a = assigned p hosts ok f u last way block before after in_p is_way at e in
    let g = handle_of a.0 (subst (λ (z : Wanted). FitsUse z a.0) w a.2) in
    (g.0, a.1 ∙ ap (λ (z : Holds). let o : Option Holds = Some z in o) g.1, subst (λ (z : Holds). IsAssigned f u.reg.name z way before) g.1 a.3)
