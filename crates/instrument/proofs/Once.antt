-- Names that no second definition stands for stand once; and the registers that a function defines.
use Rattle.std.proofs.Common.{◌≡◌, ℕ, ◌+◌, Bool, true, false, cond, ◌||◌, List, [], ◌∷◌, ◌++◌, map, Option, Some, None, refl, sym, ap, subst, ◌∙◌}
use Rattle.std.specs.List.{list_any, count_by, flat_map}
use Rattle.std.specs.Str.{bytes_eq}
use Rattle.std.proofs.lemmas.List.{append-nil, map-append}
use Rattle.std.proofs.lemmas.List.Sums.{sum_by-cons}
use Rattle.std.proofs.lemmas.Slice.Eq.{bytes_eq-Decides}
use Rattle.ir_ast.specs.Tokens.{Each}
use Rattle.ir_ast.specs.Shapes.{Defines, FitsDestination, IsInst, IsBlock, IsFunction}
use Rattle.ir_ast.specs.declared.types.Attr.{Attr}
use Rattle.ir_ast.specs.declared.program.Named.{Named}
use Rattle.ir_ast.specs.declared.program.Param.{Param}
use Rattle.ir_ast.specs.declared.program.Op.{Op}
use Rattle.ir_ast.specs.declared.program.Op.TheVariants as op
use Rattle.ir_ast.specs.declared.program.Inst.{Inst}
use Rattle.ir_ast.specs.declared.program.Block.{Block}
use Rattle.ir_ast.specs.declared.program.Function.{Function}
use Rattle.ir_rules.specs.Occurrences.{Use, Event, op_uses, op_gives, jump_uses, param_event, dest_events, inst_events, block_events, function_events}
use Rattle.ir_rules.specs.Occurrences.Event.{defines, uses}
use Rattle.ir_rules.specs.Rules.{SecondOf, defined}
use Rattle.ir_ast.specs.Attributes.{Definition, registers, params_definitions, dest_definitions, inst_definitions, block_definitions, definitions, spawned_attr}
use Rattle.instrument.specs.Names.{IsOnce}

abbrev pub names : List Named → List (List ℕ)
names ds = map (λ (d : Named). d.name) ds

pub no_way : false ≡ true → ⊥
no_way e = cc

-- ---- names that stand once

-- the first of these that has the name
record Found (q : List ℕ) (ds : List Named) : Type 0 where
  d : Named
  before : List Named
  after : List Named
  is : ds ≡ before ++ d ∷ after
  same : bytes_eq q d.name ≡ true
  none : count_by (λ x. bytes_eq q x.name) before ≡ 0

count_cons : (q : List ℕ) (n : Named) (before : List Named) (b : Bool) (k : ℕ) → bytes_eq q n.name ≡ b → count_by (λ x. bytes_eq q x.name) before ≡ k
    → count_by (λ x. bytes_eq q x.name) (n ∷ before) ≡ cond b 1 0 + k
count_cons q n before b k e h =
    sum_by-cons (λ (x : Named). cond (bytes_eq q x.name) 1 0) n before ∙ ap (λ (z : Bool). cond z 1 0 + count_by (λ x. bytes_eq q x.name) before) e ∙ ap (λ (z : ℕ). cond b 1 0 + z) h

found_by : (q : List ℕ) (d : Named) (ds : List Named) (b : Bool) → bytes_eq q d.name ≡ b → (list_any (bytes_eq q) (names ds) ≡ true → Found q ds) → (b || list_any (bytes_eq q) (names ds)) ≡ true → Found q (d ∷ ds)
found_by q d ds true s more e = record { d = d; before = []; after = ds; is = refl; same = s; none = refl }
found_by q d ds false s more e =
    let r : Found q ds = more e in
    record { d = r.d; before = d ∷ r.before; after = r.after; is = ap (λ (z : List Named). d ∷ z) r.is; same = r.same; none = count_cons q d r.before false 0 s r.none }

found : (q : List ℕ) (ds : List Named) → list_any (bytes_eq q) (names ds) ≡ true → Found q ds
found q [] e = absurd (no_way e)
found q (d ∷ ds) e = found_by q d ds (bytes_eq q d.name) refl (found q ds) e

once_head : (n : Named) (ds : List Named) (b : Bool) → list_any (bytes_eq n.name) (names ds) ≡ b → ((at : ℕ) → SecondOf (n ∷ ds) at → ⊥) → b ≡ false
once_head n ds false e none_of = refl
once_head n ds true e none_of =
    let r : Found n.name ds = found n.name ds e in
    let same : n.name ≡ r.d.name = (bytes_eq-Decides n.name r.d.name).0 r.same in
    let one : count_by (λ x. bytes_eq n.name x.name) (n ∷ r.before) ≡ 1 = count_cons n.name n r.before true 0 ((bytes_eq-Decides n.name n.name).1 refl) r.none in
    absurd (none_of r.d.at (r.d, n ∷ r.before, r.after, ap (λ (z : List Named). n ∷ z) r.is, subst (λ (q : List ℕ). count_by (λ x. bytes_eq q x.name) (n ∷ r.before) ≡ 1) same one, refl))

or_true : (b : Bool) → (b || true) ≡ true
or_true true = refl
or_true false = refl

any_in : (q : List ℕ) (before after : List Named) (d : Named) → bytes_eq q d.name ≡ true → list_any (bytes_eq q) (names (before ++ d ∷ after)) ≡ true
any_in q [] after d e = ap (λ (b : Bool). b || list_any (bytes_eq q) (names after)) e
any_in q (b ∷ before) after d e = ap (λ (z : Bool). bytes_eq q b.name || z) (any_in q before after d e) ∙ or_true (bytes_eq q b.name)

once_tail_by : (n : Named) (ds : List Named) (at : ℕ) (b : Bool) (s : SecondOf ds at) → bytes_eq s.0.name n.name ≡ b → list_any (bytes_eq n.name) (names ds) ≡ false → ((at : ℕ) → SecondOf (n ∷ ds) at → ⊥) → ⊥
once_tail_by n ds at true s e here none_of =
    let same : s.0.name ≡ n.name = (bytes_eq-Decides s.0.name n.name).0 e in
    let back : bytes_eq n.name s.0.name ≡ true = (bytes_eq-Decides n.name s.0.name).1 (sym same) in
    no_way (sym here ∙ ap (λ (z : List Named). list_any (bytes_eq n.name) (names z)) s.3 ∙ any_in n.name s.1 s.2 s.0 back)
once_tail_by n ds at false s e here none_of =
    none_of at (s.0, n ∷ s.1, s.2, ap (λ (z : List Named). n ∷ z) s.3, count_cons s.0.name n s.1 false 1 e s.4, s.5)

pub once_from : (ds : List Named) → ((at : ℕ) → SecondOf ds at → ⊥) → IsOnce (names ds)
once_from [] none_of = tt
once_from (n ∷ ds) none_of =
    let here : list_any (bytes_eq n.name) (names ds) ≡ false = once_head n ds (list_any (bytes_eq n.name) (names ds)) refl none_of in
    (here, once_from ds (λ at s. once_tail_by n ds at (bytes_eq s.0.name n.name) s refl here none_of))

pub map_twice : {A B C : Type 0} (g : B → C) (f : A → B) (xs : List A) → map g (map f xs) ≡ map (λ x. g (f x)) xs
map_twice g f [] = refl
map_twice {C = C} g f (x ∷ xs) = ap (λ (z : List C). g (f x) ∷ z) (map_twice g f xs)

-- ---- the registers that a function defines, and the definitions among its events

pub defined_join : (xs ys : List Event) → defined (xs ++ ys) ≡ defined xs ++ defined ys
defined_join [] ys = refl
defined_join (defines d h ∷ xs) ys = ap (λ (z : List Named). d ∷ z) (defined_join xs ys)
defined_join (uses u ∷ xs) ys = defined_join xs ys

defined_uses : (us : List Use) (es : List Event) → defined (map uses us ++ es) ≡ defined es
defined_uses [] es = refl
defined_uses (u ∷ us) es = defined_uses us es

none_defined : (us : List Use) → defined (map uses us) ≡ []
none_defined [] = refl
none_defined (u ∷ us) = none_defined us

join_same : (as_ bs : List Definition) (es gs : List Event) → registers as_ ≡ names (defined es) → registers bs ≡ names (defined gs) → registers (as_ ++ bs) ≡ names (defined (es ++ gs))
join_same as_ bs es gs p q =
    map-append (λ (d : Definition). d.name) as_ bs ∙ ap (λ (z : List (List ℕ)). z ++ registers bs) p ∙ ap (λ (z : List (List ℕ)). names (defined es) ++ z) q
    ∙ sym (map-append (λ (d : Named). d.name) (defined es) (defined gs)) ∙ ap names (sym (defined_join es gs))

params_same : (ps : List Param) → registers (params_definitions ps) ≡ names (defined (map param_event ps))
params_same [] = refl
params_same (p ∷ ps) = ap (λ (z : List (List ℕ)). p.reg.name ∷ z) (params_same ps)

gives : (o : Op) (r : Named) → Defines o → defined (dest_events (Some r) (op_gives o)) ≡ r ∷ []
gives (op.Const width val) r h = refl
gives op.Null r h = refl
gives (op.Make place size) r h = refl
gives (op.Gep ptr add) r h = refl
gives (op.Load ty ptr) r h = refl
gives (op.Store ty val ptr) r h = absurd h
gives (op.Retag kind ptr size) r h = refl
gives (op.Binary f width a b) r h = refl
gives (op.Compare c ty a b) r h = refl
gives (op.Select ty c a b) r h = refl
gives (op.Cast f from to val to_at) r h = refl
gives (op.PtrToInt ptr) r h = refl
gives (op.Input index) r h = refl
gives (op.Modify f width ptr val) r h = refl
gives (op.CmpXchg width ptr expected val) r h = refl
gives (op.Copy to from len) r h = absurd h
gives (op.Free ptr) r h = absurd h
gives (op.Print width val) r h = absurd h
gives (op.Call None function args) r h = absurd h
gives (op.Call (Some ty) function args) r h = refl
gives (op.Host ty host args) r h = refl
gives (op.Spawn function args) r h = refl
gives (op.Join None ty_at handle) r h = absurd h
gives (op.Join (Some ty) ty_at handle) r h = refl

dest_same : (dest : Option Named) (o : Op) (attr : Option Attr) → FitsDestination dest o → registers (dest_definitions dest attr) ≡ names (defined (dest_events dest (op_gives o)))
dest_same None o attr h = refl
dest_same (Some r) o attr h = sym (ap names (gives o r h))

inst_same : (version : ℕ) (fs : List Function) (i : Inst) → IsInst version i → registers (inst_definitions fs i) ≡ names (defined (inst_events i))
inst_same version fs i h = dest_same i.dest i.op (spawned_attr fs i.op) h.0 ∙ ap names (sym (defined_uses (op_uses i.op) (dest_events i.dest (op_gives i.op))))

insts_same : (version : ℕ) (fs : List Function) (is : List Inst) → Each (IsInst version) is → registers (flat_map (inst_definitions fs) is) ≡ names (defined (flat_map inst_events is))
insts_same version fs [] h = refl
insts_same version fs (i ∷ is) h = join_same (inst_definitions fs i) (flat_map (inst_definitions fs) is) (inst_events i) (flat_map inst_events is) (inst_same version fs i h.0) (insts_same version fs is h.1)

block_same : (version : ℕ) (fs : List Function) (b : Block) → Each (IsInst version) b.insts → registers (block_definitions fs b) ≡ names (defined (block_events b))
block_same version fs b h =
    let front : List Event = map param_event b.params ++ flat_map inst_events b.insts in
    let last : List Event = map uses (jump_uses b.term.jump) in
    let whole : defined (front ++ last) ≡ defined front = defined_join front last ∙ ap (λ (z : List Named). defined front ++ z) (none_defined (jump_uses b.term.jump)) ∙ append-nil (defined front) in
    join_same (params_definitions b.params) (flat_map (inst_definitions fs) b.insts) (map param_event b.params) (flat_map inst_events b.insts) (params_same b.params) (insts_same version fs b.insts h)
    ∙ ap names (sym whole)

blocks_same : (version : ℕ) (fs : List Function) (bs : List Block) → Each (IsBlock version) bs → registers (flat_map (block_definitions fs) bs) ≡ names (defined (flat_map block_events bs))
blocks_same version fs [] h = refl
blocks_same version fs (b ∷ bs) h = join_same (block_definitions fs b) (flat_map (block_definitions fs) bs) (block_events b) (flat_map block_events bs) (block_same version fs b h.0.insts) (blocks_same version fs bs h.1)

pub registers_same : (version : ℕ) (fs : List Function) (f : Function) → IsFunction version f → registers (definitions fs f) ≡ names (defined (function_events f))
registers_same version fs f h =
    join_same (params_definitions f.params) (flat_map (block_definitions fs) f.blocks) (map param_event f.params) (flat_map block_events f.blocks) (params_same f.params) (blocks_same version fs f.blocks h.blocks)
