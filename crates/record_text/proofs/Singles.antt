-- Single words: of tables, provenances, parents, fragments, bytes and pieces.
use Rattle.std.proofs.Common.{◌≡◌, ℕ, ◌<◌, ◌^◌, ◌==◌, Bool, true, false, cond, List, [], ◌∷◌, Option, Some, None, refl, sym, ap, subst, ◌∙◌, arith}
use Rattle.std.specs.Prelude.{codes}
use Rattle.std.specs.Fmt.{decimal}
use Rattle.std.specs.List.{list_all, slice_split, join_with_byte}
use Rattle.std.specs.Str.{bytes_eq}
use Rattle.std.proofs.lemmas.Bool.Decides.{nat_tests}
use Rattle.std.proofs.lemmas.Option.{same_Some}
use Rattle.bsan_ids.specs.Names.{is_digit}
use Rattle.bsan_ids.specs.declared.numbers.Prov.{Prov}
use Rattle.bsan_ids.specs.declared.numbers.ThreadNo.{ThreadNo}
use Rattle.perm_table.specs.declared.Perm.{Perm}
use Rattle.perm_table.specs.declared.Perm.TheVariants as perm
use Rattle.perm_table.specs.declared.Guard.{Guard}
use Rattle.perm_table.specs.declared.Guard.TheVariants as guard
use Rattle.perm_table.specs.declared.RetagKind.{RetagKind}
use Rattle.perm_table.specs.declared.RetagKind.TheVariants as kind
use Rattle.ir_ast.specs.Keywords.{width_word, type_word, kind_word, modify_word}
use Rattle.ir_ast.specs.declared.types.Width.{Width}
use Rattle.ir_ast.specs.declared.types.Width.TheVariants.{W8, W16, W32, W64}
use Rattle.ir_ast.specs.declared.types.Ty.{Ty}
use Rattle.ir_ast.specs.declared.types.Ty.TheVariants.{Int, Ptr}
use Rattle.ir_ast.specs.declared.types.Place.{Place}
use Rattle.ir_ast.specs.declared.types.Place.TheVariants.{Stack, Heap}
use Rattle.ir_ast.specs.declared.operators.ModifyOp.{ModifyOp}
use Rattle.ir_ast.specs.declared.operators.ModifyOp.TheVariants as modify
use Rattle.target_code.specs.Words.{guard_word, place_word}
use Rattle.record_text.specs.Words.{perm_name, flag_word, side_word, dotted, prov_word, parent_word}
use Rattle.record_text.specs.Ranges.{Fits32, Fits64, ProvFits, ParentFits}
use Rattle.record_text.specs.Reading.{Words, other_than, ◌>>=◌, lookup, two_of, number64, number32}
use Rattle.record_text.specs.Tables.{types, widths, modifiers, kinds, guards, places, perms, flags, sides}
use Rattle.record_text.specs.Parts.{prov_of, prov_from, prov_in, some_thread, parent_in}
use Rattle.record_text.proofs.Codecs.{IsWord, Seen, is_seen, bind_some, told_equal, lookup_takes}
use Rattle.record_text.proofs.Decimals.{all_weaker, number_digits, number_seen, number64_word, number32_word}
use Rattle.record_text.proofs.Cuts.{Lacks, split_join, split_is, all_join, two_takes}

-- ---- tables

abbrev Any : {A : Type 0} → A → Type 0
Any a = Unit {0}

type_again : (a : Ty) → lookup types (type_word a) ≡ Some a
type_again (Int W8) = refl
type_again (Int W16) = refl
type_again (Int W32) = refl
type_again (Int W64) = refl
type_again Ptr = refl

type_seen : (a : Ty) → Seen (type_word a)
type_seen (Int W8) = refl
type_seen (Int W16) = refl
type_seen (Int W32) = refl
type_seen (Int W64) = refl
type_seen Ptr = refl

pub type_is_word : IsWord (λ (a : Ty). Unit {0}) type_word (lookup types)
type_is_word = record { again = λ a h. type_again a; takes = λ w a e. (lookup_takes type_word (Int W8 ∷ Int W16 ∷ Int W32 ∷ Int W64 ∷ Ptr ∷ []) w a e, tt); seen = λ a h. type_seen a }

width_again : (a : Width) → lookup widths (width_word a) ≡ Some a
width_again W8 = refl
width_again W16 = refl
width_again W32 = refl
width_again W64 = refl

width_seen : (a : Width) → Seen (width_word a)
width_seen W8 = refl
width_seen W16 = refl
width_seen W32 = refl
width_seen W64 = refl

pub width_is_word : IsWord (λ (a : Width). Unit {0}) width_word (lookup widths)
width_is_word = record { again = λ a h. width_again a; takes = λ w a e. (lookup_takes width_word (W8 ∷ W16 ∷ W32 ∷ W64 ∷ []) w a e, tt); seen = λ a h. width_seen a }

modify_again : (a : ModifyOp) → lookup modifiers (modify_word a) ≡ Some a
modify_again modify.Add = refl
modify_again modify.Sub = refl
modify_again modify.And = refl
modify_again modify.Or = refl
modify_again modify.Xor = refl
modify_again modify.Xchg = refl
modify_again modify.Umin = refl
modify_again modify.Umax = refl

modify_seen : (a : ModifyOp) → Seen (modify_word a)
modify_seen modify.Add = refl
modify_seen modify.Sub = refl
modify_seen modify.And = refl
modify_seen modify.Or = refl
modify_seen modify.Xor = refl
modify_seen modify.Xchg = refl
modify_seen modify.Umin = refl
modify_seen modify.Umax = refl

pub modify_is_word : IsWord (λ (a : ModifyOp). Unit {0}) modify_word (lookup modifiers)
modify_is_word = record { again = λ a h. modify_again a; takes = λ w a e. (lookup_takes modify_word (modify.Add ∷ modify.Sub ∷ modify.And ∷ modify.Or ∷ modify.Xor ∷ modify.Xchg ∷ modify.Umin ∷ modify.Umax ∷ []) w a e, tt); seen = λ a h. modify_seen a }

kind_again : (a : RetagKind) → lookup kinds (kind_word a) ≡ Some a
kind_again kind.Mut = refl
kind_again kind.Cell = refl
kind_again kind.Shr = refl
kind_again kind.Boxed = refl
kind_again kind.ShrCell = refl

kind_seen : (a : RetagKind) → Seen (kind_word a)
kind_seen kind.Mut = refl
kind_seen kind.Cell = refl
kind_seen kind.Shr = refl
kind_seen kind.Boxed = refl
kind_seen kind.ShrCell = refl

pub kind_is_word : IsWord (λ (a : RetagKind). Unit {0}) kind_word (lookup kinds)
kind_is_word = record { again = λ a h. kind_again a; takes = λ w a e. (lookup_takes kind_word (kind.Mut ∷ kind.Cell ∷ kind.Shr ∷ kind.Boxed ∷ kind.ShrCell ∷ []) w a e, tt); seen = λ a h. kind_seen a }

guard_again : (a : Guard) → lookup guards (guard_word a) ≡ Some a
guard_again guard.Free = refl
guard_again guard.Weak = refl
guard_again guard.Strong = refl

guard_seen : (a : Guard) → Seen (guard_word a)
guard_seen guard.Free = refl
guard_seen guard.Weak = refl
guard_seen guard.Strong = refl

pub guard_is_word : IsWord (λ (a : Guard). Unit {0}) guard_word (lookup guards)
guard_is_word = record { again = λ a h. guard_again a; takes = λ w a e. (lookup_takes guard_word (guard.Free ∷ guard.Weak ∷ guard.Strong ∷ []) w a e, tt); seen = λ a h. guard_seen a }

place_again : (a : Place) → lookup places (place_word a) ≡ Some a
place_again Stack = refl
place_again Heap = refl

place_seen : (a : Place) → Seen (place_word a)
place_seen Stack = refl
place_seen Heap = refl

pub place_is_word : IsWord (λ (a : Place). Unit {0}) place_word (lookup places)
place_is_word = record { again = λ a h. place_again a; takes = λ w a e. (lookup_takes place_word (Stack ∷ Heap ∷ []) w a e, tt); seen = λ a h. place_seen a }

perm_again : (a : Perm) → lookup perms (perm_name a) ≡ Some a
perm_again perm.Reserved = refl
perm_again perm.Conflicted = refl
perm_again perm.CellReserved = refl
perm_again perm.Unique = refl
perm_again perm.Frozen = refl
perm_again perm.Disabled = refl
perm_again perm.Cell = refl

perm_seen : (a : Perm) → Seen (perm_name a)
perm_seen perm.Reserved = refl
perm_seen perm.Conflicted = refl
perm_seen perm.CellReserved = refl
perm_seen perm.Unique = refl
perm_seen perm.Frozen = refl
perm_seen perm.Disabled = refl
perm_seen perm.Cell = refl

pub perm_is_word : IsWord (λ (a : Perm). Unit {0}) perm_name (lookup perms)
perm_is_word = record { again = λ a h. perm_again a; takes = λ w a e. (lookup_takes perm_name (perm.Reserved ∷ perm.Conflicted ∷ perm.CellReserved ∷ perm.Unique ∷ perm.Frozen ∷ perm.Disabled ∷ perm.Cell ∷ []) w a e, tt); seen = λ a h. perm_seen a }

flag_again : (a : Bool) → lookup flags (flag_word a) ≡ Some a
flag_again true = refl
flag_again false = refl

flag_seen : (a : Bool) → Seen (flag_word a)
flag_seen true = refl
flag_seen false = refl

pub flag_is_word : IsWord (λ (a : Bool). Unit {0}) flag_word (lookup flags)
flag_is_word = record { again = λ a h. flag_again a; takes = λ w a e. (lookup_takes flag_word (true ∷ false ∷ []) w a e, tt); seen = λ a h. flag_seen a }

side_again : (a : Bool) → lookup sides (side_word a) ≡ Some a
side_again true = refl
side_again false = refl

side_seen : (a : Bool) → Seen (side_word a)
side_seen true = refl
side_seen false = refl

pub side_is_word : IsWord (λ (a : Bool). Unit {0}) side_word (lookup sides)
side_is_word = record { again = λ a h. side_again a; takes = λ w a e. (lookup_takes side_word (true ∷ false ∷ []) w a e, tt); seen = λ a h. side_seen a }

-- ---- digits and marks

-- a digit is another byte than a mark
is_other : (c : ℕ) → 57 < c → (b : ℕ) → is_digit b ≡ true → other_than c b ≡ true
is_other c lt b h = grind (arith, nat_tests)

is_other_low : (c : ℕ) → c < 48 → (b : ℕ) → is_digit b ≡ true → other_than c b ≡ true
is_other_low c lt b h = grind (arith, nat_tests)

pub lacks_high : (c n : ℕ) → 57 < c → n < 2 ^ 64 → Lacks c (decimal n)
lacks_high c n lt h = all_weaker is_digit (other_than c) (is_other c lt) (decimal n) (number_digits n h)

pub lacks_low : (c n : ℕ) → c < 48 → n < 2 ^ 64 → Lacks c (decimal n)
lacks_low c n lt h = all_weaker is_digit (other_than c) (is_other_low c lt) (decimal n) (number_digits n h)

-- ---- provenances and parents

split_two : (a t : ℕ) → Fits32 a → Fits64 t → slice_split (λ b. b == 46) (dotted (a ∷ t ∷ [])) ≡ decimal a ∷ decimal t ∷ []
split_two a t h k = split_join 46 (decimal a) (decimal t ∷ []) (lacks_low 46 a (omega arith) (omega arith)) (lacks_low 46 t (omega arith) k, tt)

-- it isn't `-`
not_dash : (w : List ℕ) (a t : List ℕ) → slice_split (λ b. b == 46) w ≡ a ∷ t ∷ [] → bytes_eq w (codes "-") ≡ false
not_dash w a t e = by_test (bytes_eq w (codes "-")) refl
  where
    by_test : (b : Bool) → bytes_eq w (codes "-") ≡ b → b ≡ false
    by_test true h =
        let one : slice_split (λ (b : ℕ). b == 46) (codes "-") ≡ a ∷ t ∷ [] = ap (slice_split (λ (b : ℕ). b == 46)) (sym (told_equal w (codes "-") h)) ∙ e in
        absurd (let f : codes "-" ∷ [] ≡ a ∷ t ∷ [] = one in cc)
    by_test false h = refl

prov_again : (p : Option Prov) → ProvFits p → prov_in (prov_word p) ≡ Some p
unfolding prov_in
prov_again None h = refl
prov_again (Some p) h =
    let parts = split_two p.alloc.0 p.tag.0 h.0 h.1 in
    ap (λ (b : Bool). cond b (Some None) (two_of (slice_split (λ (b : ℕ). b == 46) (prov_word (Some p))) >>= prov_from)) (not_dash (prov_word (Some p)) (decimal p.alloc.0) (decimal p.tag.0) parts)
    ∙ ap (λ (ws : Words). two_of ws >>= prov_from) parts
    ∙ ap (λ (o : Option ℕ). o >>= λ alloc. number64 (decimal p.tag.0) >>= λ tag. Some (Some (prov_of alloc tag))) (number32_word.again p.alloc.0 h.0)
    ∙ ap (λ (o : Option ℕ). o >>= λ tag. Some (Some (prov_of p.alloc.0 tag))) (number64_word.again p.tag.0 h.1)

prov_parts : (w : List ℕ) (p : Option Prov) → (two_of (slice_split (λ b. b == 46) w) >>= prov_from) ≡ Some p → (w ≡ prov_word p) × ProvFits p
prov_parts w p e =
    let k = bind_some (two_of (slice_split (λ b. b == 46) w)) prov_from p e in
    let x = k.0 in
    let a = bind_some (number32 x.0) (λ alloc. number64 x.1 >>= λ tag. Some (Some (prov_of alloc tag))) p k.2 in
    let t = bind_some (number64 x.1) (λ tag. Some (Some (prov_of a.0 tag))) p a.2 in
    let first = number32_word.takes x.0 a.0 a.1 in
    let second = number64_word.takes x.1 t.0 t.1 in
    let whole : w ≡ join_with_byte 46 (x.0 ∷ x.1 ∷ []) = split_is 46 w (x.0 ∷ x.1 ∷ []) (two_takes (slice_split (λ b. b == 46) w) x k.1) in
    let same : Some (prov_of a.0 t.0) ≡ p = same_Some (Some (prov_of a.0 t.0)) p t.2 in
    let text : w ≡ dotted (a.0 ∷ t.0 ∷ []) = whole ∙ ap (λ (v : List ℕ). join_with_byte 46 (v ∷ x.1 ∷ [])) first.0 ∙ ap (λ (v : List ℕ). join_with_byte 46 (decimal a.0 ∷ v ∷ [])) second.0 in
    subst (λ (q : Option Prov). (w ≡ prov_word q) × ProvFits q) same (text, (first.1, second.1))

prov_takes : (w : List ℕ) (p : Option Prov) → prov_in w ≡ Some p → (w ≡ prov_word p) × ProvFits p
unfolding prov_in
prov_takes w p e = by_test (bytes_eq w (codes "-")) refl e
  where
    by_test : (b : Bool) → bytes_eq w (codes "-") ≡ b → cond b (Some None) (two_of (slice_split (λ b. b == 46) w) >>= prov_from) ≡ Some p → (w ≡ prov_word p) × ProvFits p
    by_test true t h = subst (λ (q : Option Prov). (w ≡ prov_word q) × ProvFits q) (same_Some None p h) (told_equal w (codes "-") t, tt)
    by_test false t h = prov_parts w p h

dot_seen : (a t : List ℕ) → Seen a → Seen t → Seen (join_with_byte 46 (a ∷ t ∷ []))
dot_seen a t h k = all_join is_seen 46 (a ∷ t ∷ []) refl (h, (k, tt))

prov_seen : (p : Option Prov) → ProvFits p → Seen (prov_word p)
prov_seen None h = refl
prov_seen (Some p) h = dot_seen (decimal p.alloc.0) (decimal p.tag.0) (number_seen p.alloc.0 (omega (arith, h.0))) (number_seen p.tag.0 h.1)

pub prov_is_word : IsWord ProvFits prov_word prov_in
prov_is_word = record { again = prov_again; takes = prov_takes; seen = prov_seen }

number_not_dash : (n : ℕ) → n < 2 ^ 32 → bytes_eq (decimal n) (codes "-") ≡ false
unfolding number32
number_not_dash n h = by_test (bytes_eq (decimal n) (codes "-")) refl
  where
    by_test : (b : Bool) → bytes_eq (decimal n) (codes "-") ≡ b → b ≡ false
    by_test true t =
        let bad : list_all is_digit (codes "-") ≡ true = ap (list_all is_digit) (sym (told_equal (decimal n) (codes "-") t)) ∙ number_digits n (omega arith) in
        absurd (let f : false ≡ true = bad in cc)
    by_test false t = refl

parent_again : (p : Option ThreadNo) → ParentFits p → parent_in (parent_word p) ≡ Some p
unfolding parent_in
parent_again None h = refl
parent_again (Some n) h =
    ap (λ (b : Bool). cond b (Some None) (number32 (decimal n.0) >>= λ m. Some (some_thread m))) (number_not_dash n.0 h)
    ∙ ap (λ (o : Option ℕ). o >>= λ m. Some (some_thread m)) (number32_word.again n.0 h)

parent_takes : (w : List ℕ) (p : Option ThreadNo) → parent_in w ≡ Some p → (w ≡ parent_word p) × ParentFits p
unfolding parent_in
parent_takes w p e = by_test (bytes_eq w (codes "-")) refl e
  where
    by_test : (b : Bool) → bytes_eq w (codes "-") ≡ b → cond b (Some None) (number32 w >>= λ n. Some (some_thread n)) ≡ Some p → (w ≡ parent_word p) × ParentFits p
    by_test true t h = subst (λ (q : Option ThreadNo). (w ≡ parent_word q) × ParentFits q) (same_Some None p h) (told_equal w (codes "-") t, tt)
    by_test false t h =
        let k = bind_some (number32 w) (λ n. Some (some_thread n)) p h in
        let same : some_thread k.0 ≡ p = same_Some (some_thread k.0) p k.2 in
        subst (λ (q : Option ThreadNo). (w ≡ parent_word q) × ParentFits q) same (number32_word.takes w k.0 k.1)

parent_seen : (p : Option ThreadNo) → ParentFits p → Seen (parent_word p)
parent_seen None h = refl
parent_seen (Some n) h = number_seen n.0 (omega (arith, h))

pub parent_is_word : IsWord ParentFits parent_word parent_in
parent_is_word = record { again = parent_again; takes = parent_takes; seen = parent_seen }
