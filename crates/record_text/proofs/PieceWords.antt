-- Words of pieces of memory.
use Rattle.std.proofs.Common.{◌≡◌, ℕ, ◌<◌, ◌≤◌, ◌^◌, ◌==◌, Bool, true, cond, List, [], ◌∷◌, ◌++◌, length, map, Option, Some, None, refl, ap, subst, ◌∙◌, length-append, arith}
use Rattle.std.specs.Prelude.{codes, nat_le}
use Rattle.std.specs.Fmt.{decimal}
use Rattle.std.specs.List.{list_all, slice_split, join_with_byte, AllByRecursion}
use Rattle.std.proofs.lemmas.Bool.{leb-true, le-leb}
use Rattle.std.proofs.lemmas.Fmt.{decimal_nonempty}
use Rattle.std.proofs.lemmas.Option.{same_Some}
use Rattle.bsan_ids.specs.declared.numbers.Frag.{Frag}
use Rattle.history.specs.Pieces.{Byte}
use Rattle.record_text.specs.Words.{dotted, byte_parts, byte_word, bytes_word, piece_word}
use Rattle.record_text.specs.Ranges.{FragFits, ByteFits, PieceFits}
use Rattle.record_text.specs.Reading.{Words, other_than, ◌>>=◌, two_of, three_of, number64, number32, number8}
use Rattle.record_text.specs.Parts.{frag_of, frag_from, frag_in, byte_from, byte_in, bytes_in, few, closed_in, opened_in, enclosed, few_in, listed, piece_in}
use Rattle.record_text.proofs.Codecs.{IsWord, Seen, is_seen, bind_some, cond_some}
use Rattle.record_text.proofs.Decimals.{number_seen, number64_word, number32_word, number8_word}
use Rattle.record_text.proofs.Cuts.{Lacks, AllLack, split_join, split_is, all_append, AllPassing, all_join, two_takes, three_takes}
use Rattle.record_text.proofs.Singles.{lacks_high, lacks_low}

-- ---- fragments

abbrev frag_word : Frag → List ℕ
frag_word f = dotted (f.prov.alloc.0 ∷ f.prov.tag.0 ∷ f.index ∷ [])

frag_split : (f : Frag) → FragFits (Some f) → slice_split (λ b. b == 46) (frag_word f) ≡ decimal f.prov.alloc.0 ∷ decimal f.prov.tag.0 ∷ decimal f.index ∷ []
frag_split f h =
    split_join 46 (decimal f.prov.alloc.0) (decimal f.prov.tag.0 ∷ decimal f.index ∷ []) (lacks_low 46 f.prov.alloc.0 (omega arith) (omega (arith, h.0)))
    (lacks_low 46 f.prov.tag.0 (omega arith) h.1.0, (lacks_low 46 f.index (omega arith) (omega (arith, h.1.1)), tt))

frag_again : (f : Frag) → FragFits (Some f) → frag_in (frag_word f) ≡ Some f
unfolding frag_in
frag_again f h =
    ap (λ (ws : Words). three_of ws >>= frag_from) (frag_split f h)
    ∙ ap (λ (o : Option ℕ). o >>= λ alloc. number64 (decimal f.prov.tag.0) >>= λ tag. number8 (decimal f.index) >>= λ index. Some (frag_of alloc tag index)) (number32_word.again f.prov.alloc.0 h.0)
    ∙ ap (λ (o : Option ℕ). o >>= λ tag. number8 (decimal f.index) >>= λ index. Some (frag_of f.prov.alloc.0 tag index)) (number64_word.again f.prov.tag.0 h.1.0)
    ∙ ap (λ (o : Option ℕ). o >>= λ index. Some (frag_of f.prov.alloc.0 f.prov.tag.0 index)) (number8_word.again f.index h.1.1)

frag_takes : (w : List ℕ) (f : Frag) → frag_in w ≡ Some f → (w ≡ frag_word f) × FragFits (Some f)
unfolding frag_in
frag_takes w f e =
    let k = bind_some (three_of (slice_split (λ b. b == 46) w)) frag_from f e in
    let x = k.0 in
    let a = bind_some (number32 x.0) (λ alloc. number64 x.1.0 >>= λ tag. number8 x.1.1 >>= λ index. Some (frag_of alloc tag index)) f k.2 in
    let t = bind_some (number64 x.1.0) (λ tag. number8 x.1.1 >>= λ index. Some (frag_of a.0 tag index)) f a.2 in
    let i = bind_some (number8 x.1.1) (λ index. Some (frag_of a.0 t.0 index)) f t.2 in
    let first = number32_word.takes x.0 a.0 a.1 in
    let second = number64_word.takes x.1.0 t.0 t.1 in
    let third = number8_word.takes x.1.1 i.0 i.1 in
    let whole : w ≡ join_with_byte 46 (x.0 ∷ x.1.0 ∷ x.1.1 ∷ []) = split_is 46 w (x.0 ∷ x.1.0 ∷ x.1.1 ∷ []) (three_takes (slice_split (λ b. b == 46) w) x k.1) in
    let text : w ≡ dotted (a.0 ∷ t.0 ∷ i.0 ∷ []) = whole ∙ ap (λ (v : List ℕ). join_with_byte 46 (v ∷ x.1.0 ∷ x.1.1 ∷ [])) first.0
    ∙ ap (λ (v : List ℕ). join_with_byte 46 (decimal a.0 ∷ v ∷ x.1.1 ∷ [])) second.0 ∙ ap (λ (v : List ℕ). join_with_byte 46 (decimal a.0 ∷ decimal t.0 ∷ v ∷ [])) third.0 in
    subst (λ (g : Frag). (w ≡ frag_word g) × FragFits (Some g)) (same_Some (frag_of a.0 t.0 i.0) f i.2) (text, (first.1, (second.1, third.1)))

-- a test that the bytes of numbers and `.` pass
frag_passes : (p : ℕ → Bool) (f : Frag) → ((n : ℕ) → n < 2 ^ 64 → list_all p (decimal n) ≡ true) → p 46 ≡ true → FragFits (Some f) → list_all p (frag_word f) ≡ true
frag_passes p f numbers dot h =
    all_join p 46 (decimal f.prov.alloc.0 ∷ decimal f.prov.tag.0 ∷ decimal f.index ∷ []) dot
    (numbers f.prov.alloc.0 (omega (arith, h.0)), (numbers f.prov.tag.0 h.1.0, (numbers f.index (omega (arith, h.1.1)), tt)))

-- ---- bytes

byte_split : (b : Byte) → ByteFits b → slice_split (λ c. c == 58) (byte_word b) ≡ byte_parts b
byte_split (b, None) h = split_join 58 (decimal b) [] (lacks_high 58 b (omega arith) (omega (arith, h.0))) tt
byte_split (b, Some f) h =
    split_join 58 (decimal b) (frag_word f ∷ []) (lacks_high 58 b (omega arith) (omega (arith, h.0)))
    (frag_passes (other_than 58) f (λ n k. lacks_high 58 n (omega arith) k) refl h.1, tt)

byte_again : (b : Byte) → ByteFits b → byte_in (byte_word b) ≡ Some b
unfolding byte_in
byte_again (b, None) h = ap byte_from (byte_split (b, None) h) ∙ ap (λ (o : Option ℕ). o >>= λ byte. Some (byte, None)) (number8_word.again b h.0)
byte_again (b, Some f) h =
    ap byte_from (byte_split (b, Some f) h)
    ∙ ap (λ (o : Option ℕ). o >>= λ byte. frag_in (frag_word f) >>= λ frag. Some (byte, Some frag)) (number8_word.again b h.0)
    ∙ ap (λ (o : Option Frag). o >>= λ frag. Some (b, Some frag)) (frag_again f h.1)

byte_from_takes : (ws : Words) (b : Byte) → byte_from ws ≡ Some b → (ws ≡ byte_parts b) × ByteFits b
byte_from_takes [] b e = absurd cc
byte_from_takes (v ∷ []) b e =
    let k = bind_some (number8 v) (λ byte. Some (byte, None)) b e in
    let t = number8_word.takes v k.0 k.1 in
    subst (λ (x : Byte). (v ∷ [] ≡ byte_parts x) × ByteFits x) (same_Some (k.0, None) b k.2) (ap (λ (u : List ℕ). u ∷ []) t.0, (t.1, tt))
byte_from_takes (v ∷ f ∷ []) b e =
    let k = bind_some (number8 v) (λ byte. frag_in f >>= λ frag. Some (byte, Some frag)) b e in
    let l = bind_some (frag_in f) (λ frag. Some (k.0, Some frag)) b k.2 in
    let t = number8_word.takes v k.0 k.1 in
    let u = frag_takes f l.0 l.1 in
    subst (λ (x : Byte). (v ∷ f ∷ [] ≡ byte_parts x) × ByteFits x) (same_Some (k.0, Some l.0) b l.2)
    (ap (λ (z : List ℕ). z ∷ f ∷ []) t.0 ∙ ap (λ (z : List ℕ). decimal k.0 ∷ z ∷ []) u.0, (t.1, u.1))
byte_from_takes (v ∷ f ∷ g ∷ ws) b e = absurd cc

byte_takes : (w : List ℕ) (b : Byte) → byte_in w ≡ Some b → (w ≡ byte_word b) × ByteFits b
unfolding byte_in
byte_takes w b e = let t = byte_from_takes (slice_split (λ c. c == 58) w) b e in (split_is 58 w (byte_parts b) t.0, t.1)

byte_passes : (p : ℕ → Bool) (b : Byte) → ((n : ℕ) → n < 2 ^ 64 → list_all p (decimal n) ≡ true) → p 46 ≡ true → p 58 ≡ true → ByteFits b → list_all p (byte_word b) ≡ true
byte_passes p (b, None) numbers dot colon h = numbers b (omega (arith, h.0))
byte_passes p (b, Some f) numbers dot colon h =
    all_join p 58 (decimal b ∷ frag_word f ∷ []) colon (numbers b (omega (arith, h.0)), (frag_passes p f numbers dot h.1, tt))

bytes_again : (bs : List Byte) → AllByRecursion ByteFits bs → bytes_in (map byte_word bs) ≡ Some bs
unfolding bytes_in
bytes_again [] h = refl
bytes_again (b ∷ bs) h =
    ap (λ (o : Option Byte). o >>= λ x. bytes_in (map byte_word bs) >>= λ xs. Some (x ∷ xs)) (byte_again b h.0)
    ∙ ap (λ (o : Option (List Byte)). o >>= λ xs. Some (b ∷ xs)) (bytes_again bs h.1)

bytes_takes : (ws : Words) (bs : List Byte) → bytes_in ws ≡ Some bs → (ws ≡ map byte_word bs) × AllByRecursion ByteFits bs
unfolding bytes_in
bytes_takes [] bs e = subst (λ (xs : List Byte). ([] ≡ map byte_word xs) × AllByRecursion ByteFits xs) (same_Some [] bs e) (refl, tt)
bytes_takes (w ∷ ws) bs e =
    let k = bind_some (byte_in w) (λ b. bytes_in ws >>= λ xs. Some (b ∷ xs)) bs e in
    let l = bind_some (bytes_in ws) (λ xs. Some (k.0 ∷ xs)) bs k.2 in
    let t = byte_takes w k.0 k.1 in
    let u = bytes_takes ws l.0 l.1 in
    subst (λ (xs : List Byte). (w ∷ ws ≡ map byte_word xs) × AllByRecursion ByteFits xs) (same_Some (k.0 ∷ l.0) bs l.2)
    (ap (λ (z : List ℕ). z ∷ ws) t.0 ∙ ap (λ (zs : Words). byte_word k.0 ∷ zs) u.0, (t.1, u.1))

-- ---- pieces

all_bytes_pass : (p : ℕ → Bool) (bs : List Byte) → ((n : ℕ) → n < 2 ^ 64 → list_all p (decimal n) ≡ true) → p 46 ≡ true → p 58 ≡ true → AllByRecursion ByteFits bs → AllPassing p (map byte_word bs)
all_bytes_pass p [] numbers dot colon h = tt
all_bytes_pass p (b ∷ bs) numbers dot colon h = (byte_passes p b numbers dot colon h.0, all_bytes_pass p bs numbers dot colon h.1)

bytes_pass : (p : ℕ → Bool) (bs : List Byte) → ((n : ℕ) → n < 2 ^ 64 → list_all p (decimal n) ≡ true) → p 46 ≡ true → p 58 ≡ true → p 44 ≡ true → AllByRecursion ByteFits bs → list_all p (bytes_word bs) ≡ true
bytes_pass p bs numbers dot colon comma h = all_join p 44 (map byte_word bs) comma (all_bytes_pass p bs numbers dot colon h)

all_lack : (c : ℕ) (ws : Words) → AllPassing (other_than c) ws → AllLack c ws
all_lack c [] h = tt
all_lack c (w ∷ ws) h = (h.0, all_lack c ws h.1)

enclosed_again : (inner : List ℕ) → Lacks 91 inner → Lacks 93 inner → enclosed (codes "[" ++ (inner ++ codes "]")) ≡ Some inner
unfolding enclosed
enclosed_again inner h k =
    ap (λ (ws : Words). two_of ws >>= opened_in) (split_join 91 [] ((inner ++ codes "]") ∷ []) refl (all_append (other_than 91) inner (codes "]") h refl, tt))
    ∙ ap (λ (ws : Words). two_of ws >>= closed_in) (split_join 93 inner ([] ∷ []) k (refl, tt))

closed_takes : (y : List ℕ × List ℕ) (inner : List ℕ) → closed_in y ≡ Some inner → y ≡ (inner, [])
closed_takes (v, []) inner e = ap (λ (u : List ℕ). (u, [])) (same_Some v inner e)
closed_takes (v, b ∷ bs) inner e = absurd cc

opened_takes : (x : List ℕ × List ℕ) (inner : List ℕ) → opened_in x ≡ Some inner → (x.0 ≡ []) × ((two_of (slice_split (λ b. b == 93) x.1) >>= closed_in) ≡ Some inner)
opened_takes ([], rest) inner e = (refl, e)
opened_takes (b ∷ bs, rest) inner e = absurd cc

enclosed_takes : (w inner : List ℕ) → enclosed w ≡ Some inner → w ≡ codes "[" ++ (inner ++ codes "]")
unfolding enclosed
enclosed_takes w inner e =
    let k = bind_some (two_of (slice_split (λ b. b == 91) w)) opened_in inner e in
    let x = k.0 in
    let o = opened_takes x inner k.2 in
    let l = bind_some (two_of (slice_split (λ b. b == 93) x.1)) closed_in inner o.1 in
    let y = l.0 in
    let whole : w ≡ join_with_byte 91 (x.0 ∷ x.1 ∷ []) = split_is 91 w (x.0 ∷ x.1 ∷ []) (two_takes (slice_split (λ b. b == 91) w) x k.1) in
    let rest : x.1 ≡ join_with_byte 93 (y.0 ∷ y.1 ∷ []) = split_is 93 x.1 (y.0 ∷ y.1 ∷ []) (two_takes (slice_split (λ b. b == 93) x.1) y l.1) in
    let inside : x.1 ≡ inner ++ codes "]" = rest ∙ ap (λ (z : List ℕ × List ℕ). join_with_byte 93 (z.0 ∷ z.1 ∷ [])) (closed_takes y inner l.2) in
    whole ∙ ap (λ (v : List ℕ). join_with_byte 91 (v ∷ x.1 ∷ [])) o.0 ∙ ap (λ (v : List ℕ). 91 ∷ v) inside

few_again : (bs : List Byte) → length bs ≤ 32 → few bs ≡ Some bs
few_again bs h = ap (λ (b : Bool). cond b (Some bs) None) (le-leb (length bs) 32 h)

-- a text with something in it
listed_some : (text : List ℕ) → 0 < length text → listed text ≡ few_in text
listed_some [] h = absurd (omega arith)
listed_some (b ∷ bs) h = refl

first_long : (w : List ℕ) (ws : Words) → 0 < length w → 0 < length (join_with_byte 44 (w ∷ ws))
first_long w [] h = h
first_long w (v ∷ ws) h = omega (arith, length-append w (44 ∷ join_with_byte 44 (v ∷ ws)))

byte_long : (b : Byte) → ByteFits b → 0 < length (byte_word b)
byte_long (b, None) h = decimal_nonempty b (omega (arith, h.0))
byte_long (b, Some f) h = omega (arith, length-append (decimal b) (58 ∷ frag_word f), decimal_nonempty b (omega (arith, h.0)))

listed_again : (bs : List Byte) → PieceFits bs → listed (bytes_word bs) ≡ Some bs
unfolding few_in
listed_again [] h = refl
listed_again (b ∷ bs) h =
    let lacking = all_lack 44 (map byte_word (b ∷ bs)) (all_bytes_pass (other_than 44) (b ∷ bs) (λ n k. lacks_low 44 n (omega arith) k) refl refl h.1) in
    listed_some (bytes_word (b ∷ bs)) (first_long (byte_word b) (map byte_word bs) (byte_long b h.1.0))
    ∙ ap (λ (ws : Words). bytes_in ws >>= few) (split_join 44 (byte_word b) (map byte_word bs) lacking.0 lacking.1)
    ∙ ap (λ (o : Option (List Byte)). o >>= few) (bytes_again (b ∷ bs) h.1)
    ∙ few_again (b ∷ bs) h.0

few_takes : (text : List ℕ) (bs : List Byte) → few_in text ≡ Some bs → (text ≡ bytes_word bs) × PieceFits bs
unfolding few_in
few_takes text bs e =
    let k = bind_some (bytes_in (slice_split (λ c. c == 44) text)) few bs e in
    let t = bytes_takes (slice_split (λ c. c == 44) text) k.0 k.1 in
    let u = cond_some (nat_le (length k.0) 32) k.0 bs k.2 in
    subst (λ (xs : List Byte). (text ≡ bytes_word xs) × PieceFits xs) u.1 (split_is 44 text (map byte_word k.0) t.0, (leb-true (length k.0) 32 u.0, t.1))

listed_takes : (text : List ℕ) (bs : List Byte) → listed text ≡ Some bs → (text ≡ bytes_word bs) × PieceFits bs
listed_takes [] bs e = subst (λ (xs : List Byte). ([] ≡ bytes_word xs) × PieceFits xs) (same_Some [] bs e) (refl, (omega arith, tt))
listed_takes (b ∷ rest) bs e = few_takes (b ∷ rest) bs e

piece_again : (bs : List Byte) → PieceFits bs → piece_in (piece_word bs) ≡ Some bs
unfolding piece_in
piece_again bs h =
    ap (λ (o : Option (List ℕ)). o >>= listed) (enclosed_again (bytes_word bs)
    (bytes_pass (other_than 91) bs (λ n k. lacks_high 91 n (omega arith) k) refl refl refl h.1)
    (bytes_pass (other_than 93) bs (λ n k. lacks_high 93 n (omega arith) k) refl refl refl h.1))
    ∙ listed_again bs h

piece_takes : (w : List ℕ) (bs : List Byte) → piece_in w ≡ Some bs → (w ≡ piece_word bs) × PieceFits bs
unfolding piece_in
piece_takes w bs e =
    let k = bind_some (enclosed w) listed bs e in
    let t = listed_takes k.0 bs k.2 in
    (enclosed_takes w k.0 k.1 ∙ ap (λ (v : List ℕ). codes "[" ++ (v ++ codes "]")) t.0, t.1)

piece_seen : (bs : List Byte) → PieceFits bs → Seen (piece_word bs)
piece_seen bs h = all_append is_seen (bytes_word bs) (codes "]") (bytes_pass is_seen bs number_seen refl refl refl h.1) refl

pub piece_is_word : IsWord PieceFits piece_word piece_in
piece_is_word = record { again = piece_again; takes = piece_takes; seen = piece_seen }
