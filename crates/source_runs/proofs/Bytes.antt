-- An allocation's bytes stay bytes, and words read from them are of their types.
use Rattle.std.proofs.Common.{◌≡◌, ℕ, zero, suc, ◌+◌, ◌/◌, ◌^◌, ◌<◌, ◌≤◌, inl, inr, List, [], ◌∷◌, ◌++◌, length, map, take, drop, replicate, reverse, Option, Some, None, Bool, true, false, if◌then◌else◌, refl, sym, ap, ◌∙◌, subst, arith}
use Rattle.std.specs.Prelude.{not, ◌==◌}
use Rattle.std.specs.List.{zip}
use native.Mathlib.Nat.{pow-suc}
use Rattle.std.proofs.lemmas.Bool.Decides.{nat_tests}
use Rattle.std.proofs.lemmas.List.{length-take, length-drop, length-reverse, reverse-append}
use Rattle.std.proofs.lemmas.Nat.{mod_below}
use Rattle.bsan_ids.specs.declared.numbers.AllocNo.{AllocNo}
use Rattle.bsan_ids.specs.declared.numbers.Tag.{Tag}
use Rattle.bsan_ids.specs.declared.numbers.Prov.{Prov}
use Rattle.history.specs.Histories.{HasBytes}
use Rattle.history.specs.declared.entry.Entry.{Entry}
use Rattle.history.specs.declared.entry.Plain.TheVariants as plain
use Rattle.history.specs.declared.entry.Reply.{Reply}
use Rattle.history.specs.declared.entry.Request.{Request}
use Rattle.history.specs.declared.entry.Request.TheVariants as request
use Rattle.history.specs.declared.entry.Verdict.{Verdict}
use Rattle.history.specs.declared.trap.Trap.{Trap}
use Rattle.history.specs.declared.trap.Trap.TheVariants as trap
use Rattle.history.specs.Fragments.{Shadow, loaded_as}
use Rattle.history.specs.Memory.{Memory, in_range, put, word_at, next_memory, trap_in, is_outside}
use Rattle.history.specs.Objects.{Object, Made, clean, prov_of, plain_reply, carried_by, judged, through, step_of, data_unless, data_answer, is_clean, retag_judged, retag_answer, end_answer, answer, Reborrow, reborrow}
use Rattle.history.specs.Pieces.{Byte}
use Rattle.ir_ast.specs.Tokens.{Each}
use Rattle.ir_ast.specs.Words.{width_bytes, ty_bytes, word_of, bytes_of, bits, word_bits}
use Rattle.ir_ast.specs.declared.types.Ty.{Ty}
use Rattle.ir_ast.specs.declared.types.Ty.TheVariants.{Int, Ptr}
use Rattle.ir_ast.specs.declared.types.Width.{Width}
use Rattle.ir_ast.specs.declared.types.Width.TheVariants.{W8, W16, W32, W64}
use Rattle.perm_table.specs.declared.Guard.{Guard}
use Rattle.perm_table.specs.declared.RetagKind.{RetagKind}
use Rattle.runs.proofs.PlainMemory.{HasShadow, keeps_shadow}
use Rattle.thread_parts.specs.Words.{prov_at}
use Rattle.thread_parts.specs.Fits.{ReplyFits}
use Rattle.source_runs.specs.Invariant.{AreBytes, PlainFits}
use Rattle.source_runs.proofs.OwnLimits.{answer_own}
use Rattle.source_runs.specs.Allocations.{MadeFits, ObjectFits, IsOfAllocation, IsMake, AllocationLaw}

abbrev IsByte : ℕ → Type 0
IsByte b = b < 256

abbrev Bytes : List ℕ → Type 0
Bytes = Each IsByte

-- bytes in lists

bytes_both : (xs ys : List ℕ) → Bytes xs → Bytes ys → Bytes (xs ++ ys)
bytes_both [] ys one two = two
bytes_both (x ∷ xs) ys one two = (one.0, bytes_both xs ys one.1 two)

bytes_take : (n : ℕ) (xs : List ℕ) → Bytes xs → Bytes (take n xs)
bytes_take zero xs all = tt
bytes_take (suc n) [] all = tt
bytes_take (suc n) (x ∷ xs) all = (all.0, bytes_take n xs all.1)

bytes_drop : (n : ℕ) (xs : List ℕ) → Bytes xs → Bytes (drop n xs)
bytes_drop zero xs all = all
bytes_drop (suc n) [] all = tt
bytes_drop (suc n) (x ∷ xs) all = bytes_drop n xs all.1

bytes_put : (at : ℕ) (new xs : List ℕ) → Bytes new → Bytes xs → Bytes (put at new xs)
bytes_put at new xs fresh all =
    bytes_both (take at xs ++ new) (drop (at + length new) xs) (bytes_both (take at xs) new (bytes_take at xs all) fresh) (bytes_drop (at + length new) xs all)

bytes_written : (n v : ℕ) → Bytes (bytes_of n v)
bytes_written zero v = tt
bytes_written (suc n) v = (mod_below v 256 (omega arith), bytes_written n (v / 256))

bytes_zero : (n : ℕ) → Bytes (replicate n 0)
bytes_zero zero = tt
bytes_zero (suc n) = (omega arith, bytes_zero n)

bytes_firsts : (piece : List Byte) → AreBytes piece → Bytes (map (λ (pair : Byte). pair.0) piece)
bytes_firsts [] all = tt
bytes_firsts (b ∷ piece) all = (all.0, bytes_firsts piece all.1)

bytes_zip : (bs : List ℕ) (fs : Shadow) → Bytes bs → AreBytes (zip bs fs)
bytes_zip [] fs all = tt
bytes_zip (b ∷ bs) [] all = tt
bytes_zip (b ∷ bs) (f ∷ fs) all = (all.0, bytes_zip bs fs all.1)

zip_length : (bs : List ℕ) (fs : Shadow) → length fs ≡ length bs → length (zip bs fs) ≡ length bs
zip_length [] fs same = refl
zip_length (b ∷ bs) [] same = absurd (omega (arith, same))
zip_length (b ∷ bs) (f ∷ fs) same = ap suc (zip_length bs fs (omega (arith, same)))

range_lengths : (at len : ℕ) (bs : List ℕ) (fs : Shadow) → length fs ≡ length bs → length (in_range at len fs) ≡ length (in_range at len bs)
range_lengths at len bs fs same = grind (arith, length-take, length-drop)

range_length : (at len : ℕ) (bs : List ℕ) → at + len ≤ length bs → length (in_range at len bs) ≡ len
range_length at len bs fits = grind (arith, length-take, length-drop)

-- words

read_word : (n : ℕ) (xs : List ℕ) → Bytes xs → word_of (take n xs) < 256 ^ n
read_word zero xs all = omega arith
read_word (suc n) [] all = by_pos (256 ^ suc n) (power_pos (suc n))
  where
    power_pos : (k : ℕ) → 0 < 256 ^ k
    power_pos zero = omega arith
    power_pos (suc k) = let more = power_pos k in let e = pow-suc 256 k in omega (arith, more, e)

    by_pos : (m : ℕ) → 0 < m → 0 < m
    by_pos m less = less
read_word (suc n) (x ∷ xs) all =
    let rest = read_word n xs all.1 in
    let one : x < 256 = all.0 in
    let e = pow-suc 256 n in omega (arith, rest, one, e)

word_read : (m : Memory) (at n : ℕ) → Bytes m.bytes → word_at m at n < 256 ^ n
word_read m at n all = read_word n (drop at m.bytes) (bytes_drop at m.bytes all)

width_read : (m : Memory) (at : ℕ) (w : Width) → Bytes m.bytes → word_at m at (width_bytes w) < 2 ^ bits w
width_read m at W8 all = word_read m at 1 all
width_read m at W16 all = word_read m at 2 all
width_read m at W32 all = word_read m at 4 all
width_read m at W64 all = word_read m at 8 all

type_read : (m : Memory) (at : ℕ) (ty : Ty) → Bytes m.bytes → word_at m at (ty_bytes ty) < 2 ^ word_bits ty
type_read m at (Int w) all = width_read m at w all
type_read m at Ptr all = word_read m at 8 all

loaded_prov : (ty : Ty) (frags : Shadow) → prov_at ty (loaded_as ty frags) ≡ loaded_as ty frags
loaded_prov (Int w) frags = refl
loaded_prov Ptr frags = refl

words_of : (xs : List ℕ) → Bytes xs → word_of xs < 256 ^ length xs
words_of [] all = omega arith
words_of (x ∷ xs) all =
    let rest = words_of xs all.1 in
    let one : x < 256 = all.0 in
    let e = pow-suc 256 (length xs) in omega (arith, rest, one, e)

bytes_reverse : (xs : List ℕ) → Bytes xs → Bytes (reverse xs)
bytes_reverse [] all = tt
bytes_reverse (x ∷ xs) all = subst Bytes (sym (reverse-append (x ∷ []) xs)) (bytes_both (reverse xs) (x ∷ []) (bytes_reverse xs all.1) (all.0, tt))

written_length : (n v : ℕ) → length (bytes_of n v) ≡ n
written_length zero v = refl
written_length (suc n) v = ap suc (written_length n (v / 256))

pub swapped_word : (v : ℕ) → word_of (reverse (bytes_of 8 v)) < 2 ^ 64
swapped_word v =
    let bs : List ℕ = bytes_of 8 v in
    let less : word_of (reverse bs) < 256 ^ length (reverse bs) = words_of (reverse bs) (bytes_reverse bs (bytes_written 8 v)) in
    let eight : length (reverse bs) ≡ 8 = length-reverse bs ∙ written_length 8 v in
    subst (λ n. word_of (reverse bs) < 256 ^ n) eight less

-- requests without a trap are inside

within : (size at len : ℕ) → is_outside size (record { start = at; len = len }) ≡ false → at + len ≤ size
within size at len is = grind (arith, nat_tests)

trap_parts : (live : Bool) (out : Bool) (rest : Option Trap) → (if not live then Some trap.Freed else (if out then Some trap.OutOfBounds else rest)) ≡ None → out ≡ false
trap_parts true true rest h = absurd (let z : Some trap.OutOfBounds ≡ None = h in cc)
trap_parts true false rest h = refl
trap_parts false out rest h = absurd (let z : Some trap.Freed ≡ None = h in cc)

-- what is left ------------------------------------------------------------------------

next_bytes : (m : Memory) (r : Request) → Bytes m.bytes → HasBytes r → Bytes (next_memory m r).bytes
next_bytes m (request.Store at ty value carried prov) all piece = bytes_put at (bytes_of (ty_bytes ty) value) m.bytes (bytes_written (ty_bytes ty) value) all
next_bytes m (request.Modify at width op value prov) all piece = bytes_put at (bytes_of (width_bytes width) _) m.bytes (bytes_written (width_bytes width) _) all
next_bytes m (request.CmpXchg at width expected value prov) all piece = by_test (word_at m at (width_bytes width) == expected)
  where
    by_test : (b : Bool) → Bytes (if b then record m { bytes = put at (bytes_of (width_bytes width) value) m.bytes } else m).bytes
    by_test true = bytes_put at (bytes_of (width_bytes width) value) m.bytes (bytes_written (width_bytes width) value) all
    by_test false = all
next_bytes m (request.CopyIn at bytes prov) all piece = bytes_put at (map (λ (pair : Byte). pair.0) bytes) m.bytes (bytes_firsts bytes piece) all
next_bytes m _ all piece = all

abbrev BytesFit : Option Made → Type 0
BytesFit None = Unit {0}
BytesFit (Some m) = Bytes m.memory.bytes

bytes_fit : (made : Option Made) → MadeFits made → BytesFit made
bytes_fit None fits = tt
bytes_fit (Some m) fits = fits.0

has_shadow : (made : Option Made) → MadeFits made → HasShadow made
has_shadow None fits = tt
has_shadow (Some m) fits = fits.1

both_fit : (made : Option Made) → BytesFit made → HasShadow made → MadeFits made
both_fit None bytes shadow = tt
both_fit (Some m) bytes shadow = (bytes, shadow)

-- the number and the bytes of what is left
abbrev Left : ℕ → Object → Type 0
Left a o = (o.number ≡ a) × BytesFit o.made

unless_left : (a : ℕ) (o : Object) (m : Made) (r : Request) (t : Option Trap) → Left a o → Bytes m.memory.bytes → HasBytes r → Left a (data_unless o m r t).object
unless_left a o m r (Some t) left all piece = left
unless_left a o m r None left all piece = (left.0, next_bytes m.memory r all piece)

data_left : (a : ℕ) (o : Object) (made : Option Made) (r : Request) → Left a o → BytesFit made → HasBytes r → Left a (data_answer o made r).object
data_left a o None r left all piece = left
data_left a o (Some m) r left all piece = unless_left a o m r (trap_in m.memory r) left all piece

retag_left : (a : ℕ) (o : Object) (made : Option Made) (r : Reborrow) (stamp : ℕ) → Left a o → BytesFit made → Left a (retag_answer o made r stamp).object
retag_left a o None r stamp left all = left
retag_left a o (Some m) r stamp left all = (left.0, all)

end_left : (a : ℕ) (o : Object) (made : Option Made) (tag : Tag) → Left a o → BytesFit made → Left a (end_answer o made tag).object
end_left a o None tag left all = left
end_left a o (Some m) tag left all = (left.0, all)

answer_left : (a : ℕ) (o : Object) (r : Request) (stamp : ℕ) → Left a o → HasBytes r → Left a (answer o r (record { 0 = stamp })).object
answer_left a o (request.Make size place) stamp left piece = (left.0, bytes_zero size)
answer_left a o (request.Retag at len kind guard prov) stamp left piece = retag_left a o o.made (reborrow at len kind guard prov) stamp left left.1
answer_left a o (request.EndProtector tag) stamp left piece = end_left a o o.made tag left left.1
answer_left a o (request.Load at ty prov) stamp left piece = data_left a o o.made (request.Load at ty prov) left left.1 piece
answer_left a o (request.Store at ty value carried prov) stamp left piece = data_left a o o.made (request.Store at ty value carried prov) left left.1 piece
answer_left a o (request.Modify at width op value prov) stamp left piece = data_left a o o.made (request.Modify at width op value prov) left left.1 piece
answer_left a o (request.CmpXchg at width expected value prov) stamp left piece = data_left a o o.made (request.CmpXchg at width expected value prov) left left.1 piece
answer_left a o (request.CopyOut at len prov) stamp left piece = data_left a o o.made (request.CopyOut at len prov) left left.1 piece
answer_left a o (request.CopyIn at bytes prov) stamp left piece = data_left a o o.made (request.CopyIn at bytes prov) left left.1 piece
answer_left a o (request.Free at stack prov) stamp left piece = data_left a o o.made (request.Free at stack prov) left left.1 piece
answer_left a o (request.Print value) stamp left piece = data_left a o o.made (request.Print value) left left.1 piece
answer_left a o (request.Host n x y) stamp left piece = data_left a o o.made (request.Host n x y) left left.1 piece
answer_left a o (request.Spawn f) stamp left piece = data_left a o o.made (request.Spawn f) left left.1 piece
answer_left a o (request.Join c) stamp left piece = data_left a o o.made (request.Join c) left left.1 piece

object_next : (a : ℕ) (o : Object) (r : Request) (stamp : ℕ) → ObjectFits a o → HasBytes r → ObjectFits a (answer o r (record { 0 = stamp })).object
object_next a o r stamp fits piece =
    let left = answer_left a o r stamp (fits.number, bytes_fit o.made fits.made) piece in
    record { number = left.0; made = both_fit _ left.1 (keeps_shadow o r stamp (has_shadow o.made fits.made)) }

-- what is answered ----------------------------------------------------------------------

module _ (G : Reply → Type 0) (r : Request) (traps : (t : Trap) → G (clean (plain.Trapped t) None))
    (done : (m : Made) (v : Verdict) → MadeFits (Some m) → trap_in m.memory r ≡ None → G (record { plain = plain_reply m r; carried = carried_by m r; verdict = v })) where
  unless_replies : (o : Object) (m : Made) (t : Option Trap) → MadeFits (Some m) → trap_in m.memory r ≡ t → G (data_unless o m r t).reply
  unless_replies o m (Some t) fits is = traps t
  unless_replies o m None fits is = done m (judged o.number m (through r) (step_of m.tree r)).verdict fits is

  data_replies : (o : Object) (made : Option Made) → MadeFits made → G (data_answer o made r).reply
  data_replies o None fits = traps trap.NoAllocation
  data_replies o (Some m) fits = unless_replies o m (trap_in m.memory r) fits refl

-- the entry with this reply fits the request
abbrev Suits : Option Ty → Entry → Request → Reply → Type 0
Suits ty e r q = ReplyFits ty (record e { reply = q }) r × PlainFits q.plain

module _ (ty : Option Ty) (e : Entry) (a : AllocNo) (named : e.alloc ≡ Some a) (o : Object) (fits : ObjectFits a.0 o) where
  retag_replies : (at len : ℕ) (kind : RetagKind) (guard : Guard) (prov : Option Prov) (made : Option Made) → Suits ty e (request.Retag at len kind guard prov) (retag_answer o made (reborrow at len kind guard prov) e.stamp.0).reply
  retag_replies at len kind guard prov None = (tt, tt)
  retag_replies at len kind guard prov (Some m) =
      by_clean (retag_judged o.number m (reborrow at len kind guard prov) e.stamp.0).verdict (is_clean (retag_judged o.number m (reborrow at len kind guard prov) e.stamp.0).verdict)
    where
      by_clean : (v : Verdict) (b : Bool) → Suits ty e (request.Retag at len kind guard prov) (record { plain = plain.Retagged b; carried = if b then Some (prov_of o.number e.stamp.0) else through (request.Retag at len kind guard prov); verdict = v })
      by_clean v true = ((a, named, ap (λ n. Some (prov_of n e.stamp.0)) fits.number), tt)
      by_clean v false = (tt, tt)

  end_replies : (tag : Tag) (made : Option Made) → Suits ty e (request.EndProtector tag) (end_answer o made tag).reply
  end_replies tag None = (tt, tt)
  end_replies tag (Some m) = (tt, tt)

  replies : (r : Request) → (IsMake r → a.0 < 2 ^ 32) → IsOfAllocation r → Suits ty e r (answer o r e.stamp).reply
  replies (request.Make size place) short of = ((named ∙ ap (λ n. Some (record { 0 = n })) (sym fits.number), refl), subst (λ n. n < 2 ^ 32) (sym fits.number) (short tt))
  replies (request.Retag at len kind guard prov) short of = retag_replies at len kind guard prov o.made
  replies (request.EndProtector tag) short of = end_replies tag o.made
  replies (request.Load at u prov) short of =
      data_replies (Suits ty e (request.Load at u prov)) (request.Load at u prov) (λ t. (tt, tt))
      (λ m v made is. (record { word = type_read m.memory at u made.0; prov = loaded_prov u (in_range at 8 m.shadow) }, tt)) o o.made fits.made
  replies (request.Store at u value carried prov) short of =
      data_replies (Suits ty e (request.Store at u value carried prov)) (request.Store at u value carried prov) (λ t. (inr tt, tt)) (λ m v made is. (inl tt, tt)) o o.made fits.made
  replies (request.Modify at w op value prov) short of =
      data_replies (Suits ty e (request.Modify at w op value prov)) (request.Modify at w op value prov) (λ t. (tt, tt)) (λ m v made is. (record { word = width_read m.memory at w made.0; prov = refl }, tt)) o o.made fits.made
  replies (request.CmpXchg at w expected value prov) short of =
      data_replies (Suits ty e (request.CmpXchg at w expected value prov)) (request.CmpXchg at w expected value prov) (λ t. (tt, tt)) (λ m v made is. (record { word = width_read m.memory at w made.0; prov = refl }, tt)) o o.made fits.made
  replies (request.CopyOut at len prov) short of =
      data_replies (Suits ty e (request.CopyOut at len prov)) (request.CopyOut at len prov) (λ t. (tt, tt))
      (λ m v made is.
      let inside = within (length m.memory.bytes) at len (trap_parts m.memory.live _ _ is) in
      let bs : List ℕ = in_range at len m.memory.bytes in
      let fs : Shadow = in_range at len m.shadow in
      (zip_length bs fs (range_lengths at len m.memory.bytes m.shadow made.1) ∙ range_length at len m.memory.bytes inside, bytes_zip bs fs (bytes_take len (drop at m.memory.bytes) (bytes_drop at m.memory.bytes made.0))))
      o o.made fits.made
  replies (request.CopyIn at piece prov) short of =
      data_replies (Suits ty e (request.CopyIn at piece prov)) (request.CopyIn at piece prov) (λ t. (inr tt, tt)) (λ m v made is. (inl tt, tt)) o o.made fits.made
  replies (request.Free at stack prov) short of =
      data_replies (Suits ty e (request.Free at stack prov)) (request.Free at stack prov) (λ t. (inr tt, tt)) (λ m v made is. (inl tt, tt)) o o.made fits.made
  replies (request.Print v) short of = absurd of
  replies (request.Host n x y) short of = absurd of
  replies (request.Spawn f) short of = absurd of
  replies (request.Join c) short of = absurd of

pub allocation_law : AllocationLaw
allocation_law = record {
  first = λ a. record { number = refl; made = tt };
  next = object_next;
  replies = λ a o e ty fits short of named is. subst (λ q. Suits ty e e.request q) (sym is) (replies ty e a named o fits e.request short of);
  own = answer_own;
}
