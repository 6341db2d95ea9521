-- The plain allocation answers as the allocation does, provenance, fragments and verdicts left out.
use Rattle.std.proofs.Common.{◌≡◌, ℕ, zero, suc, ◌+◌, ◌≤◌, Bool, true, false, List, [], ◌∷◌, map, length, refl, sym, ◌∙◌, ap, subst, arith, length-append, length-take, length-take-le, length-drop}
use Rattle.std.specs.Prelude.{Option, Some, None, option_map, replicate, not, if◌then◌else◌, ◌==◌}
use Rattle.std.specs.List.{zip}
use Rattle.std.proofs.lemmas.Bool.{true≢false}
use Rattle.std.proofs.lemmas.Bool.Decides.{nat_tests}
use Rattle.std.proofs.lemmas.List.{length-replicate}
use Rattle.bsan_ids.specs.declared.numbers.Frag.{Frag}
use Rattle.bsan_ids.specs.declared.numbers.Prov.{Prov}
use Rattle.bsan_ids.specs.declared.numbers.Tag.{Tag}
use Rattle.ir_ast.specs.declared.types.Ty.{Ty}
use Rattle.ir_ast.specs.declared.types.Ty.TheVariants.{Int, Ptr}
use Rattle.ir_ast.specs.Words.{width_bytes, ty_bytes, bytes_of}
use Rattle.history.specs.declared.entry.Plain.{Plain}
use Rattle.history.specs.declared.entry.Plain.TheVariants as plain
use Rattle.history.specs.declared.entry.Request.{Request}
use Rattle.history.specs.declared.entry.Request.TheVariants as request
use Rattle.history.specs.declared.trap.Trap.{Trap}
use Rattle.history.specs.declared.trap.Trap.TheVariants as trap
use Rattle.history.specs.Memory.{Memory as Bytes, is_outside, trap_in, next_memory, in_range, put, word_at}
use Rattle.history.specs.Pieces.{fragments_from}
use Rattle.history.specs.Fragments.{Shadow, stored_as, next_shadow}
use Rattle.history.specs.Objects.{Object, Made, data_answer, data_unless, plain_reply, retag_answer, end_answer, answer, Answer, Reborrow, reborrow}
use Rattle.history.specs.Pieces.{Byte}
use Rattle.history.specs.Replies.{trap_of}
use Rattle.runs.specs.Erasure.{without_fragments, erased_plain, erased_reply, erased_request, is_left_out}
use Rattle.runs.specs.PlainObjects.{PlainObject, PlainAnswer, told, plain_value, plain_unless, plain_data, plain_answer}

-- the bytes of an allocation
abbrev pub with_memory : ℕ → Option Made → PlainObject
with_memory number made = record { number = number; memory = option_map (λ (m : Made). m.memory) made }

abbrev pub with_bytes : ℕ → Bytes → PlainObject
with_bytes number bytes = record { number = number; memory = Some bytes }

abbrev pub bytes_of_object : Object → PlainObject
bytes_of_object o = with_memory o.number o.made

-- as many fragments as bytes
abbrev pub HasShadow : Option Made → Type 0
HasShadow None = Unit {0}
HasShadow (Some m) = length m.shadow ≡ length m.memory.bytes

-- lengths ------------------------------------------------------------------------

length_put : {A : Type 0} (at n : ℕ) (new xs : List A) → length new ≡ n → at + n ≤ length xs → length (put at new xs) ≡ length xs
length_put at n new xs is within = grind (arith, length-append, length-take, length-take-le, length-drop)

length_bytes : (n value : ℕ) → length (bytes_of n value) ≡ n
length_bytes zero value = refl
length_bytes (suc n) value = ap suc (length_bytes n _)

length_fragments : (p : Prov) (index n : ℕ) → length (fragments_from p index n) ≡ n
length_fragments p index zero = refl
length_fragments p index (suc n) = ap suc (length_fragments p (index + 1) n)

abbrev no_frag : Option Frag
no_frag = None

length_stored : (ty : Ty) (carried : Option Prov) → length (stored_as ty carried) ≡ ty_bytes ty
length_stored (Int w) carried = length-replicate (width_bytes w) no_frag
length_stored Ptr None = length-replicate 8 no_frag
length_stored Ptr (Some p) = length_fragments p 0 8

-- a request without a trap is inside
within : (size at len : ℕ) → is_outside size (record { start = at; len = len }) ≡ false → at + len ≤ size
within size at len is = grind (arith, nat_tests)

trap_parts : (live : Bool) (out : Bool) (rest : Option Trap) → (if not live then Some trap.Freed else (if out then Some trap.OutOfBounds else rest)) ≡ None → out ≡ false
trap_parts true true rest h = absurd (let z : Some trap.OutOfBounds ≡ None = h in cc)
trap_parts true false rest h = refl
trap_parts false out rest h = absurd (let z : Some trap.Freed ≡ None = h in cc)

length_seconds : (piece : List Byte) → length (map (λ (pair : Byte). pair.1) piece) ≡ length piece
length_seconds [] = refl
length_seconds (b ∷ piece) = ap suc (length_seconds piece)

length_firsts : (piece : List Byte) → length (map (λ (pair : Byte). pair.0) piece) ≡ length piece
length_firsts [] = refl
length_firsts (b ∷ piece) = ap suc (length_firsts piece)

-- a request that isn't trapped leaves as many fragments as bytes
same_lengths : (m : Bytes) (frags : Shadow) (r : Request) → length frags ≡ length m.bytes → trap_in m r ≡ None → length (next_shadow m frags r) ≡ length (next_memory m r).bytes
same_lengths m frags (request.Store at ty value carried prov) same free =
    let fit = within (length m.bytes) at (ty_bytes ty) (trap_parts m.live _ _ free) in
    length_put at (ty_bytes ty) (stored_as ty carried) frags (length_stored ty carried) (omega (arith, fit, same))
    ∙ same ∙ sym (length_put at (ty_bytes ty) (bytes_of (ty_bytes ty) value) m.bytes (length_bytes (ty_bytes ty) value) fit)
same_lengths m frags (request.Modify at width op value prov) same free =
    let fit = within (length m.bytes) at (width_bytes width) (trap_parts m.live _ _ free) in
    length_put at (width_bytes width) (replicate (width_bytes width) no_frag) frags (length-replicate (width_bytes width) no_frag) (omega (arith, fit, same))
    ∙ same ∙ sym (length_put at (width_bytes width) (bytes_of (width_bytes width) _) m.bytes (length_bytes (width_bytes width) _) fit)
same_lengths m frags (request.CmpXchg at width expected value prov) same free =
    let fit = within (length m.bytes) at (width_bytes width) (trap_parts m.live _ _ free) in
    elim (word_at m at (width_bytes width) == expected)
    as (λ b. length (if b then put at (replicate (width_bytes width) no_frag) frags else frags) ≡ length (if b then record m { bytes = put at (bytes_of (width_bytes width) value) m.bytes } else m).bytes) [
      | true ↦
          length_put at (width_bytes width) (replicate (width_bytes width) no_frag) frags (length-replicate (width_bytes width) no_frag) (omega (arith, fit, same))
          ∙ same ∙ sym (length_put at (width_bytes width) (bytes_of (width_bytes width) value) m.bytes (length_bytes (width_bytes width) value) fit)
      | false ↦ same
    ]
same_lengths m frags (request.CopyIn at piece prov) same free =
    let fit = within (length m.bytes) at (length piece) (trap_parts m.live _ _ free) in
    length_put at (length piece) (map (λ (pair : Byte). pair.1) piece) frags (length_seconds piece) (omega (arith, fit, same))
    ∙ same ∙ sym (length_put at (length piece) (map (λ (pair : Byte). pair.0) piece) m.bytes (length_firsts piece) fit)
same_lengths m frags _ same free = same

-- copies ----------------------------------------------------------------------------

zip_bytes : (bs : List ℕ) (fs : Shadow) → length fs ≡ length bs → map (λ byte. (byte, None)) bs ≡ without_fragments (zip bs fs)
zip_bytes [] fs same = refl
zip_bytes (b ∷ bs) [] same = absurd (omega (arith, same))
zip_bytes (b ∷ bs) (f ∷ fs) same = ap (λ l. (b, None) ∷ l) (zip_bytes bs fs (omega (arith, same)))

range_lengths : (at len : ℕ) (bs : List ℕ) (fs : Shadow) → length fs ≡ length bs → length (in_range at len fs) ≡ length (in_range at len bs)
range_lengths at len bs fs same = grind (arith, length-take, length-drop)

same_bytes : (piece : List Byte) → map (λ (pair : Byte). pair.0) (without_fragments piece) ≡ map (λ (pair : Byte). pair.0) piece
same_bytes [] = refl
same_bytes (b ∷ piece) = ap (λ l. b.0 ∷ l) (same_bytes piece)

same_length : (piece : List Byte) → length (without_fragments piece) ≡ length piece
same_length [] = refl
same_length (b ∷ piece) = ap suc (same_length piece)

same_trap : (m : Bytes) (r : Request) → trap_in m (erased_request r) ≡ trap_in m r
same_trap m (request.CopyIn at piece prov) =
    ap (λ n. if not m.live then Some trap.Freed else (if is_outside (length m.bytes) (record { start = at; len = n }) then Some trap.OutOfBounds else None)) (same_length piece)
same_trap m _ = refl

same_value : (m : Made) (r : Request) → length m.shadow ≡ length m.memory.bytes → plain_value m.memory (erased_request r) ≡ erased_plain (plain_reply m r)
same_value m (request.CopyOut at len prov) same =
    ap request_copied (zip_bytes (in_range at len m.memory.bytes) (in_range at len m.shadow) (range_lengths at len m.memory.bytes m.shadow same))
  where
    request_copied : List Byte → Plain
    request_copied piece = plain.Copied piece
same_value m _ same = refl

same_next : (m : Bytes) (r : Request) → next_memory m (erased_request r) ≡ next_memory m r
same_next m (request.CopyIn at piece prov) = ap (λ bytes. record m { bytes = put at bytes m.bytes }) (same_bytes piece)
same_next m _ = refl

-- answers ------------------------------------------------------------------------------

abbrev Alike : Object → Answer → PlainAnswer → Type 0
Alike o a b = (b.reply ≡ erased_reply a.reply) × (b.object ≡ bytes_of_object a.object)

made_object : (o : Object) (m : Made) → o.made ≡ Some m → with_bytes o.number m.memory ≡ bytes_of_object o
made_object o m is = ap (with_memory o.number) (sym is)

unless_alike : (o : Object) (m : Made) (r : Request) → length m.shadow ≡ length m.memory.bytes → (t : Option Trap) → Alike o (data_unless o m r t) (plain_unless (bytes_of_object o) m.memory (erased_request r) t)
unless_alike o m r same (Some t) = (refl, refl)
unless_alike o m r same None =
    (ap told (same_value m r same), ap (with_bytes o.number) (same_next m.memory r))

data_alike : (o : Object) (made : Option Made) (r : Request) → HasShadow made → Alike o (data_answer o made r) (plain_data (bytes_of_object o) (option_map (λ (m : Made). m.memory) made) (erased_request r))
data_alike o None r valid = (refl, refl)
data_alike o (Some m) r valid =
    subst (λ t. Alike o (data_unless o m r (trap_in m.memory r)) (plain_unless (bytes_of_object o) m.memory (erased_request r) t)) (sym (same_trap m.memory r)) (unless_alike o m r valid (trap_in m.memory r))

pub answers_alike : (o : Object) (r : Request) (stamp : ℕ) → HasShadow o.made → is_left_out r ≡ false → Alike o (answer o r (record { 0 = stamp })) (plain_answer (bytes_of_object o) (erased_request r))
answers_alike o (request.Make size place) stamp valid kept = (refl, refl)
answers_alike o (request.Retag at len kind guard prov) stamp valid kept = absurd (true≢false kept)
answers_alike o (request.EndProtector tag) stamp valid kept = absurd (true≢false kept)
answers_alike o (request.Load at ty prov) stamp valid kept = data_alike o o.made (request.Load at ty prov) valid
answers_alike o (request.Store at ty value carried prov) stamp valid kept = data_alike o o.made (request.Store at ty value carried prov) valid
answers_alike o (request.Modify at width op value prov) stamp valid kept = data_alike o o.made (request.Modify at width op value prov) valid
answers_alike o (request.CmpXchg at width expected value prov) stamp valid kept = data_alike o o.made (request.CmpXchg at width expected value prov) valid
answers_alike o (request.CopyOut at len prov) stamp valid kept = data_alike o o.made (request.CopyOut at len prov) valid
answers_alike o (request.CopyIn at piece prov) stamp valid kept = data_alike o o.made (request.CopyIn at piece prov) valid
answers_alike o (request.Free at stack prov) stamp valid kept = data_alike o o.made (request.Free at stack prov) valid
answers_alike o (request.Print value) stamp valid kept = data_alike o o.made (request.Print value) valid
answers_alike o (request.Host n a b) stamp valid kept = data_alike o o.made (request.Host n a b) valid
answers_alike o (request.Spawn f) stamp valid kept = data_alike o o.made (request.Spawn f) valid
answers_alike o (request.Join c) stamp valid kept = data_alike o o.made (request.Join c) valid

-- retags and protector ends leave the bytes
retag_leaves : (o : Object) (made : Option Made) (r : Reborrow) (stamp : ℕ) → o.made ≡ made → bytes_of_object (retag_answer o made r stamp).object ≡ bytes_of_object o
retag_leaves o None r stamp is = refl
retag_leaves o (Some m) r stamp is = made_object o m is

end_leaves : (o : Object) (made : Option Made) (tag : Tag) → o.made ≡ made → bytes_of_object (end_answer o made tag).object ≡ bytes_of_object o
end_leaves o None tag is = refl
end_leaves o (Some m) tag is = made_object o m is

pub leaves_bytes : (o : Object) (r : Request) (stamp : ℕ) → is_left_out r ≡ true → bytes_of_object (answer o r (record { 0 = stamp })).object ≡ bytes_of_object o
leaves_bytes o (request.Retag at len kind guard prov) stamp out = retag_leaves o o.made (reborrow at len kind guard prov) stamp refl
leaves_bytes o (request.EndProtector tag) stamp out = end_leaves o o.made tag refl
leaves_bytes o _ stamp out = absurd (true≢false (sym out))

retag_untrapped : (o : Object) (made : Option Made) (r : Reborrow) (stamp : ℕ) → trap_of (retag_answer o made r stamp).reply.plain ≡ None
retag_untrapped o None r stamp = refl
retag_untrapped o (Some m) r stamp = refl

end_untrapped : (o : Object) (made : Option Made) (tag : Tag) → trap_of (end_answer o made tag).reply.plain ≡ None
end_untrapped o None tag = refl
end_untrapped o (Some m) tag = refl

pub never_traps : (o : Object) (r : Request) (stamp : ℕ) → is_left_out r ≡ true → trap_of (answer o r (record { 0 = stamp })).reply.plain ≡ None
never_traps o (request.Retag at len kind guard prov) stamp out = retag_untrapped o o.made (reborrow at len kind guard prov) stamp
never_traps o (request.EndProtector tag) stamp out = end_untrapped o o.made tag
never_traps o _ stamp out = absurd (true≢false (sym out))

-- every answer leaves as many fragments as bytes
unless_keeps : (o : Object) (m : Made) (r : Request) → length m.shadow ≡ length m.memory.bytes → HasShadow o.made → (t : Option Trap) → trap_in m.memory r ≡ t → HasShadow (data_unless o m r t).object.made
unless_keeps o m r same valid (Some t) is = valid
unless_keeps o m r same valid None is = same_lengths m.memory m.shadow r same is

data_keeps : (o : Object) (made : Option Made) (r : Request) → HasShadow o.made → HasShadow made → HasShadow (data_answer o made r).object.made
data_keeps o None r valid h = valid
data_keeps o (Some m) r valid h = unless_keeps o m r h valid (trap_in m.memory r) refl

retag_keeps : (o : Object) (made : Option Made) (r : Reborrow) (stamp : ℕ) → HasShadow o.made → HasShadow made → HasShadow (retag_answer o made r stamp).object.made
retag_keeps o None r stamp valid h = valid
retag_keeps o (Some m) r stamp valid h = h

end_keeps : (o : Object) (made : Option Made) (tag : Tag) → HasShadow o.made → HasShadow made → HasShadow (end_answer o made tag).object.made
end_keeps o None tag valid h = valid
end_keeps o (Some m) tag valid h = h

pub keeps_shadow : (o : Object) (r : Request) (stamp : ℕ) → HasShadow o.made → HasShadow (answer o r (record { 0 = stamp })).object.made
keeps_shadow o (request.Make size place) stamp valid = length-replicate size no_frag ∙ sym (length-replicate size 0)
keeps_shadow o (request.Retag at len kind guard prov) stamp valid = retag_keeps o o.made (reborrow at len kind guard prov) stamp valid valid
keeps_shadow o (request.EndProtector tag) stamp valid = end_keeps o o.made tag valid valid
keeps_shadow o (request.Load at ty prov) stamp valid = data_keeps o o.made (request.Load at ty prov) valid valid
keeps_shadow o (request.Store at ty value carried prov) stamp valid = data_keeps o o.made (request.Store at ty value carried prov) valid valid
keeps_shadow o (request.Modify at width op value prov) stamp valid = data_keeps o o.made (request.Modify at width op value prov) valid valid
keeps_shadow o (request.CmpXchg at width expected value prov) stamp valid = data_keeps o o.made (request.CmpXchg at width expected value prov) valid valid
keeps_shadow o (request.CopyOut at len prov) stamp valid = data_keeps o o.made (request.CopyOut at len prov) valid valid
keeps_shadow o (request.CopyIn at piece prov) stamp valid = data_keeps o o.made (request.CopyIn at piece prov) valid valid
keeps_shadow o (request.Free at stack prov) stamp valid = data_keeps o o.made (request.Free at stack prov) valid valid
keeps_shadow o (request.Print value) stamp valid = data_keeps o o.made (request.Print value) valid valid
keeps_shadow o (request.Host n a b) stamp valid = data_keeps o o.made (request.Host n a b) valid valid
keeps_shadow o (request.Spawn f) stamp valid = data_keeps o o.made (request.Spawn f) valid valid
keeps_shadow o (request.Join c) stamp valid = data_keeps o o.made (request.Join c) valid valid
