-- Words in a row: traps, ends, requests and replies.
use Rattle.std.proofs.Common.{◌≡◌, ℕ, Bool, List, [], ◌∷◌, ◌++◌, Some, refl, ap, ◌∙◌}
use Rattle.std.specs.Prelude.{codes}
use Rattle.std.specs.Fmt.{decimal}
use Rattle.perm_table.specs.declared.Perm.{Perm}
use Rattle.perm_table.specs.declared.Guard.{Guard}
use Rattle.perm_table.specs.declared.RetagKind.{RetagKind}
use Rattle.eager_tree.specs.declared.violation.Violation.TheVariants as violation
use Rattle.ir_ast.specs.Keywords.{width_word, type_word, kind_word, modify_word}
use Rattle.ir_ast.specs.declared.types.Width.{Width}
use Rattle.ir_ast.specs.declared.types.Ty.{Ty}
use Rattle.ir_ast.specs.declared.types.Place.{Place}
use Rattle.ir_ast.specs.declared.operators.ModifyOp.{ModifyOp}
use Rattle.target_code.specs.Words.{guard_word, place_word}
use Rattle.history.specs.declared.trap.Trap.{Trap}
use Rattle.history.specs.declared.trap.Trap.TheVariants as trap
use Rattle.history.specs.declared.log.End.{End}
use Rattle.history.specs.declared.log.End.TheVariants as ends
use Rattle.history.specs.declared.entry.Plain.{Plain}
use Rattle.history.specs.declared.entry.Plain.TheVariants as plain
use Rattle.history.specs.declared.entry.Verdict.{Verdict}
use Rattle.history.specs.declared.entry.Verdict.TheVariants as verdict
use Rattle.record_text.specs.declared.keys.PlainKey.{PlainKey}
use Rattle.record_text.specs.declared.keys.PlainKey.TheVariants as plain_key
use Rattle.record_text.specs.declared.keys.VerdictKey.{VerdictKey}
use Rattle.record_text.specs.declared.keys.VerdictKey.TheVariants as verdict_key
use Rattle.record_text.specs.declared.keys.EndKey.{EndKey}
use Rattle.record_text.specs.declared.keys.EndKey.TheVariants as end_key
use Rattle.record_text.specs.Words.{perm_name, trap_name, flag_word, side_word, prov_word, piece_word, trap_words, end_words, plain_words, verdict_words}
use Rattle.record_text.specs.Ranges.{Fits8, Fits32, Fits64, ProvFits, PieceFits, TrapFits, EndFits, PlainFits, VerdictFits}
use Rattle.record_text.specs.Reading.{Words, one, both, lookup, number64, number32, number8}
use Rattle.record_text.specs.Tables.{types, widths, modifiers, kinds, guards, places, perms, traps, flags, sides, plain_key_word, plain_keys, verdict_key_word, verdict_keys, end_key_word, end_keys}
use Rattle.record_text.specs.Parts.{with_drawn, trap_at, returned_of, step_limit_of, child_ended_of, end_tail, end_at, made_of, spawned_of, plain_tail, plain_at, denied_of, denied_at, strong_free_of, strong_free_at, verdict_tail, verdict_at}
use Rattle.record_text.specs.Parts.{prov_in, piece_in}
use Rattle.record_text.proofs.Codecs.{IsField, AllSeen, lookup_takes, one_word, both_fields, tail_again, tail_takes, given_takes, chosen_takes}
use Rattle.record_text.proofs.Decimals.{number64_word, number32_word, number8_word}
use Rattle.record_text.proofs.Singles.{type_is_word, width_is_word, modify_is_word, kind_is_word, guard_is_word, place_is_word, perm_is_word, flag_is_word, side_is_word, prov_is_word}
use Rattle.record_text.proofs.PieceWords.{piece_is_word}

-- ---- single words as fields

pub f64 : IsField Fits64 (λ n. decimal n ∷ []) (one number64)
f64 = one_word number64_word

pub f32 : IsField Fits32 (λ n. decimal n ∷ []) (one number32)
f32 = one_word number32_word

pub f8 : IsField Fits8 (λ n. decimal n ∷ []) (one number8)
f8 = one_word number8_word

pub fprov : IsField ProvFits (λ p. prov_word p ∷ []) (one prov_in)
fprov = one_word prov_is_word

pub fpiece : IsField PieceFits (λ p. piece_word p ∷ []) (one piece_in)
fpiece = one_word piece_is_word

pub ftype : IsField (λ (a : Ty). Unit {0}) (λ a. type_word a ∷ []) (one (lookup types))
ftype = one_word type_is_word

pub fwidth : IsField (λ (a : Width). Unit {0}) (λ a. width_word a ∷ []) (one (lookup widths))
fwidth = one_word width_is_word

pub fmodify : IsField (λ (a : ModifyOp). Unit {0}) (λ a. modify_word a ∷ []) (one (lookup modifiers))
fmodify = one_word modify_is_word

pub fkind : IsField (λ (a : RetagKind). Unit {0}) (λ a. kind_word a ∷ []) (one (lookup kinds))
fkind = one_word kind_is_word

pub fguard : IsField (λ (a : Guard). Unit {0}) (λ a. guard_word a ∷ []) (one (lookup guards))
fguard = one_word guard_is_word

pub fplace : IsField (λ (a : Place). Unit {0}) (λ a. place_word a ∷ []) (one (lookup places))
fplace = one_word place_is_word

pub fperm : IsField (λ (a : Perm). Unit {0}) (λ a. perm_name a ∷ []) (one (lookup perms))
fperm = one_word perm_is_word

pub fflag : IsField (λ (a : Bool). Unit {0}) (λ a. flag_word a ∷ []) (one (lookup flags))
fflag = one_word flag_is_word

pub fside : IsField (λ (a : Bool). Unit {0}) (λ a. side_word a ∷ []) (one (lookup sides))
fside = one_word side_is_word

-- ---- traps

trap_tail_takes : (t : Trap) (ws : Words) (a : Trap) (rest : Words) → with_drawn t ws ≡ Some (a, rest) → (trap_name t ∷ ws ≡ trap_words a ++ rest) × TrapFits a
trap_tail_takes trap.DivZero = given_takes trap.DivZero TrapFits trap_words (codes "DivZero") refl tt
trap_tail_takes trap.ShiftTooFar = given_takes trap.ShiftTooFar TrapFits trap_words (codes "ShiftTooFar") refl tt
trap_tail_takes trap.NoAllocation = given_takes trap.NoAllocation TrapFits trap_words (codes "NoAllocation") refl tt
trap_tail_takes trap.OutOfBounds = given_takes trap.OutOfBounds TrapFits trap_words (codes "OutOfBounds") refl tt
trap_tail_takes trap.Freed = given_takes trap.Freed TrapFits trap_words (codes "Freed") refl tt
trap_tail_takes trap.BadFree = given_takes trap.BadFree TrapFits trap_words (codes "BadFree") refl tt
trap_tail_takes trap.BadSize = given_takes trap.BadSize TrapFits trap_words (codes "BadSize") refl tt
trap_tail_takes (trap.AllocLimit n) = tail_takes f64 trap.AllocLimit TrapFits trap_words (codes "AllocLimit") (λ a. refl) (λ a h. h)
trap_tail_takes (trap.ThreadLimit n) = tail_takes f64 trap.ThreadLimit TrapFits trap_words (codes "ThreadLimit") (λ a. refl) (λ a h. h)
trap_tail_takes trap.DepthLimit = given_takes trap.DepthLimit TrapFits trap_words (codes "DepthLimit") refl tt
trap_tail_takes trap.Unreachable = given_takes trap.Unreachable TrapFits trap_words (codes "Unreachable") refl tt

trap_takes : (ws : Words) (a : Trap) (rest : Words) → trap_at ws ≡ Some (a, rest) → (ws ≡ trap_words a ++ rest) × TrapFits a
unfolding trap_at
trap_takes ws a rest e =
    let c = chosen_takes traps with_drawn ws (a, rest) e in
    let t = trap_tail_takes c.key c.more a rest c.tells in
    (c.whole ∙ ap (λ (w : List ℕ). w ∷ c.more) (lookup_takes trap_name (trap.NoAllocation ∷ trap.OutOfBounds ∷ trap.Freed ∷ trap.BadFree ∷ trap.BadSize ∷ trap.DivZero ∷ trap.ShiftTooFar ∷ trap.AllocLimit 0 ∷ trap.ThreadLimit 0 ∷ trap.DepthLimit ∷ trap.Unreachable ∷ []) c.word c.key c.found) ∙ t.0, t.1)

trap_again : (a : Trap) (rest : Words) → TrapFits a → trap_at (trap_words a ++ rest) ≡ Some (a, rest)
unfolding trap_at
trap_again trap.DivZero rest h = refl
trap_again trap.ShiftTooFar rest h = refl
trap_again trap.NoAllocation rest h = refl
trap_again trap.OutOfBounds rest h = refl
trap_again trap.Freed rest h = refl
trap_again trap.BadFree rest h = refl
trap_again trap.BadSize rest h = refl
trap_again (trap.AllocLimit n) rest h = tail_again f64 trap.AllocLimit n rest h
trap_again (trap.ThreadLimit n) rest h = tail_again f64 trap.ThreadLimit n rest h
trap_again trap.DepthLimit rest h = refl
trap_again trap.Unreachable rest h = refl

trap_seen : (a : Trap) → TrapFits a → AllSeen (trap_words a)
trap_seen trap.DivZero h = (refl, tt)
trap_seen trap.ShiftTooFar h = (refl, tt)
trap_seen trap.NoAllocation h = (refl, tt)
trap_seen trap.OutOfBounds h = (refl, tt)
trap_seen trap.Freed h = (refl, tt)
trap_seen trap.BadFree h = (refl, tt)
trap_seen trap.BadSize h = (refl, tt)
trap_seen (trap.AllocLimit n) h = (refl, f64.seen n h)
trap_seen (trap.ThreadLimit n) h = (refl, f64.seen n h)
trap_seen trap.DepthLimit h = (refl, tt)
trap_seen trap.Unreachable h = (refl, tt)

pub trap_field : IsField TrapFits trap_words trap_at
trap_field = record { again = trap_again; takes = trap_takes; seen = trap_seen }

-- ---- ends

returned_parts : IsField (λ x. Fits64 x.0 × ProvFits x.1) (λ x. (decimal x.0 ∷ []) ++ (prov_word x.1 ∷ [])) (both (one number64) (one prov_in))
returned_parts = both_fields f64 fprov

end_tail_takes : (k : EndKey) (ws : Words) (a : End) (rest : Words) → end_tail k ws ≡ Some (a, rest) → (end_key_word k ∷ ws ≡ end_words a ++ rest) × EndFits a
end_tail_takes end_key.Returned = tail_takes returned_parts returned_of EndFits end_words (codes "returned") (λ a. refl) (λ a h. h)
end_tail_takes end_key.Trapped = tail_takes trap_field ends.Trapped EndFits end_words (codes "trapped") (λ a. refl) (λ a h. h)
end_tail_takes end_key.StepLimit = tail_takes f64 step_limit_of EndFits end_words (codes "steplimit") (λ a. refl) (λ a h. h)
end_tail_takes end_key.TurnLimit = given_takes ends.TurnLimit EndFits end_words (codes "turnlimit") refl tt
end_tail_takes end_key.NoMemory = given_takes ends.NoMemory EndFits end_words (codes "nomemory") refl tt
end_tail_takes end_key.ChildEnded = tail_takes f32 child_ended_of EndFits end_words (codes "childended") (λ a. refl) (λ a h. h)

end_takes : (ws : Words) (a : End) (rest : Words) → end_at ws ≡ Some (a, rest) → (ws ≡ end_words a ++ rest) × EndFits a
unfolding end_at
end_takes ws a rest e =
    let c = chosen_takes end_keys end_tail ws (a, rest) e in
    let t = end_tail_takes c.key c.more a rest c.tells in
    (c.whole ∙ ap (λ (w : List ℕ). w ∷ c.more) (lookup_takes end_key_word (end_key.Returned ∷ end_key.Trapped ∷ end_key.StepLimit ∷ end_key.TurnLimit ∷ end_key.NoMemory ∷ end_key.ChildEnded ∷ []) c.word c.key c.found) ∙ t.0, t.1)

end_again : (a : End) (rest : Words) → EndFits a → end_at (end_words a ++ rest) ≡ Some (a, rest)
unfolding end_at
end_again (ends.Returned value carried) rest h = tail_again returned_parts returned_of (value, carried) rest h
end_again (ends.Trapped t) rest h = tail_again trap_field ends.Trapped t rest h
end_again (ends.StepLimit stamp) rest h = tail_again f64 step_limit_of stamp.0 rest h
end_again ends.TurnLimit rest h = refl
end_again ends.NoMemory rest h = refl
end_again (ends.ChildEnded child) rest h = tail_again f32 child_ended_of child.0 rest h

end_seen : (a : End) → EndFits a → AllSeen (end_words a)
end_seen (ends.Returned value carried) h = (refl, returned_parts.seen (value, carried) h)
end_seen (ends.Trapped t) h = (refl, trap_field.seen t h)
end_seen (ends.StepLimit stamp) h = (refl, f64.seen stamp.0 h)
end_seen ends.TurnLimit h = (refl, tt)
end_seen ends.NoMemory h = (refl, tt)
end_seen (ends.ChildEnded child) h = (refl, f32.seen child.0 h)

pub end_field : IsField EndFits end_words end_at
end_field = record { again = end_again; takes = end_takes; seen = end_seen }

-- ---- replies

plain_tail_takes : (k : PlainKey) (ws : Words) (a : Plain) (rest : Words) → plain_tail k ws ≡ Some (a, rest) → (plain_key_word k ∷ ws ≡ plain_words a ++ rest) × PlainFits a
plain_tail_takes plain_key.Made = tail_takes f32 made_of PlainFits plain_words (codes "made") (λ a. refl) (λ a h. h)
plain_tail_takes plain_key.Value = tail_takes f64 plain.Value PlainFits plain_words (codes "value") (λ a. refl) (λ a h. h)
plain_tail_takes plain_key.Copied = tail_takes fpiece plain.Copied PlainFits plain_words (codes "copied") (λ a. refl) (λ a h. h)
plain_tail_takes plain_key.Done = given_takes plain.Done PlainFits plain_words (codes "done") refl tt
plain_tail_takes plain_key.Retagged = tail_takes fflag plain.Retagged PlainFits plain_words (codes "retagged") (λ a. refl) (λ a h. h)
plain_tail_takes plain_key.Spawned = tail_takes f32 spawned_of PlainFits plain_words (codes "spawned") (λ a. refl) (λ a h. h)
plain_tail_takes plain_key.Trapped = tail_takes trap_field plain.Trapped PlainFits plain_words (codes "trapped") (λ a. refl) (λ a h. h)

plain_takes : (ws : Words) (a : Plain) (rest : Words) → plain_at ws ≡ Some (a, rest) → (ws ≡ plain_words a ++ rest) × PlainFits a
unfolding plain_at
plain_takes ws a rest e =
    let c = chosen_takes plain_keys plain_tail ws (a, rest) e in
    let t = plain_tail_takes c.key c.more a rest c.tells in
    (c.whole ∙ ap (λ (w : List ℕ). w ∷ c.more) (lookup_takes plain_key_word (plain_key.Made ∷ plain_key.Value ∷ plain_key.Copied ∷ plain_key.Done ∷ plain_key.Retagged ∷ plain_key.Spawned ∷ plain_key.Trapped ∷ []) c.word c.key c.found) ∙ t.0, t.1)

plain_again : (a : Plain) (rest : Words) → PlainFits a → plain_at (plain_words a ++ rest) ≡ Some (a, rest)
unfolding plain_at
plain_again (plain.Made number) rest h = tail_again f32 made_of number.0 rest h
plain_again (plain.Value value) rest h = tail_again f64 plain.Value value rest h
plain_again (plain.Copied piece) rest h = tail_again fpiece plain.Copied piece rest h
plain_again plain.Done rest h = refl
plain_again (plain.Retagged added) rest h = tail_again fflag plain.Retagged added rest h
plain_again (plain.Spawned number) rest h = tail_again f32 spawned_of number.0 rest h
plain_again (plain.Trapped t) rest h = tail_again trap_field plain.Trapped t rest h

plain_seen : (a : Plain) → PlainFits a → AllSeen (plain_words a)
plain_seen (plain.Made number) h = (refl, f32.seen number.0 h)
plain_seen (plain.Value value) h = (refl, f64.seen value h)
plain_seen (plain.Copied piece) h = (refl, fpiece.seen piece h)
plain_seen plain.Done h = (refl, tt)
plain_seen (plain.Retagged added) h = (refl, fflag.seen added h)
plain_seen (plain.Spawned number) h = (refl, f32.seen number.0 h)
plain_seen (plain.Trapped t) h = (refl, trap_field.seen t h)

pub plain_field : IsField PlainFits plain_words plain_at
plain_field = record { again = plain_again; takes = plain_takes; seen = plain_seen }

-- ---- verdicts

denied_parts : IsField (λ x. Fits32 x.0 × (Fits64 x.1.0 × (Unit {0} × Unit {0}))) (λ x. (decimal x.0 ∷ []) ++ ((decimal x.1.0 ∷ []) ++ ((perm_name x.1.1.0 ∷ []) ++ (side_word x.1.1.1 ∷ [])))) (both (one number32) (both (one number64) (both (one (lookup perms)) (one (lookup sides)))))
denied_parts = both_fields f32 (both_fields f64 (both_fields fperm fside))

strong_parts : IsField (λ x. Fits32 x.0 × (Fits64 x.1.0 × Unit {0})) (λ x. (decimal x.0 ∷ []) ++ ((decimal x.1.0 ∷ []) ++ (perm_name x.1.1 ∷ []))) (both (one number32) (both (one number64) (one (lookup perms))))
strong_parts = both_fields f32 (both_fields f64 fperm)

verdict_tail_takes : (k : VerdictKey) (ws : Words) (a : Verdict) (rest : Words) → verdict_tail k ws ≡ Some (a, rest) → (verdict_key_word k ∷ ws ≡ verdict_words a ++ rest) × VerdictFits a
unfolding denied_at strong_free_at
verdict_tail_takes verdict_key.Clean = given_takes verdict.Clean VerdictFits verdict_words (codes "clean") refl tt
verdict_tail_takes verdict_key.Closed = given_takes verdict.Closed VerdictFits verdict_words (codes "closed") refl tt
verdict_tail_takes verdict_key.Denied = tail_takes denied_parts denied_of VerdictFits verdict_words (codes "denied") (λ a. refl) (λ a h. (h.0, h.1.0))
verdict_tail_takes verdict_key.StrongFree = tail_takes strong_parts strong_free_of VerdictFits verdict_words (codes "strongfree") (λ a. refl) (λ a h. (h.0, h.1.0))
verdict_tail_takes verdict_key.Stranger = given_takes (verdict.Violated violation.Stranger) VerdictFits verdict_words (codes "stranger") refl tt
verdict_tail_takes verdict_key.Freed = given_takes (verdict.Violated violation.Freed) VerdictFits verdict_words (codes "freed") refl tt
verdict_tail_takes verdict_key.OutOfRange = given_takes (verdict.Violated violation.OutOfRange) VerdictFits verdict_words (codes "outofrange") refl tt

verdict_takes : (ws : Words) (a : Verdict) (rest : Words) → verdict_at ws ≡ Some (a, rest) → (ws ≡ verdict_words a ++ rest) × VerdictFits a
unfolding verdict_at
verdict_takes ws a rest e =
    let c = chosen_takes verdict_keys verdict_tail ws (a, rest) e in
    let t = verdict_tail_takes c.key c.more a rest c.tells in
    (c.whole ∙ ap (λ (w : List ℕ). w ∷ c.more) (lookup_takes verdict_key_word (verdict_key.Clean ∷ verdict_key.Closed ∷ verdict_key.Denied ∷ verdict_key.StrongFree ∷ verdict_key.Stranger ∷ verdict_key.Freed ∷ verdict_key.OutOfRange ∷ []) c.word c.key c.found) ∙ t.0, t.1)

verdict_again : (a : Verdict) (rest : Words) → VerdictFits a → verdict_at (verdict_words a ++ rest) ≡ Some (a, rest)
unfolding verdict_at denied_at strong_free_at
verdict_again verdict.Clean rest h = refl
verdict_again verdict.Closed rest h = refl
verdict_again (verdict.Violated (violation.Denied offset node perm local)) rest h = tail_again denied_parts denied_of (offset, (node.0, (perm, local))) rest (h.0, (h.1, (tt, tt)))
verdict_again (verdict.Violated (violation.StrongFree offset node perm)) rest h = tail_again strong_parts strong_free_of (offset, (node.0, perm)) rest (h.0, (h.1, tt))
verdict_again (verdict.Violated violation.Stranger) rest h = refl
verdict_again (verdict.Violated violation.Freed) rest h = refl
verdict_again (verdict.Violated violation.OutOfRange) rest h = refl

verdict_seen : (a : Verdict) → VerdictFits a → AllSeen (verdict_words a)
verdict_seen verdict.Clean h = (refl, tt)
verdict_seen verdict.Closed h = (refl, tt)
verdict_seen (verdict.Violated (violation.Denied offset node perm local)) h = (refl, denied_parts.seen (offset, (node.0, (perm, local))) (h.0, (h.1, (tt, tt))))
verdict_seen (verdict.Violated (violation.StrongFree offset node perm)) h = (refl, strong_parts.seen (offset, (node.0, perm)) (h.0, (h.1, tt)))
verdict_seen (verdict.Violated violation.Stranger) h = (refl, tt)
verdict_seen (verdict.Violated violation.Freed) h = (refl, tt)
verdict_seen (verdict.Violated violation.OutOfRange) h = (refl, tt)

pub verdict_field : IsField VerdictFits verdict_words verdict_at
verdict_field = record { again = verdict_again; takes = verdict_takes; seen = verdict_seen }
