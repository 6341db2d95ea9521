-- Words that are joined by spaces, and lines in a row.
use Rattle.std.proofs.Common.{◌≡◌, ℕ, List, [], ◌∷◌, ◌++◌, Bool, cond, Option, Some, zero, suc, ◌+◌, map, take, refl, sym, ap, ◌∙◌, append_assoc, append-nil, arith}
use Rattle.std.specs.Prelude.{codes}
use Rattle.std.specs.List.{flat_map, join_with_byte, slice_get}
use Rattle.std.proofs.lemmas.Option.{same_Some}
use Rattle.history.specs.Pieces.{Byte}
use Rattle.std.proofs.lemmas.Grind.{flat_map-append}
use Rattle.bsan_ids.specs.declared.numbers.AllocNo.{AllocNo}
use Rattle.history.specs.declared.entry.Entry.{Entry}
use Rattle.history.specs.declared.entry.Request.{Request}
use Rattle.history.specs.declared.entry.Request.TheVariants as request
use Rattle.history.specs.declared.entry.Plain.{Plain}
use Rattle.history.specs.declared.entry.Plain.TheVariants as plain
use Rattle.history.specs.declared.entry.Verdict.{Verdict}
use Rattle.history.specs.declared.entry.Verdict.TheVariants as verdict
use Rattle.eager_tree.specs.declared.violation.Violation.TheVariants as violation
use Rattle.history.specs.declared.log.End.{End}
use Rattle.history.specs.declared.log.End.TheVariants as ends
use Rattle.history.specs.declared.trap.Trap.{Trap}
use Rattle.history.specs.declared.trap.Trap.TheVariants as trap
use Rattle.history.specs.declared.log.ThreadLog.{ThreadLog}
use Rattle.record_text.specs.declared.line.Line.{Line}
use Rattle.record_text.specs.declared.line.Line.TheVariants as line
use Rattle.record_text.specs.Words.{request_words, plain_words, verdict_words, end_words, trap_words}
use Rattle.std.specs.Fmt.{decimal}
use Rattle.bsan_ids.specs.declared.numbers.Counters.{Counters}
use Rattle.history.specs.declared.record.RunRecord.{RunRecord}
use Rattle.record_text.specs.Words.{prov_word, parent_word, byte_word, bytes_word}
use Rattle.record_text.specs.Lines.{step_of, head_of, line_text, log_lines, ended, lines_text, record_text}
use Rattle.record_text.proofs.States.{lt_true}
use Rattle.record_text.specs.Written.{comma, step_text, head_text, first_text, log_text, written}

abbrev pub IsCons : List (List ℕ) → Type 0
IsCons [] = ⊥
IsCons (w ∷ ws) = Unit {0}

pub join_append : (v w : List (List ℕ)) → IsCons v → IsCons w → join_with_byte 32 (v ++ w) ≡ join_with_byte 32 v ++ 32 ∷ join_with_byte 32 w
join_append [] w h k = absurd h
join_append (a ∷ []) [] h k = absurd k
join_append (a ∷ []) (b ∷ w) h k = refl
join_append (a ∷ c ∷ v) w h k =
    ap (λ (x : List ℕ). a ++ 32 ∷ x) (join_append (c ∷ v) w tt k) ∙ sym (append_assoc a (32 ∷ join_with_byte 32 (c ∷ v)) (32 ∷ join_with_byte 32 w))

pub request_some : (a : Option AllocNo) (r : Request) → IsCons (request_words a r)
request_some a (request.Make size place) = tt
request_some a r = tt

trap_some : (t : Trap) → IsCons (trap_words t)
trap_some (trap.AllocLimit n) = tt
trap_some t = tt

pub plain_some : (p : Plain) → IsCons (plain_words p)
plain_some (plain.Made n) = tt
plain_some p = tt

pub verdict_some : (v : Verdict) → IsCons (verdict_words v)
verdict_some verdict.Clean = tt
verdict_some verdict.Closed = tt
verdict_some (verdict.Violated violation.Stranger) = tt
verdict_some (verdict.Violated v) = tt

pub end_some : (e : End) → IsCons (end_words e)
end_some ends.TurnLimit = tt
end_some e = tt

cons_append : (v w : List (List ℕ)) → IsCons v → IsCons (v ++ w)
cons_append [] w h = absurd h
cons_append (a ∷ v) w h = tt

-- ---- lines, as they are written

append_text : (v w : List (List ℕ)) → IsCons v → IsCons w → ended (join_with_byte 32 (v ++ w)) ≡ join_with_byte 32 v ++ 32 ∷ ended (join_with_byte 32 w)
append_text v w h k = ap ended (join_append v w h k) ∙ append_assoc (join_with_byte 32 v) (32 ∷ join_with_byte 32 w) (codes "\n")

cons_text : (a : List ℕ) (w : List (List ℕ)) → IsCons w → ended (join_with_byte 32 (a ∷ w)) ≡ a ++ 32 ∷ ended (join_with_byte 32 w)
cons_text a w k = append_text (a ∷ []) w tt k

-- five parts in front of others
regrouped : (a b c d e x : List ℕ) → (a ++ (b ++ (c ++ (d ++ e)))) ++ x ≡ a ++ (b ++ (c ++ (d ++ (e ++ x))))
regrouped a b c d e x = simp append_assoc

step_is : (e : Entry) → step_text e ≡ ended (line_text (line.Step (step_of e)))
unfolding line_text
step_is e =
    let r : List (List ℕ) = request_words e.alloc e.request in
    let p : List (List ℕ) = plain_words e.reply.plain in
    let v : List (List ℕ) = verdict_words e.reply.verdict in
    let c : List ℕ = prov_word e.reply.carried in
    let some_plain : IsCons (p ++ c ∷ v) = cons_append p (c ∷ v) (plain_some e.reply.plain) in
    let some_request : IsCons (r ++ codes "=" ∷ (p ++ c ∷ v)) = cons_append r (codes "=" ∷ (p ++ c ∷ v)) (request_some e.alloc e.request) in
    let last : List ℕ = codes " = " ++ (join_with_byte 32 p ++ (codes " " ++ (c ++ (codes " " ++ (join_with_byte 32 v ++ codes "\n"))))) in
    regrouped (decimal e.stamp.0) (codes " ") (decimal e.site) (codes " ") (join_with_byte 32 r) last
    ∙ sym (cons_text (decimal e.stamp.0) (decimal e.site ∷ (r ++ codes "=" ∷ (p ++ c ∷ v))) tt
    ∙ ap (λ (x : List ℕ). decimal e.stamp.0 ++ 32 ∷ x) (cons_text (decimal e.site) (r ++ codes "=" ∷ (p ++ c ∷ v)) some_request
    ∙ ap (λ (x : List ℕ). decimal e.site ++ 32 ∷ x) (append_text r (codes "=" ∷ (p ++ c ∷ v)) (request_some e.alloc e.request) tt
    ∙ ap (λ (x : List ℕ). join_with_byte 32 r ++ 32 ∷ x) (cons_text (codes "=") (p ++ c ∷ v) some_plain
    ∙ ap (λ (x : List ℕ). codes "=" ++ 32 ∷ x) (append_text p (c ∷ v) (plain_some e.reply.plain) tt
    ∙ ap (λ (x : List ℕ). join_with_byte 32 p ++ 32 ∷ x) (cons_text c v (verdict_some e.reply.verdict)))))))

head_is : (log : ThreadLog) → head_text log ≡ ended (line_text (line.Thread (head_of log)))
unfolding line_text
head_is log =
    let e : List (List ℕ) = end_words log.end in
    let n : List ℕ = decimal log.number.0 in
    let p : List ℕ = parent_word log.parent in
    let f : List ℕ = decimal log.entry_function in
    let i : List ℕ = decimal log.instructions in
    let l : List ℕ = decimal log.last in
    let rest : List ℕ = codes " " ++ (i ++ (codes " " ++ (l ++ (codes " " ++ (join_with_byte 32 e ++ codes "\n"))))) in
    ap (λ (x : List ℕ). codes "thread " ++ x) (regrouped n (codes " ") p (codes " ") f rest)
    ∙ sym (cons_text (codes "thread") (n ∷ p ∷ f ∷ i ∷ l ∷ e) tt
    ∙ ap (λ (x : List ℕ). codes "thread" ++ 32 ∷ x) (cons_text n (p ∷ f ∷ i ∷ l ∷ e) tt
    ∙ ap (λ (x : List ℕ). n ++ 32 ∷ x) (cons_text p (f ∷ i ∷ l ∷ e) tt
    ∙ ap (λ (x : List ℕ). p ++ 32 ∷ x) (cons_text f (i ∷ l ∷ e) tt
    ∙ ap (λ (x : List ℕ). f ++ 32 ∷ x) (cons_text i (l ∷ e) tt
    ∙ ap (λ (x : List ℕ). i ++ 32 ∷ x) (cons_text l e (end_some log.end)))))))

first_is : (c : Counters) → first_text c ≡ ended (line_text line.Title) ++ ended (line_text (line.Words c))
unfolding line_text
first_is c =
    let s : List ℕ = decimal c.stamps in
    let a : List ℕ = decimal c.allocs in
    let t : List ℕ = decimal c.threads in
    ap (λ (x : List ℕ). codes "record 1\n" ++ x) (sym (cons_text (codes "words") (s ∷ a ∷ t ∷ []) tt
    ∙ ap (λ (x : List ℕ). codes "words" ++ 32 ∷ x) (cons_text s (a ∷ t ∷ []) tt
    ∙ ap (λ (x : List ℕ). s ++ 32 ∷ x) (cons_text a (t ∷ []) tt))))

end_is : ended (line_text line.End) ≡ codes "end\n"
unfolding line_text
end_is = refl

steps_are : (es : List Entry) → flat_map step_text es ≡ lines_text (map (λ e. line.Step (step_of e)) es)
steps_are [] = refl
steps_are (e ∷ es) = ap (λ (x : List ℕ). x ++ flat_map step_text es) (step_is e) ∙ ap (λ (x : List ℕ). ended (line_text (line.Step (step_of e))) ++ x) (steps_are es)

log_is : (log : ThreadLog) → log_text log ≡ lines_text (log_lines log)
log_is log = ap (λ (x : List ℕ). x ++ flat_map step_text log.entries) (head_is log) ∙ ap (λ (x : List ℕ). ended (line_text (line.Thread (head_of log))) ++ x) (steps_are log.entries)

abbrev one_text : Line → List ℕ
one_text l = ended (line_text l)

logs_are : (logs : List ThreadLog) → flat_map log_text logs ≡ lines_text (flat_map log_lines logs)
logs_are [] = refl
logs_are (log ∷ logs) =
    ap (λ (x : List ℕ). x ++ flat_map log_text logs) (log_is log) ∙ ap (λ (x : List ℕ). lines_text (log_lines log) ++ x) (logs_are logs)
    ∙ sym (flat_map-append one_text (log_lines log) (flat_map log_lines logs))

pub written_is : (kept : RunRecord) → written kept ≡ record_text kept
written_is kept =
    let logs : List Line = flat_map log_lines kept.threads in
    let title : List ℕ = ended (line_text line.Title) in
    let words : List ℕ = ended (line_text (line.Words kept.words)) in
    let last : lines_text (logs ++ line.End ∷ []) ≡ lines_text logs ++ codes "end\n" =
    flat_map-append one_text logs (line.End ∷ []) ∙ ap (λ (x : List ℕ). lines_text logs ++ x) (append-nil (ended (line_text line.End)) ∙ end_is) in
    ap (λ (x : List ℕ). (x ++ flat_map log_text kept.threads) ++ codes "end\n") (first_is kept.words)
    ∙ ap (λ (x : List ℕ). ((title ++ words) ++ x) ++ codes "end\n") (logs_are kept.threads)
    ∙ append_assoc (title ++ words) (lines_text logs) (codes "end\n")
    ∙ append_assoc title words (lines_text logs ++ codes "end\n")
    ∙ ap (λ (x : List ℕ). title ++ (words ++ x)) (sym last)

-- ---- bytes of a piece

-- what stands before a word that is appended
abbrev separator : ℕ → List (List ℕ) → List ℕ
separator c [] = []
separator c (w ∷ ws) = c ∷ []

join_push : (c : ℕ) (v : List (List ℕ)) (w : List ℕ) → join_with_byte c (v ++ w ∷ []) ≡ join_with_byte c v ++ (separator c v ++ w)
join_push c [] w = refl
join_push c (a ∷ []) w = refl
join_push c (a ∷ b ∷ v) w = ap (λ (x : List ℕ). a ++ c ∷ x) (join_push c (b ∷ v) w) ∙ sym (append_assoc a (c ∷ join_with_byte c (b ∷ v)) (c ∷ w))

take_get : {A : Type 0} (xs : List A) (i : ℕ) (x : A) → slice_get xs i ≡ Some x → take (i + 1) xs ≡ take i xs ++ x ∷ []
take_get [] i x e = absurd cc
take_get (y ∷ ys) zero x e = ap (λ z. z ∷ []) (same_Some y x e)
take_get (y ∷ ys) (suc i) x e =
    let k : suc i + 1 ≡ suc (i + 1) = omega arith in
    ap (λ (n : ℕ). take n (y ∷ ys)) k ∙ ap (λ zs. y ∷ zs) (take_get ys i x e)

map_push : (bs : List Byte) (b : Byte) → map byte_word (bs ++ b ∷ []) ≡ map byte_word bs ++ byte_word b ∷ []
map_push [] b = refl
map_push (x ∷ xs) b = ap (λ (ws : List (List ℕ)). byte_word x ∷ ws) (map_push xs b)

comma_is : (piece : List Byte) (at : ℕ) (b : Byte) → slice_get piece at ≡ Some b → separator 44 (map byte_word (take at piece)) ≡ comma at
comma_is [] at b e = absurd cc
comma_is (x ∷ xs) zero b e = refl
comma_is (x ∷ xs) (suc at) b e = ap (λ (t : Bool). cond t (codes ",") []) (sym (lt_true 0 (suc at) (omega arith)))

pub bytes_push : (piece : List Byte) (at : ℕ) (b : Byte) (old mid new sep word : List ℕ) → slice_get piece at ≡ Some b → old ≡ bytes_word (take at piece) → sep ≡ comma at → mid ≡ old ++ sep → word ≡ byte_word b → new ≡ mid ++ word
    → new ≡ bytes_word (take (at + 1) piece)
bytes_push piece at b old mid new sep word e was comma_at one is two =
    let words : List (List ℕ) = map byte_word (take at piece) in
    two ∙ ap (λ (x : List ℕ). x ++ word) (one ∙ ap (λ (x : List ℕ). x ++ sep) was ∙ ap (λ (x : List ℕ). bytes_word (take at piece) ++ x) (comma_at ∙ sym (comma_is piece at b e)))
    ∙ ap (λ (x : List ℕ). (bytes_word (take at piece) ++ separator 44 words) ++ x) is
    ∙ append_assoc (bytes_word (take at piece)) (separator 44 words) (byte_word b)
    ∙ sym (join_push 44 words (byte_word b))
    ∙ ap (join_with_byte 44) (sym (map_push (take at piece) b))
    ∙ ap bytes_word (sym (take_get piece at b e))
