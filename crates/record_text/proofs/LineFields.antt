-- Lines: what is read of a line is what was written, and each line is read again.
use Rattle.std.proofs.Common.{◌≡◌, ℕ, ◌≤◌, ◌==◌, true, false, List, [], ◌∷◌, ◌++◌, Option, Some, None, refl, sym, ap, subst, ◌∙◌, append-nil, arith}
use Rattle.std.specs.Prelude.{codes}
use Rattle.std.specs.Fmt.{decimal}
use Rattle.std.specs.List.{list_all, slice_split, join_with_byte}
use Rattle.std.proofs.lemmas.Bool.Decides.{nat_tests}
use Rattle.std.proofs.lemmas.Option.{same_Some, some_pair_parts}
use Rattle.bsan_ids.specs.Names.{is_digit}
use Rattle.bsan_ids.specs.declared.numbers.AllocNo.{AllocNo}
use Rattle.history.specs.declared.entry.Request.{Request}
use Rattle.history.specs.declared.entry.Request.TheVariants as request
use Rattle.history.specs.declared.entry.Plain.{Plain}
use Rattle.history.specs.declared.entry.Plain.TheVariants as plain
use Rattle.history.specs.declared.entry.Reply.{Reply}
use Rattle.record_text.specs.declared.keys.LineKey.{LineKey}
use Rattle.record_text.specs.declared.keys.LineKey.TheVariants as line_key
use Rattle.record_text.specs.declared.line.Step.{Step}
use Rattle.record_text.specs.declared.line.Line.{Line}
use Rattle.record_text.specs.declared.line.Line.TheVariants as line
use Rattle.record_text.specs.Words.{prov_word, parent_word, request_words, plain_words, verdict_words, end_words}
use Rattle.record_text.specs.Lines.{step_words, line_words, line_text}
use Rattle.record_text.specs.Ranges.{Fits32, Fits64, ProvFits, ParentFits, EndFits, RequestFits, PlainFits, VerdictFits, CountersFit, HeadFits, asked, IsMadeAs, StepFits, LineFits}
use Rattle.record_text.specs.Texts.{IsLine}
use Rattle.record_text.specs.Reading.{Words, other_than, Reader, ◌>>=◌, one, both, mapped, given, passed, nothing_left, all_of, lookup, number64, number32}
use Rattle.record_text.specs.Tables.{line_key_word, line_keys}
use Rattle.record_text.specs.Parts.{Asked, parent_in, end_at, prov_in, plain_at, verdict_at}
use Rattle.record_text.specs.Whole.{counters_of, counters_at, head_from, head_at, reply_of, reply_at, alloc_of, step_from, step_parts_at, step_at, line_tail, line_or_step, line_at, line_in}
use Rattle.record_text.proofs.Codecs.{IsField, AllSeen, is_seen, bind_some, lookup_takes, one_word, both_fields, tail_again, tail_takes, given_takes, passed_takes, behind_field}
use Rattle.record_text.proofs.Decimals.{all_weaker, number_digits}
use Rattle.record_text.proofs.Cuts.{AllLack, split_join, split_is, AllPassing, all_join, lacks_each}
use Rattle.record_text.proofs.Singles.{parent_is_word}
use Rattle.record_text.proofs.WordFields.{f64, f32, fprov, end_field, plain_field, verdict_field}
use Rattle.record_text.proofs.RequestFields.{request_field}

-- what is read as a value of another form
made_field : {A B : Type 0} {ok : A → Type 0} {write : A → Words} {r : Reader A} → IsField ok write r → (f : A → B) (g : B → A) → ((b : B) → f (g b) ≡ b) → ((a : A) → g (f a) ≡ a) → IsField (λ b. ok (g b)) (λ b. write (g b)) (mapped f r)
made_field {A} {B} {ok} {write} {r} c f g back there = record { again = again; takes = takes; seen = λ b h. c.seen (g b) h }
  where
    again : (b : B) (rest : Words) → ok (g b) → mapped f r (write (g b) ++ rest) ≡ Some (b, rest)
    again b rest h = tail_again c f (g b) rest h ∙ ap (λ (x : B). Some (x, rest)) (back b)

    takes : (ws : Words) (b : B) (rest : Words) → mapped f r ws ≡ Some (b, rest) → (ws ≡ write (g b) ++ rest) × ok (g b)
    takes ws b rest e =
        let k = bind_some (r ws) (λ x. Some (f x.0, x.1)) (b, rest) e in
        let x = k.0 in
        let p = some_pair_parts (f x.0) b x.1 rest k.2 in
        let t = c.takes ws x.0 x.1 k.1 in
        let same : x.0 ≡ g b = sym (there x.0) ∙ ap g p.0 in
        (t.0 ∙ ap (λ (a : A). write a ++ x.1) same ∙ ap (λ (vs : Words). write (g b) ++ vs) p.1, subst ok same t.1)

-- ---- counters and heads

counters_parts : IsField (λ x. Fits64 x.0 × (Fits64 x.1.0 × Fits64 x.1.1)) (λ x. (decimal x.0 ∷ []) ++ ((decimal x.1.0 ∷ []) ++ (decimal x.1.1 ∷ []))) (both (one number64) (both (one number64) (one number64)))
counters_parts = both_fields f64 (both_fields f64 f64)

counters_field : IsField CountersFit (λ c. decimal c.stamps ∷ decimal c.allocs ∷ decimal c.threads ∷ []) counters_at
unfolding counters_at
counters_field = made_field counters_parts counters_of (λ c. (c.stamps, (c.allocs, c.threads))) (λ c. refl) (λ a. refl)

head_parts : IsField (λ x. Fits32 x.0 × (ParentFits x.1.0 × (Fits32 x.1.1.0 × (Fits64 x.1.1.1.0 × (Fits32 x.1.1.1.1.0 × EndFits x.1.1.1.1.1)))))
    (λ x. (decimal x.0 ∷ []) ++ ((parent_word x.1.0 ∷ []) ++ ((decimal x.1.1.0 ∷ []) ++ ((decimal x.1.1.1.0 ∷ []) ++ ((decimal x.1.1.1.1.0 ∷ []) ++ end_words x.1.1.1.1.1)))))
    (both (one number32) (both (one parent_in) (both (one number32) (both (one number64) (both (one number32) end_at)))))
head_parts = both_fields f32 (both_fields (one_word parent_is_word) (both_fields f32 (both_fields f64 (both_fields f32 end_field))))

head_field : IsField HeadFits (λ h. decimal h.number.0 ∷ parent_word h.parent ∷ decimal h.entry_function ∷ decimal h.instructions ∷ decimal h.last ∷ end_words h.end) head_at
unfolding head_at
head_field = made_field head_parts head_from (λ h. (h.number.0, (h.parent, (h.entry_function, (h.instructions, (h.last, h.end)))))) (λ h. refl) (λ a. refl)

-- ---- steps

reply_parts : IsField (λ x. PlainFits x.0 × (ProvFits x.1.0 × VerdictFits x.1.1)) (λ x. plain_words x.0 ++ ((prov_word x.1.0 ∷ []) ++ verdict_words x.1.1)) (both plain_at (both (one prov_in) verdict_at))
reply_parts = both_fields plain_field (both_fields fprov verdict_field)

reply_field : IsField (λ (r : Reply). PlainFits r.plain × (ProvFits r.carried × VerdictFits r.verdict)) (λ r. plain_words r.plain ++ (prov_word r.carried ∷ verdict_words r.verdict)) reply_at
unfolding reply_at
reply_field = made_field reply_parts reply_of (λ r. (r.plain, (r.carried, r.verdict))) (λ r. refl) (λ a. refl)

abbrev Parts : Type 0
Parts = ℕ × (ℕ × (Asked × Reply))

abbrev PartsFit : Parts → Type 0
PartsFit x = Fits64 x.0 × (Fits32 x.1.0 × (RequestFits x.1.1.0 × (PlainFits x.1.1.1.plain × (ProvFits x.1.1.1.carried × VerdictFits x.1.1.1.verdict))))

abbrev parts_words : Parts → Words
parts_words x = (decimal x.0 ∷ []) ++ ((decimal x.1.0 ∷ []) ++ (request_words x.1.1.0.0 x.1.1.0.1 ++ (codes "=" ∷ (plain_words x.1.1.1.plain ++ (prov_word x.1.1.1.carried ∷ verdict_words x.1.1.1.verdict)))))

parts_field : IsField PartsFit parts_words step_parts_at
unfolding step_parts_at
parts_field = both_fields f64 (both_fields f32 (both_fields request_field (behind_field (codes "=") refl reply_field)))

abbrev parts_of : Step → Parts
parts_of s = (s.stamp.0, (s.site, ((asked s.alloc s.request, s.request), s.reply)))

asked_words : (alloc : Option AllocNo) (r : Request) → request_words (asked alloc r) r ≡ request_words alloc r
asked_words alloc (request.Make size place) = refl
asked_words alloc r = refl

alloc_again : (alloc : Option AllocNo) (r : Request) (p : Plain) → IsMadeAs alloc r p → alloc_of (asked alloc r) r p ≡ Some alloc
alloc_again alloc (request.Make size place) (plain.Made number) h = ap (λ (o : Option AllocNo). Some o) (sym h)
alloc_again alloc (request.Make size place) p h = absurd h
alloc_again alloc r p h = refl

alloc_takes : (al : Option AllocNo) (r : Request) (p : Plain) (alloc : Option AllocNo) → alloc_of al r p ≡ Some alloc → RequestFits (al, r) → (asked alloc r ≡ al) × IsMadeAs alloc r p
alloc_takes al (request.Make size place) (plain.Made number) alloc e h = (sym h.0, sym (same_Some (Some number) alloc e))
alloc_takes al (request.Make size place) p alloc e h = absurd cc
alloc_takes al r p alloc e h = (sym (same_Some al alloc e), tt)

step_words_are : (s : Step) → parts_words (parts_of s) ≡ step_words s
step_words_are s = ap (λ (vs : Words). decimal s.stamp.0 ∷ decimal s.site ∷ (vs ++ (codes "=" ∷ (plain_words s.reply.plain ++ (prov_word s.reply.carried ∷ verdict_words s.reply.verdict))))) (asked_words s.alloc s.request)

abbrev made_step : Parts → Option AllocNo → Step
made_step x alloc = record { stamp = record { 0 = x.0 }; site = x.1.0; alloc = alloc; request = x.1.1.0.1; reply = x.1.1.1 }

step_again : (s : Step) (rest : Words) → StepFits s → step_at (step_words s ++ rest) ≡ Some (s, rest)
unfolding step_at
step_again s rest h =
    let fits : PartsFit (parts_of s) = (h.0, (h.1.0, (h.1.1.0, h.1.1.1.0))) in
    ap (λ (ws : Words). step_parts_at (ws ++ rest) >>= λ x. step_from x.0 >>= λ t. Some (t, x.1)) (sym (step_words_are s))
    ∙ ap (λ (o : Option (Parts × Words)). o >>= λ x. step_from x.0 >>= λ t. Some (t, x.1)) (parts_field.again (parts_of s) rest fits)
    ∙ ap (λ (o : Option (Option AllocNo)). (o >>= λ alloc. Some (made_step (parts_of s) alloc)) >>= λ t. Some (t, rest)) (alloc_again s.alloc s.request s.reply.plain h.1.1.1.1)

step_takes : (ws : Words) (s : Step) (rest : Words) → step_at ws ≡ Some (s, rest) → (ws ≡ step_words s ++ rest) × StepFits s
unfolding step_at
step_takes ws s rest e =
    let k = bind_some (step_parts_at ws) (λ x. step_from x.0 >>= λ t. Some (t, x.1)) (s, rest) e in
    let x = k.0 in
    let l = bind_some (step_from x.0) (λ t. Some (t, x.1)) (s, rest) k.2 in
    let a = bind_some (alloc_of x.0.1.1.0.0 x.0.1.1.0.1 x.0.1.1.1.plain) (λ alloc. Some (made_step x.0 alloc)) l.0 l.1 in
    let p = some_pair_parts l.0 s x.1 rest l.2 in
    let made : made_step x.0 a.0 ≡ s = same_Some (made_step x.0 a.0) l.0 a.2 ∙ p.0 in
    let t = parts_field.takes ws x.0 x.1 k.1 in
    let named = alloc_takes x.0.1.1.0.0 x.0.1.1.0.1 x.0.1.1.1.plain a.0 a.1 t.1.1.1.0 in
    let same : parts_of (made_step x.0 a.0) ≡ x.0 = ap (λ (al : Option AllocNo). (x.0.0, (x.0.1.0, ((al, x.0.1.1.0.1), x.0.1.1.1)))) named.0 in
    let whole : ws ≡ step_words (made_step x.0 a.0) ++ x.1 = t.0 ∙ ap (λ (y : Parts). parts_words y ++ x.1) (sym same) ∙ ap (λ (vs : Words). vs ++ x.1) (step_words_are (made_step x.0 a.0)) in
    let parts : PartsFit (parts_of (made_step x.0 a.0)) = subst PartsFit (sym same) t.1 in
    let fits : StepFits (made_step x.0 a.0) = (parts.0, (parts.1.0, (parts.1.1.0, (parts.1.1.1, named.1)))) in
    (whole ∙ ap (λ (u : Step). step_words u ++ x.1) made ∙ ap (λ (vs : Words). step_words s ++ vs) p.1, subst StepFits made fits)

step_seen : (s : Step) → StepFits s → AllSeen (step_words s)
step_seen s h = subst AllSeen (step_words_are s) (parts_field.seen (parts_of s) (h.0, (h.1.0, (h.1.1.0, h.1.1.1.0))))

step_field : IsField StepFits step_words step_at
step_field = record { again = step_again; takes = step_takes; seen = step_seen }

-- ---- lines

line_tail_takes : (k : LineKey) (ws : Words) (l : Line) (rest : Words) → line_tail k ws ≡ Some (l, rest) → (line_key_word k ∷ ws ≡ line_words l ++ rest) × LineFits l
line_tail_takes line_key.Title ws l rest e =
    let k = bind_some (passed (codes "1") ws) (given line.Title) (l, rest) e in
    let p = some_pair_parts line.Title l k.0 rest k.2 in
    let whole : codes "record" ∷ ws ≡ line_words line.Title ++ rest = ap (λ (vs : Words). codes "record" ∷ vs) (passed_takes (codes "1") ws k.0 k.1) ∙ ap (λ (vs : Words). codes "record" ∷ codes "1" ∷ vs) p.1 in
    subst (λ (x : Line). (codes "record" ∷ ws ≡ line_words x ++ rest) × LineFits x) p.0 (whole, tt)
line_tail_takes line_key.Words ws l rest e = tail_takes counters_field line.Words LineFits line_words (codes "words") (λ a. refl) (λ a h. h) ws l rest e
line_tail_takes line_key.Thread ws l rest e = tail_takes head_field line.Thread LineFits line_words (codes "thread") (λ a. refl) (λ a h. h) ws l rest e
line_tail_takes line_key.End ws l rest e = given_takes line.End LineFits line_words (codes "end") refl tt ws l rest e

step_line_takes : (ws : Words) (l : Line) (rest : Words) → mapped line.Step step_at ws ≡ Some (l, rest) → (ws ≡ line_words l ++ rest) × LineFits l
step_line_takes ws l rest e =
    let k = bind_some (step_at ws) (λ x. Some (line.Step x.0, x.1)) (l, rest) e in
    let p = some_pair_parts (line.Step k.0.0) l k.0.1 rest k.2 in
    let t = step_field.takes ws k.0.0 k.0.1 k.1 in
    subst (λ (x : Line). (ws ≡ line_words x ++ rest) × LineFits x) p.0 (t.0 ∙ ap (λ (vs : Words). step_words k.0.0 ++ vs) p.1, t.1)

line_takes : (ws : Words) (l : Line) (rest : Words) → line_at ws ≡ Some (l, rest) → (ws ≡ line_words l ++ rest) × LineFits l
unfolding line_at
line_takes [] l rest e = absurd cc
line_takes (w ∷ ws) l rest e = by_key (lookup line_keys w) refl e
  where
    by_key : (o : Option LineKey) → lookup line_keys w ≡ o → line_or_step o ws (w ∷ ws) ≡ Some (l, rest) → (w ∷ ws ≡ line_words l ++ rest) × LineFits l
    by_key None is h = step_line_takes (w ∷ ws) l rest h
    by_key (Some k) is h =
        let t = line_tail_takes k ws l rest h in
        (ap (λ (v : List ℕ). v ∷ ws) (lookup_takes line_key_word (line_key.Title ∷ line_key.Words ∷ line_key.Thread ∷ line_key.End ∷ []) w k is) ∙ t.0, t.1)

-- no number is the first word of another line
key_has_letters : (k : LineKey) → list_all is_digit (line_key_word k) ≡ false
key_has_letters line_key.Title = refl
key_has_letters line_key.Words = refl
key_has_letters line_key.Thread = refl
key_has_letters line_key.End = refl

number_no_key : (n : ℕ) → Fits64 n → lookup line_keys (decimal n) ≡ None
number_no_key n h = by_key (lookup line_keys (decimal n)) refl
  where
    by_key : (o : Option LineKey) → lookup line_keys (decimal n) ≡ o → o ≡ None
    by_key None is = refl
    by_key (Some k) is =
        let same : decimal n ≡ line_key_word k = lookup_takes line_key_word (line_key.Title ∷ line_key.Words ∷ line_key.Thread ∷ line_key.End ∷ []) (decimal n) k is in
        let bad : false ≡ true = sym (key_has_letters k) ∙ ap (list_all is_digit) (sym same) ∙ number_digits n h in
        absurd cc

line_again : (l : Line) (rest : Words) → LineFits l → line_at (line_words l ++ rest) ≡ Some (l, rest)
unfolding line_at
line_again line.Title rest h = refl
line_again (line.Words drawn) rest h = tail_again counters_field line.Words drawn rest h
line_again (line.Thread head) rest h = tail_again head_field line.Thread head rest h
line_again (line.Step s) rest h =
    let more : Words = decimal s.site ∷ (request_words s.alloc s.request ++ codes "=" ∷ (plain_words s.reply.plain ++ prov_word s.reply.carried ∷ verdict_words s.reply.verdict)) ++ rest in
    ap (λ (o : Option LineKey). line_or_step o more (step_words s ++ rest)) (number_no_key s.stamp.0 h.0)
    ∙ tail_again step_field line.Step s rest h
line_again line.End rest h = refl

line_seen : (l : Line) → LineFits l → AllSeen (line_words l)
line_seen line.Title h = (refl, (refl, tt))
line_seen (line.Words drawn) h = (refl, counters_field.seen drawn h)
line_seen (line.Thread head) h = (refl, head_field.seen head h)
line_seen (line.Step s) h = step_field.seen s h
line_seen line.End h = (refl, tt)

-- ---- texts of lines

seen_other : (c : ℕ) → c ≤ 32 → (b : ℕ) → is_seen b ≡ true → other_than c b ≡ true
seen_other c le b h = grind (arith, nat_tests)

lack_seen : (ws : Words) → AllSeen ws → AllLack 32 ws
lack_seen [] h = tt
lack_seen (w ∷ ws) h = (all_weaker is_seen (other_than 32) (seen_other 32 (omega arith)) w h.0, lack_seen ws h.1)

pass_seen : (ws : Words) → AllSeen ws → AllPassing (other_than 10) ws
pass_seen [] h = tt
pass_seen (w ∷ ws) h = (all_weaker is_seen (other_than 10) (seen_other 10 (omega arith)) w h.0, pass_seen ws h.1)

abbrev IsCons : Words → Type 0
IsCons [] = ⊥
IsCons (w ∷ ws) = Unit {0}

split_words : (ws : Words) → IsCons ws → AllSeen ws → slice_split (λ b. b == 32) (join_with_byte 32 ws) ≡ ws
split_words [] some h = absurd some
split_words (w ∷ ws) some h = let k = lack_seen (w ∷ ws) h in split_join 32 w ws k.0 k.1

line_some : (l : Line) → IsCons (line_words l)
line_some line.Title = tt
line_some (line.Words drawn) = tt
line_some (line.Thread head) = tt
line_some (line.Step s) = tt
line_some line.End = tt

pub line_in_again : (l : Line) → LineFits l → line_in (line_text l) ≡ Some l
unfolding line_in line_text
line_in_again l h =
    ap (all_of line_at) (split_words (line_words l) (line_some l) (line_seen l h))
    ∙ ap (all_of line_at) (sym (append-nil (line_words l)))
    ∙ ap (λ (o : Option (Line × Words)). o >>= nothing_left) (line_again l [] h)

none_left : (x : Line × Words) (l : Line) → nothing_left x ≡ Some l → x ≡ (l, [])
none_left (k, []) l e = ap (λ (m : Line). (m, [])) (same_Some k l e)
none_left (k, w ∷ ws) l e = absurd cc

pub line_in_takes : (text : List ℕ) (l : Line) → line_in text ≡ Some l → (text ≡ line_text l) × LineFits l
unfolding line_in line_text
line_in_takes text l e =
    let k = bind_some (line_at (slice_split (λ b. b == 32) text)) nothing_left l e in
    let t = line_takes (slice_split (λ b. b == 32) text) l [] (k.1 ∙ ap (λ (x : Line × Words). Some x) (none_left k.0 l k.2)) in
    (split_is 32 text (line_words l) (t.0 ∙ append-nil (line_words l)), t.1)

pub line_is_line : (l : Line) → LineFits l → IsLine (line_text l)
unfolding line_text
line_is_line l h = lacks_each 10 (join_with_byte 32 (line_words l)) (all_join (other_than 10) 32 (line_words l) refl (pass_seen (line_words l) (line_seen l h)))
