-- The states that lines leave: which lines lead to a state, and that a record's lines lead to its end.
use Rattle.std.proofs.Common.{◌≡◌, ℕ, zero, suc, ◌+◌, ◌-◌, ◌<◌, Bool, true, false, cond, List, [], ◌∷◌, ◌++◌, length, map, Option, Some, None, refl, sym, ap, subst, ◌∙◌, append_assoc, append-nil, arith}
use Rattle.std.specs.Prelude.{nat_lt}
use Rattle.std.specs.Option.{option_map_or}
use Rattle.std.specs.List.{flat_map, slice_get, slice_index, AllByRecursion}
use Rattle.std.specs.List.Sorted.{IsStrictlyIncreasing}
use Rattle.std.proofs.lemmas.Bool.{ltb-true, ltb-false}
use Rattle.std.proofs.lemmas.Grind.{flat_map-append}
use Rattle.std.proofs.lemmas.Option.{same_Some}
use Rattle.bsan_ids.specs.declared.numbers.Counters.{Counters}
use Rattle.history.specs.declared.entry.Entry.{Entry}
use Rattle.history.specs.declared.log.ThreadLog.{ThreadLog}
use Rattle.history.specs.declared.record.RunRecord.{RunRecord}
use Rattle.record_text.specs.declared.line.Head.{Head}
use Rattle.record_text.specs.declared.line.Step.{Step}
use Rattle.record_text.specs.declared.line.Line.{Line}
use Rattle.record_text.specs.declared.line.Line.TheVariants as line
use Rattle.record_text.specs.declared.state.State.{State}
use Rattle.record_text.specs.declared.state.State.TheVariants as state
use Rattle.record_text.specs.Lines.{head_of, step_of, log_lines, record_lines, line_text}
use Rattle.record_text.specs.Ranges.{LineFits, HeadFits, StepFits}
use Rattle.record_text.specs.Texts.{EntryFits, LogFits, number_of_log, HasText}
use Rattle.record_text.specs.Reading.{◌>>=◌}
use Rattle.record_text.specs.Whole.{line_in, is_next, opened, entry_of, longer, with_step, with_log, after_line, after_text, after_lines}
use Rattle.record_text.specs.Loop.{told_record}
use Rattle.record_text.proofs.Codecs.{bind_some, cond_some}
use Rattle.record_text.proofs.LineFields.{line_in_again, line_in_takes}

-- ---- numbers that rise

inc_one : (n : ℕ) → IsStrictlyIncreasing (n ∷ [])
inc_one n k lt = absurd (omega arith)

inc_cons : (x y : ℕ) (ys : List ℕ) → x < y → IsStrictlyIncreasing (y ∷ ys) → IsStrictlyIncreasing (x ∷ y ∷ ys)
inc_cons x y ys h up zero lt = h
inc_cons x y ys h up (suc k) lt =
    let e : suc k + 1 ≡ suc (k + 1) = omega arith in
    subst (λ (i : ℕ). slice_index (x ∷ y ∷ ys) (suc k) < slice_index (x ∷ y ∷ ys) i) (sym e) (up k (omega arith))

inc_tail : (x : ℕ) (xs : List ℕ) → IsStrictlyIncreasing (x ∷ xs) → IsStrictlyIncreasing xs
inc_tail x xs up k lt =
    let e : suc k + 1 ≡ suc (k + 1) = omega arith in
    subst (λ (i : ℕ). slice_index (x ∷ xs) (suc k) < slice_index (x ∷ xs) i) e (up (suc k) (omega arith))

inc_head : (x y : ℕ) (ys : List ℕ) → IsStrictlyIncreasing (x ∷ y ∷ ys) → x < y
inc_head x y ys up = up 0 (omega arith)

pub lt_true : (a b : ℕ) → a < b → nat_lt a b ≡ true
lt_true a b h = by_test (nat_lt a b) refl
  where
    by_test : (t : Bool) → nat_lt a b ≡ t → t ≡ true
    by_test true e = refl
    by_test false e = let k = ltb-false a b e in absurd (omega (arith, k, h))

next_later : (t v : ThreadLog) (ts : List ThreadLog) (n : ℕ) → is_next (t ∷ v ∷ ts) n ≡ is_next (v ∷ ts) n
next_later t v ts n =
    let at : length (t ∷ v ∷ ts) - 1 ≡ suc (length (v ∷ ts) - 1) = omega arith in
    ap (λ (i : ℕ). option_map_or (λ (log : ThreadLog). nat_lt log.number.0 n) (slice_get (t ∷ v ∷ ts) i) true) at

rises_more : (ts : List ThreadLog) (u : ThreadLog) → IsStrictlyIncreasing (map number_of_log ts) → is_next ts u.number.0 ≡ true → IsStrictlyIncreasing (map number_of_log (ts ++ u ∷ []))
rises_more [] u up h = inc_one u.number.0
rises_more (t ∷ []) u up h = inc_cons t.number.0 u.number.0 [] (ltb-true t.number.0 u.number.0 h) (inc_one u.number.0)
rises_more (t ∷ v ∷ ts) u up h =
    inc_cons t.number.0 v.number.0 (map number_of_log (ts ++ u ∷ [])) (inc_head t.number.0 v.number.0 (map number_of_log ts) up)
    (rises_more (v ∷ ts) u (inc_tail t.number.0 (map number_of_log (v ∷ ts)) up) (sym (next_later t v ts u.number.0) ∙ h))

next_rises : (ts : List ThreadLog) (u : ThreadLog) (us : List ThreadLog) → IsStrictlyIncreasing (map number_of_log (ts ++ u ∷ us)) → is_next ts u.number.0 ≡ true
next_rises [] u us up = refl
next_rises (t ∷ []) u us up = lt_true t.number.0 u.number.0 (inc_head t.number.0 u.number.0 (map number_of_log us) up)
next_rises (t ∷ v ∷ ts) u us up = next_later t v ts u.number.0 ∙ next_rises (v ∷ ts) u us (inc_tail t.number.0 (map number_of_log (v ∷ ts ++ u ∷ us)) up)

-- ---- what holds of each

pub each_append : {A : Type 0} (P : A → Type 0) (xs ys : List A) → AllByRecursion P xs → AllByRecursion P ys → AllByRecursion P (xs ++ ys)
each_append P [] ys h k = k
each_append P (x ∷ xs) ys h k = (h.0, each_append P xs ys h.1 k)

-- ---- one more step

pub record Stepped (ts : List ThreadLog) (s : Step) (us : List ThreadLog) : Type 0 where
  pub lines : flat_map log_lines us ≡ flat_map log_lines ts ++ line.Step s ∷ []
  pub numbers : map number_of_log us ≡ map number_of_log ts
  pub fits : AllByRecursion LogFits us

log_longer : (t : ThreadLog) (s : Step) → LogFits t → StepFits s → LogFits (longer t s)
log_longer t s h k = record { head = h.head; entries = each_append (EntryFits t.number.0) t.entries (entry_of t.number s ∷ []) h.entries (record { own = refl; step = k }, tt) }

longer_lines : (t : ThreadLog) (s : Step) → log_lines (longer t s) ≡ log_lines t ++ line.Step s ∷ []
longer_lines t s = ap (λ (ls : List Line). line.Thread (head_of t) ∷ ls) (map_push t.entries)
  where
    map_push : (es : List Entry) → map (λ e. line.Step (step_of e)) (es ++ entry_of t.number s ∷ []) ≡ map (λ e. line.Step (step_of e)) es ++ line.Step s ∷ []
    map_push [] = refl
    map_push (e ∷ es) = ap (λ (ls : List Line). line.Step (step_of e) ∷ ls) (map_push es)

stepped : (ts : List ThreadLog) (s : Step) (us : List ThreadLog) → AllByRecursion LogFits ts → StepFits s → with_step ts s ≡ Some us → Stepped ts s us
unfolding with_step
stepped [] s us h k e = absurd cc
stepped (t ∷ []) s us h k e =
    subst (Stepped (t ∷ []) s) (same_Some (longer t s ∷ []) us e) (record {
      lines = append-nil (log_lines (longer t s)) ∙ longer_lines t s ∙ ap (λ (ls : List Line). ls ++ line.Step s ∷ []) (sym (append-nil (log_lines t)));
      numbers = refl;
      fits = (log_longer t s h.0 k, tt);
    })
stepped (t ∷ v ∷ ts) s us h k e =
    let b = bind_some (with_step (v ∷ ts) s) (λ more. Some (t ∷ more)) us e in
    let r = stepped (v ∷ ts) s b.0 h.1 k b.1 in
    subst (Stepped (t ∷ v ∷ ts) s) (same_Some (t ∷ b.0) us b.2) (record {
      lines = ap (λ (ls : List Line). log_lines t ++ ls) r.lines ∙ sym (append_assoc (log_lines t) (flat_map log_lines (v ∷ ts)) (line.Step s ∷ []));
      numbers = ap (λ (ns : List ℕ). number_of_log t ∷ ns) r.numbers;
      fits = (h.0, r.fits);
    })

-- ---- the lines that lead to a state

abbrev pub state_lines : State → List Line
state_lines state.Start = []
state_lines state.Titled = line.Title ∷ []
state_lines (state.Logs words logs) = line.Title ∷ line.Words words ∷ flat_map log_lines logs
state_lines (state.Ended words logs) = line.Title ∷ line.Words words ∷ (flat_map log_lines logs ++ line.End ∷ [])

abbrev pub StateFits : State → Type 0
StateFits state.Start = Unit {0}
StateFits state.Titled = Unit {0}
StateFits (state.Logs words logs) = HasText (told_record words logs)
StateFits (state.Ended words logs) = HasText (told_record words logs)

pub record Led (s : State) (l : Line) (t : State) : Type 0 where
  pub lines : state_lines t ≡ state_lines s ++ l ∷ []
  pub fits : StateFits t

no_numbers : IsStrictlyIncreasing []
no_numbers k lt = absurd (omega arith)

led_to : (s : State) (l : Line) (t u : State) → Led s l t → Some t ≡ Some u → Led s l u
led_to s l t u h e = subst (Led s l) (same_Some t u e) h

log_opened : (words : Counters) (logs : List ThreadLog) (h : Head) (t : State) → HasText (told_record words logs) → HeadFits h → with_log words logs h ≡ Some t → Led (state.Logs words logs) (line.Thread h) t
log_opened words logs h t has fits e =
    let c = cond_some (is_next logs h.number.0) (state.Logs words (logs ++ opened h ∷ [])) t e in
    subst (Led (state.Logs words logs) (line.Thread h)) c.1 (record {
      lines = ap (λ (ls : List Line). line.Title ∷ line.Words words ∷ ls) (flat_map-append log_lines logs (opened h ∷ []));
      fits = record {
        rising = rises_more logs (opened h) has.rising c.0;
        threads = each_append LogFits logs (opened h ∷ []) has.threads (record { head = fits; entries = tt }, tt);
        words = has.words;
      };
    })

log_stepped : (words : Counters) (logs : List ThreadLog) (s : Step) (t : State) → HasText (told_record words logs) → StepFits s
    → (with_step logs s >>= λ more. Some (state.Logs words more)) ≡ Some t → Led (state.Logs words logs) (line.Step s) t
log_stepped words logs s t has fits e =
    let b = bind_some (with_step logs s) (λ more. Some (state.Logs words more)) t e in
    let r = stepped logs s b.0 has.threads fits b.1 in
    subst (Led (state.Logs words logs) (line.Step s)) (same_Some (state.Logs words b.0) t b.2) (record {
      lines = ap (λ (ls : List Line). line.Title ∷ line.Words words ∷ ls) r.lines;
      fits = record { rising = subst IsStrictlyIncreasing (sym r.numbers) has.rising; threads = r.fits; words = has.words };
    })

pub line_leads : (s : State) (l : Line) (t : State) → StateFits s → LineFits l → after_line s l ≡ Some t → Led s l t
line_leads state.Start line.Title t h k e = led_to state.Start line.Title state.Titled t (record { lines = refl; fits = tt }) e
line_leads state.Titled (line.Words drawn) t h k e = led_to state.Titled (line.Words drawn) (state.Logs drawn []) t (record { lines = refl; fits = record { rising = no_numbers; threads = tt; words = k } }) e
line_leads (state.Logs words logs) (line.Thread head) t h k e = log_opened words logs head t h k e
line_leads (state.Logs words logs) (line.Step s) t h k e = log_stepped words logs s t h k e
line_leads (state.Logs words logs) line.End t h k e = led_to (state.Logs words logs) line.End (state.Ended words logs) t (record { lines = refl; fits = h }) e
line_leads s l t h k e = absurd cc

-- ---- all lines

pub record Brought (s : State) (texts : List (List ℕ)) (t : State) : Type 0 where
  pub lines : map line_text (state_lines t) ≡ map line_text (state_lines s) ++ texts
  pub fits : StateFits t

map_append : (ls ms : List Line) → map line_text (ls ++ ms) ≡ map line_text ls ++ map line_text ms
map_append [] ms = refl
map_append (l ∷ ls) ms = ap (λ (ts : List (List ℕ)). line_text l ∷ ts) (map_append ls ms)

pub lines_bring : (s : State) (texts : List (List ℕ)) (t : State) → StateFits s → after_lines s texts ≡ Some t → Brought s texts t
unfolding after_lines
lines_bring s [] t h e = subst (Brought s []) (same_Some s t e) (record { lines = sym (append-nil (map line_text (state_lines s))); fits = h })
lines_bring s (text ∷ texts) t h e =
    let b = bind_some (after_text s text) (λ u. after_lines u texts) t e in
    let c = bind_some (line_in text) (after_line s) b.0 b.1 in
    let k = line_in_takes text c.0 c.1 in
    let led = line_leads s c.0 b.0 h k.1 c.2 in
    let more = lines_bring b.0 texts t led.fits b.2 in
    record {
      lines = more.lines ∙ ap (λ (ls : List Line). map line_text ls ++ texts) led.lines
          ∙ ap (λ (ts : List (List ℕ)). ts ++ texts) (map_append (state_lines s) (c.0 ∷ []))
          ∙ append_assoc (map line_text (state_lines s)) (line_text c.0 ∷ []) texts
          ∙ ap (λ (v : List ℕ). map line_text (state_lines s) ++ v ∷ texts) (sym k.0);
      fits = more.fits;
    }

pub lines_append : (s : State) (texts more : List (List ℕ)) → after_lines s (texts ++ more) ≡ (after_lines s texts >>= λ t. after_lines t more)
unfolding after_lines
lines_append s [] more = refl
lines_append s (text ∷ texts) more = by_next (after_text s text) (λ t. lines_append t texts more)
  where
    by_next : (o : Option State) → ((t : State) → after_lines t (texts ++ more) ≡ (after_lines t texts >>= λ u. after_lines u more)) → (o >>= λ t. after_lines t (texts ++ more)) ≡ ((o >>= λ t. after_lines t texts) >>= λ t. after_lines t more)
    by_next None again = refl
    by_next (Some t) again = again t

-- ---- a record's lines lead to its end

text_step : (s t : State) (l : Line) (more : List (List ℕ)) → LineFits l → after_line s l ≡ Some t → after_lines s (line_text l ∷ more) ≡ after_lines t more
unfolding after_lines
text_step s t l more h e =
    ap (λ (o : Option Line). (o >>= after_line s) >>= λ u. after_lines u more) (line_in_again l h)
    ∙ ap (λ (o : Option State). o >>= λ u. after_lines u more) e

pub last_step : (ts : List ThreadLog) (t : ThreadLog) (s : Step) → with_step (ts ++ t ∷ []) s ≡ Some (ts ++ longer t s ∷ [])
unfolding with_step
last_step [] t s = refl
last_step (v ∷ []) t s = refl
last_step (v ∷ w ∷ ts) t s = ap (λ (o : Option (List ThreadLog)). o >>= λ more. Some (v ∷ more)) (last_step (w ∷ ts) t s)

abbrev grown : ThreadLog → List Entry → ThreadLog
grown t es = record t { entries = t.entries ++ es }

abbrev step_texts : List Entry → List (List ℕ)
step_texts es = map line_text (map (λ e. line.Step (step_of e)) es)

own_entry : (t : ThreadLog) (e : Entry) → e.thread.0 ≡ t.number.0 → entry_of t.number (step_of e) ≡ e
own_entry t e h = ap (λ (n : ℕ). record { thread = record { 0 = n }; stamp = e.stamp; site = e.site; alloc = e.alloc; request = e.request; reply = e.reply }) (sym h)

steps_run : (words : Counters) (ts : List ThreadLog) (t : ThreadLog) (es : List Entry) (more : List (List ℕ)) → AllByRecursion (EntryFits t.number.0) es
    → after_lines (state.Logs words (ts ++ t ∷ [])) (step_texts es ++ more) ≡ after_lines (state.Logs words (ts ++ grown t es ∷ [])) more
steps_run words ts t [] more h = ap (λ (es : List Entry). after_lines (state.Logs words (ts ++ record t { entries = es } ∷ [])) more) (sym (append-nil t.entries))
steps_run words ts t (e ∷ es) more h =
    let one : after_line (state.Logs words (ts ++ t ∷ [])) (line.Step (step_of e)) ≡ Some (state.Logs words (ts ++ longer t (step_of e) ∷ [])) =
    ap (λ (o : Option (List ThreadLog)). o >>= λ more. Some (state.Logs words more)) (last_step ts t (step_of e)) in
    text_step (state.Logs words (ts ++ t ∷ [])) (state.Logs words (ts ++ longer t (step_of e) ∷ [])) (line.Step (step_of e)) (step_texts es ++ more) h.0.step one
    ∙ steps_run words ts (longer t (step_of e)) es more h.1
    ∙ ap (λ (all : List Entry). after_lines (state.Logs words (ts ++ record t { entries = all } ∷ [])) more)
    (append_assoc t.entries (entry_of t.number (step_of e) ∷ []) es ∙ ap (λ (f : Entry). t.entries ++ f ∷ es) (own_entry t e h.0.own))

logs_run : (words : Counters) (ts us : List ThreadLog) (more : List (List ℕ)) → IsStrictlyIncreasing (map number_of_log (ts ++ us)) → AllByRecursion LogFits us
    → after_lines (state.Logs words ts) (map line_text (flat_map log_lines us) ++ more) ≡ after_lines (state.Logs words (ts ++ us)) more
logs_run words ts [] more up h = ap (λ (vs : List ThreadLog). after_lines (state.Logs words vs) more) (sym (append-nil ts))
logs_run words ts (u ∷ us) more up h =
    let empty : ThreadLog = opened (head_of u) in
    let next : with_log words ts (head_of u) ≡ Some (state.Logs words (ts ++ empty ∷ [])) = ap (λ (b : Bool). cond b (Some (state.Logs words (ts ++ empty ∷ []))) None) (next_rises ts u us up) in
    let rest : List (List ℕ) = map line_text (flat_map log_lines us) ++ more in
    let regrouped : map line_text (flat_map log_lines (u ∷ us)) ++ more ≡ line_text (line.Thread (head_of u)) ∷ (step_texts u.entries ++ rest) =
    ap (λ (vs : List (List ℕ)). line_text (line.Thread (head_of u)) ∷ (vs ++ more)) (map_append (map (λ e. line.Step (step_of e)) u.entries) (flat_map log_lines us))
    ∙ ap (λ (vs : List (List ℕ)). line_text (line.Thread (head_of u)) ∷ vs) (append_assoc (step_texts u.entries) (map line_text (flat_map log_lines us)) more) in
    let joined : (ts ++ u ∷ []) ++ us ≡ ts ++ u ∷ us = append_assoc ts (u ∷ []) us in
    ap (after_lines (state.Logs words ts)) regrouped
    ∙ text_step (state.Logs words ts) (state.Logs words (ts ++ empty ∷ [])) (line.Thread (head_of u)) (step_texts u.entries ++ rest) h.0.head next
    ∙ steps_run words ts empty u.entries rest h.0.entries
    ∙ logs_run words (ts ++ u ∷ []) us more (subst (λ (vs : List ThreadLog). IsStrictlyIncreasing (map number_of_log vs)) (sym joined) up) h.1
    ∙ ap (λ (vs : List ThreadLog). after_lines (state.Logs words vs) more) joined

abbrev pub record_texts : RunRecord → List (List ℕ)
record_texts kept = map line_text (record_lines kept)

pub record_runs : (kept : RunRecord) → HasText kept → after_lines state.Start (record_texts kept) ≡ Some (state.Ended kept.words kept.threads)
unfolding after_lines
record_runs kept h =
    let last : List (List ℕ) = line_text line.End ∷ [] in
    text_step state.Start state.Titled line.Title (map line_text (line.Words kept.words ∷ (flat_map log_lines kept.threads ++ line.End ∷ []))) tt refl
    ∙ text_step state.Titled (state.Logs kept.words []) (line.Words kept.words) (map line_text (flat_map log_lines kept.threads ++ line.End ∷ [])) h.words refl
    ∙ ap (after_lines (state.Logs kept.words [])) (map_append (flat_map log_lines kept.threads) (line.End ∷ []))
    ∙ logs_run kept.words [] kept.threads last h.rising h.threads
    ∙ text_step (state.Logs kept.words kept.threads) (state.Ended kept.words kept.threads) line.End [] tt refl
