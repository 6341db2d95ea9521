-- Texts of records, and the first line of others.
use Rattle.std.proofs.Common.{◌≡◌, ℕ, ◌+◌, ◌≤◌, ◌==◌, false, List, [], ◌∷◌, ◌++◌, length, map, Option, Some, None, inl, inr, ◌⊎◌, length-append, refl, sym, ap, subst, ◌∙◌, append_assoc, append-nil, arith}
use Rattle.std.specs.Prelude.{codes}
use Rattle.std.specs.List.{flat_map, AllByRecursion}
use Rattle.std.proofs.lemmas.Grind.{flat_map-append}
use Rattle.std.proofs.lemmas.List.Folds.{flat_map-map}
use Rattle.std.proofs.lemmas.Option.{same_Some}
use Rattle.bsan_ids.specs.declared.numbers.Counters.{Counters}
use Rattle.history.specs.declared.entry.Entry.{Entry}
use Rattle.history.specs.declared.log.ThreadLog.{ThreadLog}
use Rattle.history.specs.declared.log.AllocLog.{AllocLog}
use Rattle.history.specs.declared.record.RunRecord.{RunRecord}
use Rattle.record_text.specs.declared.record.RecordFault.{RecordFault}
use Rattle.record_text.specs.declared.record.RecordFault.TheVariants.{NotRecord, NoMemory}
use Rattle.record_text.specs.declared.line.Line.{Line}
use Rattle.record_text.specs.declared.line.Line.TheVariants as line
use Rattle.record_text.specs.declared.state.State.{State}
use Rattle.record_text.specs.declared.state.State.TheVariants as state
use Rattle.record_text.specs.Lines.{step_of, line_text, log_lines, record_lines, ended, record_text}
use Rattle.record_text.specs.Ranges.{LineFits, CountersFit}
use Rattle.record_text.specs.Texts.{HasText, IsTextOf, Begins, IsLine, IsFirstWrong, IsFault, alloc_logs, LogFits, EntryFits}
use Rattle.record_text.specs.Reading.{◌>>=◌}
use Rattle.record_text.specs.Whole.{after_text, after_lines}
use Rattle.record_text.specs.Loop.{told_record, IsTold, IsUnended, RefusesAs}
use Rattle.record_text.proofs.LineFields.{line_is_line}
use Rattle.record_text.proofs.States.{state_lines, StateFits, lines_bring, lines_append, record_texts, record_runs, each_append}

-- ---- a newline ends a line

abbrev IsPlain : ℕ → Type 0
IsPlain b = (b == 10) ≡ false

same_head : (b c : ℕ) (x y : List ℕ) → b ∷ x ≡ c ∷ y → (b ≡ c) × (x ≡ y)
same_head b c x y e = (cc, cc)

not_newline : (b : ℕ) → b ≡ 10 → IsPlain b → ⊥
not_newline b e h = let k : (10 == 10) ≡ false = subst IsPlain e h in cc

-- where a text goes on behind a first newline, the line before that is one
pub one_line : (v w x y : List ℕ) → IsLine v → IsLine w → ended v ++ x ≡ ended w ++ y → (v ≡ w) × (x ≡ y)
one_line [] [] x y h k e = (refl, (same_head 10 10 x y e).1)
one_line [] (c ∷ cs) x y h k e = absurd (not_newline c (sym (same_head 10 c x (ended cs ++ y) e).0) k.0)
one_line (b ∷ bs) [] x y h k e = absurd (not_newline b (same_head b 10 (ended bs ++ x) y e).0 h.0)
one_line (b ∷ bs) (c ∷ cs) x y h k e =
    let p = same_head b c (ended bs ++ x) (ended cs ++ y) e in
    let more = one_line bs cs x y h.1 k.1 p.1 in
    (ap (λ (z : List ℕ). b ∷ z) more.0 ∙ ap (λ (d : ℕ). d ∷ cs) p.0, more.1)

-- nothing, and what has no newline, goes on with no line
pub no_line : (rest v x : List ℕ) → IsLine rest → rest ≡ ended v ++ x → ⊥
no_line [] [] x h e = cc
no_line [] (c ∷ cs) x h e = cc
no_line (b ∷ bs) [] x h e = not_newline b (same_head b 10 bs x e).0 h.0
no_line (b ∷ bs) (c ∷ cs) x h e = no_line bs cs x h.1 (same_head b c bs (ended cs ++ x) e).1

abbrev AreLines : List (List ℕ) → Type 0
AreLines texts = AllByRecursion IsLine texts

pub record Stripped (before texts : List (List ℕ)) (rest : List ℕ) : Type 0 where
  pub more : List (List ℕ)
  pub whole : texts ≡ before ++ more
  pub left : rest ≡ flat_map ended more

-- lines at the front of a text that has only lines are those at its front
strip : (before texts : List (List ℕ)) (rest : List ℕ) → AreLines before → AreLines texts → flat_map ended before ++ rest ≡ flat_map ended texts → Stripped before texts rest
strip [] texts rest h k e = record { more = texts; whole = refl; left = e }
strip (b ∷ bs) [] rest h k e = absurd (no_line [] b (flat_map ended bs ++ rest) tt (sym e ∙ append_assoc (ended b) (flat_map ended bs) rest))
strip (b ∷ bs) (t ∷ ts) rest h k e =
    let p = one_line b t (flat_map ended bs ++ rest) (flat_map ended ts) h.0 k.0 (sym (append_assoc (ended b) (flat_map ended bs) rest) ∙ e) in
    let s = strip bs ts rest h.1 k.1 p.1 in
    record { more = s.more; whole = ap (λ (v : List ℕ). v ∷ ts) (sym p.0) ∙ ap (λ (vs : List (List ℕ)). b ∷ vs) s.whole; left = s.left }

-- ---- the lines of a record

all_fit : (logs : List ThreadLog) → AllByRecursion LogFits logs → AllByRecursion LineFits (flat_map log_lines logs)
all_fit [] h = tt
all_fit (log ∷ logs) h = (h.0.head, each_append LineFits (map (λ e. line.Step (step_of e)) log.entries) (flat_map log_lines logs) (steps_fit log.entries h.0.entries) (all_fit logs h.1))
  where
    steps_fit : (es : List Entry) → AllByRecursion (EntryFits log.number.0) es → AllByRecursion LineFits (map (λ e. line.Step (step_of e)) es)
    steps_fit [] k = tt
    steps_fit (e ∷ es) k = (k.0.step, steps_fit es k.1)

texts_lines : (ls : List Line) → AllByRecursion LineFits ls → AreLines (map line_text ls)
texts_lines [] h = tt
texts_lines (l ∷ ls) h = (line_is_line l h.0, texts_lines ls h.1)

record_are_lines : (kept : RunRecord) → HasText kept → AreLines (record_texts kept)
record_are_lines kept h =
    texts_lines (record_lines kept) (tt, (h.words, each_append LineFits (flat_map log_lines kept.threads) (line.End ∷ []) (all_fit kept.threads h.threads) (tt, tt)))

text_is : (kept : RunRecord) → record_text kept ≡ flat_map ended (record_texts kept)
text_is kept = sym (flat_map-map ended line_text (record_lines kept))

front_lines : (before more : List (List ℕ)) → AreLines (before ++ more) → AreLines before
front_lines [] more h = tt
front_lines (b ∷ bs) more h = (h.0, front_lines bs more h.1)

begins_lines : (texts : List (List ℕ)) → Begins texts → AreLines texts
begins_lines texts h = front_lines texts h.1 (subst AreLines h.3 (record_are_lines h.0 h.2))

-- ---- what begins a record's text

none_binds : (o : Option State) (more : List (List ℕ)) (t : State) → o ≡ None → (o >>= λ s. after_lines s more) ≡ Some t → ⊥
none_binds o more t e h = let k : ◌≡◌ {A = Option State} None (Some t) = ap (λ (p : Option State). p >>= λ s. after_lines s more) (sym e) ∙ h in cc

pub begins_runs : (texts : List (List ℕ)) → Begins texts → after_lines state.Start texts ≡ None → ⊥
begins_runs texts h none =
    none_binds (after_lines state.Start texts) h.1 (state.Ended h.0.words h.0.threads) none
    (sym (lines_append state.Start texts h.1) ∙ ap (after_lines state.Start) (sym h.3) ∙ record_runs h.0 h.2)

no_counters : CountersFit (record { stamps = 0; allocs = 0; threads = 0 })
no_counters = (omega arith, (omega arith, omega arith))

empty_has_text : HasText (told_record (record { stamps = 0; allocs = 0; threads = 0 }) [])
empty_has_text = record { rising = λ k lt. absurd (omega arith); threads = tt; words = no_counters }

map_append : (ls ms : List Line) → map line_text (ls ++ ms) ≡ map line_text ls ++ map line_text ms
map_append [] ms = refl
map_append (l ∷ ls) ms = ap (λ (ts : List (List ℕ)). line_text l ∷ ts) (map_append ls ms)

state_begins : (t : State) → StateFits t → Begins (map line_text (state_lines t))
state_begins state.Start h = (told_record (record { stamps = 0; allocs = 0; threads = 0 }) [], _, empty_has_text, refl)
state_begins state.Titled h = (told_record (record { stamps = 0; allocs = 0; threads = 0 }) [], _, empty_has_text, refl)
state_begins (state.Logs words logs) h =
    (told_record words logs, line_text line.End ∷ [], h, ap (λ (ts : List (List ℕ)). line_text line.Title ∷ line_text (line.Words words) ∷ ts) (map_append (flat_map log_lines logs) (line.End ∷ [])))
state_begins (state.Ended words logs) h = (told_record words logs, [], h, sym (append-nil (record_texts (told_record words logs))))

pub runs_begin : (texts : List (List ℕ)) (t : State) → after_lines state.Start texts ≡ Some t → Begins texts
runs_begin texts t e = let b = lines_bring state.Start texts t tt e in subst Begins (b.lines) (state_begins t b.fits)

-- ---- how far a text has been read

pub record AreRead (bytes rest : List ℕ) (s : State) (number : ℕ) : Type 0 where
  pub before : List (List ℕ)
  pub whole : bytes ≡ flat_map ended before ++ rest
  pub counted : number ≡ length before + 1
  pub lines : AreLines before
  pub runs : after_lines state.Start before ≡ Some s

pub none_read : (bytes : List ℕ) → AreRead bytes bytes state.Start 1
unfolding after_lines
none_read bytes = record { before = []; whole = refl; counted = refl; lines = tt; runs = refl }

flat_push : (before : List (List ℕ)) (text : List ℕ) → flat_map ended (before ++ text ∷ []) ≡ flat_map ended before ++ ended text
flat_push before text = flat_map-append ended before (text ∷ []) ∙ ap (λ (x : List ℕ). flat_map ended before ++ x) (append-nil (ended text))

length_push : (before : List (List ℕ)) (text : List ℕ) → length (before ++ text ∷ []) ≡ length before + 1
length_push [] text = refl
length_push (b ∷ bs) text = let k = length_push bs text in omega (arith, k)

pub one_read : (bytes rest text more : List ℕ) (s t : State) (number : ℕ) → AreRead bytes rest s number → rest ≡ ended text ++ more → IsLine text → after_text s text ≡ Some t → AreRead bytes more t (number + 1)
unfolding after_lines
one_read bytes rest text more s t number h cut line next = record {
  before = h.before ++ text ∷ [];
  whole = h.whole ∙ ap (λ (x : List ℕ). flat_map ended h.before ++ x) cut ∙ sym (append_assoc (flat_map ended h.before) (ended text) more) ∙ ap (λ (x : List ℕ). x ++ more) (sym (flat_push h.before text));
  counted = omega (arith, h.counted, length_push h.before text);
  lines = each_append IsLine h.before (text ∷ []) h.lines (line, tt);
  runs = lines_append state.Start h.before (text ∷ []) ∙ ap (λ (o : Option State). o >>= λ u. after_lines u (text ∷ [])) h.runs ∙ ap (λ (o : Option State). o >>= λ u. Some u) next;
}

lines_long : (before : List (List ℕ)) → length before ≤ length (flat_map ended before)
lines_long [] = omega arith
lines_long (b ∷ bs) =
    let n = lines_long bs in
    omega (arith, n, length-append (ended b) (flat_map ended bs), length-append b (codes "\n"))

-- a line has at least its newline
pub few_lines : (bytes rest : List ℕ) (s : State) (number : ℕ) → AreRead bytes rest s number → number + length rest ≤ length bytes + 1
few_lines bytes rest s number h = omega (arith, h.counted, lines_long h.before, ap (length {A = ℕ}) h.whole, length-append (flat_map ended h.before) rest)

-- ---- the first wrong line

pub line_refused : (bytes rest text more : List ℕ) (s : State) (number : ℕ) → AreRead bytes rest s number → rest ≡ ended text ++ more → IsLine text → after_text s text ≡ None → IsFirstWrong bytes number
unfolding after_lines
line_refused bytes rest text more s number h cut line none = record {
  before = h.before;
  rest = rest;
  whole = h.whole;
  counted = h.counted;
  begins = runs_begin h.before s h.runs;
  wrong = λ v x e plain begins.
      let same = one_line text v more x line plain (sym cut ∙ e) in
      begins_runs (h.before ++ v ∷ []) begins
      (lines_append state.Start h.before (v ∷ []) ∙ ap (λ (o : Option State). o >>= λ u. after_lines u (v ∷ [])) h.runs ∙ ap (λ (o : Option State). o >>= λ u. Some u) (ap (after_text s) (sym same.0) ∙ none));
  missing = λ e kept has lines. no_line [] text more tt (sym e ∙ cut);
}

ended_same : (kept : RunRecord) (texts : List (List ℕ)) (s : State) → HasText kept → record_texts kept ≡ texts → after_lines state.Start texts ≡ Some s → state.Ended kept.words kept.threads ≡ s
ended_same kept texts s has e runs = same_Some (state.Ended kept.words kept.threads) s (sym (record_runs kept has) ∙ ap (after_lines state.Start) e ∙ runs)

still_ended : (number : ℕ) (s : State) (rest : List ℕ) (words : Counters) (logs : List ThreadLog) (line : ℕ) → state.Ended words logs ≡ s → rest ≡ [] → IsUnended number s rest (NotRecord line) → ⊥
still_ended number s rest words logs line e r h = subst (λ (x : State). IsUnended number x [] (NotRecord line) → ⊥) e (λ k. k) (subst (λ (x : List ℕ). IsUnended number s x (NotRecord line)) r h)

unended_number : (number : ℕ) (s : State) (rest : List ℕ) (line : ℕ) → IsUnended number s rest (NotRecord line) → line ≡ number
unended_number number state.Start rest line h = h
unended_number number state.Titled rest line h = h
unended_number number (state.Logs words logs) rest line h = h
unended_number number (state.Ended words logs) [] line h = absurd h
unended_number number (state.Ended words logs) (b ∷ bs) line h = h

pub lines_missing : (bytes rest : List ℕ) (s : State) (number : ℕ) (fault : RecordFault) → AreRead bytes rest s number → IsLine rest → IsUnended number s rest fault → IsFault bytes fault
lines_missing bytes rest s number NoMemory h plain e = tt
lines_missing bytes rest s number (NotRecord line) h plain e = record {
  before = h.before;
  rest = rest;
  whole = h.whole;
  counted = unended_number number s rest line e ∙ h.counted;
  begins = runs_begin h.before s h.runs;
  wrong = λ v x cut k begins. no_line rest v x plain cut;
  missing = λ none kept has lines. still_ended number s rest kept.words kept.threads line (ended_same kept h.before s has lines h.runs) none e;
}

pub text_refused : (bytes rest text more : List ℕ) (s : State) (number : ℕ) (fault : RecordFault) → AreRead bytes rest s number → rest ≡ ended text ++ more → IsLine text → RefusesAs number (after_text s text) fault → IsFault bytes fault
text_refused bytes rest text more s number NoMemory h cut line e = tt
text_refused bytes rest text more s number (NotRecord n) h cut line e = subst (IsFirstWrong bytes) (sym e.0) (line_refused bytes rest text more s number h cut line e.1)

pub all_told : (bytes rest : List ℕ) (number : ℕ) (words : Counters) (logs : List ThreadLog) (s : State) → AreRead bytes rest s number → s ≡ state.Ended words logs → rest ≡ [] → IsTold bytes words logs
all_told bytes rest number words logs s h is none =
    let b = lines_bring state.Start h.before (state.Ended words logs) tt (h.runs ∙ ap (λ (x : State). Some x) is) in
    record {
      text = h.whole ∙ ap (λ (x : List ℕ). flat_map ended h.before ++ x) none ∙ append-nil (flat_map ended h.before) ∙ ap (flat_map ended) (sym b.lines) ∙ sym (text_is (told_record words logs));
      fits = b.fits;
    }

-- ---- one record for a text, and no fault

texts_same : (a b : RunRecord) → HasText a → HasText b → record_text a ≡ record_text b → record_texts a ≡ record_texts b
texts_same a b h k e =
    let s = strip (record_texts a) (record_texts b) [] (record_are_lines a h) (record_are_lines b k) (append-nil (flat_map ended (record_texts a)) ∙ sym (text_is a) ∙ e ∙ text_is b) in
    sym (s.whole ∙ ap (λ (ts : List (List ℕ)). record_texts a ++ ts) (nothing s.more s.left) ∙ append-nil (record_texts a))
  where
    nothing : (more : List (List ℕ)) → [] ≡ flat_map ended more → more ≡ []
    nothing [] f = refl
    nothing (m ∷ ms) f = absurd (no_line [] m (flat_map ended ms) tt f)

abbrev words_in : State → Counters → Counters
words_in (state.Ended words logs) c = words
words_in other c = c

abbrev logs_in : State → List ThreadLog
logs_in (state.Ended words logs) = logs
logs_in other = []

same_parts : (a b : RunRecord) → a.threads ≡ b.threads → a.allocs ≡ b.allocs → a.words ≡ b.words → a ≡ b
same_parts a b p q r =
    ap (λ (t : List ThreadLog). record { threads = t; allocs = a.allocs; words = a.words }) p
    ∙ ap (λ (l : List AllocLog). record { threads = b.threads; allocs = l; words = a.words }) q
    ∙ ap (λ (w : Counters). record { threads = b.threads; allocs = b.allocs; words = w }) r

pub one_record : (limit : ℕ) (bytes : List ℕ) (a b : RunRecord) → IsTextOf limit bytes a → IsTextOf limit bytes b → a ≡ b
one_record limit bytes a b h k =
    let same = texts_same a b h.fits k.fits (sym h.text ∙ k.text) in
    let last : state.Ended a.words a.threads ≡ state.Ended b.words b.threads = ended_same a (record_texts b) (state.Ended b.words b.threads) h.fits same (record_runs b k.fits) in
    let words : a.words ≡ b.words = ap (λ (s : State). words_in s a.words) last in
    let threads : a.threads ≡ b.threads = ap logs_in last in
    let allocs : a.allocs ≡ b.allocs = h.allocs ∙ ap (alloc_logs limit) threads ∙ sym k.allocs in
    same_parts a b threads allocs words

first_line : (before : List (List ℕ)) (m : List ℕ) (ms : List (List ℕ)) → AreLines (before ++ m ∷ ms) → IsLine m
first_line [] m ms k = k.0
first_line (b ∷ bs) m ms k = first_line bs m ms k.1

pub no_fault : (limit : ℕ) (bytes : List ℕ) (kept : RunRecord) (number : ℕ) → IsTextOf limit bytes kept → IsFirstWrong bytes number → ⊥
no_fault limit bytes kept number h f =
    let s = strip f.before (record_texts kept) f.rest (begins_lines f.before f.begins) (record_are_lines kept h.fits) (sym f.whole ∙ h.text ∙ text_is kept) in
    by_more s.more s.whole s.left
  where
    by_more : (more : List (List ℕ)) → record_texts kept ≡ f.before ++ more → f.rest ≡ flat_map ended more → ⊥
    by_more [] whole left = f.missing left kept h.fits (whole ∙ append-nil f.before)
    by_more (m ∷ ms) whole left =
        let lines : AreLines (f.before ++ m ∷ ms) = subst AreLines whole (record_are_lines kept h.fits) in
        f.wrong m (flat_map ended ms) left (first_line f.before m ms lines) (kept, ms, h.fits, whole ∙ sym (append_assoc f.before (m ∷ []) ms))

pub unless_memory : (limit : ℕ) (bytes : List ℕ) (kept : RunRecord) (fault : RecordFault) → IsTextOf limit bytes kept → IsFault bytes fault → fault ≡ NoMemory
unless_memory limit bytes kept NoMemory h f = refl
unless_memory limit bytes kept (NotRecord number) h f = absurd (no_fault limit bytes kept number h f)

-- ---- one first wrong line

-- a line more, behind which the text goes on
pub record Longer (a b : List (List ℕ)) (x : List ℕ) : Type 0 where
  pub line : List ℕ
  pub later : List (List ℕ)
  pub more : List ℕ
  pub whole : b ≡ a ++ line ∷ later
  pub cut : x ≡ ended line ++ more
  pub plain : IsLine line

abbrev Compared : List (List ℕ) → List (List ℕ) → List ℕ → List ℕ → Type 0
Compared a b x y = (a ≡ b) ⊎ (Longer a b x ⊎ Longer b a y)

later_too : (v w : List ℕ) (a b : List (List ℕ)) (x y : List ℕ) → v ≡ w → Compared a b x y → Compared (v ∷ a) (w ∷ b) x y
later_too v w a b x y e (inl same) = inl cc
later_too v w a b x y e (inr (inl h)) = inr (inl (record { line = h.line; later = h.later; more = h.more; whole = ap (λ (u : List ℕ). u ∷ b) (sym e) ∙ ap (λ (us : List (List ℕ)). v ∷ us) h.whole; cut = h.cut; plain = h.plain }))
later_too v w a b x y e (inr (inr h)) = inr (inr (record { line = h.line; later = h.later; more = h.more; whole = ap (λ (u : List ℕ). u ∷ a) e ∙ ap (λ (us : List (List ℕ)). w ∷ us) h.whole; cut = h.cut; plain = h.plain }))

compare : (a b : List (List ℕ)) (x y : List ℕ) → AreLines a → AreLines b → flat_map ended a ++ x ≡ flat_map ended b ++ y → Compared a b x y
compare [] [] x y h k e = inl refl
compare [] (w ∷ ws) x y h k e = inr (inl (record { line = w; later = ws; more = flat_map ended ws ++ y; whole = refl; cut = e ∙ append_assoc (ended w) (flat_map ended ws) y; plain = k.0 }))
compare (v ∷ vs) [] x y h k e = inr (inr (record { line = v; later = vs; more = flat_map ended vs ++ x; whole = refl; cut = sym e ∙ append_assoc (ended v) (flat_map ended vs) x; plain = h.0 }))
compare (v ∷ vs) (w ∷ ws) x y h k e =
    let p = one_line v w (flat_map ended vs ++ x) (flat_map ended ws ++ y) h.0 k.0 (sym (append_assoc (ended v) (flat_map ended vs) x) ∙ e ∙ append_assoc (ended w) (flat_map ended ws) y) in
    later_too v w vs ws x y p.0 (compare vs ws x y h.1 k.1 p.1)

longer_wrong : (bytes : List ℕ) (m : ℕ) (f : IsFirstWrong bytes m) (b : List (List ℕ)) → Begins b → Longer f.before b f.rest → ⊥
longer_wrong bytes m f b h l =
    let whole : record_texts h.0 ≡ (f.before ++ l.line ∷ []) ++ (l.later ++ h.1) =
    h.3 ∙ ap (λ (ts : List (List ℕ)). ts ++ h.1) l.whole ∙ append_assoc f.before (l.line ∷ l.later) h.1 ∙ sym (append_assoc f.before (l.line ∷ []) (l.later ++ h.1)) in
    f.wrong l.line l.more l.cut l.plain (h.0, l.later ++ h.1, h.2, whole)

pub one_fault : (bytes : List ℕ) (m n : ℕ) → IsFirstWrong bytes m → IsFirstWrong bytes n → m ≡ n
one_fault bytes m n f g = by_case (compare f.before g.before f.rest g.rest (begins_lines f.before f.begins) (begins_lines g.before g.begins) (sym f.whole ∙ g.whole))
  where
    by_case : Compared f.before g.before f.rest g.rest → m ≡ n
    by_case (inl same) = f.counted ∙ ap (λ (ts : List (List ℕ)). length ts + 1) same ∙ sym g.counted
    by_case (inr (inl l)) = absurd (longer_wrong bytes m f g.before g.begins l)
    by_case (inr (inr l)) = absurd (longer_wrong bytes n g f.before f.begins l)
