-- How lines are read, and what state the lines so far leave.
use Rattle.std.specs.Prelude.{ℕ, ◌-◌, ◌==◌, nat_lt, Bool, true, Option, Some, None, List, [], ◌∷◌, ◌++◌, length, codes, if◌then◌else◌}
use Rattle.std.specs.Option.{option_map_or}
use Rattle.std.specs.List.{slice_split, slice_get}
use Rattle.bsan_ids.specs.declared.numbers.AllocNo.{AllocNo}
use Rattle.bsan_ids.specs.declared.numbers.ThreadNo.{ThreadNo}
use Rattle.bsan_ids.specs.declared.numbers.Prov.{Prov}
use Rattle.bsan_ids.specs.declared.numbers.Counters.{Counters}
use Rattle.history.specs.declared.log.End.{End}
use Rattle.history.specs.declared.log.ThreadLog.{ThreadLog}
use Rattle.history.specs.declared.entry.Entry.{Entry}
use Rattle.history.specs.declared.entry.Request.{Request}
use Rattle.history.specs.declared.entry.Request.TheVariants as request
use Rattle.history.specs.declared.entry.Reply.{Reply}
use Rattle.history.specs.declared.entry.Plain.{Plain}
use Rattle.history.specs.declared.entry.Plain.TheVariants as plain
use Rattle.history.specs.declared.entry.Verdict.{Verdict}
use Rattle.record_text.specs.declared.keys.LineKey.{LineKey}
use Rattle.record_text.specs.declared.keys.LineKey.TheVariants as line_key
use Rattle.record_text.specs.declared.line.Head.{Head}
use Rattle.record_text.specs.declared.line.Step.{Step}
use Rattle.record_text.specs.declared.line.Line.{Line}
use Rattle.record_text.specs.declared.line.Line.TheVariants as line
use Rattle.record_text.specs.declared.state.State.{State}
use Rattle.record_text.specs.declared.state.State.TheVariants as state
use Rattle.record_text.specs.Reading.{Words, Reader, ◌>>=◌, one, both, mapped, given, behind, all_of, lookup, number64, number32}
use Rattle.record_text.specs.Tables.{line_keys}
use Rattle.record_text.specs.Parts.{Asked, prov_in, parent_in, end_at, request_at, plain_at, verdict_at}

-- ---- lines

abbrev pub counters_of : ℕ × (ℕ × ℕ) → Counters
counters_of x = record { stamps = x.0; allocs = x.1.0; threads = x.1.1 }

unfoldable pub counters_at : Reader Counters
counters_at = mapped counters_of (both (one number64) (both (one number64) (one number64)))

abbrev pub head_from : ℕ × (Option ThreadNo × (ℕ × (ℕ × (ℕ × End)))) → Head
head_from x = record {
  number = record { 0 = x.0 };
  parent = x.1.0;
  entry_function = x.1.1.0;
  instructions = x.1.1.1.0;
  last = x.1.1.1.1.0;
  «end» = x.1.1.1.1.1;
}

unfoldable pub head_at : Reader Head
head_at = mapped head_from (both (one number32) (both (one parent_in) (both (one number32) (both (one number64) (both (one number32) end_at)))))

abbrev pub reply_of : Plain × (Option Prov × Verdict) → Reply
reply_of x = record { plain = x.0; carried = x.1.0; verdict = x.1.1 }

unfoldable pub reply_at : Reader Reply
reply_at = mapped reply_of (both plain_at (both (one prov_in) verdict_at))

-- the allocation of a step: that of its request, and for a Make that of its reply
abbrev pub alloc_of : Option AllocNo → Request → Plain → Option (Option AllocNo)
alloc_of alloc (request.Make size place) (plain.Made number) = Some (Some number)
alloc_of alloc (request.Make size place) other = None
alloc_of alloc other reply = Some alloc

abbrev pub step_from : ℕ × (ℕ × (Asked × Reply)) → Option Step
step_from x = alloc_of x.1.1.0.0 x.1.1.0.1 x.1.1.1.plain >>= λ alloc.
    Some (record { stamp = record { 0 = x.0 }; site = x.1.0; alloc = alloc; request = x.1.1.0.1; reply = x.1.1.1 })

unfoldable pub step_parts_at : Reader (ℕ × (ℕ × (Asked × Reply)))
step_parts_at = both (one number64) (both (one number32) (both request_at (behind (codes "=") reply_at)))

unfoldable pub step_at : Reader Step
step_at ws = step_parts_at ws >>= λ x. step_from x.0 >>= λ s. Some (s, x.1)

abbrev pub line_tail : LineKey → Reader Line
line_tail line_key.Title = behind (codes "1") (given line.Title)
line_tail line_key.Words = mapped line.Words counters_at
line_tail line_key.Thread = mapped line.Thread head_at
line_tail line_key.End = given line.End

-- a line that begins with a word, or a step's
abbrev pub line_or_step : Option LineKey → Words → Words → Option (Line × Words)
line_or_step (Some key) ws all = line_tail key ws
line_or_step None ws all = mapped line.Step step_at all

unfoldable pub line_at : Reader Line
line_at [] = None
line_at (w ∷ ws) = line_or_step (lookup line_keys w) ws (w ∷ ws)

unfoldable pub line_in : List ℕ → Option Line
line_in text = all_of line_at (slice_split (λ b. b == 32) text)

-- ---- states

-- the number is above that of the last log
abbrev pub is_next : List ThreadLog → ℕ → Bool
is_next logs number = option_map_or (λ log. nat_lt log.number.0 number) (slice_get logs (length logs - 1)) true

abbrev pub opened : Head → ThreadLog
opened h = record {
  number = h.number;
  parent = h.parent;
  entry_function = h.entry_function;
  entries = [];
  instructions = h.instructions;
  last = h.last;
  «end» = h.end;
}

abbrev pub entry_of : ThreadNo → Step → Entry
entry_of thread s = record { thread = thread; stamp = s.stamp; site = s.site; alloc = s.alloc; request = s.request; reply = s.reply }

abbrev pub longer : ThreadLog → Step → ThreadLog
longer log s = record log { entries = log.entries ++ entry_of log.number s ∷ [] }

-- the logs with one more step in the last
unfoldable pub with_step : List ThreadLog → Step → Option (List ThreadLog)
with_step [] s = None
with_step (log ∷ []) s = Some (longer log s ∷ [])
with_step (log ∷ next ∷ logs) s = with_step (next ∷ logs) s >>= λ more. Some (log ∷ more)

abbrev pub with_log : Counters → List ThreadLog → Head → Option State
with_log words logs h = if is_next logs h.number.0 then Some (state.Logs words (logs ++ opened h ∷ [])) else None

-- the state after one more line, if a record's lines can go on so
abbrev pub after_line : State → Line → Option State
after_line state.Start line.Title = Some state.Titled
after_line state.Titled (line.Words drawn) = Some (state.Logs drawn [])
after_line (state.Logs words logs) (line.Thread h) = with_log words logs h
after_line (state.Logs words logs) (line.Step s) = with_step logs s >>= λ more. Some (state.Logs words more)
after_line (state.Logs words logs) line.End = Some (state.Ended words logs)
after_line other l = None

abbrev pub after_text : State → List ℕ → Option State
after_text s text = line_in text >>= after_line s

-- the state after these lines
unfoldable pub after_lines : State → List (List ℕ) → Option State
after_lines s [] = Some s
after_lines s (text ∷ texts) = after_text s text >>= λ t. after_lines t texts
