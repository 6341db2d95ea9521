-- The text of a record, line by line.
use Rattle.std.specs.Prelude.{ℕ, List, [], ◌∷◌, ◌++◌, map, codes}
use Rattle.std.specs.Fmt.{decimal}
use Rattle.std.specs.List.{flat_map, join_with_byte}
use Rattle.bsan_ids.specs.declared.numbers.Counters.{Counters}
use Rattle.history.specs.declared.entry.Entry.{Entry}
use Rattle.history.specs.declared.log.ThreadLog.{ThreadLog}
use Rattle.history.specs.declared.record.RunRecord.{RunRecord}
use Rattle.record_text.specs.declared.line.Head.{Head}
use Rattle.record_text.specs.declared.line.Step.{Step}
use Rattle.record_text.specs.declared.line.Line.{Line}
use Rattle.record_text.specs.declared.line.Line.TheVariants as line
use Rattle.record_text.specs.Words.{prov_word, parent_word, end_words, request_words, plain_words, verdict_words}

-- ---- the words of a line

abbrev pub counter_words : Counters → List (List ℕ)
counter_words drawn = codes "words" ∷ decimal drawn.stamps ∷ decimal drawn.allocs ∷ decimal drawn.threads ∷ []

abbrev pub head_words : Head → List (List ℕ)
head_words h = codes "thread" ∷ decimal h.number.0 ∷ parent_word h.parent
    ∷ decimal h.entry_function ∷ decimal h.instructions ∷ decimal h.last ∷ end_words h.end

abbrev pub step_words : Step → List (List ℕ)
step_words s = decimal s.stamp.0 ∷ decimal s.site ∷ (request_words s.alloc s.request
    ++ codes "=" ∷ (plain_words s.reply.plain ++ prov_word s.reply.carried ∷ verdict_words s.reply.verdict))

abbrev pub line_words : Line → List (List ℕ)
line_words line.Title = codes "record" ∷ codes "1" ∷ []
line_words (line.Words drawn) = counter_words drawn
line_words (line.Thread h) = head_words h
line_words (line.Step s) = step_words s
line_words line.End = codes "end" ∷ []

-- its words with single spaces between them
unfoldable pub line_text : Line → List ℕ
line_text l = join_with_byte 32 (line_words l)

-- ---- the lines of a record

abbrev pub head_of : ThreadLog → Head
head_of log = record {
  number = log.number;
  parent = log.parent;
  entry_function = log.entry_function;
  instructions = log.instructions;
  last = log.last;
  «end» = log.end;
}

abbrev pub step_of : Entry → Step
step_of e = record { stamp = e.stamp; site = e.site; alloc = e.alloc; request = e.request; reply = e.reply }

abbrev pub log_lines : ThreadLog → List Line
log_lines log = line.Thread (head_of log) ∷ map (λ e. line.Step (step_of e)) log.entries

abbrev pub record_lines : RunRecord → List Line
record_lines kept = line.Title ∷ line.Words kept.words ∷ (flat_map log_lines kept.threads ++ line.End ∷ [])

-- each line ends with a newline
abbrev pub ended : List ℕ → List ℕ
ended text = text ++ codes "\n"

abbrev pub lines_text : List Line → List ℕ
lines_text ls = flat_map (λ l. ended (line_text l)) ls

-- the text of a record, without its allocation logs
abbrev pub record_text : RunRecord → List ℕ
record_text kept = lines_text (record_lines kept)
