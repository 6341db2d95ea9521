-- The lines of a record, as they are written.
use Rattle.std.specs.Prelude.{ℕ, nat_lt, if◌then◌else◌, List, [], ◌++◌, codes}
use Rattle.std.specs.Fmt.{decimal}
use Rattle.std.specs.List.{flat_map, join_with_byte}
use Rattle.bsan_ids.specs.declared.numbers.Counters.{Counters}
use Rattle.history.specs.declared.entry.Entry.{Entry}
use Rattle.history.specs.declared.log.ThreadLog.{ThreadLog}
use Rattle.history.specs.declared.record.RunRecord.{RunRecord}
use Rattle.record_text.specs.Words.{prov_word, parent_word, end_words, request_words, plain_words, verdict_words}

-- what stands before a byte of a piece
abbrev pub comma : ℕ → List ℕ
comma at = if nat_lt 0 at then codes "," else []

-- words with spaces between them
abbrev pub spaced : List (List ℕ) → List ℕ
spaced words = join_with_byte 32 words

abbrev pub step_start : Entry → List ℕ
step_start e = decimal e.stamp.0 ++ (codes " " ++ (decimal e.site ++ (codes " " ++ spaced (request_words e.alloc e.request))))

abbrev pub step_text : Entry → List ℕ
step_text e = step_start e ++ (codes " = " ++ (spaced (plain_words e.reply.plain) ++ (codes " " ++ (prov_word e.reply.carried
    ++ (codes " " ++ (spaced (verdict_words e.reply.verdict) ++ codes "\n"))))))

abbrev pub head_start : ThreadLog → List ℕ
head_start log = codes "thread " ++ (decimal log.number.0 ++ (codes " " ++ (parent_word log.parent ++ (codes " " ++ decimal log.entry_function))))

abbrev pub head_text : ThreadLog → List ℕ
head_text log = head_start log ++ (codes " " ++ (decimal log.instructions ++ (codes " " ++ (decimal log.last
    ++ (codes " " ++ (spaced (end_words log.end) ++ codes "\n"))))))

abbrev pub first_text : Counters → List ℕ
first_text drawn = codes "record 1\nwords " ++ (decimal drawn.stamps ++ (codes " " ++ (decimal drawn.allocs ++ (codes " " ++ (decimal drawn.threads ++ codes "\n")))))

abbrev pub log_text : ThreadLog → List ℕ
log_text log = head_text log ++ flat_map step_text log.entries

abbrev pub written : RunRecord → List ℕ
written kept = (first_text kept.words ++ flat_map log_text kept.threads) ++ codes "end\n"
