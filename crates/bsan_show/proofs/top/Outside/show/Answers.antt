use Rattle.std.proofs.Common.{List, map, string_bytes}
use Rattle.command_words.specs.Jobs.{job_of}
use Rattle.bsan.proofs.Found.{read_is}
use Rattle.bsan.proofs.Limits.{read_in_range}
use Rattle.bsan_show.proofs.Left.{answers_noted}
use Rattle.bsan_show.proofs.top.Outside.show.Goals as goal

pub bsan_asked-status-requires-clause-range : goal.bsan_asked-status-requires-clause-range
bsan_asked-status-requires-clause-range g c κs within =
    read_in_range (map string_bytes c.args.words.now) c.read_job-asked.result c.read_job-asked.ensures.job

pub notes-notes-requires-clause-histories : goal.notes-notes-requires-clause-histories
notes-notes-requires-clause-histories g c = λ lifetimes outlives.
    let words = job_of (map string_bytes c.args.words.now) in
    let read = read_is words c.read_job-asked.result c.read_job-asked.ensures.job c.read_job-asked.ensures.refused in
    (answers_noted _ _ _ words _ _ (c.bsan_asked-status.ensures words read).answer).histories

pub notes-notes-requires-clause-distinct : goal.notes-notes-requires-clause-distinct
notes-notes-requires-clause-distinct g c = λ lifetimes outlives.
    let words = job_of (map string_bytes c.args.words.now) in
    let read = read_is words c.read_job-asked.result c.read_job-asked.ensures.job c.read_job-asked.ensures.refused in
    (answers_noted _ _ _ words _ _ (c.bsan_asked-status.ensures words read).answer).distinct

pub returns-clause-top_call : goal.returns-clause-top_call
returns-clause-top_call g c =
    let words = job_of (map string_bytes c.args.words.now) in
    c.bsan_asked-status.ensures words (read_is words c.read_job-asked.result c.read_job-asked.ensures.job c.read_job-asked.ensures.refused)

pub returns-clause-notes : goal.returns-clause-notes
returns-clause-notes g c =
    let words = job_of (map string_bytes c.args.words.now) in
    c.notes-notes.ensures words (read_is words c.read_job-asked.result c.read_job-asked.ensures.job c.read_job-asked.ensures.refused)
