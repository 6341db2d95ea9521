-- A record of which a text tells, with its allocation logs.
use Rattle.std.proofs.Common.{◌≡◌, ℕ, List, Err}
use Rattle.bsan_ids.specs.declared.numbers.Counters.{Counters}
use Rattle.history.specs.declared.log.AllocLog.{AllocLog}
use Rattle.history.specs.declared.log.ThreadLog.{ThreadLog}
use Rattle.history.specs.declared.record.RunRecord.{RunRecord}
use Rattle.record_text.specs.declared.record.RecordFault.{RecordFault}
use Rattle.record_text.specs.Texts.{IsTextOf, IsFault, IsUnlessMemory, alloc_logs}
use Rattle.record_text.specs.Loop.{IsTold}
use Rattle.record_text.proofs.Beginnings.{one_record, unless_memory}

pub text_of_told : (limit : ℕ) (bytes : List ℕ) (drawn : Counters) (threads : List ThreadLog) (logs : List AllocLog) → IsTold bytes drawn threads → logs ≡ alloc_logs limit threads
    → IsTextOf limit bytes (record { threads = threads; allocs = logs; words = drawn })
text_of_told limit bytes drawn threads logs told is = record {
  text = told.text;
  fits = record { rising = told.fits.rising; threads = told.fits.threads; words = told.fits.words };
  allocs = is;
}

-- what is read of a record's text is that record
pub read_again : (limit : ℕ) (bytes : List ℕ) (read kept : RunRecord) → IsTextOf limit bytes read → IsTextOf limit bytes kept → read ≡ kept
read_again limit bytes read kept h k = one_record limit bytes read kept h k

pub refused_again : (limit : ℕ) (bytes : List ℕ) (kept : RunRecord) (fault : RecordFault) → IsTextOf limit bytes kept → IsFault bytes fault → IsUnlessMemory kept (Err fault)
refused_again limit bytes kept fault h f = unless_memory limit bytes kept fault h f
