-- What a call sees of the world: files and a sink, before it and after it.
use Rattle.std.specs.Prelude.{◌≡◌, ◌≤◌, ◌⊎◌, ℕ, List, length, Option}
use Rattle.std.specs.Io.KnownBytes.{Appends, Keeps}
use Rattle.outside_io.specs.Counts.{Rose}
use Rattle.outside_io.specs.Reading.{Tells, IsLongerThan}
use Rattle.outside_io.specs.Putting.{AppendsPrefix}
use Rattle.ir_text.specs.Bytes.{most_bytes}
use Rattle.bsan.specs.Words.{Text}

-- files: what is told of each content, and the counts of faults and of overlong reads
pub record FilesSeen : Type 0 where
  pub content : Text → Option (List ℕ)
  pub faults_before : Text → ℕ
  pub faults_after : Text → ℕ
  pub overlong_before : Text → ℕ → ℕ
  pub overlong_after : Text → ℕ → ℕ

-- a sink: the bytes taken, where that is told, and the count of faults
pub record SinkSeen : Type 0 where
  pub taken_before : Option (List ℕ)
  pub taken_after : Option (List ℕ)
  pub faults_before : ℕ
  pub faults_after : ℕ

-- the files of a call as their trait tells of them, by what they were and what they are
abbrev pub seen_by : {F : Type 0} → (F → Text → Option (List ℕ)) → (F → Text → ℕ) → (F → Text → ℕ → ℕ) → F → F → FilesSeen
seen_by content faults overlong before after = record {
  content = content before;
  faults_before = faults before;
  faults_after = faults after;
  overlong_before = overlong before;
  overlong_after = overlong after;
}

-- the sink of a call, in the same way
abbrev pub put_by : {K : Type 0} → (K → Option (List ℕ)) → (K → ℕ) → K → K → SinkSeen
put_by taken faults before after = record {
  taken_before = taken before;
  taken_after = taken after;
  faults_before = faults before;
  faults_after = faults after;
}

-- a read of the file failed in the call
abbrev pub Failed : FilesSeen → Text → Type 0
Failed files file = Rose (files.faults_before file) (files.faults_after file)

-- the file was longer than the limit in the call
pub record WasTooLong (files : FilesSeen) (file : Text) (limit : ℕ) : Type 0 where
  pub rose : Rose (files.overlong_before file limit) (files.overlong_after file limit)
  pub longer : IsLongerThan limit (files.content file)

-- one of the two
abbrev pub IsFault : FilesSeen → Text → Type 0
IsFault files file = Failed files file ⊎ WasTooLong files file most_bytes

-- these bytes were read of the file: its content, where that is told
pub record WasRead (files : FilesSeen) (file : Text) (limit : ℕ) (bytes : List ℕ) : Type 0 where
  pub told : Tells (files.content file) bytes
  pub within : length bytes ≤ limit

-- the answer after one `put` of the text, where the work found this status
pub data Puts (sink : SinkSeen) (text : List ℕ) (status answer : ℕ) : Type 0 where
  whole : answer ≡ status → Appends sink.taken_before sink.taken_after text → Puts sink text status answer
  failed : answer ≡ 8 → Rose sink.faults_before sink.faults_after → AppendsPrefix sink.taken_before sink.taken_after text → Puts sink text status answer
  no_memory : answer ≡ 9 → Keeps sink.taken_before sink.taken_after → Puts sink text status answer
