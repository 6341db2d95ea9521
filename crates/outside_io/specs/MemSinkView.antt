-- What a sink in memory shows.
use Rattle.std.specs.Prelude.{ℕ, List, Option, length, take}
use Rattle.outside_io.specs.declared.mem_sink.MemSink.{MemSink}
use Rattle.outside_io.specs.Room.{Fits, fitting}

-- the bytes taken
abbrev pub sink_bytes : MemSink → List ℕ
sink_bytes sink = sink.bytes.items

-- how many bytes it takes in all, where there is an end to them
abbrev pub sink_room : MemSink → Option ℕ
sink_room sink = sink.room

-- how often a piece has failed
abbrev pub sink_faults : MemSink → ℕ
sink_faults sink = sink.faults

-- there is room for the whole piece
abbrev pub sink_fits : MemSink → List ℕ → Type 0
sink_fits sink piece = Fits (sink_room sink) (length (sink_bytes sink)) (length piece)

-- as much of the piece as there is room for
abbrev pub sink_prefix : MemSink → List ℕ → List ℕ
sink_prefix sink piece = take (fitting (sink_room sink) (length (sink_bytes sink)) (length piece)) piece
