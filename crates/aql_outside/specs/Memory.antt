-- What the objects in memory hold, and the calls made on them.
use Rattle.std.specs.Prelude.{◌≡◌, ℕ, ◌-◌, ◌<◌, ◌⊎◌, min, Result, List, length, take, drop, vec_len}
use Rattle.aql_outside.specs.Calls.{Calls, NextFails, next_piece}
use Rattle.aql_outside.specs.Causes.{HasCause}
use Rattle.aql_outside.specs.Contents.{Content, content_of}
use Rattle.aql_outside.specs.declared.counter.Counter.{Counter}
use Rattle.aql_outside.specs.declared.memory_source.MemSource.{MemSource}
use Rattle.aql_outside.specs.declared.memory_source.SureSource.{SureSource}
use Rattle.aql_outside.specs.declared.memory_sink.MemSink.{MemSink}
use Rattle.aql_outside.specs.declared.memory_files.MemFiles.{MemFiles}
use Rattle.aql_outside.specs.declared.memory_files.SureFiles.{SureFiles}

-- the calls that a counter counted
abbrev pub counted_calls : Counter → Calls
counted_calls c = record { fails = c.fails.items; pieces = c.pieces.items; made = c.made; failed = c.failed }

-- a call did to its object's count of faults what its result says, and nothing where it ended well
abbrev pub CountsFaults : {T E : Type 0} → Calls → Calls → Result T E → Type 0
CountsFaults before now result = HasCause (Unit {0}) before.failed now.failed result

-- the bytes of a source that it has not given yet
abbrev pub source_left : MemSource → List ℕ
source_left s = drop s.given s.content.items

-- the calls made on it
abbrev pub source_calls : MemSource → Calls
source_calls s = counted_calls s.calls

-- the bytes that the next read gives into a piece of so many: the call's most, and what is left
abbrev pub read_count : MemSource → (room : ℕ) → ℕ
read_count s room = min (next_piece (source_calls s) room) (length (source_left s))

-- the bytes that a source that never fails has not given yet
abbrev pub sure_source_left : SureSource → List ℕ
sure_source_left s = drop s.given s.content.items

-- the bytes that a sink has taken
abbrev pub sink_bytes : MemSink → List ℕ
sink_bytes s = take s.taken s.room.items

-- how many bytes more there is room for
abbrev pub sink_room : MemSink → ℕ
sink_room s = vec_len s.room - s.taken

-- the calls made on it
abbrev pub sink_calls : MemSink → Calls
sink_calls s = counted_calls s.calls

-- the bytes that the next write takes of a piece of so many: the call's most, and what there is room for
abbrev pub write_count : MemSink → (many : ℕ) → ℕ
write_count s many = min (next_piece (sink_calls s) many) (sink_room s)

-- the next write of a piece fails: its call is one of those that fail, or there is room for none of its bytes
abbrev pub WriteFails : MemSink → (piece : List ℕ) → Type 0
WriteFails s piece = NextFails (sink_calls s) ⊎ ((sink_room s ≡ 0) × (0 < length piece))

-- the files in memory
abbrev pub files_content : MemFiles → Content
files_content s = content_of s.content

-- the calls made on them
abbrev pub files_calls : MemFiles → Calls
files_calls s = counted_calls s.calls

-- the same of files that never fail
abbrev pub sure_files_content : SureFiles → Content
sure_files_content s = content_of s.content
