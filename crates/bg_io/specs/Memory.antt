-- Files and sinks in memory: what their next call does.
use Rattle.std.specs.Prelude.{ℕ, ◌-◌, min, Bool, List, Option, is_some, unwrap_or, vec_len}
use Rattle.bg_io.specs.declared.calls.Calls.{Calls}
use Rattle.bg_io.specs.declared.mem_files.MemFiles.{MemFiles}
use Rattle.bg_io.specs.declared.mem_sink.MemSink.{MemSink}
use Rattle.bg_io.specs.Stored.{holds, contents_of, left_of}

-- how many calls were made and failed, and which are to fail
abbrev pub file_calls : MemFiles → Calls
file_calls files = files.calls

abbrev pub sink_calls : MemSink → Calls
sink_calls sink = sink.calls

-- what stands under each name
abbrev pub contents_in : MemFiles → List ℕ → List ℕ
contents_in files = contents_of files.shelf.files.items

-- what is left of the started file
abbrev pub left_in : MemFiles → Option (List ℕ)
left_in files = left_of files.shelf

-- whether a file is started
abbrev pub started_in : MemFiles → Bool
started_in files = is_some files.shelf.file

-- how often `start_file` was called
abbrev pub starts_in : MemFiles → ℕ
starts_in files = files.shelf.starts

-- whether a file of this name is stored
abbrev pub is_held : MemFiles → List ℕ → Bool
is_held files name = holds files.shelf.files.items name

-- the bytes written so far
abbrev pub written_in : MemSink → List ℕ
written_in sink = sink.bytes.items

-- the room that the sink was made with, and what it takes at a time
abbrev pub room_of : MemSink → ℕ
room_of sink = sink.room

abbrev pub most_of : MemSink → Option ℕ
most_of sink = sink.most

-- how many of so many bytes the sink takes now
abbrev pub front_len : MemSink → ℕ → ℕ
front_len sink len = min (min len (sink.room - vec_len sink.bytes)) (unwrap_or sink.most len)
