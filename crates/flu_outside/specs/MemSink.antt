-- What a sink in memory holds.
use Rattle.std.specs.Prelude.{ℕ, List}
use Rattle.flu_outside.specs.declared.mem_sink.MemSink.{MemSink}
use Rattle.flu_outside.specs.Calls.{Calls}

-- the bytes that it took
abbrev pub taken_of : MemSink → List ℕ
taken_of s = s.taken.items

-- how many bytes it can take altogether
abbrev pub room_of : MemSink → ℕ
room_of s = s.room

-- how often it failed
abbrev pub count_of : MemSink → ℕ
count_of s = s.faults

-- the calls of `write`
abbrev pub calls_of : MemSink → Calls
calls_of s = s.schedule
