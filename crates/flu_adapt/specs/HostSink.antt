-- What is known of a writer of the system.
use Rattle.std.specs.Prelude.{ℕ}
use Rattle.flu_adapt.specs.declared.host_sink.HostSink.{HostSink}

-- what it writes to
abbrev pub writer_of : {W : Type 0} → HostSink W → W
writer_of s = s.writer

-- how often it failed
abbrev pub count_of : {W : Type 0} → HostSink W → ℕ
count_of s = s.faults
