-- What is known of files of the system.
use Rattle.std.specs.Prelude.{ℕ}
use Rattle.flu_adapt.specs.declared.host_files.HostFiles.{HostFiles}

-- how often a take of a name failed
abbrev pub count_of : {R A F : Type 0} → HostFiles R A F → ℕ
count_of f = f.faults

-- how often a put of a name failed
abbrev pub put_count_of : {R A F : Type 0} → HostFiles R A F → ℕ
put_count_of f = f.put_faults
