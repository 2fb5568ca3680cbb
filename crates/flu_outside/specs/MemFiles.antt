-- What files in memory hold.
use Rattle.std.specs.Prelude.{ℕ, List, option_map}
use Rattle.std.specs.Option.{option_map_or}
use Rattle.std.specs.BTreeMap.{get_by_text}
use Rattle.flu_outside.specs.declared.mem_files.MemFiles.{MemFiles}
use Rattle.flu_outside.specs.Calls.{Calls}
use Rattle.flu_outside.specs.Outside.{Contents}

-- the bytes that each name has left
abbrev pub left_of : MemFiles → Contents
left_of m name = option_map (λ f. f.rest) (get_by_text m.files name)

-- how often each name failed: names that are not there share one count
abbrev pub counts_of : MemFiles → List ℕ → ℕ
counts_of m name = option_map_or (λ f. f.faults) (get_by_text m.files name) m.missing

-- how often a put of each name failed: those of names that are not there never did
abbrev pub put_counts_of : MemFiles → List ℕ → ℕ
put_counts_of m name = option_map_or (λ f. f.put_faults) (get_by_text m.files name) 0

-- the calls of `take`
abbrev pub calls_of : MemFiles → Calls
calls_of m = m.schedule

-- the calls of `put`, which move all bytes
abbrev pub puts_of : MemFiles → Calls
puts_of m = m.puts
