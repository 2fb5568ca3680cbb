-- What honest files in memory hold.
use Rattle.std.specs.Prelude.{[], Some, unwrap_or}
use Rattle.std.specs.BTreeMap.{get_by_text}
use Rattle.flu_outside.specs.declared.honest_files.HonestFiles.{HonestFiles}
use Rattle.flu_outside.specs.Outside.{Contents}

-- the bytes that each name has left: each name is there, and empty if nothing was put there
abbrev pub left_of : HonestFiles → Contents
left_of h name = Some (unwrap_or (get_by_text h.files name) [])
