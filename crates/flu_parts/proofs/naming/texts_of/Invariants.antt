use Rattle.std.proofs.Common.{◌≡◌, map, take, string_bytes}
use Rattle.flu_parts.proofs.naming.texts_of.Given as goal

-- the texts so far are the names so far
abbrev pub invariant-loop-name : goal.invariant-loop-name
invariant-loop-name l = l.texts.items ≡ map string_bytes (take l.name-index l.names)
