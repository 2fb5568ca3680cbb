-- What closed names have left.
use Rattle.std.specs.BTreeMap.{get_by_text}
use Rattle.flu_outside.specs.Outside.{Contents}
use Rattle.flu_selected.specs.declared.closed.ClosedNames.{ClosedNames}

-- what is left of the line under each closed name
abbrev pub lines_in : ClosedNames → Contents
lines_in closed name = get_by_text closed.lines name
