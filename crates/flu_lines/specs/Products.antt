-- What a command says on err once it is done.
use Rattle.std.specs.Prelude.{List, ℕ, [], Option, Some, None}
use Rattle.flu_lines.specs.declared.products.Said.{Said}
use Rattle.flu_lines.specs.declared.products.Said.TheVariants.{Steps, Plan}
use Rattle.flu_lines.specs.Lines.{step_line}

-- the line of what is said: the line of some steps, or the text of a plan, which has its line feeds
abbrev pub line_of_said : Said → List ℕ
line_of_said (Steps steps) = step_line steps
line_of_said (Plan text) = text

-- the same, and the empty line if nothing is said
abbrev pub line_said : Option Said → List ℕ
line_said None = []
line_said (Some said) = line_of_said said
