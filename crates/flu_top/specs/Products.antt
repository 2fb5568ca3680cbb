-- What a command says on err once it is done.
use Rattle.std.specs.Prelude.{◌≡◌, Option, Some, None}
use Rattle.flu_lines.specs.declared.products.Said.{Said}
use Rattle.flu_lines.specs.Products.{line_of_said}
use Rattle.flu_command.specs.Wants.{Saying, Nothing, Line}

-- something is said exactly if a command says a line, and it has the form of that line
abbrev pub MaySay : Saying → Option Said → Type 0
MaySay Nothing said = said ≡ None
MaySay (Line Is IsForm) None = ⊥
MaySay (Line Is IsForm) (Some said) = IsForm (line_of_said said)
