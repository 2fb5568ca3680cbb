use Rattle.std.proofs.Common.{◌≡◌, ◌≤◌, ◌++◌, take, length}
use Rattle.std.specs.Prelude.{codes}
use Rattle.std.specs.String.{string_bytes}
use Rattle.flu_layout.specs.Laid.{quoted}
use Rattle.flu_layout.specs.Lists.{separated}
use Rattle.flu_parse.proofs.printing.add_texts.Given as goal

abbrev pub invariant-loop-number : goal.invariant-loop-number
invariant-loop-number l =
    (l.number-end ≡ length l.list.texts) × (1 ≤ l.number)
    × (string_bytes l.text ≡ string_bytes l.fn.text ++ separated (codes ", ") quoted (take l.number l.list.texts))
