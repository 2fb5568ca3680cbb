use Rattle.flu_readable.proofs.Readable.{read_is_readable}
use Rattle.flu_readable.proofs.Telling.{tells}
use Rattle.flu_readable.proofs.laws.what_is_read_is_readable.Goals as goal

pub returns-clause-readable : goal.returns-clause-readable
returns-clause-readable c = read_is_readable c.times_are_in_range.ensures c.selected_sources_are_read.ensures.length

pub returns-clause-tells : goal.returns-clause-tells
returns-clause-tells c = λ p left clocks good. tells p left clocks good
