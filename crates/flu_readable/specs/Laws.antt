-- What is read of sources can be handed over, and tells where its rows stand.
use Rattle.std.specs.Prelude.{◌≡◌, List, true}
use Rattle.std.specs.List.{list_any}
use Rattle.flu_model.specs.declared.jobs.Program.{Program}
use Rattle.flu_model.specs.Rules.{is_clock}
use Rattle.flu_outside.specs.Outside.{Contents}
use Rattle.flu_selected.specs.Spans.{span_of_ranks, span_told, moments_fit}
use Rattle.flu_sending.specs.Laws.{AreReadable}
use Rattle.flu_sending.specs.Lines.{first_time, last_time}
use Rattle.flu_streams.specs.Good.{AreGood, lists_of, ranks_in}

-- WHAT IS READ IS READABLE: where no source has a defect, the lists of their rows have moments below 2^63, values of 64 bits, and fewer than 2^64 events
abbrev pub WhatIsReadIsReadable : Type 0
WhatIsReadIsReadable = (p : Program) (left : Contents) → AreGood p left → AreReadable (lists_of p left)

-- the first and the last time of the rows fit, and tell where the first and the last row stand
pub record TellsItsRows (p : Program) (left : Contents) : Type 0 where
  pub fits : moments_fit p (first_time p (lists_of p left)) (last_time p (lists_of p left)) ≡ true
  pub told : span_told p (first_time p (lists_of p left)) (last_time p (lists_of p left)) ≡ span_of_ranks (ranks_in p left)

-- WHAT IS READ TELLS ITS ROWS: so it is where no source of a job with a clock has a defect
abbrev pub WhatIsReadTellsItsRows : Type 0
WhatIsReadTellsItsRows = (p : Program) (left : Contents) → list_any is_clock p.sources ≡ true → AreGood p left → TellsItsRows p left
