use Rattle.flu_selected.proofs.Lists.{ranks_law, lists_law, ticks_law, length_law, streams_stay}
use Rattle.flu_selected.proofs.laws.selected_sources_are_read.Goals as goal

pub returns-clause-ranks : goal.returns-clause-ranks
returns-clause-ranks c = ranks_law

pub returns-clause-lists : goal.returns-clause-lists
returns-clause-lists c = lists_law

pub returns-clause-ticks : goal.returns-clause-ticks
returns-clause-ticks c = ticks_law

pub returns-clause-length : goal.returns-clause-length
returns-clause-length c = length_law

pub returns-clause-streams : goal.returns-clause-streams
returns-clause-streams c = streams_stay
