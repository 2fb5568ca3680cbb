use Rattle.flu_parts.proofs.Dones.{done_written}
use Rattle.flu_parts.proofs.laws.part_done_is_written.Goals as goal

pub returns : goal.returns
returns c = done_written
