use Rattle.flu_selected.specs.Gathering.{reads}
use Rattle.flu_selected.specs.Laws.{closed_files}
use Rattle.flu_selected.specs.Selecting.{is_among}
use Rattle.flu_selected.proofs.gathering.gather_selected.Given as goal

abbrev pub ghosts-gather_lent : goal.ghosts-gather_lent
ghosts-gather_lent g a = record {
  reference = a.lent.files.ghost_name;
  is_closed = is_among (closed_files a.p.now (reads a.is_read.now));
  left = g.F.Files.left a.lent.files.now;
  faults = g.F.Files.faults a.lent.files.now;
}
