use Rattle.std.proofs.Common.{◌≡◌, length, take}
use Rattle.flu_outside.specs.Outside.{WhereTold, SameCounts}
use Rattle.flu_deps.specs.Checking.{program_of}
use Rattle.flu_deps.specs.Validated.{plan_of}
use Rattle.flu_contribution.specs.Laws.{AreNodesApart}
use Rattle.flu_streams.specs.Clocks.{AreEarly}
use Rattle.flu_streams.specs.Files.{LeavesOthers}
use Rattle.flu_joining.specs.Parts.{waiting_in_each}
use Rattle.flu_combine.specs.Reading.{AreRead}
use Rattle.flu_combine.proofs.reading.read_partials.Given as goal

abbrev pub invariant-partials : goal.invariant-partials
invariant-partials g l =
    let left = g.F.Files.left in
    let faults = g.F.Files.faults in
    let puts = g.F.Files.put_faults in
    record {
      read : WhereTold (left l.fn.files) (left l.files)
          (AreRead (program_of l.c) (plan_of l.v).nodes (take l.place l.names) l.partials.nodes.items (waiting_in_each l.partials.queues.items)
          l.partials.told.items);
      many_nodes : length l.partials.nodes.items ≡ l.place;
      many : length (waiting_in_each l.partials.queues.items) ≡ l.place;
      early : AreEarly (program_of l.c) l.partials.told.items;
      apart : AreNodesApart (program_of l.c) (plan_of l.v).nodes l.partials.nodes.items;
      others : WhereTold (left l.fn.files) (left l.files) (LeavesOthers l.names);
      quiet : SameCounts (faults l.fn.files) (faults l.files);
      puts : SameCounts (puts l.fn.files) (puts l.files);
    }
