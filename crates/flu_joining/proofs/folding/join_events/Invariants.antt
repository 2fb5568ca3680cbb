use Rattle.std.proofs.Common.{◌≡◌, drop}
use Rattle.std.specs.List.{filter}
use Rattle.flu_contribution.specs.Laws.{AreInRange}
use Rattle.flu_contribution.specs.Parts.{combined_of, program_of}
use Rattle.flu_contribution.specs.Sending.{joined_from}
use Rattle.flu_joining.specs.Joining.{waiting_behind}
use Rattle.flu_joining.specs.Parts.{waiting_in_each, has_itag}
use Rattle.flu_joining.proofs.folding.join_events.Given as goal

abbrev pub invariant-loop-event : goal.invariant-loop-event
invariant-loop-event l = record {
  combined : joined_from (program_of l.fn.fold) (combined_of l.fold) (waiting_in_each l.queues.items)
      (filter (has_itag l.table) (drop l.event-index l.events))
      ≡ joined_from (program_of l.fn.fold) (combined_of l.fn.fold) (waiting_in_each l.fn.queues.items) (filter (has_itag l.table) l.events);
  queues : waiting_behind (waiting_in_each l.queues.items) (filter (has_itag l.table) (drop l.event-index l.events))
      ≡ waiting_behind (waiting_in_each l.fn.queues.items) (filter (has_itag l.table) l.events);
  job : program_of l.fold ≡ program_of l.fn.fold;
  range : AreInRange (program_of l.fn.fold) (drop l.event-index l.events);
}
