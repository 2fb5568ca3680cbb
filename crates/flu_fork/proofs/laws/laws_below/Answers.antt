use Rattle.flu_fork.proofs.laws.laws_below.Goals as goal

pub returns : goal.returns
returns c = record {
  lawful = c.accepted_is_lawful.ensures.lawful;
  turns = c.dependency_turns.ensures;
  changes = c.updates_are_changes.ensures.changes;
  keeps_sorts = c.updates_are_changes.ensures.sorts;
  unwritten_keeps = c.changes_keep_to_modes.ensures.idle;
  changes_keep_sorts = c.changes_keep_to_modes.ensures.sorts;
  changes_mix = c.changes_keep_to_modes.ensures.mixing;
  of_events = c.moments_are_in_order.ensures.events;
  places_rise = c.moments_are_in_order.ensures.places;
  central = c.fits_again.ensures;
  rooted = c.plans_are_trees.ensures.parents;
  paths = c.plans_are_trees.ensures.paths;
  subtrees = c.plans_are_trees.ensures.subtrees;
  ordered = c.plans_are_trees.ensures.order;
  apart = c.plans_are_trees.ensures.apart;
  owned = c.itags_are_owned.ensures;
}
