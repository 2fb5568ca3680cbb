use Rattle.flu_worker.proofs.laws.laws_below.Goals as goal

pub returns : goal.returns
returns c = record {
  settings = c.contents_are_settings.ensures;
  of_nodes = c.itags_are_of_nodes.ensures.nodes;
  of_kids = c.itags_are_of_nodes.ensures.kids;
  events = c.events_have_moments.ensures.moments;
  known = c.events_have_moments.ensures.known;
  central = c.updates_fit.ensures;
  paired = c.loans_are_paired.ensures.paired;
  joins = c.served_lots_join.ensures.serves;
  grows = c.served_lots_join.ensures.grows;
  clear = c.clear_events_are_served.ensures.clear;
  exact = c.subtrees_count_just_before.ensures.exact;
  leaves = c.clear_events_are_served.ensures.leaf;
  ready = c.ready_clears.ensures.ready;
  serving = c.ready_clears.ensures.serve;
  seen_ready = c.ready_when_clear.ensures.ready;
  seen_serving = c.ready_when_clear.ensures.serve;
  seen_events = c.seen_events_stand.ensures.stand;
  few_events = c.seen_events_stand.ensures.few;
  rising = c.moments_are_in_order.ensures.places;
}
