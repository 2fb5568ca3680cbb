use Rattle.flu_net.proofs.laws.laws_below.Goals as goal

pub returns : goal.returns
returns c = record {
  children = c.plans_are_trees.ensures.children;
  parents = c.plans_are_trees.ensures.parents;
  owned = c.itags_are_owned.ensures;
  sorts = c.fitting_states_have_sorts.ensures;
  settings = c.contents_are_settings.ensures;
  of_nodes = c.itags_are_of_nodes.ensures.nodes;
  of_kids = c.itags_are_of_nodes.ensures.kids;
  of_root = c.itags_are_of_nodes.ensures.root;
  events = c.events_have_moments.ensures.events;
  known = c.events_have_moments.ensures.known;
  exactness = c.prefixes_are_of_streams.ensures.exact;
  on_loan = c.loans_are_paired.ensures.lent;
  paired = c.loans_are_paired.ensures.paired;
  at_leaf = c.last_lots_join.ensures.leaf;
  last_paired = c.last_lots_join.ensures.paired;
  last_joined = c.last_lots_join.ensures.joined;
  no_texts = c.texts_are_counted.ensures.nothing;
  same_texts = c.texts_are_counted.ensures.same;
  more_texts = c.texts_are_counted.ensures.grow;
  texts_end = c.texts_end.ensures.texts;
  states_end = c.texts_end.ensures.states;
  new_targets = c.targets_are_own_or_asked.ensures;
  asked_go_on = c.waiting_ends.ensures.asked;
  own_go_on = c.waiting_ends.ensures.own;
  nothing_next = c.waiting_ends.ensures.nothing;
  next_exact = c.next_events_are_exact.ensures;
  seeing_keeps = c.seeing_keeps_the_rule.ensures;
  lend_turns = c.hands_turn.ensures.lend;
  take_turns = c.hands_turn.ensures.take;
  first_here = c.hands_turn.ensures.first;
  start_here = c.hands_turn.ensures.start;
  start_shut = c.hands_turn.ensures.shut;
}
