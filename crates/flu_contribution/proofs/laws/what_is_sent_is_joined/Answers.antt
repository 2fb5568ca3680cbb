use Rattle.flu_contribution.proofs.Sent.{joined_gives}
use Rattle.flu_contribution.proofs.laws.what_is_sent_is_joined.Goals as goal

pub returns : goal.returns
returns c = λ p nodes ws opening xs setting apart range up.
    joined_gives p nodes
    (record {
      order = c.plans_are_trees.ensures.order nodes setting.tree;
      owned = λ i lt. c.itags_are_owned.ensures p nodes i setting.valid lt;
      valid = setting.valid;
      lawful = c.accepted_is_lawful.ensures.lawful p setting.accepted;
      left = c.update_of_a_part.ensures.left p;
      right = c.update_of_a_part.ensures.right p;
    }) ws opening xs setting.sorts apart range up
