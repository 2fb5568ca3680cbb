use Rattle.flu_contribution.proofs.Streams.{merged_in_range, same_report_of}
use Rattle.flu_contribution.proofs.Whole.{gives_the_fold}
use Rattle.flu_contribution.specs.Laws.{ContributionsGiveTheFold}
use Rattle.flu_contribution.proofs.contributions_give_the_fold.Goals as goal

pub returns : goal.returns
returns c =
    let fold : ContributionsGiveTheFold = λ p nodes ws opening xs setting apart range.
    gives_the_fold p nodes
    (record {
      order = c.plans_are_trees.ensures.order nodes setting.tree;
      owned = λ i lt. c.itags_are_owned.ensures p nodes i setting.valid lt;
      valid = setting.valid;
      lawful = c.accepted_is_lawful.ensures.lawful p setting.accepted;
      left = c.update_of_a_part.ensures.left p;
      right = c.update_of_a_part.ensures.right p;
    }) ws opening xs setting.sorts apart range in
    record {
      fold = fold;
      run = λ p nodes ws opening lists setting apart one streams.
          let given = fold p nodes ws opening _ setting apart (merged_in_range p lists one streams) in
          record { cells = given.cells; outputs = given.outputs; same_report = same_report_of p _ _ given.outputs };
    }
