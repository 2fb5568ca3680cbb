-- The laws of lots, of texts and of plans on which a tree of threads rests.
use Rattle.flu_deps.specs.Trees.{ChildrenAreLater, TreesAreRooted}
use Rattle.flu_fork.specs.Completing.{LeavesBringAll, LastOnesArePaired, JoinsBringAll}
use Rattle.flu_fork.specs.Kin.{ItagsAreOfNodes, ItagsAreOfKids}
use Rattle.flu_fork.specs.Laws.{FittingHasSorts}
use Rattle.flu_fork.specs.Serving.{ContentsAreSettings}
use Rattle.flu_fork.specs.Texts.{NoTexts, TextsAreOfTheSet, TextsGrow, TextsOfThree, TextsEnd, StatesEnd}

pub record LawsBelow : Type 0 where
  pub settings : ContentsAreSettings
  pub children : ChildrenAreLater
  pub rooted : TreesAreRooted
  pub of_nodes : ItagsAreOfNodes
  pub of_kids : ItagsAreOfKids
  pub at_leaf : LeavesBringAll
  pub last_paired : LastOnesArePaired
  pub last_joined : JoinsBringAll
  pub sorts : FittingHasSorts
  pub no_texts : NoTexts
  pub same_texts : TextsAreOfTheSet
  pub more_texts : TextsGrow
  pub three_texts : TextsOfThree
  pub texts_end : TextsEnd
  pub states_end : StatesEnd
