-- The laws of plans, of lots, of texts and of hands on which the rule of the net rests.
use Rattle.flu_deps.specs.Owners.{ItagsAreOwned}
use Rattle.flu_deps.specs.Trees.{ChildrenAreLater, TreesAreRooted}
use Rattle.flu_fork.specs.Completing.{LeavesBringAll, LastOnesArePaired, JoinsBringAll}
use Rattle.flu_fork.specs.Kin.{ItagsAreOfNodes, ItagsAreOfKids, ItagsAreOfTheRoot}
use Rattle.flu_fork.specs.Laws.{FittingHasSorts}
use Rattle.flu_fork.specs.Places.{MomentsAreEvents, EventsAreKnown}
use Rattle.flu_fork.specs.Serving.{ContentsAreSettings, LentIsOnLoan, LoansArePaired}
use Rattle.flu_fork.specs.Streams.{ExactnessAgrees}
use Rattle.flu_fork.specs.Texts.{NoTexts, TextsAreOfTheSet, TextsGrow, TextsEnd, StatesEnd}
use Rattle.flu_worker.specs.Keeping.{SeeingKeepsTheRule}
use Rattle.flu_worker.specs.Laws.{NewTargets, AskedGoOn, OwnGoOn, NothingIsNext}
use Rattle.flu_worker.specs.Next.{NextIsExact}
use Rattle.flu_worker.specs.Turning.{LendTurns, TakeTurns, FirstIsHere, StartIsHere, StartIsShut}

pub record LawsBelow : Type 0 where
  pub children : ChildrenAreLater
  pub parents : TreesAreRooted
  pub owned : ItagsAreOwned
  pub sorts : FittingHasSorts
  pub settings : ContentsAreSettings
  pub of_nodes : ItagsAreOfNodes
  pub of_kids : ItagsAreOfKids
  pub of_root : ItagsAreOfTheRoot
  pub events : MomentsAreEvents
  pub known : EventsAreKnown
  pub exactness : ExactnessAgrees
  pub on_loan : LentIsOnLoan
  pub paired : LoansArePaired
  pub at_leaf : LeavesBringAll
  pub last_paired : LastOnesArePaired
  pub last_joined : JoinsBringAll
  pub no_texts : NoTexts
  pub same_texts : TextsAreOfTheSet
  pub more_texts : TextsGrow
  pub texts_end : TextsEnd
  pub states_end : StatesEnd
  pub new_targets : NewTargets
  pub asked_go_on : AskedGoOn
  pub own_go_on : OwnGoOn
  pub nothing_next : NothingIsNext
  pub next_exact : NextIsExact
  pub seeing_keeps : SeeingKeepsTheRule
  pub lend_turns : LendTurns
  pub take_turns : TakeTurns
  pub first_here : FirstIsHere
  pub start_here : StartIsHere
  pub start_shut : StartIsShut
