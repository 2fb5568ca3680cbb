-- The laws of lots, of who owns which itags, and of waiting, on which a worker's rule rests.
use Rattle.flu_fork.specs.Kin.{ItagsAreOfNodes, ItagsAreOfKids}
use Rattle.flu_fork.specs.Laws.{CentralLaw}
use Rattle.flu_fork.specs.Places.{EventsHaveMoments, EventsAreKnown}
use Rattle.flu_fork.specs.Serving.{ContentsAreSettings, LoansArePaired, JoinsServe, JoinsGrow, ClearIsJustBefore, JustBeforeIsExact, LeavesServe}
use Rattle.flu_laws.specs.Spans.{PlacesRise}
use Rattle.flu_mail.specs.Laws.{ReadyClears, ServingClears, ReadyWhenClear, ServingWhenClear, SeenEventsStand, EventsAreItems}

pub record LawsBelow : Type 0 where
  pub settings : ContentsAreSettings
  pub of_nodes : ItagsAreOfNodes
  pub of_kids : ItagsAreOfKids
  pub events : EventsHaveMoments
  pub known : EventsAreKnown
  pub central : CentralLaw
  pub paired : LoansArePaired
  pub joins : JoinsServe
  pub grows : JoinsGrow
  pub clear : ClearIsJustBefore
  pub exact : JustBeforeIsExact
  pub leaves : LeavesServe
  pub ready : ReadyClears
  pub serving : ServingClears
  pub seen_ready : ReadyWhenClear
  pub seen_serving : ServingWhenClear
  pub seen_events : SeenEventsStand
  pub few_events : EventsAreItems
  pub rising : PlacesRise
