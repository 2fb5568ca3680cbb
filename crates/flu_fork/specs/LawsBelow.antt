-- The laws of jobs and of trees on which those of lots rest.
use Rattle.flu_deps.specs.Owners.{ItagsAreOwned}
use Rattle.flu_deps.specs.Trees.{TreesAreRooted, PathsGoUp, SubtreesAreOfChildren, NodesAreOrdered, NodesAreApart}
use Rattle.flu_laws.specs.Lawful.{AcceptedIsLawful, DependencyTurns}
use Rattle.flu_laws.specs.Lots.{CentralLaw}
use Rattle.flu_laws.specs.Spans.{MomentsAreOfEvents, PlacesRise}
use Rattle.flu_laws.specs.Updating.{UpdatesAreChanges, KeepsSorts, UnwrittenKeeps, ChangesKeepSorts, ChangesMix}

pub record LawsBelow : Type 0 where
  pub lawful : AcceptedIsLawful
  pub turns : DependencyTurns
  pub changes : UpdatesAreChanges
  pub keeps_sorts : KeepsSorts
  pub unwritten_keeps : UnwrittenKeeps
  pub changes_keep_sorts : ChangesKeepSorts
  pub changes_mix : ChangesMix
  pub of_events : MomentsAreOfEvents
  pub places_rise : PlacesRise
  pub central : CentralLaw
  pub rooted : TreesAreRooted
  pub paths : PathsGoUp
  pub subtrees : SubtreesAreOfChildren
  pub ordered : NodesAreOrdered
  pub apart : NodesAreApart
  pub owned : ItagsAreOwned
