-- Laws of the fold that joins what nodes apart sent.
use Rattle.std.specs.Prelude.{◌≡◌, ℕ, true, List, [], ◌∷◌, map, length, IsTrue, ⊤}
use Rattle.std.specs.List.{filter}
use Rattle.flu_model.specs.declared.events.Event.{Event}
use Rattle.flu_model.specs.declared.events.Item.{Item}
use Rattle.flu_model.specs.declared.jobs.Program.{Program}
use Rattle.flu_model.specs.declared.plans.Node.{Node}
use Rattle.flu_model.specs.Contents.{Contents, nothing_held}
use Rattle.flu_model.specs.Folding.{final_state, final_outputs}
use Rattle.flu_model.specs.Itags.{count_of_itags}
use Rattle.flu_model.specs.Reports.{report}
use Rattle.flu_model.specs.Streaming.{are_streams}
use Rattle.flu_contribution.specs.Combining.{Combined, is_of_none}
use Rattle.flu_contribution.specs.Contributions.{Contribution, contributions}
use Rattle.flu_contribution.specs.Laws.{AreInRange, AreNodesApart, IsSetting}
use Rattle.flu_contribution.specs.Sending.{sent, joined_from, start_of}
use Rattle.flu_contribution.specs.Sharing.{ArePartsFor, IsRestFor, all_sent}
use Rattle.flu_handover.specs.Handing.{AreAlike}
use Rattle.flu_handover.specs.Laws.{AreCombinedAlike}
use Rattle.flu_joining.specs.Joining.{are_used_up, events_of_none, nothing_joined}

-- AN EMPTY OPENING STATE: the fold begins with nothing, whichever nodes are apart
abbrev pub EmptyOpeningsStartEmpty : Type 0
EmptyOpeningsStartEmpty = (p : Program) (nodes : List Node) (ws : List ℕ) → start_of p nodes ws nothing_held ≡ nothing_joined

-- ---- what is sent is used up

-- WHAT IS SENT IS USED UP: behind the events that are inside none of the nodes, each queue has come to its last contribution
abbrev pub WhatIsSentIsUsedUp : Type 0
WhatIsSentIsUsedUp =
    (p : Program) (nodes : List Node) (ws : List ℕ) (opening : Contents) (xs : List Event)
    → IsSetting p nodes opening → AreNodesApart p nodes ws → AreInRange p xs
    → are_used_up (map (λ w. sent (contributions p nodes w opening xs)) ws) (filter (is_of_none p nodes ws) xs) ≡ true

-- PARTS ARE USED UP: so it is where each node has read what it needs, and the one that combines has read the rest
abbrev pub PartsAreUsedUp : Type 0
PartsAreUsedUp =
    (p : Program) (nodes : List Node) (ws : List ℕ) (opening : Contents) (whole : List (List Item))
    (parts : List (List (List Item))) (rest : List (List Item))
    → IsSetting p nodes opening → AreNodesApart p nodes ws → length whole ≡ count_of_itags p → IsTrue (are_streams 0 whole)
    → ArePartsFor p nodes whole ws parts → IsRestFor p nodes ws whole rest
    → are_used_up (all_sent p nodes opening ws parts) (events_of_none p nodes ws rest) ≡ true

-- ---- queues that are alike for a report

-- contributions that are alike, one by one
abbrev pub AreAllAlike : Program → List Contribution → List Contribution → Type 0
AreAllAlike p [] [] = ⊤
AreAllAlike p [] (k ∷ ks) = ⊥
AreAllAlike p (j ∷ js) [] = ⊥
AreAllAlike p (j ∷ js) (k ∷ ks) = AreAlike p j k × AreAllAlike p js ks

-- QUEUES ALIKE: as many, each of contributions that are alike to the other's
abbrev pub AreQueuesAlike : Program → List (List Contribution) → List (List Contribution) → Type 0
AreQueuesAlike p [] [] = ⊤
AreQueuesAlike p [] (ks ∷ others) = ⊥
AreQueuesAlike p (js ∷ queues) [] = ⊥
AreQueuesAlike p (js ∷ queues) (ks ∷ others) = AreAllAlike p js ks × AreQueuesAlike p queues others

-- two folds of the same events give the same for a report, and use up their queues or not alike
pub record JoinAlike (p : Program) (r s : Combined) (queues others : List (List Contribution)) (ys : List Event) : Type 0 where
  pub combined : AreCombinedAlike p (joined_from p r queues ys) (joined_from p s others ys)
  pub same_report : report p (joined_from p r queues ys).outputs ≡ report p (joined_from p s others ys).outputs
  pub used_up : are_used_up queues ys ≡ are_used_up others ys

-- ALIKE QUEUES JOIN ALIKE
abbrev pub AlikeQueuesJoinAlike : Type 0
AlikeQueuesJoinAlike =
    (p : Program) (r s : Combined) (queues others : List (List Contribution)) (ys : List Event)
    → AreCombinedAlike p r s → AreQueuesAlike p queues others → JoinAlike p r s queues others ys

-- ---- the report

-- the fold over the rest of the streams that joins some queues has the fold's final state and its report, and uses them up
pub record QueuesGiveTheReport (p : Program) (nodes : List Node) (ws : List ℕ) (opening : Contents) (whole : List (List Item))
    (queues : List (List Contribution)) (rest : List (List Item)) : Type 0 where
  pub cells : (joined_from p (start_of p nodes ws opening) queues (events_of_none p nodes ws rest)).cells ≡ final_state p opening whole
  pub same_report : report p (joined_from p (start_of p nodes ws opening) queues (events_of_none p nodes ws rest)).outputs
      ≡ report p (final_outputs p opening whole)
  pub used_up : are_used_up queues (events_of_none p nodes ws rest) ≡ true

-- WHAT WAS SENT GIVES THE REPORT: where each node has read what it needs, the one that combines has read the rest, and each queue is alike to
-- what a node sent
abbrev pub WhatWasSentGivesTheReport : Type 0
WhatWasSentGivesTheReport =
    (p : Program) (nodes : List Node) (ws : List ℕ) (opening : Contents) (whole : List (List Item))
    (parts : List (List (List Item))) (rest : List (List Item)) (queues : List (List Contribution))
    → IsSetting p nodes opening → AreNodesApart p nodes ws → length whole ≡ count_of_itags p → IsTrue (are_streams 0 whole)
    → ArePartsFor p nodes whole ws parts → IsRestFor p nodes ws whole rest → AreQueuesAlike p queues (all_sent p nodes opening ws parts)
    → QueuesGiveTheReport p nodes ws opening whole queues rest
