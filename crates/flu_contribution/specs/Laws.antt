-- What nodes apart contribute, joined at its places, gives the fold.
use Rattle.std.specs.Prelude.{◌≡◌, ℕ, ◌<◌, Some, None, List, [], ◌∷◌, ◌++◌, map, length, sum_by, count_by, IsTrue, ⊤, IsPermutation}
use Rattle.std.specs.List.{filter, AllByRecursion}
use Rattle.flu_model.specs.declared.events.Event.{Event}
use Rattle.flu_model.specs.declared.events.Item.{Item}
use Rattle.flu_model.specs.declared.jobs.Program.{Program}
use Rattle.flu_model.specs.declared.plans.Node.{Node}
use Rattle.flu_model.specs.Contents.{Contents}
use Rattle.flu_model.specs.Folding.{state_after, outputs_of, final_state, final_outputs}
use Rattle.flu_model.specs.Itags.{count_of_itags}
use Rattle.flu_model.specs.Merging.{merged}
use Rattle.flu_model.specs.Modes.{IsAccepted}
use Rattle.flu_model.specs.PlanRules.{is_tree}
use Rattle.flu_model.specs.Reports.{report}
use Rattle.flu_model.specs.Sorts.{IsStateOf}
use Rattle.flu_model.specs.Streaming.{are_streams}
use Rattle.flu_model.specs.Validity.{IsValid}
use Rattle.flu_deps.specs.Trees.{AreApart}
use Rattle.flu_apart.specs.Apart.{MayBeApart}
use Rattle.flu_contribution.specs.Contributions.{is_inside, is_above, Contribution, contributions}
use Rattle.flu_contribution.specs.Combining.{combined}

-- none of the nodes is another of them or within it
abbrev pub NoneIsWithin : List Node → List ℕ → Type 0
NoneIsWithin nodes [] = ⊤
NoneIsWithin nodes (w ∷ ws) = AllByRecursion (AreApart nodes w) ws × NoneIsWithin nodes ws

-- a node of the plan that may be apart
pub record IsApart (p : Program) (nodes : List Node) (w : ℕ) : Type 0 where
  pub there : w < length nodes
  pub may : MayBeApart p nodes w

-- NODES APART: each of the nodes may be apart, and none is within another
pub record AreNodesApart (p : Program) (nodes : List Node) (ws : List ℕ) : Type 0 where
  pub each : AllByRecursion (IsApart p nodes) ws
  pub none_within : NoneIsWithin nodes ws

-- a job, a plan for it and an opening state
pub record IsSetting (p : Program) (nodes : List Node) (opening : Contents) : Type 0 where
  pub accepted : IsAccepted p
  pub tree : IsTrue (is_tree nodes)
  pub valid : IsValid p nodes
  pub sorts : IsStateOf p.families opening

-- all events are of itags of the job
abbrev pub AreInRange : Program → List Event → Type 0
AreInRange p xs = AllByRecursion (λ x. x.itag.0 < count_of_itags p) xs

-- THE FOLD IS GIVEN: the combined fold ends in the fold's state, and has the fold's outputs in some order
pub record GivesTheFold (p : Program) (nodes : List Node) (ws : List ℕ) (opening : Contents) (xs : List Event) : Type 0 where
  pub cells : (combined p nodes ws opening xs).cells ≡ state_after p opening xs
  pub outputs : IsPermutation (outputs_of p opening xs) (combined p nodes ws opening xs).outputs

-- CONTRIBUTIONS GIVE THE FOLD: of any list of events, whichever of the nodes that may be apart are
abbrev pub ContributionsGiveTheFold : Type 0
ContributionsGiveTheFold =
    (p : Program) (nodes : List Node) (ws : List ℕ) (opening : Contents) (xs : List Event)
    → IsSetting p nodes opening → AreNodesApart p nodes ws → AreInRange p xs → GivesTheFold p nodes ws opening xs

-- so of the merged events of streams: it has the fold's final state, its outputs in some order, and so its report
pub record GivesTheRun (p : Program) (nodes : List Node) (ws : List ℕ) (opening : Contents) (lists : List (List Item)) : Type 0 where
  pub cells : (combined p nodes ws opening (merged lists)).cells ≡ final_state p opening lists
  pub outputs : IsPermutation (final_outputs p opening lists) (combined p nodes ws opening (merged lists)).outputs
  pub same_report : report p (combined p nodes ws opening (merged lists)).outputs ≡ report p (final_outputs p opening lists)

abbrev pub ContributionsGiveTheRun : Type 0
ContributionsGiveTheRun =
    (p : Program) (nodes : List Node) (ws : List ℕ) (opening : Contents) (lists : List (List Item))
    → IsSetting p nodes opening → AreNodesApart p nodes ws → length lists ≡ count_of_itags p → IsTrue (are_streams 0 lists)
    → GivesTheRun p nodes ws opening lists

-- PLACES: the contributions of a node are joined before the events above it, one before each in order, and the last one at the end; and each
-- event inside it is counted in one of them
pub record HavePlaces (p : Program) (nodes : List Node) (w : ℕ) (opening : Contents) (xs : List Event) : Type 0 where
  pub before : map (λ (k : Contribution). k.before) (contributions p nodes w opening xs) ≡ map Some (filter (is_above p nodes w) xs) ++ (None ∷ [])
  pub counts : sum_by (λ (k : Contribution). k.count) (contributions p nodes w opening xs) ≡ count_by (is_inside p nodes w) xs

abbrev pub ContributionsHavePlaces : Type 0
ContributionsHavePlaces =
    (p : Program) (nodes : List Node) (w : ℕ) (opening : Contents) (xs : List Event)
    → IsTrue (is_tree nodes) → IsValid p nodes → w < length nodes → AreInRange p xs → HavePlaces p nodes w opening xs
