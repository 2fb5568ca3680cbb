-- WHO READS WHAT: the streams that a node apart needs and those that the one that combines needs, and the laws that what the nodes send, each
-- over its own part of the streams, gives the report of all of them.
use Rattle.std.specs.Prelude.{◌≡◌, ℕ, Bool, true, false, not, ◌||◌, Contains, List, [], ◌∷◌, map, length, slice_index_or, IsTrue, ⊤}
use Rattle.std.specs.List.{list_any, filter, AllByRecursion}
use Rattle.flu_model.specs.declared.events.Event.{Event}
use Rattle.flu_model.specs.declared.events.Item.{Item}
use Rattle.flu_model.specs.declared.jobs.Program.{Program}
use Rattle.flu_model.specs.declared.plans.Node.{Node}
use Rattle.flu_model.specs.Contents.{Contents}
use Rattle.flu_model.specs.Folding.{final_state, final_outputs}
use Rattle.flu_model.specs.Itags.{count_of_itags}
use Rattle.flu_model.specs.Merging.{is_before, events_of, merged}
use Rattle.flu_model.specs.Owners.{ancestors_own}
use Rattle.flu_model.specs.Reports.{report}
use Rattle.flu_model.specs.Streaming.{are_streams}
use Rattle.flu_apart.specs.Classes.{itag, inside}
use Rattle.flu_contribution.specs.Combining.{Combined, is_of_none, combined}
use Rattle.flu_contribution.specs.Contributions.{is_inside, is_above, Contribution, contributions}
use Rattle.flu_contribution.specs.Laws.{AreInRange, AreNodesApart, IsSetting}
use Rattle.flu_contribution.specs.Sending.{sent, joined_from, start_of}

-- ---- which events are needed

-- WHICH EVENTS A NODE APART NEEDS: those inside and those above
abbrev pub is_needed : Program → List Node → ℕ → Event → Bool
is_needed p nodes w x = is_inside p nodes w x || is_above p nodes w x

-- the same of an itag's number
abbrev pub needs_itag : Program → List Node → ℕ → ℕ → Bool
needs_itag p nodes w i = inside p nodes w i || ancestors_own p nodes w (itag i)

-- the itag of that number is inside none of the nodes
abbrev pub is_itag_of_none : Program → List Node → List ℕ → ℕ → Bool
is_itag_of_none p nodes ws i = not (list_any (λ w. inside p nodes w i) ws)

-- ---- parts of the streams

-- some lists of items have the events that others have, of the itags that pass a test
abbrev pub AgreeOn : (ℕ → Bool) → List (List Item) → List (List Item) → Type 0
AgreeOn test whole part = (i : ℕ) → IsTrue (test i) → events_of (slice_index_or part i []) ≡ events_of (slice_index_or whole i [])

-- the streams that a node apart has read: one for each itag, and of them it sends what it would send of the whole
pub record IsPartFor (p : Program) (nodes : List Node) (whole : List (List Item)) (w : ℕ) (part : List (List Item)) : Type 0 where
  pub length : length part ≡ count_of_itags p
  pub streams : IsTrue (are_streams 0 part)
  pub sends : (opening : Contents) → sent (contributions p nodes w opening (merged part)) ≡ sent (contributions p nodes w opening (merged whole))

-- the streams that the one that combines has read: those of the itags that are inside none of the nodes have all their events
pub record IsRestFor (p : Program) (nodes : List Node) (ws : List ℕ) (whole : List (List Item)) (rest : List (List Item)) : Type 0 where
  pub length : length rest ≡ count_of_itags p
  pub streams : IsTrue (are_streams 0 rest)
  pub agree : AgreeOn (is_itag_of_none p nodes ws) whole rest

-- a part for each of the nodes, in their order
abbrev pub ArePartsFor : Program → List Node → List (List Item) → List ℕ → List (List (List Item)) → Type 0
ArePartsFor p nodes whole [] [] = ⊤
ArePartsFor p nodes whole [] (part ∷ parts) = ⊥
ArePartsFor p nodes whole (w ∷ ws) [] = ⊥
ArePartsFor p nodes whole (w ∷ ws) (part ∷ parts) = IsPartFor p nodes whole w part × ArePartsFor p nodes whole ws parts

-- what the nodes sent, each over its own part of the streams: as far as both lists go
abbrev pub all_sent : Program → List Node → Contents → List ℕ → List (List (List Item)) → List (List Contribution)
all_sent p nodes opening [] parts = []
all_sent p nodes opening (w ∷ ws) [] = []
all_sent p nodes opening (w ∷ ws) (part ∷ parts) = sent (contributions p nodes w opening (merged part)) ∷ all_sent p nodes opening ws parts

-- ---- the laws

-- events that rise strictly: each is before all later ones
abbrev pub RiseStrictly : List Event → Type 0
RiseStrictly [] = ⊤
RiseStrictly (x ∷ xs) = AllByRecursion (λ y. IsTrue (is_before x y)) xs × RiseStrictly xs

-- ONLY NEEDED EVENTS MATTER: the same events inside and above, in the same order, give the same contributions
abbrev pub OnlyNeededEventsMatter : Type 0
OnlyNeededEventsMatter =
    (p : Program) (nodes : List Node) (w : ℕ) (opening : Contents) (xs ys : List Event)
    → filter (is_needed p nodes w) xs ≡ filter (is_needed p nodes w) ys
    → contributions p nodes w opening xs ≡ contributions p nodes w opening ys

-- AN EVENT IS IDLE for a node among others: it is not inside, and between each event inside that is before it and itself there is one above. So when it
-- comes, nothing has been contributed since the last event above.
pub record IsIdle (p : Program) (nodes : List Node) (w : ℕ) (xs : List Event) (y : Event) : Type 0 where
  pub outside : is_inside p nodes w y ≡ false
  pub closed : (x : Event) → Contains xs x → is_inside p nodes w x ≡ true → is_before x y ≡ true
      → (z : Event) × Contains xs z × (is_above p nodes w z ≡ true) × (is_before x z ≡ true) × (is_before z y ≡ true)

-- IDLE EVENTS DON'T MATTER: of events that rise strictly a node sends the same without events that are idle for it, and without events that it does not
-- need
abbrev pub IdleEventsDontMatter : Type 0
IdleEventsDontMatter =
    (p : Program) (nodes : List Node) (w : ℕ) (opening : Contents) (test : Event → Bool) (xs : List Event)
    → RiseStrictly xs → ((y : Event) → Contains xs y → test y ≡ false → is_needed p nodes w y ≡ true → IsIdle p nodes w xs y)
    → sent (contributions p nodes w opening (filter test xs)) ≡ sent (contributions p nodes w opening xs)

-- MERGED LISTS PASS ALIKE: where the events of each itag that pass a test are the same in two lists of streams, so are those of their merged lists, in the
-- same order
abbrev pub MergedListsPassAlike : Type 0
MergedListsPassAlike =
    (test : Event → Bool) (whole part : List (List Item))
    → IsTrue (are_streams 0 whole) → IsTrue (are_streams 0 part) → length part ≡ length whole
    → ((i : ℕ) → filter test (events_of (slice_index_or part i [])) ≡ filter test (events_of (slice_index_or whole i [])))
    → filter test (merged part) ≡ filter test (merged whole)

-- MERGED LISTS AGREE: where streams have the same events of the itags that pass a test, so have their merged lists, in the same order
abbrev pub MergedListsAgree : Type 0
MergedListsAgree =
    (test : ℕ → Bool) (whole part : List (List Item))
    → IsTrue (are_streams 0 whole) → IsTrue (are_streams 0 part) → length part ≡ length whole → AgreeOn test whole part
    → filter (λ (x : Event). test x.itag.0) (merged part) ≡ filter (λ (x : Event). test x.itag.0) (merged whole)

-- MERGED EVENTS RISE STRICTLY: those of streams do, so no two have the same time and itag
abbrev pub MergedEventsRiseStrictly : Type 0
MergedEventsRiseStrictly = (lists : List (List Item)) → IsTrue (are_streams 0 lists) → RiseStrictly (merged lists)

-- WHAT IS SENT IS JOINED: of events that rise strictly, what the nodes send, joined before the events that it names, gives the combined fold
abbrev pub WhatIsSentIsJoined : Type 0
WhatIsSentIsJoined =
    (p : Program) (nodes : List Node) (ws : List ℕ) (opening : Contents) (xs : List Event)
    → IsSetting p nodes opening → AreNodesApart p nodes ws → AreInRange p xs → RiseStrictly xs
    → joined_from p (start_of p nodes ws opening) (map (λ w. sent (contributions p nodes w opening xs)) ws) (filter (is_of_none p nodes ws) xs)
    ≡ combined p nodes ws opening xs

-- what came of the nodes' parts and of the rest of the streams
abbrev pub joined_parts : Program → List Node → List ℕ → Contents → List (List (List Item)) → List (List Item) → Combined
joined_parts p nodes ws opening parts rest =
    joined_from p (start_of p nodes ws opening) (all_sent p nodes opening ws parts) (filter (is_of_none p nodes ws) (merged rest))

-- it has the fold's final state and its report
pub record GivesTheReport (p : Program) (nodes : List Node) (ws : List ℕ) (opening : Contents) (whole : List (List Item))
    (parts : List (List (List Item))) (rest : List (List Item)) : Type 0 where
  pub cells : (joined_parts p nodes ws opening parts rest).cells ≡ final_state p opening whole
  pub same_report : report p (joined_parts p nodes ws opening parts rest).outputs ≡ report p (final_outputs p opening whole)

-- PARTS GIVE THE REPORT: where each node has read what it needs, and the one that combines has read the rest
abbrev pub PartsGiveTheReport : Type 0
PartsGiveTheReport =
    (p : Program) (nodes : List Node) (ws : List ℕ) (opening : Contents) (whole : List (List Item))
    (parts : List (List (List Item))) (rest : List (List Item))
    → IsSetting p nodes opening → AreNodesApart p nodes ws → length whole ≡ count_of_itags p → IsTrue (are_streams 0 whole)
    → ArePartsFor p nodes whole ws parts → IsRestFor p nodes ws whole rest
    → GivesTheReport p nodes ws opening whole parts rest
