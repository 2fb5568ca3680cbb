-- Laws of what a node apart sends.
use Rattle.std.specs.Prelude.{◌≡◌, ℕ, ◌<◌, ◌^◌, Option, List, map, length, FitsSigned, IsTrue}
use Rattle.std.specs.Int.{w64}
use Rattle.std.specs.List.{filter, AllByRecursion}
use Rattle.flu_model.specs.declared.events.Event.{Event}
use Rattle.flu_model.specs.declared.events.Item.{Item}
use Rattle.flu_model.specs.declared.jobs.Program.{Program}
use Rattle.flu_model.specs.declared.plans.Node.{Node}
use Rattle.flu_model.specs.Erasure.{IsSameJob}
use Rattle.flu_model.specs.Itags.{count_of_itags}
use Rattle.flu_model.specs.Merging.{all_events, merged}
use Rattle.flu_model.specs.Streaming.{are_streams}
use Rattle.flu_contribution.specs.Contributions.{Contribution}
use Rattle.flu_contribution.specs.Sharing.{is_needed, IsPartFor, RiseStrictly}
use Rattle.flu_partial.specs.declared.order.Reached.TheVariants.{Head}
use Rattle.flu_partial.specs.Order.{AreRest}
use Rattle.flu_partial.specs.Partial.{IsTime}
use Rattle.flu_handover.specs.Handing.{line_of, IsSendable}
use Rattle.flu_handover.specs.Laws.{IsInRange}
use Rattle.flu_sending.specs.Lines.{all_times, row_times, last_time, lines_of, sent_by}
use Rattle.flu_sending.specs.Texts.{IsUtf8Output, NamesAreUtf8, TemplatesAreUtf8}

-- items as code holds them: their times are below 2^63, their events have values of 64 bits, and there are fewer than 2^64 events
pub record AreReadable (lists : List (List Item)) : Type 0 where
  pub times : AllByRecursion IsTime (all_times lists)
  pub values : AllByRecursion (λ (x : Event). FitsSigned w64 x.value) (all_events lists)
  pub few : length (all_events lists) < 2 ^ 64

-- it can be handed over, and its times and numbers are in the range of a line
pub record HasLine (p : Program) (last : Option ℕ) (k : Contribution) : Type 0 where
  pub sendable : IsSendable p k
  pub in_range : IsInRange last k

-- WHAT IS SENT CAN BE HANDED OVER: of any node of any plan
abbrev pub WhatIsSentCanBeHandedOver : Type 0
WhatIsSentCanBeHandedOver =
    (p : Program) (nodes : List Node) (w : ℕ) (lists : List (List Item))
    → length lists ≡ count_of_itags p → IsTrue (are_streams 0 lists) → AreReadable lists
    → AllByRecursion (HasLine p (last_time p lists)) (sent_by p nodes w lists)

-- WHAT IS SENT IS DETERMINED by the events inside and above, in their order
abbrev pub SentByNeeded : Type 0
SentByNeeded =
    (p : Program) (nodes : List Node) (w : ℕ) (lists others : List (List Item))
    → filter (is_needed p nodes w) (merged lists) ≡ filter (is_needed p nodes w) (merged others)
    → sent_by p nodes w lists ≡ sent_by p nodes w others

-- so by streams that are a part for the node: it sends of them what it would send of the whole
abbrev pub SentByParts : Type 0
SentByParts =
    (p : Program) (nodes : List Node) (w : ℕ) (whole part : List (List Item))
    → length whole ≡ count_of_itags p → IsTrue (are_streams 0 whole) → IsPartFor p nodes whole w part
    → sent_by p nodes w part ≡ sent_by p nodes w whole

-- WHAT IS SENT MAY COME in its order: where the merged events rise strictly, its lines are the rest of a partial behind the head, up to the end
abbrev pub SentLinesMayCome : Type 0
SentLinesMayCome =
    (p : Program) (nodes : List Node) (w : ℕ) (last : Option ℕ) (lists : List (List Item))
    → RiseStrictly (merged lists) → AreRest Head (map (line_of p last) (sent_by p nodes w lists))

-- PROGRAMS OF ONE JOB differ only in where the boxes of their expressions lie in memory: a node sends the same, in the same lines, and the rows of
-- the same streams have the same times
pub record SendTheSame (p q : Program) : Type 0 where
  pub times : row_times p ≡ row_times q
  pub lines : lines_of p ≡ lines_of q
  pub sent : sent_by p ≡ sent_by q

abbrev pub JobsSendTheSame : Type 0
JobsSendTheSame = (p q : Program) → IsSameJob p q → SendTheSame p q

-- WHAT IS SENT HAS UTF-8 TEXTS, where the templates of the job and the texts of its lists are UTF-8: of any node of any plan, and of any streams
abbrev pub SentTextsAreUtf8 : Type 0
SentTextsAreUtf8 =
    (p : Program) (nodes : List Node) (w : ℕ) (lists : List (List Item)) → NamesAreUtf8 p.lists → TemplatesAreUtf8 p.kinds
    → AllByRecursion (λ (k : Contribution). AllByRecursion (IsUtf8Output p) k.outputs) (sent_by p nodes w lists)
