-- WHAT A PARTIAL IS of a job and a plan, and what is wrong with another.
use Rattle.std.specs.Prelude.{◌≡◌, ◌≢◌, ℕ, ◌<◌, ◌≤◌, Bool, true, false, not, ◌||◌, if◌then◌else◌, Option, Some, None, List, [], ◌∷◌, ◌++◌}
use Rattle.std.specs.Prelude.{length, position, slice_index_or, ◌⊎◌, IsTrue, ⊤}
use Rattle.std.specs.List.{list_any}
use Rattle.flu_lemmas.specs.Items.{Pairs}
use Rattle.flu_model.specs.declared.jobs.Program.{Program}
use Rattle.flu_model.specs.declared.plans.Node.{Node}
use Rattle.flu_model.specs.Erasure.{job_of}
use Rattle.flu_model.specs.Owners.{are_related, is_within}
use Rattle.flu_model.specs.Rules.{is_clock, is_same_text}
use Rattle.flu_outside.specs.Outside.{Contents}
use Rattle.flu_outside.specs.Taking.{bytes_left}
use Rattle.flu_apart.specs.Apart.{MayBeApart, IsFirstReason}
use Rattle.flu_contribution.specs.Contributions.{Contribution}
use Rattle.flu_partial.specs.declared.values.Contribution as partial
use Rattle.flu_partial.specs.declared.values.PartialHead.{PartialHead}
use Rattle.flu_handover.specs.Handing.{IsLineOf}
use Rattle.flu_parse.specs.Printing.{normal_form}
use Rattle.flu_plan.specs.Printing.{printed}
use Rattle.flu_receiving.specs.declared.receiving.Received.{Received}
use Rattle.flu_receiving.specs.Faults.{IsFirstFault}
use Rattle.flu_receiving.specs.Receiving.{last_of, IsRead, IsWholePartial}
use Rattle.flu_selected.specs.Spans.{span_told, moments_fit}
use Rattle.flu_combine.specs.declared.fault.PartialDefect.{PartialDefect}
use Rattle.flu_combine.specs.declared.fault.PartialDefect.TheVariants.{TooLong, Text, OtherJob, OtherPlan, UnknownNode, NotApart, Twice, Within, WrongTimes}

-- how many bytes a partial has at most
abbrev pub most_bytes : ℕ
most_bytes = 536870912

-- the number of the node with a name
abbrev pub node_named : List Node → List ℕ → Option ℕ
node_named nodes name = position (λ (n : Node). is_same_text n.name name) nodes

-- the head is that of a partial of the job
abbrev pub IsOfJob : Program → PartialHead → Type 0
IsOfJob p h = h.job ≡ normal_form (job_of p)

-- and of the plan
pub record IsOfPlan (p : Program) (nodes : List Node) (h : PartialHead) : Type 0 where
  pub job : IsOfJob p h
  pub plan : h.plan ≡ printed p nodes

-- and of this node
pub record IsOfNode (p : Program) (nodes : List Node) (h : PartialHead) (w : ℕ) : Type 0 where
  pub plan : IsOfPlan p nodes h
  pub node : node_named nodes h.node ≡ Some w

-- ---- a right one

-- A PARTIAL OF A NODE: the bytes are a whole partial of the job, of the plan and of this node, and this is what was sent, in order
pub record IsPartialOf (p : Program) (nodes : List Node) (bytes : List ℕ) (w : ℕ) (sent : List Contribution) : Type 0 where
  pub head : PartialHead
  pub lines : List partial.Contribution
  pub few : length bytes ≤ most_bytes
  pub whole : IsWholePartial head lines bytes
  pub of_node : IsOfNode p nodes head w
  pub said : Pairs (IsLineOf p) lines sent

-- PARTIALS OF NODES: under each name is a partial of the node at its place, and what was sent is at its place
abbrev pub ArePartials : Program → List Node → Contents → List (List ℕ) → List ℕ → List (List Contribution) → Type 0
ArePartials p nodes left [] [] [] = ⊤
ArePartials p nodes left [] [] (sent ∷ queues) = ⊥
ArePartials p nodes left [] (w ∷ ws) queues = ⊥
ArePartials p nodes left (name ∷ names) [] queues = ⊥
ArePartials p nodes left (name ∷ names) (w ∷ ws) [] = ⊥
ArePartials p nodes left (name ∷ names) (w ∷ ws) (sent ∷ queues) =
    IsPartialOf p nodes (bytes_left left name) w sent × ArePartials p nodes left names ws queues

-- ---- where the rows stand that a node read, as its partial tells it

-- what the moments of a first and a last row tell, in a job with a clock; in another nothing asks for it
abbrev pub told_by : Program → Option ℕ → Option ℕ → List ℕ
told_by p first last = if list_any is_clock p.sources then span_told p first last else []

-- so they have to fit in a job with a clock
abbrev pub times_fit : Program → Option ℕ → Option ℕ → Bool
times_fit p first last = not (list_any is_clock p.sources) || moments_fit p first last

-- A PARTIAL TELLS ITS ROWS: the bytes are a whole partial, whose times fit, and this is what they tell
pub record TellsRows (p : Program) (bytes told : List ℕ) : Type 0 where
  pub head : PartialHead
  pub lines : List partial.Contribution
  pub whole : IsWholePartial head lines bytes
  pub fit : times_fit p head.first (last_of lines) ≡ true
  pub tells : told ≡ told_by p head.first (last_of lines)

-- under each name is a partial that tells its rows, and this is what they tell, in order
abbrev pub AllTellRows : Program → Contents → List (List ℕ) → List ℕ → Type 0
AllTellRows p left [] told = told ≡ []
AllTellRows p left (name ∷ names) told =
    (first : List ℕ) × (later : List ℕ) × TellsRows p (bytes_left left name) first × AllTellRows p left names later × (told ≡ first ++ later)

-- ---- what is wrong with one

-- the node may be apart, and the first of these nodes that is it, or within it, or above it, is at this place
pub record IsFirstRelated (p : Program) (nodes : List Node) (ws : List ℕ) (w place : ℕ) : Type 0 where
  pub may : MayBeApart p nodes w
  pub first : position (λ u. are_related nodes u w) ws ≡ Some place

-- u and v are a node w and another one: w is within it, and so is u within v; or else it is within w
abbrev pub AreNested : List Node → ℕ → ℕ → ℕ → ℕ → Type 0
AreNested nodes other w u v =
    ((u ≡ w) × (v ≡ other) × IsTrue (is_within nodes other w))
    ⊎ ((u ≡ other) × (v ≡ w) × (is_within nodes other w ≡ false) × IsTrue (is_within nodes w other))

-- WHAT IS WRONG WITH A NODE, beside these: the first reason that applies
abbrev pub IsDefectOfNode : Program → List Node → List ℕ → ℕ → PartialDefect → Type 0
IsDefectOfNode p nodes ws w (NotApart u reason) = (u ≡ w) × IsFirstReason p nodes w reason
IsDefectOfNode p nodes ws w (Twice u) = (u ≡ w) × ((place : ℕ) × IsFirstRelated p nodes ws w place × (slice_index_or ws place 0 ≡ w))
IsDefectOfNode p nodes ws w (Within u v) =
    (place : ℕ) × IsFirstRelated p nodes ws w place × (slice_index_or ws place 0 ≢ w) × AreNested nodes (slice_index_or ws place 0) w u v
IsDefectOfNode p nodes ws w defect = ⊥

-- WHAT IS WRONG WITH A HEAD, likewise: it is of no node of the plan, or there is something wrong with its node
abbrev pub IsDefectOfHead : Program → List Node → List ℕ → PartialHead → PartialDefect → Type 0
IsDefectOfHead p nodes ws h OtherJob = ¬ IsOfJob p h
IsDefectOfHead p nodes ws h OtherPlan = IsOfJob p h × (h.plan ≢ printed p nodes)
IsDefectOfHead p nodes ws h UnknownNode = IsOfPlan p nodes h × (node_named nodes h.node ≡ None)
IsDefectOfHead p nodes ws h defect = (w : ℕ) × IsOfNode p nodes h w × IsDefectOfNode p nodes ws w defect

-- WHAT IS WRONG WITH TIMES, where nothing else is: the node may be apart, and none of these nodes is it, or within it, or above it; but the times of the
-- first and the last row do not fit
pub record AreWrongTimes (p : Program) (nodes : List Node) (ws : List ℕ) (r : Received) : Type 0 where
  pub node : ℕ
  pub of_node : IsOfNode p nodes r.head node
  pub may : MayBeApart p nodes node
  pub unrelated : position (λ u. are_related nodes u node) ws ≡ None
  pub wrong : times_fit p r.head.first r.last ≡ false

-- WHAT IS WRONG WITH BYTES that are read as a partial: there are too many, or else they are no partial of the job, or else there is something wrong
-- with its head, or else its times are wrong
abbrev pub IsDefect : Program → List Node → List ℕ → List ℕ → PartialDefect → Type 0
IsDefect p nodes ws bytes TooLong = most_bytes < length bytes
IsDefect p nodes ws bytes (Text fault) = (length bytes ≤ most_bytes) × IsFirstFault p bytes fault
IsDefect p nodes ws bytes WrongTimes = (length bytes ≤ most_bytes) × ((r : Received) × IsRead p bytes r × AreWrongTimes p nodes ws r)
IsDefect p nodes ws bytes defect = (length bytes ≤ most_bytes) × ((r : Received) × IsRead p bytes r × IsDefectOfHead p nodes ws r.head defect)
