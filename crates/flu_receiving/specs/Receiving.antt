-- THE BYTES OF A PARTIAL, and what is read of them: its head, and what was sent.
use Rattle.std.specs.Prelude.{◌≡◌, ℕ, Option, None, List, [], ◌∷◌, ◌++◌}
use Rattle.std.specs.List.{AllByRecursion, flat_map}
use Rattle.flu_lemmas.specs.Items.{Pairs}
use Rattle.flu_model.specs.declared.jobs.Program.{Program}
use Rattle.flu_contribution.specs.declared.contributing.Handed.{Handed}
use Rattle.flu_contribution.specs.Contributions as handed
use Rattle.flu_contribution.specs.Parts.{contribution_of}
use Rattle.flu_partial.specs.declared.order.Reached.TheVariants.{Head}
use Rattle.flu_partial.specs.declared.values.Contribution.{Contribution}
use Rattle.flu_partial.specs.declared.values.PartialHead.{PartialHead}
use Rattle.flu_partial.specs.declared.values.Place.{Place}
use Rattle.flu_partial.specs.declared.values.Place.TheVariants.{Before, End}
use Rattle.flu_partial.specs.Forms.{IsHeadLine, IsContributionLine}
use Rattle.flu_partial.specs.Order.{AreRest}
use Rattle.flu_partial.specs.Partial.{head_text, contribution_text, line_of}
use Rattle.flu_handover.specs.Handing.{IsLineOf}
use Rattle.flu_receiving.specs.declared.receiving.Received.{Received}

-- ---- the bytes

-- the lines of contributions, each with its line feed
abbrev pub lines_text : List Contribution → List ℕ
lines_text cs = flat_map (λ c. line_of (contribution_text c)) cs

-- THE TEXT OF A PARTIAL: the line of its head, and then those of its contributions
abbrev pub partial_text : PartialHead → List Contribution → List ℕ
partial_text h cs = line_of (head_text h) ++ lines_text cs

-- the contribution has a line
abbrev pub HasLine : Contribution → Type 0
HasLine c = IsContributionLine c (contribution_text c)

-- A WHOLE PARTIAL of a head and contributions: each has its line, and the contributions may come one after another, up to the one for the end
pub record IsWholePartial (h : PartialHead) (cs : List Contribution) (bytes : List ℕ) : Type 0 where
  pub text : bytes ≡ partial_text h cs
  pub head : IsHeadLine h (head_text h)
  pub lines : AllByRecursion HasLine cs
  pub order : AreRest Head cs

-- ---- what was sent

-- something that a node of the job can have sent has this line
abbrev pub IsSendableLine : Program → Contribution → Type 0
IsSendableLine p c = (k : handed.Contribution) × IsLineOf p c k

-- it was sent by this line
abbrev pub IsSentBy : Program → Contribution → Handed → Type 0
IsSentBy p c h = IsLineOf p c (contribution_of h)

abbrev pub last_time : Place → Option ℕ
last_time (Before time itag) = None
last_time (End last) = last

-- the last time that a partial of these contributions is of, as the last one has it
abbrev pub last_of : List Contribution → Option ℕ
last_of [] = None
last_of (c ∷ []) = last_time c.place
last_of (c ∷ d ∷ cs) = last_of (d ∷ cs)

-- WHAT IS READ of a head and contributions: the head, of each contribution what was sent by it, in order, and the last time
pub record IsReceived (p : Program) (h : PartialHead) (cs : List Contribution) (r : Received) : Type 0 where
  pub head : r.head ≡ h
  pub sent : Pairs (IsSentBy p) cs r.sent.items
  pub last : r.last ≡ last_of cs

-- WHAT BYTES ARE READ AS: they are a whole partial, and this is what is read of it
abbrev pub IsRead : Program → List ℕ → Received → Type 0
IsRead p bytes r = (cs : List Contribution) × IsWholePartial r.head cs bytes × IsReceived p r.head cs r
