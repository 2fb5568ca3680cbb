-- Laws of partials that are read.
use Rattle.std.specs.Prelude.{◌≡◌, ◌≢◌, ℕ, Option, List, [], ◌++◌, map}
use Rattle.std.specs.List.{AllByRecursion}
use Rattle.flu_lemmas.specs.Items.{Pairs}
use Rattle.flu_model.specs.declared.jobs.Program.{Program}
use Rattle.flu_contribution.specs.Contributions as handed
use Rattle.flu_contribution.specs.Parts.{contribution_of}
use Rattle.flu_partial.specs.declared.order.Reached.TheVariants.{Head}
use Rattle.flu_partial.specs.declared.values.Contribution.{Contribution}
use Rattle.flu_partial.specs.declared.values.PartialHead.{PartialHead}
use Rattle.flu_partial.specs.Forms.{IsHeadLine}
use Rattle.flu_partial.specs.Order.{AreRest}
use Rattle.flu_partial.specs.Partial.{head_text}
use Rattle.flu_handover.specs.Handing.{line_of, AreAlike, IsSendable}
use Rattle.flu_receiving.specs.declared.fault.PartialFault.{PartialFault}
use Rattle.flu_receiving.specs.declared.receiving.Received.{Received}
use Rattle.flu_receiving.specs.Faults.{IsFirstFault}
use Rattle.flu_receiving.specs.Receiving.{partial_text, HasLine, IsRead, IsSendableLine, IsWholePartial}

-- LAW OF FAULTS: bytes have one first fault at most
abbrev pub BytesHaveOneFault : Type 0
BytesHaveOneFault = (p : Program) (bytes : List ℕ) (d e : PartialFault) → IsFirstFault p bytes d → IsFirstFault p bytes e → d ≡ e

-- LAW OF FAULTY BYTES: they are no whole partial of lines that a node of the job can have sent
abbrev pub FaultyBytesAreNotWhole : Type 0
FaultyBytesAreNotWhole =
    (p : Program) (bytes : List ℕ) (e : PartialFault) (h : PartialHead) (cs : List Contribution) → IsFirstFault p bytes e → IsWholePartial h cs bytes
    → AllByRecursion (IsSendableLine p) cs → ⊥

-- LAW OF PRINTED PARTIALS: the text of a head and of contributions that have lines, in order up to the end, is a whole partial of them
abbrev pub PrintedPartialsAreWhole : Type 0
PrintedPartialsAreWhole =
    (h : PartialHead) (cs : List Contribution) → IsHeadLine h (head_text h) → AllByRecursion HasLine cs → AreRest Head cs
    → IsWholePartial h cs (partial_text h cs)

-- LAW OF PARTIALS: bytes are a whole partial of one head and one list of contributions at most
abbrev pub PartialsHaveOneText : Type 0
PartialsHaveOneText =
    (bytes : List ℕ) (g h : PartialHead) (bs cs : List Contribution) → IsWholePartial g bs bytes → IsWholePartial h cs bytes → (g ≡ h) × (bs ≡ cs)

-- LAW OF CUT PARTIALS: the front of a whole partial is none, if any bytes are cut off
abbrev pub CutPartialsAreNotWhole : Type 0
CutPartialsAreNotWhole =
    (front behind : List ℕ) (g h : PartialHead) (bs cs : List Contribution) → behind ≢ [] → IsWholePartial g bs (front ++ behind)
    → IsWholePartial h cs front → ⊥

-- what is read is, for a report, what was sent: in order, with this head and this last time
pub record IsReceivedAlike (p : Program) (h : PartialHead) (ks : List handed.Contribution) (time : Option ℕ) (r : Received) : Type 0 where
  pub head : r.head ≡ h
  pub sent : Pairs (λ x k. AreAlike p (contribution_of x) k) r.sent.items ks
  pub last : r.last ≡ time

-- LAW OF RECEIVING: of a whole partial of the lines of what can be handed over something alike is read
abbrev pub WhatIsSentIsReceived : Type 0
WhatIsSentIsReceived =
    (p : Program) (h : PartialHead) (ks : List handed.Contribution) (time : Option ℕ) (bytes : List ℕ) (r : Received) → AllByRecursion (IsSendable p) ks
    → IsWholePartial h (map (line_of p time) ks) bytes → IsRead p bytes r → IsReceivedAlike p h ks time r
