-- THE FIRST FAULT of bytes that are no partial of a job.
use Rattle.std.specs.Prelude.{◌≡◌, ◌≢◌, ◌⊎◌, ◌==◌, ℕ, ◌+◌, List, [], ◌∷◌, IsTrue}
use Rattle.std.specs.List.{slice_split}
use Rattle.flu_model.specs.declared.jobs.Program.{Program}
use Rattle.flu_partial.specs.declared.fault.LineFault.{LineFault}
use Rattle.flu_partial.specs.declared.fault.LineFault.TheVariants as line_fault
use Rattle.flu_partial.specs.declared.order.Reached.{Reached}
use Rattle.flu_partial.specs.declared.order.Reached.TheVariants.{Head, End as AtEnd}
use Rattle.flu_partial.specs.declared.values.Contribution.{Contribution}
use Rattle.flu_partial.specs.declared.values.PartialHead.{PartialHead}
use Rattle.flu_partial.specs.Forms.{IsHeadLine, IsContributionLine, IsFaultOf}
use Rattle.flu_partial.specs.Order.{may_come, reached_with}
use Rattle.flu_receiving.specs.declared.fault.PartialFault.{PartialFault}
use Rattle.flu_receiving.specs.declared.fault.PartialFault.TheVariants.{OverLimit, NotJson, WrongForm, OutOfOrder, Incomplete, NoMemory}
use Rattle.flu_receiving.specs.Receiving.{IsSendableLine}

-- bytes cut at their line feeds: each part is a line but the last one, which is what stands behind the last line feed
abbrev pub parts_of : List ℕ → List (List ℕ)
parts_of bytes = slice_split (λ b. b == 10) bytes

-- the fault of a line, with the line's number
abbrev pub fault_at : ℕ → LineFault → PartialFault
fault_at number (line_fault.OverLimit count) = OverLimit number
fault_at number line_fault.NotJson = NotJson number
fault_at number line_fault.WrongForm = WrongForm number
fault_at number line_fault.NoMemory = NoMemory

-- NOTHING HAS THIS LINE, for the first reason of a `LineFault` that applies
abbrev pub IsUnread : {X : Type 0} → (X → List ℕ → Type 0) → ℕ → List ℕ → PartialFault → Type 0
IsUnread {X} IsLine number line e =
    ((x : X) → IsLine x line → ⊥) × ((f : LineFault) × (f ≢ line_fault.NoMemory) × IsFaultOf IsLine line f × (e ≡ fault_at number f))

-- THE CONTRIBUTION IS NOT RIGHT there: no node of the job can have sent it, or else it may not come
abbrev pub IsUnfit : Program → ℕ → Reached → Contribution → PartialFault → Type 0
IsUnfit p number r c e =
    ((IsSendableLine p c → ⊥) × (e ≡ WrongForm number)) ⊎ (IsSendableLine p c × (IsTrue (may_come r c) → ⊥) × (e ≡ OutOfOrder number))

-- THE FAULT OF A LINE behind the head: no contribution has it, or one that is not right
abbrev pub IsLineFault : Program → ℕ → Reached → List ℕ → PartialFault → Type 0
IsLineFault p number r line e =
    IsUnread IsContributionLine number line e ⊎ ((c : Contribution) × IsContributionLine c line × IsUnfit p number r c e)

-- THE LINE IS RIGHT: it is that of this contribution, which a node of the job can have sent, and which may come there
pub record IsNext (p : Program) (r : Reached) (c : Contribution) (line : List ℕ) : Type 0 where
  pub is_line : IsContributionLine c line
  pub sendable : IsSendableLine p c
  pub timely : IsTrue (may_come r c)

-- the first fault of the lines behind the head, from the line of this number on; the last part is empty behind the line for the end, or else the
-- bytes are incomplete
abbrev pub IsFaultFrom : Program → ℕ → Reached → List (List ℕ) → PartialFault → Type 0
IsFaultFrom p number r [] e = ⊥
IsFaultFrom p number r (behind ∷ []) e = (((behind ≡ []) × (r ≡ AtEnd)) → ⊥) × (e ≡ Incomplete)
IsFaultFrom p number r (line ∷ next ∷ more) e =
    IsLineFault p number r line e ⊎ ((c : Contribution) × IsNext p r c line × IsFaultFrom p (number + 1) (reached_with c.place) (next ∷ more) e)

-- the first fault of all lines
abbrev pub IsFaultIn : Program → List (List ℕ) → PartialFault → Type 0
IsFaultIn p [] e = ⊥
IsFaultIn p (behind ∷ []) e = e ≡ Incomplete
IsFaultIn p (line ∷ next ∷ more) e = IsUnread IsHeadLine 1 line e ⊎ ((h : PartialHead) × IsHeadLine h line × IsFaultFrom p 2 Head (next ∷ more) e)

-- THE FIRST FAULT: all lines before one are right, and this one is not, for the first reason in the order of `PartialFault`; or else the bytes are
-- incomplete
abbrev pub IsFirstFault : Program → List ℕ → PartialFault → Type 0
IsFirstFault p bytes e = IsFaultIn p (parts_of bytes) e
