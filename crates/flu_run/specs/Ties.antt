-- What a worker's thread maintains between any two calls: how the worker relates to the ends that it holds, and to its outputs. The ties of flu_worker say how
-- a worker relates to an edge; this file says what the ends of the links have noted.
use Rattle.std.specs.Prelude.{◌≡◌, ◌⊎◌, ℕ, ◌≤◌, true, false, Some, List}
use Rattle.flu_model.specs.declared.events.Out.{Out}
use Rattle.flu_fork.specs.declared.lots.Ask.{Ask}
use Rattle.flu_fork.specs.Lots.{kids, setting_of}
use Rattle.flu_fork.specs.Texts.{HasTexts}
use Rattle.flu_worker.specs.declared.hand.Side.{Side}
use Rattle.flu_worker.specs.Hands.{at_side}
use Rattle.flu_worker.specs.Notes.{WorkerNote, own_of}
use Rattle.flu_worker.specs.Ties.{Here, AskedFor, AtHome, LentOut, Recalled, HangsFrom, LetsTo, IsLoan}
use Rattle.flu_link.specs.Notes.{UpperNote, LowerNote, phase_held, phase_asked, phase_given}

-- the end noted Asked last, for an event for which the worker's lot is asked
pub record IsAskedFor (n : WorkerNote) (l : LowerNote) : Type 0 where
  pub phase : l.phase ≡ phase_asked
  pub ask : Ask
  pub noted : l.ask ≡ Some ask
  pub tie : HangsFrom n (AskedFor ask)

-- THE END ABOVE: while the worker has its lot, or parts of it are out, the end noted Held or Asked last, and the lot is the one that the worker held last
pub record Hangs (n : WorkerNote) (l : LowerNote) : Type 0 where
  pub case : l.case ≡ n.case
  pub lower : l.lower ≡ n.node
  pub given : l.given ≡ n.given
  pub held : HangsFrom n Here → l.held ≡ n.held
  pub phase : HangsFrom n Here → (l.phase ≡ phase_held) ⊎ IsAskedFor n l

-- THE END BELOW, of a side: if the part is here, a lot may be lent; if it is out, it is lent or held below, or asked for, for the target that is kept
pub record Lets (s : Side) (n : WorkerNote) (u : UpperNote) : Type 0 where
  pub case : u.case ≡ n.case
  pub lower : (l r : ℕ) → kids n.case n.node ≡ Some (l, r) → u.lower ≡ at_side s l r
  pub loan : IsLoan s n u.lent u.received
  pub home : LetsTo s n AtHome → (u.taken ≡ true) × (u.phase ≡ phase_given)
  pub out : LetsTo s n LentOut → ((u.taken ≡ true) × (u.phase ≤ phase_held)) ⊎ ((u.taken ≡ false) × LetsTo s n (Recalled u.ask))

-- THE OUTPUTS are those of the node's own events that the worker counted
abbrev pub Tells : WorkerNote → List Out → Type 0
Tells n outs = HasTexts (setting_of n.case) (own_of n) n.counts outs
