-- PROGRAMS OF ONE JOB: a node apart contributes the same for each, and what nodes sent is joined alike.
use Rattle.std.specs.Prelude.{◌≡◌, ℕ, List}
use Rattle.flu_model.specs.declared.jobs.Program.{Program}
use Rattle.flu_model.specs.declared.plans.Node.{Node}
use Rattle.flu_model.specs.Contents.{Contents}
use Rattle.flu_model.specs.Erasure.{IsSameJob}
use Rattle.flu_apart.specs.declared.reason.Reason.{Reason}
use Rattle.flu_apart.specs.Apart.{MayBeApart, IsFirstReason}
use Rattle.flu_contribution.specs.Contributions.{contributions}
use Rattle.flu_contribution.specs.Laws.{AreNodesApart, IsSetting}
use Rattle.flu_contribution.specs.Sending.{joined_from, start_of}
use Rattle.flu_contribution.specs.Sharing.{needs_itag, is_itag_of_none, joined_parts}

-- the same nodes may be apart, and the first reason why another may not is the same
pub record MayBeApartAlike (p q : Program) : Type 0 where
  pub may : (nodes : List Node) (w : ℕ) → MayBeApart p nodes w → MayBeApart q nodes w
  pub apart : (nodes : List Node) (ws : List ℕ) → AreNodesApart p nodes ws → AreNodesApart q nodes ws
  pub reason : (nodes : List Node) (w : ℕ) (r : Reason) → IsFirstReason p nodes w r → IsFirstReason q nodes w r
  pub setting : (nodes : List Node) (opening : Contents) → IsSetting p nodes opening → IsSetting q nodes opening

-- a node needs the same itags, and contributes the same; and so the one that combines
pub record ContributeTheSame (p q : Program) : Type 0 where
  pub needed : needs_itag p ≡ needs_itag q
  pub sent : contributions p ≡ contributions q
  pub rest : is_itag_of_none p ≡ is_itag_of_none q
  pub start : start_of p ≡ start_of q
  pub joined : joined_from p ≡ joined_from q
  pub parts : joined_parts p ≡ joined_parts q

-- ---- the laws
abbrev pub JobsMayBeApartAlike : Type 0
JobsMayBeApartAlike = (p q : Program) → IsSameJob p q → MayBeApartAlike p q

abbrev pub JobsContributeTheSame : Type 0
JobsContributeTheSame = (p q : Program) → IsSameJob p q → ContributeTheSame p q
