-- What the search has found so far.
use Rattle.std.specs.Prelude.{◌≡◌, ℕ, ◌<◌, ◌==◌, List, slice_index}
use Rattle.flu_model.specs.declared.events.Itag.{Itag}
use Rattle.flu_model.specs.declared.jobs.Program.{Program}
use Rattle.flu_model.specs.declared.plans.Node.{Node}
use Rattle.flu_model.specs.Owners.{owns}
use Rattle.flu_valid.specs.declared.faults.Invalid.{Invalid}
use Rattle.flu_valid.specs.declared.faults.Invalid.TheVariants.{Unowned, OwnedTwice, Clash}
use Rattle.flu_valid.specs.Faults.{HasNoOwner, HasFirstOwners, IsClash}

-- w owns an itag, and no other node does
abbrev pub IsSoleOwner : Program → List Node → Itag → ℕ → Type 0
IsSoleOwner p nodes i w = (v : ℕ) → owns p nodes v i ≡ (v == w)

-- what is wrong with the owners of itag i
abbrev pub IsFaultOf : Program → List Node → Itag → Invalid → Type 0
IsFaultOf p nodes i (Unowned k) = (k ≡ i) × HasNoOwner p nodes i
IsFaultOf p nodes i (OwnedTwice k a b) = (k ≡ i) × HasFirstOwners p nodes i a b
IsFaultOf p nodes i (Clash a k b l) = ⊥

-- a table has the only owner of each itag with a number below n
abbrev pub AreSoleOwners : Program → List Node → List ℕ → ℕ → Type 0
AreSoleOwners p nodes table n = (k : Itag) → k.0 < n → IsSoleOwner p nodes k (slice_index table k.0)

-- ---- clashes
-- no itag of node b clashes with itag i of node a
abbrev pub NoneOfItag : Program → List Node → ℕ → Itag → ℕ → Type 0
NoneOfItag p nodes a i b = (l : Itag) → IsClash p nodes a i b l → ⊥

-- no itags of these nodes clash
abbrev pub NoneOfNodes : Program → List Node → ℕ → ℕ → Type 0
NoneOfNodes p nodes a b = (k : Itag) → NoneOfItag p nodes a k b

-- no itag of node a clashes with one of a later node
abbrev pub NoneOfNode : Program → List Node → ℕ → Type 0
NoneOfNode p nodes a = (b : ℕ) → NoneOfNodes p nodes a b

-- i and j are the first itags of two nodes that clash
pub record AreFirstItags (p : Program) (nodes : List Node) (a b : ℕ) (i j : Itag) : Type 0 where
  pub clash : IsClash p nodes a i b j
  pub before_i : (k : Itag) → k.0 < i.0 → NoneOfItag p nodes a k b
  pub before_j : (l : Itag) → l.0 < j.0 → IsClash p nodes a i b l → ⊥

-- the first clash of a node with a later one
abbrev pub IsFirstOfNode : Program → List Node → ℕ → Invalid → Type 0
IsFirstOfNode p nodes a (Unowned k) = ⊥
IsFirstOfNode p nodes a (OwnedTwice k d e) = ⊥
IsFirstOfNode p nodes a (Clash d i b j) = (d ≡ a) × AreFirstItags p nodes a b i j × ((e : ℕ) → e < b → NoneOfNodes p nodes a e)
