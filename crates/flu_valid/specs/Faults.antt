-- What keeps a plan from being valid for a job, and the first of it.
use Rattle.std.specs.Prelude.{◌≡◌, ℕ, ◌<◌, true, false, List, count_by}
use Rattle.std.specs.Ordering.{nat_cmp, ordering_then, is_lt}
use Rattle.std.specs.declared.cmp.Ordering.{Ordering}
use Rattle.flu_model.specs.declared.events.Itag.{Itag}
use Rattle.flu_model.specs.declared.jobs.Program.{Program}
use Rattle.flu_model.specs.declared.plans.Node.{Node}
use Rattle.flu_model.specs.Itags.{count_of_itags}
use Rattle.flu_model.specs.Owners.{node_owns, owns, are_related}
use Rattle.flu_deps.specs.Dependencies.{itags_depend}
use Rattle.flu_valid.specs.declared.faults.Invalid.{Invalid}
use Rattle.flu_valid.specs.declared.faults.Invalid.TheVariants.{Unowned, OwnedTwice, Clash}

-- ---- owners

-- an itag has exactly one owner
abbrev pub HasOneOwner : Program → List Node → Itag → Type 0
HasOneOwner p nodes i = count_by (node_owns p i) nodes ≡ 1

-- an itag of the job, before which each has exactly one owner
pub record IsReached (p : Program) (nodes : List Node) (i : Itag) : Type 0 where
  pub in_range : i.0 < count_of_itags p
  pub before : (k : Itag) → k.0 < i.0 → HasOneOwner p nodes k

-- no node owns an itag
abbrev pub HasNoOwner : Program → List Node → Itag → Type 0
HasNoOwner p nodes i = (w : ℕ) → owns p nodes w i ≡ false

-- a and b own an itag, and no other node before b does
pub record HasFirstOwners (p : Program) (nodes : List Node) (i : Itag) (a b : ℕ) : Type 0 where
  pub in_order : a < b
  pub first : owns p nodes a i ≡ true
  pub second : owns p nodes b i ≡ true
  pub no_other : (w : ℕ) → w < b → owns p nodes w i ≡ true → w ≡ a

-- ---- clashes

-- itag i of node a and itag j of node b are dependent, and the nodes are not related; a is before b
pub record IsClash (p : Program) (nodes : List Node) (a : ℕ) (i : Itag) (b : ℕ) (j : Itag) : Type 0 where
  pub i_in_range : i.0 < count_of_itags p
  pub j_in_range : j.0 < count_of_itags p
  pub in_order : a < b
  pub unrelated : are_related nodes a b ≡ false
  pub first : owns p nodes a i ≡ true
  pub second : owns p nodes b j ≡ true
  pub dependent : itags_depend p i j ≡ true

-- the order of clashes: by the first node, the second node, the first itag, the second itag
abbrev pub clash_cmp : ℕ → Itag → ℕ → Itag → ℕ → Itag → ℕ → Itag → Ordering
clash_cmp a i b j d k e l = ordering_then (nat_cmp a d) (ordering_then (nat_cmp b e) (ordering_then (nat_cmp i.0 k.0) (nat_cmp j.0 l.0)))

-- a clash, and none is before it
pub record IsFirstClash (p : Program) (nodes : List Node) (a : ℕ) (i : Itag) (b : ℕ) (j : Itag) : Type 0 where
  pub clash : IsClash p nodes a i b j
  pub first : (d : ℕ) (k : Itag) (e : ℕ) (l : Itag) → IsClash p nodes d k e l → is_lt (clash_cmp d k e l a i b j) ≡ false

-- ---- FIRST FAULT: the first itag that has not exactly one owner, or else the first clash
abbrev pub IsFirstPlanFault : Program → List Node → Invalid → Type 0
IsFirstPlanFault p nodes (Unowned i) = IsReached p nodes i × HasNoOwner p nodes i
IsFirstPlanFault p nodes (OwnedTwice i a b) = IsReached p nodes i × HasFirstOwners p nodes i a b
IsFirstPlanFault p nodes (Clash a i b j) = ((k : Itag) → k.0 < count_of_itags p → HasOneOwner p nodes k) × IsFirstClash p nodes a i b j
