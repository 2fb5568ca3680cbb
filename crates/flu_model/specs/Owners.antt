-- Which itags the nodes of a plan are responsible for, and how nodes are related.
use Rattle.std.specs.Prelude.{ℕ, zero, suc, Bool, true, false, not, nat_le, ◌==◌, ◌&&◌, ◌||◌, Option, Some, None, List, [], ◌∷◌, length, slice_get, position}
use Rattle.std.specs.Prelude.{is_some}
use Rattle.std.specs.List.{list_all, list_any}
use Rattle.flu_model.specs.declared.events.Tag.{Tag}
use Rattle.flu_model.specs.declared.events.Itag.{Itag}
use Rattle.flu_model.specs.declared.jobs.Kind.{Kind}
use Rattle.flu_model.specs.declared.jobs.Keys.{Keys}
use Rattle.flu_model.specs.declared.jobs.Keys.TheVariants.{Alone, One, Range}
use Rattle.flu_model.specs.declared.jobs.Program.{Program}
use Rattle.flu_model.specs.declared.plans.Pred.{Pred}
use Rattle.flu_model.specs.declared.plans.Node.{Node}
use Rattle.flu_model.specs.Itags.{tag_of_itag, source_of_itag}
use Rattle.flu_model.specs.Rules.{kind_is_keyed}

-- ---- predicates

abbrev pub is_keyed : List Kind → ℕ → Bool
is_keyed kinds kind = kind_is_keyed (slice_get kinds kind)

-- a key is among those that a predicate names of a kind, which is keyed or not
abbrev pub key_matches : Bool → Keys → ℕ → Bool
key_matches keyed Alone key = true
key_matches keyed (One k) key = keyed && (key == k)
key_matches keyed (Range lo hi) key = keyed && nat_le lo key && nat_le key hi

abbrev pub kind_matches : List Kind → Option ℕ → Keys → Tag → Bool
kind_matches kinds None keys t = true
kind_matches kinds (Some kind) keys t = (t.kind == kind) && key_matches (is_keyed kinds kind) keys t.key

abbrev pub source_matches : Option ℕ → ℕ → Bool
source_matches None source = true
source_matches (Some wanted) source = source == wanted

-- a predicate matches an itag
abbrev pub matches : Program → Pred → Itag → Bool
matches p pred i = kind_matches p.kinds pred.kind pred.keys (tag_of_itag p i) && source_matches pred.source (source_of_itag p i)

-- ---- predicates and plans beside a job

abbrev pub names_source : Program → Option ℕ → Bool
names_source p None = true
names_source p (Some source) = is_some (slice_get p.sources source)

abbrev pub are_alone : Keys → Bool
are_alone Alone = true
are_alone (One k) = false
are_alone (Range lo hi) = false

-- a predicate names a kind of the job, or else only a source
abbrev pub names_kind : Program → Pred → Bool
names_kind p pred = names (pred.kind)
  where
    names : Option ℕ → Bool
    names None = is_some pred.source && are_alone pred.keys
    names (Some kind) = is_some (slice_get p.kinds kind)

-- a predicate names kinds and sources of the job
abbrev pub pred_fits : Program → Pred → Bool
pred_fits p pred = names_kind p pred && names_source p pred.source

-- all predicates of the nodes do
abbrev pub nodes_fit : Program → List Node → Bool
nodes_fit p nodes = list_all (λ (node : Node). list_all (pred_fits p) node.preds) nodes

-- ---- owners

-- a node owns an itag: one of its predicates matches it
abbrev pub node_owns : Program → Itag → Node → Bool
node_owns p i node = list_any (λ pred. matches p pred i) node.preds

abbrev pub found_owns : Program → Itag → Option Node → Bool
found_owns p i None = false
found_owns p i (Some node) = node_owns p i node

-- node w owns an itag
abbrev pub owns : Program → List Node → ℕ → Itag → Bool
owns p nodes w i = found_owns p i (slice_get nodes w)

-- the first owner of an itag
abbrev pub owner_of : Program → List Node → Itag → Option ℕ
owner_of p nodes i = position (node_owns p i) nodes

-- ---- ancestors

abbrev pub is_kid : ℕ → Option (ℕ × ℕ) → Bool
is_kid v None = false
is_kid v (Some kids) = (kids.0 == v) || (kids.1 == v)

-- the node of which v is a child
abbrev pub parent_of : List Node → ℕ → Option ℕ
parent_of nodes v = position (λ (node : Node). is_kid v node.kids) nodes

-- a node, if there is one, and its ancestors, from it up, at most this many
abbrev pub climb : ℕ → List Node → Option ℕ → List ℕ
climb zero nodes v = []
climb (suc n) nodes None = []
climb (suc n) nodes (Some v) = v ∷ climb n nodes (parent_of nodes v)

-- a node and all its ancestors, of which there are fewer than nodes
abbrev pub path_up : List Node → ℕ → List ℕ
path_up nodes v = climb (length nodes) nodes (Some v)

-- v is w or below it
abbrev pub is_within : List Node → ℕ → ℕ → Bool
is_within nodes w v = list_any (λ u. u == w) (path_up nodes v)

-- two nodes are equal or one is an ancestor of the other
abbrev pub are_related : List Node → ℕ → ℕ → Bool
are_related nodes a b = is_within nodes a b || is_within nodes b a

-- the itags that w or a node below it owns
abbrev pub subtree_owns : Program → List Node → ℕ → Itag → Bool
subtree_owns p nodes w i = owner_within (owner_of p nodes i)
  where
    owner_within : Option ℕ → Bool
    owner_within None = false
    owner_within (Some v) = is_within nodes w v

-- the itags that a proper ancestor of w owns
abbrev pub ancestors_own : Program → List Node → ℕ → Itag → Bool
ancestors_own p nodes w i = owner_above (owner_of p nodes i)
  where
    owner_above : Option ℕ → Bool
    owner_above None = false
    owner_above (Some v) = is_within nodes v w && not (v == w)
