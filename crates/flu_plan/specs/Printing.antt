-- The text of a plan: its nodes in preorder, each on a line of its own.
use Rattle.std.specs.Prelude.{ℕ, Bool, ◌&&◌, List, [], ◌∷◌, ◌++◌, Option, Some, None, slice_get, codes}
use Rattle.std.specs.List.{flat_map, list_all}
use Rattle.flu_model.specs.declared.jobs.Kind.{Kind}
use Rattle.flu_model.specs.declared.jobs.Source.{Source}
use Rattle.flu_model.specs.declared.jobs.Keys.{Keys}
use Rattle.flu_model.specs.declared.jobs.Program.{Program}
use Rattle.flu_model.specs.declared.plans.Pred.{Pred}
use Rattle.flu_model.specs.declared.plans.Node.{Node}
use Rattle.flu_names.specs.Names.{is_name}
use Rattle.flu_model.specs.Owners.{nodes_fit}
use Rattle.flu_layout.specs.Lists.{keys_text, separated}
use Rattle.flu_layout.specs.Laid.{line_end}

abbrev pub name_of_kind : Option Kind → List ℕ
name_of_kind None = []
name_of_kind (Some kind) = kind.name

abbrev pub name_of_source : Option Source → List ℕ
name_of_source None = []
name_of_source (Some source) = source.name

abbrev pub name_of_child : Option Node → List ℕ
name_of_child None = []
name_of_child (Some node) = node.name

-- a kind with its keys, if one is meant
abbrev pub kind_text : Program → Option ℕ → Keys → List ℕ
kind_text p None ks = []
kind_text p (Some kind) ks = name_of_kind (slice_get p.kinds kind) ++ keys_text ks

-- `@` and a source, if one is meant
abbrev pub source_text : Program → Option ℕ → List ℕ
source_text p None = []
source_text p (Some source) = codes "@" ++ name_of_source (slice_get p.sources source)

abbrev pub pred_text : Program → Pred → List ℕ
pred_text p q = kind_text p q.kind q.keys ++ source_text p q.source

-- the predicates after a blank, if there are some
abbrev pub preds_text : Program → List Pred → List ℕ
preds_text p [] = []
preds_text p (q ∷ preds) = codes " " ++ separated (codes ", ") (pred_text p) (q ∷ preds)

-- the children's names after an arrow, if there are some
abbrev pub kids_text : List Node → Option (ℕ × ℕ) → List ℕ
kids_text nodes None = []
kids_text nodes (Some kids) = codes " -> " ++ name_of_child (slice_get nodes kids.0) ++ codes " " ++ name_of_child (slice_get nodes kids.1)

abbrev pub node_line : Program → List Node → Node → List ℕ
node_line p nodes node = codes "node " ++ node.name ++ codes ":" ++ preds_text p node.preds ++ kids_text nodes node.kids ++ line_end

abbrev pub printed : Program → List Node → List ℕ
printed p nodes = flat_map (node_line p nodes) nodes

-- the nodes' names are names of the language, and their predicates name kinds and sources of the job
abbrev pub has_text : Program → List Node → Bool
has_text p nodes = nodes_fit p nodes && list_all (λ (node : Node). is_name node.name) nodes
