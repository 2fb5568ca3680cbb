-- What the names of a written plan stand for: its nodes, and the kinds and sources of the job.
use Rattle.std.specs.Prelude.{ℕ, not, List, [], ◌∷◌, ◌++◌, Option, Some, None, position, Ok, Err}
use Rattle.std.specs.List.{list_any}
use Rattle.std.specs.Str.{bytes_eq}
use Rattle.flu_model.specs.declared.jobs.Kind.{Kind}
use Rattle.flu_model.specs.declared.jobs.Source.{Source}
use Rattle.flu_model.specs.declared.jobs.Program.{Program}
use Rattle.flu_model.specs.Rules.{is_same_text}
use Rattle.flu_text.specs.declared.written.WrittenSpan.{WrittenSpan}
use Rattle.flu_plan.specs.declared.fault.PlanFault.TheVariants as f
use Rattle.flu_plan.specs.declared.written.WrittenPred.{WrittenPred}
use Rattle.flu_plan.specs.declared.written.WrittenNode.{WrittenNode}
use Rattle.flu_plan.specs.declared.drafts.DraftPred.{DraftPred}
use Rattle.flu_plan.specs.declared.drafts.DraftNode.{DraftNode}
use Rattle.flu_plan.specs.Faults.{Found, ◌>>=◌, ◌>>◌, unless, each, found_of_each}
use Rattle.flu_layout.specs.Spelling.{name_of}

-- ---- the names of nodes

-- a name that no node before has
unfoldable pub with_name : List ℕ → List (List ℕ) → WrittenNode → Found (List (List ℕ))
with_name text names w = do
  unless (not (list_any (bytes_eq (name_of text w.name)) names)) (f.NotATree (name_of text w.name))
  Ok (names ++ name_of text w.name ∷ [])

-- the names of the nodes, in the order of the text, or the first that was declared before
abbrev pub names_of : List ℕ → List WrittenNode → Found (List (List ℕ))
names_of text written = each (with_name text) [] written

-- ---- the names in predicates, and those of children

abbrev pub kind_named : List Kind → List ℕ → Option ℕ
kind_named kinds name = position (λ (k : Kind). is_same_text name k.name) kinds

abbrev pub source_named : List Source → List ℕ → Option ℕ
source_named sources name = position (λ (s : Source). is_same_text name s.name) sources

-- a name that needs to be known
abbrev pub known : ℕ → Option ℕ → Found ℕ
known at None = Err (f.UnknownName at)
known at (Some n) = Ok n

abbrev pub kind_of : Program → List ℕ → Option WrittenSpan → Found (Option ℕ)
kind_of p text None = Ok None
kind_of p text (Some s) = known s.from (kind_named p.kinds (name_of text s)) >>= λ n. Ok (Some n)

abbrev pub source_of : Program → List ℕ → Option WrittenSpan → Found (Option ℕ)
source_of p text None = Ok None
source_of p text (Some s) = known s.from (source_named p.sources (name_of text s)) >>= λ n. Ok (Some n)

unfoldable pub pred_of : Program → List ℕ → WrittenPred → Found DraftPred
pred_of p text w = do
  kind ← kind_of p text w.kind
  source ← source_of p text w.source
  Ok (record { kind = kind; keys = w.keys; source = source })

-- the place of a child among the nodes
abbrev pub kid_of : List ℕ → List (List ℕ) → WrittenSpan → Found ℕ
kid_of text names s = known s.from (position (bytes_eq (name_of text s)) names)

abbrev pub kids_of : List ℕ → List (List ℕ) → Option (WrittenSpan × WrittenSpan) → Found (Option (ℕ × ℕ))
kids_of text names None = Ok None
kids_of text names (Some kids) = kid_of text names kids.0 >>= λ left. kid_of text names kids.1 >>= λ right. Ok (Some (left, right))

unfoldable pub node_of : Program → List ℕ → List (List ℕ) → WrittenNode → Found DraftNode
node_of p text names w = do
  preds ← found_of_each (pred_of p text) w.preds
  kids ← kids_of text names w.kids
  Ok (record { name = w.name; preds = preds; kids = kids })

-- the nodes, or the first name of a kind, a source or a child, in the order of the text, that is unknown
abbrev pub nodes_of : Program → List ℕ → List (List ℕ) → List WrittenNode → Found (List DraftNode)
nodes_of p text names written = found_of_each (node_of p text names) written
