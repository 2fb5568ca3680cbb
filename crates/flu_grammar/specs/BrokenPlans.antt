-- What each fault of a plan text says: which rule is broken, and where.
use Rattle.std.specs.Prelude.{◌≡◌, ◌<◌, ◌≤◌, ℕ, List, [], ◌∷◌, map, length, sum_by, Option, Some, None, Ok, Err, slice_get, false}
use Rattle.std.specs.List.{flat_map}
use Rattle.std.specs.Str.{IsUtf8}
use Rattle.std.specs.Str.Lossy.{utf8_valid_len}
use Rattle.flu_model.specs.declared.limits.What.TheVariants.{Bytes, Nodes, Predicates, Depth, Key}
use Rattle.flu_model.specs.declared.jobs.Kind.{Kind}
use Rattle.flu_model.specs.declared.jobs.Source.{Source}
use Rattle.flu_model.specs.declared.jobs.Program.{Program}
use Rattle.flu_model.specs.Contents.{key_count}
use Rattle.flu_text.specs.declared.words.Token.{Token}
use Rattle.flu_text.specs.declared.written.WrittenSpan.{WrittenSpan}
use Rattle.flu_text.specs.declared.written.WrittenNumber.{WrittenNumber}
use Rattle.flu_text.specs.Grammar.{AreTokens, IsFirstBadPlace}
use Rattle.flu_layout.specs.Spelling.{name_of, written_value}
use Rattle.flu_plan.specs.declared.fault.PlanFault.{PlanFault}
use Rattle.flu_plan.specs.declared.fault.PlanFault.TheVariants as p
use Rattle.flu_plan.specs.declared.written.WrittenPred.{WrittenPred}
use Rattle.flu_plan.specs.declared.written.WrittenNode.{WrittenNode}
use Rattle.flu_plan.specs.declared.drafts.DraftNode.{DraftNode}
use Rattle.flu_plan.specs.declared.drafts.Visit.{Visit}
use Rattle.flu_plan.specs.Grammar.{ArePlan, IsFirstThatCannotFollow}
use Rattle.flu_plan.specs.Resolving.{nodes_of}
use Rattle.flu_plan.specs.Shape.{preorder, is_met}
use Rattle.flu_plan.specs.Reading.{plan_in}
use Rattle.flu_grammar.specs.Texts.{IsShortText}
use Rattle.flu_grammar.specs.Faults.{NoneIsNamed, IsNodeTwice}
use Rattle.flu_grammar.specs.BrokenJobs.{IsWrittenKey}

abbrev pub kind_name : Kind → List ℕ
kind_name kind = kind.name

abbrev pub source_name : Source → List ℕ
source_name source = source.name

-- the names of the nodes, in the order of the text
abbrev pub node_names : List ℕ → List WrittenNode → List (List ℕ)
node_names text nodes = map (λ (w : WrittenNode). name_of text w.name) nodes

abbrev pub itself : List ℕ → List ℕ
itself name = name

-- ---- names

pub data BreaksPred (program : Program) (text : List ℕ) (written : WrittenPred) : PlanFault → Type 0 where
  pred_kind : (s : WrittenSpan) → written.kind ≡ Some s → NoneIsNamed kind_name program.kinds (name_of text s)
      → BreaksPred program text written (p.UnknownName s.from)
  pred_source : (s : WrittenSpan) → written.source ≡ Some s → NoneIsNamed source_name program.sources (name_of text s)
      → BreaksPred program text written (p.UnknownName s.from)

pub data BreaksNode (program : Program) (text : List ℕ) (nodes : List WrittenNode) (written : WrittenNode) : PlanFault → Type 0 where
  in_pred : (i : ℕ) (q : WrittenPred) (fault : PlanFault) → slice_get written.preds i ≡ Some q → BreaksPred program text q fault
      → BreaksNode program text nodes written fault
  left_unknown : (left right : WrittenSpan) → written.kids ≡ Some (left, right) → NoneIsNamed itself (node_names text nodes) (name_of text left)
      → BreaksNode program text nodes written (p.UnknownName left.from)
  right_unknown : (left right : WrittenSpan) → written.kids ≡ Some (left, right) → NoneIsNamed itself (node_names text nodes) (name_of text right)
      → BreaksNode program text nodes written (p.UnknownName right.from)

-- ---- the tree

abbrev pub names_of_kids : List ℕ → Option (WrittenSpan × WrittenSpan) → List (List ℕ)
names_of_kids text None = []
names_of_kids text (Some kids) = name_of text kids.0 ∷ name_of text kids.1 ∷ []

-- the names of a node's children
abbrev pub child_names : List ℕ → WrittenNode → List (List ℕ)
child_names text w = names_of_kids text w.kids

-- the name of the root, and then those of all children
abbrev pub placed_names : List ℕ → List WrittenNode → List (List ℕ)
placed_names text [] = []
placed_names text (root ∷ nodes) = name_of text root.name ∷ flat_map (child_names text) (root ∷ nodes)

-- the name occurs twice there: a child is the root or was a child before
pub record IsChildTwice (text : List ℕ) (nodes : List WrittenNode) (name : List ℕ) : Type 0 where
  pub first : ℕ
  pub second : ℕ
  pub apart : first < second
  pub one : slice_get (placed_names text nodes) first ≡ Some name
  pub other : slice_get (placed_names text nodes) second ≡ Some name

-- the nodes, with their children by their places
abbrev pub AreDrafts : Program → List ℕ → List WrittenNode → List DraftNode → Type 0
AreDrafts program text nodes drafts = nodes_of program text (node_names text nodes) nodes ≡ Ok drafts

pub data BreaksPlan (program : Program) (text : List ℕ) (nodes : List WrittenNode) : PlanFault → Type 0 where
  node_twice : (name : List ℕ) → IsNodeTwice text nodes name → BreaksPlan program text nodes (p.NotATree name)
  in_node : (i : ℕ) (w : WrittenNode) (fault : PlanFault) → slice_get nodes i ≡ Some w → BreaksNode program text nodes w fault
      → BreaksPlan program text nodes fault
  child_twice : (name : List ℕ) → IsChildTwice text nodes name → BreaksPlan program text nodes (p.NotATree name)
  -- a node that is not reached from the root through children
  not_below : (drafts : List DraftNode) (v : ℕ) (w : WrittenNode) → AreDrafts program text nodes drafts → slice_get nodes v ≡ Some w
      → is_met (preorder drafts) v ≡ false → BreaksPlan program text nodes (p.NotATree (name_of text w.name))
  -- at most 127 nodes, 4,096 predicates and depth 6
  too_many_nodes : 127 < length nodes → BreaksPlan program text nodes (p.OverLimit Nodes 128)
  too_many_preds : 4096 < sum_by (λ (w : WrittenNode). length w.preds) nodes → BreaksPlan program text nodes (p.OverLimit Predicates 4097)
  too_deep : (drafts : List DraftNode) (i : ℕ) (v : Visit) → AreDrafts program text nodes drafts → slice_get (preorder drafts) i ≡ Some v → 6 < v.depth
      → BreaksPlan program text nodes (p.OverLimit Depth 7)
  -- a key is at most 65,535
  pred_key : (i : ℕ) (w : WrittenNode) (k : ℕ) (q : WrittenPred) (n : WrittenNumber) → slice_get nodes i ≡ Some w → slice_get w.preds k ≡ Some q
      → IsWrittenKey q.keys n → key_count ≤ written_value n.value → BreaksPlan program text nodes (p.OverLimit Key (written_value n.value))

-- ---- a plan text

-- what a fault says of the bytes in which it is found
pub data IsFaultOfPlan (program : Program) (bytes : List ℕ) : PlanFault → Type 0 where
  too_many_bytes : 1048576 < length bytes → IsFaultOfPlan program bytes (p.OverLimit Bytes 1048577)
  not_utf8 : length bytes ≤ 1048576 → ¬ IsUtf8 bytes → IsFaultOfPlan program bytes (p.BadToken (utf8_valid_len bytes))
  no_token : (at : ℕ) → IsShortText bytes → IsFirstBadPlace bytes at → IsFaultOfPlan program bytes (p.BadToken at)
  not_continued : (at : ℕ) (tokens : List Token) → IsShortText bytes → AreTokens bytes tokens → IsFirstThatCannotFollow (length bytes) tokens at
      → IsFaultOfPlan program bytes (p.Unexpected at)
  of_nodes : (tokens : List Token) (nodes : List WrittenNode) (fault : PlanFault) → IsShortText bytes → AreTokens bytes tokens → ArePlan tokens nodes
      → BreaksPlan program bytes nodes fault → IsFaultOfPlan program bytes fault

-- each fault of a plan text is one by its rule
abbrev pub PlanFaultsAreByRule : Type 0
PlanFaultsAreByRule = (program : Program) (bytes : List ℕ) (fault : PlanFault) → plan_in program bytes ≡ Err fault → IsFaultOfPlan program bytes fault
