-- What a plan text is, and which plan it means: tokens, nodes that are written by the grammar, and what each of them says.
use Rattle.std.specs.Prelude.{◌≡◌, ℕ, List, map, Some, slice_get}
use Rattle.flu_lemmas.specs.Items.{Pairs}
use Rattle.flu_model.specs.declared.jobs.Kind.{Kind}
use Rattle.flu_model.specs.declared.jobs.Source.{Source}
use Rattle.flu_model.specs.declared.jobs.Keys.{Keys}
use Rattle.flu_model.specs.declared.jobs.Keys.TheVariants as keys
use Rattle.flu_model.specs.declared.jobs.Program.{Program}
use Rattle.flu_model.specs.declared.plans.Pred.{Pred}
use Rattle.flu_model.specs.declared.plans.Node.{Node}
use Rattle.flu_text.specs.declared.words.Token.{Token}
use Rattle.flu_text.specs.declared.written.WrittenSpan.{WrittenSpan}
use Rattle.flu_text.specs.declared.written.WrittenKeys.{WrittenKeys}
use Rattle.flu_text.specs.declared.written.WrittenKeys.TheVariants as w
use Rattle.flu_text.specs.Grammar.{AreTokens}
use Rattle.flu_layout.specs.Spelling.{name_of, written_value}
use Rattle.flu_plan.specs.declared.written.WrittenPred.{WrittenPred}
use Rattle.flu_plan.specs.declared.written.WrittenNode.{WrittenNode}
use Rattle.flu_plan.specs.Grammar.{ArePlan}
use Rattle.flu_plan.specs.Kept.{KeepsRules}
use Rattle.flu_grammar.specs.Means.{AllDiffer, IfWritten, IsNamed}
use Rattle.flu_grammar.specs.Texts.{IsShortText}

-- the job's kind, or source, of this number has the written name
abbrev pub MeansKind : Program → List ℕ → WrittenSpan → ℕ → Type 0
MeansKind p text s number = IsNamed (λ (k : Kind). k.name) p.kinds (name_of text s) number

abbrev pub MeansSource : Program → List ℕ → WrittenSpan → ℕ → Type 0
MeansSource p text s number = IsNamed (λ (x : Source). x.name) p.sources (name_of text s) number

-- no keys, one, or those from one number to another, as they are written
abbrev pub MeansKeys : WrittenKeys → Keys → Type 0
MeansKeys w.Alone keys.Alone = Unit {0}
MeansKeys (w.One n) (keys.One k) = k ≡ written_value n.value
MeansKeys (w.Range low high) (keys.Range lo hi) = (lo ≡ written_value low.value) × (hi ≡ written_value high.value)
MeansKeys _ _ = ⊥

pub record MeansPred (p : Program) (text : List ℕ) (written : WrittenPred) (pred : Pred) : Type 0 where
  pub kind : IfWritten (MeansKind p text) written.kind pred.kind
  pub keys : MeansKeys written.keys pred.keys
  pub source : IfWritten (MeansSource p text) written.source pred.source

-- the plan's node of this number has the written name
abbrev pub MeansChild : List ℕ → List Node → WrittenSpan → ℕ → Type 0
MeansChild text plan s number = IsNamed (λ (node : Node). node.name) plan (name_of text s) number

-- the left one means the left child, and the right one the right child
abbrev pub MeansKids : List ℕ → List Node → WrittenSpan × WrittenSpan → ℕ × ℕ → Type 0
MeansKids text plan written kids = MeansChild text plan written.0 kids.0 × MeansChild text plan written.1 kids.1

-- a written node means a node of the plan: it has its name, its predicates in their order, and its children
pub record MeansNode (p : Program) (text : List ℕ) (plan : List Node) (written : WrittenNode) (node : Node) : Type 0 where
  pub name : node.name ≡ name_of text written.name
  pub preds : Pairs (MeansPred p text) written.preds node.preds
  pub kids : IfWritten (MeansKids text plan) written.kids node.kids

-- some element of a list satisfies this
abbrev pub HasSome : {X : Type 0} → List X → (X → Type 0) → Type 0
HasSome {X} xs P = (i : ℕ) × (x : X) × (slice_get xs i ≡ Some x) × P x

-- The written nodes mean this plan. Their own names differ, the first one is the root, and each means a node of the plan, which has
-- no others. The plan is one tree in preorder, within the limits.
pub record MeansPlan (p : Program) (text : List ℕ) (written : List WrittenNode) (plan : List Node) : Type 0 where
  pub own_names : AllDiffer (map (λ (w : WrittenNode). name_of text w.name) written)
  pub root : (first : WrittenNode) → slice_get written 0 ≡ Some first → MeansChild text plan first.name 0
  pub each_written : (i : ℕ) (w : WrittenNode) → slice_get written i ≡ Some w → HasSome plan (λ node. MeansNode p text plan w node)
  pub each_planned : (v : ℕ) (node : Node) → slice_get plan v ≡ Some node → HasSome written (λ w. MeansNode p text plan w node)
  pub rules : KeepsRules plan

-- The bytes are the text of this plan of a job.
pub record IsPlanText (p : Program) (bytes : List ℕ) (plan : List Node) : Type 0 where
  pub text : IsShortText bytes
  pub tokens : List Token
  pub cut : AreTokens bytes tokens
  pub written : List WrittenNode
  pub grammar : ArePlan tokens written
  pub means : MeansPlan p bytes written plan
