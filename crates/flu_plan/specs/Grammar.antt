-- How a plan is spelled.
use Rattle.std.specs.Prelude.{◌≡◌, ◌≢◌, ◌↔◌, ℕ, List, [], ◌∷◌, ◌++◌, Option, Some, None, IsSome, Ok, Err}
use Rattle.std.specs.List.{flat_map}
use Rattle.flu_text.specs.declared.words.Word.TheVariants as w
use Rattle.flu_names.specs.declared.reserved.Reserved.TheVariants as r
use Rattle.flu_text.specs.declared.words.Mark.TheVariants as m
use Rattle.flu_text.specs.declared.words.Token.{Token}
use Rattle.flu_text.specs.declared.written.WrittenSpan.{WrittenSpan}
use Rattle.flu_text.specs.declared.written.WrittenKeys.{WrittenKeys}
use Rattle.flu_text.specs.declared.written.WrittenKeys.TheVariants as keys
use Rattle.flu_text.specs.Signs.{Sign, Any, AreSigns}
use Rattle.flu_text.specs.Signs.{name, keys_signs, separated, place_of}
use Rattle.flu_plan.specs.declared.fault.PlanFault.TheVariants as f
use Rattle.flu_plan.specs.declared.written.WrittenPred.{WrittenPred}
use Rattle.flu_plan.specs.declared.written.WrittenNode.{WrittenNode}
use Rattle.flu_plan.specs.Machine.{written_in}

-- NAME [ "[" NUMBER [ ".." NUMBER ] "]" ]
abbrev pub kind_signs : Option WrittenSpan → WrittenKeys → List Sign
kind_signs None ks = []
kind_signs (Some kind) ks = name kind ++ keys_signs ks

-- [ "@" NAME ]
abbrev pub source_signs : Option WrittenSpan → List Sign
source_signs None = []
source_signs (Some source) = Any (w.Mark m.At) ∷ name source

abbrev pub pred_signs : WrittenPred → List Sign
pred_signs q = kind_signs q.kind q.keys ++ source_signs q.source

-- a predicate has a kind, or else a source and no keys
abbrev pub HasPart : Option WrittenSpan → WrittenKeys → Option WrittenSpan → Type 0
HasPart None ks source = (ks ≡ keys.Alone) × IsSome source
HasPart (Some kind) ks source = Unit {0}

abbrev pub ArePreds : List WrittenPred → Type 0
ArePreds [] = Unit {0}
ArePreds (q ∷ preds) = HasPart q.kind q.keys q.source × ArePreds preds

-- [ "->" NAME NAME ]
abbrev pub kids_signs : Option (WrittenSpan × WrittenSpan) → List Sign
kids_signs None = []
kids_signs (Some kids) = Any (w.Mark m.Arrow) ∷ (name kids.0 ++ name kids.1)

-- "node" NAME ":" [ pred { "," pred } ] [ "->" NAME NAME ]
abbrev pub node_signs : WrittenNode → List Sign
node_signs n = Any (w.Reserved r.Node) ∷ (name n.name ++ Any (w.Mark m.Colon) ∷ (separated (w.Mark m.Comma) pred_signs n.preds ++ kids_signs n.kids))

abbrev pub AreNodes : List WrittenNode → Type 0
AreNodes [] = Unit {0}
AreNodes (n ∷ nodes) = ArePreds n.preds × AreNodes nodes

-- node { node }
abbrev pub plan_signs : List WrittenNode → List Sign
plan_signs nodes = flat_map node_signs nodes

-- the tokens are these nodes: they are their signs, one by one, and there is a node
pub record ArePlan (tokens : List Token) (nodes : List WrittenNode) : Type 0 where
  pub some : nodes ≢ []
  pub grammar : AreNodes nodes
  pub spelled : AreSigns (plan_signs nodes) tokens

-- ---- the laws

-- what is found is what the tokens are
abbrev pub FoundIsPlan : Type 0
FoundIsPlan = (end : ℕ) (tokens : List Token) (nodes : List WrittenNode) → (written_in end tokens ≡ Ok nodes) ↔ ArePlan tokens nodes

-- no tokens are two plans
abbrev pub PlansAreUnique : Type 0
PlansAreUnique = (tokens : List Token) (a b : List WrittenNode) → ArePlan tokens a → ArePlan tokens b → a ≡ b

-- these tokens may be continued to a plan
abbrev pub MayGoOn : List Token → Type 0
MayGoOn front = (more : List Token) × (nodes : List WrittenNode) × ArePlan (front ++ more) nodes

-- with the next token they cannot be continued, whatever follows; or no token is left and they are no plan yet
abbrev pub CannotTake : List Token → List Token → Type 0
CannotTake front [] = (nodes : List WrittenNode) → ArePlan front nodes → ⊥
CannotTake front (t ∷ rest) = (more : List Token) (nodes : List WrittenNode) → ArePlan ((front ++ t ∷ []) ++ more) nodes → ⊥

-- The place is that of the first token with which the tokens can no longer be continued, or the end if they can be continued.
pub record IsFirstThatCannotFollow (end : ℕ) (tokens : List Token) (place : ℕ) : Type 0 where
  pub front : List Token
  pub rest : List Token
  pub whole : tokens ≡ front ++ rest
  pub here : place ≡ place_of end rest
  pub may : MayGoOn front
  pub cannot : CannotTake front rest

abbrev pub UnexpectedIsFirst : Type 0
UnexpectedIsFirst = (end : ℕ) (tokens : List Token) (place : ℕ) → written_in end tokens ≡ Err (f.Unexpected place) → IsFirstThatCannotFollow end tokens place
