-- ALIKE: two nets that the same steps led to. They agree in everything that decides which steps are enabled: what is seen and counted, the shapes of hands and
-- edges, targets and asks, and, for lots that came down, the counts of the itags above. The values in lots are not compared, but the values that counts
-- describe are the same.
use Rattle.std.specs.Prelude.{◌≡◌, ℕ, ◌<◌, Bool, true, Some, List, length, slice_get, slice_index, ⊤}
use Rattle.flu_model.specs.declared.events.Item.{Item}
use Rattle.flu_model.specs.declared.plans.Node.{Node}
use Rattle.flu_model.specs.Itags.{count_of_itags}
use Rattle.flu_deps.specs.Dependencies.{itags_depend}
use Rattle.flu_fork.specs.declared.content.Content.{Content}
use Rattle.flu_fork.specs.Classes.{itag, own, above}
use Rattle.flu_fork.specs.Lots.{setting_of}
use Rattle.flu_fork.specs.Settings.{Setting}
use Rattle.flu_worker.specs.Notes.{WorkerNote}
use Rattle.flu_net.specs.declared.edges.Edge.{Edge}
use Rattle.flu_net.specs.declared.edges.Edge.TheVariants.{Home, Lent, Held, Asked, Given}
use Rattle.flu_net.specs.declared.steps.Step.{Step}
use Rattle.flu_net.specs.Effects.{Makes}
use Rattle.flu_net.specs.Enabled.{is_enabled}
use Rattle.flu_net.specs.Final.{IsFinal}
use Rattle.flu_net.specs.Notes.{NetNote}
use Rattle.flu_net.specs.Starting.{IsStart}

-- what workers use of a job with a plan and streams: how many itags there are, which of them a node owns and which the nodes above it, which of them depend on
-- each other, the nodes, and the items
pub record View : Type 0 where
  pub count : ℕ
  pub owned : ℕ → ℕ → Bool
  pub higher : ℕ → ℕ → Bool
  pub tied : ℕ → ℕ → Bool
  pub nodes : List Node
  pub lists : List (List Item)

abbrev pub view_of : Setting → View
view_of k = record {
  count = count_of_itags k.program;
  owned = own k.program k.nodes;
  higher = above k.program k.nodes;
  tied = λ i j. itags_depend k.program (itag i) (itag j);
  nodes = k.nodes;
  lists = k.lists;
}

abbrev pub view_in : Content → View
view_in k = view_of (setting_of k)

-- two lists of counts agree on the itags of the nodes above a node
abbrev pub AgreeAbove : View → ℕ → List ℕ → List ℕ → Type 0
AgreeAbove k w a b = (i : ℕ) → i < k.count → k.higher w i ≡ true → slice_index a i ≡ slice_index b i

-- two workers of node w
pub record AreAlikeAt (k : View) (w : ℕ) (a b : WorkerNote) : Type 0 where
  pub case : view_in a.case ≡ k
  pub node : a.node ≡ w
  pub same_case : view_in b.case ≡ k
  pub same_node : b.node ≡ w
  pub hand : a.hand ≡ b.hand
  pub kept : a.kept ≡ b.kept
  pub seen : a.seen ≡ b.seen
  pub counts : a.counts ≡ b.counts
  pub long : length a.counts ≡ k.count
  pub held : AgreeAbove k w a.held.upto b.held.upto

-- two edges above node w
abbrev pub AreAlikeOver : View → ℕ → Edge → Edge → Type 0
AreAlikeOver k w Home Home = ⊤
AreAlikeOver k w Home (Lent b) = ⊥
AreAlikeOver k w Home Held = ⊥
AreAlikeOver k w Home (Asked y) = ⊥
AreAlikeOver k w Home (Given b) = ⊥
AreAlikeOver k w (Lent a) Home = ⊥
AreAlikeOver k w (Lent a) (Lent b) = AgreeAbove k w a.upto b.upto
AreAlikeOver k w (Lent a) Held = ⊥
AreAlikeOver k w (Lent a) (Asked y) = ⊥
AreAlikeOver k w (Lent a) (Given b) = ⊥
AreAlikeOver k w Held Home = ⊥
AreAlikeOver k w Held (Lent b) = ⊥
AreAlikeOver k w Held Held = ⊤
AreAlikeOver k w Held (Asked y) = ⊥
AreAlikeOver k w Held (Given b) = ⊥
AreAlikeOver k w (Asked x) Home = ⊥
AreAlikeOver k w (Asked x) (Lent b) = ⊥
AreAlikeOver k w (Asked x) Held = ⊥
AreAlikeOver k w (Asked x) (Asked y) = (x ≡ y) × (x.itag.0 < k.count)
AreAlikeOver k w (Asked x) (Given b) = ⊥
AreAlikeOver k w (Given a) Home = ⊥
AreAlikeOver k w (Given a) (Lent b) = ⊥
AreAlikeOver k w (Given a) Held = ⊥
AreAlikeOver k w (Given a) (Asked y) = ⊥
AreAlikeOver k w (Given a) (Given b) = ⊤

pub record AreAlike (k : View) (n m : NetNote) : Type 0 where
  pub case : view_in n.case ≡ k
  pub same_case : view_in m.case ≡ k
  pub gone : n.gone ≡ m.gone
  pub seen : n.seen ≡ m.seen
  pub workers : length n.workers ≡ length m.workers
  pub edges : length n.edges ≡ length m.edges
  pub each : (w : ℕ) (a b : WorkerNote) → slice_get n.workers w ≡ Some a → slice_get m.workers w ≡ Some b → AreAlikeAt k w a b
  pub over : (w : ℕ) (a b : Edge) → slice_get n.edges w ≡ Some a → slice_get m.edges w ≡ Some b → AreAlikeOver k w a b

-- ---- the laws: the nets at the start are alike; if nets are alike, the same steps are enabled, and one is final if the other is; and the same step keeps
-- them alike. So the steps alone determine what a list of steps leads to, which steps are enabled after it, and whether it is a whole run
abbrev pub StartsAreAlike : Type 0
StartsAreAlike = (k j : Content) (n m : NetNote) → view_in j ≡ view_in k → IsStart k n → IsStart j m → AreAlike (view_in k) n m

abbrev pub AlikeAreEnabled : Type 0
AlikeAreEnabled = (k : View) (n m : NetNote) (s : Step) → AreAlike k n m → is_enabled n s ≡ is_enabled m s

abbrev pub AlikeAreFinal : Type 0
AlikeAreFinal = (k : View) (n m : NetNote) → AreAlike k n m → IsFinal n → IsFinal m

abbrev pub StepsKeepAlike : Type 0
StepsKeepAlike = (k : View) (s : Step) (n n' m m' : NetNote) → AreAlike k n m → Makes s n n' → Makes s m m' → AreAlike k n' m'
