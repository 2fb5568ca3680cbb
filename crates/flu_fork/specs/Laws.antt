-- What holds of every lot that fits.
use Rattle.std.specs.Prelude.{◌≡◌, ◌<◌, ℕ, true, false, ◌||◌, Some, List, ◌∷◌, ◌++◌, length, map}
use Rattle.std.specs.List.{range_with_len}
use Rattle.flu_model.specs.declared.events.Cell.{Cell}
use Rattle.flu_model.specs.declared.jobs.Program.{Program}
use Rattle.flu_model.specs.Contents.{Contents}
use Rattle.flu_model.specs.Itags.{count_of_itags}
use Rattle.flu_model.specs.Owners.{owner_of}
use Rattle.flu_model.specs.Sorts.{IsStateOf}
use Rattle.flu_model.specs.Updates.{effect_of}
use Rattle.flu_deps.specs.Owned.{kids_at}
use Rattle.flu_laws.specs.Uses.{needs, writes}
use Rattle.flu_laws.specs.Spans.{Moment}
use Rattle.flu_laws.specs.Lots.{IsExact, CountsOneMore}
use Rattle.flu_fork.specs.Settings.{Setting, IsSetting, moments}
use Rattle.flu_fork.specs.Classes.{Itags, below, mode_by, is_base, is_away, is_copied}
use Rattle.flu_fork.specs.Fitting.{Fits}
use Rattle.flu_fork.specs.Parts.{left_part, right_part, joined_state, joined_counts, ArePaired}

-- ---- classes

-- in version 1 of the language an itag that needs a cell may write it too, so nothing is copied
abbrev pub NothingIsCopied : Type 0
NothingIsCopied = (p : Program) (set : Itags) (c : Cell) → p.version ≡ 1 → is_copied p set c ≡ false

-- a cell that an itag of a node's subtree needs is base there
abbrev pub NeededIsBase : Type 0
NeededIsBase =
    (k : Setting) (w i : ℕ) (c : Cell) → IsSetting k → w < length k.nodes → i < count_of_itags k.program
    → below k.program k.nodes w i ≡ true → needs (mode_by k.program i c) ≡ true → is_base k.program k.nodes w c ≡ true

-- no cell is both base and away
abbrev pub BaseIsNotAway : Type 0
BaseIsNotAway =
    (k : Setting) (w : ℕ) (c : Cell) → IsSetting k → w < length k.nodes
    → is_base k.program k.nodes w c ≡ true → is_away k.program k.nodes w c ≡ false

-- a cell that is copied at a node is not written by any itag of its children's subtrees
abbrev pub CopiesAreOnlyRead : Type 0
CopiesAreOnlyRead =
    (k : Setting) (w left right i : ℕ) (c : Cell) → IsSetting k → kids_at k.nodes w ≡ Some (left, right) → i < count_of_itags k.program
    → is_copied k.program (below k.program k.nodes right) c ≡ true
    → (below k.program k.nodes left i || below k.program k.nodes right i) ≡ true → writes (mode_by k.program i c) ≡ false

-- ---- lots

-- what fits holds values of the job's sorts
abbrev pub FittingHasSorts : Type 0
FittingHasSorts =
    (k : Setting) (w : ℕ) (s : Contents) (since upto : List ℕ)
    → IsSetting k → w < length k.nodes → Fits k w s since upto → IsStateOf k.program.families s

-- no event of any itag
abbrev pub no_counts : Program → List ℕ
no_counts p = map (λ i. 0) (range_with_len 0 (count_of_itags p))

-- the opening state, with no event counted, fits the root
abbrev pub OpeningFits : Type 0
OpeningFits = (k : Setting) → IsSetting k → Fits k 0 k.opening (no_counts k.program) (no_counts k.program)

-- the two parts of a lot that fits a node fit its children, and are paired
pub record PartsFit (k : Setting) (left right : ℕ) (s : Contents) (since upto : List ℕ) : Type 0 where
  pub left_fits : Fits k left (left_part k.program k.nodes right s) since upto
  pub right_fits : Fits k right (right_part k.program k.nodes right s) upto upto
  pub paired : ArePaired k.program k.nodes left right since upto upto upto

abbrev pub ForksFit : Type 0
ForksFit =
    (k : Setting) (w left right : ℕ) (s : Contents) (since upto : List ℕ)
    → IsSetting k → w < length k.nodes → kids_at k.nodes w ≡ Some (left, right) → Fits k w s since upto → PartsFit k left right s since upto

-- two lots that fit the children of a node and are paired come together to one that fits the node
abbrev pub JoinsFit : Type 0
JoinsFit =
    (k : Setting) (w left right : ℕ) (s t : Contents) (left_since left_upto right_since right_upto : List ℕ)
    → IsSetting k → w < length k.nodes → kids_at k.nodes w ≡ Some (left, right)
    → Fits k left s left_since left_upto → Fits k right t right_since right_upto
    → ArePaired k.program k.nodes left right left_since left_upto right_since right_upto
    → Fits k w (joined_state k.program k.nodes right s t) left_since (joined_counts k.program k.nodes right left_upto right_upto)

-- what is said of a lot at a node, updated with an event that is exact for its counts
pub record UpdatesWell (k : Setting) (w : ℕ) (m : Moment) (s : Contents) (since more : List ℕ) : Type 0 where
  pub fits : Fits k w (effect_of k.program s m.event).cells since more
  pub texts : (effect_of k.program s m.event).texts ≡ (effect_of k.program m.before m.event).texts

-- CENTRAL LAW: a lot that fits a node, updated with an event of this node that is exact for its counts, fits it again with this event counted, and the
-- texts are the fold's
abbrev pub CentralLaw : Type 0
CentralLaw =
    (k : Setting) (w : ℕ) (before after : List Moment) (m : Moment) (s : Contents) (since upto more : List ℕ)
    → IsSetting k → owner_of k.program k.nodes m.event.itag ≡ Some w
    → moments k ≡ before ++ m ∷ after → IsExact k.program before after m upto
    → length more ≡ count_of_itags k.program → CountsOneMore m.event.itag.0 upto more
    → Fits k w s since upto → UpdatesWell k w m s since more
