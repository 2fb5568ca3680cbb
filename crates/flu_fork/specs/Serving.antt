-- SERVED: what is said of lots and counts on their way between a node and its parent.
use Rattle.std.specs.Prelude.{◌≡◌, ℕ, ◌<◌, ◌≤◌, true, false, Some, None, List, ◌∷◌, ◌++◌, length, slice_index}
use Rattle.std.specs.List.{AllByRecursion}
use Rattle.flu_model.specs.declared.events.Event.{Event}
use Rattle.flu_model.specs.declared.jobs.Program.{Program}
use Rattle.flu_model.specs.Itags.{count_of_itags}
use Rattle.flu_laws.specs.Spans.{Moment, AreAtMost, is_below}
use Rattle.flu_laws.specs.Lots.{depends_on, IsExact}
use Rattle.flu_fork.specs.declared.content.Content.{Content}
use Rattle.flu_fork.specs.declared.lots.Lot.{Lot}
use Rattle.flu_fork.specs.declared.lots.Ask.{Ask}
use Rattle.flu_fork.specs.Classes.{Itags, own, below, above}
use Rattle.flu_fork.specs.Fitting.{IsPrefix}
use Rattle.flu_fork.specs.Laws.{no_counts}
use Rattle.flu_fork.specs.Lots.{job, nodes, kids, setting_of, LotFits, LotsPaired, HasJoinedCounts}
use Rattle.flu_fork.specs.Settings.{IsSetting, events_at, moments}
use Rattle.flu_fork.specs.Streams.{IsEventAt, IsClearOf}

-- the counts of a lot
pub record LotCounts : Type 0 where
  pub since : List ℕ
  pub upto : List ℕ

abbrev pub counts_of : Lot → LotCounts
counts_of lot = record { since = lot.since; upto = lot.upto }

-- those of the opening lot
abbrev pub none_counted : Content → LotCounts
none_counted k = record { since = no_counts (job k); upto = no_counts (job k) }

-- AN ASK from above: it names an event of an itag that a proper ancestor of the node owns
pub record AsksAbove (k : Content) (v : ℕ) (y : Ask) : Type 0 where
  pub known : y.itag.0 < count_of_itags (job k)
  pub above : above (job k) (nodes k) v y.itag.0 ≡ true
  pub there : y.index < length (events_at (setting_of k) y.itag.0)

-- GROWN: counts that go down to a node are, inside its subtree, those that came up last, and outside at least these
pub record GrownFrom (k : Content) (v : ℕ) (base upto : List ℕ) : Type 0 where
  pub inside : (i : ℕ) → below (job k) (nodes k) v i ≡ true → slice_index upto i ≡ slice_index base i
  pub outside : (i : ℕ) → slice_index base i ≤ slice_index upto i

-- ON LOAN: the lot has these counts, as it was lent to the node, or has more events of the node's subtree, as it came back
pub record IsOnLoan (k : Content) (v : ℕ) (lent : LotCounts) (lot : Lot) : Type 0 where
  pub since : lot.since ≡ lent.since
  pub outside : (i : ℕ) → below (job k) (nodes k) v i ≡ false → slice_index lot.upto i ≡ slice_index lent.upto i
  pub inside : (i : ℕ) → below (job k) (nodes k) v i ≡ true → slice_index lent.upto i ≤ slice_index lot.upto i

-- of the events of the set's itags on which m's tag depends, those before m are below the counts
abbrev pub CountsBefore : Program → Itags → List ℕ → List Moment → Moment → Type 0
CountsBefore p set upto before m = AllByRecursion (λ q. set q.event.itag.0 ≡ true → depends_on p m q ≡ true → is_below upto q ≡ true) before

-- and those after it are not
abbrev pub CountsNoneBehind : Program → Itags → List ℕ → List Moment → Moment → Type 0
CountsNoneBehind p set upto after m = AllByRecursion (λ q. set q.event.itag.0 ≡ true → depends_on p m q ≡ true → is_below upto q ≡ false) after

-- of the events of a set of itags on which the event that y names depends, just those before it are below the counts
abbrev pub CountsJustBefore : Content → Itags → Ask → List ℕ → Type 0
CountsJustBefore k set y upto =
    (before after : List Moment) (m : Moment) → moments (setting_of k) ≡ before ++ m ∷ after → m.event.itag ≡ y.itag → m.index ≡ y.index
    → CountsBefore (job k) set upto before m × CountsNoneBehind (job k) set upto after m

-- SERVED: the lot comes back from the loan to a node, with all events of the subtree that are before the one that y names and on which it depends, and with
-- none of those after it
pub record Served (k : Content) (v : ℕ) (lent : LotCounts) (y : Ask) (lot : Lot) : Type 0 where
  pub loan : IsOnLoan k v lent lot
  pub exact : CountsJustBefore k (below (job k) (nodes k) v) y lot.upto

-- ---- the laws

-- a lot is on the loan that it was lent with
abbrev pub LentIsOnLoan : Type 0
LentIsOnLoan = (k : Content) (v : ℕ) (lot : Lot) → IsOnLoan k v (counts_of lot) lot

-- PAIRED: the parts of one fork, each on its loan, are paired, whatever the other one does
abbrev pub LoansArePaired : Type 0
LoansArePaired =
    (k : Content) (l r : ℕ) (since fork : List ℕ) (left right : Lot) → AreAtMost since fork
    → IsOnLoan k l (record { since = since; upto = fork }) left → IsOnLoan k r (record { since = fork; upto = fork }) right → LotsPaired k l r left right

-- the loans of a node and of its children: what the parts begin with agrees, outside the node's subtree, with the node's own loan
pub record IsForkedFrom (k : Content) (w : ℕ) (lent : LotCounts) (fork : List ℕ) : Type 0 where
  pub outside : (i : ℕ) → below (job k) (nodes k) w i ≡ false → slice_index fork i ≡ slice_index lent.upto i
  pub inside : (i : ℕ) → below (job k) (nodes k) w i ≡ true → slice_index lent.upto i ≤ slice_index fork i
  pub first : AreAtMost lent.since fork

-- a lot has a count for each itag of the job, and no other
abbrev pub CountsEach : Content → Lot → Type 0
CountsEach k lot = length lot.upto ≡ count_of_itags (job k)

-- THE JOIN SERVES: two parts that were served for y join to a lot that is served for y by the node's own loan, where the node's own itags are exact for y
abbrev pub JoinsServe : Type 0
JoinsServe =
    (k : Content) (w l r : ℕ) (lent : LotCounts) (fork : List ℕ) (y : Ask) (left right lot : Lot)
    → kids k w ≡ Some (l, r) → CountsEach k left → IsForkedFrom k w lent fork
    → Served k l (record { since = lent.since; upto = fork }) y left → Served k r (record { since = fork; upto = fork }) y right
    → HasJoinedCounts k w left right lot → CountsJustBefore k (own (job k) (nodes k) w) y lot.upto
    → Served k w lent y lot

-- THE NEXT PARTS begin, in each child's subtree, where the taken ones ended
pub record GrowsFromBoth (k : Content) (l r : ℕ) (left right lot : Lot) : Type 0 where
  pub at_left : GrownFrom k l left.upto lot.upto
  pub at_right : GrownFrom k r right.upto lot.upto

abbrev pub JoinsGrow : Type 0
JoinsGrow =
    (k : Content) (w l r : ℕ) (since fork : List ℕ) (left right lot : Lot) → kids k w ≡ Some (l, r) → CountsEach k left → CountsEach k right
    → IsOnLoan k l (record { since = since; upto = fork }) left → IsOnLoan k r (record { since = fork; upto = fork }) right
    → HasJoinedCounts k w left right lot → GrowsFromBoth k l r left right lot

-- CLEAR: where the counts are a prefix, and the event that y names comes next by them and is before each event of the set that is not counted and on which it
-- depends, just the events before it are counted
abbrev pub ClearIsJustBefore : Type 0
ClearIsJustBefore =
    (k : Content) (set : Itags) (y : Ask) (x : Event) (upto : List ℕ)
    → IsPrefix (job k) (moments (setting_of k)) upto → slice_index upto y.itag.0 ≡ y.index → IsEventAt (setting_of k) y.itag.0 y.index x
    → IsClearOf (setting_of k) set upto x → CountsJustBefore k set y upto

-- what is just before y for the whole of a subtree is so for a node's own itags and for those of its children's subtrees, and back
abbrev pub JustBeforeAtLeaf : Type 0
JustBeforeAtLeaf =
    (k : Content) (w : ℕ) (y : Ask) (upto : List ℕ) → kids k w ≡ None → w < length (nodes k)
    → CountsJustBefore k (own (job k) (nodes k) w) y upto → CountsJustBefore k (below (job k) (nodes k) w) y upto

abbrev pub JustBeforeAtInner : Type 0
JustBeforeAtInner =
    (k : Content) (w l r : ℕ) (y : Ask) (upto : List ℕ) → kids k w ≡ Some (l, r) → w < length (nodes k)
    → CountsJustBefore k (own (job k) (nodes k) w) y upto → CountsJustBefore k (below (job k) (nodes k) l) y upto
    → CountsJustBefore k (below (job k) (nodes k) r) y upto → CountsJustBefore k (below (job k) (nodes k) w) y upto

-- EXACT: counts for which just the events before a node's own event are counted, of the itags of its subtree and of those above it, are exact for it, since it
-- depends on no other
abbrev pub JustBeforeIsExact : Type 0
JustBeforeIsExact =
    (k : Content) (w : ℕ) (y : Ask) (upto : List ℕ) (before after : List Moment) (m : Moment)
    → below (job k) (nodes k) w y.itag.0 ≡ true → slice_index upto y.itag.0 ≡ y.index
    → CountsJustBefore k (below (job k) (nodes k) w) y upto → CountsJustBefore k (above (job k) (nodes k) w) y upto
    → moments (setting_of k) ≡ before ++ m ∷ after → m.event.itag ≡ y.itag → m.index ≡ y.index → IsExact (job k) before after m upto

-- A LEAF SERVES: what a leaf's own itags are clear for, it is served for
abbrev pub LeavesServe : Type 0
LeavesServe =
    (k : Content) (w : ℕ) (lent : LotCounts) (y : Ask) (x : Event) (lot : Lot)
    → kids k w ≡ None → w < length (nodes k) → LotFits k w lot → IsOnLoan k w lent lot
    → slice_index lot.upto y.itag.0 ≡ y.index → IsEventAt (setting_of k) y.itag.0 y.index x → IsClearOf (setting_of k) (own (job k) (nodes k) w) lot.upto x
    → Served k w lent y lot

-- a content is a setting, so each law of settings holds of it
abbrev pub ContentsAreSettings : Type 0
ContentsAreSettings = (k : Content) → IsSetting (setting_of k)
