-- A WALK through the laws: four events at a plan of three nodes, from the opening through two forks and a join, with the counts of each row; and what the left
-- part gives up on the way.
use Rattle.std.specs.Prelude.{◌≡◌, ℕ, pos, true, false, Some, None, List, [], ◌∷◌}
use Rattle.flu_model.specs.declared.events.Cell.{Cell}
use Rattle.flu_model.specs.declared.events.Worth.TheVariants.{Sum}
use Rattle.flu_model.specs.declared.jobs.Program.{Program}
use Rattle.flu_model.specs.Contents.{Contents}
use Rattle.flu_model.specs.Itags.{count_of_itags}
use Rattle.flu_model.specs.Owners.{owner_of}
use Rattle.flu_model.specs.Updates.{effect_of}
use Rattle.flu_deps.specs.Dependencies.{itags_depend}
use Rattle.flu_deps.specs.Owned.{kids_at}
use Rattle.flu_laws.specs.Changes.{Put, Gain}
use Rattle.flu_laws.specs.Spans.{Moment, change_at}
use Rattle.flu_laws.specs.Uses.{needs}
use Rattle.flu_fork.specs.declared.content.Content.{Content}
use Rattle.flu_fork.specs.declared.lots.Ask.{Ask}
use Rattle.flu_fork.specs.declared.lots.Lot.{Lot}
use Rattle.flu_fork.specs.Settings.{Setting, IsSetting, moments}
use Rattle.flu_fork.specs.Classes.{itag, mode_by}
use Rattle.flu_fork.specs.Fitting.{Fits}
use Rattle.flu_fork.specs.Lots.{setting_of, LotFits}
use Rattle.flu_fork.specs.Parts.{left_part, right_part, joined_state}
use Rattle.flu_fork.specs.Serving.{none_counted, Served}

-- the moment is that of the event with index n of itag i
pub record IsMomentOf (i n : ℕ) (m : Moment) : Type 0 where
  pub itag_is : m.event.itag ≡ itag i
  pub index_is : m.index ≡ n

-- the root owns itag 2 and has two children, of which the left one owns itag 0 and the right one itag 1; the events are one each of the itags 0, 1 and 2, and
-- then a second one of itag 0
pub record IsWalk (k : Setting) (one two three four : Moment) : Type 0 where
  pub itags : count_of_itags k.program ≡ 3
  pub kids : kids_at k.nodes 0 ≡ Some (1, 2)
  pub left : owner_of k.program k.nodes (itag 0) ≡ Some 1
  pub right : owner_of k.program k.nodes (itag 1) ≡ Some 2
  pub root : owner_of k.program k.nodes (itag 2) ≡ Some 0
  pub all : moments k ≡ one ∷ two ∷ three ∷ four ∷ []
  pub first : IsMomentOf 0 0 one
  pub second : IsMomentOf 1 0 two
  pub third : IsMomentOf 2 0 three
  pub fourth : IsMomentOf 0 1 four

-- counts of the three itags
abbrev pub counts : ℕ → ℕ → ℕ → List ℕ
counts a b c = a ∷ b ∷ c ∷ []

abbrev pub none : List ℕ
none = counts 0 0 0

-- ---- the states of the rows
abbrev pub updated : Program → Contents → Moment → Contents
updated p s m = (effect_of p s m.event).cells

abbrev pub to_left : Setting → Contents → Contents
to_left k s = left_part k.program k.nodes 2 s

abbrev pub to_right : Setting → Contents → Contents
to_right k s = right_part k.program k.nodes 2 s

-- at the left child and at the right one after the first fork and an event of each
abbrev pub at_left : Setting → Moment → Contents
at_left k one = updated k.program (to_left k k.opening) one

abbrev pub at_right : Setting → Moment → Contents
at_right k two = updated k.program (to_right k k.opening) two

-- at the root after the join, and after the event of itag 2
abbrev pub at_root : Setting → Moment → Moment → Contents
at_root k one two = joined_state k.program k.nodes 2 (at_left k one) (at_right k two)

abbrev pub after_root : Setting → Moment → Moment → Moment → Contents
after_root k one two three = updated k.program (at_root k one two) three

-- EACH ROW FITS, with its counts, and the texts of the event of itag 2 are those of the fold
pub record RowsFit (k : Setting) (one two three four : Moment) : Type 0 where
  pub opening : Fits k 0 k.opening none none
  pub fork_left : Fits k 1 (to_left k k.opening) none none
  pub fork_right : Fits k 2 (to_right k k.opening) none none
  pub update_left : Fits k 1 (at_left k one) none (counts 1 0 0)
  pub update_right : Fits k 2 (at_right k two) none (counts 0 1 0)
  pub join : Fits k 0 (at_root k one two) none (counts 1 1 0)
  pub update_root : Fits k 0 (after_root k one two three) none (counts 1 1 1)
  pub texts : (effect_of k.program (at_root k one two) three.event).texts ≡ (effect_of k.program three.before three.event).texts
  pub fork_left_again : Fits k 1 (to_left k (after_root k one two three)) none (counts 1 1 1)
  pub fork_right_again : Fits k 2 (to_right k (after_root k one two three)) (counts 1 1 1) (counts 1 1 1)
  pub update_left_again : Fits k 1 (updated k.program (to_left k (after_root k one two three)) four) none (counts 2 1 1)

abbrev pub WalksFit : Type 0
WalksFit = (k : Setting) (one two three four : Moment) → IsSetting k → IsWalk k one two three four → RowsFit k one two three four

-- ---- what a count holds in the rows

-- a cell that is neutral at the start, to which the events of itags 0 and 1 add 5, 7 and then 2 without need of what it holds, and which the event of itag 2
-- makes neutral
pub record IsCount (k : Setting) (one two three four : Moment) (c : Cell) : Type 0 where
  pub opening : k.opening c ≡ None
  pub first : change_at k.program c one ≡ Gain (pos 5)
  pub second : change_at k.program c two ≡ Gain (pos 7)
  pub third : change_at k.program c three ≡ Put None
  pub fourth : change_at k.program c four ≡ Gain (pos 2)
  pub left_adds : needs (mode_by k.program 0 c) ≡ false
  pub right_adds : needs (mode_by k.program 1 c) ≡ false

-- the left part and the right one hold an amount each, the root the sum of both, and the left one the last amount after the root made the cell neutral
pub record CountsHold (k : Setting) (one two three four : Moment) (c : Cell) : Type 0 where
  pub left : at_left k one c ≡ Some (Sum (pos 5))
  pub right : at_right k two c ≡ Some (Sum (pos 7))
  pub join : at_root k one two c ≡ Some (Sum (pos 12))
  pub root : after_root k one two three c ≡ None
  pub left_again : updated k.program (to_left k (after_root k one two three)) four c ≡ Some (Sum (pos 2))

abbrev pub WalksCount : Type 0
WalksCount =
    (k : Setting) (one two three four : Moment) (c : Cell) → IsSetting k → IsWalk k one two three four → IsCount k one two three four c
    → CountsHold k one two three four c

-- ---- what the left part gives up for the event of itag 2, its first

abbrev pub root_event : Ask
root_event = record { itag = itag 2; index = 0 }

-- the left part with one event of itag 0 is served for it
abbrev pub LeftIsServed : Type 0
LeftIsServed =
    (k : Content) (one two three four : Moment) (lot : Lot) → IsWalk (setting_of k) one two three four
    → LotFits k 1 lot → lot.since ≡ none → lot.upto ≡ counts 1 0 0 → Served k 1 (none_counted k) root_event lot

-- where itag 2 depends on itag 0, a lot with no event of itag 0 is not, since it comes too early, and one with both is not, since it comes too late
abbrev pub OthersAreNotServed : Type 0
OthersAreNotServed =
    (k : Content) (one two three four : Moment) (lot : Lot) (n : ℕ) → IsWalk (setting_of k) one two three four
    → itags_depend (setting_of k).program (itag 2) (itag 0) ≡ true → lot.upto ≡ counts n 0 0 → Served k 1 (none_counted k) root_event lot → n ≡ 1
