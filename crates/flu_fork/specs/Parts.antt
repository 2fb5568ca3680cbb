-- How a lot is parted between two children, and how two lots come together again.
use Rattle.std.specs.Prelude.{◌≡◌, ℕ, ◌≤◌, true, false, List, map, slice_index, if◌then◌else◌}
use Rattle.std.specs.List.{range_with_len}
use Rattle.flu_model.specs.declared.jobs.Program.{Program}
use Rattle.flu_model.specs.declared.plans.Node.{Node}
use Rattle.flu_model.specs.Contents.{Contents, join}
use Rattle.flu_model.specs.Itags.{count_of_itags}
use Rattle.flu_laws.specs.Consistency.{within, outside}
use Rattle.flu_laws.specs.Spans.{AreAtMost}
use Rattle.flu_fork.specs.Classes.{below, is_moved, is_copied, is_needed}

-- the cells that some itag of the right child's subtree needs go to that child: those that some itag there writes are moved, and the others are copied, so
-- that the left child has all but the moved ones
abbrev pub left_part : Program → List Node → ℕ → Contents → Contents
left_part p nodes right s = outside (is_moved p (below p nodes right)) s

abbrev pub right_part : Program → List Node → ℕ → Contents → Contents
right_part p nodes right s = within (is_needed p (below p nodes right)) s

-- the state of a joined lot: the copies in the right part are dropped, then the parts are joined
abbrev pub joined_state : Program → List Node → ℕ → Contents → Contents → Contents
joined_state p nodes right s t = join s (outside (is_copied p (below p nodes right)) t)

-- the counts of a joined lot: those of the right part where the right subtree owns the itag, and else those of the left part
abbrev pub joined_counts : Program → List Node → ℕ → List ℕ → List ℕ → List ℕ
joined_counts p nodes right lefts rights =
    map (λ i. if below p nodes right i then slice_index rights i else slice_index lefts i) (range_with_len 0 (count_of_itags p))

-- PAIRED: the counts of two lots of one fork, each as it was lent or as it came back
pub record ArePaired (p : Program) (nodes : List Node) (left right : ℕ) (left_since left_upto right_since right_upto : List ℕ) : Type 0 where
  pub left_first : AreAtMost left_since right_since
  pub left_outside : (i : ℕ) → below p nodes left i ≡ false → slice_index left_upto i ≡ slice_index right_since i
  pub left_inside : (i : ℕ) → below p nodes left i ≡ true → slice_index right_since i ≤ slice_index left_upto i
  pub right_outside : (i : ℕ) → below p nodes right i ≡ false → slice_index right_upto i ≡ slice_index right_since i
  pub right_inside : (i : ℕ) → below p nodes right i ≡ true → slice_index right_since i ≤ slice_index right_upto i
