-- Which nodes of a plan may be apart, and why another may not.
use Rattle.std.specs.Prelude.{◌≡◌, ℕ, ◌<◌, true, false, ◌&&◌, ◌||◌, List, Option, Some, None, option_map, position}
use Rattle.std.specs.List.{range_with_len}
use Rattle.std.specs.Ordering.{ordering_then, is_lt}
use Rattle.std.specs.declared.cmp.Ordering.{Ordering}
use Rattle.flu_model.specs.declared.events.Cell.{Cell}
use Rattle.flu_model.specs.declared.events.Tag.{Tag}
use Rattle.flu_model.specs.declared.jobs.Program.{Program}
use Rattle.flu_model.specs.declared.plans.Node.{Node}
use Rattle.flu_model.specs.Itags.{count_of_itags, source_of_itag}
use Rattle.flu_model.specs.Modes.{mode_of, uses}
use Rattle.flu_model.specs.Order.{cell_cmp, tag_cmp}
use Rattle.flu_apart.specs.declared.reason.Reason.{Reason}
use Rattle.flu_apart.specs.declared.reason.Reason.TheVariants.{Clock, Shared}
use Rattle.flu_apart.specs.Classes.{itag, tag_at, mode_at, has_ticks, inside, is_contributed, is_kept}

-- the subtree shares no cell: each cell that a tag of it uses is one that it contributes to, or one that it keeps
abbrev pub SharesNone : Program → List Node → ℕ → Type 0
SharesNone p nodes w =
    (i : ℕ) (c : Cell) → i < count_of_itags p → inside p nodes w i ≡ true → uses (mode_at p i c) ≡ true
    → (is_contributed p nodes w c || is_kept p nodes w c) ≡ true

-- the subtree has no itag of a clock: where its ticks end depends on rows that the node does not read
abbrev pub HasNoTicks : Program → List Node → ℕ → Type 0
HasNoTicks p nodes w = (i : ℕ) → i < count_of_itags p → inside p nodes w i ≡ true → has_ticks p i ≡ false

-- A NODE MAY BE APART: its subtree has no itag of a clock, and shares no cell
pub record MayBeApart (p : Program) (nodes : List Node) (w : ℕ) : Type 0 where
  pub no_clock : HasNoTicks p nodes w
  pub shares_none : SharesNone p nodes w

-- A SHARED USE: a tag of the subtree uses a cell that the subtree neither contributes to nor keeps
pub record IsSharedUse (p : Program) (nodes : List Node) (w : ℕ) (t : Tag) (c : Cell) : Type 0 where
  pub itag : ℕ
  pub in_range : itag < count_of_itags p
  pub of_subtree : inside p nodes w itag ≡ true
  pub tag : tag_at p itag ≡ t
  pub used : uses (mode_of p t c) ≡ true
  pub not_contributed : is_contributed p nodes w c ≡ false
  pub not_kept : is_kept p nodes w c ≡ false

-- the order of shared uses: by the tag, then the cell
abbrev pub use_cmp : Tag → Cell → Tag → Cell → Ordering
use_cmp t c u d = ordering_then (tag_cmp t u) (cell_cmp c d)

-- the first of them: a shared use, and none is before it
pub record IsFirstUse (p : Program) (nodes : List Node) (w : ℕ) (t : Tag) (c : Cell) : Type 0 where
  pub shared : IsSharedUse p nodes w t c
  pub first : (u : Tag) (d : Cell) → IsSharedUse p nodes w u d → is_lt (use_cmp u d t c) ≡ false

-- the number of the first clock, as declared, whose itag the subtree has: itags are in the order of their sources
abbrev pub first_clock : Program → List Node → ℕ → Option ℕ
first_clock p nodes w =
    option_map (λ i. source_of_itag p (itag i)) (position (λ i. inside p nodes w i && has_ticks p i) (range_with_len 0 (count_of_itags p)))

-- THE FIRST REASON why a node may not be apart: the first clock whose itag the subtree has; else the first shared use
abbrev pub IsFirstReason : Program → List Node → ℕ → Reason → Type 0
IsFirstReason p nodes w (Clock number) = first_clock p nodes w ≡ Some number
IsFirstReason p nodes w (Shared shared) = (first_clock p nodes w ≡ None) × IsFirstUse p nodes w shared.tag shared.cell
