-- What contracts see of the two ends of a link, and how each call changes it.
use Rattle.std.specs.Prelude.{ℕ, ◌+◌, Bool, true, false, List, Option, Some, None}
use Rattle.atomic_table.specs.Seated.{TableId}
use Rattle.flu_fork.specs.declared.content.Content.{Content}
use Rattle.flu_fork.specs.declared.lots.Lot.{Lot}
use Rattle.flu_fork.specs.declared.lots.Ask.{Ask}
use Rattle.flu_fork.specs.Laws.{no_counts}
use Rattle.flu_fork.specs.Lots.{job}
use Rattle.flu_fork.specs.Serving.{LotCounts, counts_of, none_counted}

-- THE PHASES, in the order in which they follow one another; after the last the first comes
abbrev pub phase_lent : ℕ
phase_lent = 0

abbrev pub phase_held : ℕ
phase_held = 1

abbrev pub phase_asked : ℕ
phase_asked = 2

abbrev pub phase_given : ℕ
phase_given = 3

-- the end of the worker above
pub record UpperNote : Type 0 where
  -- which link it is
  pub link : TableId
  -- the content of the case, and the lower node
  pub case : Content
  pub lower : ℕ
  -- the phase that was found or stored last
  pub phase : ℕ
  -- the counts of the lot lent last, and the upto of the one taken last
  pub lent : LotCounts
  pub received : List ℕ
  -- the event asked for last, and whether there is no ask whose lot is not yet taken
  pub ask : Ask
  pub taken : Bool
  -- how many looks at the phase it took
  pub looks : ℕ
  -- whether it stopped; its looks at the stop word, and the number found last
  pub stopped : Bool
  pub stop_looks : ℕ
  pub stop_found : ℕ

-- the end of the worker below
pub record LowerNote : Type 0 where
  pub link : TableId
  pub case : Content
  pub lower : ℕ
  pub phase : ℕ
  -- the counts of the lot held last, and the upto of the one given last
  pub held : LotCounts
  pub given : List ℕ
  -- the ask that was read since this end stored a phase
  pub ask : Option Ask
  pub looks : ℕ
  pub stopped : Bool
  pub stop_looks : ℕ
  pub stop_found : ℕ

-- ---- a new link: nothing was lent, asked for or given

abbrev pub upper_start : TableId → Content → ℕ → UpperNote
upper_start link k v = record {
  link = link;
  case = k;
  lower = v;
  phase = phase_given;
  lent = none_counted k;
  received = no_counts (job k);
  ask = record { itag = record { 0 = 0 }; index = 0 };
  taken = true;
  looks = 0;
  stopped = false;
  stop_looks = 0;
  stop_found = 0;
}

abbrev pub lower_start : TableId → Content → ℕ → LowerNote
lower_start link k v = record {
  link = link;
  case = k;
  lower = v;
  phase = phase_given;
  held = none_counted k;
  given = no_counts (job k);
  ask = None;
  looks = 0;
  stopped = false;
  stop_looks = 0;
  stop_found = 0;
}

-- ---- the upper end, after one more look, which found this phase; and after each call that did what it is for

abbrev pub found_below : UpperNote → ℕ → UpperNote
found_below u phase = record u { phase = phase; looks = u.looks + 1 }

abbrev pub after_ask : UpperNote → Ask → UpperNote
after_ask u a = record u { phase = phase_asked; looks = u.looks + 1; ask = a; taken = false }

abbrev pub after_take : UpperNote → Lot → UpperNote
after_take u lot = record u { phase = phase_given; looks = u.looks + 1; taken = true; received = lot.upto }

abbrev pub after_lend : UpperNote → Lot → UpperNote
after_lend u lot = record u { phase = phase_lent; looks = u.looks + 1; lent = counts_of lot }

-- ---- the lower end

abbrev pub found_above : LowerNote → ℕ → LowerNote
found_above l phase = record l { phase = phase; looks = l.looks + 1 }

abbrev pub after_hold : LowerNote → Lot → LowerNote
after_hold l lot = record l { phase = phase_held; looks = l.looks + 1; held = counts_of lot; ask = None }

abbrev pub after_asked : LowerNote → Ask → LowerNote
after_asked l y = record l { phase = phase_asked; looks = l.looks + 1; ask = Some y }

abbrev pub after_give : LowerNote → Lot → LowerNote
after_give l lot = record l { phase = phase_given; looks = l.looks + 1; given = lot.upto; ask = None }
