-- What a run in rounds has written, by the lines of its sources' files (`docs/MODEL.md`, "Rounds").
use Rattle.std.specs.Prelude.{◌≡◌, ℕ, Option, Some, None, List, [], slice_get}
use Rattle.std.specs.Option.{option_map_or}
use Rattle.flu_model.specs.Erasure.{job_of}
use Rattle.flu_lemmas.specs.Elements.{AtEach}
use Rattle.flu_model.specs.declared.events.Item.{Item}
use Rattle.flu_model.specs.declared.jobs.Source.{Source}
use Rattle.flu_model.specs.declared.jobs.Program.{Program}
use Rattle.flu_model.specs.Moments.{timing_of}
use Rattle.flu_model.specs.Contents.{Contents, nothing_held}
use Rattle.flu_model.specs.Folding.{final_outputs}
use Rattle.flu_model.specs.Reports.{report}
use Rattle.flu_outside.specs.Outside.{Contents as Files}
use Rattle.flu_rows.specs.declared.rows.Next.{Next}
use Rattle.flu_rows.specs.Row.{form_of}
use Rattle.flu_streams.specs.declared.border.Border.{Border}
use Rattle.flu_streams.specs.declared.border.Border.TheVariants.{At}
use Rattle.flu_streams.specs.Borders.{beyond}
use Rattle.flu_streams.specs.Good.{lines_in as lines_of_source}
use Rattle.flu_streams.specs.Rounds.{ComesFrom, IsRound, defect_in, lists_between}

-- ---- lines and texts
-- the items above a border, if there is one
abbrev pub lists_above : Program → Option ℕ → List (List Item) → List (List Item)
lists_above p None lists = lists
lists_above p (Some t) lists = beyond p t lists

-- the lines of each source, by its number: those of its file; a clock has none
abbrev pub lines_in : Program → Files → ℕ → List Next
lines_in p left i = option_map_or (lines_of_source (form_of (job_of p)) left) (slice_get p.sources i) []

-- the report of the fold, from a state, of the rows above a border, if there is one, and up to an end among these lines
abbrev pub text_from : Program → Option ℕ → Contents → Border → (ℕ → List Next) → List ℕ
text_from p border opening end lines = report p (final_outputs p opening (lists_between p border end lines))

-- the same up to another border, if there is one
abbrev pub text_up_from : Program → Option ℕ → Contents → Option ℕ → (ℕ → List Next) → List ℕ
text_up_from p border opening None lines = []
text_up_from p border opening (Some t) lines = text_from p border opening (At t) lines

-- from the first row on, and from the empty state
abbrev pub text_until : Program → Border → (ℕ → List Next) → List ℕ
text_until p end lines = text_from p None nothing_held end lines

abbrev pub text_up_to : Program → Option ℕ → (ℕ → List Next) → List ℕ
text_up_to p above lines = text_up_from p None nothing_held above lines

-- THE RUN OF THESE LINES above a border and from a state COMES TO ANOTHER BORDER, by rounds one after another, and this has been written
-- by then
pub record RanFrom (p : Program) (rows : ℕ) (border : Option ℕ) (opening : Contents) (whole : ℕ → List Next) (above : Option ℕ)
    (written : List ℕ) : Type 0 where
  pub done : List (List (List Item))
  pub before : ℕ → List Next
  pub comes : ComesFrom p rows whole border done above before
  pub text : written ≡ text_up_from p border opening above before

abbrev pub RanTo : Program → ℕ → (ℕ → List Next) → Option ℕ → List ℕ → Type 0
RanTo p rows whole above written = RanFrom p rows None nothing_held whole above written

-- ONE MORE ROUND of the lines, after which this is written
pub record WouldWriteFrom (p : Program) (rows : ℕ) (border : Option ℕ) (opening : Contents) (whole : ℕ → List Next) (above : Option ℕ)
    (before now : ℕ → List Next) (end : Border) (written : List ℕ) : Type 0 where
  pub round : IsRound p rows above whole before now end
  pub text : written ≡ text_from p border opening end now

abbrev pub WouldWrite : Program → ℕ → (ℕ → List Next) → Option ℕ → (ℕ → List Next) → (ℕ → List Next) → Border → List ℕ → Type 0
WouldWrite p rows whole above before now end written = WouldWriteFrom p rows None nothing_held whole above before now end written

-- NO DEFECT in these lines of each source
abbrev pub AreSound : Program → (ℕ → List Next) → Type 0
AreSound p whole = AtEach (λ i s. defect_in (timing_of p i) p.kinds s (whole i) ≡ None) p.sources
