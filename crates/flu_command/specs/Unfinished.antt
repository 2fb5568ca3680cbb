-- A round that a read fault ends: what was read of the sources, in which no defect was met.
use Rattle.std.specs.Prelude.{◌≡◌, ◌<◌, ◌≤◌, ℕ, false, List, ◌++◌, length, take, slice_get, Option, Some, None}
use Rattle.flu_lemmas.specs.Elements.{AtEach}
use Rattle.flu_outside.specs.Outside.{Contents}
use Rattle.flu_model.specs.declared.events.Item.{Item}
use Rattle.flu_model.specs.declared.jobs.Program.{Program}
use Rattle.flu_model.specs.Moments.{timing_of}
use Rattle.flu_model.specs.Rules.{is_clock}
use Rattle.flu_model.specs.declared.jobs.Source.{Source}
use Rattle.flu_rows.specs.declared.rows.Next.{Next}
use Rattle.flu_rows.specs.Lines.{IsUndecided}
use Rattle.flu_model.specs.Erasure.{job_of}
use Rattle.flu_rows.specs.Row.{form_of}
use Rattle.flu_rows.specs.Reading.{Place, ahead}
use Rattle.flu_streams.specs.Rounds.{Turn, Reads, IsPassed, ComesFrom, defect_in, is_enough}
use Rattle.flu_command.specs.Openings.{Opening}

-- after some rounds of a number of rows that were run, the rows that were read of a source: none has a defect, they are not enough for the round, and
-- what else was taken decides nothing
pub record Unfinished (p : Program) (rows : ℕ) : Type 0 where
  pub done : List (List (List Item))
  pub border : Option ℕ
  pub before : ℕ → List Next
  pub now : ℕ → List Next
  pub at : ℕ
  pub source : Source
  pub is : slice_get p.sources at ≡ Some source
  pub has_file : is_clock source ≡ false
  pub more : List Next
  pub further : now at ≡ before at ++ more
  pub sound : defect_in (timing_of p at) p.kinds source (now at) ≡ None
  pub few : (k : ℕ) → k ≤ length more → is_enough (timing_of p at) rows border source (before at ++ take k more) ≡ false
  pub place : Place
  pub form : place.form ≡ form_of (job_of p)
  pub file : place.file ≡ source.file
  pub undecided : IsUndecided place.taken

-- this is so of sources with these lines, of which this is left: the rounds before were rounds of them, and the sources before this one
-- have what the round reads of them and meet no defect
pub record IsUnfinished (p : Program) (o : Opening) (u : Unfinished p o.rows) (lines : ℕ → List Next) (left : Contents) : Type 0 where
  pub rounds : ComesFrom p o.rows lines o.border u.done u.border u.before
  pub earlier : AtEach (λ i s. i < u.at
      → (turn : Turn) × Reads (timing_of p i) p.kinds s o.rows u.border (lines i) (u.before i) (u.now i) turn × IsPassed turn) p.sources
  pub was : lines u.at ≡ u.now u.at ++ ahead u.place left
