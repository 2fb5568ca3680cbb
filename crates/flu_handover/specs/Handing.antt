-- WHAT A NODE APART HANDS OVER, as a contribution of a line, and which such contributions are alike for a report.
use Rattle.std.specs.Prelude.{◌≡◌, ℕ, ◌<◌, Option, Some, None, List, map}
use Rattle.std.specs.List.{AllByRecursion}
use Rattle.flu_model.specs.declared.events.Event.{Event}
use Rattle.flu_model.specs.declared.events.Itag.{Itag}
use Rattle.flu_model.specs.declared.events.Out.{Out}
use Rattle.flu_model.specs.declared.events.Tag.{Tag}
use Rattle.flu_model.specs.declared.jobs.Family.{Family}
use Rattle.flu_model.specs.declared.jobs.Program.{Program}
use Rattle.flu_model.specs.Contents.{Contents}
use Rattle.flu_model.specs.Itags.{count_of_itags, tag_of_itag}
use Rattle.flu_model.specs.Reports.{text_of_tag, line_of as line_of_report}
use Rattle.flu_contribution.specs.declared.contributing.Handed.{Handed}
use Rattle.flu_contribution.specs.Contributions.{Contribution}
use Rattle.flu_contribution.specs.Parts.{contribution_of}
use Rattle.flu_partial.specs.declared.values.Amount.{Amount}
use Rattle.flu_partial.specs.declared.values.Contribution as partial
use Rattle.flu_partial.specs.declared.values.Emitted.{Emitted}
use Rattle.flu_partial.specs.declared.values.Place.{Place}
use Rattle.flu_partial.specs.declared.values.Place.TheVariants.{Before, End}
use Rattle.flu_save.specs.Checkpoint.{number_held, cells_held, IsSavable}

-- the amounts of a state: its cells that are not neutral, by rising family and key, each with its number
abbrev pub amounts_of : List Family → Contents → List Amount
amounts_of families s = map (λ c. record { cell = c; value = number_held (s c) }) (cells_held families s)

-- an output with its tag's text
abbrev pub emitted_of : Program → Out → Emitted
emitted_of p o = record { time = o.time; tag = text_of_tag p o.tag; text = o.text }

-- where it is to be joined: before an event, or at the end, with the last time of the partial
abbrev pub place_of : Option Event → Option ℕ → Place
place_of None last = End last
place_of (Some y) last = Before y.time y.itag

-- THE LINE'S CONTRIBUTION of what was handed over; `last` stands in it if it is joined at the end
abbrev pub line_of : Program → Option ℕ → Contribution → partial.Contribution
line_of p last k =
    record { place = place_of k.before last; cells = amounts_of p.families k.cells; events = k.count; outs = map (emitted_of p) k.outputs }

-- a tag that the job's sources list: that of one of its itags
abbrev pub IsListed : Program → Tag → Type 0
IsListed p t = (i : Itag) × (i.0 < count_of_itags p) × (tag_of_itag p i ≡ t)

-- WHAT CAN BE HANDED OVER: a state that can be saved, and outputs of tags that the job's sources list
pub record IsSendable (p : Program) (k : Contribution) : Type 0 where
  pub cells : IsSavable p.families k.cells
  pub tags : AllByRecursion (λ (o : Out). IsListed p o.tag) k.outputs

-- ALIKE FOR A REPORT: they have the same cells, are of as many events and to be joined at the same place, and their outputs have the same lines
pub record AreAlike (p : Program) (j k : Contribution) : Type 0 where
  pub cells : j.cells ≡ k.cells
  pub count : j.count ≡ k.count
  pub place : (last : Option ℕ) → place_of j.before last ≡ place_of k.before last
  pub outputs : map (line_of_report p) j.outputs ≡ map (line_of_report p) k.outputs

-- it is said that something alike was handed over
abbrev pub IsAlikeTo : Program → Contribution → Option Handed → Type 0
IsAlikeTo p k None = ⊥
IsAlikeTo p k (Some h) = AreAlike p (contribution_of h) k

-- the line of something that can be handed over
abbrev pub IsLineOf : Program → partial.Contribution → Contribution → Type 0
IsLineOf p line k = IsSendable p k × ((last : Option ℕ) × (line ≡ line_of p last k))
