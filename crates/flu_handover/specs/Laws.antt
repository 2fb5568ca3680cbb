-- Laws of what is handed over by lines.
use Rattle.std.specs.Prelude.{◌≡◌, ℕ, ◌<◌, ◌^◌, Option, List, map}
use Rattle.std.specs.List.{AllByRecursion}
use Rattle.flu_model.specs.declared.events.Out.{Out}
use Rattle.flu_model.specs.declared.jobs.Program.{Program}
use Rattle.flu_model.specs.Reports.{report, line_of as line_of_report}
use Rattle.flu_contribution.specs.Contributions.{Contribution}
use Rattle.flu_contribution.specs.Combining.{Combined, with_contribution}
use Rattle.flu_partial.specs.Partial.{IsTime, IsPlace, IsContribution}
use Rattle.flu_handover.specs.Handing.{line_of, place_of, IsSendable, AreAlike}

-- LAW OF REPORTS: outputs of the same lines have one report
abbrev pub AlikeOutputsHaveOneReport : Type 0
AlikeOutputsHaveOneReport =
    (p : Program) (xs ys : List Out) → map (line_of_report p) xs ≡ map (line_of_report p) ys → report p xs ≡ report p ys

-- combined folds that are the same for a report: they have the same cells, and their outputs so far have the same lines
pub record AreCombinedAlike (p : Program) (r s : Combined) : Type 0 where
  pub cells : r.cells ≡ s.cells
  pub outputs : map (line_of_report p) r.outputs ≡ map (line_of_report p) s.outputs

-- LAW OF JOINING: contributions that are alike, joined to such folds, leave such folds
abbrev pub AlikeContributionsJoinAlike : Type 0
AlikeContributionsJoinAlike =
    (p : Program) (r s : Combined) (j k : Contribution) → AreCombinedAlike p r s → AreAlike p j k
    → AreCombinedAlike p (with_contribution r j) (with_contribution s k)

-- LAW OF LINES: what can be handed over is determined by its line, as far as a report goes
abbrev pub LinesDetermine : Type 0
LinesDetermine =
    (p : Program) (last last' : Option ℕ) (j k : Contribution) → IsSendable p j → IsSendable p k → line_of p last j ≡ line_of p last' k
    → AreAlike p j k

-- its times and numbers are in the range of a line
pub record IsInRange (last : Option ℕ) (k : Contribution) : Type 0 where
  pub times : AllByRecursion (λ (o : Out). IsTime o.time) k.outputs
  pub place : IsPlace (place_of k.before last)
  pub count : k.count < 2 ^ 64

-- LAW OF TEXTS: what can be handed over, with times and numbers in range, is a contribution that has a line
abbrev pub SendableHaveLines : Type 0
SendableHaveLines = (p : Program) (last : Option ℕ) (k : Contribution) → IsSendable p k → IsInRange last k → IsContribution (line_of p last k)
