-- What is alike for a report.
use Rattle.std.proofs.Common.{◌≡◌, ℕ, Option, Some, None, List, map, refl, sym, ap, ◌∙◌}
use Rattle.std.proofs.lemmas.Simd.{map-map}
use Rattle.flu_model.specs.declared.events.Event.{Event}
use Rattle.flu_model.specs.declared.events.Out.{Out}
use Rattle.flu_model.specs.declared.jobs.Program.{Program}
use Rattle.flu_model.specs.Reports.{Line, line_of as line_of_report}
use Rattle.flu_partial.specs.declared.values.Contribution as partial
use Rattle.flu_partial.specs.declared.values.Emitted.{Emitted}
use Rattle.flu_handover.specs.Handing.{emitted_of, place_of}
use Rattle.flu_handover.specs.Laws.{LinesDetermine}
use Rattle.flu_handover.proofs.Filled.{amounts_determine}

-- the line of a report that was emitted
abbrev line_that : Emitted → Line
line_that e = record { time = e.time; tag = e.tag; text = e.text }

pub same_lines : (p : Program) (xs ys : List Out) → map (emitted_of p) xs ≡ map (emitted_of p) ys → map (line_of_report p) xs ≡ map (line_of_report p) ys
same_lines p xs ys same = sym (map-map line_that (emitted_of p) xs) ∙ ap (map line_that) same ∙ map-map line_that (emitted_of p) ys

-- two contributions that are joined at the same place, whatever the last time
pub same_place : (a b : Option Event) (last last' : Option ℕ) → place_of a last ≡ place_of b last' → (l : Option ℕ) → place_of a l ≡ place_of b l
same_place None None last last' e l = refl
same_place None (Some y) last last' e l = absurd cc
same_place (Some x) None last last' e l = absurd cc
same_place (Some x) (Some y) last last' e l = e

pub law_of_lines : LinesDetermine
law_of_lines p last last' j k sendable also same = record {
  cells = amounts_determine p.families j.cells k.cells sendable.cells also.cells (ap (λ (c : partial.Contribution). c.cells) same);
  count = ap (λ (c : partial.Contribution). c.events) same;
  place = same_place j.before k.before last last' (ap (λ (c : partial.Contribution). c.place) same);
  outputs = same_lines p j.outputs k.outputs (ap (λ (c : partial.Contribution). c.outs) same);
}
