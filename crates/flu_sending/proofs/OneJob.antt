-- Programs of one job: a node apart sends the same lines.
use Rattle.std.proofs.Common.{◌≡◌, ℕ, false, List, [], length, map, Option}
use Rattle.std.specs.Prelude.{slice_get, slice_index_or, if◌then◌else◌}
use Rattle.std.specs.List.{flat_map, range_with_len}
use Rattle.std.specs.Option.{option_map_or}
use Rattle.flu_model.specs.declared.events.Item.{Item}
use Rattle.flu_model.specs.declared.events.Out.{Out}
use Rattle.flu_model.specs.declared.events.Tag.{Tag}
use Rattle.flu_model.specs.declared.jobs.Family.{Family}
use Rattle.flu_model.specs.declared.jobs.Program.{Program}
use Rattle.flu_model.specs.declared.jobs.Source.{Source}
use Rattle.flu_model.specs.Contents.{nothing_held}
use Rattle.flu_model.specs.Erasure.{IsSameJob}
use Rattle.flu_model.specs.Listing.{tag, itags_of_sources}
use Rattle.flu_model.specs.Merging.{merged}
use Rattle.flu_model.specs.Rules.{is_clock}
use Rattle.flu_laws.specs.OneJob.{JobsReportTheSame}
use Rattle.flu_contribution.specs.Contributions.{Contribution}
use Rattle.flu_contribution.specs.OneJob.{JobsContributeTheSame}
use Rattle.flu_contribution.specs.Sending.{sent}
use Rattle.flu_partial.specs.declared.values.Contribution as partial
use Rattle.flu_partial.specs.declared.values.Emitted.{Emitted}
use Rattle.flu_partial.specs.Partial.{contribution_text, line_of as text_line}
use Rattle.flu_handover.specs.Handing.{amounts_of, place_of}
use Rattle.flu_sending.specs.Laws.{SendTheSame}
use Rattle.flu_sending.specs.Lines.{times_of, row_times, lines_of, sent_by}

-- the line of what is handed over, by the families and by the texts of tags
line_by : List Family → (Tag → List ℕ) → Option ℕ → Contribution → partial.Contribution
line_by families text_of last k =
    record { place = place_of k.before last; cells = amounts_of families k.cells; events = k.count; outs = map emitted k.outputs }
  where
    emitted : Out → Emitted
    emitted o = record { time = o.time; tag = text_of o.tag; text = o.text }

-- the times of the rows, by the sources
row_times_by : List Source → List (List Item) → List ℕ
row_times_by sources lists = flat_map times (range_with_len 0 (length (itags_of_sources 0 sources)))
  where
    times : ℕ → List ℕ
    times i =
        let number = (slice_index_or (itags_of_sources 0 sources) i (tag 0 0, 0)).1 in
        if option_map_or is_clock (slice_get sources number) false then [] else times_of (slice_index_or lists i [])

module _ (reporting : JobsReportTheSame) (contributing : JobsContributeTheSame) (p q : Program) (same : IsSameJob p q) where
  same_lines : lines_of p ≡ lines_of q
  unfolding line_by
  same_lines = λ j last ks.
      flat_map (λ (k : Contribution). text_line (contribution_text (line_by (same j).families ((reporting p q same).texts j) last k))) ks

  same_sent : sent_by p ≡ sent_by q
  same_sent = λ j nodes w lists. sent ((contributing p q same).sent j nodes w nothing_held (merged lists))

  same_times : row_times p ≡ row_times q
  unfolding row_times_by
  same_times = λ j lists. row_times_by (same j).sources lists

  pub send_same : SendTheSame p q
  send_same = record { times = same_times; lines = same_lines; sent = same_sent }
