-- Programs that are the same job have the same report of the same sources, and of their rows behind what was read, from an opening.
use Rattle.std.proofs.Common.{◌≡◌, ℕ, List, [], map, Option, Some, None, refl, ap, ◌∙◌, ◌/◌}
use Rattle.std.specs.Prelude.{nat_lt}
use Rattle.std.specs.List.{filter}
use Rattle.flu_laws.specs.OneJob.{DoTheSame, ReportTheSame}
use Rattle.flu_model.specs.declared.jobs.Program.{Program}
use Rattle.flu_model.specs.declared.events.Item.{Item}
use Rattle.flu_model.specs.Contents.{Contents}
use Rattle.flu_model.specs.Folding.{final_outputs}
use Rattle.flu_model.specs.Merging.{merged}
use Rattle.flu_model.specs.Moments.{moments_a_time}
use Rattle.flu_model.specs.Reports.{report}
use Rattle.flu_outside.specs.Outside.{Contents as Files}
use Rattle.flu_rounds.specs.Written.{lists_above}
use Rattle.flu_streams.specs.Good.{lists_of}
use Rattle.flu_streams.specs.Lists.{item_time}
use Rattle.flu_streams.specs.OneJob.{ReadTheSame}
use Rattle.flu_command.specs.Behind.{emptied_each, lists_behind}
use Rattle.flu_command.specs.Openings.{Opening, report_from}

-- programs with as many moments a time have the same items above a border
same_above : (p q : Program) (border : Option ℕ) (lists : List (List Item)) → moments_a_time p ≡ moments_a_time q
    → lists_above p border lists ≡ lists_above q border lists
same_above p q None lists moments = refl
same_above p q (Some t) lists moments = ap (λ scale. map (filter (λ item. nat_lt t (item_time item / scale))) lists) moments

module _ (p q : Program) (updates : DoTheSame p q) (reports : ReportTheSame p q) (reading : ReadTheSame p q) where
  pub same_report : (s : Contents) (left : Files) → report p (final_outputs p s (lists_of p left)) ≡ report q (final_outputs q s (lists_of q left))
  same_report s left = λ j. reports.reports j (updates.outputs j s (merged (reading.lists j [] left)))

  pub same_report_from : moments_a_time p ≡ moments_a_time q → (o : Opening) (texts : List (List ℕ)) (left : Files)
      → report_from o texts left p ≡ report_from o texts left q
  unfolding lists_behind
  same_report_from moments o texts left =
      (λ j. reports.reports j (updates.outputs j o.cells (merged (lists_above p o.border (reading.lists j [] (emptied_each texts left))))))
      ∙ ap (λ (lists : List (List Item)). report q (final_outputs q o.cells lists)) (same_above p q o.border (lists_of q (emptied_each texts left)) moments)
