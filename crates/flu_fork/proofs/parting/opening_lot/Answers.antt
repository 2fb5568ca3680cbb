use Rattle.std.proofs.Common.{◌≡◌, ℕ, map, ap, ◌∙◌}
use Rattle.std.specs.List.{range_with_len}
use Rattle.flu_model.specs.Itags.{count_of_itags}
use Rattle.flu_deps.specs.Checking.{program_of}
use Rattle.flu_cells.specs.Holding.{held}
use Rattle.flu_fork.specs.Lots.{job, setting_of}
use Rattle.flu_fork.specs.Laws.{no_counts}
use Rattle.flu_fork.proofs.LotLemmas.{setting_holds, fits_as}
use Rattle.flu_fork.proofs.parting.opening_lot.Goals as goal

pub returns-clause-fits : goal.returns-clause-fits
returns-clause-fits c =
    let k = c.args.case.now in
    let itags : c.itag_count-itags.result ≡ count_of_itags (job k) =
    c.itag_count-itags.ensures ∙ ap count_of_itags (c.program.ensures ∙ ap program_of c.checked.ensures) in
    let none : map (λ (i : ℕ). 0) (range_with_len 0 c.itag_count-itags.result) ≡ no_counts (job k) = ap (λ n. map (λ (i : ℕ). 0) (range_with_len 0 n)) itags in
    fits_as (setting_of k) 0 _ _ _ _ _ _ (c.in_ok-copy.ensures ∙ ap held c.opening.ensures) (c.in_ok-no_counts.ensures ∙ none)
    (c.in_ok-no_counts-2.ensures ∙ none) (c.openings_fit.ensures (setting_of k) (setting_holds k))
