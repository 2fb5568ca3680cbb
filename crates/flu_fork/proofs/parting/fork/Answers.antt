use Rattle.std.proofs.Common.{◌≡◌, ℕ, Some, ◌∙◌}
use Rattle.flu_lemmas.proofs.Options.{IfOk-both}
use Rattle.flu_model.specs.Contents.{join}
use Rattle.flu_cells.specs.Holding.{held}
use Rattle.flu_cells.specs.Sets.{only, within, outside}
use Rattle.flu_fork.specs.Lots.{job, nodes, kids, setting_of, HasParts, HasCounts, PartsFitKids}
use Rattle.flu_fork.specs.Tables.{is_copied_by}
use Rattle.flu_fork.proofs.LotLemmas.{setting_holds, left_is, right_is, fits_as, paired_as}
use Rattle.flu_fork.proofs.parting.fork.Goals as goal

pub returns-clause-parts : goal.returns-clause-parts
returns-clause-parts c =
    let k = c.args.case.now in
    let s = held c.args.lot.state in
    let table = c.right.result.now in
    IfOk-both c.part.result
    (λ parts. held parts.0.state ≡ join (outside table.needed s) (only (is_copied_by table.copied) (held parts.1.state)))
    (λ parts. held parts.1.state ≡ within table.needed s)
    (λ parts. (l r : ℕ) → kids k c.args.node ≡ Some (l, r) → HasParts k r c.args.lot parts)
    (λ parts left right l r e. record {
      left = left ∙ left_is c.join_undoes_split.ensures (job k) (nodes k) r table s (held parts.1.state) (c.right.ensures l r e) right;
      right = right ∙ right_is (job k) (nodes k) r table s (c.right.ensures l r e);
    })
    c.part.ensures.left c.part.ensures.right

pub returns-clause-fits : goal.returns-clause-fits
returns-clause-fits c =
    let k = c.args.case.now in
    IfOk-both c.part.result
    (λ parts. (l r : ℕ) → kids k c.args.node ≡ Some (l, r) → HasParts k r c.args.lot parts) (HasCounts c.args.lot)
    (λ parts. (l r : ℕ) → kids k c.args.node ≡ Some (l, r) → PartsFitKids k l r parts)
    (λ parts is counts l r e.
    let law =
    c.forks_fit.ensures (setting_of k) c.args.node l r (held c.args.lot.state) c.args.lot.since c.args.lot.upto
    (setting_holds k) c.requires.node e c.requires.fits in
    record {
      left = fits_as (setting_of k) l _ _ _ _ _ _ (is l r e).left counts.left_since counts.left_upto law.left_fits;
      right = fits_as (setting_of k) r _ _ _ _ _ _ (is l r e).right counts.right_since counts.right_upto law.right_fits;
      paired = paired_as (job k) (nodes k) l r _ _ _ _ _ _ _ _ counts.left_since counts.left_upto counts.right_since counts.right_upto law.paired;
    })
    (returns-clause-parts c) c.part.ensures.counts
