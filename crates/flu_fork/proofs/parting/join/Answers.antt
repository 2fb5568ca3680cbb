use Rattle.std.proofs.Common.{◌≡◌, ℕ, Some, ◌∙◌}
use Rattle.std.specs.Prelude.{not}
use Rattle.std.proofs.lemmas.Result.{IfOk-weaker}
use Rattle.flu_lemmas.proofs.Options.{pair_there, IfOk-both}
use Rattle.flu_model.specs.Contents as contents
use Rattle.flu_cells.specs.Holding.{held}
use Rattle.flu_cells.specs.Sets.{only}
use Rattle.flu_fork.specs.declared.lots.Lot.{Lot}
use Rattle.flu_fork.specs.Lots.{job, nodes, kids, setting_of, LotFits, IsJoined, HasJoinedCounts}
use Rattle.flu_fork.specs.Tables.{is_copied_by, counts_by}
use Rattle.flu_fork.proofs.LotLemmas.{setting_holds, joined_is, counts_are, fits_as}
use Rattle.flu_fork.proofs.parting.join.Goals as goal

pub returns-clause-state : goal.returns-clause-state
returns-clause-state c =
    let k = c.args.case.now in
    let table = c.right.result.now in
    let left = c.args.left in
    let right = c.args.right in
    IfOk-weaker c.merge.result
    (λ (lot : Lot). held lot.state ≡ contents.join (held left.state) (only (λ d. not (is_copied_by table.copied d)) (held right.state)))
    (λ (lot : Lot). (l r : ℕ) → kids k c.args.node ≡ Some (l, r) → IsJoined k r left right lot)
    (λ lot is l r e. is ∙ joined_is (job k) (nodes k) r table (held left.state) (held right.state) (c.right.ensures l r e))
    c.merge.ensures.state

pub returns-clause-counts : goal.returns-clause-counts
returns-clause-counts c =
    let k = c.args.case.now in
    let table = c.right.result.now in
    IfOk-both c.merge.result
    (λ (lot : Lot). lot.since ≡ c.args.left.since) (λ (lot : Lot). lot.upto ≡ counts_by table.itags.items c.args.left.upto c.args.right.upto)
    (HasJoinedCounts k c.args.node c.args.left c.args.right)
    (λ lot since upto. record {
      since = since;
      upto = λ l r e. upto ∙ counts_are (job k) (nodes k) r table c.args.left.upto c.args.right.upto (c.right.ensures l r e);
    })
    c.merge.ensures.since c.merge.ensures.upto

pub returns-clause-fits : goal.returns-clause-fits
returns-clause-fits c =
    let k = c.args.case.now in
    let both = pair_there (kids k c.args.node) c.requires.inner in
    let l = both.0 in
    let r = both.1 in
    let e = both.2 in
    let law =
    c.joins_fit.ensures (setting_of k) c.args.node l r (held c.args.left.state)
    (held c.args.right.state) c.args.left.since c.args.left.upto c.args.right.since c.args.right.upto (setting_holds k) c.requires.node e
    (c.requires.left l r e) (c.requires.right l r e) (c.requires.paired l r e) in
    IfOk-both c.merge.result
    (λ (lot : Lot). (l r : ℕ) → kids k c.args.node ≡ Some (l, r) → IsJoined k r c.args.left c.args.right lot)
    (HasJoinedCounts k c.args.node c.args.left c.args.right)
    (LotFits k c.args.node)
    (λ lot state counts. fits_as (setting_of k) c.args.node _ _ _ _ _ _ (state l r e) counts.since (counts.upto l r e) law)
    (returns-clause-state c) (returns-clause-counts c)
