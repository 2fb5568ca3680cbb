-- What two subtrees hand on, and what their parent counted, is what the parent's subtree hands on.
use Rattle.std.proofs.Common.{◌≡◌, ◌<◌, ℕ, Some, List, ◌++◌, sym, ◌∙◌}
use Rattle.flu_model.specs.declared.events.Out.{Out}
use Rattle.flu_model.specs.Itags.{count_of_itags}
use Rattle.flu_fork.specs.declared.content.Content.{Content}
use Rattle.flu_fork.specs.declared.lots.Lot.{Lot}
use Rattle.flu_fork.specs.Classes.{own, below}
use Rattle.flu_fork.specs.Completing.{IsLastFork, JoinsAll}
use Rattle.flu_fork.specs.Lots.{job, nodes, kids, setting_of, LotFits, LotsPaired, HasJoinedCounts}
use Rattle.flu_fork.specs.Texts.{InOneOf}
use Rattle.flu_worker.specs.declared.hand.Hand.TheVariants.{Down}
use Rattle.flu_worker.specs.Notes.{WorkerNote, own_of, below_of}
use Rattle.flu_worker.specs.Calls.{IsForked, IsFinished}
use Rattle.flu_run.specs.LawsBelow.{LawsBelow}
use Rattle.flu_run.specs.Ties.{Tells}
use Rattle.flu_run.specs.Final.{IsFinal}

-- the itags of a node's subtree are its own, or below one of its children
own_or_kids : (laws : LawsBelow) (k : Content) (w l r i : ℕ) → kids k w ≡ Some (l, r) → i < count_of_itags (job k)
    → InOneOf (below (job k) (nodes k) w i) (own (job k) (nodes k) w i) (below (job k) (nodes k) l i) (below (job k) (nodes k) r i)
own_or_kids laws k w l r i e lt = (laws.of_kids (setting_of k) w l r i (laws.settings k) e lt).parts

module _ (laws : LawsBelow) (n : WorkerNote) (l r : ℕ) (e : kids n.case n.node ≡ Some (l, r)) (done : IsFinished n) (down : n.hand ≡ Down) (left right : Lot)
    (outs lefts rights : List Out) (fl : IsFinal n.case l n.lent_left left lefts) (fr : IsFinal n.case r n.lent_right right rights) where
  forked : IsForked n
  forked = done.forked down

  last : IsLastFork n.case n.node n.held n.lent_left n.lent_right
  last = record {
    left_since = forked.left_since;
    right_since = forked.right_since;
    right_upto = forked.right_upto;
    first = forked.first;
    there = forked.there;
    own = λ i mine. forked.own i mine ∙ done.own i mine;
    outside = forked.outside;
  }

  pub joined_paired : LotsPaired n.case l r left right
  joined_paired = laws.last_paired n.case n.node l r n.held n.lent_left n.lent_right left right last fl.brings fr.brings

  module _ (lot : Lot) (fits : LotFits n.case n.node lot) (counts : HasJoinedCounts n.case n.node left right lot) (tells : Tells n outs) where
    joins : JoinsAll n.case n.node l r n.held left right lot
    joins = laws.last_joined n.case n.node l r n.held n.lent_left n.lent_right left right lot e last fl.brings fr.brings fits counts

    pub joined_final : IsFinal n.case n.node n.held lot ((outs ++ lefts) ++ rights)
    joined_final = record {
      brings = joins.all;
      texts =
          laws.three_texts (setting_of n.case) (below_of n) (own_of n) (below (job n.case) (nodes n.case) l)
          (below (job n.case) (nodes n.case) r) lot.upto outs lefts rights
          (laws.settings n.case) (λ i lt. own_or_kids laws n.case n.node l r i e lt)
          (laws.same_texts (setting_of n.case) (own_of n) n.counts lot.upto outs (λ i mine. joins.own i mine ∙ sym (done.own i mine)) tells)
          (laws.same_texts (setting_of n.case) (below (job n.case) (nodes n.case) l) left.upto lot.upto lefts joins.at_left fl.texts)
          (laws.same_texts (setting_of n.case) (below (job n.case) (nodes n.case) r) right.upto lot.upto rights joins.at_right fr.texts);
    }
