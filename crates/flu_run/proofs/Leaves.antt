-- A leaf that has no event left keeps its promise.
use Rattle.std.proofs.Common.{◌≡◌, ◌<◌, ℕ, Bool, true, false, None, List, [], ◌++◌, append-nil, inl, inr, refl, sym, ap, subst, ◌∙◌}
use Rattle.flu_model.specs.declared.events.Out.{Out}
use Rattle.flu_model.specs.Itags.{count_of_itags}
use Rattle.flu_fork.specs.declared.content.Content.{Content}
use Rattle.flu_fork.specs.declared.lots.Lot.{Lot}
use Rattle.flu_fork.specs.Classes.{Itags}
use Rattle.flu_fork.specs.Lots.{job, kids, setting_of}
use Rattle.flu_fork.specs.Serving.{LotCounts}
use Rattle.flu_fork.specs.Texts.{HasTexts, InOneOf, InNone, InFirst}
use Rattle.flu_worker.specs.Hands.{is_open}
use Rattle.flu_worker.specs.Notes.{WorkerNote, own_of, below_of}
use Rattle.flu_worker.specs.Calls.{IsFinished, IsWholeLot}
use Rattle.flu_link.specs.Notes.{LowerNote}
use Rattle.flu_run.specs.LawsBelow.{LawsBelow}
use Rattle.flu_run.specs.Ties.{Hangs, Tells}
use Rattle.flu_run.specs.Final.{IsFinal, IsDone}

-- two sets with the same itags of the job have the same outputs
one_alone : (whole a : Bool) → whole ≡ a → InOneOf whole a false false
one_alone true true e = InFirst refl refl refl refl
one_alone false false e = InNone refl refl refl refl
one_alone true false e = cc
one_alone false true e = cc

abbrev never : Itags
never i = false

texts_alike : (laws : LawsBelow) (k : Content) (a b : Itags) (upto : List ℕ) (outs : List Out) → ((i : ℕ) → i < count_of_itags (job k) → b i ≡ a i)
    → HasTexts (setting_of k) a upto outs → HasTexts (setting_of k) b upto outs
texts_alike laws k a b upto outs same has =
    subst (HasTexts (setting_of k) b upto) (append-nil (outs ++ []) ∙ append-nil outs)
    (laws.three_texts (setting_of k) b a never never upto outs [] [] (laws.settings k) (λ i lt. one_alone (b i) (a i) (same i lt)) has
    (laws.no_texts (setting_of k) never upto (λ i e. cc)) (laws.no_texts (setting_of k) never upto (λ i e. cc)))

module _ (laws : LawsBelow) (n : WorkerNote) (lot : Lot) (outs : List Out) (done : IsFinished n) (leaf : kids n.case n.node ≡ None)
    (whole : IsWholeLot n lot) (tells : Tells n outs) where
  leaf_owns : (i : ℕ) → i < count_of_itags (job n.case) → below_of n i ≡ own_of n i
  leaf_owns i lt = (laws.of_nodes (setting_of n.case) n.node i (laws.settings n.case) lt).leaf leaf

  leaf_final : IsFinal n.case n.node n.held lot outs
  leaf_final = record {
    brings = laws.at_leaf n.case n.node n.held lot leaf whole.fits whole.since (λ i mine. whole.own i mine ∙ done.own i mine) whole.outside;
    texts =
        texts_alike laws n.case (own_of n) (below_of n) lot.upto outs leaf_owns
        (laws.same_texts (setting_of n.case) (own_of n) n.counts lot.upto outs whole.own tells);
  }

-- as its end sees it
pub final_as : (k k' : Content) (w w' : ℕ) (a b : LotCounts) (lot : Lot) (outs : List Out) → k' ≡ k → w' ≡ w → b ≡ a → IsFinal k w a lot outs
    → IsFinal k' w' b lot outs
final_as k k' w w' a b lot outs ek ew em h =
    subst (λ (j : Content). IsFinal j w' b lot outs) (sym ek)
    (subst (λ (v : ℕ). IsFinal k v b lot outs) (sym ew) (subst (λ (m : LotCounts). IsFinal k w m lot outs) (sym em) h))

pub done_at : (n : WorkerNote) (l : LowerNote) (lot : Lot) (outs : List Out) → Hangs n l → is_open n.hand ≡ true → l.phase ≡ 1
    → IsFinal n.case n.node n.held lot outs → IsDone l l lot outs
done_at n l lot outs hangs opened phase final = record {
  same = record { link = refl; case = refl; lower = refl };
  phase = phase;
  final = final_as n.case l.case n.node l.lower n.held l.held lot outs hangs.case hangs.lower (hangs.held opened) final;
}

pub finished_open : (n : WorkerNote) → IsFinished n → is_open n.hand ≡ true
finished_open n done = elim done.hand [ inl e ↦ ap is_open e | inr e ↦ ap is_open e ]

pub leaf_done : (laws : LawsBelow) (n : WorkerNote) (l : LowerNote) (lot : Lot) (outs : List Out) → Hangs n l → l.phase ≡ 1 → IsFinished n
    → kids n.case n.node ≡ None
    → IsWholeLot n lot → Tells n outs → IsDone l l lot outs
leaf_done laws n l lot outs hangs phase done leaf whole tells =
    done_at n l lot outs hangs (finished_open n done) phase (leaf_final laws n lot outs done leaf whole tells)
