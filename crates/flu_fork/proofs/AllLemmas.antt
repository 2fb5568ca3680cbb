-- Lots with all events of a node's subtree.
use Rattle.std.proofs.Common.{◌≡◌, ◌<◌, ◌≤◌, ℕ, true, false, Some, List, [], length, inl, inr, sym, ap, ◌∙◌, arith}
use Rattle.std.specs.Prelude.{slice_index}
use Rattle.std.proofs.lemmas.Bool.{cases_lt}
use Rattle.std.proofs.lemmas.List.{get_or_past}
use Rattle.flu_lemmas.proofs.Tests.{not_both}
use Rattle.flu_model.specs.Itags.{count_of_itags}
use Rattle.flu_model.specs.Listed.{listed}
use Rattle.flu_model.specs.Merging.{events_of}
use Rattle.flu_fork.specs.declared.content.Content.{Content}
use Rattle.flu_fork.specs.declared.lots.Lot.{Lot}
use Rattle.flu_fork.specs.Classes.{own, below}
use Rattle.flu_fork.specs.Completing.{BringsAll, IsLastFork, JoinsAll, LeavesBringAll, LastOnesArePaired, JoinsBringAll}
use Rattle.flu_fork.specs.LawsBelow.{LawsBelow}
use Rattle.flu_fork.specs.Lots.{job, nodes, kids, setting_of, LotFits, HasJoinedCounts}
use Rattle.flu_fork.specs.Serving.{LotCounts, IsOnLoan}
use Rattle.flu_fork.specs.Settings.{events_at}
use Rattle.flu_fork.specs.Texts.{InOneOf, InNone, InFirst, InSecond, InThird}
use Rattle.flu_fork.proofs.KinLemmas.{nodes_law, kids_law}
use Rattle.flu_fork.proofs.LoanLemmas.{paired_law, at_left, at_right, neither, not_left, not_right}
use Rattle.flu_fork.proofs.LotLemmas.{setting_holds}

-- beyond the itags there are no events, and no counts
none_there : (k : Content) (upto : List ℕ) (i : ℕ) → length upto ≡ count_of_itags (job k) → count_of_itags (job k) ≤ i
    → slice_index upto i ≡ length (events_at (setting_of k) i)
none_there k upto i long ge =
    let one = k.one_each in
    get_or_past upto i 0 (omega arith) ∙ sym (ap (λ items. length (events_of items)) (get_or_past (listed k.streams) i [] (omega arith)))

pub all_at_leaf : LawsBelow → LeavesBringAll
all_at_leaf laws k w lent lot leaf fits since mine outside = record {
  fits = fits;
  since = since;
  inside = λ i inside. elim (cases_lt i (count_of_itags (job k))) [
    | inl lt ↦ mine i (sym ((nodes_law laws (setting_of k) w i (setting_holds k) lt).leaf leaf) ∙ inside)
    | inr ge ↦ none_there k lot.upto i fits.upto_each ge
  ];
  outside = outside;
}

module _ (k : Content) (w : ℕ) (lent to_left to_right : LotCounts) (last : IsLastFork k w lent to_left to_right) where
  abbrev fork : List ℕ
  fork = to_left.upto

  -- such lots are on the loans of the fork
  on_left : (l : ℕ) (left : Lot) → BringsAll k l to_left left → IsOnLoan k l (record { since = lent.since; upto = fork }) left
  on_left l left all = record {
    since = all.since ∙ last.left_since;
    outside = all.outside;
    inside = λ i h. (let a = last.there i in let b = all.inside i h in omega arith);
  }

  on_right : (r : ℕ) (right : Lot) → BringsAll k r to_right right → IsOnLoan k r (record { since = fork; upto = fork }) right
  on_right r right all = record {
    since = all.since ∙ last.right_since;
    outside = λ i h. all.outside i h ∙ ap (λ u. slice_index u i) last.right_upto;
    inside = λ i h. (let a = last.there i in let b = all.inside i h in omega arith);
  }

pub all_paired : LastOnesArePaired
all_paired k w l r lent to_left to_right left right last fl fr =
    paired_law k l r lent.since to_left.upto left right last.first
    (on_left k w lent to_left to_right last l left fl) (on_right k w lent to_left to_right last r right fr)

module _ (laws : LawsBelow) (k : Content) (w l r : ℕ) (lent to_left to_right : LotCounts) (left right lot : Lot) (e : kids k w ≡ Some (l, r))
    (last : IsLastFork k w lent to_left to_right) (fl : BringsAll k l to_left left) (fr : BringsAll k r to_right right)
    (fits : LotFits k w lot) (joined : HasJoinedCounts k w left right lot) where
  loan_left : IsOnLoan k l (record { since = lent.since; upto = to_left.upto }) left
  loan_left = on_left k w lent to_left to_right last l left fl

  loan_right : IsOnLoan k r (record { since = to_left.upto; upto = to_left.upto }) right
  loan_right = on_right k w lent to_left to_right last r right fr

  as_left : (i : ℕ) → i < count_of_itags (job k) → below (job k) (nodes k) r i ≡ false → slice_index lot.upto i ≡ slice_index left.upto i
  as_left i lt out = at_left laws k w l r e lent.since to_left.upto left right lot loan_left loan_right fl.fits.upto_each joined i lt out

  as_right : (i : ℕ) → i < count_of_itags (job k) → below (job k) (nodes k) r i ≡ true → slice_index lot.upto i ≡ slice_index right.upto i
  as_right i lt h = at_right laws k w l r e lent.since to_left.upto left right lot loan_left loan_right fl.fits.upto_each joined i lt h

  parts : (i : ℕ) → i < count_of_itags (job k)
      → InOneOf (below (job k) (nodes k) w i) (own (job k) (nodes k) w i) (below (job k) (nodes k) l i) (below (job k) (nodes k) r i)
  parts i lt = (kids_law laws (setting_of k) w l r i (setting_holds k) e lt).parts

  none_here : (i : ℕ) → count_of_itags (job k) ≤ i → slice_index lot.upto i ≡ length (events_at (setting_of k) i)
  none_here i ge = none_there k lot.upto i fits.upto_each ge

  all_own : (i : ℕ) → own (job k) (nodes k) w i ≡ true → slice_index lot.upto i ≡ length (events_at (setting_of k) i)
  all_own i mine =
      elim (cases_lt i (count_of_itags (job k))) [
        | inl lt ↦ elim (parts i lt) [
          | InNone t a b c ↦ absurd (not_both _ mine a)
          | InFirst t a b c ↦ as_left i lt c ∙ fl.outside i b ∙ last.own i mine
          | InSecond t a b c ↦ absurd (not_both _ mine a)
          | InThird t a b c ↦ absurd (not_both _ mine a)
        ]
        | inr ge ↦ none_here i ge
      ]

  all_below : (i : ℕ) → below (job k) (nodes k) w i ≡ true → slice_index lot.upto i ≡ length (events_at (setting_of k) i)
  all_below i inside =
      elim (cases_lt i (count_of_itags (job k))) [
        | inl lt ↦ elim (parts i lt) [
          | InNone t a b c ↦ absurd (not_both _ inside t)
          | InFirst t a b c ↦ all_own i a
          | InSecond t a b c ↦ as_left i lt c ∙ fl.inside i b
          | InThird t a b c ↦ as_right i lt c ∙ fr.inside i c
        ]
        | inr ge ↦ none_here i ge
      ]

  left_below : (i : ℕ) → below (job k) (nodes k) l i ≡ true → slice_index lot.upto i ≡ slice_index left.upto i
  left_below i b =
      elim (cases_lt i (count_of_itags (job k))) [
        | inl lt ↦ all_below i ((kids_law laws (setting_of k) w l r i (setting_holds k) e lt).below_left b) ∙ sym (fl.inside i b)
        | inr ge ↦ none_here i ge ∙ sym (fl.inside i b)
      ]

  right_below : (i : ℕ) → below (job k) (nodes k) r i ≡ true → slice_index lot.upto i ≡ slice_index right.upto i
  right_below i c =
      elim (cases_lt i (count_of_itags (job k))) [
        | inl lt ↦ as_right i lt c
        | inr ge ↦ none_here i ge ∙ sym (fr.inside i c)
      ]

  pub all_together : JoinsAll k w l r lent left right lot
  all_together = record {
    all = record {
      fits = fits;
      since = joined.since ∙ fl.since ∙ last.left_since;
      inside = all_below;
      outside = λ i out.
          neither laws k w l r e lent.since to_left.upto left right lot loan_left loan_right fl.fits.upto_each joined i
          (not_left laws k w l r e lent.since to_left.upto left right lot loan_left loan_right fl.fits.upto_each joined i out)
          (not_right laws k w l r e lent.since to_left.upto left right lot loan_left loan_right fl.fits.upto_each joined i out)
          ∙ last.outside i out;
    };
    own = all_own;
    at_left = left_below;
    at_right = right_below;
  }

pub all_joined : LawsBelow → JoinsBringAll
all_joined laws k w l r lent to_left to_right left right lot e last fl fr fits joined =
    all_together laws k w l r lent to_left to_right left right lot e last fl fr fits joined
