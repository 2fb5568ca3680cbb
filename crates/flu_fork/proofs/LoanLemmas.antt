-- Lots on loan: two parts of one fork are paired, and what they join to is on the node's own loan.
use Rattle.std.proofs.Common.{◌≡◌, ◌<◌, ◌≤◌, ℕ, Bool, true, false, cond, Some, List, length, inl, inr, refl, sym, ap, ◌∙◌, arith}
use Rattle.std.specs.Prelude.{slice_index}
use Rattle.std.proofs.lemmas.Bool.{cases_Bool, cases_lt}
use Rattle.std.proofs.lemmas.List.{get_or_past}
use Rattle.std.proofs.lemmas.List.FromFn.{length-map-range_with_len}
use Rattle.flu_lemmas.proofs.Tests.{false_if_not, not_both}
use Rattle.flu_model.specs.Itags.{count_of_itags}
use Rattle.flu_fork.specs.declared.content.Content.{Content}
use Rattle.flu_fork.specs.declared.lots.Ask.{Ask}
use Rattle.flu_fork.specs.declared.lots.Lot.{Lot}
use Rattle.flu_fork.specs.LawsBelow.{LawsBelow}
use Rattle.flu_fork.specs.Classes.{own, below}
use Rattle.flu_fork.specs.Lots.{job, nodes, kids, setting_of, HasJoinedCounts}
use Rattle.flu_fork.specs.Parts.{joined_counts}
use Rattle.flu_fork.specs.Serving.{LotCounts, IsOnLoan, CountsEach, CountsJustBefore, IsForkedFrom}
use Rattle.flu_fork.specs.Serving.{GrowsFromBoth, LentIsOnLoan, LoansArePaired, JoinsServe, JoinsGrow}
use Rattle.flu_fork.proofs.Forking.{counts_at}
use Rattle.flu_fork.proofs.LotLemmas.{setting_holds}
use Rattle.flu_fork.proofs.Sides.{left_and_right, kid_below, right_and_left, not_below_both}
use Rattle.flu_fork.proofs.ServingLemmas.{just_before_as, at_inner}

-- it has at least the counts that it was lent with
loan_least : (k : Content) (v : ℕ) (lent : LotCounts) (lot : Lot) → IsOnLoan k v lent lot → (i : ℕ) → slice_index lent.upto i ≤ slice_index lot.upto i
loan_least k v lent lot loan i =
    elim (cases_Bool (below (job k) (nodes k) v i)) [
      | inl inside ↦ loan.inside i inside
      | inr outside ↦ (let e = loan.outside i outside in omega arith)
    ]

pub lent_law : LentIsOnLoan
lent_law k v lot = record { since = refl; outside = λ i h. refl; inside = λ i h. omega arith }

pub paired_law : LoansArePaired
paired_law k l r since fork left right first a b = record {
  left_first = λ i.
      (let e = ap (λ u. slice_index u i) a.since in
      let f = ap (λ u. slice_index u i) b.since in
      let g = first i in
      omega arith);
  left_outside = λ i h. a.outside i h ∙ sym (ap (λ u. slice_index u i) b.since);
  left_inside = λ i h. (let f = ap (λ u. slice_index u i) b.since in let g = a.inside i h in omega arith);
  right_outside = λ i h. b.outside i h ∙ sym (ap (λ u. slice_index u i) b.since);
  right_inside = λ i h. (let f = ap (λ u. slice_index u i) b.since in let g = b.inside i h in omega arith);
}

module _ (laws : LawsBelow) (k : Content) (w l r : ℕ) (e : kids k w ≡ Some (l, r)) (since fork : List ℕ) (left right lot : Lot)
    (a : IsOnLoan k l (record { since = since; upto = fork }) left) (b : IsOnLoan k r (record { since = fork; upto = fork }) right)
    (left_each : CountsEach k left) (joined : HasJoinedCounts k w left right lot) where
  abbrev in_left : ℕ → Bool
  in_left i = below (job k) (nodes k) l i

  abbrev in_right : ℕ → Bool
  in_right i = below (job k) (nodes k) r i

  abbrev in_both : ℕ → Bool
  in_both i = below (job k) (nodes k) w i

  left_not_right : (i : ℕ) → in_left i ≡ true → in_right i ≡ false
  left_not_right i h = not_below_both laws (setting_of k) (setting_holds k) w l r i (left_and_right laws (setting_of k) (setting_holds k) w l r e) h

  right_not_left : (i : ℕ) → in_right i ≡ true → in_left i ≡ false
  right_not_left i h = not_below_both laws (setting_of k) (setting_holds k) w r l i (right_and_left laws (setting_of k) (setting_holds k) w l r e) h

  pub not_left : (i : ℕ) → in_both i ≡ false → in_left i ≡ false
  not_left i out =
      false_if_not _ (λ h. not_both _
      (kid_below laws (setting_of k) (setting_holds k) w l r i (left_and_right laws (setting_of k) (setting_holds k) w l r e) h) out)

  pub not_right : (i : ℕ) → in_both i ≡ false → in_right i ≡ false
  not_right i out =
      false_if_not _ (λ h. not_both _
      (kid_below laws (setting_of k) (setting_holds k) w r l i (right_and_left laws (setting_of k) (setting_holds k) w l r e) h) out)

  -- ---- the joined counts
  counts_are : lot.upto ≡ joined_counts (job k) (nodes k) r left.upto right.upto
  counts_are = joined.upto l r e

  at : (i : ℕ) → i < count_of_itags (job k) → slice_index lot.upto i ≡ cond (in_right i) (slice_index right.upto i) (slice_index left.upto i)
  at i lt =
      ap (λ u. slice_index u i) counts_are
      ∙ counts_at (count_of_itags (job k)) (λ j. cond (in_right j) (slice_index right.upto j) (slice_index left.upto j)) i lt

  pub at_left : (i : ℕ) → i < count_of_itags (job k) → in_right i ≡ false → slice_index lot.upto i ≡ slice_index left.upto i
  at_left i lt out = at i lt ∙ ap (λ t. cond t (slice_index right.upto i) (slice_index left.upto i)) out

  pub at_right : (i : ℕ) → i < count_of_itags (job k) → in_right i ≡ true → slice_index lot.upto i ≡ slice_index right.upto i
  at_right i lt h = at i lt ∙ ap (λ t. cond t (slice_index right.upto i) (slice_index left.upto i)) h

  -- beyond the itags of the job
  size : length lot.upto ≡ count_of_itags (job k)
  size =
      ap length counts_are
      ∙ length-map-range_with_len (λ j. cond (in_right j) (slice_index right.upto j) (slice_index left.upto j)) 0 (count_of_itags (job k))

  at_end : (i : ℕ) → count_of_itags (job k) ≤ i → slice_index lot.upto i ≡ 0
  at_end i ge = let n = size in get_or_past lot.upto i 0 (omega arith)

  left_end : (i : ℕ) → count_of_itags (job k) ≤ i → slice_index left.upto i ≡ 0
  left_end i ge = get_or_past left.upto i 0 (omega arith)

  fork_end : (i : ℕ) → count_of_itags (job k) ≤ i → slice_index fork i ≡ 0
  fork_end i ge =
      let least : slice_index fork i ≤ slice_index left.upto i = loan_least k l (record { since = since; upto = fork }) left a i in
      let none = left_end i ge in
      omega arith

  fork_least : (i : ℕ) → slice_index fork i ≤ slice_index lot.upto i
  fork_least i =
      elim (cases_lt i (count_of_itags (job k))) [
        | inl lt ↦ elim (cases_Bool (in_right i)) [
          | inl h ↦
              (let x = at_right i lt h in
              let y : slice_index fork i ≤ slice_index right.upto i = loan_least k r (record { since = fork; upto = fork }) right b i in
              omega arith)
          | inr h ↦
              (let x = at_left i lt h in
              let y : slice_index fork i ≤ slice_index left.upto i = loan_least k l (record { since = since; upto = fork }) left a i in
              omega arith)
        ]
        | inr ge ↦ (let x = fork_end i ge in let y = at_end i ge in omega arith)
      ]

  pub neither : (i : ℕ) → in_left i ≡ false → in_right i ≡ false → slice_index lot.upto i ≡ slice_index fork i
  neither i hl hr =
      elim (cases_lt i (count_of_itags (job k))) [
        | inl lt ↦ at_left i lt hr ∙ a.outside i hl
        | inr ge ↦ at_end i ge ∙ sym (fork_end i ge)
      ]

  -- ---- the node's own loan
  pub joined_loan : (lent : LotCounts) → lent.since ≡ since → IsForkedFrom k w lent fork → IsOnLoan k w lent lot
  joined_loan lent same forked = record {
    since = joined.since ∙ a.since ∙ sym same;
    outside = λ i out. neither i (not_left i out) (not_right i out) ∙ forked.outside i out;
    inside = λ i h. (let x = forked.inside i h in let y = fork_least i in omega arith);
  }

  pub joined_served : (y : Ask) → CountsJustBefore k (own (job k) (nodes k) w) y lot.upto → CountsJustBefore k (below (job k) (nodes k) l) y left.upto
      → CountsJustBefore k (below (job k) (nodes k) r) y right.upto → CountsJustBefore k (below (job k) (nodes k) w) y lot.upto
  joined_served y mine lefts rights =
      at_inner laws k w y lot.upto l r e mine
      (just_before_as laws k (below (job k) (nodes k) l) y left.upto lot.upto (λ i lt h. at_left i lt (left_not_right i h)) lefts)
      (just_before_as laws k (below (job k) (nodes k) r) y right.upto lot.upto (λ i lt h. at_right i lt h) rights)

  -- ---- the next parts
  module _ (right_each : CountsEach k right) where
    right_end : (i : ℕ) → count_of_itags (job k) ≤ i → slice_index right.upto i ≡ 0
    right_end i ge = get_or_past right.upto i 0 (omega arith)

    pub grows : GrowsFromBoth k l r left right lot
    grows = record {
      at_left = record {
        inside = λ i h. elim (cases_lt i (count_of_itags (job k))) [
          | inl lt ↦ at_left i lt (left_not_right i h)
          | inr ge ↦ at_end i ge ∙ sym (left_end i ge)
        ];
        outside = λ i. elim (cases_lt i (count_of_itags (job k))) [
          | inl lt ↦ elim (cases_Bool (in_right i)) [
            | inl h ↦ (let x : slice_index left.upto i ≡ slice_index fork i = a.outside i (right_not_left i h) in let y = fork_least i in omega arith)
            | inr h ↦ (let x = at_left i lt h in omega arith)
          ]
          | inr ge ↦ (let x = left_end i ge in omega arith)
        ];
      };
      at_right = record {
        inside = λ i h. elim (cases_lt i (count_of_itags (job k))) [
          | inl lt ↦ at_right i lt h
          | inr ge ↦ at_end i ge ∙ sym (right_end i ge)
        ];
        outside = λ i. elim (cases_lt i (count_of_itags (job k))) [
          | inl lt ↦ elim (cases_Bool (in_right i)) [
            | inl h ↦ (let x = at_right i lt h in omega arith)
            | inr h ↦ (let x : slice_index right.upto i ≡ slice_index fork i = b.outside i h in let y = fork_least i in omega arith)
          ]
          | inr ge ↦ (let x = right_end i ge in omega arith)
        ];
      };
    }

pub serves_law : LawsBelow → JoinsServe
serves_law laws k w l r lent fork y left right lot e left_each forked sl sr joined mine = record {
  loan = joined_loan laws k w l r e lent.since fork left right lot sl.loan sr.loan left_each joined lent refl forked;
  exact = joined_served laws k w l r e lent.since fork left right lot sl.loan sr.loan left_each joined y mine sl.exact sr.exact;
}

pub grows_law : LawsBelow → JoinsGrow
grows_law laws k w l r since fork left right lot e left_each right_each a b joined =
    grows laws k w l r e since fork left right lot a b left_each joined right_each
