-- What the left part of the walk gives up for the root's event, and what it would not be served with.
use Rattle.std.proofs.Common.{◌≡◌, ℕ, true, false, List, [], ◌∷◌, ◌++◌, map, inl, inr, refl, sym, ap, subst, ◌∙◌, arith}
use Rattle.std.specs.Prelude.{nat_lt, slice_index}
use Rattle.std.specs.List.{range_with_len}
use Rattle.std.proofs.lemmas.Bool.{cases_lt}
use Rattle.flu_lemmas.proofs.Tests.{lt_true, not_both, true_lt}
use Rattle.flu_model.specs.declared.events.Itag.{Itag}
use Rattle.flu_model.specs.Itags.{tag_of_itag, is_dependent}
use Rattle.flu_deps.specs.Dependencies.{itags_depend}
use Rattle.flu_laws.specs.Lots.{depends_on}
use Rattle.flu_laws.specs.Spans.{Moment, is_below}
use Rattle.flu_fork.specs.declared.content.Content.{Content}
use Rattle.flu_fork.specs.declared.lots.Lot.{Lot}
use Rattle.flu_fork.specs.LawsBelow.{LawsBelow}
use Rattle.flu_fork.specs.Settings.{moments}
use Rattle.flu_fork.specs.Classes.{Itags, itag, below}
use Rattle.flu_fork.specs.Laws.{no_counts}
use Rattle.flu_fork.specs.Lots.{job, nodes, setting_of}
use Rattle.flu_fork.specs.Serving.{CountsBefore, CountsNoneBehind, IsOnLoan, Served, none_counted, CountsJustBefore}
use Rattle.flu_fork.specs.Walks.{IsMomentOf, IsWalk, counts, none, root_event, LeftIsServed, OthersAreNotServed}
use Rattle.flu_fork.proofs.LotLemmas.{setting_holds}
use Rattle.flu_fork.proofs.PlaceLemmas.{one_place}
use Rattle.flu_fork.proofs.Sides.{owner_is_below, right_and_left, not_below_both}
use Rattle.flu_fork.proofs.WalkLemmas.{each_of_three, past, below_is}

module _ (laws : LawsBelow) (k : Content) (one two three four : Moment) (walk : IsWalk (setting_of k) one two three four) where
  nothing : no_counts (job k) ≡ none
  nothing = ap (λ n. map (λ i. 0) (range_with_len 0 n)) walk.itags

  in_left : below (job k) (nodes k) 1 0 ≡ true
  in_left = owner_is_below laws (setting_of k) (setting_holds k) 1 0 walk.left

  -- the moment that the ask names is the third one
  is_third : (before after : List Moment) (m : Moment) → moments (setting_of k) ≡ before ++ m ∷ after → m.event.itag ≡ itag 2 → m.index ≡ 0
      → ((one ∷ two ∷ []) ≡ before) × ((three ≡ m) × ((four ∷ []) ≡ after))
  is_third before after m split ei ex =
      one_place laws (setting_of k) (setting_holds k) (one ∷ two ∷ []) (four ∷ []) before after three m walk.all split
      (ap (λ (i : Itag). i.0) ei ∙ sym (ap (λ (i : Itag). i.0) walk.third.itag_is)) (ex ∙ sym walk.third.index_is)

  module _ (set : Itags) (upto : List ℕ) where
    -- what is said of the third moment
    abbrev AtThird : List Moment → List Moment → Moment → Type 0
    AtThird before after m =
        CountsBefore (job k) set upto before m × CountsNoneBehind (job k) set upto after m

    from_third : AtThird (one ∷ two ∷ []) (four ∷ []) three → CountsJustBefore k set root_event upto
    from_third here before after m split ei ex =
        let at = is_third before after m split ei ex in
        subst (λ us. AtThird us after m) at.0
        (subst (λ us. AtThird (one ∷ two ∷ []) us m) at.1.1 (subst (λ q. AtThird (one ∷ two ∷ []) (four ∷ []) q) at.1.0 here))

  module _ (lot : Lot) (since : lot.since ≡ none) (upto : lot.upto ≡ counts 1 0 0) where
    loan : IsOnLoan k 1 (none_counted k) lot
    loan = record {
      since = since ∙ sym nothing;
      outside = each_of_three (λ j. below (job k) (nodes k) 1 j ≡ false → slice_index lot.upto j ≡ slice_index (no_counts (job k)) j)
          (λ out. absurd (not_both _ in_left out)) (λ out. both 1 refl) (λ out. both 2 refl)
          (λ j le out. both j (past 1 0 0 j le ∙ sym (past 0 0 0 j le)));
      inside = λ j h.
          (let zero_is : slice_index (no_counts (job k)) j ≡ slice_index none j = ap (λ us. slice_index us j) nothing in
          let zeros = all_zero j in
          omega arith);
    }
      where
        both : (j : ℕ) → slice_index (counts 1 0 0) j ≡ slice_index none j → slice_index lot.upto j ≡ slice_index (no_counts (job k)) j
        both j e = ap (λ us. slice_index us j) upto ∙ e ∙ sym (ap (λ us. slice_index us j) nothing)

        all_zero : (j : ℕ) → slice_index none j ≡ 0
        all_zero = each_of_three (λ j. slice_index none j ≡ 0) refl refl refl (λ j le. past 0 0 0 j le)

    pub served : Served k 1 (none_counted k) root_event lot
    served = record {
      loan = loan;
      exact = from_third (below (job k) (nodes k) 1) lot.upto (
        (
          (λ h d. ap (λ us. is_below us one) upto ∙ below_is 0 0 one walk.first (counts 1 0 0)),
          ((λ h d. absurd (not_both _ h (subst (λ (i : Itag). below (job k) (nodes k) 1 i.0 ≡ false) (sym walk.second.itag_is) right_not_left))), tt),
        ),
        ((λ h d. ap (λ us. is_below us four) upto ∙ below_is 0 1 four walk.fourth (counts 1 0 0)), tt),
      );
    }
      where
        right_not_left : below (job k) (nodes k) 1 1 ≡ false
        right_not_left =
            not_below_both laws (setting_of k) (setting_holds k) 0 2 1 1
            (right_and_left laws (setting_of k) (setting_holds k) 0 1 2 walk.kids)
            (owner_is_below laws (setting_of k) (setting_holds k) 2 1 walk.right)

  -- ---- too early, and too late
  module _ (lot : Lot) (n : ℕ) (dependent : itags_depend (job k) (itag 2) (itag 0) ≡ true) (upto : lot.upto ≡ counts n 0 0)
      (is_served : Served k 1 (none_counted k) root_event lot) where
    at_third : AtThird (below (job k) (nodes k) 1) lot.upto (one ∷ two ∷ []) (four ∷ []) three
    at_third = is_served.exact (one ∷ two ∷ []) (four ∷ []) three walk.all walk.third.itag_is walk.third.index_is

    depends : (m : Moment) (j : ℕ) → IsMomentOf 0 j m → depends_on (job k) three m ≡ true
    depends m j is = (λ t. is_dependent (job k) (tag_of_itag (job k) (walk.third.itag_is t)) (tag_of_itag (job k) (is.itag_is t))) ∙ dependent

    inside : (m : Moment) (j : ℕ) → IsMomentOf 0 j m → below (job k) (nodes k) 1 m.event.itag.0 ≡ true
    inside m j is = (λ t. below (job k) (nodes k) 1 (is.itag_is t).0) ∙ in_left

    first_counted : nat_lt 0 n ≡ true
    first_counted =
        sym (ap (λ us. is_below us one) upto ∙ below_is 0 0 one walk.first (counts n 0 0))
        ∙ at_third.0.0 (inside one 0 walk.first) (depends one 0 walk.first)

    fourth_not : nat_lt 1 n ≡ false
    fourth_not =
        sym (ap (λ us. is_below us four) upto ∙ below_is 0 1 four walk.fourth (counts n 0 0))
        ∙ at_third.1.0 (inside four 1 walk.fourth) (depends four 1 walk.fourth)

    pub only_one : n ≡ 1
    only_one =
        let more = true_lt 0 n first_counted in
        elim (cases_lt 1 n) [
          | inl lt ↦ absurd (not_both _ (lt_true 1 n lt) fourth_not)
          | inr ge ↦ omega arith
        ]

pub left_served_law : LawsBelow → LeftIsServed
left_served_law laws k one two three four lot walk fits since upto = served laws k one two three four walk lot since upto

pub others_law : LawsBelow → OthersAreNotServed
others_law laws k one two three four lot n walk dependent upto is_served = only_one laws k one two three four walk lot n dependent upto is_served
