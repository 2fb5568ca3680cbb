-- A walk through the laws: each row fits by the one before it.
use Rattle.std.proofs.Common.{◌≡◌, ◌<◌, ◌≤◌, ◌+◌, ℕ, zero, suc, Bool, true, false, cond, Some}
use Rattle.std.proofs.Common.{List, [], ◌∷◌, ◌++◌, map, refl, sym, ap, subst, ◌∙◌, arith}
use Rattle.std.specs.Prelude.{nat_lt, ◌==◌, ◌||◌, slice_index}
use Rattle.std.specs.List.{range_with_len}
use Rattle.std.proofs.lemmas.Bool.{ne_eqb}
use Rattle.std.proofs.lemmas.List.{get_or_past}
use Rattle.flu_lemmas.proofs.Tests.{not_both}
use Rattle.flu_model.specs.declared.events.Itag.{Itag}
use Rattle.flu_model.specs.Contents.{Contents}
use Rattle.flu_model.specs.Itags.{count_of_itags, tag_of_itag, is_dependent}
use Rattle.flu_model.specs.Owners.{owner_of}
use Rattle.flu_laws.specs.Lots.{IsExact, CountsOneMore, depends_on}
use Rattle.flu_laws.specs.Spans.{Moment, AreAtMost, is_below}
use Rattle.flu_fork.specs.LawsBelow.{LawsBelow}
use Rattle.flu_fork.specs.Settings.{Setting, IsSetting, moments}
use Rattle.flu_fork.specs.Classes.{itag}
use Rattle.flu_fork.specs.Fitting.{Fits}
use Rattle.flu_fork.specs.Kin.{own_at, below_at, above_at, IsOfKids}
use Rattle.flu_fork.specs.Laws.{PartsFit, UpdatesWell}
use Rattle.flu_fork.specs.Parts.{joined_counts, ArePaired}
use Rattle.flu_fork.specs.Walks.{IsMomentOf, IsWalk, counts, none, to_left, to_right, at_left, at_right, at_root, after_root, RowsFit, WalksFit}
use Rattle.flu_fork.proofs.Forking.{opening_law, forks_law}
use Rattle.flu_fork.proofs.Joining.{joins_law}
use Rattle.flu_fork.proofs.KinLemmas.{of_kids}
use Rattle.flu_fork.proofs.Sides.{owner_is_below, owner_is_there, across, right_and_left}
use Rattle.flu_fork.proofs.Updates.{updates_law}

or_first : (a b : Bool) → a ≡ true → (a || b) ≡ true
or_first true b e = refl
or_first false b e = cc

-- ---- three counts
pub each_of_three : (P : ℕ → Type 0) → P 0 → P 1 → P 2 → ((j : ℕ) → 3 ≤ j → P j) → (j : ℕ) → P j
each_of_three P a b c d zero = a
each_of_three P a b c d (suc zero) = b
each_of_three P a b c d (suc (suc zero)) = c
each_of_three P a b c d (suc (suc (suc j))) = d (suc (suc (suc j))) (omega arith)

pub past : (a b c j : ℕ) → 3 ≤ j → slice_index (counts a b c) j ≡ 0
past a b c j le = get_or_past (counts a b c) j 0 le

at_most : (a b c d e f : ℕ) → a ≤ d → b ≤ e → c ≤ f → AreAtMost (counts a b c) (counts d e f)
at_most a b c d e f x y z =
    each_of_three (λ j. slice_index (counts a b c) j ≤ slice_index (counts d e f) j) x y z
    (λ j le. (let u = past a b c j le in let v = past d e f j le in omega arith))

one_more_past : (a b c d e f i j : ℕ) → i < 3 → 3 ≤ j
    → slice_index (counts d e f) j ≡ cond (j == i) (slice_index (counts a b c) j + 1) (slice_index (counts a b c) j)
one_more_past a b c d e f i j lt le =
    past d e f j le
    ∙ sym (ap (λ t. cond t (slice_index (counts a b c) j + 1) (slice_index (counts a b c) j)) (ne_eqb j i (λ same. (let s = same in omega arith)))
    ∙ past a b c j le)

module _ (a b c : ℕ) where
  more_first : CountsOneMore 0 (counts a b c) (counts (a + 1) b c)
  more_first =
      each_of_three (λ j. slice_index (counts (a + 1) b c) j ≡ cond (j == 0) (slice_index (counts a b c) j + 1) (slice_index (counts a b c) j))
      refl refl refl (λ j le. one_more_past a b c (a + 1) b c 0 j (omega arith) le)

  more_second : CountsOneMore 1 (counts a b c) (counts a (b + 1) c)
  more_second =
      each_of_three (λ j. slice_index (counts a (b + 1) c) j ≡ cond (j == 1) (slice_index (counts a b c) j + 1) (slice_index (counts a b c) j))
      refl refl refl (λ j le. one_more_past a b c a (b + 1) c 1 j (omega arith) le)

  more_third : CountsOneMore 2 (counts a b c) (counts a b (c + 1))
  more_third =
      each_of_three (λ j. slice_index (counts a b (c + 1)) j ≡ cond (j == 2) (slice_index (counts a b c) j + 1) (slice_index (counts a b c) j))
      refl refl refl (λ j le. one_more_past a b c a b (c + 1) 2 j (omega arith) le)

pub below_is : (i n : ℕ) (m : Moment) (is : IsMomentOf i n m) (upto : List ℕ) → is_below upto m ≡ nat_lt n (slice_index upto i)
below_is i n m is upto = λ t. nat_lt (is.index_is t) (slice_index upto (is.itag_is t).0)

module _ (laws : LawsBelow) (k : Setting) (ok : IsSetting k) (one two three four : Moment) (walk : IsWalk k one two three four) where
  known : (i : ℕ) → i < 3 → i < count_of_itags k.program
  known i lt = subst (λ n. i < n) (sym walk.itags) lt

  in_left : below_at k 1 0 ≡ true
  in_left = owner_is_below laws k ok 1 0 walk.left

  pub in_right : below_at k 2 1 ≡ true
  in_right = owner_is_below laws k ok 2 1 walk.right

  kin : (i : ℕ) → i < 3 → IsOfKids k 0 1 2 i
  kin i lt = of_kids laws k ok 0 1 2 i walk.kids (known i lt)

  root_over : (own_at k 0 2 || above_at k 0 2) ≡ true
  root_over =
      or_first (own_at k 0 2) (above_at k 0 2) (((laws.owned k.program k.nodes (itag 2) ok.valid (known 2 (omega arith))).alone 0).1 walk.root)

  pub root_not_right : below_at k 2 2 ≡ false
  root_not_right = (kin 2 (omega arith)).not_right root_over

  pub root_above_right : above_at k 2 2 ≡ true
  root_above_right = (kin 2 (omega arith)).above_right ∙ root_over

  pub left_not_right : below_at k 2 0 ≡ false
  left_not_right = (kin 0 (omega arith)).apart in_left

  apart : depends_on k.program two one ≡ false
  apart =
      (λ t. is_dependent k.program (tag_of_itag k.program (walk.second.itag_is t)) (tag_of_itag k.program (walk.first.itag_is t)))
      ∙ across laws k ok 0 2 1 1 0 (right_and_left laws k ok 0 1 2 walk.kids) (known 1 (omega arith)) (known 0 (omega arith)) in_right in_left

  -- ---- an event's outcome
  row : (w i n a b c d e f : ℕ) (before after : List Moment) (m : Moment) (s : Contents) (since : List ℕ)
      → owner_of k.program k.nodes (itag i) ≡ Some w → IsMomentOf i n m → moments k ≡ before ++ m ∷ after
      → IsExact k.program before after m (counts a b c) → CountsOneMore i (counts a b c) (counts d e f) → Fits k w s since (counts a b c)
      → UpdatesWell k w m s since (counts d e f)
  row w i n a b c d e f before after m s since owner is split exact one_more fits =
      updates_law laws k w before after m s since (counts a b c) (counts d e f) ok (ap (owner_of k.program k.nodes) is.itag_is ∙ owner) split exact
      (sym walk.itags) (subst (λ (j : Itag). CountsOneMore j.0 (counts a b c) (counts d e f)) (sym is.itag_is) one_more) fits

  next_is : (i n : ℕ) (m : Moment) (upto : List ℕ) → IsMomentOf i n m → slice_index upto i ≡ n → slice_index upto m.event.itag.0 ≡ m.index
  next_is i n m upto is e = ap (λ (j : Itag). slice_index upto j.0) is.itag_is ∙ e ∙ sym is.index_is

  -- ---- the rows
  opening : Fits k 0 k.opening none none
  opening = subst (λ us. Fits k 0 k.opening us us) (ap (λ n. map (λ i. 0) (range_with_len 0 n)) walk.itags) (opening_law laws k ok)

  forked : PartsFit k 1 2 k.opening none none
  forked = forks_law laws k 0 1 2 k.opening none none ok (owner_is_there laws k ok 0 2 walk.root) walk.kids opening

  left_row : UpdatesWell k 1 one (to_left k k.opening) none (counts 1 0 0)
  left_row =
      row 1 0 0 0 0 0 1 0 0 [] (two ∷ three ∷ four ∷ []) one (to_left k k.opening) none walk.left walk.first walk.all
      record {
        next = next_is 0 0 one none walk.first refl;
        counted = tt;
        others = (
          (λ d. below_is 1 0 two walk.second none),
          ((λ d. below_is 2 0 three walk.third none), ((λ d. below_is 0 1 four walk.fourth none), tt)),
        );
      }
      (more_first 0 0 0) forked.left_fits

  right_row : UpdatesWell k 2 two (to_right k k.opening) none (counts 0 1 0)
  right_row =
      row 2 1 0 0 0 0 0 1 0 (one ∷ []) (three ∷ four ∷ []) two (to_right k k.opening) none walk.right walk.second walk.all
      record {
        next = next_is 1 0 two none walk.second refl;
        counted = ((λ d. absurd (not_both _ d apart)), tt);
        others = ((λ d. below_is 2 0 three walk.third none), ((λ d. below_is 0 1 four walk.fourth none), tt));
      }
      (more_second 0 0 0) forked.right_fits

  paired : ArePaired k.program k.nodes 1 2 none (counts 1 0 0) none (counts 0 1 0)
  paired = record {
    left_first = at_most 0 0 0 0 0 0 (omega arith) (omega arith) (omega arith);
    left_outside = each_of_three (λ j. below_at k 1 j ≡ false → slice_index (counts 1 0 0) j ≡ slice_index none j)
        (λ out. absurd (not_both _ in_left out)) (λ out. refl) (λ out. refl) (λ j le out. past 1 0 0 j le ∙ sym (past 0 0 0 j le));
    left_inside = λ j h. at_most 0 0 0 1 0 0 (omega arith) (omega arith) (omega arith) j;
    right_outside = each_of_three (λ j. below_at k 2 j ≡ false → slice_index (counts 0 1 0) j ≡ slice_index none j)
        (λ out. refl) (λ out. absurd (not_both _ in_right out)) (λ out. refl) (λ j le out. past 0 1 0 j le ∙ sym (past 0 0 0 j le));
    right_inside = λ j h. at_most 0 0 0 0 1 0 (omega arith) (omega arith) (omega arith) j;
  }

  joined_are : joined_counts k.program k.nodes 2 (counts 1 0 0) (counts 0 1 0) ≡ counts 1 1 0
  joined_are =
      ap (λ n. map (λ i. cond (below_at k 2 i) (slice_index (counts 0 1 0) i) (slice_index (counts 1 0 0) i)) (range_with_len 0 n)) walk.itags
      ∙ (λ t. cond {A = ℕ} (left_not_right t) 0 1 ∷ cond {A = ℕ} (in_right t) 1 0 ∷ cond {A = ℕ} (root_not_right t) 0 0 ∷ [])

  joined : Fits k 0 (at_root k one two) none (counts 1 1 0)
  joined =
      subst (Fits k 0 (at_root k one two) none) joined_are
      (joins_law laws k 0 1 2 (at_left k one) (at_right k two) none (counts 1 0 0) none (counts 0 1 0) ok
      (owner_is_there laws k ok 0 2 walk.root) walk.kids left_row.fits
      right_row.fits paired)

  root_row : UpdatesWell k 0 three (at_root k one two) none (counts 1 1 1)
  root_row =
      row 0 2 0 1 1 0 1 1 1 (one ∷ two ∷ []) (four ∷ []) three (at_root k one two) none walk.root walk.third walk.all
      record {
        next = next_is 2 0 three (counts 1 1 0) walk.third refl;
        counted = ((λ d. below_is 0 0 one walk.first (counts 1 1 0)), ((λ d. below_is 1 0 two walk.second (counts 1 1 0)), tt));
        others = ((λ d. below_is 0 1 four walk.fourth (counts 1 1 0)), tt);
      }
      (more_third 1 1 0) joined

  forked_again : PartsFit k 1 2 (after_root k one two three) none (counts 1 1 1)
  forked_again = forks_law laws k 0 1 2 (after_root k one two three) none (counts 1 1 1) ok (owner_is_there laws k ok 0 2 walk.root) walk.kids root_row.fits

  last_row : UpdatesWell k 1 four (to_left k (after_root k one two three)) none (counts 2 1 1)
  last_row =
      row 1 0 1 1 1 1 2 1 1 (one ∷ two ∷ three ∷ []) [] four (to_left k (after_root k one two three)) none walk.left walk.fourth walk.all
      record {
        next = next_is 0 1 four (counts 1 1 1) walk.fourth refl;
        counted = (
          (λ d. below_is 0 0 one walk.first (counts 1 1 1)),
          ((λ d. below_is 1 0 two walk.second (counts 1 1 1)), ((λ d. below_is 2 0 three walk.third (counts 1 1 1)), tt)),
        );
        others = tt;
      }
      (more_first 1 1 1) forked_again.left_fits

  pub rows : RowsFit k one two three four
  rows = record {
    opening = opening;
    fork_left = forked.left_fits;
    fork_right = forked.right_fits;
    update_left = left_row.fits;
    update_right = right_row.fits;
    join = joined;
    update_root = root_row.fits;
    texts = root_row.texts;
    fork_left_again = forked_again.left_fits;
    fork_right_again = forked_again.right_fits;
    update_left_again = last_row.fits;
  }

pub walks_law : LawsBelow → WalksFit
walks_law laws k one two three four ok walk = rows laws k ok one two three four walk
