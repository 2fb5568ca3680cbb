-- What a count holds in the rows of the walk, by the classes of its cell and the changes of the events that are counted there.
use Rattle.std.proofs.Common.{◌≡◌, ◌<◌, ℕ, Bool, true, false, cond, Some, None, List, [], ◌∷◌, refl, ap, ◌∙◌, arith}
use Rattle.std.specs.Prelude.{nat_le, nat_lt, not, ◌&&◌, pos, slice_index}
use Rattle.std.specs.Int.{int_wrap}
use Rattle.std.specs.List.{filter}
use Rattle.flu_lemmas.proofs.Tests.{and_right, false_if_not, not_both, not_true}
use Rattle.flu_model.specs.declared.events.Cell.{Cell}
use Rattle.flu_model.specs.declared.events.Worth.TheVariants.{Sum}
use Rattle.flu_model.specs.Contents.{added}
use Rattle.flu_model.specs.Itags.{count_of_itags}
use Rattle.flu_laws.specs.Changes.{applied}
use Rattle.flu_laws.specs.Spans.{Moment, is_below, is_between, changed_by}
use Rattle.flu_laws.specs.Uses.{needs}
use Rattle.flu_fork.specs.LawsBelow.{LawsBelow}
use Rattle.flu_fork.specs.Settings.{Setting, IsSetting, moments}
use Rattle.flu_fork.specs.Classes.{below, beside, mode_by, is_needed, is_base, is_away}
use Rattle.flu_fork.specs.Walks.{IsMomentOf, IsWalk, IsCount, WalksCount, counts, none, to_left, updated, at_left, at_right, at_root, after_root}
use Rattle.flu_fork.proofs.Cells.{some_found, root_base, left_base, right_base, not_needed_not_moved}
use Rattle.flu_fork.proofs.Sides.{beside_is_not_below}
use Rattle.flu_fork.proofs.WalkLemmas.{each_of_three, below_is, rows, in_right, left_not_right, root_not_right, root_above_right}

-- ---- sums
five : added None (pos 5) ≡ Some (Sum (pos 5))
unfolding int_wrap
five = refl

seven : added None (pos 7) ≡ Some (Sum (pos 7))
unfolding int_wrap
seven = refl

five_and_seven : added (Some (Sum (pos 5))) (pos 7) ≡ Some (Sum (pos 12))
unfolding int_wrap
five_and_seven = refl

two_more : added None (pos 2) ≡ Some (Sum (pos 2))
unfolding int_wrap
two_more = refl

-- ---- what passes a test
abbrev pick : Bool → Moment → List Moment → List Moment
pick b m ms = cond b (m ∷ ms) ms

-- what passes of four
of_four : (f : Moment → Bool) (one two three four : Moment) (a b c d : Bool) → f one ≡ a → f two ≡ b → f three ≡ c → f four ≡ d
    → filter f (one ∷ two ∷ three ∷ four ∷ []) ≡ pick a one (pick b two (pick c three (pick d four [])))
of_four f one two three four a b c d ea eb ec ed = λ t. pick (ea t) one (pick (eb t) two (pick (ec t) three (pick (ed t) four [])))

between_is : (i n : ℕ) (m : Moment) (is : IsMomentOf i n m) (since upto : List ℕ)
    → is_between since upto m ≡ (nat_le (slice_index since i) n && nat_lt n (slice_index upto i))
between_is i n m is since upto = λ t.
    nat_le (slice_index since (is.itag_is t).0) (is.index_is t) && nat_lt (is.index_is t) (slice_index upto (is.itag_is t).0)

module _ (laws : LawsBelow) (k : Setting) (ok : IsSetting k) (one two three four : Moment) (walk : IsWalk k one two three four) (c : Cell)
    (is : IsCount k one two three four c) where
  -- no itag of the right part needs the cell, and none beside it
  not_needed : is_needed k.program (below k.program k.nodes 2) c ≡ false
  not_needed =
      false_if_not _ (λ h.
      (let some = some_found k.program needs (below k.program k.nodes 2) c h in
      let range = some.in_range in
      let size = walk.itags in
      each_of_three (λ j. j < count_of_itags k.program → below k.program k.nodes 2 j ≡ true → needs (mode_by k.program j c) ≡ true → ⊥)
      (λ lt inside has. not_both _ inside (left_not_right laws k ok one two three four walk))
      (λ lt inside has. not_both _ has is.right_adds)
      (λ lt inside has. not_both _ inside (root_not_right laws k ok one two three four walk))
      (λ j le lt inside has. absurd (omega arith)) some.number range some.in_set some.has))

  not_beside : is_needed k.program (beside k.program k.nodes 2) c ≡ false
  not_beside =
      false_if_not _ (λ h.
      (let some = some_found k.program needs (beside k.program k.nodes 2) c h in
      let size = walk.itags in
      each_of_three (λ j. j < count_of_itags k.program → beside k.program k.nodes 2 j ≡ true → needs (mode_by k.program j c) ≡ true → ⊥)
      (λ lt out has. not_both _ has is.left_adds)
      (λ lt out has. not_both _ (in_right laws k ok one two three four walk) (beside_is_not_below laws k ok 2 1 out))
      (λ lt out has. not_both _ (root_above_right laws k ok one two three four walk) (not_true _ (and_right (not (below k.program k.nodes 2 2)) _ out)))
      (λ j le lt out has. absurd (omega arith)) some.number some.in_range some.in_set some.has))

  base_left : is_base k.program k.nodes 1 c ≡ true
  base_left =
      left_base laws k ok 0 1 2 c walk.kids
      ∙ (λ t. root_base laws k ok c t && not (not_needed_not_moved k.program (below k.program k.nodes 2) c not_needed t))

  not_base_right : is_base k.program k.nodes 2 c ≡ false
  not_base_right = right_base laws k ok 0 1 2 c walk.kids ∙ (λ t. root_base laws k ok c t && not_needed t)

  not_away_right : is_away k.program k.nodes 2 c ≡ false
  not_away_right = λ t. not (not_base_right t) && not_beside t

  -- what is counted
  counted : (a b d : ℕ) (p q r s : Bool) → nat_lt 0 a ≡ p → nat_lt 0 b ≡ q → nat_lt 0 d ≡ r → nat_lt 1 a ≡ s
      → filter (is_below (counts a b d)) (moments k) ≡ pick p one (pick q two (pick r three (pick s four [])))
  counted a b d p q r s ep eq er es =
      ap (filter (is_below (counts a b d))) walk.all
      ∙ of_four (is_below (counts a b d)) one two three four p q r s (below_is 0 0 one walk.first (counts a b d) ∙ ep)
      (below_is 1 0 two walk.second (counts a b d) ∙ eq) (below_is 2 0 three walk.third (counts a b d) ∙ er)
      (below_is 0 1 four walk.fourth (counts a b d) ∙ es)

  left_is : at_left k one c ≡ Some (Sum (pos 5))
  left_is =
      (rows laws k ok one two three four walk).update_left.cells.base c base_left
      ∙ ap (changed_by k.program c (k.opening c)) (counted 1 0 0 true false false false refl refl refl refl)
      ∙ (λ t. applied (is.first t) (is.opening t)) ∙ five

  right_is : at_right k two c ≡ Some (Sum (pos 7))
  right_is =
      (rows laws k ok one two three four walk).update_right.cells.rest c not_base_right not_away_right
      ∙ ap (λ ms. changed_by k.program c None (filter (is_between none (counts 0 1 0)) ms)) walk.all
      ∙ ap (changed_by k.program c None)
      (of_four (is_between none (counts 0 1 0)) one two three four false true false false (between_is 0 0 one walk.first none (counts 0 1 0))
      (between_is 1 0 two walk.second none (counts 0 1 0)) (between_is 2 0 three walk.third none (counts 0 1 0))
      (between_is 0 1 four walk.fourth none (counts 0 1 0)))
      ∙ (λ t. applied (is.second t) None) ∙ seven

  join_is : at_root k one two c ≡ Some (Sum (pos 12))
  join_is =
      (rows laws k ok one two three four walk).join.cells.base c (root_base laws k ok c)
      ∙ ap (changed_by k.program c (k.opening c)) (counted 1 1 0 true true false false refl refl refl refl)
      ∙ (λ t. applied (is.second t) (applied (is.first t) (is.opening t))) ∙ ap (λ w. added w (pos 7)) five ∙ five_and_seven

  root_is : after_root k one two three c ≡ None
  root_is =
      (rows laws k ok one two three four walk).update_root.cells.base c (root_base laws k ok c)
      ∙ ap (changed_by k.program c (k.opening c)) (counted 1 1 1 true true true false refl refl refl refl)
      ∙ (λ t. applied (is.third t) (applied (is.second t) (applied (is.first t) (is.opening t))))

  left_again_is : updated k.program (to_left k (after_root k one two three)) four c ≡ Some (Sum (pos 2))
  left_again_is =
      (rows laws k ok one two three four walk).update_left_again.cells.base c base_left
      ∙ ap (changed_by k.program c (k.opening c)) (counted 2 1 1 true true true true refl refl refl refl)
      ∙ (λ t. applied (is.fourth t) (applied (is.third t) (applied (is.second t) (applied (is.first t) (is.opening t))))) ∙ two_more

pub count_law : LawsBelow → WalksCount
count_law laws k one two three four c ok walk is = record {
  left = left_is laws k ok one two three four walk c is;
  right = right_is laws k ok one two three four walk c is;
  join = join_is laws k ok one two three four walk c is;
  root = root_is laws k ok one two three four walk c is;
  left_again = left_again_is laws k ok one two three four walk c is;
}
