-- An arrival is shown to one worker after another.
use Rattle.std.proofs.Common.{◌≡◌, ◌++◌, ◌+◌, ◌<◌, suc, Some, List, ℕ, length, map, take, drop, set, get_or, sym, ap, ◌∙◌, arith}
use Rattle.std.specs.Prelude.{slice_get}
use Rattle.std.proofs.lemmas.Option.{slice_get-get_or}
use Rattle.flu_net.proofs.Lists.{map_one_more, mapped_here, mapped_long}

module _ {X : Type 0} (f : X → X) (xs ys : List X) (w : ℕ) (d : X) (is : ys ≡ map f (take w xs) ++ drop w xs) (lt : w < length xs) where
  pub shown_at : slice_get xs w ≡ Some (get_or ys w d)
  shown_at =
      let long : length ys ≡ length xs = ap length is ∙ mapped_long f xs w in
      sym (mapped_here f xs w) ∙ sym (ap (λ (l : List X). slice_get l w) is) ∙ slice_get-get_or ys w d (omega arith)

  pub shown_more : (y : X) → y ≡ f (get_or ys w d) → set ys w y ≡ map f (take (w + 1) xs) ++ drop (w + 1) xs
  shown_more y e =
      let next : suc w ≡ w + 1 = omega arith in
      ap (set ys w) e ∙ ap (λ (l : List X). set l w (f (get_or ys w d))) is ∙ map_one_more f xs w (get_or ys w d) shown_at
      ∙ ap (λ n. map f (take n xs) ++ drop n xs) next

pub less : {X : Type 0} (f : X → X) (xs : List X) (w most : ℕ) → w < most → most ≡ length xs → w < length xs
less f xs w most lt is = omega arith
