-- Events are counted round by round.
use Rattle.std.proofs.Common.{◌≡◌, ℕ, suc, ◌+◌, ◌-◌, ◌^◌, List, [], ◌∷◌, ◌++◌, Some, refl, sym, ap, ◌∙◌, arith}
use Rattle.std.specs.Prelude.{◌==◌, min, cond}
use Rattle.std.proofs.lemmas.List.Sums.{sum_by-append}
use Rattle.flu_model.specs.declared.events.Event.{Event}
use Rattle.flu_model.specs.declared.events.Item.{Item}
use Rattle.flu_model.specs.declared.jobs.Program.{Program}
use Rattle.flu_model.specs.Merging.{merged}
use Rattle.flu_streams.specs.declared.border.Border.TheVariants.{At}
use Rattle.flu_streams.specs.Borders.{AreCutAt}
use Rattle.flu_streams.specs.Counts.{count_of_itag, counted_on, grown_by, grown, OneMoreInTurn, LawOfCounts}
use Rattle.flu_streams.specs.Rounds.{Starts, GoesOn, lists_between}
use Rattle.flu_streams.proofs.BorderLaws.{merged_cut}
use Rattle.flu_streams.proofs.InTurn.{cut_of_rounds}

count_of_itag-append : (xs ys : List Event) (itag : ℕ) → count_of_itag (xs ++ ys) itag ≡ count_of_itag xs itag + count_of_itag ys itag
count_of_itag-append xs ys itag = sum_by-append (λ (x : Event). cond (x.itag.0 == itag) 1 0) xs ys

-- some events more, and then others
counted_twice : (count first second most : ℕ) → min (min (count + first) most + second) most ≡ min (count + (first + second)) most
counted_twice count first second most = omega arith

grown_by-append : (itag : ℕ) (counts : List ℕ) (xs ys : List Event) → grown_by itag (grown_by itag counts xs) ys ≡ grown_by itag counts (xs ++ ys)
grown_by-append itag [] xs ys = refl
grown_by-append itag (count ∷ counts) xs ys =
    let here = counted_twice count (count_of_itag xs itag) (count_of_itag ys itag) (2 ^ 64 - 1)
    ∙ ap (counted_on count) (sym (count_of_itag-append xs ys itag)) in
    λ i. here i ∷ grown_by-append (suc itag) counts xs ys i

-- what is cut at a time is counted in turn
pub grown_cut : (p : Program) (t : ℕ) (whole first second : List (List Item)) (counts : List ℕ) → AreCutAt p t whole first second
    → grown (grown counts first) second ≡ grown counts whole
grown_cut p t whole first second counts cut =
    grown_by-append 0 counts (merged first) (merged second) ∙ ap (grown_by 0 counts) (sym (merged_cut p t whole first second cut))

pub one_more_in_turn : OneMoreInTurn
one_more_in_turn counts [] lists = refl
one_more_in_turn counts (l ∷ done) lists = one_more_in_turn (grown counts l) done lists

pub law_of_counts : LawOfCounts
law_of_counts p rows whole start done above before now end counts one (Starts reads none) round = refl
law_of_counts p rows whole start done above before now end counts one (GoesOn done' above' before' mid b came was) round =
    let so_far = one_more_in_turn counts done' (lists_between p above' (At b) mid)
    ∙ law_of_counts p rows whole start done' above' before' mid (At b) counts one came was in
    ap (λ c. grown c (lists_between p (Some b) end now)) so_far
    ∙ grown_cut p b (lists_between p start end now) (lists_between p start (At b) mid) (lists_between p (Some b) end now) counts
    (cut_of_rounds p rows whole start done' above' before' mid now b end one came was round)
