-- What a run in rounds has counted.
use Rattle.std.proofs.Common.{◌≡◌, ℕ, List, sym, ap, ◌∙◌}
use Rattle.flu_lemmas.proofs.Told.{told_then}
use Rattle.flu_model.specs.declared.jobs.Program.{Program}
use Rattle.flu_rows.specs.declared.rows.Next.{Next}
use Rattle.flu_streams.specs.declared.border.Border.TheVariants.{At, Closed}
use Rattle.flu_streams.specs.Counts.{grown, grown_by, grown_in_turn, OneMoreInTurn, LawOfCounts}
use Rattle.flu_streams.specs.Good.{lists_of}
use Rattle.flu_streams.specs.Holding.{AreInAll, LawOfStart}
use Rattle.flu_streams.specs.Rounds.{IsRound, lists_between, LawOfLastRound, LawOfLastAbove}
use Rattle.flu_rounds.specs.Standing.{round_lists}
use Rattle.flu_rounds.specs.Coming.{lines_in, lists_above}
use Rattle.flu_rounds.specs.Counting.{LawOfFirstCounts, LawOfNextCounts, LawOfLastCounts}
use Rattle.flu_rounds.proofs.Comings.{Stands, same_round, lines_are_in, last_events, law_of_beginning, law_of_going_on}

pub law_of_first_counts : LawOfStart → LawOfFirstCounts
law_of_first_counts start p rows border opening left now counts is =
    let begun = law_of_beginning start border opening p rows left now is in
    record { came = begun.0; counts' = sym (ap (grown_in_turn counts) begun.1) }

pub law_of_next_counts : OneMoreInTurn → LawOfNextCounts
law_of_next_counts more p rows border opening start left left' old new written first counts t counted runs stands ended =
    let came = counted.came in
    let now = runs.fills.now in
    let on = law_of_going_on border opening p rows start left left' old new written t came runs stands ended in
    record {
      came = on.0;
      counts' = ap (λ (c : List ℕ). grown c (round_lists old (At t) now)) counted.counts'
          ∙ ap (λ (q : Program). grown (grown_in_turn first came.done) (lists_between q old.held.border (At t) now)) came.program
          ∙ sym (more first came.done (lists_between p old.held.border (At t) now))
          ∙ ap (grown_in_turn first) (sym on.1);
    }

pub law_of_last_counts : LawOfCounts → LawOfLastRound → LawOfLastAbove → LawOfLastCounts
law_of_last_counts law last later p rows border opening start left left' old new written first counts one counted runs =
    let came = counted.came in
    let now = runs.fills.now in
    told_then (Stands p rows border came.done came.before old)
    (λ mid is. (whole : ℕ → List Next) → AreInAll old.held came.before mid whole
    → IsRound old.held.program old.held.rows old.held.border whole came.before now Closed × AreInAll new.held now is whole)
    (λ was is. grown counts (round_lists old Closed now) ≡ grown first (lists_above p border (lists_of p was))) start left left'
    (λ was mid is stood fills.
    let f = fills (lines_in p was) stood.1 in
    let round = same_round p old.held.program rows old.held.rows old.held.border (lines_in p was) came.before now Closed came.program came.number f.0 in
    ap (λ (c : List ℕ). grown c (round_lists old Closed now)) counted.counts'
    ∙ ap (λ (q : Program). grown (grown_in_turn first came.done) (lists_between q old.held.border Closed now)) came.program
    ∙ law p rows (lines_in p was) border came.done old.held.border came.before now Closed first one stood.0 round
    ∙ ap (grown_by 0 first) (last_events last later p rows border old.held.border (lines_in p was) came.before now was (lines_are_in p was) round))
    came.told runs.fills.round
