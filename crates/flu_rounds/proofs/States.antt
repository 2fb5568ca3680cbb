-- The state of a run behind the rounds that were run.
use Rattle.std.proofs.Common.{◌≡◌, ℕ, ◌≤◌, List, ◌++◌, Option, refl, sym, ap, ◌∙◌, subst}
use Rattle.flu_lemmas.proofs.Told.{told_then, told_weaker}
use Rattle.flu_cells.specs.Holding.{held}
use Rattle.flu_model.specs.declared.events.Item.{Item}
use Rattle.flu_model.specs.declared.jobs.Program.{Program}
use Rattle.flu_model.specs.Contents.{Contents}
use Rattle.flu_model.specs.Folding.{final_state}
use Rattle.flu_rows.specs.declared.rows.Next.{Next}
use Rattle.flu_streams.specs.declared.border.Border.TheVariants.{At}
use Rattle.flu_streams.specs.Holding.{AreInAll}
use Rattle.flu_streams.specs.Rounds.{ComesFrom, Starts, GoesOn, IsRound, IsRoundFault, lists_between, state_in_turn, LawOfRounds, LawOfNoRows}
use Rattle.flu_rounds.specs.Standing.{round_report}
use Rattle.flu_rounds.specs.Coming.{lines_in, RanFrom, WouldWriteFrom, IsStateUpTo, LawOfTextAndState, LawOfNextTextAndState, LawOfNextState}
use Rattle.flu_rounds.specs.Coming.{LawOfDefectAndState}
use Rattle.flu_rounds.proofs.Comings.{Stands, ran, report_behind, state_behind, same_round, same_defect}

module _ (law : LawOfRounds) (none : LawOfNoRows) (border : Option ℕ) (opening : Contents) where
  state_of_come : (p : Program) (rows : ℕ) (whole : ℕ → List Next) (done : List (List (List Item))) (above : Option ℕ) (before : ℕ → List Next)
      → 1 ≤ rows → ComesFrom p rows whole border done above before → IsStateUpTo p border opening above before (state_in_turn p opening done)
  state_of_come p rows whole done above before one (Starts reads empty) t is =
      subst (λ (o : Option ℕ). opening ≡ final_state p opening (lists_between p o (At t) reads)) (sym is) (none p opening t reads).state
  state_of_come p rows whole done above before one (GoesOn done' above' before' now b came round) t is =
      let same : b ≡ t = cc in
      (law p opening rows whole border done' above' before' now (At b) one came round).state
      ∙ ap (λ n. final_state p opening (lists_between p border (At n) now)) same

  -- the state of a standing, which was come to so
  state_stands : (p : Program) (rows : ℕ) (whole : ℕ → List Next) (done : List (List (List Item))) (above : Option ℕ) (before : ℕ → List Next) (s : Contents)
      → 1 ≤ rows → ComesFrom p rows whole border done above before → s ≡ state_in_turn p opening done → IsStateUpTo p border opening above before s
  state_stands p rows whole done above before s one comes is t at = is ∙ state_of_come p rows whole done above before one comes t at

  pub law_of_text_and_state : LawOfTextAndState border opening
  law_of_text_and_state p rows start left now written one came =
      told_weaker (Stands p rows border came.done came.before now)
      (λ was is. (r : RanFrom p rows border opening (lines_in p was) now.held.border written) × (r.done ≡ came.done)
      × IsStateUpTo p border opening now.held.border r.before (held now.state)) start left
      (λ was is stood. (
        ran law none p rows border opening (lines_in p was) came.done now.held.border came.before written one stood.0 came.wrote,
        refl,
        state_stands p rows (lines_in p was) came.done now.held.border came.before (held now.state) one stood.0 came.state,
      ))
      came.told

  pub law_of_next_text_and_state : LawOfNextTextAndState border opening
  law_of_next_text_and_state p rows start left left' old written end now one came is_round =
      told_then (Stands p rows border came.done came.before old)
      (λ mid is. (whole : ℕ → List Next) → AreInAll old.held came.before mid whole
      → IsRound old.held.program old.held.rows old.held.border whole came.before now end)
      (λ was is. (r : RanFrom p rows border opening (lines_in p was) old.held.border written) × (r.done ≡ came.done)
      × IsStateUpTo p border opening old.held.border r.before (held old.state)
      × WouldWriteFrom p rows border opening (lines_in p was) old.held.border r.before now end (written ++ round_report old end now)) start left left'
      (λ was mid is stood rounds.
      let round = same_round p old.held.program rows old.held.rows old.held.border (lines_in p was) came.before now end came.program came.number
      (rounds (lines_in p was) stood.1) in (
        ran law none p rows border opening (lines_in p was) came.done old.held.border came.before written one stood.0 came.wrote,
        refl,
        state_stands p rows (lines_in p was) came.done old.held.border came.before (held old.state) one stood.0 came.state,
        record {
          round = round;
          text = report_behind p opening old came.done written end now came.program came.state came.wrote
              ∙ (law p opening rows (lines_in p was) border came.done old.held.border came.before now end one stood.0 round).reports;
        },
      ))
      came.told is_round.round

  pub law_of_next_state : LawOfNextState border opening
  law_of_next_state p rows start left left' old new written t one came runs =
      let now = runs.fills.now in
      told_then (Stands p rows border came.done came.before old)
      (λ mid is. (whole : ℕ → List Next) → AreInAll old.held came.before mid whole
      → IsRound old.held.program old.held.rows old.held.border whole came.before now (At t) × AreInAll new.held now is whole)
      (λ was is. held new.state ≡ final_state p opening (lists_between p border (At t) now)) start left left'
      (λ was mid is stood fills.
      let round = same_round p old.held.program rows old.held.rows old.held.border (lines_in p was) came.before now (At t) came.program came.number
      (fills (lines_in p was) stood.1).0 in
      runs.state ∙ state_behind p opening old came.done (At t) now came.program came.state
      ∙ (law p opening rows (lines_in p was) border came.done old.held.border came.before now (At t) one stood.0 round).state)
      came.told runs.fills.round

  pub law_of_defect_and_state : LawOfDefectAndState border opening
  law_of_defect_and_state p rows start left left' old written f one came fault =
      told_then (Stands p rows border came.done came.before old)
      (λ mid is. (whole : ℕ → List Next) → AreInAll old.held came.before mid whole
      → IsRoundFault old.held.program old.held.rows old.held.border whole came.before f)
      (λ was is. (r : RanFrom p rows border opening (lines_in p was) old.held.border written) × (r.done ≡ came.done)
      × IsStateUpTo p border opening old.held.border r.before (held old.state)
      × IsRoundFault p rows old.held.border (lines_in p was) r.before f) start left left'
      (λ was mid is stood meets. (
        ran law none p rows border opening (lines_in p was) came.done old.held.border came.before written one stood.0 came.wrote,
        refl,
        state_stands p rows (lines_in p was) came.done old.held.border came.before (held old.state) one stood.0 came.state,
        same_defect p old.held.program rows old.held.rows old.held.border (lines_in p was) came.before f came.program came.number
            (meets (lines_in p was) stood.1),
      ))
      came.told (fault.1 came.before came.behind)
