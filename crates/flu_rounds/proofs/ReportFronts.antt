-- What a run of good sources wrote is a front of its report.
use Rattle.std.proofs.Common.{ℕ, ◌≤◌, List, [], ◌++◌, Option, Some, None, refl, sym, ap, ◌∙◌}
use Rattle.std.proofs.lemmas.List.{append-nil}
use Rattle.flu_model.specs.declared.events.Item.{Item}
use Rattle.flu_model.specs.declared.jobs.Program.{Program}
use Rattle.flu_model.specs.Contents.{Contents}
use Rattle.flu_model.specs.Folding.{final_state, final_outputs, outputs_of}
use Rattle.flu_model.specs.Reports.{report}
use Rattle.flu_outside.specs.Outside.{Contents as Files}
use Rattle.flu_rows.specs.declared.rows.Next.{Next}
use Rattle.flu_streams.specs.declared.border.Border.TheVariants.{At, Closed}
use Rattle.flu_streams.specs.Fronts.{LawOfFronts, LawOfFrontsAbove}
use Rattle.flu_streams.specs.Good.{lists_of}
use Rattle.flu_streams.specs.Rounds.{ComesFrom, GoesOn, LawOfLastRound, LawOfLastAbove, lists_between}
use Rattle.flu_rounds.specs.Coming.{AreSound, lines_in, lists_above, text_up_from, IsFrontOfReport, LawOfReportFronts, LawOfNextReportFronts}
use Rattle.flu_rounds.proofs.Comings.{lines_are_in, last_events}

module _ (fronts : LawOfFronts) (later : LawOfFrontsAbove) where
  front_at : (p : Program) (rows : ℕ) (border : Option ℕ) (opening : Contents) (left : Files) → 1 ≤ rows → AreSound p (lines_in p left)
      → (above : Option ℕ) (done : List (List (List Item))) (before : ℕ → List Next) → ComesFrom p rows (lines_in p left) border done above before
      → IsFrontOfReport p border opening left (text_up_from p border opening above before)
  front_at p rows border opening left one sound None done before came = (report p (final_outputs p opening (lists_above p border (lists_of p left))), refl)
  front_at p rows None opening left one sound (Some t) done before came = (
    report p (final_outputs p (final_state p opening (lists_between p None (At t) before)) (lists_between p (Some t) Closed (lines_in p left))),
    (fronts p opening rows (lines_in p left) done t before left (lines_are_in p left) sound came).lines,
  )
  front_at p rows (Some b) opening left one sound (Some t) done before came = (
    report p (final_outputs p (final_state p opening (lists_between p (Some b) (At t) before)) (lists_between p (Some t) Closed (lines_in p left))),
    (later p opening rows (lines_in p left) b done t before left one (lines_are_in p left) sound came).lines,
  )

  pub law_of_report_fronts : (border : Option ℕ) (opening : Contents) → LawOfReportFronts border opening
  law_of_report_fronts border opening p rows left above text one sound ran =
      let front = front_at p rows border opening left one sound above ran.done ran.before ran.comes in
      (front.0, front.1 ∙ ap (λ bytes. bytes ++ front.0) (sym ran.text))

  pub law_of_next_report_fronts : LawOfLastRound → LawOfLastAbove → (border : Option ℕ) (opening : Contents) → LawOfNextReportFronts border opening
  law_of_next_report_fronts last last_above border opening p rows left above text more now (At t) one sound ran next =
      let front = front_at p rows border opening left one sound (Some t) _ now (GoesOn ran.done above ran.before now t ran.comes next.round) in
      (front.0, front.1 ∙ ap (λ bytes. bytes ++ front.0) (sym next.text))
  law_of_next_report_fronts last last_above border opening p rows left above text more now Closed one sound ran next = (
    [],
    ap (λ events. report p (outputs_of p opening events))
        (sym (last_events last last_above p rows border above (lines_in p left) ran.before now left (lines_are_in p left) next.round))
        ∙ sym next.text ∙ sym (append-nil more),
  )
