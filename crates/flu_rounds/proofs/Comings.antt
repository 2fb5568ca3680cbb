-- How far a run in rounds has come, and what it has written.
use Rattle.std.proofs.Common.{◌≡◌, ℕ, ◌≤◌, ◌<◌, List, [], ◌∷◌, ◌++◌, length, Option, Some, None, refl, sym, ap, ◌∙◌, subst, append_assoc}
use Rattle.std.proofs.lemmas.List.{append-nil}
use Rattle.flu_lemmas.proofs.Told.{told_then, told_same, told_weaker}
use Rattle.flu_cells.specs.Holding.{held}
use Rattle.flu_model.specs.declared.events.Item.{Item}
use Rattle.flu_model.specs.declared.jobs.Program.{Program}
use Rattle.flu_model.specs.Contents.{Contents}
use Rattle.flu_model.specs.Folding.{final_state, final_outputs, state_after, outputs_of}
use Rattle.flu_model.specs.Merging.{merged}
use Rattle.flu_model.specs.Moments.{timing_of}
use Rattle.flu_model.specs.Reports.{report}
use Rattle.flu_outside.specs.Outside.{Contents as Files, WhereTold}
use Rattle.flu_rows.specs.declared.rows.Next.{Next}
use Rattle.flu_streams.specs.declared.border.Border.{Border}
use Rattle.flu_streams.specs.declared.border.Border.TheVariants.{At, Closed}
use Rattle.flu_streams.specs.declared.faults.SourceFault.{SourceFault}
use Rattle.flu_streams.specs.Files.{files_of, AreReadOut}
use Rattle.flu_streams.specs.Good.{lists_of}
use Rattle.flu_streams.specs.Holding.{Holding, unread, AreHeldBehind, AreInAll, ClosedAreReadOut, LawOfStart, LawOfEnds}
use Rattle.flu_streams.specs.Rounds.{ComesFrom, Starts, GoesOn, IsRound, IsRoundFault, defect_in, lists_between, state_in_turn, reports_in_turn, LinesIn}
use Rattle.flu_streams.specs.Rounds.{LawOfRounds, LawOfNoRows, LawOfLastRound, LawOfLastAbove}
use Rattle.flu_rounds.specs.Standing.{Standing, round_report}
use Rattle.flu_rounds.specs.Coming.{lines_in, text_up_from, lists_above, RanFrom, WouldWriteFrom, AreSound, HasRunFrom, LawOfBeginningFrom, LawOfGoingOnFrom}
use Rattle.flu_rounds.specs.Coming.{LawOfTextFrom, LawOfNextTextFrom, LawOfLastFrom, LawOfDefectFrom}

-- ---- one round more
state_more : (p : Program) (s : Contents) (done : List (List (List Item))) (lists : List (List Item))
    → state_in_turn p s (done ++ lists ∷ []) ≡ final_state p (state_in_turn p s done) lists
state_more p s [] lists = refl
state_more p s (l ∷ done) lists = state_more p (final_state p s l) done lists

reports_more : (p : Program) (s : Contents) (done : List (List (List Item))) (lists : List (List Item))
    → reports_in_turn p s (done ++ lists ∷ []) ≡ reports_in_turn p s done ++ report p (final_outputs p (state_in_turn p s done) lists)
reports_more p s [] lists = append-nil (report p (final_outputs p s lists))
reports_more p s (l ∷ done) lists =
    ap (λ rest. report p (final_outputs p s l) ++ rest) (reports_more p (final_state p s l) done lists)
    ∙ sym (append_assoc (report p (final_outputs p s l)) (reports_in_turn p (final_state p s l) done)
    (report p (final_outputs p (state_in_turn p (final_state p s l) done) lists)))

-- a round's report behind those of the rounds before it
pub report_behind : (p : Program) (opening : Contents) (old : Standing) (done : List (List (List Item))) (written : List ℕ) (end : Border) (now : ℕ → List Next)
    → old.held.program ≡ p → held old.state ≡ state_in_turn p opening done → written ≡ reports_in_turn p opening done
    → written ++ round_report old end now ≡ reports_in_turn p opening (done ++ lists_between p old.held.border end now ∷ [])
report_behind p opening old done written end now program state wrote =
    ap (λ q. written ++ report q (final_outputs q (held old.state) (lists_between q old.held.border end now))) program
    ∙ ap (λ s. written ++ report p (final_outputs p s (lists_between p old.held.border end now))) state
    ∙ ap (λ front. front ++ report p (final_outputs p (state_in_turn p opening done) (lists_between p old.held.border end now))) wrote
    ∙ sym (reports_more p opening done (lists_between p old.held.border end now))

-- and the state behind it
pub state_behind : (p : Program) (opening : Contents) (old : Standing) (done : List (List (List Item))) (end : Border) (now : ℕ → List Next)
    → old.held.program ≡ p → held old.state ≡ state_in_turn p opening done
    → final_state old.held.program (held old.state) (lists_between old.held.program old.held.border end now)
    ≡ state_in_turn p opening (done ++ lists_between p old.held.border end now ∷ [])
state_behind p opening old done end now program state =
    ap (λ q. final_state q (held old.state) (lists_between q old.held.border end now)) program
    ∙ ap (λ s. final_state p s (lists_between p old.held.border end now)) state
    ∙ sym (state_more p opening done (lists_between p old.held.border end now))

-- a round of the same job and number of rows
pub same_round : (p q : Program) (rows n : ℕ) (above : Option ℕ) (whole before now : ℕ → List Next) (end : Border)
    → q ≡ p → n ≡ rows → IsRound q n above whole before now end → IsRound p rows above whole before now end
same_round p q rows n above whole before now end job number round =
    subst (λ (m : ℕ). IsRound p m above whole before now end) number (subst (λ (r : Program). IsRound r n above whole before now end) job round)

pub same_defect : (p q : Program) (rows n : ℕ) (above : Option ℕ) (whole before : ℕ → List Next) (f : SourceFault)
    → q ≡ p → n ≡ rows → IsRoundFault q n above whole before f → IsRoundFault p rows above whole before f
same_defect p q rows n above whole before f job number fault =
    subst (λ (m : ℕ). IsRoundFault p m above whole before f) number (subst (λ (r : Program). IsRoundFault r n above whole before f) job fault)

-- ---- standings
-- the lines of the files are those that stand in them
pub lines_are_in : (p : Program) (left : Files) → LinesIn p left (lines_in p left)
lines_are_in p left i s is = simp is

pub law_of_beginning : LawOfStart → (border : Option ℕ) (opening : Contents) → LawOfBeginningFrom border opening
law_of_beginning start border opening p rows left now first = let s = start p rows border in (
  record {
    program = ap (λ (h : Holding). h.program) first.held';
    number = ap (λ (h : Holding). h.rows) first.held';
    done = [];
    before = λ i. [];
    behind = subst (λ (h : Holding). AreHeldBehind h (λ i. [])) (sym first.held') s.behind;
    state = first.state';
    wrote = refl;
    ended = subst (λ (h : Holding). ClosedAreReadOut h left) (sym first.held') (s.ended left);
    told = subst (λ (h : Holding). WhereTold left left
        (λ was is. ComesFrom p rows (lines_in p was) border [] h.border (λ i. []) × AreInAll h (λ i. []) is (lines_in p was))) (sym first.held')
        (told_same (λ was is. ComesFrom p rows (lines_in p was) border [] border (λ i. []) × AreInAll (unread p rows border) (λ i. []) is (lines_in p was)) left
        (λ was. (Starts (λ i. []) (λ i. refl), s.all was (lines_in p was) (lines_are_in p was))));
  },
  refl,
)

-- what is told of a standing
abbrev pub Stands : Program → ℕ → Option ℕ → List (List (List Item)) → (ℕ → List Next) → Standing → Files → Files → Type 0
Stands p rows border done before now was is =
    ComesFrom p rows (lines_in p was) border done now.held.border before × AreInAll now.held before is (lines_in p was)

pub law_of_going_on : (border : Option ℕ) (opening : Contents) → LawOfGoingOnFrom border opening
law_of_going_on border opening p rows start left left' old new written t came runs stands ended =
    let now = runs.fills.now in
    let lists = lists_between p old.held.border (At t) now in (
      record {
        program = stands.program ∙ came.program;
        number = stands.rows ∙ came.number;
        done = came.done ++ lists ∷ [];
        before = now;
        behind = runs.fills.behind;
        state = runs.state ∙ state_behind p opening old came.done (At t) now came.program came.state;
        wrote = report_behind p opening old came.done written (At t) now came.program came.state came.wrote;
        ended = ended came.ended;
        told = told_then (Stands p rows border came.done came.before old)
            (λ mid is. (whole : ℕ → List Next) → AreInAll old.held came.before mid whole
            → IsRound old.held.program old.held.rows old.held.border whole came.before now (At t) × AreInAll new.held now is whole)
            (Stands p rows border (came.done ++ lists ∷ []) now new) start left left'
            (λ was mid is stood fills.
            let f = fills (lines_in p was) stood.1 in
            let round = same_round p old.held.program rows old.held.rows old.held.border (lines_in p was) came.before now (At t)
            came.program came.number f.0 in (
              subst (λ (b : Option ℕ). ComesFrom p rows (lines_in p was) border (came.done ++ lists ∷ []) b now) (sym stands.border)
                  (GoesOn came.done old.held.border came.before now t stood.0 round),
              f.1,
            ))
            came.told runs.fills.round;
      },
      refl,
    )

-- ---- texts
text_of_start : LawOfNoRows → (p : Program) (border : Option ℕ) (opening : Contents) (reads : ℕ → List Next) → [] ≡ text_up_from p border opening border reads
text_of_start none p None opening reads = refl
text_of_start none p (Some t) opening reads = (none p opening t reads).reports

pub text_of_come : LawOfRounds → LawOfNoRows → (p : Program) (rows : ℕ) (border : Option ℕ) (opening : Contents) (whole : ℕ → List Next)
    (done : List (List (List Item))) (above : Option ℕ) (before : ℕ → List Next)
    → 1 ≤ rows → ComesFrom p rows whole border done above before → reports_in_turn p opening done ≡ text_up_from p border opening above before
text_of_come law none p rows border opening whole done above before one (Starts reads empty) = text_of_start none p border opening before
text_of_come law none p rows border opening whole done above before one (GoesOn done' above' before' now t came round) =
    (law p opening rows whole border done' above' before' now (At t) one came round).reports

abbrev pub ran : LawOfRounds → LawOfNoRows → (p : Program) (rows : ℕ) (border : Option ℕ) (opening : Contents) (whole : ℕ → List Next)
    (done : List (List (List Item))) (above : Option ℕ) (before : ℕ → List Next) (written : List ℕ)
    → 1 ≤ rows → ComesFrom p rows whole border done above before → written ≡ reports_in_turn p opening done → RanFrom p rows border opening whole above written
ran law none p rows border opening whole done above before written one came wrote =
    record { done = done; before = before; comes = came; text = wrote ∙ text_of_come law none p rows border opening whole done above before one came }

pub law_of_text : LawOfRounds → LawOfNoRows → (border : Option ℕ) (opening : Contents) → LawOfTextFrom border opening
law_of_text law none border opening p rows start left now written one came =
    told_weaker (Stands p rows border came.done came.before now) (λ was is. RanFrom p rows border opening (lines_in p was) now.held.border written) start left
    (λ was is stood. ran law none p rows border opening (lines_in p was) came.done now.held.border came.before written one stood.0 came.wrote) came.told

pub law_of_next_text : LawOfRounds → LawOfNoRows → (border : Option ℕ) (opening : Contents) → LawOfNextTextFrom border opening
law_of_next_text law none border opening p rows start left left' old written end now one came is_round =
    told_then (Stands p rows border came.done came.before old)
    (λ mid is. (whole : ℕ → List Next) → AreInAll old.held came.before mid whole
    → IsRound old.held.program old.held.rows old.held.border whole came.before now end)
    (λ was is. (r : RanFrom p rows border opening (lines_in p was) old.held.border written)
    × WouldWriteFrom p rows border opening (lines_in p was) old.held.border r.before now end (written ++ round_report old end now)) start left left'
    (λ was mid is stood rounds.
    let round = same_round p old.held.program rows old.held.rows old.held.border (lines_in p was) came.before now end came.program came.number
    (rounds (lines_in p was) stood.1) in (
      ran law none p rows border opening (lines_in p was) came.done old.held.border came.before written one stood.0 came.wrote,
      record {
        round = round;
        text = report_behind p opening old came.done written end now came.program came.state came.wrote
            ∙ (law p opening rows (lines_in p was) border came.done old.held.border came.before now end one stood.0 round).reports;
      },
    ))
    came.told is_round.round

-- a source that is closed in a round has no defect in all of its lines
sound_at : (p : Program) (rows : ℕ) (above : Option ℕ) (whole before now : ℕ → List Next) → IsRound p rows above whole before now Closed → AreSound p whole
sound_at p rows above whole before now round i s is =
    let shut = round.each i s is in
    ap (defect_in (timing_of p i) p.kinds s) shut.stops.0 ∙ shut.sound

-- the rows of the last round and those before it are all rows above the border
pub last_events : LawOfLastRound → LawOfLastAbove → (p : Program) (rows : ℕ) (border above : Option ℕ) (whole before now : ℕ → List Next) (left : Files)
    → LinesIn p left whole → IsRound p rows above whole before now Closed
    → merged (lists_between p border Closed now) ≡ merged (lists_above p border (lists_of p left))
last_events last later p rows None above whole before now left lines round = ap (λ lists. merged lists) (last p rows above whole before now left lines round)
last_events last later p rows (Some t) above whole before now left lines round = later p rows above whole before now left t lines round

pub law_of_last : LawOfRounds → LawOfLastRound → LawOfLastAbove → LawOfEnds → (border : Option ℕ) (opening : Contents) → LawOfLastFrom border opening
law_of_last law last later ends border opening p rows start left left' old new written one came runs stands ended closed =
    let now = runs.fills.now in
    let out = ends new.held now left' runs.fills.behind closed (ended came.ended) in (
      subst (λ (q : Program). AreReadOut (files_of q.sources) left') (stands.program ∙ came.program) out,
      told_then (Stands p rows border came.done came.before old)
          (λ mid is. (whole : ℕ → List Next) → AreInAll old.held came.before mid whole
          → IsRound old.held.program old.held.rows old.held.border whole came.before now Closed × AreInAll new.held now is whole)
          (λ was is. HasRunFrom p border opening was new (written ++ round_report old Closed now)) start left left'
          (λ was mid is stood fills.
          let f = fills (lines_in p was) stood.1 in
          let round = same_round p old.held.program rows old.held.rows old.held.border (lines_in p was) came.before now Closed came.program came.number f.0 in
          let folds = law p opening rows (lines_in p was) border came.done old.held.border came.before now Closed one stood.0 round in
          let all = last_events last later p rows border old.held.border (lines_in p was) came.before now was (lines_are_in p was) round in
          record {
            sound = sound_at p rows old.held.border (lines_in p was) came.before now round;
            state = runs.state ∙ state_behind p opening old came.done Closed now came.program came.state ∙ folds.state
                ∙ ap (λ events. state_after p opening events) all;
            text = report_behind p opening old came.done written Closed now came.program came.state came.wrote ∙ folds.reports
                ∙ ap (λ events. report p (outputs_of p opening events)) all;
          })
          came.told runs.fills.round,
    )

pub law_of_defect : LawOfRounds → LawOfNoRows → (border : Option ℕ) (opening : Contents) → LawOfDefectFrom border opening
law_of_defect law none border opening p rows start left left' old written f one came fault = (
  subst (λ (q : Program). f.source < length q.sources) came.program fault.0,
  told_then (Stands p rows border came.done came.before old)
      (λ mid is. (whole : ℕ → List Next) → AreInAll old.held came.before mid whole
      → IsRoundFault old.held.program old.held.rows old.held.border whole came.before f)
      (λ was is. (r : RanFrom p rows border opening (lines_in p was) old.held.border written) × IsRoundFault p rows old.held.border (lines_in p was) r.before f)
      start left left'
      (λ was mid is stood meets. (
        ran law none p rows border opening (lines_in p was) came.done old.held.border came.before written one stood.0 came.wrote,
        same_defect p old.held.program rows old.held.rows old.held.border (lines_in p was) came.before f came.program came.number
            (meets (lines_in p was) stood.1),
      ))
      came.told (fault.1 came.before came.behind),
)
