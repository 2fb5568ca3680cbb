-- Rounds one after another give the fold of all rows and ticks up to the last border.
use Rattle.std.proofs.Common.{◌≡◌, ◌≤◌, ℕ, List, [], ◌∷◌, ◌++◌, Option, Some, refl, sym, ap, ◌∙◌, append_assoc, subst}
use Rattle.std.proofs.lemmas.List.{append-nil}
use Rattle.flu_lemmas.specs.Elements.{AtEach}
use Rattle.flu_model.specs.declared.events.Item.{Item}
use Rattle.flu_model.specs.declared.jobs.Program.{Program}
use Rattle.flu_model.specs.Contents.{Contents}
use Rattle.flu_model.specs.Folding.{final_state, final_outputs}
use Rattle.flu_model.specs.Moments.{timing_of}
use Rattle.flu_model.specs.Reports.{report}
use Rattle.flu_rows.specs.declared.rows.Next.{Next}
use Rattle.flu_streams.specs.declared.border.Border.{Border}
use Rattle.flu_streams.specs.declared.border.Border.TheVariants.{At, Closed}
use Rattle.flu_streams.specs.Borders.{AreCutAt, FoldsInTurn}
use Rattle.flu_streams.specs.Rounds.{Turn, Shut, Reads, IsRoundAt, IsRound, lists_between, ComesFrom, Starts, GoesOn, state_in_turn, outputs_in_turn}
use Rattle.flu_streams.specs.Rounds.{reports_in_turn, GiveTheFold, LawOfRounds}
use Rattle.flu_streams.proofs.BorderLaws.{folds_in_turn}
use Rattle.flu_streams.proofs.RoundLaws.{shut_keeps, round_keeps, between_cut, covers_end, round_exceeds, exceeds_start}
use Rattle.flu_streams.proofs.Ticks.{ReadsFurther, told_by, lists_kept}

-- ---- what was read up to the border of a round is what is read up to it in the next
some_reads : (p : Program) (rows : ℕ) (above : Option ℕ) (whole before now : ℕ → List Next) (end : Border) → IsRound p rows above whole before now end
    → AtEach (λ i s. (turn : Turn) × Reads (timing_of p i) p.kinds s rows above (whole i) (before i) (now i) turn) p.sources
some_reads p rows above whole before now Closed round = λ i s e. (Shut, round.each i s e)
some_reads p rows above whole before now (At t) round = λ i s e. let h = round.each i s e in (h.0, h.1)

-- what is read of a source up to the border of a round is what is read up to it in the next
reads_on : (p : Program) (rows b : ℕ) (above : Option ℕ) (whole before mid now : ℕ → List Next) (end : Border)
    → IsRoundAt p rows above whole before mid b → IsRound p rows (Some b) whole mid now end → ReadsFurther p b mid now
reads_on p rows b above whole before mid now end was round = record {
  further = λ i s e. let k = some_reads p rows (Some b) whole mid now end round i s e in (k.1.more, k.1.further);
  same = λ i s e start. let h = was.each i s e in let k = some_reads p rows (Some b) whole mid now end round i s e in
      round_keeps (timing_of p i) p.kinds s rows b start above (whole i) (before i) (mid i) (now i) h.0 k.0 h.1 h.2 k.1;
  told = told_by p rows b above whole before mid now was (λ i s e shut. let k = some_reads p rows (Some b) whole mid now end round i s e in
      shut_keeps (timing_of p i) p.kinds s rows b above (whole i) (before i) (mid i) (now i) k.0 shut k.1);
}

-- ---- rounds in turn
state_push : (p : Program) (s : Contents) (done : List (List (List Item))) (lists : List (List Item))
    → state_in_turn p s (done ++ lists ∷ []) ≡ final_state p (state_in_turn p s done) lists
state_push p s [] lists = refl
state_push p s (l ∷ done) lists = state_push p (final_state p s l) done lists

outputs_push : (p : Program) (s : Contents) (done : List (List (List Item))) (lists : List (List Item))
    → outputs_in_turn p s (done ++ lists ∷ []) ≡ outputs_in_turn p s done ++ final_outputs p (state_in_turn p s done) lists
outputs_push p s [] lists = append-nil (final_outputs p s lists)
outputs_push p s (l ∷ done) lists =
    ap (λ rest. final_outputs p s l ++ rest) (outputs_push p (final_state p s l) done lists)
    ∙ sym (append_assoc (final_outputs p s l) (outputs_in_turn p (final_state p s l) done) (final_outputs p (state_in_turn p (final_state p s l) done) lists))

reports_push : (p : Program) (s : Contents) (done : List (List (List Item))) (lists : List (List Item))
    → reports_in_turn p s (done ++ lists ∷ []) ≡ reports_in_turn p s done ++ report p (final_outputs p (state_in_turn p s done) lists)
reports_push p s [] lists = append-nil (report p (final_outputs p s lists))
reports_push p s (l ∷ done) lists =
    ap (λ rest. report p (final_outputs p s l) ++ rest) (reports_push p (final_state p s l) done lists)
    ∙ sym (append_assoc (report p (final_outputs p s l)) (reports_in_turn p (final_state p s l) done)
    (report p (final_outputs p (state_in_turn p (final_state p s l) done) lists)))

one_more : (p : Program) (opening : Contents) (done : List (List (List Item))) (first second whole : List (List Item)) → GiveTheFold p opening done first
    → FoldsInTurn p opening whole first second → GiveTheFold p opening (done ++ second ∷ []) whole
one_more p opening done first second whole h cut = record {
  state = state_push p opening done second ∙ ap (λ s. final_state p s second) h.state ∙ sym cut.state;
  outputs = outputs_push p opening done second ∙ ap (λ outs. outs ++ final_outputs p (state_in_turn p opening done) second) h.outputs
      ∙ ap (λ s. final_outputs p opening first ++ final_outputs p s second) h.state ∙ sym cut.outputs;
  reports = reports_push p opening done second ∙ ap (λ bytes. bytes ++ report p (final_outputs p (state_in_turn p opening done) second)) h.reports
      ∙ ap (λ s. report p (final_outputs p opening first) ++ report p (final_outputs p s second)) h.state ∙ sym cut.lines;
}

-- the rows that were read above the run's start, cut at the border of the round before
pub cut_of_rounds : (p : Program) (rows : ℕ) (whole : ℕ → List Next) (start : Option ℕ) (done : List (List (List Item))) (above : Option ℕ)
    (before mid now : ℕ → List Next)
    (b : ℕ) (end : Border) → 1 ≤ rows → ComesFrom p rows whole start done above before → IsRoundAt p rows above whole before mid b
    → IsRound p rows (Some b) whole mid now end
    → AreCutAt p b (lists_between p start end now) (lists_between p start (At b) mid) (lists_between p (Some b) end now)
cut_of_rounds p rows whole start done above before mid now b end one came was round =
    let same = lists_kept p b mid now (reads_on p rows b above whole before mid now end was round) start in
    let exceeds = exceeds_start p rows b whole start done above before one came (round_exceeds p rows b above whole before mid one was) in
    subst (λ l. AreCutAt p b (lists_between p start end now) l (lists_between p (Some b) end now)) same
    (between_cut p b start end now (covers_end p rows b whole mid now end one round) exceeds)

pub law_of_rounds : LawOfRounds
law_of_rounds p opening rows whole start done above before now end one (Starts reads none) round = record {
  state = refl;
  outputs = append-nil (final_outputs p opening (lists_between p start end now));
  reports = append-nil (report p (final_outputs p opening (lists_between p start end now)));
}
law_of_rounds p opening rows whole start done above before now end one (GoesOn done' above' before' mid b came was) round =
    let so_far = law_of_rounds p opening rows whole start done' above' before' mid (At b) one came was in
    let cut = cut_of_rounds p rows whole start done' above' before' mid now b end one came was round in
    one_more p opening _ (lists_between p start (At b) mid) (lists_between p (Some b) end now) (lists_between p start end now) so_far
    (folds_in_turn p opening b (lists_between p start end now) (lists_between p start (At b) mid) (lists_between p (Some b) end now) cut)
