-- Both halves of a round, with the fold of its rows between them, make a round.
use Rattle.std.proofs.Common.{◌≡◌, ℕ, List, Option, sym, ap, ◌∙◌, subst}
use Rattle.std.proofs.lemmas.List.Sorted.{IsPermutation-sym}
use Rattle.flu_lemmas.proofs.Told.{told_weaker}
use Rattle.flu_cells.specs.declared.state.State.{State}
use Rattle.flu_cells.specs.Holding.{held}
use Rattle.flu_model.specs.declared.events.Item.{Item}
use Rattle.flu_model.specs.declared.jobs.Program.{Program}
use Rattle.flu_model.specs.Folding.{final_state, final_outputs}
use Rattle.flu_model.specs.Reports.{report}
use Rattle.flu_outside.specs.Outside.{Contents as Files, WhereTold}
use Rattle.flu_outside.specs.Writing.{AppendsAll, AppendsPart}
use Rattle.flu_rows.specs.declared.rows.Next.{Next}
use Rattle.flu_streams.specs.declared.border.Border.{Border}
use Rattle.flu_streams.specs.Holding.{Holding, AreInAll, Fills, Cuts, border_after}
use Rattle.flu_streams.specs.Rounds.{IsRound, lists_between}
use Rattle.flu_rounds.specs.Standing.{Standing, round_lists, round_report}
use Rattle.flu_rounds.specs.Halves.{LawOfParts, LawOfHalves, LawOfHalf}

-- ---- the first half: a refill and a cut
-- what a refill read is what the cut leaves read
fills_cut : (old mid new : Holding) (left left' : Option Files) (end : Border) (before : ℕ → List Next)
    → (fills : Fills old mid left left' end before) → Cuts mid new end
    → WhereTold left left' (λ was is. (whole : ℕ → List Next) → AreInAll old before was whole
    → IsRound old.program old.rows old.border whole before fills.now end × AreInAll new fills.now is whole)
fills_cut old mid new left left' end before fills cuts =
    told_weaker
    (λ was is. (whole : ℕ → List Next) → AreInAll old before was whole → IsRound old.program old.rows old.border whole before fills.now end
    × AreInAll mid fills.now is whole)
    (λ was is. (whole : ℕ → List Next) → AreInAll old before was whole → IsRound old.program old.rows old.border whole before fills.now end
    × AreInAll new fills.now is whole)
    left left' (λ was is f whole all. let k = f whole all in (k.0, cuts.still' fills.now whole is k.1)) fills.round

pub law_of_parts : LawOfParts
law_of_parts p old mid new left left' end opening rows job was keeps filled cuts lists = (
  record {
    state = was;
    filled = λ before behind. let fills = filled before behind in (
      record { now = fills.now; behind = cuts.behind fills.now fills.behind; round = fills_cut old.held mid new left left' end before fills cuts },
      lists fills.now fills.behind ∙ (λ i. lists_between (sym job i) (keeps.border i) end fills.now),
    );
  },
  record {
    program = cuts.program ∙ keeps.program;
    rows = cuts.rows ∙ keeps.rows;
    border = cuts.border ∙ ap (border_after end) keeps.border;
    stage = cuts.stage;
  },
)

-- ---- both halves
text_is : (p : Program) (old : Standing) (end : Border) (opening : State) (rows : List (List Item)) (now : ℕ → List Next) → p ≡ old.held.program
    → held opening ≡ held old.state → rows ≡ round_lists old end now → report p (final_outputs p (held opening) rows) ≡ round_report old end now
text_is p old end opening rows now job state lists = λ i. report (job i) (final_outputs (job i) (state i) (lists i))

pub law_of_halves : LawOfHalves
law_of_halves p old new left left' end opening state rows outs had has job began ran is wrote before behind =
    let filled = began.filled before behind in (
      record {
        fills = filled.0;
        state = is ∙ ran.state' ∙ (λ i. final_state (job i) (began.state i) (filled.1 i));
      },
      subst (λ (bytes : List ℕ). WhereTold had has (AppendsAll bytes)) (text_is p old end opening rows filled.0.now job began.state filled.1)
          (wrote (final_outputs p (held opening) rows) (IsPermutation-sym _ _ ran.outs')),
    )

pub law_of_half : LawOfHalf
law_of_half p old new left left' end opening state rows outs had has job began ran wrote before behind =
    let filled = began.filled before behind in
    let fills = filled.0 in (
      end,
      fills.now,
      record {
        round = told_weaker
            (λ was is. (whole : ℕ → List Next) → AreInAll old.held before was whole
            → IsRound old.held.program old.held.rows old.held.border whole before fills.now end × AreInAll new fills.now is whole)
            (λ was is. (whole : ℕ → List Next) → AreInAll old.held before was whole
            → IsRound old.held.program old.held.rows old.held.border whole before fills.now end)
            left left' (λ was is g whole all. (g whole all).0) fills.round;
      },
      subst (λ (bytes : List ℕ). WhereTold had has (AppendsPart bytes)) (text_is p old end opening rows fills.now job began.state filled.1)
          (wrote (final_outputs p (held opening) rows) (IsPermutation-sym _ _ ran.outs')),
    )
