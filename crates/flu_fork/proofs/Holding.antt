-- What fits a node holds values of the job's sorts.
use Rattle.std.proofs.Common.{◌≡◌, Bool, true, Option, None, List, [], ◌∷◌, inl, inr, sym, subst}
use Rattle.std.specs.List.{filter, AllByRecursion}
use Rattle.std.proofs.lemmas.Bool.{cases_Bool}
use Rattle.flu_lemmas.proofs.Elements.{all_map, all_filter}
use Rattle.flu_model.specs.declared.events.Cell.{Cell}
use Rattle.flu_model.specs.declared.events.Worth.{Worth}
use Rattle.flu_model.specs.declared.jobs.Program.{Program}
use Rattle.flu_model.specs.Sorts.{MayHold, IsStateOf}
use Rattle.flu_laws.specs.Changes.{applied}
use Rattle.flu_laws.specs.Spans.{Moment, is_below, is_between, change_at, changed_by}
use Rattle.flu_laws.specs.Updating.{ChangesKeepSorts}
use Rattle.flu_fork.specs.LawsBelow.{LawsBelow}
use Rattle.flu_fork.specs.Settings.{moments}
use Rattle.flu_fork.specs.Classes.{is_base, is_away}
use Rattle.flu_fork.specs.Laws.{FittingHasSorts}
use Rattle.flu_fork.proofs.Moments.{moments_sorted}

changed_holds : ChangesKeepSorts → (p : Program) (c : Cell) (ms : List Moment) (w : Option Worth)
    → AllByRecursion (λ (m : Moment). IsStateOf p.families m.before) ms → MayHold p.families c w → MayHold p.families c (changed_by p c w ms)
changed_holds keeps p c [] w all holds = holds
changed_holds keeps p c (m ∷ ms) w all holds = changed_holds keeps p c ms (applied (change_at p c m) w) all.1 (keeps p m.before m.event c w all.0 holds)

chosen_holds : ChangesKeepSorts → (p : Program) (c : Cell) (f : Moment → Bool) (ms : List Moment) (w : Option Worth)
    → AllByRecursion (λ (m : Moment). IsStateOf p.families m.before) ms → MayHold p.families c w → MayHold p.families c (changed_by p c w (filter f ms))
chosen_holds keeps p c f ms w all holds =
    changed_holds keeps p c (filter f ms) w
    (all_filter (λ (m : Moment). IsStateOf p.families m.before) f ms
    (all_map (λ (m : Moment). IsStateOf p.families m.before) (λ (m : Moment). f m ≡ true → IsStateOf p.families m.before) ms (λ m h e. h) all))
    holds

pub fitting_law : LawsBelow → FittingHasSorts
fitting_law laws k w s since upto ok lt fits c =
    let keeps = laws.changes_keep_sorts in
    let all = moments_sorted laws k ok in
    elim (cases_Bool (is_base k.program k.nodes w c)) [
      | inl base ↦
          subst (MayHold k.program.families c) (sym (fits.cells.base c base))
          (chosen_holds keeps k.program c (is_below upto) (moments k) (k.opening c) all (ok.opening_sorts c))
      | inr not_base ↦ elim (cases_Bool (is_away k.program k.nodes w c)) [
        | inl away ↦ subst (MayHold k.program.families c) (sym (fits.cells.away c away)) tt
        | inr here ↦
            subst (MayHold k.program.families c) (sym (fits.cells.rest c not_base here))
            (chosen_holds keeps k.program c (is_between since upto) (moments k) None all tt)
      ]
    ]
