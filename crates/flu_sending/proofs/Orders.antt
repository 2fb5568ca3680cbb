-- The lines of what is sent come in the order of a partial.
use Rattle.std.proofs.Common.{◌≡◌, ◌+◌, ℕ, Bool, true, false, cond, Some, None, List, [], ◌∷◌, ◌++◌, length, map, refl, ap, ◌∙◌}
use Rattle.std.specs.Prelude.{Option, not, ◌==◌, ◌&&◌}
use Rattle.std.specs.List.{AllByRecursion}
use Rattle.flu_lemmas.proofs.Elements.{all_of_any}
use Rattle.flu_lemmas.proofs.Tests.{both}
use Rattle.flu_model.specs.declared.events.Event.{Event}
use Rattle.flu_model.specs.declared.events.Out.{Out}
use Rattle.flu_model.specs.declared.jobs.Program.{Program}
use Rattle.flu_model.specs.declared.plans.Node.{Node}
use Rattle.flu_model.specs.Contents.{Contents, nothing_held}
use Rattle.flu_model.specs.Folding.{outputs_with}
use Rattle.flu_model.specs.Merging.{merged}
use Rattle.flu_model.specs.Updates.{effect_of}
use Rattle.flu_laws.specs.Consistency.{within, outside}
use Rattle.flu_contribution.specs.Contributions.{keeps, is_inside, is_above, Contribution, contributions_from}
use Rattle.flu_contribution.specs.Sending.{sent}
use Rattle.flu_contribution.specs.Sharing.{RiseStrictly}
use Rattle.flu_partial.specs.declared.order.Reached.{Reached}
use Rattle.flu_partial.specs.declared.order.Reached.TheVariants.{Head, Event as AtEvent}
use Rattle.flu_partial.specs.Order.{is_after, is_empty, is_open, AreRest}
use Rattle.flu_handover.specs.Handing.{line_of}
use Rattle.flu_sending.specs.Laws.{SentLinesMayCome}

-- what has events contributes something
with_events : (a b : Bool) → not ((a && false) && b) ≡ true
with_events true b = refl
with_events false b = refl

-- a contribution that is open, and one that is closed before an event
abbrev open_one : Contents → List Out → ℕ → Contribution
open_one cells outputs n = record { cells = cells; outputs = outputs; count = n; before = None }

abbrev closed_one : Contents → List Out → ℕ → Event → Contribution
closed_one cells outputs n y = record { cells = cells; outputs = outputs; count = n; before = Some y }

module _ (p : Program) (nodes : List Node) (w : ℕ) (last : Option ℕ) where
  -- their lines come after what was reached
  abbrev MayFollow : Reached → List Contribution → Type 0
  MayFollow r ks = AreRest r (map (line_of p last) (sent ks))

  abbrev IsAhead : Reached → List Event → Type 0
  IsAhead r xs = AllByRecursion (λ (y : Event). is_after r y.time y.itag.0 ≡ true) xs

  last_follows : (cells : Contents) (outputs : List Out) (n : ℕ) (r : Reached) → is_open r ≡ true → MayFollow r (open_one cells outputs n ∷ [])
  last_follows cells outputs n r still = by (n == 0)
    where
      by : (b : Bool)
          → AreRest r (map (line_of p last) (cond (not (b && false)) (open_one cells outputs n ∷ []) []))
      by true = (still, refl)
      by false = (still, refl)

  closed_follows : (cells : Contents) (outputs : List Out) (n : ℕ) (y : Event) (r : Reached) (ks : List Contribution)
      → is_after r y.time y.itag.0 ≡ true → MayFollow r ks → MayFollow (AtEvent y.time y.itag) ks → MayFollow r (closed_one cells outputs n y ∷ ks)
  closed_follows cells outputs n y r ks after without with_it =
      let k = closed_one cells outputs n y in
      let line = line_of p last k in
      elim (n == 0) as (λ b. (n == 0) ≡ b → AreRest r (map (line_of p last) (cond (not (b && true)) (k ∷ sent ks) (sent ks)))) [
        | true ↦ λ e. without
        | false ↦ λ e. (
          both (is_after r y.time y.itag.0) (not (is_empty line)) after
              (ap (λ b. not (((length line.cells == 0) && b) && (length line.outs == 0))) e
              ∙ with_events (length line.cells == 0) (length line.outs == 0)),
          with_it,
        )
      ] refl

  all_follow : (cells : Contents) (outputs : List Out) (n : ℕ) (xs : List Event) (r : Reached) → is_open r ≡ true → IsAhead r xs → RiseStrictly xs
      → MayFollow r (contributions_from p nodes w (open_one cells outputs n) xs)
  all_follow cells outputs n [] r still ahead up = last_follows cells outputs n r still
  all_follow cells outputs n (x ∷ xs) r still ahead up =
      let e = effect_of p cells x in
      let kept = within (keeps p nodes w) cells in
      let others = outside (keeps p nodes w) cells in
      let next = contributions_from p nodes w (open_one kept [] 0) xs in
      let more = open_one e.cells (outputs ++ outputs_with p x e.texts) (n + 1) in
      by (is_inside p nodes w x) (is_above p nodes w x) (contributions_from p nodes w more xs) (closed_one others outputs n x ∷ next)
      (contributions_from p nodes w (open_one cells outputs n) xs)
      (all_follow e.cells (outputs ++ outputs_with p x e.texts) (n + 1) xs r still ahead.1 up.1)
      (closed_follows others outputs n x r next ahead.0 (all_follow kept [] 0 xs r still ahead.1 up.1)
      (all_follow kept [] 0 xs (AtEvent x.time x.itag) refl up.0 up.1))
      (all_follow cells outputs n xs r still ahead.1 up.1)
    where
      by : (i a : Bool) (inner above other : List Contribution) → MayFollow r inner → MayFollow r above → MayFollow r other
          → MayFollow r (cond i inner (cond a above other))
      by true a inner above other f g h = f
      by false true inner above other f g h = g
      by false false inner above other f g h = h

pub lines_may_come : SentLinesMayCome
lines_may_come p nodes w last lists up =
    all_follow p nodes w last (within (keeps p nodes w) nothing_held) [] 0 (merged lists) Head refl
    (all_of_any (λ (y : Event). is_after Head y.time y.itag.0 ≡ true) (λ y. refl) (merged lists)) up
