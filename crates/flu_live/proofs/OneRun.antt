-- A seed draws one run.
use Rattle.std.proofs.Common.{◌≡◌, ◌+◌, ◌<◌, ℕ, Some, List, [], ◌∷◌, ◌++◌, map, length, inl, inr, refl, sym, ap, subst, ◌∙◌, arith}
use Rattle.std.specs.Prelude.{filter, slice_get}
use Rattle.std.specs.List.{flat_map, range_with_len}
use Rattle.std.proofs.lemmas.Bool.{cases_lt}
use Rattle.std.proofs.lemmas.List.{length-append}
use Rattle.std.proofs.lemmas.Option.{same_Some}
use Rattle.flu_draw.specs.Draws.{next_draw}
use Rattle.flu_fork.specs.declared.content.Content.{Content}
use Rattle.flu_net.specs.declared.steps.Step.{Step}
use Rattle.flu_net.specs.Alike.{View, view_in, AreAlike, AlikeAreEnabled, StartsAreAlike, StepsKeepAlike}
use Rattle.flu_net.specs.Effects.{Makes}
use Rattle.flu_net.specs.Enabled.{is_enabled}
use Rattle.flu_net.specs.Notes.{NetNote}
use Rattle.flu_live.specs.declared.counts.StepCounts.{StepCounts}
use Rattle.flu_live.specs.OneRun.{IsSameRun, OneRunASeed, OneLineASeed, OneTraceASeed}
use Rattle.flu_live.specs.Possible.{all_steps, arrival, enabled_among, enabled_steps, steps_of}
use Rattle.flu_live.specs.Seeded.{IsDrawn, IsWholeRun, Reaches, begun, counting, made, marked, place_of}

-- what the laws of the net say
pub record StepsDetermine : Type 0 where
  pub start : StartsAreAlike
  pub step : StepsKeepAlike
  pub enabled : AlikeAreEnabled

-- the steps that a net may have, by its view
over_view : View → List Step
over_view c = map arrival (range_with_len 0 c.count) ++ flat_map steps_of (range_with_len 0 (length c.nodes))

-- nets that are alike have the same steps enabled, in the same order
same_enabled : StepsDetermine → (k : View) (n m : NetNote) → AreAlike k n m → enabled_steps n ≡ enabled_steps m
unfolding all_steps enabled_among over_view
same_enabled laws k n m t =
    let case : view_in n.case ≡ view_in m.case = t.case ∙ sym t.same_case in
    let on : (s : Step) → is_enabled n s ≡ is_enabled m s = λ s. laws.enabled k n m s t in
    λ j. filter (λ s. on s j) (over_view (case j))

one_more : (done : List Step) (s : Step) → length (done ++ s ∷ []) ≡ length done + 1
one_more done s = length-append done (s ∷ [])

-- two runs of as many steps
record AreSame (k : View) (n m : NetNote) (done more : List Step) (x y : ℕ) (steps counts : StepCounts) (mark sign : ℕ) : Type 0 where
  alike : AreAlike k n m
  done_is : more ≡ done
  drawn_is : y ≡ x
  steps_is : counts ≡ steps
  mark_is : sign ≡ mark

module _ (laws : StepsDetermine) (k j : Content) (seed : ℕ) (same : view_in j ≡ view_in k) where
  -- one step later
  next_same : (old new before behind : NetNote) (done more : List Step) (x y : ℕ) (steps counts : StepCounts) (mark sign : ℕ) (place spot : ℕ) (s r : Step)
      → AreSame (view_in k) old before done more x y steps counts mark sign → IsDrawn old (next_draw x) place s → IsDrawn before (next_draw y) spot r
      → Makes s old new → Makes r before behind
      → AreSame (view_in k) new behind (done ++ s ∷ []) (more ++ r ∷ []) (next_draw x) (next_draw y) (counting s steps) (counting r counts)
      (marked mark place) (marked sign spot)
  next_same old new before behind done more x y steps counts mark sign place spot s r was a b does made_too =
      let on : enabled_steps old ≡ enabled_steps before = same_enabled laws (view_in k) old before was.alike in
      let places : spot ≡ place = b.at ∙ (λ i. place_of (next_draw (was.drawn_is i)) (length (sym on i))) ∙ sym a.at in
      let step : r ≡ s = same_Some r s (sym b.is ∙ (λ i. slice_get (sym on i) (places i)) ∙ a.is) in
      record {
        alike = laws.step (view_in k) s old new before behind was.alike does (subst (λ t. Makes t before behind) step made_too);
        done_is = λ i. was.done_is i ++ step i ∷ [];
        drawn_is = ap next_draw was.drawn_is;
        steps_is = λ i. counting (step i) (was.steps_is i);
        mark_is = λ i. marked (was.mark_is i) (places i);
      }

  as_many : (n m : NetNote) (done more : List Step) (x y : ℕ) (steps counts : StepCounts) (mark sign : ℕ) → Reaches k seed n done x steps mark
      → Reaches j seed m more y counts sign → length done ≡ length more → AreSame (view_in k) n m done more x y steps counts mark sign
  as_many n m done more x y steps counts mark sign (begun start) (begun begins) e = record {
    alike = laws.start k j n m same start begins;
    done_is = refl;
    drawn_is = refl;
    steps_is = refl;
    mark_is = refl;
  }
  as_many n m done more x y steps counts mark sign (begun start) (made {done = before} {s = r} run drawn does) e =
      absurd (let long = one_more before r in omega arith)
  as_many n m done more x y steps counts mark sign (made {done = before} {s = s} run drawn does) (begun begins) e =
      absurd (let long = one_more before s in omega arith)
  as_many n m done more x y steps counts mark sign
      (made {old = old} {new = new} {done = d} {x = p} {place = place} {s = s} {steps = c} {mark = q} run drawn does)
      (made {old = before} {new = behind} {done = l} {x = u} {place = spot} {s = r} {steps = v} {mark = w} ran drew made_too) e =
      next_same old new before behind d l p u c v q w place spot s r
      (as_many old before d l p u c v q w run ran (let a = one_more d s in let b = one_more l r in omega arith)) drawn drew does made_too

  -- a run that has fewer steps than another has steps enabled
  has_more : (n m : NetNote) (done more : List Step) (x y : ℕ) (steps counts : StepCounts) (mark sign : ℕ) → Reaches k seed n done x steps mark
      → Reaches j seed m more y counts sign → length done < length more → enabled_steps n ≡ [] → ⊥
  has_more n m done more x y steps counts mark sign run (begun begins) lt none = absurd (omega arith)
  has_more n m done more x y steps counts mark sign run
      (made {old = before} {new = behind} {done = l} {x = u} {place = spot} {s = r} {steps = v} {mark = w} ran drew does) lt none =
      elim (cases_lt (length done) (length l)) [
        | inl less ↦ has_more n before done l x u steps v mark w run ran less none
        | inr ge ↦
            let long = one_more l r in
            let was = as_many n before done l x u steps v mark w run ran (omega arith) in
            let on : enabled_steps n ≡ enabled_steps before = same_enabled laws (view_in k) n before was.alike in
            nothing spot r (sym (ap (λ l. slice_get l spot) (sym on ∙ none)) ∙ drew.is)
      ]
    where
      nothing : (i : ℕ) (s : Step) → slice_get {X = Step} [] i ≡ Some s → ⊥
      nothing i s e = cc

pub one_run : StepsDetermine → OneRunASeed
one_run laws k j seed done more steps counts mark sign same a b =
    elim (cases_lt (length done) (length more)) as (λ _. IsSameRun done more steps counts mark sign) [
      | inl less ↦ absurd (has_more laws k j seed same a.net b.net done more a.last b.last steps counts mark sign a.run b.run less a.ended)
      | inr ge ↦ elim (cases_lt (length more) (length done)) as (λ _. IsSameRun done more steps counts mark sign) [
        | inl less ↦ absurd (has_more laws j k seed (sym same) b.net a.net more done b.last a.last counts steps sign mark b.run a.run less b.ended)
        | inr le ↦
            let r = as_many laws k j seed same a.net b.net done more a.last b.last steps counts mark sign a.run b.run (omega arith) in
            record { done_is = r.done_is; steps_is = r.steps_is; mark_is = r.mark_is }
      ]
    ]

pub one_line : StepsDetermine → OneLineASeed
one_line laws k j seed steps counts mark sign same a b =
    let r = one_run laws k j seed a.done b.done steps counts mark sign same a.run b.run in
    (r.steps_is, r.mark_is)

pub one_trace : StepsDetermine → OneTraceASeed
one_trace laws k j seed done more same a b = (one_run laws k j seed done more a.steps b.steps a.mark b.mark same a.run b.run).done_is
