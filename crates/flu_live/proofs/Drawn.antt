-- The steps that are drawn are possible ones.
use Rattle.std.proofs.Common.{◌≡◌, ◌+◌, ◌<◌, ℕ, zero, suc, true, Some, List, [], ◌∷◌, map, length, ap, subst, ◌∙◌, arith}
use Rattle.std.specs.Prelude.{filter, slice_get}
use Rattle.std.specs.List.{AllByRecursion, flat_map, range_with_len}
use Rattle.flu_lemmas.proofs.Elements.{all_append, all_filter, all_map, all_push}
use Rattle.flu_model.specs.Itags.{count_of_itags}
use Rattle.flu_fork.specs.declared.content.Content.{Content}
use Rattle.flu_fork.specs.Lots.{job, nodes}
use Rattle.flu_net.specs.declared.steps.Step.{Step}
use Rattle.flu_net.specs.declared.steps.Step.TheVariants.{Arrive, Handle, Ask, Take, Give, Hold, Lend}
use Rattle.flu_net.specs.Effects.{Makes}
use Rattle.flu_net.specs.Enabled.{is_enabled}
use Rattle.flu_net.specs.Notes.{NetNote}
use Rattle.flu_live.specs.declared.counts.StepCounts.{StepCounts}
use Rattle.flu_live.specs.Possible.{IsPossible, all_steps, arrival, enabled_among, enabled_steps, steps_of}
use Rattle.flu_live.specs.Seeded.{IsWholeRun, Reaches, begun, made}

-- ---- lists of numbers, and what each of them gives
in_range : (P : ℕ → Type 0) (lo n : ℕ) → ((i : ℕ) → i < lo + n → P i) → AllByRecursion P (range_with_len lo n)
in_range P lo zero each = tt
in_range P lo (suc n) each = (each lo (omega arith), in_range P (lo + 1) n (λ i lt. each i (omega arith)))

below : (P : ℕ → Type 0) (n : ℕ) → ((i : ℕ) → i < n → P i) → AllByRecursion P (range_with_len 0 n)
below P n each = in_range P 0 n (λ i lt. each i (omega arith))

mapped : (P : Step → Type 0) (f : ℕ → Step) (xs : List ℕ) → AllByRecursion (λ x. P (f x)) xs → AllByRecursion P (map f xs)
mapped P f [] all = tt
mapped P f (x ∷ xs) all = (all.0, mapped P f xs all.1)

given : (P : Step → Type 0) (f : ℕ → List Step) (xs : List ℕ) → AllByRecursion (λ x. AllByRecursion P (f x)) xs → AllByRecursion P (flat_map f xs)
given P f [] all = tt
given P f (x ∷ xs) all = all_append P (f x) (flat_map f xs) all.0 (given P f xs all.1)

at_place : (P : Step → Type 0) (xs : List Step) (i : ℕ) (s : Step) → AllByRecursion P xs → slice_get xs i ≡ Some s → P s
at_place P [] i s all here = absurd (cc)
at_place P (x ∷ xs) zero s all here = let same : x ≡ s = cc in subst P same all.0
at_place P (x ∷ xs) (suc i) s all here = at_place P xs i s all.1 here

-- ---- each step in the order of the seeded schedule is a possible one
all_possible : (k : Content) → AllByRecursion (IsPossible k) (all_steps k)
unfolding all_steps
all_possible k =
    all_append (IsPossible k) (map arrival (range_with_len 0 (count_of_itags (job k)))) (flat_map steps_of (range_with_len 0 (length (nodes k))))
    (mapped (IsPossible k) arrival (range_with_len 0 (count_of_itags (job k))) (below (λ i. IsPossible k (arrival i)) (count_of_itags (job k)) (λ i lt. lt)))
    (given (IsPossible k) steps_of (range_with_len 0 (length (nodes k)))
    (below (λ w. AllByRecursion (IsPossible k) (steps_of w)) (length (nodes k)) (λ w lt. (lt, (lt, (lt, (lt, (lt, (lt, (lt, (lt, (lt, tt))))))))))))

drawn_possible : (n : NetNote) (place : ℕ) (s : Step) → slice_get (enabled_steps n) place ≡ Some s → IsPossible n.case s
unfolding enabled_among
drawn_possible n place s at =
    at_place (IsPossible n.case) (filter (is_enabled n) (all_steps n.case)) place s
    (all_filter (IsPossible n.case) (is_enabled n) (all_steps n.case)
    (all_map (IsPossible n.case) (λ x. is_enabled n x ≡ true → IsPossible n.case x) (all_steps n.case) (λ x is on. is) (all_possible n.case)))
    at

-- ---- and so is each step of a run
makes_case : (s : Step) (old new : NetNote) → Makes s old new → new.case ≡ old.case
makes_case (Arrive i) old new does = ap (λ n. n.case) does
makes_case (Handle w) old new does = does.step.case
makes_case (Ask w side) old new does = does.step.case
makes_case (Take w side) old new does = does.step.case
makes_case (Give w) old new does = does.step.case
makes_case (Hold w) old new does = does.step.case
makes_case (Lend w side) old new does = does.step.case

run_possible : (k : Content) (seed : ℕ) (n : NetNote) (done : List Step) (x : ℕ) (steps : StepCounts) (mark : ℕ) → Reaches k seed n done x steps mark
    → (n.case ≡ k) × AllByRecursion (IsPossible k) done
run_possible k seed n done x steps mark (begun start) = (start.case, tt)
run_possible k seed n done x steps mark (made {old = old} {new = new} {done = before} {x = y} {place = place} {s = s} {steps = so_far} {mark = m} run drawn
    does) =
    let earlier = run_possible k seed old before y so_far m run in (
      makes_case s old new does ∙ earlier.0,
      all_push (IsPossible k) before s earlier.1 (subst (λ c. IsPossible c s) earlier.0 (drawn_possible old place s drawn.is)),
    )

pub whole_possible : (k : Content) (seed : ℕ) (done : List Step) (steps : StepCounts) (mark : ℕ) → IsWholeRun k seed done steps mark
    → AllByRecursion (IsPossible k) done
whole_possible k seed done steps mark whole = (run_possible k seed whole.net done whole.last steps mark whole.run).1
