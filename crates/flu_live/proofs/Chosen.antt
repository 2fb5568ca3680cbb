-- Lists of possible steps and of the enabled ones among them, one more at a time.
use Rattle.std.proofs.Common.{◌≡◌, ◌+◌, ◌<◌, ℕ, Bool, true, false, cond, Some, List, [], ◌∷◌, ◌++◌, map, length, get_or, take, refl, sym, ap, subst, ◌∙◌, arith}
use Rattle.std.specs.Prelude.{slice_get, filter}
use Rattle.std.specs.Bool.{OnTrue, OnFalse}
use Rattle.std.specs.List.{flat_map, range_with_len}
use Rattle.std.proofs.lemmas.List.{flat_map_more}
use Rattle.std.proofs.lemmas.List.Elements.{filter-append, filter_more, filter_passes}
use Rattle.std.proofs.lemmas.Option.{get_or_from_slice_get, slice_get_within}
use Rattle.std.proofs.lemmas.List.FromFn.{map-range_with_len_more}
use Rattle.flu_lemmas.proofs.Ranges.{range_append}
use Rattle.flu_model.specs.Itags.{count_of_itags}
use Rattle.flu_fork.specs.Lots.{job, nodes}
use Rattle.flu_net.specs.declared.steps.Step.{Step}
use Rattle.flu_net.specs.Enabled.{is_enabled}
use Rattle.flu_net.specs.Notes.{NetNote}
use Rattle.flu_live.specs.Possible.{all_steps, arrival, enabled_among, enabled_steps, steps_of}

-- what each number below n gives, and then what n gives
pub each_more : {X : Type 0} (front : List X) (f : ℕ → List X) (n : ℕ)
    → (front ++ flat_map f (range_with_len 0 n)) ++ f n ≡ front ++ flat_map f (range_with_len 0 (n + 1))
each_more front f n =
    let same : 0 + n ≡ n = omega arith in
    flat_map_more f front (range_with_len 0 n) n ∙ ap (λ l. front ++ flat_map f l) (sym (range_append 0 n 1 ∙ ap (λ k. range_with_len 0 n ++ k ∷ []) same))

-- of one step more the enabled ones are those, and the step where it is enabled
pub among_more : (n : NetNote) (steps : List Step) (i : ℕ) (d : Step) → i < length steps
    → enabled_among n (take (i + 1) steps) ≡ enabled_among n (take i steps) ++ enabled_among n (get_or steps i d ∷ [])
unfolding enabled_among
among_more n steps i d there = filter_more (is_enabled n) steps i d there

pub one_more_of : (n : NetNote) (steps : List Step) (i : ℕ) (d : Step) (old new : List Step) → i < length steps → old ≡ enabled_among n (take i steps)
    → new ≡ old ++ enabled_among n (get_or steps i d ∷ []) → new ≡ enabled_among n (take (i + 1) steps)
one_more_of n steps i d old new there was is = is ∙ ap (λ l. l ++ enabled_among n (get_or steps i d ∷ [])) was ∙ sym (among_more n steps i d there)

pub none_more : (n : NetNote) (steps : List Step) (i : ℕ) (d : Step) → i < length steps → enabled_among n (take i steps) ≡ []
    → enabled_among n (get_or steps i d ∷ []) ≡ []
    → enabled_among n (take (i + 1) steps) ≡ []
none_more n steps i d there was off = among_more n steps i d there ∙ ap (λ l. l ++ enabled_among n (get_or steps i d ∷ [])) was ∙ off

pub among_both : (n : NetNote) (xs ys : List Step) → enabled_among n (xs ++ ys) ≡ enabled_among n xs ++ enabled_among n ys
unfolding enabled_among
among_both n xs ys = filter-append (is_enabled n) xs ys

pub among_none : (n : NetNote) → enabled_among n [] ≡ []
unfolding enabled_among
among_none n = refl

-- a step, as the list of it where it is enabled
pub one_on : (n : NetNote) (s : Step) → is_enabled n s ≡ true → enabled_among n (s ∷ []) ≡ s ∷ []
unfolding enabled_among
one_on n s on = ap (λ b. cond b (s ∷ []) []) on

pub one_off : (n : NetNote) (s : Step) → is_enabled n s ≡ false → enabled_among n (s ∷ []) ≡ []
unfolding enabled_among
one_off n s off = ap (λ b. cond b (s ∷ []) []) off

-- each of them is enabled
pub is_on : (n : NetNote) (steps : List Step) (i : ℕ) (s : Step) → slice_get (enabled_among n steps) i ≡ Some s → is_enabled n s ≡ true
unfolding enabled_among
is_on n steps i s at =
    let there : i < length (filter (is_enabled n) steps) = slice_get_within (filter (is_enabled n) steps) i s at in
    sym (ap (is_enabled n) (get_or_from_slice_get (filter (is_enabled n) steps) i s s at)) ∙ filter_passes (is_enabled n) steps i s there

pub on_one : (n : NetNote) (s : Step) → enabled_among n (s ∷ []) ≡ s ∷ [] → is_enabled n s ≡ true
on_one n s one = is_on n (s ∷ []) 0 s (ap (λ l. slice_get l 0) one)

pub told_on : (n : NetNote) (s : Step) (b : Bool) → b ≡ is_enabled n s → OnTrue b (enabled_among n (s ∷ []) ≡ s ∷ [])
told_on n s true e = one_on n s (sym e)
told_on n s false e = tt

pub told_off : (n : NetNote) (s : Step) (b : Bool) → b ≡ is_enabled n s → OnFalse b (enabled_among n (s ∷ []) ≡ [])
told_off n s true e = tt
told_off n s false e = one_off n s (sym e)

-- ---- none of the first arrivals, and of what the first workers may do
pub arrival_more : (n : NetNote) (i : ℕ) → enabled_among n (map arrival (range_with_len 0 i)) ≡ [] → enabled_among n (arrival i ∷ []) ≡ []
    → enabled_among n (map arrival (range_with_len 0 (i + 1))) ≡ []
arrival_more n i was off =
    ap (enabled_among n) (map-range_with_len_more arrival 0 i i (omega arith)) ∙ among_both n (map arrival (range_with_len 0 i)) (arrival i ∷ [])
    ∙ ap (λ l. l ++ enabled_among n (arrival i ∷ [])) was ∙ off

pub doing_more : (n : NetNote) (w : ℕ) → enabled_among n (flat_map steps_of (range_with_len 0 w)) ≡ [] → enabled_among n (steps_of w) ≡ []
    → enabled_among n (flat_map steps_of (range_with_len 0 (w + 1))) ≡ []
doing_more n w was off =
    ap (enabled_among n) (sym (each_more [] steps_of w)) ∙ among_both n (flat_map steps_of (range_with_len 0 w)) (steps_of w)
    ∙ ap (λ l. l ++ enabled_among n (steps_of w)) was ∙ off

pub none_left : (n : NetNote) (w : ℕ) → w ≡ length (nodes n.case) → enabled_among n (map arrival (range_with_len 0 (count_of_itags (job n.case)))) ≡ []
    → enabled_among n (flat_map steps_of (range_with_len 0 w)) ≡ [] → enabled_steps n ≡ []
unfolding all_steps
none_left n w all first later =
    among_both n (map arrival (range_with_len 0 (count_of_itags (job n.case)))) (flat_map steps_of (range_with_len 0 (length (nodes n.case))))
    ∙ ap (λ l. l ++ enabled_among n (flat_map steps_of (range_with_len 0 (length (nodes n.case))))) first
    ∙ subst (λ m. enabled_among n (flat_map steps_of (range_with_len 0 m)) ≡ []) all later
