-- No possible step is enabled exactly where no step at all is.
use Rattle.std.proofs.Common.{◌≡◌, ◌+◌, ◌<◌, ℕ, zero, suc, Bool, true, false, cond, Option, Some, None, List, [], ◌∷◌, ◌++◌, map, length, refl, subst, arith}
use Rattle.std.specs.Prelude.{◌↔◌, IfSome, IfNone, IsNone, filter, is_some, not, slice_get, slice_index, slice_index_or}
use Rattle.std.specs.List.{AllByRecursion, flat_map, range_with_len}
use Rattle.flu_lemmas.proofs.Elements.{all_back, all_front, all_of_each}
use Rattle.flu_lemmas.proofs.Mapped.{all_of_mapped}
use Rattle.flu_lemmas.proofs.Places.{slice_get-within}
use Rattle.flu_lemmas.proofs.Tests.{and_right, not_both, true_lt}
use Rattle.flu_model.specs.declared.events.Itag.{Itag}
use Rattle.flu_model.specs.declared.events.Item.{Item}
use Rattle.flu_model.specs.Itags.{count_of_itags}
use Rattle.flu_model.specs.Listed.{listed}
use Rattle.flu_deps.specs.Owned.{kids_of}
use Rattle.flu_fork.specs.Lots.{job, nodes}
use Rattle.flu_worker.specs.Choosing.{next_of}
use Rattle.flu_worker.specs.Hands.{may_lend}
use Rattle.flu_worker.specs.declared.hand.Side.{Side}
use Rattle.flu_worker.specs.declared.hand.Side.TheVariants.{Left, Right}
use Rattle.flu_net.specs.declared.steps.Step.{Step}
use Rattle.flu_net.specs.declared.steps.Step.TheVariants.{Arrive, Handle, Ask, Take, Give, Hold, Lend}
use Rattle.flu_net.specs.Enabled.{aims, by_step, gives_for, if_there, is_enabled, is_given, is_held, is_lent}
use Rattle.flu_net.specs.Notes.{NetNote, edge_at, edge_below, kid_of, side_of}
use Rattle.flu_net.specs.Rule.{Rule}
use Rattle.flu_net.specs.Final.{IsFinal}
use Rattle.flu_live.proofs.Chosen.{on_one}
use Rattle.flu_live.specs.Possible.{all_steps, arrival, enabled_among, enabled_steps, steps_of}

-- ---- lists of which nothing passes
pub none_passes : {X : Type 0} (p : X → Bool) (xs : List X) → filter p xs ≡ [] → AllByRecursion (λ x. p x ≡ false) xs
none_passes p [] e = tt
none_passes p (x ∷ xs) e =
    elim (p x) as (λ b. cond b (x ∷ filter p xs) (filter p xs) ≡ [] → (b ≡ false) × AllByRecursion (λ y. p y ≡ false) xs) [
      | true ↦ λ some. absurd (cc)
      | false ↦ λ rest. (refl, none_passes p xs rest)
    ] e

at_number : (P : ℕ → Type 0) (lo n i : ℕ) → AllByRecursion P (range_with_len lo n) → i < n → P (lo + i)
at_number P lo zero i all lt = absurd (omega arith)
at_number P lo (suc n) zero all lt = let same : lo ≡ lo + 0 = omega arith in subst P same all.0
at_number P lo (suc n) (suc i) all lt = let same : lo + 1 + i ≡ lo + suc i = omega arith in subst P same (at_number P (lo + 1) n i all.1 (omega arith))

from_zero : (P : ℕ → Type 0) (n i : ℕ) → AllByRecursion P (range_with_len 0 n) → i < n → P i
from_zero P n i all lt = let same : 0 + i ≡ i = omega arith in subst P same (at_number P 0 n i all lt)

-- ---- a step that is enabled is a possible one
off_if_on : (b : Bool) → (b ≡ true → b ≡ false) → b ≡ false
off_if_on true off = off refl
off_if_on false off = refl

on_step : (n : NetNote) (s : Step) → is_enabled n s ≡ true → by_step n s ≡ true
on_step n s on = and_right (not n.gone) (by_step n s) on

itag_there : (n : NetNote) (i : Itag) → by_step n (Arrive i) ≡ true → i.0 < length (listed n.case.streams)
itag_there n i on =
    let more : slice_index n.seen i.0 < length (slice_index_or (listed n.case.streams) i.0 []) =
    true_lt (slice_index n.seen i.0) (length (slice_index_or (listed n.case.streams) i.0 [])) on in
    unseen (listed n.case.streams) i.0 (slice_index n.seen i.0) more
  where
    unseen : (lists : List (List Item)) (i seen : ℕ) → seen < length (slice_index_or lists i []) → i < length lists
    unseen [] i seen more = absurd (omega arith)
    unseen (l ∷ lists) zero seen more = omega arith
    unseen (l ∷ lists) (suc i) seen more = let later : i < length lists = unseen lists i seen more in omega (arith, later)

-- the two parts of the possible steps
abbrev arrivals : NetNote → List Step
arrivals n = map arrival (range_with_len 0 (count_of_itags (job n.case)))

abbrev doings : NetNote → List Step
doings n = flat_map steps_of (range_with_len 0 (length (nodes n.case)))

arrivals_off : (n : NetNote) (i : ℕ) → AllByRecursion (λ s. is_enabled n s ≡ false) (arrivals n) → i < count_of_itags (job n.case)
    → is_enabled n (arrival i) ≡ false
arrivals_off n i all there =
    from_zero (λ j. is_enabled n (arrival j) ≡ false) (count_of_itags (job n.case)) i
    (all_of_mapped (λ s. is_enabled n s ≡ false) arrival (range_with_len 0 (count_of_itags (job n.case))) all) there

-- what a worker may do
abbrev Off : NetNote → ℕ → Type 0
Off n w = AllByRecursion (λ s. is_enabled n s ≡ false) (steps_of w)

workers_off : (n : NetNote) (w : ℕ) → AllByRecursion (λ s. is_enabled n s ≡ false) (doings n) → w < length (nodes n.case) → Off n w
workers_off n w all there =
    from_zero (Off n) (length (nodes n.case)) w (all_of_each (λ s. is_enabled n s ≡ false) steps_of (range_with_len 0 (length (nodes n.case))) all) there

-- ---- so no step is enabled, where none of the possible ones is
parts_off : (n : NetNote) → enabled_steps n ≡ [] → AllByRecursion (λ s. is_enabled n s ≡ false) (arrivals n ++ doings n)
unfolding all_steps enabled_among
parts_off n none = none_passes (is_enabled n) (all_steps n.case) none

pub none_enabled : (n : NetNote) → Rule n → enabled_steps n ≡ [] → (s : Step) → is_enabled n s ≡ false
none_enabled n rule none s = by_kind s
  where
    first : AllByRecursion (λ s. is_enabled n s ≡ false) (arrivals n)
    first = all_front (λ s. is_enabled n s ≡ false) (arrivals n) (doings n) (parts_off n none)

    later : AllByRecursion (λ s. is_enabled n s ≡ false) (doings n)
    later = all_back (λ s. is_enabled n s ≡ false) (arrivals n) (doings n) (parts_off n none)

    at_worker : (w : ℕ) → w < length n.workers → Off n w
    at_worker w lt = workers_off n w later (subst (λ (m : ℕ). w < m) rule.ties.workers_each lt)

    at_edge : (w : ℕ) → w < length n.edges → Off n w
    at_edge w lt = workers_off n w later (subst (λ (m : ℕ). w < m) rule.ties.edges_each lt)

    asks : (w : ℕ) (side : Side) → is_enabled n (Ask w side) ≡ true → Off n w
    asks w side on =
        at_worker w (slice_get-within (aims n w side) refl n.workers w
        (and_right (is_held (edge_below n w side)) (aims n w side (slice_get n.workers w)) (on_step n (Ask w side) on)))

    takes : (w : ℕ) (side : Side) → is_enabled n (Take w side) ≡ true → Off n w
    takes w side on =
        workers_off n w later (slice_get-within (λ here. is_given (edge_at n.edges (side_of side (kids_of here)))) refl (nodes n.case) w
        (on_step n (Take w side) on))

    lends : (w : ℕ) (side : Side) → is_enabled n (Lend w side) ≡ true → Off n w
    lends w side on =
        at_worker w (slice_get-within (if_there (λ v. may_lend side v.hand)) refl n.workers w
        (and_right (is_some (kid_of n.case w side)) (if_there (λ v. may_lend side v.hand) (slice_get n.workers w)) (on_step n (Lend w side) on)))

    by_kind : (s : Step) → is_enabled n s ≡ false
    by_kind (Arrive i) =
        off_if_on (is_enabled n (Arrive i))
        (λ on. arrivals_off n i.0 first (subst (λ (m : ℕ). i.0 < m) n.case.one_each (itag_there n i (on_step n (Arrive i) on))))
    by_kind (Handle w) =
        off_if_on (is_enabled n (Handle w))
        (λ on. (at_worker w (slice_get-within (if_there (λ v. is_some (next_of v))) refl n.workers w (on_step n (Handle w) on))).0)
    by_kind (Ask w Left) = off_if_on (is_enabled n (Ask w Left)) (λ on. (asks w Left on).1.0)
    by_kind (Ask w Right) = off_if_on (is_enabled n (Ask w Right)) (λ on. (asks w Right on).1.1.0)
    by_kind (Take w Left) = off_if_on (is_enabled n (Take w Left)) (λ on. (takes w Left on).1.1.1.0)
    by_kind (Take w Right) = off_if_on (is_enabled n (Take w Right)) (λ on. (takes w Right on).1.1.1.1.0)
    by_kind (Give w) =
        off_if_on (is_enabled n (Give w)) (λ on. (at_edge w (slice_get-within (gives_for n w) refl n.edges w (on_step n (Give w) on))).1.1.1.1.1.0)
    by_kind (Hold w) = off_if_on (is_enabled n (Hold w)) (λ on. (at_edge w (slice_get-within is_lent refl n.edges w (on_step n (Hold w) on))).1.1.1.1.1.1.0)
    by_kind (Lend w Left) = off_if_on (is_enabled n (Lend w Left)) (λ on. (lends w Left on).1.1.1.1.1.1.1.0)
    by_kind (Lend w Right) = off_if_on (is_enabled n (Lend w Right)) (λ on. (lends w Right on).1.1.1.1.1.1.1.1.0)

-- ---- what the search for an enabled step found
pub found_on : (n : NetNote) (found : Option Step) → IfSome found (λ s. enabled_among n (s ∷ []) ≡ s ∷ []) → IfSome found (λ s. is_enabled n s ≡ true)
found_on n None one = tt
found_on n (Some s) one = on_one n s one

pub none_final : (n : NetNote) (found : Option Step) → (n.gone ≡ false → Rule n) → (n.gone ≡ false → (((s : Step) → is_enabled n s ≡ false) ↔ IsFinal n))
    → IfSome found (λ s. enabled_among n (s ∷ []) ≡ s ∷ []) → IfNone found (enabled_steps n ≡ []) → n.gone ≡ false → (IsNone found ↔ IsFinal n)
none_final n None rule never one none gone = (λ _. (never gone).0 (none_enabled n (rule gone) none), λ _. refl)
none_final n (Some s) rule never one none gone = (λ e. absurd (cc), λ final. absurd (not_both (is_enabled n s) (on_one n s one) ((never gone).1 final s)))
