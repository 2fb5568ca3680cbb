-- The events of a stream are a run.
use Rattle.std.proofs.Common.{◌≡◌, ◌≤◌, ◌<◌, ◌+◌, ℕ, zero, suc, true, List, [], ◌∷◌, length, drop, refl, subst, arith}
use Rattle.std.specs.Prelude.{◌==◌}
use Rattle.flu_model.specs.declared.events.Event.{Event}
use Rattle.flu_model.specs.declared.events.Item.{Item}
use Rattle.flu_model.specs.declared.events.Item.TheVariants.{Event as EventItem, Beat, End}
use Rattle.flu_model.specs.Merging.{events_of}
use Rattle.flu_model.specs.Streaming.{is_stream_from, are_streams}
use Rattle.flu_lemmas.proofs.Numbers.{le_lower}
use Rattle.flu_lemmas.proofs.Tests.{and_left, and_right, both, true_le}
use Rattle.flu_seq.specs.LoopHeads.{is_run, items_at}

pub run-lower : (i a b : ℕ) (xs : List Event) → a ≤ b → is_run i b xs ≡ true → is_run i a xs ≡ true
run-lower i a b [] le e = refl
run-lower i a b (x ∷ xs) le e =
    both _ _ (both (x.itag.0 == i) _ (and_left _ _ (and_left _ _ e)) (le_lower a b x.time le (and_right _ _ (and_left _ _ e)))) (and_right _ _ e)

pub run_of_stream : (i low from : ℕ) (items : List Item) → is_stream_from i low items ≡ true → is_run i low (events_of (drop from items)) ≡ true
run_of_stream i low zero [] e = refl
run_of_stream i low (suc from) [] e = refl
run_of_stream i low zero (EventItem x ∷ items) e = both _ _ (and_left _ _ e) (run_of_stream i (x.time + 1) zero items (and_right _ _ e))
run_of_stream i low zero (Beat t ∷ items) e = run-lower i low (t + 1) (events_of items) (let h : low ≤ t = true_le low t (and_left _ _ e) in
    omega (arith, h)) (run_of_stream i (t + 1) zero items (and_right _ _ e))
run_of_stream i low zero (End ∷ []) e = refl
run_of_stream i low zero (End ∷ y ∷ items) e = cc
run_of_stream i low (suc from) (EventItem x ∷ items) e =
    run-lower i low (x.time + 1) (events_of (drop from items)) (let h : low ≤ x.time = true_le low x.time (and_right _ _ (and_left _ _ e)) in
    omega (arith, h)) (run_of_stream i (x.time + 1) from items (and_right _ _ e))
run_of_stream i low (suc from) (Beat t ∷ items) e =
    run-lower i low (t + 1) (events_of (drop from items)) (let h : low ≤ t = true_le low t (and_left _ _ e) in
    omega (arith, h)) (run_of_stream i (t + 1) from items (and_right _ _ e))
run_of_stream i low (suc from) (End ∷ []) e = nothing from
  where
    nothing : (n : ℕ) → is_run i low (events_of (drop n [])) ≡ true
    nothing zero = refl
    nothing (suc n) = refl
run_of_stream i low (suc from) (End ∷ y ∷ items) e = cc

pub stream_at : (k i : ℕ) (lists : List (List Item)) → are_streams k lists ≡ true → i < length lists → is_stream_from (k + i) 0 (items_at lists i) ≡ true
stream_at k i [] e lt = absurd (omega arith)
stream_at k zero (items ∷ lists) e lt = let n : k ≡ k + 0 = omega arith in subst (λ m. is_stream_from m 0 items ≡ true) n (and_left _ _ e)
stream_at k (suc i) (items ∷ lists) e lt = let n : (k + 1) + i ≡ k + suc i = omega arith in
    subst (λ m. is_stream_from m 0 (items_at lists i) ≡ true) n (stream_at (k + 1) i lists (and_right _ _ e) (omega arith))
