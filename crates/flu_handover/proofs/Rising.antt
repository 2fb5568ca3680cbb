-- The amounts of a state that can be saved rise by family and key, and have a line.
use Rattle.std.proofs.Common.{◌≡◌, ℕ, zero, suc, ◌+◌, ◌<◌, ◌++◌, ◌⊎◌, inl, inr, Bool, true, false, cond, Option, Some, None, List, [], ◌∷◌, map, length}
use Rattle.std.proofs.Common.{refl, sym, ap, subst, ◌∙◌, arith}
use Rattle.std.specs.Prelude.{◌&&◌, ◌==◌, nat_lt, is_some, ⊤, slice_get, FitsSigned}
use Rattle.std.specs.Int.{w128}
use Rattle.std.specs.List.{list_all, filter, flat_map, range_with_len, AllByRecursion}
use Rattle.std.proofs.lemmas.Bool.{or_left, or_right}
use Rattle.std.proofs.lemmas.List.{map-append}
use Rattle.flu_lemmas.proofs.Searches.{eq_true}
use Rattle.flu_lemmas.proofs.Tests.{and_left, and_right, both, lt_true}
use Rattle.flu_model.specs.declared.events.Cell.{Cell}
use Rattle.flu_model.specs.declared.events.Out.{Out}
use Rattle.flu_model.specs.declared.jobs.Family.{Family}
use Rattle.flu_model.specs.declared.jobs.Program.{Program}
use Rattle.flu_model.specs.Contents.{Contents, cell, all_keys, key_count}
use Rattle.flu_model.specs.Sorts.{MayHold}
use Rattle.flu_partial.specs.declared.values.Amount.{Amount}
use Rattle.flu_partial.specs.Partial.{follows, rise, IsAmount, IsEmitted, IsTime}
use Rattle.flu_save.specs.Checkpoint.{number_held, cells_of_family, cells_held, HasWordWidth, IsSavable}
use Rattle.flu_handover.specs.Handing.{emitted_of, amounts_of}
use Rattle.flu_handover.specs.Laws.{SendableHaveLines}
use Rattle.flu_handover.specs.Parts.{amount_of}
use Rattle.flu_handover.proofs.Filled.{is_held, all_held, from_some, family_below, key_below, number_fits}

-- ---- the cells rise
-- what came last is below a family and a key
abbrev IsBelow : Option Cell → ℕ → ℕ → Type 0
IsBelow None f k = ⊤
IsBelow (Some c) f k = (c.family < f) ⊎ ((c.family ≡ f) × (c.key < k))

follows_next : (last : Option Cell) (f k : ℕ) → IsBelow last f k → follows last (cell f k) ≡ true
follows_next None f k below = refl
follows_next (Some c) f k (inl lt) = or_left (nat_lt c.family f) ((c.family == f) && nat_lt c.key k) (lt_true c.family f lt)
follows_next (Some c) f k (inr same) =
    or_right (nat_lt c.family f) ((c.family == f) && nat_lt c.key k)
    (both (c.family == f) (nat_lt c.key k) (eq_true c.family f same.0) (lt_true c.key k same.1))

below_later : (last : Option Cell) (f k : ℕ) → IsBelow last f k → IsBelow last f (k + 1)
below_later None f k below = tt
below_later (Some c) f k (inl lt) = inl lt
below_later (Some c) f k (inr same) = inr (same.0, omega (arith, same.1))

below_family : (last : Option Cell) (f k : ℕ) → IsBelow last f k → IsBelow last (f + 1) 0
below_family None f k below = tt
below_family (Some c) f k (inl lt) = inl (omega (arith, lt))
below_family (Some c) f k (inr same) = inl (omega (arith, same.0))

-- they rise behind whatever is below a family and a key
abbrev Rises : ℕ → ℕ → List Amount → Type 0
Rises f k xs = (last : Option Cell) → IsBelow last f k → rise last xs ≡ true

rises_keys : (s : Contents) (f : ℕ) (q : ℕ → Bool) (lo n : ℕ) (more : List Amount) → Rises (f + 1) 0 more
    → Rises f lo (map (amount_of s) (map (cell f) (filter q (range_with_len lo n))) ++ more)
rises_keys s f q lo zero more after last below = after last (below_family last f lo below)
rises_keys s f q lo (suc n) more after last below = by_test (q lo) (rises_keys s f q (lo + 1) n more after)
  where
    others : List ℕ
    others = filter q (range_with_len (lo + 1) n)

    by_test : (b : Bool) → Rises f (lo + 1) (map (amount_of s) (map (cell f) others) ++ more)
        → rise last (map (amount_of s) (map (cell f) (cond b (lo ∷ others) others)) ++ more) ≡ true
    by_test true rest = both (follows last (cell f lo)) (rise (Some (cell f lo)) (map (amount_of s) (map (cell f) others) ++ more))
        (follows_next last f lo below) (rest (Some (cell f lo)) (inr (refl, omega arith)))
    by_test false rest = rest last (below_later last f lo below)

rises_families : (s : Contents) (lo n : ℕ) → Rises lo 0 (map (amount_of s) (flat_map (cells_of_family s) (range_with_len lo n)))
unfolding all_keys
rises_families s lo zero last below = refl
rises_families s lo (suc n) last below =
    let others = flat_map (cells_of_family s) (range_with_len (lo + 1) n) in
    ap (rise last) (map-append (amount_of s) (cells_of_family s lo) others)
    ∙ rises_keys s lo (λ k. is_some (s (cell lo k))) 0 key_count (map (amount_of s) others) (rises_families s (lo + 1) n) last below

amounts_rise : (families : List Family) (s : Contents) → rise None (amounts_of families s) ≡ true
amounts_rise families s = rises_families s 0 (length families) None tt

-- ---- their numbers are in range
module _ (p : Program) (s : Contents) (savable : IsSavable p.families s) where
  amount_in_range : (c : Cell) → is_held s c ≡ true → IsAmount (amount_of s c)
  amount_in_range c here =
      let held = from_some (s c) here in
      let fits : MayHold p.families c (Some held.0) = subst (λ o. MayHold p.families c o) held.1 (savable.sorts c) in
      let width = subst HasWordWidth held.1 (savable.width c) in
      let family = family_below p.families c.family c.key fits.0 in
      let few = p.few_families in
      let key = key_below (slice_get p.families c.family) c.key fits.0 in (
        omega (arith, family, few),
        omega (arith, key),
        subst (λ o. FitsSigned w128 (number_held o)) (sym held.1) (number_fits (slice_get p.families c.family) held.0 fits.1 width),
      )

  amounts_in_range : (cs : List Cell) → list_all (is_held s) cs ≡ true → AllByRecursion IsAmount (map (amount_of s) cs)
  amounts_in_range [] all = tt
  amounts_in_range (c ∷ cs) all =
      (amount_in_range c (and_left (is_held s c) (list_all (is_held s) cs) all), amounts_in_range cs (and_right (is_held s c) (list_all (is_held s) cs) all))

emitted_in_range : (p : Program) (xs : List Out) → AllByRecursion (λ (o : Out). IsTime o.time) xs → AllByRecursion IsEmitted (map (emitted_of p) xs)
emitted_in_range p [] all = tt
emitted_in_range p (x ∷ xs) all = (all.0, emitted_in_range p xs all.1)

pub law_of_texts : SendableHaveLines
law_of_texts p last k sendable range = record {
  place = range.place;
  amounts =
      amounts_in_range p k.cells sendable.cells (cells_held p.families k.cells) (all_held k.cells (range_with_len 0 (length p.families)));
  rising = amounts_rise p.families k.cells;
  events = range.count;
  outs = emitted_in_range p k.outputs range.times;
}
