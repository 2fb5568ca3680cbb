-- The items of ticks, one after another.
use Rattle.std.proofs.Common.{◌≡◌, ℕ, zero, suc, ◌+◌, ◌-◌, ◌*◌, ◌/◌, ◌^◌, ◌<◌, ◌≤◌, min, List, [], ◌∷◌, ◌++◌, length, sym, ap, ◌∙◌, arith, append_assoc, subst}
use Rattle.std.specs.Prelude.{pos}
use Rattle.std.specs.List.{All}
use Rattle.std.proofs.Math.Nat.{div-mul-le_self}
use Rattle.flu_model.specs.declared.events.Item.{Item}
use Rattle.flu_model.specs.declared.events.Item.TheVariants.{Event as EventItem}
use Rattle.flu_model.specs.declared.moments.Timing.{Timing}
use Rattle.flu_model.specs.Moments.{IsTiming, moment_at}
use Rattle.flu_streams.specs.Clocks.{tick_at, items_of_ticks}
use Rattle.flu_streams.proofs.Moments.{product_le}

-- the moment of a tick is below 2^63
pub tick_fits : (timing : Timing) → IsTiming timing → (time : ℕ) → time < 2 ^ 63 / timing.scale → time * timing.scale + timing.offset < 2 ^ 63
tick_fits timing fits time lt =
    let whole = div-mul-le_self (2 ^ 63) timing.scale in
    let steps = product_le (time + 1) (2 ^ 63 / timing.scale) timing.scale (omega (arith, lt)) in
    let some = fits.some in
    let within = fits.within in
    omega (arith, whole, steps, some, within)

-- what holds of a list's elements holds of its first one, and of the others
pub first_one : {X : Type 0} (P : X → Type 0) (x : X) (xs : List X) → All P (x ∷ xs) → P x
first_one P x xs all = all 0 x (omega arith)

pub other_ones : {X : Type 0} (P : X → Type 0) (x : X) (xs : List X) → All P (x ∷ xs) → All P xs
other_ones P x xs all = λ k d lt. all (suc k) d (omega (arith, lt))

-- one more item
pub tick_is : (timing : Timing) (itag time : ℕ)
    → EventItem (record { time = time * timing.scale + timing.offset; itag = record { 0 = itag }; item = 0; value = pos 0 }) ≡ tick_at timing itag time
tick_is timing itag time =
    let e : time * timing.scale + timing.offset ≡ moment_at timing time 0 = omega arith in
    ap (λ m. EventItem (record { time = m; itag = record { 0 = itag }; item = 0; value = pos 0 })) e

pub one_more_tick : (timing : Timing) (itag time : ℕ) (rest ticks : List ℕ) (items : List Item) → ticks ≡ time ∷ rest
    → (items ++ EventItem (record { time = time * timing.scale + timing.offset; itag = record { 0 = itag }; item = 0; value = pos 0 }) ∷ [])
    ++ items_of_ticks timing itag rest
    ≡ items ++ items_of_ticks timing itag ticks
one_more_tick timing itag time rest ticks items e =
    append_assoc items _ (items_of_ticks timing itag rest)
    ∙ ap (λ x. items ++ x ∷ items_of_ticks timing itag rest) (tick_is timing itag time)
    ∙ ap (λ ts. items ++ items_of_ticks timing itag ts) (sym e)
