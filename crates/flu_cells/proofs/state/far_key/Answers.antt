use Rattle.std.proofs.Common.{◌≡◌, ◌<◌, ◌≤◌, ◌*◌, ◌+◌, ◌%◌, ℕ, true, None, sym, ap, subst, ◌∙◌, arith}
use Rattle.std.specs.Prelude.{IsSome}
use Rattle.flu_model.specs.Contents.{cell, key_count}
use Rattle.flu_dense.specs.Holding.{value_for}
use Rattle.flu_cells.specs.Entries.{has_place, place_of, far_held}
use Rattle.flu_cells.proofs.NearLemmas.{none_anyway}
use Rattle.flu_cells.proofs.FarLemmas.{far_held-at, place_from, place_family}
use Rattle.flu_cells.proofs.state.far_key.Goals as goal

pub returns-in_err-place-clause-none : goal.returns-in_err-place-clause-none
returns-in_err-place-clause-none c =
    let f = c.args.family in
    let small : f < 4294967296 = place_family (cell f c.args.from) c.far_place-first.ensures.has in
    let none : (j : ℕ) → c.args.from ≤ j → j < key_count → far_held c.args.far.now (cell f j) ≡ None =
    λ j le lt. far_held-at c.args.far.now (cell f j) (place_from (cell f j) small (omega (arith, lt)))
    ∙ c.in_err-place.ensures.none (place_of (cell f j)) (omega (arith, c.far_place-first.ensures.place, le)) (omega (arith, c.far_place-end.ensures.place, lt)) in
    none_anyway c.from_residual.result none

pub returns-clause-found : goal.returns-clause-found
returns-clause-found c =
    let f = c.args.family in
    let place = c.in_ok-place.place in
    let found = c.in_ok-place.ensures.found in
    let first : 4294967296 * f + c.args.from ≤ place = omega (arith, c.far_place-first.ensures.place, found.0) in
    let last : place < 4294967296 * f + key_count = omega (arith, c.far_place-end.ensures.place, found.1) in
    let again : place_of (cell f (place % 4294967296)) ≡ place = omega (arith, first, last) in
    let has : has_place (cell f (place % 4294967296)) ≡ true =
    place_from (cell f (place % 4294967296)) (place_family (cell f c.args.from) c.far_place-first.ensures.has) (omega arith) in (
      omega (arith, again, first),
      omega (arith, again, last),
      subst IsSome (sym (far_held-at c.args.far.now (cell f (place % 4294967296)) has ∙ ap (value_for c.args.far.now) again)) found.2,
    )

pub returns-clause-least : goal.returns-clause-least
returns-clause-least c j le lt =
    let f = c.args.family in
    let place = c.in_ok-place.place in
    let found = c.in_ok-place.ensures.found in
    let first : 4294967296 * f + c.args.from ≤ place = omega (arith, c.far_place-first.ensures.place, found.0) in
    let last : place < 4294967296 * f + key_count = omega (arith, c.far_place-end.ensures.place, found.1) in
    let again : place_of (cell f (place % 4294967296)) ≡ place = omega (arith, first, last) in
    let has : has_place (cell f j) ≡ true =
    place_from (cell f j) (place_family (cell f c.args.from) c.far_place-first.ensures.has) (omega (arith, lt)) in
    far_held-at c.args.far.now (cell f j) has
    ∙ c.in_ok-place.ensures.least (place_of (cell f j)) (omega (arith, c.far_place-first.ensures.place, le)) (omega (arith, again, lt))
