-- How one source is read in a round, or whole.
use Rattle.std.proofs.Common.{◌≡◌, inl, inr, ◌⊎◌, ℕ, ◌+◌, ◌*◌, ◌^◌, ◌<◌, ◌≤◌, Bool, true, false, List, [], ◌∷◌, ◌++◌, length, take, Option}
use Rattle.std.proofs.Common.{Some, None, refl, sym, ap, subst, ◌∙◌, append_assoc, length-append, arith}
use Rattle.std.specs.Prelude.{nat_lt, option_map, unwrap_or}
use Rattle.std.specs.List.{list_all}
use Rattle.std.proofs.Math.Nat.{div-le_self, mul-le-mul_left}
use Rattle.std.proofs.lemmas.Bool.{cases_lt}
use Rattle.std.proofs.lemmas.Bool.Decides.{nat_tests}
use Rattle.std.proofs.lemmas.List.{append-nil, take_all, take-append-le}
use Rattle.flu_lemmas.proofs.Tests.{not_both}
use Rattle.flu_lemmas.proofs.Told.{told_then, told_same, told_weaker}
use Rattle.flu_model.specs.declared.events.Item.{Item}
use Rattle.flu_model.specs.declared.jobs.Kind.{Kind}
use Rattle.flu_model.specs.declared.jobs.Source.{Source}
use Rattle.flu_model.specs.declared.moments.Timing.{Timing}
use Rattle.flu_model.specs.Moments.{last_moment, IsTiming}
use Rattle.flu_outside.specs.Outside.{Contents, WhereTold}
use Rattle.flu_outside.specs.Taking.{IsReadOut}
use Rattle.flu_rows.specs.declared.row.Row.{Row}
use Rattle.flu_rows.specs.declared.rows.Next.{Next}
use Rattle.flu_rows.specs.declared.rows.Next.TheVariants.{Row as RowNext}
use Rattle.flu_rows.specs.Lines.{IsUndecided}
use Rattle.flu_rows.specs.Reading.{Place, ahead, then_behind}
use Rattle.flu_streams.specs.declared.border.Border.TheVariants.{At, Closed}
use Rattle.flu_streams.specs.declared.faults.Why.{Why}
use Rattle.flu_streams.specs.declared.inlet.Inlet.{Inlet}
use Rattle.flu_streams.specs.declared.stop.RowRefusal.{RowRefusal}
use Rattle.flu_streams.specs.declared.stop.RowRefusal.TheVariants.{Fault, NoMemory}
use Rattle.flu_streams.specs.Holding.{HeldSource, IsHeldBehind, still}
use Rattle.flu_streams.specs.Lists.{item_time}
use Rattle.flu_streams.specs.LoopHeld.{source_of, count_to, enough_of, enough_for, are_enough, held_with, too_many, test_held}
use Rattle.flu_streams.specs.LoopHeld.{IsShort, CatchesUp, fault_behind, PutsIn, IsWellAt, IsRefilling, IsRefilled}
use Rattle.flu_streams.specs.LoopHeld.{MeetsDefect, StopsBehind, IsStopOf, IsFew}
use Rattle.flu_streams.specs.LoopMoments.{border_moment}
use Rattle.flu_streams.specs.LoopStop.{IsRefusal, stop_at, defect_behind}
use Rattle.flu_streams.specs.Before.{or_else}
use Rattle.flu_streams.specs.Rounds.{line_defect, settled, is_above}
use Rattle.flu_streams.specs.Tags.{width}
use Rattle.flu_streams.specs.Tests.{rows_of, items_in, items_of, margin}
use Rattle.flu_streams.proofs.Bounds.{few_caught, few_same}
use Rattle.flu_streams.proofs.Counted.{counted_more, counted_none, fits_now, fault_parts, map_both, many_row, many_last}
use Rattle.flu_streams.proofs.Counting.{enough_is, above_at}
use Rattle.flu_streams.proofs.HeldRows.{without_some, enough_held, not_enough, enough_still, fault_held, defect_held, behind_row, behind_end}
use Rattle.flu_streams.proofs.HeldRows.{behind_caught, well_caught, still_caught}
use Rattle.flu_streams.proofs.RoundLaws.{or_none, settled_is}
use Rattle.flu_streams.proofs.Taken.{IsNoRow, items_more, no_row_more, rows_more, then_last}

-- ---- before the last line they are not enough
few_to_all : (f : List Next → Bool) (more : List Next) → ((k : ℕ) → k < length more → f (take k more) ≡ false) → f more ≡ false
    → (k : ℕ) → k ≤ length more → f (take k more) ≡ false
few_to_all f more short last k le =
    elim (cases_lt k (length more)) [ inl lt ↦ short k lt | inr ge ↦ ap f (take_all k more ge) ∙ last ]

few_more : (f : List Next → Bool) (more : List Next) (next : Next) → ((k : ℕ) → k ≤ length more → f (take k more) ≡ false)
    → (k : ℕ) → k < length (more ++ next ∷ []) → f (take k (more ++ next ∷ [])) ≡ false
few_more f more next few k lt =
    let le : k ≤ length more = omega (arith, lt, length-append more (next ∷ [])) in
    ap f (take-append-le k more (next ∷ []) le) ∙ few k le

still_open : (h : HeldSource) (left : Contents) → h.closed ≡ false → still h left ≡ ahead h.place left
still_open h left goes = rw goes refl

still_closed : (h : HeldSource) (left : Contents) → h.closed ≡ true → still h left ≡ []
still_closed h left closed = rw closed refl

under_last : (behind u : ℕ) (last : Option ℕ) → settled behind last ≡ Some u → u ≤ unwrap_or last 0
under_last behind u None e = absurd cc
under_last behind u (Some l) e = let is = settled_is behind l u e in omega (arith, is.1)

-- a border of moments is below the last moment of a time where the border is below the time
is_above-last : (timing : Timing) (fits : IsTiming timing) (above : Option ℕ) (u : ℕ)
    → is_above (border_moment timing above) (last_moment timing u) ≡ is_above above u
is_above-last timing fits None u = refl
is_above-last timing fits (Some b) u = by_order (cases_lt b u)
  where
    lt_is : (m n : ℕ) → m < n → nat_lt m n ≡ true
    lt_is m n lt = grind (arith, nat_tests)

    ge_is : (m n : ℕ) → n ≤ m → nat_lt m n ≡ false
    ge_is m n le = grind (arith, nat_tests)

    by_order : (b < u) ⊎ (u ≤ b) → nat_lt (last_moment timing b) (last_moment timing u) ≡ nat_lt b u
    by_order (inl lt) =
        let some = fits.some in
        let within = fits.within in
        let up : timing.scale * (b + 2) ≤ timing.scale * (u + 1) = mul-le-mul_left timing.scale (omega (arith, lt)) in
        lt_is (last_moment timing b) (last_moment timing u) (omega (arith, up, some, within)) ∙ sym (lt_is b u lt)
    by_order (inr le) =
        let up : timing.scale * (u + 1) ≤ timing.scale * (b + 1) = mul-le-mul_left timing.scale (omega (arith, le)) in
        ge_is (last_moment timing b) (last_moment timing u) (omega (arith, up)) ∙ sym (ge_is b u le)

-- ---- what was read so far
pub refilling_none : (kinds : List Kind) (s : Source) (first : ℕ) (rows above : Option ℕ) (before : List Next) (h : Inlet)
    (left : Option Contents) → IsHeldBehind h.timing kinds first s above before (source_of h)
    → IsRefilling h.timing kinds s first rows above before h h left left
refilling_none kinds s first rows above before h left is = record {
  more = [];
  behind = subst (λ l. IsHeldBehind h.timing kinds first s above l (source_of h)) (sym (append-nil before)) is;
  shortest = λ k lt. absurd (omega (arith, lt));
  held = sym (counted_none h.held);
  told = told_same (λ was now. still (source_of h) was ≡ [] ++ still (source_of h) now) left (λ x. refl);
}

few_held : (kinds : List Kind) (s : Source) (first : ℕ) (rows above : Option ℕ) (before : List Next) (old now : Inlet) (a b : Option Contents)
    → 1 ≤ unwrap_or rows 1 → now.timing ≡ old.timing → (r : IsRefilling old.timing kinds s first rows above before old now a b)
    → IsShort now.timing rows s (source_of now)
    → (k : ℕ) → k ≤ length r.more → are_enough old.timing rows above s (before ++ take k r.more) ≡ false
few_held kinds s first rows above before old now a b one timed r e =
    few_to_all (λ l. are_enough old.timing rows above s (before ++ l)) r.more r.shortest
    (not_enough old.timing old.fits kinds s first rows above (before ++ r.more) (source_of now) one r.behind
    (subst (λ (own : Timing). IsShort own rows s (source_of now)) timed e))

pub refilling_row : (kinds : List Kind) (s : Source) (first : ℕ) (rows : Option ℕ) (old now mid new : Inlet) (a b c : Option Contents) (line : ℕ)
    (row : Row) → 1 ≤ unwrap_or rows 1
    → now.timing ≡ old.timing
    → ((above : Option ℕ) (before : List Next) → IsHeldBehind old.timing kinds first s above before (source_of old)
    → IsRefilling old.timing kinds s first rows above before old now a b)
    → now.closed ≡ false → IsShort now.timing rows s (source_of now) → mid.timing ≡ now.timing → mid.items ≡ now.items → mid.first ≡ now.first
    → mid.last ≡ now.last → mid.ended ≡ now.ended → mid.closed ≡ now.closed → mid.goal ≡ now.goal → mid.held ≡ now.held → mid.rows.file ≡ s.file
    → WhereTold b c (λ was is. ahead now.rows was ≡ then_behind (RowNext line row) (ahead mid.rows is)) → PutsIn kinds s first row mid new
    → (above : Option ℕ) (before : List Next) → IsHeldBehind old.timing kinds first s above before (source_of old)
    → IsRefilling old.timing kinds s first rows above before old new a c
refilling_row kinds s first rows old now mid new a b c line row one timed so_far goes e same_timing items earliest last ended closed goal held file told puts
    above before is =
    let r = so_far above before is in
    let next = RowNext line row in
    let still_goes : new.closed ≡ false = puts.closed ∙ closed ∙ goes in
    record {
      more = r.more ++ next ∷ [];
      behind = subst (λ l. IsHeldBehind old.timing kinds first s above l (source_of new)) (append_assoc before r.more (next ∷ []))
          (behind_row old.timing old.fits kinds s first above (before ++ r.more) (source_of now) mid new line row r.behind (same_timing ∙ timed) goes items
          earliest last ended goal file puts);
      shortest = few_more (λ l. are_enough old.timing rows above s (before ++ l)) r.more next
          (few_held kinds s first rows above before old now a b one timed r e);
      held = puts.held ∙ ap (λ o. held_with o (items_in (width s) row)) (held ∙ r.held)
          ∙ counted_more old.held (items_of (width s) (rows_of r.more)) (items_in (width s) row)
          ∙ ap (held_with old.held) (sym (items_more (width s) (rows_of r.more) row) ∙ ap (items_of (width s)) (sym (rows_more r.more line row)));
      told = told_then (λ was at. still (source_of old) was ≡ r.more ++ still (source_of now) at)
          (λ was at. ahead now.rows was ≡ then_behind next (ahead mid.rows at))
          (λ was at. still (source_of old) was ≡ (r.more ++ next ∷ []) ++ still (source_of new) at) a b c
          (λ x y z p q. p ∙ ap (λ (rest : List Next). r.more ++ rest)
          (still_open (source_of now) y goes ∙ q ∙ ap (λ (place : Place). next ∷ ahead place z) (sym puts.rows)
          ∙ ap (λ (rest : List Next). next ∷ rest) (sym (still_open (source_of new) z still_goes)))
          ∙ sym (append_assoc r.more (next ∷ []) (still (source_of new) z))) r.told told;
    }

-- ---- where it stops
meets_row : (kinds : List Kind) (s : Source) (first : ℕ) (rows above : Option ℕ) (before : List Next) (old now mid : Inlet)
    (a b c : Option Contents) (line : ℕ) (row : Row) (why : Why) → 1 ≤ unwrap_or rows 1 → now.timing ≡ old.timing
    → IsRefilling old.timing kinds s first rows above before old now a b
    → now.closed ≡ false → IsShort now.timing rows s (source_of now) → mid.timing ≡ now.timing → mid.items ≡ now.items → mid.last ≡ now.last
    → mid.ended ≡ now.ended → mid.held ≡ now.held
    → WhereTold b c (λ was is. ahead now.rows was ≡ then_behind (RowNext line row) (ahead mid.rows is)) → fault_behind kinds s mid row ≡ Some why
    → MeetsDefect old.timing kinds s rows above before old a c line why
meets_row kinds s first rows above before old now mid a b c line row why one timed r goes e same_timing items last ended held told fault =
    let tests = fault_held old.timing old.fits kinds s first above (before ++ r.more) (source_of now) mid row r.behind (same_timing ∙ timed) goes items last
    ended in
    let many : too_many old.held s r.more (RowNext line row) ≡ option_map (λ (w : Why). (line, w)) (test_held mid.held (items_in (width s) row)) =
    many_row s r.more line row old.held mid.held (held ∙ r.held) in
    record {
      more = r.more;
      next = RowNext line row;
      sound = r.behind.sound;
      few = few_held kinds s first rows above before old now a b one timed r e;
      fits = fits_now s r.more old now r.held;
      defect = (λ i. or_else (option_map (λ (w : Why). (line, w)) (tests i)) (many i)) ∙ sym (map_both (λ (w : Why). (line, w)) _ _)
          ∙ ap (option_map (λ (w : Why). (line, w))) (sym (fault_parts kinds s mid row) ∙ fault);
      told = told_then (λ was at. still (source_of old) was ≡ r.more ++ still (source_of now) at)
          (λ was at. ahead now.rows was ≡ then_behind (RowNext line row) (ahead mid.rows at))
          (λ was at. (rest : List Next) × (still (source_of old) was ≡ r.more ++ (RowNext line row ∷ rest))) a b c
          (λ x y z p q. (ahead mid.rows z, p ∙ ap (λ (rest : List Next). r.more ++ rest) (still_open (source_of now) y goes ∙ q))) r.told told;
    }

pub refused_row : (kinds : List Kind) (s : Source) (first : ℕ) (rows : Option ℕ) (old now mid : Inlet) (a b c : Option Contents) (line : ℕ) (row : Row)
    (refusal : RowRefusal) → 1 ≤ unwrap_or rows 1
    → now.timing ≡ old.timing
    → ((above : Option ℕ) (before : List Next) → IsHeldBehind old.timing kinds first s above before (source_of old)
    → IsRefilling old.timing kinds s first rows above before old now a b)
    → now.closed ≡ false → IsShort now.timing rows s (source_of now) → mid.timing ≡ now.timing → mid.items ≡ now.items → mid.last ≡ now.last
    → mid.ended ≡ now.ended → mid.held ≡ now.held
    → WhereTold b c (λ was is. ahead now.rows was ≡ then_behind (RowNext line row) (ahead mid.rows is)) → IsRefusal (fault_behind kinds s mid row) refusal
    → IsStopOf kinds s first rows old a c (stop_at line refusal)
refused_row kinds s first rows old now mid a b c line row NoMemory one timed so_far goes e same_timing items last ended held told fault = tt
refused_row kinds s first rows old now mid a b c line row (Fault why) one timed so_far goes e same_timing items last ended held told fault = λ above before is.
    meets_row kinds s first rows above before old now mid a b c line row why one timed (so_far above before is) goes e same_timing items last
    ended held told fault

pub meets_last : (kinds : List Kind) (s : Source) (first : ℕ) (rows : Option ℕ) (old now : Inlet) (place : Place) (a b c : Option Contents) (next : Next)
    (row : ℕ) (why : Why) → 1 ≤ unwrap_or rows 1
    → now.timing ≡ old.timing
    → ((above : Option ℕ) (before : List Next) → IsHeldBehind old.timing kinds first s above before (source_of old)
    → IsRefilling old.timing kinds s first rows above before old now a b)
    → now.closed ≡ false → IsShort now.timing rows s (source_of now)
    → WhereTold b c (λ was is. ahead now.rows was ≡ then_behind next (ahead place is)) → IsNoRow next → defect_behind now.ended next ≡ Some (row, why)
    → (above : Option ℕ) (before : List Next) → IsHeldBehind old.timing kinds first s above before (source_of old)
    → MeetsDefect old.timing kinds s rows above before old a c row why
meets_last kinds s first rows old now place a b c next row why one timed so_far goes e told other defect above before is =
    let r = so_far above before is in
    record {
      more = r.more;
      next = next;
      sound = r.behind.sound;
      few = few_held kinds s first rows above before old now a b one timed r e;
      fits = fits_now s r.more old now r.held;
      defect = ap (or_else (line_defect old.timing kinds s (before ++ r.more) next)) (many_last old.held s r.more next other) ∙ or_none _
          ∙ defect_held old.timing kinds s first above (before ++ r.more) (source_of now) next r.behind other ∙ defect;
      told = told_then (λ was at. still (source_of old) was ≡ r.more ++ still (source_of now) at)
          (λ was at. ahead now.rows was ≡ then_behind next (ahead place at))
          (λ was at. (rest : List Next) × (still (source_of old) was ≡ r.more ++ (next ∷ rest))) a b c
          (λ x y z p q. ([], p ∙ ap (λ (rest : List Next). r.more ++ rest) (still_open (source_of now) y goes ∙ q ∙ then_last next (ahead place z) other)))
          r.told told;
    }

pub stops_behind : (kinds : List Kind) (s : Source) (first : ℕ) (rows : Option ℕ) (old now : Inlet) (place : Place) (a b c : Option Contents)
    → 1 ≤ unwrap_or rows 1
    → now.timing ≡ old.timing
    → ((above : Option ℕ) (before : List Next) → IsHeldBehind old.timing kinds first s above before (source_of old)
    → IsRefilling old.timing kinds s first rows above before old now a b)
    → now.closed ≡ false → IsShort now.timing rows s (source_of now) → place.form ≡ old.rows.form → place.file ≡ s.file → IsUndecided place.taken
    → WhereTold b c (λ was is. ahead now.rows was ≡ ahead place is)
    → (above : Option ℕ) (before : List Next) → IsHeldBehind old.timing kinds first s above before (source_of old)
    → StopsBehind old.timing kinds s rows above before old a c
stops_behind kinds s first rows old now place a b c one timed so_far goes e form file undecided told above before is =
    let r = so_far above before is in
    record {
      more = r.more;
      place = place;
      sound = r.behind.sound;
      few = few_held kinds s first rows above before old now a b one timed r e;
      fits = fits_now s r.more old now r.held;
      form = form;
      file = file;
      undecided = undecided;
      told = told_then (λ was at. still (source_of old) was ≡ r.more ++ still (source_of now) at) (λ was at. ahead now.rows was ≡ ahead place at)
          (λ was at. still (source_of old) was ≡ r.more ++ ahead place at) a b c
          (λ x y z p q. p ∙ ap (λ (rest : List Next). r.more ++ rest) (still_open (source_of now) y goes ∙ q)) r.told told;
    }

-- ---- where it is done
pub refilled_open : (kinds : List Kind) (s : Source) (first u : ℕ) (rows : Option ℕ) (old now : Inlet) (a b : Option Contents) → 1 ≤ unwrap_or rows 1
    → now.timing ≡ old.timing
    → ((above : Option ℕ) (before : List Next) → IsHeldBehind old.timing kinds first s above before (source_of old)
    → IsRefilling old.timing kinds s first rows above before old now a b)
    → ((border : Option ℕ) → IsWellAt old.timing s border old → IsWellAt old.timing s border now)
    → ((old.closed ≡ true → IsReadOut s.file a) → now.closed ≡ true → IsReadOut s.file b) → (IsFew rows s old → IsFew rows s now)
    → now.rows.form ≡ old.rows.form → enough_for now.timing rows s.slack (source_of now) ≡ Some u → IsRefilled kinds s first rows old now a b (At u)
refilled_open kinds s first u None old now a b one timed so_far well out few form e = absurd cc
refilled_open kinds s first u (Some rows) old now a b one timed so_far well out few form e =
    let found = without_some now.goal (enough_of now.timing rows s.slack now.last now.items) u e in
    let k = enough_is now.timing rows s.slack u now.last now.items found.1 in
    record {
      timing = timed;
      form = form;
      keeps = well;
      few = few;
      caught = found.0;
      border = λ above was.
          let is = well above was in
          let count = subst (λ (own : Timing). rows ≤ count_to (last_moment own u) now.items) timed k.count in (
            sym (is_above-last old.timing old.fits above u)
                ∙ above_at (border_moment old.timing above) (last_moment old.timing u) now.items (is.above found.0) (omega (arith, one, count)),
            omega (arith, under_last (margin now.timing s.slack) u now.last k.settles, now.range, div-le_self (2 ^ 63) now.timing.scale),
          );
      turn = k.settles;
      out = out;
      reads = λ above before is. let r = so_far above before is in record {
        so_far = r;
        ends = enough_held old.timing old.fits kinds s first rows u above (before ++ r.more) (source_of now) r.behind
            (subst (λ (own : Timing). enough_for own (Some rows) s.slack (source_of now) ≡ Some u) timed e);
      };
    }

pub refilled_shut : (kinds : List Kind) (s : Source) (first : ℕ) (rows : Option ℕ) (old now : Inlet) (a b : Option Contents) → 1 ≤ unwrap_or rows 1
    → now.timing ≡ old.timing
    → ((above : Option ℕ) (before : List Next) → IsHeldBehind old.timing kinds first s above before (source_of old)
    → IsRefilling old.timing kinds s first rows above before old now a b)
    → ((border : Option ℕ) → IsWellAt old.timing s border old → IsWellAt old.timing s border now)
    → ((old.closed ≡ true → IsReadOut s.file a) → now.closed ≡ true → IsReadOut s.file b) → (IsFew rows s old → IsFew rows s now)
    → now.rows.form ≡ old.rows.form → IsShort now.timing rows s (source_of now) → now.closed ≡ true → now.goal ≡ None
    → IsRefilled kinds s first rows old now a b Closed
refilled_shut kinds s first rows old now a b one timed so_far well out few form e closed caught = record {
  timing = timed;
  form = form;
  keeps = well;
  few = few;
  caught = caught;
  border = λ above was. tt;
  turn = closed;
  out = out;
  reads = λ above before is. let r = so_far above before is in
      record {
        so_far = r;
        ends = (
          closed,
          not_enough old.timing old.fits kinds s first rows above (before ++ r.more) (source_of now) one r.behind
              (subst (λ (own : Timing). IsShort own rows s (source_of now)) timed e),
        );
      };
}

pub refilled_end : (kinds : List Kind) (s : Source) (first : ℕ) (rows : Option ℕ) (old now shut new : Inlet) (a b c : Option Contents)
    (next : Next) → 1 ≤ unwrap_or rows 1
    → now.timing ≡ old.timing
    → ((above : Option ℕ) (before : List Next) → IsHeldBehind old.timing kinds first s above before (source_of old)
    → IsRefilling old.timing kinds s first rows above before old now a b)
    → ((border : Option ℕ) → IsWellAt old.timing s border old → IsWellAt old.timing s border now) → (IsFew rows s old → IsFew rows s now) → now.closed ≡ false
    → IsShort now.timing rows s (source_of now)
    → WhereTold b c (λ was is. ahead now.rows was ≡ then_behind next (ahead shut.rows is)) → IsNoRow next → defect_behind now.ended next ≡ None
    → IsReadOut s.file c
    → shut.timing ≡ now.timing → shut.items ≡ now.items → shut.first ≡ now.first → shut.last ≡ now.last → shut.ended ≡ now.ended → shut.closed ≡ true
    → shut.goal ≡ now.goal → shut.held ≡ now.held → shut.rows.form ≡ old.rows.form → shut.rows.file ≡ s.file
    → CatchesUp s.slack shut new
    → IsRefilled kinds s first rows old new a c Closed
refilled_end kinds s first rows old now shut new a b c next one timed so_far well few goes e told other none read_out same_timing items earliest last ended
    closed goal held form file catches = record {
      timing = catches.timing ∙ same_timing ∙ timed;
      form = ap (λ (place : Place). place.form) catches.rows ∙ form;
      keeps = λ border was. well_caught old.timing s border shut new catches (record {
        timing_is = same_timing ∙ timed;
        file = file;
        goal = λ t e. (well border was).goal t (sym goal ∙ e);
        clock = λ ticks. closed;
        above = λ none'. ap (list_all (λ (item : Item). is_above (border_moment old.timing border) (item_time item))) items
            ∙ (well border was).above (sym goal ∙ none');
        settled = λ none' goes'. absurd (not_both shut.closed closed goes');
      });
      few = λ was. few_caught rows s shut new catches (few_same rows s now shut items goal same_timing (few was));
      caught = catches.shut now_closed;
      border = λ above was. tt;
      turn = now_closed;
      out = λ was is. read_out;
      reads = λ above before is.
          let r = so_far above before is in
          record {
            so_far = record {
              more = r.more ++ next ∷ [];
              behind = subst (λ l. IsHeldBehind old.timing kinds first s above l (source_of new)) (append_assoc before r.more (next ∷ []))
                  (behind_caught old.timing old.fits kinds s first above ((before ++ r.more) ++ next ∷ []) shut new (same_timing ∙ timed) catches
                  (behind_end old.timing kinds s first above (before ++ r.more) (source_of now) (source_of shut) next r.behind other none items
                  earliest last ended closed goal file));
              shortest = few_more (λ l. are_enough old.timing rows above s (before ++ l)) r.more next
                  (few_held kinds s first rows above before old now a b one timed r e);
              held = catches.held ∙ held ∙ r.held ∙ ap (λ (l : List Row). held_with old.held (items_of (width s) l)) (sym (no_row_more r.more next other));
              told = told_then (λ was at. still (source_of old) was ≡ r.more ++ still (source_of now) at)
                  (λ was at. ahead now.rows was ≡ then_behind next (ahead shut.rows at))
                  (λ was at. still (source_of old) was ≡ (r.more ++ next ∷ []) ++ still (source_of new) at) a b c
                  (λ x y z p q. p ∙ ap (λ (rest : List Next). r.more ++ rest) (still_open (source_of now) y goes ∙ q ∙ then_last next (ahead shut.rows z) other)
                  ∙ sym (ap (λ (rest : List Next). (r.more ++ next ∷ []) ++ rest) (still_closed (source_of new) z now_closed)
                  ∙ append-nil (r.more ++ next ∷ [])))
                  r.told told;
            };
            ends = (
              now_closed,
              ap (are_enough old.timing rows above s) (sym (append_assoc before r.more (next ∷ [])))
                  ∙ enough_still old.timing rows above s (before ++ r.more) next other
                  ∙ not_enough old.timing old.fits kinds s first rows above (before ++ r.more) (source_of now) one r.behind
                  (subst (λ (own : Timing). IsShort own rows s (source_of now)) timed e),
            );
          };
    }
  where
    now_closed : new.closed ≡ true
    now_closed = catches.closed ∙ closed

-- what was read so far is read where the run comes to its border
pub refilling_caught : (kinds : List Kind) (s : Source) (first : ℕ) (rows above : Option ℕ) (before : List Next) (old now new : Inlet)
    (a b : Option Contents) → now.timing ≡ old.timing → CatchesUp s.slack now new → IsRefilling old.timing kinds s first rows above before old now a b
    → IsRefilling old.timing kinds s first rows above before old new a b
refilling_caught kinds s first rows above before old now new a b timed c r = record {
  more = r.more;
  behind = behind_caught old.timing old.fits kinds s first above (before ++ r.more) now new timed c r.behind;
  shortest = r.shortest;
  held = c.held ∙ r.held;
  told = told_weaker (λ was at. still (source_of old) was ≡ r.more ++ still (source_of now) at)
      (λ was at. still (source_of old) was ≡ r.more ++ still (source_of new) at) a b
      (λ x y p. p ∙ ap (λ (rest : List Next). r.more ++ rest) (sym (still_caught s.slack now new y c))) r.told;
}
