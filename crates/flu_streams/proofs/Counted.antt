-- Items that are counted.
use Rattle.std.proofs.Common.{◌≡◌, ℕ, ◌+◌, ◌≤◌, false, List, ◌∷◌, [], Option, Some, None, refl, sym, ap, ◌∙◌, arith}
use Rattle.std.specs.Prelude.{is_some, nat_lt, option_map, unwrap_or}
use Rattle.flu_model.specs.declared.jobs.Kind.{Kind}
use Rattle.flu_model.specs.declared.jobs.Source.{Source}
use Rattle.flu_rows.specs.declared.row.Row.{Row}
use Rattle.flu_rows.specs.declared.rows.Next.{Next}
use Rattle.flu_rows.specs.declared.rows.Next.TheVariants.{Row as RowNext, Bad, TooManyLines, Done}
use Rattle.flu_streams.specs.declared.faults.Why.{Why}
use Rattle.flu_streams.specs.declared.faults.Why.TheVariants.{TooMany}
use Rattle.flu_streams.specs.declared.inlet.Inlet.{Inlet}
use Rattle.flu_streams.specs.Before.{first_some, or_else}
use Rattle.flu_streams.specs.LoopHeld.{held_with, test_held, too_many, Fits, tests_behind, fault_behind}
use Rattle.flu_streams.specs.Tags.{width}
use Rattle.flu_streams.specs.Tests.{rows_of, items_in, items_of, where_true}
use Rattle.flu_streams.proofs.Befores.{first_some-append}
use Rattle.flu_streams.proofs.RoundLaws.{or_none}
use Rattle.flu_streams.proofs.Taken.{IsNoRow}

pub counted_more : (held : Option ℕ) (a b : ℕ) → held_with (held_with held a) b ≡ held_with held (a + b)
counted_more None a b = refl
counted_more (Some n) a b = ap Some (omega arith)

pub counted_none : (held : Option ℕ) → held_with held 0 ≡ held
counted_none None = refl
counted_none (Some n) = ap Some (omega arith)

test_more : (held : Option ℕ) (a b : ℕ) → test_held (held_with held a) b ≡ test_held held (a + b)
test_more None a b = refl
test_more (Some n) a b =
    let same : (n + a) + b ≡ n + (a + b) = omega arith in ap (λ m. where_true (nat_lt 16777216 m) (TooMany 16777217)) same

pub fits_now : (s : Source) (read : List Next) (old now : Inlet) → now.held ≡ held_with old.held (items_of (width s) (rows_of read)) → Fits old.held s read
fits_now s read old now is n e =
    let same : now.held ≡ Some (n + items_of (width s) (rows_of read)) = is ∙ ap (λ held. held_with held (items_of (width s) (rows_of read))) e in
    let few : unwrap_or now.held 0 ≤ 16777216 = now.limit in
    rw same at few

-- ---- the defect of a row
-- by its other tests, and by how many items are held
pub fault_parts : (kinds : List Kind) (s : Source) (h : Inlet) (row : Row)
    → fault_behind kinds s h row ≡ or_else (first_some (λ test. test) (tests_behind kinds s h row)) (test_held h.held (items_in (width s) row))
fault_parts kinds s h row =
    first_some-append (λ test. test) (tests_behind kinds s h row) (test_held h.held (items_in (width s) row) ∷ [])
    ∙ ap (or_else (first_some (λ test. test) (tests_behind kinds s h row))) (or_none (test_held h.held (items_in (width s) row)))

pub map_both : {X Y : Type 0} (f : X → Y) (a b : Option X) → option_map f (or_else a b) ≡ or_else (option_map f a) (option_map f b)
map_both f None b = refl
map_both f (Some x) b = refl

pub many_row : (s : Source) (read : List Next) (line : ℕ) (row : Row) (held now : Option ℕ) → now ≡ held_with held (items_of (width s) (rows_of read))
    → too_many held s read (RowNext line row) ≡ option_map (λ (why : Why). (line, why)) (test_held now (items_in (width s) row))
many_row s read line row held now is =
    ap (option_map (λ (why : Why). (line, why))) (sym (test_more held (items_of (width s) (rows_of read)) (items_in (width s) row))
    ∙ ap (λ o. test_held o (items_in (width s) row)) (sym is))

pub many_last : (held : Option ℕ) (s : Source) (read : List Next) (next : Next) → IsNoRow next → too_many held s read next ≡ None
many_last held s read (RowNext line row) other = absurd (other line row refl)
many_last held s read (Bad line) other = refl
many_last held s read TooManyLines other = refl
many_last held s read (Done lines) other = refl

-- where they are not counted there are never too many
pub never_many : (held : Option ℕ) (s : Source) (read : List Next) (next : Next) → is_some held ≡ false → too_many held s read next ≡ None
never_many (Some n) s read next e = absurd cc
never_many None s read (RowNext line row) e = refl
never_many None s read (Bad line) e = refl
never_many None s read TooManyLines e = refl
never_many None s read (Done lines) e = refl
