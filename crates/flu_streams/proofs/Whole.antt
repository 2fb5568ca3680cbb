-- A source that is read whole: nothing is enough, and its items are counted.
use Rattle.std.proofs.Common.{◌≡◌, ℕ, ◌+◌, ◌≤◌, Bool, true, false, List, [], ◌∷◌, ◌++◌, Option, Some, None, refl, sym, subst}
use Rattle.std.proofs.Common.{ap, ◌∙◌, append_assoc, arith}
use Rattle.std.specs.Prelude.{nat_lt, option_map}
use Rattle.std.proofs.lemmas.Bool.Decides.{nat_tests}
use Rattle.std.proofs.lemmas.List.Elements.{filter_map-append}
use Rattle.std.proofs.lemmas.List.Sums.{sum_by-append}
use Rattle.flu_lemmas.proofs.Told.{told_weaker}
use Rattle.flu_model.specs.declared.jobs.Kind.{Kind}
use Rattle.flu_model.specs.declared.jobs.Source.{Source}
use Rattle.flu_model.specs.declared.moments.Timing.{Timing}
use Rattle.flu_outside.specs.Outside.{Contents, WhereTold}
use Rattle.flu_rows.specs.declared.row.Row.{Row}
use Rattle.flu_rows.specs.declared.row.RowForm.{RowForm}
use Rattle.flu_rows.specs.declared.rows.Next.{Next}
use Rattle.flu_rows.specs.declared.rows.Next.TheVariants.{Row as RowNext, Bad, TooManyLines, Done}
use Rattle.flu_rows.specs.Reading.{ahead}
use Rattle.flu_streams.specs.declared.border.Border.{Border}
use Rattle.flu_streams.specs.declared.border.Border.TheVariants.{At, Closed}
use Rattle.flu_streams.specs.declared.faults.GatherFault.TheVariants.{ReadFault as ReadFaulty}
use Rattle.flu_streams.specs.declared.faults.Why.{Why}
use Rattle.flu_streams.specs.declared.faults.Why.TheVariants.{TooMany}
use Rattle.flu_streams.specs.declared.inlet.Inlet.{Inlet}
use Rattle.flu_streams.specs.declared.stop.Stop.{Stop}
use Rattle.flu_streams.specs.declared.stop.Stop.TheVariants.{Defect, ReadFault, NoMemory}
use Rattle.flu_streams.specs.Before.{with_before, first_some, or_else}
use Rattle.flu_streams.specs.Faults.{WasRead}
use Rattle.flu_streams.specs.Good.{lines_in}
use Rattle.flu_streams.specs.Holding.{HeldSource, unread_source, still}
use Rattle.flu_streams.specs.LoopGathering.{IsFaultOf, HidesNoDefect}
use Rattle.flu_streams.specs.LoopHeld.{source_of, too_many, EndsAt, IsRefilled, Refills, IsStopOf, MeetsDefect}
use Rattle.flu_streams.specs.LoopStop.{fault_of_stop}
use Rattle.flu_streams.specs.Rounds.{row_tests, row_fault, line_defect, defect_in}
use Rattle.flu_streams.specs.Tags.{width}
use Rattle.flu_streams.specs.Tests.{row_in, rows_of, has_ended, times_of, items_in, items_of, where_true, test_items}
use Rattle.flu_streams.specs.Tests.{fault_of, defect_of, first_of}
use Rattle.flu_streams.proofs.Befores.{with_before-append, first_some-append}
use Rattle.flu_streams.proofs.Counted.{map_both}
use Rattle.flu_streams.proofs.RoundLaws.{or_none, or_else-none}
use Rattle.flu_streams.proofs.Starts.{fresh_behind}

-- ---- the defect of a line
-- by its other tests, and by how many items are held
tests_parts : (timing : Timing) (kinds : List Kind) (s : Source) (ended : Bool) (earlier : List ℕ) (held : ℕ) (row : Row)
    → fault_of timing kinds s ended earlier held row ≡ or_else (row_fault timing kinds s ended earlier row) (test_items (width s) held row)
tests_parts timing kinds s ended earlier held row =
    first_some-append (λ test. test) (row_tests timing kinds s ended earlier row) (test_items (width s) held row ∷ [])
    ∙ ap (or_else (row_fault timing kinds s ended earlier row)) (or_none (test_items (width s) held row))

defect_parts : (timing : Timing) (kinds : List Kind) (s : Source) (held : ℕ) (read : List Next) (next : Next)
    → defect_of timing kinds s held read next ≡ or_else (line_defect timing kinds s read next) (too_many (Some held) s read next)
defect_parts timing kinds s held read (RowNext line row) =
    let few = items_of (width s) (rows_of read) in
    let sum : (held + few) + items_in (width s) row ≡ held + (few + items_in (width s) row) = omega arith in
    ap (option_map (λ (why : Why). (line, why))) (tests_parts timing kinds s (has_ended (rows_of read)) (times_of (rows_of read)) (held + few) row)
    ∙ map_both (λ (why : Why). (line, why)) _ _
    ∙ ap (λ m. or_else (line_defect timing kinds s read (RowNext line row))
    (option_map (λ (why : Why). (line, why)) (where_true (nat_lt 16777216 m) (TooMany 16777217)))) sum
defect_parts timing kinds s held read (Bad line) = refl
defect_parts timing kinds s held read TooManyLines = refl
defect_parts timing kinds s held read (Done lines) = sym (or_none (defect_of timing kinds s held read (Done lines)))

-- ---- lines without a defect
items_front : (itags : ℕ) (read rest : List Next) → items_of itags (rows_of (read ++ rest)) ≡ items_of itags (rows_of read) + items_of itags (rows_of rest)
items_front itags read rest = ap (items_of itags) (filter_map-append row_in read rest) ∙ sum_by-append (items_in itags) (rows_of read) (rows_of rest)

few_at : (held : ℕ) (s : Source) (read : List Next) (next : Next) → held + items_of (width s) (rows_of (read ++ next ∷ [])) ≤ 16777216
    → too_many (Some held) s read next ≡ None
few_at held s read (RowNext line row) fits =
    let sum = items_front (width s) read (RowNext line row ∷ []) in
    let own : items_of (width s) (rows_of (RowNext line row ∷ [])) ≡ items_in (width s) row = omega arith in
    let le : held + (items_of (width s) (rows_of read) + items_in (width s) row) ≤ 16777216 = omega (arith, fits, sum, own) in
    ap (λ b. option_map (λ (why : Why). (line, why)) (where_true b (TooMany 16777217))) (not_more _ le)
  where
    not_more : (n : ℕ) → n ≤ 16777216 → nat_lt 16777216 n ≡ false
    not_more n le = grind (arith, nat_tests)
few_at held s read (Bad line) fits = refl
few_at held s read TooManyLines fits = refl
few_at held s read (Done lines) fits = refl

passes_all : (timing : Timing) (kinds : List Kind) (s : Source) (held : ℕ) (read rest : List Next)
    → first_some (λ e. line_defect timing kinds s e.0 e.1) (with_before read rest) ≡ None → held + items_of (width s) (rows_of (read ++ rest)) ≤ 16777216
    → first_some (λ e. defect_of timing kinds s held e.0 e.1) (with_before read rest) ≡ None
passes_all timing kinds s held read [] sound fits = refl
passes_all timing kinds s held read (x ∷ rest) sound fits =
    let parts = or_else-none (line_defect timing kinds s read x) _ sound in
    let all : held + items_of (width s) (rows_of ((read ++ x ∷ []) ++ rest)) ≤ 16777216 = rw (append_assoc read (x ∷ []) rest) fits in
    let sum = items_front (width s) (read ++ x ∷ []) rest in
    let here : defect_of timing kinds s held read x ≡ None =
    defect_parts timing kinds s held read x ∙ ap (λ o. or_else o (too_many (Some held) s read x)) parts.0 ∙ few_at held s read x (omega (arith, all, sum)) in
    ap (λ o. or_else o (first_some (λ (e : List Next × Next). defect_of timing kinds s held e.0 e.1) (with_before (read ++ x ∷ []) rest))) here
    ∙ passes_all timing kinds s held (read ++ x ∷ []) rest parts.1 all

-- lines without a defect whose items may be held have none by the limit either
pub passes_whole : (timing : Timing) (kinds : List Kind) (s : Source) (held : ℕ) (lines : List Next) → defect_in timing kinds s lines ≡ None
    → held + items_of (width s) (rows_of lines) ≤ 16777216 → first_of timing kinds s held lines ≡ None
passes_whole timing kinds s held lines sound fits = passes_all timing kinds s held [] lines sound fits

first_of-at : (timing : Timing) (kinds : List Kind) (s : Source) (held : ℕ) (read rest : List Next) (next : Next) (row : ℕ) (why : Why)
    → first_of timing kinds s held read ≡ None
    → defect_of timing kinds s held read next ≡ Some (row, why) → first_of timing kinds s held (read ++ (next ∷ rest)) ≡ Some (row, why)
first_of-at timing kinds s held read rest next row why passes e =
    let f = λ (e : List Next × Next). defect_of timing kinds s held e.0 e.1 in
    ap (first_some f) (with_before-append [] read (next ∷ rest)) ∙ first_some-append f (with_before [] read) (with_before read (next ∷ rest))
    ∙ ap (λ o. or_else o (first_some f (with_before read (next ∷ rest)))) passes
    ∙ ap (λ o. or_else o (first_some f (with_before (read ++ next ∷ []) rest))) e

-- ---- where it is done
-- before it is read, all its lines are ahead
pub at_first : (form : RowForm) (s : Source) (old : Inlet) (left : Contents) → source_of old ≡ unread_source form None s
    → still (source_of old) left ≡ lines_in form left s
at_first form s old left is = ap (λ (h : HeldSource). still h left) is

pub is_closed : (timing : Timing) (s : Source) (lines : List Next) (new : Inlet) (end : Border) → EndsAt timing s None None lines new end → new.closed ≡ true
is_closed timing s lines new Closed ends = ends.0
is_closed timing s lines new (At u) ends = absurd (never ends.0)
  where
    never : false ≡ true → ⊥
    never e = cc

is_shut : (timing : Timing) (s : Source) (lines : List Next) (new : Inlet) (end : Border) (left : Contents) → EndsAt timing s None None lines new end
    → still (source_of new) left ≡ []
is_shut timing s lines new end left ends = rw (is_closed timing s lines new end ends) refl

pub whole_reads : (timing : Timing) (form : RowForm) (kinds : List Kind) (s : Source) (first : ℕ) (old new : Inlet) (a b : Option Contents) (end : Border)
    → old.timing ≡ timing → source_of old ≡ unread_source form None s → IsRefilled kinds s first None old new a b end
    → Refills timing kinds s first None None [] old new a b end
whole_reads timing form kinds s first old new a b end timed is r =
    subst (λ (t : Timing). Refills t kinds s first None None [] old new a b end) timed
    (r.reads None [] (fresh_behind old.timing form kinds first None s (source_of old) is))

pub whole_told : (timing : Timing) (form : RowForm) (kinds : List Kind) (s : Source) (first : ℕ) (old new : Inlet) (a b : Option Contents) (end : Border)
    → source_of old ≡ unread_source form None s → (r : Refills timing kinds s first None None [] old new a b end)
    → WhereTold a b (λ was now. WasRead form s r.so_far.more [] was)
whole_told timing form kinds s first old new a b end is r =
    let more = r.so_far.more in
    told_weaker (λ was now. still (source_of old) was ≡ more ++ still (source_of new) now) (λ was now. WasRead form s more [] was) a b
    (λ x y p. sym (at_first form s old x is) ∙ p ∙ ap (λ (rest : List Next). more ++ rest) (is_shut timing s ([] ++ more) new end y r.ends))
    r.so_far.told

-- ---- where it stops
whole_defect : (timing : Timing) (form : RowForm) (kinds : List Kind) (s : Source) (held : ℕ) (old : Inlet) (a b : Option Contents) (row : ℕ) (why : Why)
    → source_of old ≡ unread_source form None s → old.held ≡ Some held → MeetsDefect timing kinds s None None [] old a b row why
    → WhereTold a b (λ was now. first_of timing kinds s held (lines_in form was s) ≡ Some (row, why))
whole_defect timing form kinds s held old a b row why is counted m =
    let passes = passes_whole timing kinds s held m.more m.sound (m.fits held counted) in
    let defect = defect_parts timing kinds s held m.more m.next
    ∙ ap (λ o. or_else (line_defect timing kinds s m.more m.next) (too_many o s m.more m.next)) (sym counted) ∙ m.defect in
    told_weaker (λ was now. (rest : List Next) × (still (source_of old) was ≡ m.more ++ (m.next ∷ rest)))
    (λ was now. first_of timing kinds s held (lines_in form was s) ≡ Some (row, why)) a b
    (λ x y p. ap (first_of timing kinds s held) (sym (at_first form s old x is) ∙ p.1)
    ∙ first_of-at timing kinds s held m.more p.0 m.next row why passes defect) m.told

pub whole_fault : (timing : Timing) (form : RowForm) (kinds : List Kind) (s : Source) (first number held : ℕ) (old : Inlet) (a b : Option Contents)
    (stop : Stop)
    → old.timing ≡ timing → source_of old ≡ unread_source form None s → old.held ≡ Some held → IsStopOf kinds s first None old a b stop
    → IsFaultOf timing form kinds s number held a b (fault_of_stop number stop)
whole_fault timing form kinds s first number held old a b stop timed is counted own =
    subst (λ (t : Timing). IsFaultOf t form kinds s number held a b (fault_of_stop number stop)) timed (by_stop stop own)
  where
    by_stop : (stop : Stop) → IsStopOf kinds s first None old a b stop → IsFaultOf old.timing form kinds s number held a b (fault_of_stop number stop)
    by_stop (Defect row why) own = (
      refl,
      whole_defect old.timing form kinds s held old a b row why is counted
          (own None [] (fresh_behind old.timing form kinds first None s (source_of old) is)),
    )
    by_stop ReadFault own = tt
    by_stop NoMemory own = tt

-- the fault of a failed read comes of one stop alone
pub read_stop : (n : ℕ) (stop : Stop) → fault_of_stop n stop ≡ ReadFaulty → stop ≡ ReadFault
read_stop n (Defect row why) e = absurd cc
read_stop n ReadFault e = refl
read_stop n NoMemory e = absurd cc

pub whole_hides : (timing : Timing) (form : RowForm) (kinds : List Kind) (s : Source) (first held : ℕ) (old : Inlet) (a b : Option Contents) (stop : Stop)
    → stop ≡ ReadFault → old.timing ≡ timing → source_of old ≡ unread_source form None s → old.held ≡ Some held → IsStopOf kinds s first None old a b stop
    → HidesNoDefect timing form kinds s held a b
whole_hides timing form kinds s first held old a b (Defect row why) e timed is counted own = absurd cc
whole_hides timing form kinds s first held old a b NoMemory e timed is counted own = absurd cc
whole_hides timing form kinds s first held old a b ReadFault e timed is counted own =
    let m = own None [] (fresh_behind old.timing form kinds first None s (source_of old) is) in
    subst (λ (t : Timing). HidesNoDefect t form kinds s held a b) timed (record {
      read = m.more;
      place = m.place;
      form_is = m.form ∙ ap (λ (h : HeldSource). h.place.form) is;
      file = m.file;
      passes = passes_whole old.timing kinds s held m.more m.sound (m.fits held counted);
      undecided = m.undecided;
      told = told_weaker (λ was now. still (source_of old) was ≡ m.more ++ ahead m.place now) (λ was now. WasRead form s m.more (ahead m.place now) was) a b
          (λ x y p. sym (at_first form s old x is) ∙ p) m.told;
    })
