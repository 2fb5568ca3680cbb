-- Lines without a defect have their end last, so all their rows have times.
use Rattle.std.proofs.Common.{◌≡◌, inl, inr, ◌⊎◌, ℕ, true, false, ◌||◌, List, [], ◌∷◌, ◌++◌, map, length, Option, None, refl, sym, ap, ◌∙◌, append_assoc, subst}
use Rattle.std.specs.List.{range_with_len}
use Rattle.std.proofs.lemmas.Bool.{false≢true}
use Rattle.std.proofs.lemmas.List.{append-nil}
use Rattle.std.proofs.lemmas.List.Elements.{filter-append, filter_map-append}
use Rattle.std.proofs.lemmas.List.Folds.{list_any-append}
use Rattle.flu_lemmas.proofs.Booleans.{or_true}
use Rattle.flu_model.specs.declared.jobs.Kind.{Kind}
use Rattle.flu_model.specs.declared.jobs.Source.{Source}
use Rattle.flu_model.specs.declared.moments.Timing.{Timing}
use Rattle.flu_rows.specs.declared.row.Row.{Row}
use Rattle.flu_rows.specs.declared.row.Row.TheVariants.{Event, Beat, End}
use Rattle.flu_rows.specs.declared.rows.Next.{Next}
use Rattle.flu_rows.specs.declared.rows.Next.TheVariants.{Row as RowNext, Bad, TooManyLines, Done}
use Rattle.flu_streams.specs.declared.border.Border.TheVariants.{Closed}
use Rattle.flu_streams.specs.declared.faults.Why.{Why}
use Rattle.flu_streams.specs.declared.faults.Why.TheVariants.{AfterEnd}
use Rattle.flu_streams.specs.Good.{at_moments, items_at, lists_of_rows}
use Rattle.flu_streams.specs.Rounds.{line_defect, defect_in, is_between, rows_between}
use Rattle.flu_streams.specs.Tags.{width}
use Rattle.flu_streams.specs.Tests.{row_in, rows_of, is_end, has_ended}
use Rattle.flu_streams.proofs.Moments.{at_moments-end}
use Rattle.flu_streams.proofs.RoundLaws.{no_option, sound_front, defect_in-more}
use Rattle.flu_streams.proofs.Taken.{rows_more, ended_more, items_at-end, goes_on}

-- ---- the end comes last
-- a line behind the end has a defect
none_behind : (timing : Timing) (kinds : List Kind) (s : Source) (read : List Next) (next : Next) → has_ended (rows_of read) ≡ true
    → line_defect timing kinds s read next ≡ None
    → rows_of (next ∷ []) ≡ []
none_behind timing kinds s read (RowNext line row) ended e =
    absurd (false≢true (sym (goes_on (has_ended (rows_of read)) AfterEnd _ (no_option (λ (why : Why). (line, why)) _ e)) ∙ ended))
none_behind timing kinds s read (Bad line) ended e = refl
none_behind timing kinds s read TooManyLines ended e = refl
none_behind timing kinds s read (Done lines) ended e = refl

still_ended : (read : List Next) (next : Next) → has_ended (rows_of read) ≡ true → rows_of (next ∷ []) ≡ [] → has_ended (rows_of (read ++ next ∷ [])) ≡ true
still_ended read next ended none =
    ap has_ended (filter_map-append row_in read (next ∷ []) ∙ ap (λ l. rows_of read ++ l) none ∙ append-nil (rows_of read)) ∙ ended

regroup : (read : List Next) (next : Next) (more : List Next) → read ++ (next ∷ more) ≡ (read ++ next ∷ []) ++ more
regroup read next more = sym (append_assoc read (next ∷ []) more)

line_sound : (timing : Timing) (kinds : List Kind) (s : Source) (read : List Next) (next : Next) (more : List Next)
    → defect_in timing kinds s (read ++ (next ∷ more)) ≡ None
    → line_defect timing kinds s read next ≡ None
line_sound timing kinds s read next more sound =
    let all : defect_in timing kinds s ((read ++ next ∷ []) ++ more) ≡ None = ap (defect_in timing kinds s) (sym (regroup read next more)) ∙ sound in
    let front = sound_front timing kinds s (read ++ next ∷ []) more all in
    sym (defect_in-more timing kinds s read next (sound_front timing kinds s read (next ∷ []) front)) ∙ front

nothing_behind : (timing : Timing) (kinds : List Kind) (s : Source) (read more : List Next) → has_ended (rows_of read) ≡ true
    → defect_in timing kinds s (read ++ more) ≡ None
    → rows_of more ≡ []
nothing_behind timing kinds s read [] ended sound = refl
nothing_behind timing kinds s read (next ∷ more) ended sound =
    let none = none_behind timing kinds s read next ended (line_sound timing kinds s read next more sound) in
    let rest = nothing_behind timing kinds s (read ++ next ∷ []) more (still_ended read next ended none)
    (ap (defect_in timing kinds s) (sym (regroup read next more))
    ∙ sound) in
    filter_map-append row_in (next ∷ []) more ∙ ap (λ l. l ++ rows_of more) none ∙ rest

-- the rows have no end, or one behind all others
abbrev EndsLast : List Row → Type 0
EndsLast rows = (has_ended rows ≡ false) ⊎ ((front : List Row) × (rows ≡ front ++ End ∷ []) × (has_ended front ≡ false))

-- a line that does not end the source
goes_still : (read : List Next) (next : Next) → has_ended (rows_of read) ≡ false → has_ended (rows_of (next ∷ [])) ≡ false
    → has_ended (rows_of (read ++ next ∷ [])) ≡ false
goes_still read next goes more =
    ap has_ended (filter_map-append row_in read (next ∷ [])) ∙ list_any-append is_end (rows_of read) (rows_of (next ∷ []))
    ∙ ap (λ b. b || has_ended (rows_of (next ∷ []))) goes ∙ more

ends_last : (timing : Timing) (kinds : List Kind) (s : Source) (read more : List Next) → has_ended (rows_of read) ≡ false
    → defect_in timing kinds s (read ++ more) ≡ None
    → EndsLast (rows_of (read ++ more))
ends_last timing kinds s read [] goes sound = inl (ap (λ l. has_ended (rows_of l)) (append-nil read) ∙ goes)
ends_last timing kinds s read (RowNext line End ∷ more) goes sound =
    let next = RowNext line End in
    let all : defect_in timing kinds s ((read ++ next ∷ []) ++ more) ≡ None = ap (defect_in timing kinds s) (sym (regroup read next more)) ∙ sound in
    let ended : has_ended (rows_of (read ++ next ∷ [])) ≡ true = ap has_ended (rows_more read line End) ∙ ended_more (rows_of read) End
    ∙ or_true (has_ended (rows_of read)) in
    let none = nothing_behind timing kinds s (read ++ next ∷ []) more ended all in
    inr (
      rows_of read,
      ap rows_of (regroup read next more) ∙ filter_map-append row_in (read ++ next ∷ []) more
          ∙ ap (λ l. rows_of (read ++ next ∷ []) ++ l) none ∙ append-nil (rows_of (read ++ next ∷ [])) ∙ rows_more read line End,
      goes,
    )
ends_last timing kinds s read (RowNext line (Event time name key fields) ∷ more) goes sound =
    let next = RowNext line (Event time name key fields) in
    subst (λ l. EndsLast (rows_of l)) (sym (regroup read next more))
    (ends_last timing kinds s (read ++ next ∷ []) more (goes_still read next goes refl) (ap (defect_in timing kinds s) (sym (regroup read next more)) ∙ sound))
ends_last timing kinds s read (RowNext line (Beat time) ∷ more) goes sound =
    let next = RowNext line (Beat time) in
    subst (λ l. EndsLast (rows_of l)) (sym (regroup read next more))
    (ends_last timing kinds s (read ++ next ∷ []) more (goes_still read next goes refl) (ap (defect_in timing kinds s) (sym (regroup read next more)) ∙ sound))
ends_last timing kinds s read (Bad line ∷ more) goes sound =
    subst (λ l. EndsLast (rows_of l)) (sym (regroup read (Bad line) more)) (ends_last timing kinds s (read ++ Bad line ∷ []) more
    (goes_still read (Bad line) goes refl) (ap (defect_in timing kinds s) (sym (regroup read (Bad line) more)) ∙ sound))
ends_last timing kinds s read (TooManyLines ∷ more) goes sound =
    subst (λ l. EndsLast (rows_of l)) (sym (regroup read TooManyLines more)) (ends_last timing kinds s (read ++ TooManyLines ∷ []) more
    (goes_still read TooManyLines goes refl) (ap (defect_in timing kinds s) (sym (regroup read TooManyLines more)) ∙ sound))
ends_last timing kinds s read (Done lines ∷ more) goes sound =
    subst (λ l. EndsLast (rows_of l)) (sym (regroup read (Done lines) more)) (ends_last timing kinds s (read ++ Done lines ∷ []) more
    (goes_still read (Done lines) goes refl) (ap (defect_in timing kinds s) (sym (regroup read (Done lines) more)) ∙ sound))

-- ---- all rows that have a time
all_timed : (rows : List Row) → has_ended rows ≡ false → rows_between None Closed rows ≡ rows
all_timed [] goes = refl
all_timed (Event time name key fields ∷ rows) goes = ap (λ l. Event time name key fields ∷ l) (all_timed rows goes)
all_timed (Beat time ∷ rows) goes = ap (λ l. Beat time ∷ l) (all_timed rows goes)
all_timed (End ∷ rows) goes = absurd (false≢true (sym goes))

timed_lists : (timing : Timing) (kinds : List Kind) (s : Source) (first : ℕ) (rows : List Row) → EndsLast rows
    → lists_of_rows timing kinds s first (rows_between None Closed rows) ≡ lists_of_rows timing kinds s first rows
timed_lists timing kinds s first rows (inl goes) = ap (lists_of_rows timing kinds s first) (all_timed rows goes)
timed_lists timing kinds s first rows (inr (front, is, goes)) =
    let timed : rows_between None Closed rows ≡ front =
    ap (rows_between None Closed) is ∙ filter-append (is_between None Closed) front (End ∷ []) ∙ append-nil (rows_between None Closed front)
    ∙ all_timed front goes in
    ap (lists_of_rows timing kinds s first) timed
    ∙ (λ i. map (λ place. sym (items_at-end kinds s first place (at_moments timing [] front)) i) (range_with_len 0 (width s)))
    ∙ ap (λ own. map (items_at kinds s first own) (range_with_len 0 (width s))) (sym (at_moments-end timing [] front))
    ∙ ap (lists_of_rows timing kinds s first) (sym is)

-- the lists of lines without a defect are those of their rows with a time
pub whole_rows : (timing : Timing) (kinds : List Kind) (s : Source) (first : ℕ) (lines : List Next) → defect_in timing kinds s lines ≡ None
    → lists_of_rows timing kinds s first (rows_between None Closed (rows_of lines)) ≡ lists_of_rows timing kinds s first (rows_of lines)
whole_rows timing kinds s first lines sound = timed_lists timing kinds s first (rows_of lines) (ends_last timing kinds s [] lines refl sound)
