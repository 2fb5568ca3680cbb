-- The lists of clocks among those of all sources: the ticks of each take the place of the end alone, and are counted behind the rows of all files.
use Rattle.std.proofs.Common.{◌≡◌, ℕ, zero, suc, ◌+◌, ◌-◌, ◌<◌, ◌≤◌, Bool, true, false, List, [], ◌∷◌, ◌++◌, map, length, get_or, take, drop, filter}
use Rattle.std.proofs.Common.{Option, Some, None, refl, sym, ap, ◌∙◌, append_assoc, length-append, arith, subst}
use Rattle.std.specs.Prelude.{nat_lt, set, slice_get, is_some, sum_by, if◌then◌else◌}
use Rattle.std.specs.List.{flat_map, range_with_len}
use Rattle.std.specs.Option.{option_map_or}
use Rattle.std.proofs.lemmas.Grind.{flat_map-append}
use Rattle.std.proofs.lemmas.List.{append-nil, drop_more, set_at}
use Rattle.std.proofs.lemmas.List.FromFn.{length-map-range_with_len}
use Rattle.std.proofs.lemmas.List.Sums.{sum_by-append}
use Rattle.std.proofs.lemmas.Option.{slice_get_read}
use Rattle.flu_lemmas.proofs.Tests.{and_left, and_right, both, true_lt, lt_true, false_if_not}
use Rattle.flu_model.specs.declared.events.Item.{Item}
use Rattle.flu_model.specs.declared.jobs.Program.{Program}
use Rattle.flu_model.specs.declared.jobs.Source.{Source}
use Rattle.flu_model.specs.declared.moments.Timing.{Timing}
use Rattle.flu_model.specs.Itags.{count_of_itags}
use Rattle.flu_model.specs.Moments.{timing_of}
use Rattle.flu_model.specs.Rules.{is_clock}
use Rattle.flu_model.specs.Streaming.{is_stream_from, are_streams}
use Rattle.flu_moments.specs.Clocks.{ticks_among}
use Rattle.flu_rows.specs.declared.row.Row.{Row}
use Rattle.flu_streams.specs.declared.border.Border.TheVariants.{Closed}
use Rattle.flu_streams.specs.declared.clocks.Span.{Span}
use Rattle.flu_streams.specs.declared.faults.SourceFault.{SourceFault}
use Rattle.flu_streams.specs.declared.faults.Why.TheVariants.{TooMany}
use Rattle.flu_streams.specs.Before.{with_before, each_with_before, first_some, or_else}
use Rattle.flu_streams.specs.Clocks.{Declared, ticks_of, items_of_ticks, lists_of_ticks, count_of_ticks, fault_of_ticks, fault_among}
use Rattle.flu_streams.specs.Good.{at_moments, items_at, lists_of_rows, lists_of_source}
use Rattle.flu_streams.specs.LoopClocks.{HasSpan, ranks_in}
use Rattle.flu_streams.specs.Rounds.{is_within}
use Rattle.flu_streams.specs.Tags.{width}
use Rattle.flu_streams.proofs.Befores.{with_before-append, first_some-append}
use Rattle.flu_streams.proofs.Gatherings.{total_width}
use Rattle.flu_streams.proofs.Spans.{span_tells}
use Rattle.flu_streams.proofs.Ticking.{ticks_rise, stream_of_ticks}

-- ---- the ticks of a clock make a stream
pub ticks_stream : (p : Program) (i : ℕ) (s : Source) (span : Option Span) (timing : Timing) (itag : ℕ) → slice_get p.sources i ≡ Some s
    → 0 < timing.scale → is_stream_from itag 0 (items_of_ticks timing itag (ticks_of p (ranks_in span) (take i p.sources, s))) ≡ true
ticks_stream p i s span timing itag at wide =
    stream_of_ticks timing itag 0 0 (ticks_of p (ranks_in span) (take i p.sources, s)) wide (ticks_rise p i s (ranks_in span) at) (omega arith)

-- one list is put in the place of another
pub streams_set : (n k : ℕ) (xs : List (List Item)) (y : List Item) → k < length xs → are_streams n xs ≡ true → is_stream_from (n + k) 0 y ≡ true
    → are_streams n (set xs k y) ≡ true
streams_set n k [] y lt all own = absurd (omega (arith, lt))
streams_set n zero (x ∷ xs) y lt all own =
    let none : n + zero ≡ n = omega arith in
    both (is_stream_from n 0 y) (are_streams (n + 1) xs) (subst (λ m. is_stream_from m 0 y ≡ true) none own) (and_right (is_stream_from n 0 x) _ all)
streams_set n (suc k) (x ∷ xs) y lt all own =
    let one : n + suc k ≡ (n + 1) + k = omega arith in
    both (is_stream_from n 0 x) (are_streams (n + 1) (set xs k y)) (and_left (is_stream_from n 0 x) _ all)
    (streams_set (n + 1) k xs y (omega (arith, lt)) (and_right (is_stream_from n 0 x) _ all) (subst (λ m. is_stream_from m 0 y ≡ true) one own))

-- ---- each element, with those before it
pub flat_more : {X Y : Type 0} (g : List X × X → List Y) (earlier : List X) (s : X) (own : List Y) → g (earlier, s) ≡ own
    → flat_map g (each_with_before (earlier ++ s ∷ [])) ≡ flat_map g (each_with_before earlier) ++ own
flat_more g earlier s own is =
    ap (flat_map g) (with_before-append [] earlier (s ∷ [])) ∙ flat_map-append g (each_with_before earlier) ((earlier, s) ∷ [])
    ∙ ap (λ ys. flat_map g (each_with_before earlier) ++ ys) (append-nil (g (earlier, s)) ∙ is)

pub none_more : {X Y : Type 0} (f : List X × X → Option Y) (earlier : List X) (s : X) → first_some f (each_with_before earlier) ≡ None → f (earlier, s) ≡ None
    → first_some f (each_with_before (earlier ++ s ∷ [])) ≡ None
none_more f earlier s none here =
    ap (first_some f) (with_before-append [] earlier (s ∷ [])) ∙ first_some-append f (each_with_before earlier) ((earlier, s) ∷ [])
    ∙ ap (λ o. or_else o (or_else (f (earlier, s)) None)) none ∙ ap (λ o. or_else o None) here

pub first_at : {X Y : Type 0} (f : List X × X → Option Y) (earlier later : List X) (s : X) (y : Y) → first_some f (each_with_before earlier) ≡ None
    → f (earlier, s) ≡ Some y → first_some f (each_with_before (earlier ++ (s ∷ later))) ≡ Some y
first_at f earlier later s y none here =
    ap (first_some f) (with_before-append [] earlier (s ∷ later)) ∙ first_some-append f (each_with_before earlier) (with_before earlier (s ∷ later))
    ∙ ap (λ o. or_else o (or_else (f (earlier, s)) (first_some f (with_before (earlier ++ s ∷ []) later)))) none
    ∙ ap (λ o. or_else o (first_some f (with_before (earlier ++ s ∷ []) later))) here

count_more : (ticks : Declared → List ℕ) (earlier : List Source) (s : Source)
    → count_of_ticks ticks (earlier ++ s ∷ []) ≡ count_of_ticks ticks earlier + length (ticks (earlier, s))
count_more ticks earlier s =
    let f = λ (e : Declared). length (ticks e) in
    ap (sum_by f) (with_before-append [] earlier (s ∷ [])) ∙ sum_by-append f (each_with_before earlier) ((earlier, s) ∷ []) ∙ omega arith

-- ---- how many lists there are
module _ (p : Program) (rows : Declared → List Row) (ticks : Declared → List ℕ) where
  length_source : (e : Declared) → length (lists_of_source p (rows e) (ticks e) e) ≡ width e.1
  length_source e = by_clock (is_clock e.1)
    where
      by_clock : (b : Bool) → length (if b then lists_of_ticks (timing_of p (length e.0)) e.1 (sum_by width e.0) (ticks e)
          else lists_of_rows (timing_of p (length e.0)) p.kinds e.1 (sum_by width e.0) (rows e)) ≡ width e.1
      by_clock true = length-map-range_with_len (λ place. items_of_ticks (timing_of p (length e.0)) (sum_by width e.0 + place) (ticks e)) 0 (width e.1)
      by_clock false = length-map-range_with_len (items_at p.kinds e.1 (sum_by width e.0) (at_moments (timing_of p (length e.0)) [] (rows e))) 0 (width e.1)

  length_sources : (before sources : List Source)
      → length (flat_map (λ e. lists_of_source p (rows e) (ticks e) e) (with_before before sources)) ≡ sum_by width sources
  length_sources before [] = refl
  length_sources before (s ∷ sources) =
      let one : sum_by width (s ∷ sources) ≡ width s + sum_by width sources = sum_by-append width (s ∷ []) sources ∙ omega arith in
      let own = length_source (before, s) in
      let more = length_sources (before ++ s ∷ []) sources in
      let all = length-append (lists_of_source p (rows (before, s)) (ticks (before, s)) (before, s))
      (flat_map (λ e. lists_of_source p (rows e) (ticks e) e) (with_before (before ++ s ∷ []) sources)) in
      omega (arith, one, own, more, all)

-- ---- the ticks that are found
all_within : (ticks : List ℕ) → filter (is_within None Closed) ticks ≡ ticks
all_within [] = refl
all_within (t ∷ ticks) = ap (λ rest. t ∷ rest) (all_within ticks)

pub found_ticks : (p : Program) (ranks : List ℕ) (span : Option Span) (i : ℕ) (s : Source) (ticks : List ℕ) → HasSpan span ranks
    → ticks ≡ filter (is_within None Closed) (ticks_of p (ranks_in span) (take i p.sources, s)) → ticks ≡ ticks_of p ranks (take i p.sources, s)
found_ticks p ranks span i s ticks has is =
    is ∙ all_within (ticks_of p (ranks_in span) (take i p.sources, s)) ∙ span_tells p span ranks (take i p.sources, s) has

pub ticks_alone : (p : Program) (span : Option Span) (i : ℕ) (s : Source) (ticks : List ℕ)
    → ticks ≡ filter (is_within None Closed) (ticks_of p (ranks_in span) (take i p.sources, s)) → ticks ≡ ticks_of p (ranks_in span) (take i p.sources, s)
ticks_alone p span i s ticks is = is ∙ all_within (ticks_of p (ranks_in span) (take i p.sources, s))

-- a source with a file has none
no_ticks : (p : Program) (ranks : List ℕ) (e : Declared) → is_clock e.1 ≡ false → ticks_of p ranks e ≡ []
no_ticks p ranks e file = by_every e.1.every file
  where
    by_every : (o : Option ℕ) → is_some o ≡ false → option_map_or (λ every. ticks_among (length p.sources) 1 every (length e.0) ranks) o [] ≡ []
    by_every None file = refl
    by_every (Some every) file = absurd cc

-- ---- too many ticks
abbrev fault_at : ℕ → ℕ → SourceFault
fault_at number row = record { source = number; row = row; why = TooMany 16777217 }

few_ticks : (number held : ℕ) (ticks : List ℕ) → held + length ticks ≤ 16777216 → fault_of_ticks number held ticks ≡ None
few_ticks number held ticks le =
    ap (λ (b : Bool). if b then Some (fault_at number (16777217 - held)) else None)
    (false_if_not (nat_lt 16777216 (held + length ticks)) (λ e. let lt = true_lt 16777216 (held + length ticks) e in omega (arith, lt, le)))

many_ticks : (number held : ℕ) (ticks : List ℕ) → 16777216 < held + length ticks → fault_of_ticks number held ticks ≡ Some (fault_at number (16777217 - held))
many_ticks number held ticks lt =
    ap (λ (b : Bool). if b then Some (fault_at number (16777217 - held)) else None) (lt_true 16777216 (held + length ticks) lt)

-- ---- the lists with the ticks of the first sources, among rows that stand there
pub record AreTicked (p : Program) (ranks : List ℕ) (rows : Declared → List Row) (earlier later : List Source) (held now : ℕ) (lists : List (List Item)) : Type 0 where
  pub lists_are : lists ≡ flat_map (λ e. lists_of_source p (rows e) (ticks_of p ranks e) e) (each_with_before earlier)
      ++ flat_map (λ e. lists_of_rows (timing_of p (length e.0)) p.kinds e.1 (sum_by width e.0) (rows e)) (with_before earlier later)
  pub count : now ≡ held + count_of_ticks (ticks_of p ranks) earlier
  pub none : first_some (λ e. fault_of_ticks (length e.0) (held + count_of_ticks (ticks_of p ranks) e.0) (ticks_of p ranks e))
      (each_with_before earlier) ≡ None

module _ (p : Program) (ranks : List ℕ) (rows : Declared → List Row) (earlier later : List Source) (s : Source) (held now : ℕ) (lists : List (List Item))
    (is : AreTicked p ranks rows earlier (s ∷ later) held now lists) where
  abbrev ticks : Declared → List ℕ
  ticks = ticks_of p ranks

  abbrev fault_in : Declared → Option SourceFault
  fault_in e = fault_of_ticks (length e.0) (held + count_of_ticks ticks e.0) (ticks e)

  abbrev with_rows : Declared → List (List Item)
  with_rows e = lists_of_rows (timing_of p (length e.0)) p.kinds e.1 (sum_by width e.0) (rows e)

  abbrev with_ticks : Declared → List (List Item)
  with_ticks e = lists_of_ticks (timing_of p (length e.0)) e.1 (sum_by width e.0) (ticks e)

  abbrev with_all : Declared → List (List Item)
  with_all e = lists_of_source p (rows e) (ticks e) e

  -- a source with a file stays as it is
  pub goes_on : is_clock s ≡ false → now ≤ 16777216 → AreTicked p ranks rows (earlier ++ s ∷ []) later held now lists
  goes_on file few =
      let none = ap length (no_ticks p ranks (earlier, s) file) in
      let count = is.count in
      let rest = flat_map with_rows (with_before (earlier ++ s ∷ []) later) in
      record {
        lists_are = is.lists_are ∙ sym (append_assoc (flat_map with_all (each_with_before earlier)) (with_rows (earlier, s)) rest)
            ∙ ap (λ front. front ++ rest) (sym (flat_more with_all earlier s (with_rows (earlier, s))
            (ap (λ (b : Bool). if b then with_ticks (earlier, s) else with_rows (earlier, s)) file)));
        count = (let more = count_more ticks earlier s in omega (arith, count, more, none));
        none = none_more fault_in earlier s is.none
            (few_ticks (length earlier) (held + count_of_ticks ticks earlier) (ticks (earlier, s)) (omega (arith, count, few, none)));
      }

  -- a clock gets its ticks
  pub ticks_on : (items : List Item) → is_clock s ≡ true → width s ≡ 1 → now + length (ticks (earlier, s)) ≤ 16777216
      → items ≡ items_of_ticks (timing_of p (length earlier)) (sum_by width earlier) (ticks (earlier, s))
      → AreTicked p ranks rows (earlier ++ s ∷ []) later held (now + length (ticks (earlier, s))) (set lists (sum_by width earlier) items)
  ticks_on items clock one few own =
      let count = is.count in
      let front = flat_map with_all (each_with_before earlier) in
      let rest = flat_map with_rows (with_before (earlier ++ s ∷ []) later) in
      let f = items_at p.kinds s (sum_by width earlier) (at_moments (timing_of p (length earlier)) [] (rows (earlier, s))) in
      let single : with_rows (earlier, s) ≡ f 0 ∷ [] = ap (λ n. map f (range_with_len 0 n)) one in
      let first : sum_by width earlier + 0 ≡ sum_by width earlier = omega arith in
      let its : with_ticks (earlier, s) ≡ items ∷ [] =
      ap (λ n. map (λ place. items_of_ticks (timing_of p (length earlier)) (sum_by width earlier + place) (ticks (earlier, s))) (range_with_len 0 n)) one
      ∙ ap (λ n. items_of_ticks (timing_of p (length earlier)) n (ticks (earlier, s)) ∷ []) first ∙ ap (λ (l : List Item). l ∷ []) (sym own) in
      record {
        lists_are = ap (λ ls. set ls (sum_by width earlier) items) (is.lists_are ∙ ap (λ ls. front ++ (ls ++ rest)) single)
            ∙ set_at front (f 0) rest items (sum_by width earlier) (length_sources p rows ticks [] earlier)
            ∙ sym (append_assoc front (items ∷ []) rest)
            ∙ ap (λ ls. ls ++ rest) (sym (flat_more with_all earlier s (items ∷ [])
            (ap (λ (b : Bool). if b then with_ticks (earlier, s) else with_rows (earlier, s)) clock ∙ its)));
        count = (let more = count_more ticks earlier s in omega (arith, count, more));
        none = none_more fault_in earlier s is.none
            (few_ticks (length earlier) (held + count_of_ticks ticks earlier) (ticks (earlier, s)) (omega (arith, count, few)));
      }

  -- or it has too many
  pub ticks_stop : (number row : ℕ) → p.sources ≡ earlier ++ (s ∷ later) → number ≡ length earlier → now ≤ 16777216
      → 16777216 < now + length (ticks (earlier, s)) → row ≡ 16777216 - now + 1
      → fault_among p.sources held ticks ≡ Some (fault_at number row)
  ticks_stop number row split number_is few many row_is =
      let count = is.count in
      let same : 16777217 - (held + count_of_ticks ticks earlier) ≡ row = omega (arith, count, few, row_is) in
      ap (λ sources. first_some fault_in (each_with_before sources)) split
      ∙ first_at fault_in earlier later s (fault_at number row) is.none
      (many_ticks (length earlier) (held + count_of_ticks ticks earlier) (ticks (earlier, s)) (omega (arith, count, many))
      ∙ ap (λ (n : ℕ). Some (fault_at n (16777217 - (held + count_of_ticks ticks earlier)))) (sym number_is)
      ∙ ap (λ (r : ℕ). Some (fault_at number r)) same)

-- at first no source has its ticks, and at last each
pub ticks_start : (p : Program) (ranks : List ℕ) (rows : Declared → List Row) (held : ℕ) (lists : List (List Item))
    → lists ≡ flat_map (λ e. lists_of_rows (timing_of p (length e.0)) p.kinds e.1 (sum_by width e.0) (rows e)) (each_with_before p.sources)
    → AreTicked p ranks rows [] p.sources held held lists
ticks_start p ranks rows held lists is = record { lists_are = is; count = omega arith; none = refl }

-- ---- one source after those before it
pub rest_here : (sources items : List Source) (i : ℕ) (s : Source) → items ≡ sources → i < length items → s ≡ get_or items i s
    → drop i sources ≡ s ∷ drop (i + 1) sources
rest_here sources items i s e lt is =
    let within : i < length sources = rw e at lt in
    let here : s ≡ get_or sources i s = rw e at is in
    drop_more sources i s within ∙ ap (λ (x : Source). x ∷ drop (i + 1) sources) (sym here)

pub here_at : (sources items : List Source) (i : ℕ) (s : Source) → items ≡ sources → i < length items → s ≡ get_or items i s → slice_get sources i ≡ Some s
here_at sources items i s e lt is = ap (λ (l : List Source). slice_get l i) (sym e) ∙ slice_get_read items (length items) i s refl lt is

pub first_within : (p : Program) (earlier later : List Source) (s : Source) → p.sources ≡ earlier ++ (s ∷ later)
    → sum_by width earlier + width s ≤ count_of_itags p
first_within p earlier later s split =
    let all = total_width 0 p.sources in
    let own = ap (sum_by width) split in
    let parts = sum_by-append width earlier (s ∷ later) in
    let rest = sum_by-append width (s ∷ []) later in
    omega (arith, all, own, parts, rest)

pub as_ticked : (p : Program) (ranks : List ℕ) (rows : Declared → List Row) (earlier earlier' later : List Source) (held now now' : ℕ) (lists lists' : List (List Item))
    → earlier' ≡ earlier → now' ≡ now → lists' ≡ lists → AreTicked p ranks rows earlier later held now lists → AreTicked p ranks rows earlier' later held now' lists'
as_ticked p ranks rows earlier earlier' later held now now' lists lists' e n l is =
    subst (λ x. AreTicked p ranks rows x later held now' lists') (sym e)
    (subst (λ x. AreTicked p ranks rows earlier later held x lists') (sym n) (subst (AreTicked p ranks rows earlier later held now) (sym l) is))
