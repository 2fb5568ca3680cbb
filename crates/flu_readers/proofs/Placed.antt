-- Where the list of an itag stands among those of all sources: it is that of a place of its source. So each event of a source with a file stands at a
-- moment of one of its rows; and each source lists an itag.
use Rattle.std.proofs.Common.{◌≡◌, ◌<◌, ◌≤◌, ◌+◌, ◌-◌, ℕ, zero, suc, Bool, true, false, List, [], ◌∷◌, ◌++◌, length, map, Option, Some, None, inl, inr}
use Rattle.std.proofs.Common.{refl, sym, ap, subst, ◌∙◌, append_assoc, length-append, get_or, arith}
use Rattle.std.specs.Prelude.{Contains, slice_get, slice_index_or, nat_le, ◌&&◌, sum_by, if◌then◌else◌}
use Rattle.std.specs.List.{flat_map, list_all}
use Rattle.std.specs.Option.{option_map_or}
use Rattle.std.proofs.Math.ListN.{get_or-append}
use Rattle.std.proofs.lemmas.Bool.{cases_lt}
use Rattle.std.proofs.lemmas.List.{length-map, get_or-append_right}
use Rattle.std.proofs.lemmas.List.FromFn.{length-map-range_with_len, get_or-map-range_with_len, length-range_with_len}
use Rattle.std.proofs.lemmas.Option.{slice_get_within}
use Rattle.flu_lemmas.proofs.Containing.{contains_here, contains_later, contains_cases, contains_none}
use Rattle.flu_lemmas.proofs.Tests.{and_left, and_right, true_lt, true_le}
use Rattle.flu_model.specs.Erasure.{job_of}
use Rattle.flu_model.specs.declared.events.Event.{Event}
use Rattle.flu_model.specs.declared.events.Item.{Item}
use Rattle.flu_model.specs.declared.events.Tag.{Tag}
use Rattle.flu_model.specs.declared.jobs.Keys.{Keys}
use Rattle.flu_model.specs.declared.jobs.Keys.TheVariants.{Alone, One, Range}
use Rattle.flu_model.specs.declared.jobs.Kind.{Kind}
use Rattle.flu_model.specs.declared.jobs.Program.{Program}
use Rattle.flu_model.specs.declared.jobs.Source.{Source}
use Rattle.flu_model.specs.declared.jobs.TagRef.{TagRef}
use Rattle.flu_model.specs.Itags.{count_of_itags, source_of_itag}
use Rattle.flu_model.specs.Listing.{tag, listed_keys, listed_tags, tags_of_source, itags_of_sources}
use Rattle.flu_model.specs.Merging.{events_of}
use Rattle.flu_model.specs.Moments.{timing_of, moment_at}
use Rattle.flu_model.specs.Rules.{is_clock, listed_kind_fits, tag_ref_fits, source_fits}
use Rattle.flu_moments.specs.Moments.{moment}
use Rattle.flu_outside.specs.Outside.{Contents}
use Rattle.flu_rows.specs.declared.row.Row.{Row}
use Rattle.flu_rows.specs.Row.{form_of}
use Rattle.flu_streams.specs.Before.{with_before, each_with_before}
use Rattle.flu_streams.specs.Clocks.{Declared, ranks_of, items_of_ticks, lists_of_ticks, has_ticks}
use Rattle.flu_streams.specs.Good.{rows_in, ranks_in, ticks_beside, at_moments, items_at, lists_of_rows, lists_of_source, lists_beside}
use Rattle.flu_streams.specs.Tags.{width}
use Rattle.flu_streams.specs.Tests.{times_of}
use Rattle.flu_apart.specs.Classes.{itag}
use Rattle.flu_readers.proofs.Events.{in_flat, in_map, event_moment}

-- ---- the source of an itag, from the itags of a source on
abbrev pub source_in : ℕ → List Source → ℕ → ℕ
source_in n sources i = (get_or (itags_of_sources n sources) i (tag 0 0, 0)).1

mine_source : (tags : List Tag) (n i : ℕ) (rest : List (Tag × ℕ)) → i < length tags → (get_or (map (λ t. (t, n)) tags ++ rest) i (tag 0 0, 0)).1 ≡ n
mine_source [] n i rest lt = absurd (omega arith)
mine_source (t ∷ tags) n zero rest lt = refl
mine_source (t ∷ tags) n (suc i) rest lt = mine_source tags n i rest (omega arith)

later_source : (n : ℕ) (s : Source) (rest : List Source) (i : ℕ) → width s ≤ i → source_in n (s ∷ rest) i ≡ source_in (n + 1) rest (i - width s)
later_source n s rest i past =
    let mine : List (Tag × ℕ) = map (λ (t : Tag). (t, n)) (tags_of_source s) in
    ap (λ (pair : Tag × ℕ). pair.1)
    (get_or-append_right mine (itags_of_sources (n + 1) rest) (width s) i (tag 0 0, 0) (length-map (tags_of_source s) (λ (t : Tag). (t, n))) past)

count_of_source : (n : ℕ) (s : Source) (rest : List Source) → length (itags_of_sources n (s ∷ rest)) ≡ width s + length (itags_of_sources (n + 1) rest)
count_of_source n s rest =
    let mine : List (Tag × ℕ) = map (λ (t : Tag). (t, n)) (tags_of_source s) in
    length-append mine (itags_of_sources (n + 1) rest)
    ∙ ap (λ k. k + length (itags_of_sources (n + 1) rest)) (length-map (tags_of_source s) (λ (t : Tag). (t, n)))

-- ---- the list of an itag
length_of_source : (p : Program) (rows : List Row) (ticks : List ℕ) (e : Declared) → length (lists_of_source p rows ticks e) ≡ width e.1
length_of_source p rows ticks e = by_clock (is_clock e.1)
  where
    by_clock : (b : Bool) → length (if b then lists_of_ticks (timing_of p (length e.0)) e.1 (sum_by width e.0) ticks
        else lists_of_rows (timing_of p (length e.0)) p.kinds e.1 (sum_by width e.0) rows) ≡ width e.1
    by_clock true = length-map-range_with_len (λ place. items_of_ticks (timing_of p (length e.0)) (sum_by width e.0 + place) ticks) 0 (width e.1)
    by_clock false = length-map-range_with_len (items_at p.kinds e.1 (sum_by width e.0) (at_moments (timing_of p (length e.0)) [] rows)) 0 (width e.1)

abbrev lists_from : Program → (Declared → List Row) → (Declared → List ℕ) → List Source → List Source → List (List Item)
lists_from p rows ticks before sources = flat_map (λ e. lists_of_source p (rows e) (ticks e) e) (with_before before sources)

-- it is the one at a place of its source, which stands behind some others
record IsPlaced (p : Program) (rows : Declared → List Row) (ticks : Declared → List ℕ) (before sources : List Source) (i : ℕ) : Type 0 where
  front : List Source
  source : Source
  later : List Source
  place : ℕ
  within : place < width source
  split : before ++ sources ≡ front ++ (source ∷ later)
  among : Contains (with_before before sources) (front, source)
  number : source_in (length before) sources i ≡ length front
  list : get_or (lists_from p rows ticks before sources) i []
      ≡ get_or (lists_of_source p (rows (front, source)) (ticks (front, source)) (front, source)) place []

-- it is one of the first of these sources, or of those behind it
module _ (p : Program) (rows : Declared → List Row) (ticks : Declared → List ℕ) (before : List Source) (s : Source) (rest : List Source) where
  abbrev here : List (List Item)
  here = lists_of_source p (rows (before, s)) (ticks (before, s)) (before, s)

  abbrev back : List (List Item)
  back = lists_from p rows ticks (before ++ s ∷ []) rest

  here_len : length here ≡ width s
  here_len = length_of_source p (rows (before, s)) (ticks (before, s)) (before, s)

  past_number : length (before ++ s ∷ []) ≡ length before + 1
  past_number = length-append before (s ∷ [])

  placed_here : (i : ℕ) → i < width s → IsPlaced p rows ticks before (s ∷ rest) i
  placed_here i inside =
      let len = here_len in
      record {
        front = before;
        source = s;
        later = rest;
        place = i;
        within = inside;
        split = refl;
        among = contains_here (before, s) (with_before (before ++ s ∷ []) rest);
        number = mine_source (tags_of_source s) (length before) i (itags_of_sources (length before + 1) rest) inside;
        list = get_or-append here back [] i (omega (arith, len, inside));
      }

  placed_later : (i : ℕ) → width s ≤ i → IsPlaced p rows ticks (before ++ s ∷ []) rest (i - width s) → IsPlaced p rows ticks before (s ∷ rest) i
  placed_later i past is =
      let same_source : source_in (length before) (s ∷ rest) i ≡ source_in (length (before ++ s ∷ [])) rest (i - width s) =
      later_source (length before) s rest i past ∙ ap (λ n. source_in n rest (i - width s)) (sym past_number) in
      record {
        front = is.front;
        source = is.source;
        later = is.later;
        place = is.place;
        within = is.within;
        split = sym (append_assoc before (s ∷ []) rest) ∙ is.split;
        among = contains_later (before, s) (is.front, is.source) (with_before (before ++ s ∷ []) rest) is.among;
        number = same_source ∙ is.number;
        list = get_or-append_right here back (width s) i [] here_len past ∙ is.list;
      }

placed : (p : Program) (rows : Declared → List Row) (ticks : Declared → List ℕ) (before sources : List Source) (i : ℕ)
    → i < length (itags_of_sources (length before) sources) → IsPlaced p rows ticks before sources i
placed p rows ticks before [] i lt = absurd (omega arith)
placed p rows ticks before (s ∷ rest) i lt =
    elim (cases_lt i (width s)) [
      | inl inside ↦ placed_here p rows ticks before s rest i inside
      | inr past ↦
          let count = count_of_source (length before) s rest in
          let fewer : i - width s < length (itags_of_sources (length before + 1) rest) = omega (arith, lt, count, past) in
          placed_later p rows ticks before s rest i past
          (placed p rows ticks (before ++ s ∷ []) rest (i - width s)
          (subst (λ n. i - width s < length (itags_of_sources n rest)) (sym (length-append before (s ∷ []))) fewer))
    ]

slice_here : (front later : List Source) (s : Source) → slice_get (front ++ (s ∷ later)) (length front) ≡ Some s
slice_here [] later s = refl
slice_here (x ∷ front) later s = slice_here front later s

-- ---- the events of a source with a file
-- an event stands at a moment of a row of its source
pub record IsFromRow (p : Program) (left : Contents) (i : ℕ) (x : Event) : Type 0 where
  pub time : ℕ
  pub before : ℕ
  pub ranked : Contains (ranks_in p left) (moment (length p.sources) 1 time (source_of_itag p (itag i)) 0)
  pub at : x.time ≡ moment_at (timing_of p (source_of_itag p (itag i))) time before
  pub declared : source_of_itag p (itag i) < length p.sources

from_placed : (p : Program) (beside : List ℕ) (left : Contents) (i : ℕ) (x : Event)
    → IsPlaced p (λ e. rows_in (form_of (job_of p)) left e.1) (ticks_beside p beside left) [] p.sources i → has_ticks p i ≡ false
    → Contains (events_of (slice_index_or (lists_beside p beside left) i [])) x → IsFromRow p left i x
from_placed p beside left i x is no_ticks there =
    let rows : Declared → List Row = λ e. rows_in (form_of (job_of p)) left e.1 in
    let e : Declared = (is.front, is.source) in
    let n = source_of_itag p (itag i) in
    let timing = timing_of p (length is.front) in
    let first = sum_by width is.front in
    let at_source : slice_get p.sources (length is.front) ≡ Some is.source =
    ap (λ sources. slice_get sources (length is.front)) is.split ∙ slice_here is.front is.later is.source in
    let number : n ≡ length is.front = is.number in
    let file : is_clock is.source ≡ false =
    sym (ap (λ o. option_map_or is_clock o false) (ap (slice_get p.sources) number ∙ at_source)) ∙ no_ticks in
    let from_zero : 0 + is.place ≡ is.place = omega arith in
    let list : slice_index_or (lists_beside p beside left) i [] ≡ items_at p.kinds is.source first (at_moments timing [] (rows e)) is.place =
    is.list
    ∙ ap (λ (b : Bool). get_or (if b then lists_of_ticks timing is.source first (ticks_beside p beside left e)
    else lists_of_rows timing p.kinds is.source first (rows e)) is.place []) file
    ∙ get_or-map-range_with_len (items_at p.kinds is.source first (at_moments timing [] (rows e))) 0 (width is.source) is.place is.place [] is.within
    from_zero in
    let own = event_moment timing p.kinds is.source first is.place (rows e) x (subst (λ l. Contains (events_of l) x) list there) in
    let ranks : Declared → List ℕ = λ d. ranks_of p (length d.0) (rows d) in
    let ranked : Contains (ranks_in p left) (moment (length p.sources) 1 own.time (length is.front) 0) =
    in_flat ranks (each_with_before p.sources) e (moment (length p.sources) 1 own.time (length is.front) 0) is.among
    (in_map (λ time. moment (length p.sources) 1 time (length is.front) 0) (times_of (rows e)) own.time own.there) in
    record {
      time = own.time;
      before = own.before;
      ranked = subst (λ k. Contains (ranks_in p left) (moment (length p.sources) 1 own.time k 0)) (sym number) ranked;
      at = own.at ∙ ap (λ k. moment_at (timing_of p k) own.time own.before) (sym number);
      declared = subst (λ k. k < length p.sources) (sym number) (slice_get_within p.sources (length is.front) is.source at_source);
    }

pub from_row : (p : Program) (beside : List ℕ) (left : Contents) (i : ℕ) (x : Event) → i < count_of_itags p → has_ticks p i ≡ false
    → Contains (events_of (slice_index_or (lists_beside p beside left) i [])) x → IsFromRow p left i x
from_row p beside left i x lt no_ticks there =
    from_placed p beside left i x (placed p (λ e. rows_in (form_of (job_of p)) left e.1) (ticks_beside p beside left) [] p.sources i lt) no_ticks there

-- ---- each source lists an itag
keys_some : (o : Option Kind) (keys : Keys) → listed_kind_fits o keys ≡ true → 0 < length (listed_keys keys)
keys_some None keys fits = absurd cc
keys_some (Some k) Alone fits = omega arith
keys_some (Some k) (One key) fits = omega arith
keys_some (Some k) (Range lo hi) fits =
    let ordered = true_le lo hi (and_right k.keyed (nat_le lo hi) (and_left (k.keyed && nat_le lo hi) _ fits)) in
    let size = length-range_with_len lo (hi + 1 - lo) in
    omega (arith, ordered, size)

tags_some : (kinds : List Kind) (refs : List TagRef) → 0 < length refs → list_all (tag_ref_fits kinds) refs ≡ true → 0 < length (flat_map listed_tags refs)
tags_some kinds [] some fit = absurd (omega arith)
tags_some kinds (r ∷ refs) some fit =
    let keys = keys_some (slice_get kinds r.kind) r.keys (and_left (tag_ref_fits kinds r) (list_all (tag_ref_fits kinds) refs) fit) in
    let own = length-map (listed_keys r.keys) (λ k. tag r.kind k) in
    let all = length-append (listed_tags r) (flat_map listed_tags refs) in
    omega (arith, keys, own, all)

width_some : (kinds : List Kind) (s : Source) → source_fits kinds s ≡ true → 0 < width s
width_some kinds s fits =
    let most = and_left _ _ fits in
    tags_some kinds s.tags (true_lt 0 (length s.tags) (and_right _ _ (and_left _ _ most))) (and_right _ _ most)

-- an itag is of this source
pub record IsListed (p : Program) (n : ℕ) : Type 0 where
  pub itag_there : ℕ
  pub within : itag_there < count_of_itags p
  pub is : source_of_itag p (itag itag_there) ≡ n

listed_from : (kinds : List Kind) (before sources : List Source) (e : Declared) → list_all (source_fits kinds) sources ≡ true
    → Contains (with_before before sources) e
    → (i : ℕ) × (i < length (itags_of_sources (length before) sources)) × (source_in (length before) sources i ≡ length e.0)
listed_from kinds before [] e fit there = absurd (contains_none e there)
listed_from kinds before (s ∷ rest) e fit there =
    let own = width_some kinds s (and_left (source_fits kinds s) _ fit) in
    let count = count_of_source (length before) s rest in
    elim (contains_cases (before, s) e (with_before (before ++ s ∷ []) rest) there) [
      | inl same ↦ (
        0,
        omega (arith, own, count),
        mine_source (tags_of_source s) (length before) 0 (itags_of_sources (length before + 1) rest) own ∙ ap (λ (d : Declared). length d.0) same,
      )
      | inr later ↦ (
          let more = listed_from kinds (before ++ s ∷ []) rest e (and_right (source_fits kinds s) _ fit) later in
          let number : length (before ++ s ∷ []) ≡ length before + 1 = length-append before (s ∷ []) in
          let within : more.0 < length (itags_of_sources (length before + 1) rest) =
          subst (λ n. more.0 < length (itags_of_sources n rest)) number more.1 in
          let back : width s + more.0 - width s ≡ more.0 = omega arith in (
            width s + more.0,
            omega (arith, within, count),
            later_source (length before) s rest (width s + more.0) (omega arith) ∙ ap (source_in (length before + 1) rest) back
                ∙ ap (λ n. source_in n rest more.0) (sym number) ∙ more.2,
          )
          )
    ]

pub source_lists : (p : Program) (e : Declared) → Contains (each_with_before p.sources) e → IsListed p (length e.0)
source_lists p e there =
    let is = listed_from p.kinds [] p.sources e p.sources_fit there in
    record { itag_there = is.0; within = is.1; is = is.2 }
