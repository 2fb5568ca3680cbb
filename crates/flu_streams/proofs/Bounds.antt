-- How many items are held.
use Rattle.std.proofs.Common.{◌≡◌, ◌≢◌, ◌&&◌, inl, inr, ℕ, ◌+◌, ◌-◌, ◌*◌, ◌/◌, ◌<◌, ◌≤◌, max, Bool, true, false, cond, List, [], ◌∷◌, ◌++◌, length, Option, Some, None, refl}
use Rattle.std.proofs.Common.{zero, suc, Vec, vec_len, length-append, sym, ap, subst, ◌∙◌, arith}
use Rattle.std.specs.Global.{Global}
use Rattle.std.specs.Prelude.{is_some, nat_lt, nat_le, slice_get, unwrap_or, if◌then◌else◌}
use Rattle.std.specs.List.{filter, filter_map, list_all}
use Rattle.std.proofs.lemmas.Bool.{cases_Bool, cases_lt, ne_eqb}
use Rattle.std.proofs.lemmas.List.{length-map}
use Rattle.std.proofs.lemmas.List.Elements.{All-from_get_or}
use Rattle.std.proofs.lemmas.List.Sums.{sum_by-le}
use Rattle.std.proofs.lemmas.Option.{slice_get_within}
use Rattle.flu_lemmas.specs.Late.{put_late}
use Rattle.flu_lemmas.proofs.Elements.{list_all_weaker}
use Rattle.flu_lemmas.proofs.Late.{RisesFrom, rising}
use Rattle.flu_lemmas.proofs.Mapped.{from_mapped}
use Rattle.flu_lemmas.proofs.Places.{slice_get-there}
use Rattle.flu_lemmas.proofs.Tests.{and_left, and_right, both, true_le, le_true, not_both}
use Rattle.flu_model.specs.declared.events.Item.{Item}
use Rattle.flu_model.specs.declared.events.Item.TheVariants.{End as EndItem}
use Rattle.flu_model.specs.declared.jobs.Kind.{Kind}
use Rattle.flu_model.specs.declared.jobs.Source.{Source}
use Rattle.flu_model.specs.declared.jobs.Program.{Program}
use Rattle.flu_model.specs.declared.moments.Timing.{Timing}
use Rattle.flu_model.specs.Moments.{timing_of, last_moment}
use Rattle.flu_model.specs.Rules.{source_fits}
use Rattle.flu_rows.specs.declared.row.Row.{Row}
use Rattle.flu_streams.specs.declared.border.Border.{Border}
use Rattle.flu_streams.specs.declared.held.Stage.{Stage}
use Rattle.flu_streams.specs.declared.inlet.Inlet.{Inlet}
use Rattle.flu_streams.specs.Holding.{HeldSource, item_of, HoldsFew, HoldsAtMost, HaveAtMost, most_of, most_held, LawOfBounds}
use Rattle.flu_streams.specs.Lists.{item_time, item_for, items_of_list, lists_in}
use Rattle.flu_streams.specs.LoopHeld.{source_of, enough_of, without, count_above, IsFew, IsShort, HasRoom, put_timed, PutsIn, CatchesUp, IsCaughtUp}
use Rattle.flu_streams.specs.LoopHeld.{Stays, Drops, Comes, DropsTo, AreDropped, AreWell, AreCaughtUp, AreTimed, AreUncounted, taken_by}
use Rattle.flu_streams.specs.LoopMoments.{border_moment, own_times, at_moment}
use Rattle.flu_streams.specs.Rounds.{is_above, is_up_to, settled}
use Rattle.flu_streams.specs.Tests.{time_in, margin}
use Rattle.flu_streams.proofs.Counting.{all_late, none_enough}
use Rattle.flu_streams.proofs.HeldRows.{kept_true}
use Rattle.flu_streams.proofs.Ranks.{fewer, product_up, AreOwn, AreWithin, rank_of, own_in_a_row, ranks_rise, few_from, few_unsettled, few_later}
use Rattle.flu_streams.proofs.RoundLaws.{settled_some}
use Rattle.flu_streams.proofs.RoundOf.{holding}

-- ---- some of a list
fewer_again : {X : Type 0} (p q : X → Bool) (xs : List X) → length (filter p (filter q xs)) ≤ length (filter p xs)
fewer_again p q [] = omega arith
fewer_again p q (x ∷ xs) =
    let rest = fewer_again p q xs in
    elim (cases_Bool (q x)) [
      | inl kept ↦ rw kept (elim (p x) as (λ b. length (cond b (x ∷ filter p (filter q xs)) (filter p (filter q xs)))
          ≤ length (cond b (x ∷ filter p xs) (filter p xs))) [ true ↦ omega (arith, rest) | false ↦ omega (arith, rest) ])
      | inr gone ↦ rw gone (elim (p x) as (λ b. length (filter p (filter q xs)) ≤ length (cond b (x ∷ filter p xs) (filter p xs))) [
        | true ↦ omega (arith, rest)
        | false ↦ omega (arith, rest)
      ])
    ]

fewer_mapped : {X Y : Type 0} (f : X → Option Y) (xs : List X) → length (filter_map f xs) ≤ length xs
fewer_mapped f [] = omega arith
fewer_mapped {X} {Y} f (x ∷ xs) = by_one (f x) refl (fewer_mapped f xs)
  where
    by_one : (o : Option Y) → f x ≡ o → length (filter_map f xs) ≤ length xs → length (filter_map f (x ∷ xs)) ≤ length (x ∷ xs)
    by_one None e rest = rw e (omega (arith, rest))
    by_one (Some y) e rest = rw e (omega (arith, rest))

-- a test of times holds of those of some items
pub own_still : (timing : Timing) (p : ℕ → Bool) (q : Item → Bool) (xs : List Item) → list_all p (own_times timing xs) ≡ true
    → list_all p (own_times timing (filter q xs)) ≡ true
own_still timing p q [] all = refl
own_still timing p q (x ∷ xs) all =
    let rest = own_still timing p q xs (and_right (p (item_time x / timing.scale)) _ all) in
    elim (q x) as (λ b. list_all p (own_times timing (cond b (x ∷ filter q xs) (filter q xs))) ≡ true) [
      | true ↦ both (p (item_time x / timing.scale)) _ (and_left (p (item_time x / timing.scale)) _ all) rest
      | false ↦ rest
    ]

pub all_still : {X : Type 0} (p q : X → Bool) (xs : List X) → list_all p xs ≡ true → list_all p (filter q xs) ≡ true
all_still p q [] all = refl
all_still p q (x ∷ xs) all =
    let rest = all_still p q xs (and_right (p x) _ all) in
    elim (q x) as (λ b. list_all p (cond b (x ∷ filter q xs) (filter q xs)) ≡ true) [ true ↦ both (p x) _ (and_left (p x) _ all) rest | false ↦ rest ]

-- an element more
one_more : {X : Type 0} (p : X → Bool) (number : X → ℕ) (x : X) (ys : List X) → length (filter p (put_late number x ys)) ≤ length (filter p ys) + 1
one_more p number x [] = elim (p x) as (λ b. length (cond b (x ∷ []) []) ≤ 0 + 1) [ true ↦ omega arith | false ↦ omega arith ]
one_more p number x (y ∷ ys) =
    let rest = one_more p number x ys in
    elim (cases_Bool (nat_lt (number y) (number x))) [
      | inl below ↦ rw below (elim (p y) as (λ b. length (cond b (y ∷ filter p (put_late number x ys)) (filter p (put_late number x ys)))
          ≤ length (cond b (y ∷ filter p ys) (filter p ys)) + 1) [ true ↦ omega (arith, rest) | false ↦ omega (arith, rest) ])
      | inr above ↦ rw above (elim (p x) as (λ b. length (cond b (x ∷ filter p (y ∷ ys)) (filter p (y ∷ ys))) ≤ length (filter p (y ∷ ys)) + 1) [
        | true ↦ omega arith
        | false ↦ omega arith
      ])
    ]

pub one_longer : {X : Type 0} (number : X → ℕ) (x : X) (ys : List X) → length (put_late number x ys) ≤ length ys + 1
one_longer number x ys =
    let e = ap length (kept_true (put_late number x ys)) in
    let f = ap length (kept_true ys) in
    let more = one_more (λ y. true) number x ys in
    omega (arith, e, f, more)

-- ---- what is held of a source
products_apart : (l behind ties : ℕ) → behind ≤ l → (l + 1) * ties ≡ (l - behind + 1) * ties + behind * ties
products_apart l behind ties le = ap (λ n. n * ties) (is l behind le) ∙ omega arith
  where
    is : (l behind : ℕ) → behind ≤ l → l + 1 ≡ (l - behind + 1) + behind
    is l behind le = omega (arith, le)

-- a test of times is one of items
own_all : (top : ℕ) (timing : Timing) (items : List Item)
    → list_all (λ t. nat_le t top) (own_times timing items) ≡ list_all (λ (x : Item). nat_le (item_time x / timing.scale) top) items
own_all top timing [] = refl
own_all top timing (x ∷ xs) = ap (λ b. nat_le (item_time x / timing.scale) top && b) (own_all top timing xs)

own_of : (h : Inlet) → AreOwn h.timing h.fits h.items
own_of h = own_in_a_row h.timing h.fits None h.items h.in_a_row

ranked : (h : Inlet) → RisesFrom (rank_of h.timing h.fits) 0 h.items
ranked h = ranks_rise h.timing h.fits h.items (rising item_time 0 h.items h.rising) (own_of h)

within_last : (h : Inlet) (l : ℕ) → h.last ≡ Some l → AreWithin h.timing h.fits l h.items
within_last h l e = ap (λ o. list_all (λ t. nat_le t (unwrap_or o 0)) (own_times h.timing h.items)) (sym e) ∙ h.within

nothing : (items : List Item) → items ≡ [] → length items ≡ 0
nothing items e = ap length e

-- where nothing is settled, no more than the times within the margin have
pub few_at_first : (behind l : ℕ) (h : Inlet) → h.last ≡ Some l → l < behind → length h.items ≤ behind * h.timing.ties
few_at_first behind l h is lt =
    let k = few_from h.timing h.fits 0 l h.items (ranked h) (own_of h) (within_last h l is) in
    let more = product_up (l + 1) behind h.timing.ties (omega (arith, lt)) in
    omega (arith, k, more)

-- an item more moves the greatest time
pub all_within : (h : Inlet) (moved : Item) (time : ℕ) (last : Option ℕ) → item_time moved / h.timing.scale ≡ time
    → last ≡ Some (max (unwrap_or h.last 0) time)
    → list_all (λ t. nat_le t (unwrap_or last 0)) (own_times h.timing (put_late item_time moved h.items)) ≡ true
all_within h moved time last at is =
    ap (λ o. list_all (λ t. nat_le t (unwrap_or o 0)) (own_times h.timing (put_late item_time moved h.items))) is
    ∙ own_all top h.timing (put_late item_time moved h.items)
    ∙ all_late (λ (x : Item). nat_le (item_time x / h.timing.scale) top) item_time moved h.items (le_true (item_time moved / h.timing.scale) top (omega (arith, at)))
    (list_all_weaker (λ (x : Item). nat_le (item_time x / h.timing.scale) (unwrap_or h.last 0)) (λ (x : Item). nat_le (item_time x / h.timing.scale) top) h.items
    (λ x e. let le = true_le (item_time x / h.timing.scale) (unwrap_or h.last 0) e in le_true (item_time x / h.timing.scale) top (omega (arith, le)))
    (sym (own_all (unwrap_or h.last 0) h.timing h.items) ∙ h.within))
  where
    top : ℕ
    top = max (unwrap_or h.last 0) time

-- those that are not settled: the margin may be any number
pub few_behind : (behind l : ℕ) (h : Inlet) → h.last ≡ Some l → behind ≤ l
    → length (filter (λ (item : Item). nat_lt (last_moment h.timing (l - behind)) (item_time item)) h.items) ≤ behind * h.timing.ties
few_behind behind l h is le =
    let k = few_later h.timing h.fits (l - behind) 0 l h.items (ranked h) (own_of h) (within_last h l is) in
    let e = products_apart l behind h.timing.ties le in
    omega (arith, k, e)

pub count_all : (timing : Timing) (items : List Item) → count_above timing None items ≡ length items
count_all timing items = ap length (kept_true items)

-- what is not enough is few, with one item to come
pub short_few : (rows : ℕ) (s : Source) (h : Inlet) → 1 ≤ rows → IsShort h.timing (Some rows) s (source_of h)
    → count_above h.timing h.goal h.items < rows + margin h.timing s.slack * h.timing.ties
short_few rows s h one short = by_last h.last refl
  where
    behind : ℕ
    behind = margin h.timing s.slack

    some : count_above h.timing h.goal h.items ≤ length h.items
    some = fewer (λ (item : Item). is_above (border_moment h.timing h.goal) (item_time item)) h.items

    by_goal : (l : ℕ) → h.last ≡ Some l → behind ≤ l → (goal : Option ℕ) → h.goal ≡ goal
        → count_above h.timing h.goal h.items < rows + behind * h.timing.ties
    by_goal l is le None caught =
        let e : enough_of h.timing rows s.slack h.last h.items ≡ None =
        ap (λ g. without g (enough_of h.timing rows s.slack h.last h.items)) (sym caught) ∙ short.0 in
        let at : settled behind h.last ≡ Some (l - behind) = ap (settled behind) is ∙ settled_some behind l le in
        let few = none_enough h.timing rows s.slack (l - behind) h.last h.items e at in
        let all = few_unsettled h.timing h.fits (l - behind) 0 l h.items (ranked h) (own_of h) (within_last h l is) in
        let apart = products_apart l behind h.timing.ties le in
        omega (arith, some, few, all, apart)
    by_goal l is le (Some g) to_come =
        let at : settled behind h.last ≡ Some (l - behind) = ap (settled behind) is ∙ settled_some behind l le in
        let lt : l - behind < g = short.1 g (l - behind) to_come at in
        let later = few_later h.timing h.fits g 0 l h.items (ranked h) (own_of h) (within_last h l is) in
        let more = product_up (l - behind + 1) (g + 1) h.timing.ties (omega (arith, lt)) in
        let apart = products_apart l behind h.timing.ties le in
        let e : count_above h.timing h.goal h.items ≡ count_above h.timing (Some g) h.items = ap (λ o. count_above h.timing o h.items) to_come in
        omega (arith, e, later, more, apart, one)

    by_last : (o : Option ℕ) → h.last ≡ o → count_above h.timing h.goal h.items < rows + behind * h.timing.ties
    by_last None is = let e = nothing h.items (h.none is) in omega (arith, e, some, one)
    by_last (Some l) is = elim (cases_lt l behind) [
      | inl lt ↦ let few = few_at_first behind l h is lt in omega (arith, few, some, one)
      | inr le ↦ by_goal l is le h.goal refl
    ]

-- a margin is not above that of the greatest slack
margin_up : (timing : Timing) (slack most : ℕ) → slack ≤ most → margin timing slack ≤ margin timing most
margin_up timing slack most le =
    elim timing.several as (λ b. (if b then slack + 1 else slack) ≤ (if b then most + 1 else most)) [ true ↦ omega (arith, le) | false ↦ le ]

-- what is within a margin is less than may be held
pub margin_most : (timing : Timing) (slack : ℕ) → slack ≤ 60000 → margin timing slack * timing.ties < most_of timing
margin_most timing slack le =
    let more = product_up (margin timing slack) (margin timing 60000) timing.ties (margin_up timing slack 60000 le) in
    omega (arith, more)

-- so there is room for it
pub room_here : (rows : Option ℕ) (s : Source) (h : Inlet) → 1 ≤ unwrap_or rows 1 → unwrap_or rows 0 ≤ 4096 → (rows ≡ None → is_some h.held ≡ true)
    → s.slack ≤ 60000 → IsShort h.timing rows s (source_of h) → HasRoom h → is_some h.held ≡ false → length h.items < most_of h.timing
room_here None s h one most counted slack short room free = absurd (not_both (is_some h.held) (counted refl) free)
room_here (Some rows) s h one most counted slack short room free = by_goal h.goal refl
  where
    by_goal : (goal : Option ℕ) → h.goal ≡ goal → length h.items < most_of h.timing
    by_goal (Some g) is = room g is
    by_goal None is =
        let few = short_few rows s h one short in
        let e : count_above h.timing h.goal h.items ≡ length h.items = ap (λ o. count_above h.timing o h.items) is ∙ count_all h.timing h.items in
        let more = product_up (margin h.timing s.slack) (margin h.timing 60000) h.timing.ties (margin_up h.timing s.slack 60000 slack) in
        omega (arith, few, e, most, more)

count_timed : (timing : Timing) (goal time : Option ℕ) (item : Item) (items : List Item)
    → count_above timing goal (put_timed time item items) ≤ count_above timing goal items + 1
count_timed timing goal None item items = omega arith
count_timed timing goal (Some t) item items = one_more (λ (x : Item). is_above (border_moment timing goal) (item_time x)) item_time item items

-- the items that are counted, by what they depend on
same_count : (a b : Timing) (g f : Option ℕ) (xs ys : List Item) → a ≡ b → g ≡ f → xs ≡ ys → count_above a g xs ≡ count_above b f ys
same_count a b g f xs ys timing goal items = λ i. count_above (timing i) (goal i) (items i)

-- the bound, by how the rows are numbered
same_most : (rows slack : ℕ) (a b : Timing) → a ≡ b → rows + margin a slack * a.ties ≡ rows + margin b slack * b.ties
same_most rows slack a b timing = ap (λ (t : Timing). rows + margin t slack * t.ties) timing

pub few_row : (rows : Option ℕ) (kinds : List Kind) (s : Source) (first : ℕ) (now mid new : Inlet) (row : Row) → 1 ≤ unwrap_or rows 1
    → IsShort now.timing rows s (source_of now) → mid.items ≡ now.items → mid.goal ≡ now.goal → mid.timing ≡ now.timing
    → PutsIn kinds s first row mid new → IsFew rows s new
few_row None kinds s first now mid new row one short items goal timing puts = tt
few_row (Some rows) kinds s first now mid new row one short items goal timing puts =
    let was = short_few rows s now one short in
    let item = item_of kinds s first (at_moment mid.timing (own_times mid.timing mid.items) row) in
    let more = count_timed mid.timing mid.goal (time_in row) item mid.items in
    let e = same_count new.timing mid.timing new.goal mid.goal new.items (put_timed (time_in row) item mid.items) puts.timing puts.goal puts.items in
    let f = same_count mid.timing now.timing mid.goal now.goal mid.items now.items timing goal items in
    let bound = same_most rows s.slack new.timing now.timing (puts.timing ∙ timing) in
    omega (arith, was, more, e, f, bound)

pub few_caught : (rows : Option ℕ) (s : Source) (old new : Inlet) → CatchesUp s.slack old new → IsFew rows s old → IsFew rows s new
few_caught None s old new c few = tt
few_caught (Some rows) s old new c few = by_items c.items
  where
    bound : rows + margin new.timing s.slack * new.timing.ties ≡ rows + margin old.timing s.slack * old.timing.ties
    bound = same_most rows s.slack new.timing old.timing c.timing

    by_items : IsCaughtUp s.slack old new → IsFew (Some rows) s new
    by_items (Stays items goal) =
        let e = same_count new.timing old.timing new.goal old.goal new.items old.items c.timing goal items in omega (arith, e, few, bound)
    by_items (Drops t goal goes at lt was now items) =
        let later = filter (λ (item : Item). nat_lt (last_moment old.timing t) (item_time item)) old.items in
        let e = same_count new.timing old.timing new.goal old.goal new.items later c.timing (now ∙ sym was) items in
        let less = fewer_again (λ (item : Item). is_above (border_moment old.timing old.goal) (item_time item))
        (λ (item : Item). nat_lt (last_moment old.timing t) (item_time item)) old.items in
        omega (arith, e, less, few, bound)
    by_items (Comes goal at was now items) =
        let later = filter (λ (item : Item). nat_lt (last_moment old.timing goal) (item_time item)) old.items in
        let e : count_above new.timing new.goal new.items ≡ length later =
        same_count new.timing old.timing new.goal None new.items later c.timing now items ∙ count_all old.timing later in
        let f : count_above old.timing old.goal old.items ≡ length later = ap (λ o. count_above old.timing o old.items) was in
        omega (arith, e, f, few, bound)

pub few_dropped : (rows time : ℕ) (s : Source) (old new : Inlet) → DropsTo time old new → IsFew (Some rows) s old → IsFew (Some rows) s new
few_dropped rows time s old new d few =
    let later = filter (λ (item : Item). nat_lt (last_moment old.timing time) (item_time item)) old.items in
    let e = same_count new.timing old.timing new.goal old.goal new.items later d.timing d.goal d.items in
    let less = fewer_again (λ (item : Item). is_above (border_moment old.timing old.goal) (item_time item))
    (λ (item : Item). nat_lt (last_moment old.timing time) (item_time item)) old.items in
    let bound = same_most rows s.slack new.timing old.timing d.timing in
    omega (arith, e, less, few, bound)

pub few_same : (rows : Option ℕ) (s : Source) (old new : Inlet) → new.items ≡ old.items → new.goal ≡ old.goal → new.timing ≡ old.timing
    → IsFew rows s old → IsFew rows s new
few_same None s old new items goal timing few = tt
few_same (Some rows) s old new items goal timing few =
    let e = same_count new.timing old.timing new.goal old.goal new.items old.items timing goal items in
    let bound = same_most rows s.slack new.timing old.timing timing in
    omega (arith, e, few, bound)

-- ---- what is held of all sources
pub holds_few : (p : Program) (rows : ℕ) (border : Option ℕ) (stage : Stage) (inlets : List Inlet) → AreWell p rows border inlets → AreCaughtUp inlets
    → HoldsFew (holding p rows border stage inlets)
holds_few p rows border stage inlets well caught i s at source is =
    let k = from_mapped source_of inlets i source is in
    let few = well.few i s at k.0 k.1 in
    let e : count_above k.0.timing k.0.goal k.0.items ≡ length k.0.items =
    ap (λ o. count_above k.0.timing o k.0.items) (caught i k.0 k.1) ∙ count_all k.0.timing k.0.items in
    let f : length source.items ≡ length k.0.items = ap (λ (h : HeldSource). length h.items) k.2 in
    let bound = same_most rows s.slack k.0.timing (timing_of p i) (well.each i s at k.0 k.1).timing_is in
    omega (arith, few, e, f, bound)

pub holds_most : (p : Program) (rows : ℕ) (border : Option ℕ) (stage : Stage) (inlets : List Inlet) → AreUncounted inlets
    → AreTimed p inlets → HoldsAtMost (most_held p) (holding p rows border stage inlets)
holds_most p rows border stage inlets free timed i source is =
    let k = from_mapped source_of inlets i source is in
    let f : length source.items ≡ length k.0.items = ap (λ (h : HeldSource). length h.items) k.2 in
    let most : most_of k.0.timing ≡ most_held p = ap most_of (timed i k.0 k.1) in
    omega (arith, f, k.0.few (free i k.0 k.1), most)

-- the rows of each source that is well are numbered as the job says
pub well_timed : (p : Program) (rows : ℕ) (border : Option ℕ) (inlets : List Inlet) → AreWell p rows border inlets → AreTimed p inlets
well_timed p rows border inlets well i h is =
    let s = slice_get-there p.sources i (rw (← well.count) (slice_get_within inlets i h is)) in (well.each i s.0 s.1 h is).timing_is

pub still_caught_up : (time : ℕ) (olds news : List Inlet) → AreCaughtUp olds → AreDropped time olds news → AreCaughtUp news
still_caught_up time olds news caught dropped i h is =
    let old = slice_get-there olds i (rw (← dropped.size) (slice_get_within news i h is)) in
    (dropped.each i old.0 h old.1 is).goal ∙ caught i old.0 old.1

pub still_uncounted : (time : ℕ) (olds news : List Inlet) → AreUncounted olds → AreDropped time olds news → AreUncounted news
still_uncounted time olds news free dropped i h is =
    let old = slice_get-there olds i (rw (← dropped.size) (slice_get_within news i h is)) in
    ap is_some (dropped.each i old.0 h old.1 is).held ∙ free i old.0 old.1

-- the lists of the items of a source up to a border
pub few_lists : (lists : Vec (Vec Item Global) Global) (n first : ℕ) (end : Border) (h : Inlet) → vec_len lists ≡ n
    → ((i : ℕ) → i < n → items_of_list lists i ≡ filter_map (item_for (first + i)) (taken_by end h.items) ++ EndItem ∷ [])
    → is_some h.held ≡ false → HaveAtMost (most_of h.timing) (lists_in lists)
few_lists lists n first end h len each free =
    let size : length (lists_in lists) ≡ n = simp length-map (omega (arith, lists.ok.0, len)) in
    All-from_get_or (λ (items : List Item). length items ≤ most_of h.timing + 1) (lists_in lists) [] (λ i lt.
    let own = filter_map (item_for (first + i)) (taken_by end h.items) in
    let mapped = fewer_mapped (item_for (first + i)) (taken_by end h.items) in
    let taken = fewer (λ (item : Item). is_up_to end (item_time item)) h.items in
    let e : length (items_of_list lists i) ≡ length own + 1 = ap length (each i (rw size at lt)) ∙ length-append own (EndItem ∷ []) in
    omega (arith, e, mapped, taken, h.few free))

-- the slack of a source of a job
slack_fits : (kinds : List Kind) (sources : List Source) (i : ℕ) (s : Source) → list_all (source_fits kinds) sources ≡ true → slice_get sources i ≡ Some s
    → s.slack ≤ 60000
slack_fits kinds [] i s fits at = absurd cc
slack_fits kinds (x ∷ xs) zero s fits at =
    let same : x ≡ s = cc in
    let one = and_left (source_fits kinds x) _ fits in
    subst (λ (y : Source). y.slack ≤ 60000) same (true_le x.slack 60000 (and_right _ _ (and_left _ _ (and_left _ _ (and_left _ _ one)))))
slack_fits kinds (x ∷ xs) (suc i) s fits at = slack_fits kinds xs i s (and_right (source_fits kinds x) _ fits) at

pub slack_of : (p : Program) (i : ℕ) (s : Source) → slice_get p.sources i ≡ Some s → s.slack ≤ 60000
slack_of p i s at = slack_fits p.kinds p.sources i s p.sources_fit at

-- before version 3 a margin is the slack
margin_older : (p : Program) (slack : ℕ) → p.version ≢ 3 → margin (timing_of p 0) slack ≡ slack
margin_older p slack older = ap (λ b. if b then slack + 1 else slack) (ne_eqb p.version 3 older)

most_older : (p : Program) → p.version ≢ 3 → p.ties ≡ 1 → most_held p ≡ 64096
most_older p older alone = (λ i. 4096 + margin_older p 60000 older i * alone i) ∙ omega arith

pub law_of_bounds : LawOfBounds
law_of_bounds = record {
  rows = λ h most count few i source is.
      let s = slice_get-there h.program.sources i (rw count at (slice_get_within h.sources i source is)) in
      let k = few i s.0 s.1 source is in
      let up = margin_up (timing_of h.program 0) s.0.slack 60000 (slack_of h.program i s.0 s.1) in
      let more = product_up (margin (timing_of h.program 0) s.0.slack) (margin (timing_of h.program 0) 60000) h.program.ties up in
      omega (arith, k, most, more);
  items = λ p lists count few.
      let k = sum_by-le (λ (items : List Item). length items) (most_held p + 1) lists few in
      let up = product_up (length lists) 256 (most_held p + 1) (let itags = p.few_itags in omega (arith, count, itags)) in
      omega (arith, k, up);
  older = λ p older alone. let most = most_older p older alone in (most, ap (λ n. 256 * n) most ∙ refl);
}
