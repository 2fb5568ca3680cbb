-- A state that fits, updated with an event that is exact, fits again.
use Rattle.std.proofs.Common.{◌≡◌, ◌≤◌, ◌<◌, ◌+◌, ℕ, Bool, true, false, cond, Option, None, List, [], ◌∷◌, ◌++◌, refl, sym, ap, subst, ◌∙◌, arith}
use Rattle.std.specs.Prelude.{nat_le, nat_lt, ◌==◌, ◌&&◌, slice_index}
use Rattle.std.specs.List.{filter, AllByRecursion}
use Rattle.std.proofs.lemmas.List.Elements.{filter-append}
use Rattle.flu_lemmas.proofs.Tests.{not_both, and_right, lt_true, le_true, true_eq, false_if_not}
use Rattle.flu_model.specs.declared.events.Cell.{Cell}
use Rattle.flu_model.specs.declared.events.Event.{Event}
use Rattle.flu_model.specs.declared.events.Worth.{Worth}
use Rattle.flu_model.specs.declared.jobs.Program.{Program}
use Rattle.flu_model.specs.Contents.{Contents}
use Rattle.flu_model.specs.Itags.{count_of_itags}
use Rattle.flu_model.specs.Updates.{effect_of}
use Rattle.flu_model.specs.Sorts.{IsStateOf}
use Rattle.flu_model.specs.Modes.{IsAccepted}
use Rattle.flu_laws.specs.Uses.{AgreeOnNeeds}
use Rattle.flu_laws.specs.Changes.{Keep, applied}
use Rattle.flu_laws.specs.Spans.{Moment, history, is_below, is_between, change_at, changed_by, GoesWith}
use Rattle.flu_laws.specs.Lots.{CellsFit, IsExact, depends_on, CountsOneMore, GoesWithClasses, UpdatesToFit, CentralLaw}
use Rattle.std.proofs.lemmas.Bool.{and_right as and_false_right, le-ltb}
use Rattle.flu_lemmas.proofs.Numbers.{same_number, same_turns, not_less_than_itself, less_than_next}
use Rattle.flu_lemmas.proofs.Elements.{all_of_both, all_front, all_back, all_filter, filter_same}
use Rattle.flu_laws.proofs.Laws.{no_conflict}
use Rattle.flu_laws.proofs.InPlace.{in_place_law}
use Rattle.flu_laws.proofs.Updating.{texts_are_local, updates_are_changes, unwritten_keeps}
use Rattle.flu_laws.proofs.Histories.{AreRising, are_rising, places_before, places_behind, before_is}
use Rattle.flu_laws.proofs.Histories.{changed-append, changed-skip, changed-idle, independent_keeps, in_range}

module _ (p : Program) (opening : Contents) (xs : List Event) (before after : List Moment) (m : Moment) (is_base is_away : Cell → Bool) (s : Contents)
    (since upto more : List ℕ)
    (accepted : IsAccepted p) (start : IsStateOf p.families opening) (sorted : IsStateOf p.families s)
    (ranges : AllByRecursion (λ x. x.itag.0 < count_of_itags p) xs)
    (split : history p opening (λ i. 0) xs ≡ before ++ m ∷ after)
    (classes : GoesWithClasses p m.event is_base is_away)
    (since_le : slice_index since m.event.itag.0 ≤ m.index) (one_more : CountsOneMore m.event.itag.0 upto more)
    (exact : IsExact p before after m upto) (fits : CellsFit p (before ++ m ∷ after) opening is_base is_away s since upto) where
  all_in_range : AllByRecursion (λ (q : Moment). q.event.itag.0 < count_of_itags p) (before ++ m ∷ after)
  all_in_range = subst (AllByRecursion (λ (q : Moment). q.event.itag.0 < count_of_itags p)) split (in_range (count_of_itags p) p opening (λ i. 0) xs ranges)

  before_in_range : AllByRecursion (λ (q : Moment). q.event.itag.0 < count_of_itags p) before
  before_in_range = all_front _ before (m ∷ after) all_in_range

  m_in_range : m.event.itag.0 < count_of_itags p
  m_in_range = (all_back _ before (m ∷ after) all_in_range).0

  after_in_range : AllByRecursion (λ (q : Moment). q.event.itag.0 < count_of_itags p) after
  after_in_range = (all_back _ before (m ∷ after) all_in_range).1

  rise : AreRising (before ++ m ∷ after)
  rise = subst AreRising split (are_rising p opening (λ i. 0) xs)

  m_not_below : is_below upto m ≡ false
  m_not_below = ap (nat_lt m.index) exact.next ∙ not_less_than_itself m.index

  more_here : slice_index more m.event.itag.0 ≡ m.index + 1
  more_here =
      one_more m.event.itag.0 ∙ ap (λ b. cond b (slice_index upto m.event.itag.0 + 1) (slice_index upto m.event.itag.0)) (same_number m.event.itag.0) ∙ ap
      (λ n. n + 1) exact.next

  m_below_more : is_below more m ≡ true
  m_below_more = ap (nat_lt m.index) more_here ∙ less_than_next m.index

  -- the other moments are counted as before
  same_if : (q : Moment) (b : Bool) → (q.event.itag.0 == m.event.itag.0) ≡ b
      → ((q.event.itag.0 == m.event.itag.0) ≡ true → is_below upto q ≡ is_below more q) → is_below upto q ≡ is_below more q
  same_if q true e own = own e
  same_if q false e own =
      sym (ap (nat_lt q.index) (one_more q.event.itag.0 ∙ ap (λ b. cond b (slice_index upto q.event.itag.0 + 1) (slice_index upto q.event.itag.0)) e))

  same_before : AllByRecursion (λ (q : Moment). is_below upto q ≡ is_below more q) before
  same_before =
      all_of_both (λ (q : Moment). (m.event.itag.0 == q.event.itag.0) ≡ true → q.index < m.index) (λ (q : Moment). q.event.itag.0 < count_of_itags p)
      (λ (q : Moment). is_below upto q ≡ is_below more q) before
      (λ q lt r. same_if q (q.event.itag.0 == m.event.itag.0) refl (λ e. (
      let i : q.event.itag.0 ≡ m.event.itag.0 = true_eq q.event.itag.0 m.event.itag.0 e in
      let less : q.index < m.index = lt (same_turns m.event.itag.0 q.event.itag.0 ∙ e) in
      let u : slice_index upto q.event.itag.0 ≡ m.index = ap (slice_index upto) i ∙ exact.next in
      let v : slice_index more q.event.itag.0 ≡ m.index + 1 = ap (slice_index more) i ∙ more_here in
      lt_true q.index (slice_index upto q.event.itag.0) (omega (arith, less, u)) ∙ sym
      (lt_true q.index (slice_index more q.event.itag.0) (omega (arith, less, v)))
      )))
      (places_before before after m rise) before_in_range

  same_after : AllByRecursion (λ (q : Moment). is_below upto q ≡ is_below more q) after
  same_after =
      all_of_both (λ (q : Moment). (q.event.itag.0 == m.event.itag.0) ≡ true → m.index < q.index) (λ (q : Moment). q.event.itag.0 < count_of_itags p)
      (λ (q : Moment). is_below upto q ≡ is_below more q) after
      (λ q lt r. same_if q (q.event.itag.0 == m.event.itag.0) refl (λ e. (
      let i : q.event.itag.0 ≡ m.event.itag.0 = true_eq q.event.itag.0 m.event.itag.0 e in
      let less : m.index < q.index = lt e in
      let u : slice_index upto q.event.itag.0 ≡ m.index = ap (slice_index upto) i ∙ exact.next in
      let v : slice_index more q.event.itag.0 ≡ m.index + 1 = ap (slice_index more) i ∙ more_here in
      le-ltb q.index (slice_index upto q.event.itag.0) (omega (arith, less, u)) ∙ sym
      (le-ltb q.index (slice_index more q.event.itag.0) (omega (arith, less, v)))
      )))
      (places_behind before after m rise) after_in_range

  -- a counted moment behind m is independent of it
  apart_after : AllByRecursion (λ (q : Moment). is_below upto q ≡ true → depends_on p m q ≡ false) after
  apart_after =
      all_of_both (λ (q : Moment). depends_on p m q ≡ true → is_below upto q ≡ false) (λ (q : Moment). q.event.itag.0 < count_of_itags p)
      (λ (q : Moment). is_below upto q ≡ true → depends_on p m q ≡ false) after
      (λ q not r counted. false_if_not (depends_on p m q) (λ d. not_both (is_below upto q) counted (not d))) exact.others after_in_range

  apart_before : AllByRecursion (λ (q : Moment). is_below upto q ≡ false → depends_on p m q ≡ false) before
  apart_before =
      all_of_both (λ (q : Moment). depends_on p m q ≡ true → is_below upto q ≡ true) (λ (q : Moment). q.event.itag.0 < count_of_itags p)
      (λ (q : Moment). is_below upto q ≡ false → depends_on p m q ≡ false) before
      (λ q is r uncounted. false_if_not (depends_on p m q) (λ d. not_both (is_below upto q) (is d) uncounted)) exact.counted before_in_range

  -- what passes a test at m's place
  without_m : (f : Moment → Bool) → f m ≡ false → filter f (before ++ m ∷ after) ≡ filter f before ++ filter f after
  without_m f e = filter-append f before (m ∷ after) ∙ ap (λ b. filter f before ++ cond b (m ∷ filter f after) (filter f after)) e

  with_m : (f : Moment → Bool) → f m ≡ true → filter f (before ++ m ∷ after) ≡ filter f before ++ m ∷ filter f after
  with_m f e = filter-append f before (m ∷ after) ∙ ap (λ b. filter f before ++ cond b (m ∷ filter f after) (filter f after)) e

  -- at its own cells the event finds the fold's values
  agree : AgreeOnNeeds p m.event s m.before
  agree c need =
      fits.base c (classes.needed c need)
      ∙ ap (changed_by p c (opening c)) (without_m (is_below upto) m_not_below)
      ∙ changed-append p c (opening c) (filter (is_below upto) before) (filter (is_below upto) after)
      ∙ changed-idle p c (is_below upto) after _ (all_of_both (λ (q : Moment). is_below upto q ≡ true → depends_on p m q ≡ false)
      (λ (q : Moment). q.event.itag.0 < count_of_itags p) (λ (q : Moment). is_below upto q ≡ true → change_at p c q ≡ Keep) after
      (λ q apart r counted. independent_keeps p m q c accepted m_in_range r (apart counted) need) apart_after after_in_range)
      ∙ changed-skip p c (is_below upto) before (opening c) (all_of_both (λ (q : Moment). is_below upto q ≡ false → depends_on p m q ≡ false)
      (λ (q : Moment). q.event.itag.0 < count_of_itags p) (λ (q : Moment). is_below upto q ≡ false → change_at p c q ≡ Keep) before
      (λ q apart r uncounted. independent_keeps p m q c accepted m_in_range r (apart uncounted) need) apart_before before_in_range)
      ∙ sym (before_is p opening (λ i. 0) xs before after m start split c)

  -- a cell that holds the effects of counted moments, chosen by a test, holds them with m's
  placed : (c : Cell) (w : Option Worth) (f g : Moment → Bool) → f m ≡ false → g m ≡ true → AllByRecursion (λ q. f q ≡ g q) before
      → AllByRecursion (λ q. f q ≡ g q) after
      → ((q : Moment) → f q ≡ true → is_below upto q ≡ true)
      → s c ≡ changed_by p c w (filter f (before ++ m ∷ after))
      → (effect_of p s m.event).cells c ≡ changed_by p c w (filter g (before ++ m ∷ after))
  placed c w f g out inside same_b same_a counted holds =
      in_place_law p s (filter f before) (filter f after) m c w sorted agree
      (holds ∙ ap (changed_by p c w) (without_m f out))
      (all_filter (GoesWith p c m.event) f after (all_of_both (λ (q : Moment). is_below upto q ≡ true → depends_on p m q ≡ false)
      (λ (q : Moment). q.event.itag.0 < count_of_itags p) (λ (q : Moment). f q ≡ true → GoesWith p c m.event q) after
      (λ q apart r chosen. no_conflict p m.event q.event accepted m_in_range r (apart (counted q chosen)) c) apart_after after_in_range))
      ∙ (λ i. changed_by p c w (filter_same f g before same_b i ++ m ∷ filter_same f g after same_a i))
      ∙ sym (ap (changed_by p c w) (with_m g inside))

  -- the parts of `is_between` that change
  between_same : (q : Moment) → is_below upto q ≡ is_below more q → is_between since upto q ≡ is_between since more q
  between_same q e = ap (λ b. nat_le (slice_index since q.event.itag.0) q.index && b) e

  all_between : (ms : List Moment) → AllByRecursion (λ (q : Moment). is_below upto q ≡ is_below more q) ms
      → AllByRecursion (λ (q : Moment). is_between since upto q ≡ is_between since more q) ms
  all_between [] all = tt
  all_between (q ∷ ms) all = (between_same q all.0, all_between ms all.1)

  idle_away : (c : Cell) → is_away c ≡ true → s c ≡ None → (effect_of p s m.event).cells c ≡ None
  idle_away c away none =
      updates_are_changes p s m.event c sorted
      ∙ ap (λ h. applied h (s c)) (unwritten_keeps p s m.event c (classes.away c away))
      ∙ none

  fits_again : CellsFit p (before ++ m ∷ after) opening is_base is_away (effect_of p s m.event).cells since more
  fits_again = record {
    base = λ c b. placed c (opening c) (is_below upto) (is_below more) m_not_below m_below_more same_before same_after (λ q e. e) (fits.base c b);
    away = λ c a. idle_away c a (fits.away c a);
    rest = λ c b a.
        placed c None (is_between since upto) (is_between since more)
        (and_false_right _ _ m_not_below)
        ((λ i. le_true (slice_index since m.event.itag.0) m.index since_le i && m_below_more i))
        (all_between before same_before) (all_between after same_after)
        (λ q e. and_right _ _ e)
        (fits.rest c b a);
  }

  pub updates_to_fit : UpdatesToFit p (before ++ m ∷ after) m opening is_base is_away s since more
  updates_to_fit = record { cells = fits_again; texts = texts_are_local p s m.before m.event agree }

pub central_law : CentralLaw
central_law p opening xs before after m is_base is_away s since upto more accepted start sorted ranges split classes since_le one_more exact fits =
    updates_to_fit p opening xs before after m is_base is_away s since upto more accepted start sorted ranges split classes since_le one_more exact fits
