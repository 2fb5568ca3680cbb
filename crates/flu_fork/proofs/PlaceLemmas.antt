-- Where events stand in the fold: moments are in event order, each is an event of the streams, and each event stands once.
use Rattle.std.proofs.Common.{◌≡◌, ◌≢◌, ◌<◌, ◌≤◌, ◌+◌, ℕ, zero, suc, true, false, cond, Some, List, [], ◌∷◌}
use Rattle.std.proofs.Common.{◌++◌, append_assoc, length, inl, inr, refl, sym, ap, subst, ◌∙◌, arith}
use Rattle.std.specs.Prelude.{◌==◌, ◌&&◌, nat_le, slice_get, slice_index_or, ⊤}
use Rattle.std.specs.List.{AllByRecursion}
use Rattle.std.proofs.lemmas.Bool.{cases_eq, cases_lt}
use Rattle.std.proofs.lemmas.Grind.{common_steps}
use Rattle.std.proofs.lemmas.List.{get_or_past}
use Rattle.std.proofs.lemmas.Option.{slice_get_within}
use Rattle.flu_lemmas.proofs.Elements.{all_back, all_at_place, all_from_places, two_places}
use Rattle.flu_lemmas.proofs.Sorting.{IsRising, in_order-rising}
use Rattle.flu_lemmas.proofs.Tests.{and_left, and_right}
use Rattle.flu_lemmas.proofs.InTime.{in_time, earlier-ranks}
use Rattle.flu_model.specs.declared.events.Event.{Event}
use Rattle.flu_model.specs.declared.events.Item.{Item}
use Rattle.flu_model.specs.declared.events.Item.TheVariants.{Event as EventItem, Beat, End}
use Rattle.flu_model.specs.declared.jobs.Program.{Program}
use Rattle.flu_model.specs.Contents.{Contents}
use Rattle.flu_model.specs.Itags.{count_of_itags}
use Rattle.flu_model.specs.Merging.{is_before, events_of, all_events, merged}
use Rattle.flu_model.specs.Streaming.{is_stream_from, are_streams}
use Rattle.flu_model.specs.Updates.{effect_of}
use Rattle.flu_laws.specs.Spans.{Moment, history}
use Rattle.flu_fork.specs.LawsBelow.{LawsBelow}
use Rattle.flu_fork.specs.Settings.{Setting, IsSetting, events_at, moments}
use Rattle.flu_fork.specs.Streams.{IsEventAt}
use Rattle.flu_fork.specs.Places.{HasMoment, EventsHaveMoments, MomentsAreEvents, EventsAreKnown}
use Rattle.flu_fork.proofs.Moments.{stream_itags, moments_there}
use Rattle.flu_fork.proofs.Standing.{stream_later, event_stands}

-- ---- event order
before_by_itag : (x y : Event) → is_before y x ≡ false → x.itag.0 ≢ y.itag.0 → is_before x y ≡ true
before_by_itag x y late other = grind (arith, common_steps)

pub not_before_itself : (x : Event) → is_before x x ≡ false
not_before_itself x = grind (arith, common_steps)

-- no later moment is before an earlier one
abbrev AreInOrder : List Moment → Type 0
AreInOrder [] = ⊤
AreInOrder (m ∷ ms) = AllByRecursion (λ (q : Moment). is_before q.event m.event ≡ false) ms × AreInOrder ms

each_moment : (P : Event → Type 0) (p : Program) (s : Contents) (seen : ℕ → ℕ) (xs : List Event) → AllByRecursion P xs
    → AllByRecursion (λ (m : Moment). P m.event) (history p s seen xs)
each_moment P p s seen [] all = tt
each_moment P p s seen (x ∷ xs) all = (all.0, each_moment P p (effect_of p s x).cells (λ i. cond (i == x.itag.0) (seen i + 1) (seen i)) xs all.1)

in_order_too : (p : Program) (s : Contents) (seen : ℕ → ℕ) (xs : List Event) → IsRising is_before xs → AreInOrder (history p s seen xs)
in_order_too p s seen [] up = tt
in_order_too p s seen (x ∷ xs) up = (
  each_moment (λ y. is_before y x ≡ false) p (effect_of p s x).cells (λ i. cond (i == x.itag.0) (seen i + 1) (seen i)) xs up.0,
  in_order_too p (effect_of p s x).cells (λ i. cond (i == x.itag.0) (seen i + 1) (seen i)) xs up.1,
)

order_before : (pre post : List Moment) (m : Moment) → AreInOrder (pre ++ m ∷ post)
    → AllByRecursion (λ (q : Moment). is_before m.event q.event ≡ false) pre
order_before [] post m up = tt
order_before (q ∷ pre) post m up =
    ((all_back (λ (r : Moment). is_before r.event q.event ≡ false) pre (m ∷ post) up.0).0, order_before pre post m up.1)

-- ---- lists
at_index : {X : Type 0} (P : X → Type 0) (xs : List X) (n : ℕ) (x : X) → AllByRecursion P xs → slice_get xs n ≡ Some x → P x
at_index P [] n x all e = cc
at_index P (y ∷ ys) zero x all e = let same : y ≡ x = cc in subst P same all.0
at_index P (y ∷ ys) (suc n) x all e = at_index P ys n x all.1 e

pub same_rest : {X : Type 0} (xs us vs : List X) (x y : X) → xs ++ x ∷ us ≡ xs ++ y ∷ vs → us ≡ vs
same_rest [] us vs x y e = cc
same_rest (z ∷ xs) us vs x y e = let rest : xs ++ x ∷ us ≡ xs ++ y ∷ vs = cc in same_rest xs us vs x y rest

-- what stands at an index of a list that is long enough
pub record Something (xs : List Event) (n : ℕ) : Type 0 where
  pub event : Event
  pub is : slice_get xs n ≡ Some event

pub something_at : (xs : List Event) (n : ℕ) → n < length xs → Something xs n
something_at [] n lt = absurd (omega arith)
something_at (x ∷ xs) zero lt = record { event = x; is = refl }
something_at (x ∷ xs) (suc n) lt = let r = something_at xs n (omega arith) in record { event = r.event; is = r.is }

-- ---- streams
-- the times of a stream's events rise
stream_rises : (i low : ℕ) (items : List Item) → is_stream_from i low items ≡ true → (a b : ℕ) (x y : Event) → a < b
    → slice_get (events_of items) a ≡ Some x → slice_get (events_of items) b ≡ Some y → x.time < y.time
stream_rises i low [] e a b x y lt ea eb = cc
stream_rises i low (EventItem z ∷ items) e zero zero x y lt ea eb = absurd (omega arith)
stream_rises i low (EventItem z ∷ items) e zero (suc b) x y lt ea eb =
    let same : z ≡ x = cc in
    let later : z.time + 1 ≤ y.time =
    at_index (λ (q : Event). z.time + 1 ≤ q.time) (events_of items) b y
    (stream_later i (z.time + 1) items (and_right ((z.itag.0 == i) && nat_le low z.time) (is_stream_from i (z.time + 1) items) e)) eb in
    let times : z.time ≡ x.time = ap (λ (q : Event). q.time) same in
    omega arith
stream_rises i low (EventItem z ∷ items) e (suc a) zero x y lt ea eb = absurd (omega arith)
stream_rises i low (EventItem z ∷ items) e (suc a) (suc b) x y lt ea eb = stream_rises i (z.time + 1) items (and_right _ _ e) a b x y (omega arith) ea eb
stream_rises i low (Beat t ∷ items) e a b x y lt ea eb = stream_rises i (t + 1) items (and_right _ _ e) a b x y lt ea eb
stream_rises i low (End ∷ []) e a b x y lt ea eb = cc
stream_rises i low (End ∷ z ∷ items) e a b x y lt ea eb = cc

stream_here : (n k : ℕ) (lists : List (List Item)) → are_streams n lists ≡ true → k < length lists
    → is_stream_from (n + k) 0 (slice_index_or lists k []) ≡ true
stream_here n k [] e lt = absurd (omega arith)
stream_here n zero (items ∷ rest) e lt =
    let same : n ≡ n + 0 = omega arith in
    subst (λ (u : ℕ). is_stream_from u 0 items ≡ true) same (and_left (is_stream_from n 0 items) _ e)
stream_here n (suc k) (items ∷ rest) e lt =
    let same : n + 1 + k ≡ n + suc k = omega arith in
    subst (λ (u : ℕ). is_stream_from u 0 (slice_index_or rest k []) ≡ true) same
    (stream_here (n + 1) k rest (and_right (is_stream_from n 0 items) (are_streams (n + 1) rest) e) (omega arith))

module _ (laws : LawsBelow) (k : Setting) (ok : IsSetting k) where
  -- an itag with an event is one of the job
  pub event_known : (i n : ℕ) (x : Event) → IsEventAt k i n x → i < count_of_itags k.program
  event_known i n x e =
      elim (cases_lt i (count_of_itags k.program)) [
        | inl lt ↦ lt
        | inr ge ↦
            let one = ok.one_each in
            let none = ap (λ (items : List Item). length (events_of items)) (get_or_past k.lists i [] (omega arith)) in
            let there = slice_get_within (events_at k i) n x e in
            absurd (omega arith)
      ]

  stream_at : (i : ℕ) → i < count_of_itags k.program → is_stream_from i 0 (slice_index_or k.lists i []) ≡ true
  stream_at i lt =
      let one = ok.one_each in
      let same : 0 + i ≡ i = omega arith in
      subst (λ (u : ℕ). is_stream_from u 0 (slice_index_or k.lists i []) ≡ true) same (stream_here 0 i k.lists ok.streams (omega arith))

  pub event_itag : (i n : ℕ) (x : Event) → IsEventAt k i n x → x.itag.0 ≡ i
  event_itag i n x e =
      at_index (λ (q : Event). q.itag.0 ≡ i) (events_at k i) n x
      (stream_itags i 0 (slice_index_or k.lists i []) (stream_at i (event_known i n x e))) e

  pub times_rise : (i a b : ℕ) (x y : Event) → a < b → IsEventAt k i a x → IsEventAt k i b y → x.time < y.time
  times_rise i a b x y lt ea eb = stream_rises i 0 (slice_index_or k.lists i []) (stream_at i (event_known i a x ea)) a b x y lt ea eb

  pub places_at : (before after : List Moment) (m : Moment) → moments k ≡ before ++ m ∷ after
      → AllByRecursion (λ (q : Moment). q.event.itag.0 ≡ m.event.itag.0 → q.index < m.index) before
  places_at before after m split = laws.places_rise k.program k.opening (λ i. 0) (merged k.lists) before after m split

  -- ONE PLACE: a moment of m's itag with m's index is m, at m's place
  pub one_place : (before after front back : List Moment) (m q : Moment) → moments k ≡ before ++ m ∷ after → moments k ≡ front ++ q ∷ back
      → q.event.itag.0 ≡ m.event.itag.0 → q.index ≡ m.index → (before ≡ front) × ((m ≡ q) × (after ≡ back))
  one_place before after front back m q split there itag index =
      elim (two_places before front after back m q (sym split ∙ there)) [
        | inl same ↦
            let again : before ++ m ∷ after ≡ before ++ q ∷ back = sym split ∙ there ∙ ap (λ us. us ++ q ∷ back) (sym same.0) in
            (same.0, (same.1, same_rest before after back m q again))
        | inr (inl h) ↦
            let at =
            all_at_place (λ (r : Moment). r.event.itag.0 ≡ m.event.itag.0 → r.index < m.index) before front h.0 q h.1 (places_at before after m split) in
            let less : q.index < m.index = at itag in
            absurd (omega arith)
        | inr (inr h) ↦
            let at =
            all_at_place (λ (r : Moment). r.event.itag.0 ≡ q.event.itag.0 → r.index < q.index) front before h.0 m h.1 (places_at front back q there) in
            let less : m.index < q.index = at (sym itag) in
            absurd (omega arith)
      ]

  -- EACH MOMENT IS AN EVENT OF THE STREAMS, the one of its itag with its index
  pub moment_is_listed : (before after : List Moment) (m : Moment) → moments k ≡ before ++ m ∷ after → IsEventAt k m.event.itag.0 m.index m.event
  moment_is_listed before after m split =
      let there =
      all_at_place (λ (q : Moment). q.index < length (events_at k q.event.itag.0)) (moments k) before after m split (moments_there laws k ok) in
      let found = something_at (events_at k m.event.itag.0) m.index there in
      let s = event_stands k ok m.event.itag.0 m.index found.event found.is in
      let itag : s.moment.event.itag.0 ≡ m.event.itag.0 =
      ap (λ (x : Event). x.itag.0) s.event ∙ event_itag m.event.itag.0 m.index found.event found.is in
      let same = one_place before after s.front s.back m s.moment split s.at itag s.place in
      found.is ∙ ap (λ (x : Event). Some x) (sym s.event ∙ sym (ap (λ (q : Moment). q.event) same.1.0))

  -- STRICT ORDER: a moment that stands in front of another is before it
  pub in_front : (before mid after : List Moment) (q m : Moment) → moments k ≡ (before ++ q ∷ mid) ++ m ∷ after → is_before q.event m.event ≡ true
  in_front before mid after q m split =
      let weak =
      all_at_place (λ (r : Moment). is_before m.event r.event ≡ false) (before ++ q ∷ mid) before mid q refl
      (order_before (before ++ q ∷ mid) after m (subst AreInOrder split
      (in_order_too k.program k.opening (λ i. 0) (merged k.lists)
      (in_order-rising is_before (earlier-ranks (λ (x : Event). x.time) (λ x. x.itag.0)) (all_events k.lists))))) in
      elim (cases_eq q.event.itag.0 m.event.itag.0) [
        | inl same ↦
            let less : q.index < m.index =
            all_at_place (λ (r : Moment). r.event.itag.0 ≡ m.event.itag.0 → r.index < m.index) (before ++ q ∷ mid) before mid q refl
            (places_at (before ++ q ∷ mid) after m split) same in
            let first : IsEventAt k m.event.itag.0 q.index q.event =
            subst (λ (i : ℕ). IsEventAt k i q.index q.event) same
            (moment_is_listed before (mid ++ m ∷ after) q (split ∙ append_assoc before (q ∷ mid) (m ∷ after))) in
            in_time q.event.time q.event.itag.0 m.event.time m.event.itag.0
            (times_rise m.event.itag.0 q.index m.index q.event m.event less first (moment_is_listed (before ++ q ∷ mid) after m split))
        | inr other ↦ before_by_itag q.event m.event weak other
      ]

  pub all_earlier : (before after : List Moment) (m : Moment) → moments k ≡ before ++ m ∷ after
      → AllByRecursion (λ (q : Moment). is_before q.event m.event ≡ true) before
  all_earlier before after m split =
      all_from_places (λ (q : Moment). is_before q.event m.event ≡ true) before
      (λ us vs q e. in_front us vs after q m (split ∙ ap (λ l. l ++ m ∷ after) e))

  pub all_later : (before after : List Moment) (m : Moment) → moments k ≡ before ++ m ∷ after
      → AllByRecursion (λ (q : Moment). is_before m.event q.event ≡ true) after
  all_later before after m split =
      all_from_places (λ (q : Moment). is_before m.event q.event ≡ true) after
      (λ us vs q e. in_front before us vs m q (split ∙ ap (λ l. before ++ m ∷ l) e ∙ sym (append_assoc before (m ∷ us) (q ∷ vs))))

  pub has_moment : (i n : ℕ) (x : Event) → IsEventAt k i n x → HasMoment k i n x
  has_moment i n x e =
      let s = event_stands k ok i n x e in
      let itag = event_itag i n x e in
      record {
        front = s.front;
        back = s.back;
        moment = s.moment;
        stands = s.at;
        event = s.event;
        index = s.place;
        itag = itag;
        earlier = subst (λ (y : Event). AllByRecursion (λ (q : Moment). is_before q.event y ≡ true) s.front) s.event (all_earlier s.front s.back s.moment s.at);
        later = subst (λ (y : Event). AllByRecursion (λ (q : Moment). is_before y q.event ≡ true) s.back) s.event (all_later s.front s.back s.moment s.at);
        alone = λ before after m split mi mn.
            (let p =
            one_place before after s.front s.back m s.moment split s.at (ap (λ (y : Event). y.itag.0) s.event ∙ itag ∙ sym mi) (s.place ∙ sym mn) in
            (p.0, (p.1.0, p.1.1)));
      }

pub events_law : LawsBelow → EventsHaveMoments
events_law laws k i n x ok e = has_moment laws k ok i n x e

pub moments_law : LawsBelow → MomentsAreEvents
moments_law laws k before after m ok split = moment_is_listed laws k ok before after m split

pub known_law : LawsBelow → EventsAreKnown
known_law laws k i n x ok e = event_known laws k ok i n x e
