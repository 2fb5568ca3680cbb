-- Draws, items and lists that grow by one.
use Rattle.std.proofs.Common.{◌≡◌, ◌+◌, ◌%◌, ◌<◌, ℕ, suc, Vec, Global, zero-add, Bool, true, false, List, [], ◌∷◌, ◌++◌, length, get_or, take, map, filter}
use Rattle.std.proofs.Common.{cond, refl, sym, ap, ◌∙◌, arith}
use Rattle.std.specs.Prelude.{◌==◌}
use Rattle.std.specs.List.{range_with_len}
use Rattle.std.proofs.lemmas.List.{map-append}
use Rattle.std.proofs.lemmas.List.Elements.{filter-append, filter_more}
use Rattle.std.proofs.lemmas.List.FromFn.{map-range_with_len_more}
use Rattle.flu_lemmas.proofs.Ranges.{range_append}
use Rattle.flu_draw.specs.Draws.{next_draw, draw_of}
use Rattle.flu_model.specs.declared.events.Event.{Event}
use Rattle.flu_model.specs.declared.events.Item.{Item}
use Rattle.flu_model.specs.declared.events.Item.TheVariants.{Event as EventItem}
use Rattle.flu_gen.specs.DemoStreams.{number_after, draw_for, event_at, drawn_event, clock_tick, ended, of_itag}

-- one turn more
pub number_more : (seed turn number : ℕ) → number ≡ number_after seed turn → next_draw number ≡ number_after seed (turn + 1)
number_more seed turn number so_far =
    let more : suc turn ≡ turn + 1 = omega arith in
    ap next_draw so_far ∙ ap (number_after seed) more

-- one time more
pub times_more : (test : ℕ → Bool) (n time : ℕ) → time ≡ n + 1
    → filter test (range_with_len 1 (n + 1)) ≡ filter test (range_with_len 1 n) ++ cond (test time) (time ∷ []) []
times_more test n time is =
    let at : 1 + n ≡ time = omega (arith, is) in
    ap (filter test) (range_append 1 n 1) ∙ filter-append test (range_with_len 1 n) (range_with_len (1 + n) 1)
    ∙ ap (λ t. filter test (range_with_len 1 n) ++ cond (test t) (t ∷ []) []) at

map-cond : {X Y : Type 0} (f : X → Y) (b : Bool) (x : X) → map f (cond b (x ∷ []) []) ≡ cond b (f x ∷ []) []
map-cond f true x = refl
map-cond f false x = refl

-- one drawn event more
pub drawn_pushed : (seed turn time draw number : ℕ) (x : Event) (before after : List Event) → after ≡ before ++ x ∷ [] → x ≡ drawn_event time draw
    → draw ≡ draw_of number → number ≡ number_after seed (turn + 1) → time ≡ turn + 1
    → before ≡ map (λ t. drawn_event t (draw_for seed t)) (range_with_len 1 turn)
    → after ≡ map (λ t. drawn_event t (draw_for seed t)) (range_with_len 1 (turn + 1))
drawn_pushed seed turn time draw number x before after more is drawn so_far at front =
    let f : ℕ → Event = λ t. drawn_event t (draw_for seed t) in
    let one : 1 + turn ≡ turn + 1 = omega arith in
    let here : x ≡ f (turn + 1) = is ∙ ap (λ t. drawn_event t draw) at ∙ ap (drawn_event (turn + 1)) (drawn ∙ ap draw_of so_far) in
    more ∙ ap (λ l. l ++ x ∷ []) front ∙ ap (λ (y : Event). map f (range_with_len 1 turn) ++ y ∷ []) here
    ∙ sym (map-range_with_len_more f 1 turn (turn + 1) one)

-- one event more, which is of the itag or not
pub own_pushed : (i : ℕ) (xs : List Event) (k : ℕ) (x : Event) (before after : List Item) → k < length xs
    → after ≡ before ++ cond (x.itag.0 == i) (EventItem x ∷ []) [] → before ≡ map EventItem (of_itag i (take k xs)) → x ≡ get_or xs k x
    → after ≡ map EventItem (of_itag i (take (k + 1) xs))
own_pushed i xs k x before after lt more front is =
    let test : Event → Bool = λ y. y.itag.0 == i in
    let own = filter test (take k xs) in
    more ∙ ap (λ l. l ++ cond (test x) (EventItem x ∷ []) []) front
    ∙ sym (ap (map EventItem) (filter_more test xs k x lt ∙ ap (λ (y : Event). own ++ cond (test y) (y ∷ []) []) (sym is))
    ∙ map-append EventItem own (cond (test x) (x ∷ []) []) ∙ ap (λ l. map EventItem own ++ l) (map-cond EventItem (test x) x))

abbrev pub tick_at : ℕ → Event
tick_at t = event_at t clock_tick 0

abbrev pub is_tick_time : ℕ → Bool
is_tick_time t = t % 1000 == 0

-- one time more, at which the clock ticks or not
pub tick_pushed : (n time clock : ℕ) (before after : List Item) → time ≡ n + 1 → clock ≡ clock_tick
    → after ≡ before ++ cond (is_tick_time time) (EventItem (event_at time clock 0) ∷ []) []
    → before ≡ map EventItem (map tick_at (filter is_tick_time (range_with_len 1 n)))
    → after ≡ map EventItem (map tick_at (filter is_tick_time (range_with_len 1 (n + 1))))
tick_pushed n time clock before after at is more front =
    let times = filter is_tick_time (range_with_len 1 n) in
    let last = cond (is_tick_time time) (time ∷ []) [] in
    more ∙ ap (λ l. l ++ cond (is_tick_time time) (EventItem (event_at time clock 0) ∷ []) []) front
    ∙ ap (λ c. map EventItem (map tick_at times) ++ cond (is_tick_time time) (EventItem (event_at time c 0) ∷ []) []) is
    ∙ sym (ap (λ l. map EventItem (map tick_at l)) (times_more is_tick_time n time at)
    ∙ ap (map EventItem) (map-append tick_at times last ∙ ap (λ l. map tick_at times ++ l) (map-cond tick_at (is_tick_time time) time))
    ∙ map-append EventItem (map tick_at times) (cond (is_tick_time time) (tick_at time ∷ []) [])
    ∙ ap (λ l. map EventItem (map tick_at times) ++ l) (map-cond EventItem (is_tick_time time) (tick_at time)))

-- the list of one itag more
pub list_pushed : (xs : List Event) (k : ℕ) (v : Vec Item Global) (before after : List (Vec Item Global)) → after ≡ before ++ v ∷ []
    → v.items ≡ ended (of_itag k xs) → map (λ u. u.items) before ≡ map (λ i. ended (of_itag i xs)) (range_with_len 0 k)
    → map (λ u. u.items) after ≡ map (λ i. ended (of_itag i xs)) (range_with_len 0 (k + 1))
list_pushed xs k v before after more is front =
    ap (map (λ u. u.items)) more ∙ map-append (λ (u : Vec Item Global). u.items) before (v ∷ [])
    ∙ ap (λ l. l ++ v.items ∷ []) front ∙ ap (λ (y : List Item). map (λ i. ended (of_itag i xs)) (range_with_len 0 k) ++ y ∷ []) is
    ∙ sym (map-range_with_len_more (λ i. ended (of_itag i xs)) 0 k k (zero-add k))
