-- The moments of a fold: their places, and the states before them.
use Rattle.std.proofs.Common.{◌≡◌, ◌≤◌, ◌<◌, ◌+◌, ℕ, Bool, true, false, cond, Option, List, [], ◌∷◌, ◌++◌, refl, sym, ap, subst, ◌∙◌, arith}
use Rattle.std.specs.Prelude.{◌==◌, ⊤}
use Rattle.std.specs.List.{filter, AllByRecursion}
use Rattle.flu_lemmas.proofs.Elements.{all_map}
use Rattle.flu_lemmas.proofs.Searches.{eq_true}
use Rattle.flu_lemmas.proofs.Tests.{true_eq}
use Rattle.flu_model.specs.declared.events.Cell.{Cell}
use Rattle.flu_model.specs.declared.events.Event.{Event}
use Rattle.flu_model.specs.declared.events.Worth.{Worth}
use Rattle.flu_model.specs.declared.jobs.Program.{Program}
use Rattle.flu_model.specs.Contents.{Contents}
use Rattle.flu_model.specs.Itags.{tag_of_itag, is_dependent, count_of_itags}
use Rattle.flu_model.specs.Updates.{effect_of}
use Rattle.flu_model.specs.Sorts.{IsStateOf}
use Rattle.flu_model.specs.Modes.{IsAccepted}
use Rattle.flu_laws.specs.Changes.{Keep, applied}
use Rattle.flu_laws.specs.Spans.{Moment, history, change_at, changed_by, MomentsAreOfEvents, PlacesRise}
use Rattle.flu_laws.specs.Uses.{needs, mode_at}
use Rattle.flu_laws.proofs.Laws.{no_conflict}
use Rattle.flu_laws.proofs.Updating.{updates_are_changes, keeps_sorts, unwritten_keeps}
use Rattle.flu_laws.proofs.Uses.{needed_unwritten}

-- ---- the places of events
-- of the moments of one itag, each comes later in its list than those before it
abbrev pub AreRising : List Moment → Type 0
AreRising [] = ⊤
AreRising (m ∷ ms) = AllByRecursion (λ q. (q.event.itag.0 == m.event.itag.0) ≡ true → m.index < q.index) ms × AreRising ms

from_seen : (p : Program) (s : Contents) (seen : ℕ → ℕ) (xs : List Event) → AllByRecursion (λ q. seen q.event.itag.0 ≤ q.index) (history p s seen xs)
from_seen p s seen [] = tt
from_seen p s seen (x ∷ xs) =
    (omega arith, lower (history p (effect_of p s x).cells _ xs) (from_seen p (effect_of p s x).cells (λ i. cond (i == x.itag.0) (seen i + 1) (seen i)) xs))
  where
    at_least : (b : Bool) (n m : ℕ) → cond b (n + 1) n ≤ m → n ≤ m
    at_least true n m le = omega arith
    at_least false n m le = le

    lower : (ms : List Moment) → AllByRecursion (λ q. cond (q.event.itag.0 == x.itag.0) (seen q.event.itag.0 + 1) (seen q.event.itag.0) ≤ q.index) ms
        → AllByRecursion (λ q. seen q.event.itag.0 ≤ q.index) ms
    lower [] all = tt
    lower (m ∷ ms) all = (at_least (m.event.itag.0 == x.itag.0) (seen m.event.itag.0) m.index all.0, lower ms all.1)

pub are_rising : (p : Program) (s : Contents) (seen : ℕ → ℕ) (xs : List Event) → AreRising (history p s seen xs)
are_rising p s seen [] = tt
are_rising p s seen (x ∷ xs) = (
  above (history p (effect_of p s x).cells _ xs) (from_seen p (effect_of p s x).cells (λ i. cond (i == x.itag.0) (seen i + 1) (seen i)) xs),
  are_rising p
      (effect_of p s x).cells _ xs,
)
  where
    one : (i j : ℕ) → (i == j) ≡ true → (m : ℕ) → cond (i == j) (seen i + 1) (seen i) ≤ m → seen j < m
    one i j e m le =
        let same : i ≡ j = true_eq i j e in
        let up : cond (i == j) (seen i + 1) (seen i) ≡ seen i + 1 = ap (λ b. cond b (seen i + 1) (seen i)) e in
        let here : seen i ≡ seen j = ap seen same in
        omega (arith, up, here)

    above : (ms : List Moment) → AllByRecursion (λ q. cond (q.event.itag.0 == x.itag.0) (seen q.event.itag.0 + 1) (seen q.event.itag.0) ≤ q.index) ms
        → AllByRecursion (λ q. (q.event.itag.0 == x.itag.0) ≡ true → seen x.itag.0 < q.index) ms
    above [] all = tt
    above (m ∷ ms) all = ((λ e. one m.event.itag.0 x.itag.0 e m.index all.0), above ms all.1)

-- before and behind a moment
pub places_before : (pre post : List Moment) (m : Moment) → AreRising (pre ++ m ∷ post)
    → AllByRecursion (λ q. (m.event.itag.0 == q.event.itag.0) ≡ true → q.index < m.index) pre
places_before [] post m rise = tt
places_before (q ∷ pre) post m rise = (at_end pre rise.0, places_before pre post m rise.1)
  where
    at_end : (ms : List Moment) → AllByRecursion (λ r. (r.event.itag.0 == q.event.itag.0) ≡ true → q.index < r.index) (ms ++ m ∷ post)
        → (m.event.itag.0 == q.event.itag.0) ≡ true → q.index < m.index
    at_end [] all = all.0
    at_end (r ∷ ms) all = at_end ms all.1

pub places_behind : (pre post : List Moment) (m : Moment) → AreRising (pre ++ m ∷ post)
    → AllByRecursion (λ q. (q.event.itag.0 == m.event.itag.0) ≡ true → m.index < q.index) post
places_behind [] post m rise = rise.0
places_behind (q ∷ pre) post m rise = places_behind pre post m rise.1

-- ---- the states before the moments
first_same : (a b : Moment) (us vs : List Moment) → a ∷ us ≡ b ∷ vs → a ≡ b
first_same a b us vs e = cc

rest_same : (a b : Moment) (us vs : List Moment) → a ∷ us ≡ b ∷ vs → us ≡ vs
rest_same a b us vs e = cc

pub before_is : (p : Program) (s : Contents) (seen : ℕ → ℕ) (xs : List Event) (pre post : List Moment) (m : Moment) → IsStateOf p.families s
    → history p s seen xs ≡ pre ++ m ∷ post → (c : Cell) → m.before c ≡ changed_by p c (s c) pre
before_is p s seen [] [] post m sorted e c = cc
before_is p s seen [] (q ∷ pre) post m sorted e c = cc
before_is p s seen (x ∷ xs) [] post m sorted e c =
    let here : Moment = record { event = x; index = seen x.itag.0; before = s } in
    let same : here ≡ m = first_same here m (history p (effect_of p s x).cells _ xs) post e in
    sym (ap (λ q. q.before c) same)
before_is p s seen (x ∷ xs) (q ∷ pre) post m sorted e c =
    let here : Moment = record { event = x; index = seen x.itag.0; before = s } in
    let same : here ≡ q = first_same here q (history p (effect_of p s x).cells _ xs) (pre ++ m ∷ post) e in
    let others : history p (effect_of p s x).cells (λ i. cond (i == x.itag.0) (seen i + 1) (seen i)) xs ≡ pre ++ m ∷ post =
    rest_same here q (history p (effect_of p s x).cells (λ i. cond (i == x.itag.0) (seen i + 1) (seen i)) xs) (pre ++ m ∷ post) e in
    before_is p (effect_of p s x).cells (λ i. cond (i == x.itag.0) (seen i + 1) (seen i)) xs pre post m (keeps_sorts p s x sorted) others c
    ∙ ap (λ w. changed_by p c w pre) (updates_are_changes p s x c sorted ∙ ap (λ r. applied (change_at p c r) (s c)) same)

-- ---- events that leave a cell alone
pub changed-append : (p : Program) (c : Cell) (w : Option Worth) (xs ys : List Moment) → changed_by p c w (xs ++ ys) ≡ changed_by p c (changed_by p c w xs) ys
changed-append p c w [] ys = refl
changed-append p c w (m ∷ xs) ys = changed-append p c (applied (change_at p c m) w) xs ys

pub changed-skip : (p : Program) (c : Cell) (f : Moment → Bool) (ms : List Moment) (w : Option Worth)
    → AllByRecursion (λ q. f q ≡ false → change_at p c q ≡ Keep) ms → changed_by p c w (filter f ms) ≡ changed_by p c w ms
changed-skip p c f [] w all = refl
changed-skip p c f (q ∷ ms) w all =
    elim (f q) as (λ b. f q ≡ b → changed_by p c w (cond b (q ∷ filter f ms) (filter f ms)) ≡ changed_by p c (applied (change_at p c q) w) ms) [
      | true ↦ λ e. changed-skip p c f ms (applied (change_at p c q) w) all.1
      | false ↦ λ e. changed-skip p c f ms w all.1 ∙ sym (ap (λ h. changed_by p c (applied h w) ms) (all.0 e))
    ] refl

pub changed-idle : (p : Program) (c : Cell) (f : Moment → Bool) (ms : List Moment) (w : Option Worth)
    → AllByRecursion (λ q. f q ≡ true → change_at p c q ≡ Keep) ms → changed_by p c w (filter f ms) ≡ w
changed-idle p c f [] w all = refl
changed-idle p c f (q ∷ ms) w all =
    elim (f q) as (λ b. f q ≡ b → changed_by p c w (cond b (q ∷ filter f ms) (filter f ms)) ≡ w) [
      | true ↦ λ e. ap (λ h. changed_by p c (applied h w) (filter f ms)) (all.0 e) ∙ changed-idle p c f ms w all.1
      | false ↦ λ e. changed-idle p c f ms w all.1
    ] refl

-- an event of an independent tag leaves alone the cells that another tag needs
pub independent_keeps : (p : Program) (m q : Moment) (c : Cell) → IsAccepted p → m.event.itag.0 < count_of_itags p → q.event.itag.0 < count_of_itags p
    → is_dependent p (tag_of_itag p m.event.itag) (tag_of_itag p q.event.itag) ≡ false → needs (mode_at p m.event c) ≡ true → change_at p c q ≡ Keep
independent_keeps p m q c accepted in_m in_q apart need =
    unwritten_keeps p q.before q.event c (needed_unwritten (mode_at p m.event c) (mode_at p q.event c) need
    (no_conflict p m.event q.event accepted in_m in_q apart c))

-- the events of a history are those of its list
pub in_range : (n : ℕ) (p : Program) (s : Contents) (seen : ℕ → ℕ) (xs : List Event) → AllByRecursion (λ x. x.itag.0 < n) xs
    → AllByRecursion (λ q. q.event.itag.0 < n) (history p s seen xs)
in_range n p s seen [] all = tt
in_range n p s seen (x ∷ xs) all = (all.0, in_range n p (effect_of p s x).cells _ xs all.1)

pub moments_are_of_events : MomentsAreOfEvents
moments_are_of_events p s seen [] = refl
moments_are_of_events p s seen (x ∷ xs) = ap (λ us. x ∷ us) (moments_are_of_events p (effect_of p s x).cells
    (λ i. cond (i == x.itag.0) (seen i + 1) (seen i)) xs)

pub places_rise : PlacesRise
places_rise p s seen xs before after m split =
    all_map (λ (q : Moment). (m.event.itag.0 == q.event.itag.0) ≡ true → q.index < m.index)
    (λ (q : Moment). q.event.itag.0 ≡ m.event.itag.0 → q.index < m.index) before
    (λ q less same. less (eq_true m.event.itag.0 q.event.itag.0 (sym same)))
    (places_before before after m (subst AreRising split (are_rising p s seen xs)))
