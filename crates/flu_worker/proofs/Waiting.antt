-- When all is seen, waiting ends.
use Rattle.std.proofs.Common.{◌≡◌, ◌⊎◌, ◌≤◌, ℕ, true, false, cond, Option, Some, None}
use Rattle.std.proofs.Common.{List, [], inl, inr, refl, sym, ap, subst, ◌∙◌, arith}
use Rattle.std.specs.Prelude.{◌||◌, slice_get, slice_index, slice_index_or}
use Rattle.std.proofs.lemmas.Bool.{cases_Bool, or_cases}
use Rattle.std.proofs.lemmas.List.{take_all}
use Rattle.std.proofs.lemmas.Option.{slice_get_within}
use Rattle.flu_lemmas.proofs.Places.{slice_get-there}
use Rattle.flu_lemmas.proofs.Tests.{and_left, and_right, false_if_not, not_both}
use Rattle.flu_model.specs.declared.events.Event.{Event}
use Rattle.flu_model.specs.declared.events.Item.{Item}
use Rattle.flu_model.specs.Listed.{listed}
use Rattle.flu_model.specs.Merging.{is_before, events_of}
use Rattle.flu_model.specs.Owners.{owns}
use Rattle.flu_fork.specs.declared.lots.Ask.{Ask}
use Rattle.flu_fork.specs.Lots.{job, nodes, setting_of}
use Rattle.flu_fork.specs.Serving.{AsksAbove}
use Rattle.flu_fork.specs.Settings.{events_at}
use Rattle.flu_fork.specs.Streams.{IsEventAt}
use Rattle.flu_tables.specs.Lists.{itag}
use Rattle.flu_worker.specs.Agreeing.{IsFirstOf}
use Rattle.flu_worker.specs.Choosing.{Sight, own_itags, next_at, takes, if_ready, event_of, serves}
use Rattle.flu_worker.specs.Choosing.{least_next, ask_for, if_serves, first_some}
use Rattle.flu_worker.specs.Laws.{NewTargets, AllSeen, own_by, above_by, HasReady, AskedGoOn, OwnGoOn, NothingIsNext}
use Rattle.flu_worker.specs.LawsBelow.{LawsBelow}
use Rattle.flu_worker.specs.Next.{IsReadyOwn}
use Rattle.flu_worker.proofs.Aiming.{known_at, least_found, some_ask}
use Rattle.flu_worker.proofs.EarliestLemmas.{NotBefore, all_where, first_is_ready, found_is, later_not_before}
use Rattle.flu_worker.proofs.EarliestLemmas.{none_before, none_is_ready, not_before, where_all}
use Rattle.flu_worker.proofs.Nodes.{own_not_above}
use Rattle.flu_worker.proofs.Rising.{rises}

-- ---- a new target
module _ (laws : LawsBelow) (s : Sight) where
  asks_own : (o : Option Event) → ((x : Event) → o ≡ Some x → IsReadyOwn s x) → (y : Ask) → ask_for s o ≡ Some y → own_by s y.itag.0 ≡ true
  asks_own None found y e = cc
  asks_own (Some x) found y e = subst (λ (z : Ask). own_by s z.itag.0 ≡ true) (some_ask e) (found x refl).own

  serves_asked : (o : Option Ask) (y : Ask) → if_serves s o ≡ Some y → o ≡ Some y
  serves_asked None y e = cc
  serves_asked (Some z) y e = elim (serves s (event_of s.case z)) as (λ t. cond t (Some z) None ≡ Some y → Some z ≡ Some y) [
    | true ↦ λ f. f
    | false ↦ λ f. cc
  ] e

  by_first : (asked : Option Ask) (y : Ask) (o : Option Ask) → ask_for s (if_ready s (least_next s)) ≡ o → first_some o (if_serves s asked) ≡ Some y
      → (own_by s y.itag.0 ≡ true) ⊎ (asked ≡ Some y)
  by_first asked y None is e = inr (serves_asked asked y e)
  by_first asked y (Some z) is e = inl (asks_own (if_ready s (least_next s)) (least_found laws s) y (is ∙ e))

pub new_targets : LawsBelow → NewTargets
new_targets laws s asked y e = by_first laws s asked y (ask_for s (if_ready s (least_next s))) refl e

-- ---- when all is seen
module _ (laws : LawsBelow) (s : Sight) (seen : AllSeen s) where
  abbrev items : ℕ → List Item
  items j = slice_index_or (listed s.case.streams) j []

  -- the next event of an itag is the first one that is not counted
  next_is : (j : ℕ) (x : Event) → IsEventAt (setting_of s.case) j (slice_index s.counts j) x → next_at s (itag j) ≡ Some x
  next_is j x at = ap (λ (l : List Item). slice_get (events_of l) (slice_index s.counts j)) (take_all (slice_index s.seen j) (items j) (seen j)) ∙ at

  -- no own event that is not counted is before the least next one
  least_first : (j l : ℕ) (y : Event) → own_by s j ≡ true → slice_index s.counts j ≤ l → IsEventAt (setting_of s.case) j l y → NotBefore y (least_next s)
  least_first j l y mine le at =
      let within = slice_get_within (events_at (setting_of s.case) j) l y at in
      let next = slice_get-there (events_at (setting_of s.case) j) (slice_index s.counts j) (omega arith) in
      further next.0 y (rises laws (setting_of s.case) (laws.settings s.case) j (slice_index s.counts j) l next.0 y next.1 at le) (least_next s)
      (where_all (job s.case) (owns (job s.case) (nodes s.case) s.node) (λ i. (x : Event) → next_at s i ≡ Some x → NotBefore x (least_next s))
      (none_before (next_at s) (own_itags s.case s.node)) (itag j) (known_at laws s.case j l y at) mine next.0 (next_is j next.0 next.1))
    where
      further : (x y : Event) → is_before y x ≡ false → (o : Option Event) → NotBefore x o → NotBefore y o
      further x y e None h = absurd h
      further x y e (Some m) h = not_before y x m e h

  first_own : (m : Event) → least_next s ≡ Some m → IsFirstOf (setting_of s.case) (own_by s) s.counts m
  first_own m is j l y mine le at = subst (NotBefore y) is (least_first j l y mine le at)

  none_own : least_next s ≡ None → (j l : ℕ) (y : Event) → own_by s j ≡ true → slice_index s.counts j ≤ l → IsEventAt (setting_of s.case) j l y → ⊥
  none_own is j l y mine le at = subst (NotBefore y) is (least_first j l y mine le at)

  -- the least next event is ready where none above is before it
  has_ready : (m : Event) → least_next s ≡ Some m → IsFirstOf (setting_of s.case) (above_by s) s.counts m → HasReady s
  has_ready m is over = record {
    least = m;
    next = is;
    ready = ready;
    found = sym (first_is_ready s (next_at s) (own_itags s.case s.node) m is ready);
  }
    where
      ready : takes s m ≡ true
      ready =
          laws.seen_ready (job s.case) (nodes s.case) (listed s.case.streams) s.node s.seen s.counts m (laws.settings s.case).streams
          (laws.settings s.case).one_each seen
          (λ j y lt waits left. elim (or_cases (own_by s j) (above_by s j) (and_right _ (own_by s j || above_by s j) (and_left _ _ waits))) [
            | inl mine ↦ first_own m is j left.0 y mine left.1 left.2
            | inr higher ↦ over j left.0 y higher left.1 left.2
          ])

  -- what is asked can be served where no own event is before it
  can_serve : (y : Ask) (x : Event) → AsksAbove s.case s.node y → IsEventAt (setting_of s.case) y.itag.0 y.index x
      → IsFirstOf (setting_of s.case) (own_by s) s.counts x
      → serves s (event_of s.case y) ≡ true
  can_serve y x up at mine =
      ap (serves s) at
      ∙ laws.seen_serving (job s.case) (nodes s.case) (listed s.case.streams) s.node s.seen s.counts x (laws.settings s.case).streams
      (laws.settings s.case).one_each seen
      (ap (own_by s) (laws.events (setting_of s.case) y.itag.0 y.index x (laws.settings s.case) at).itag
      ∙ false_if_not _ (λ h. not_both _ up.above (own_not_above laws s.case s.node y.itag.0 up.known h)))
      (λ j z lt waits left. mine j left.0 z (and_left (own_by s j) _ waits) left.1 left.2)

  module _ (y : Ask) (x : Event) (up : AsksAbove s.case s.node y) (at : IsEventAt (setting_of s.case) y.itag.0 y.index x)
      (over : IsFirstOf (setting_of s.case) (above_by s) s.counts x) where
    by_least : (o : Option Event) → least_next s ≡ o → HasReady s ⊎ (serves s (event_of s.case y) ≡ true)
    by_least None is = inr (can_serve y x up at (λ j l z mine le there. absurd (none_own is j l z mine le there)))
    by_least (Some m) is = elim (cases_Bool (is_before m x)) [
      | inl sooner ↦ inl (has_ready m is (λ j l z higher le there. later_not_before m x z sooner (over j l z higher le there)))
      | inr later ↦ inr (can_serve y x up at (λ j l z mine le there. not_before z m x (first_own m is j l z mine le there) later))
    ]

pub asked_go_on : LawsBelow → AskedGoOn
asked_go_on laws s y x seen up at over = by_least laws s seen y x up at over (least_next s) refl

pub own_go_on : LawsBelow → OwnGoOn
own_go_on laws s j l y seen mine le at complete = by_next (least_next s) refl
  where
    by_next : (o : Option Event) → least_next s ≡ o → HasReady s
    by_next None is = absurd (none_own laws s seen is j l y mine le at)
    by_next (Some m) is =
        has_ready laws s seen m is
        (λ i n z higher few there. (let all = complete i higher in let within = slice_get_within (events_at (setting_of s.case) i) n z there in
        absurd (omega arith)))

-- ---- when all is counted
pub nothing_is_next : LawsBelow → NothingIsNext
nothing_is_next laws s complete = record { next = none; ready = sym (none_is_ready s (next_at s) (own_itags s.case s.node) none) }
  where
    never : (x : Event) → least_next s ≡ Some x → ⊥
    never =
        found_is (λ _. ⊥) (next_at s) (own_itags s.case s.node)
        (all_where (job s.case) (owns (job s.case) (nodes s.case) s.node) (λ i. (x : Event) → next_at s i ≡ Some x → ⊥)
        (λ i lt mine x e.
        (let at = laws.seen_events (slice_index_or (listed s.case.streams) i.0 []) (slice_index s.seen i.0) (slice_index s.counts i.0) x e in
        let within = slice_get_within (events_at (setting_of s.case) i.0) (slice_index s.counts i.0) x at in
        let all = complete i.0 mine in
        omega arith)))

    by_next : (o : Option Event) → least_next s ≡ o → o ≡ None
    by_next None is = refl
    by_next (Some x) is = absurd (never x is)

    none : least_next s ≡ None
    none = by_next (least_next s) refl
