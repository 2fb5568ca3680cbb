use Rattle.std.proofs.Common.{◌≡◌, ℕ, ◌+◌, true, false, ◌||◌, List, [], ◌∷◌, Some, None, refl, sym, ap, subst, ◌∙◌, rules, arith, to_z, of_z, w64}
use Rattle.std.specs.Prelude.{not, is_none, is_some, unwrap_or, Result, Ok, Err, OnOk}
use Rattle.std.proofs.lemmas.Int.{ints}
use Rattle.flu_lemmas.specs.Counting.{times}
use Rattle.flu_lemmas.specs.Late.{put_late}
use Rattle.flu_model.specs.declared.events.Item.{Item}
use Rattle.flu_model.specs.declared.events.Item.TheVariants.{Event as EventItem, Beat as BeatItem}
use Rattle.flu_model.specs.declared.jobs.Kind.{Kind}
use Rattle.flu_model.specs.declared.jobs.Source.{Source}
use Rattle.flu_model.specs.Moments.{moment_at}
use Rattle.flu_rows.specs.declared.row.Row.{Row}
use Rattle.flu_rows.specs.declared.row.Row.TheVariants.{Event, Beat}
use Rattle.flu_streams.specs.declared.faults.Why.TheVariants.{AfterEnd, BadRow, UnknownTag, UnknownItem}
use Rattle.flu_streams.specs.declared.inlet.Inlet.{Inlet}
use Rattle.flu_streams.specs.Before.{first_some}
use Rattle.flu_streams.specs.Good.{event_of}
use Rattle.flu_streams.specs.Holding.{item_of}
use Rattle.flu_streams.specs.Lists.{item_time}
use Rattle.flu_streams.specs.LoopHeld.{fault_at, held_with, later_of, sooner_of, put_timed, PutsIn, PutsItem, test_held, test_late}
use Rattle.flu_streams.specs.LoopMoments.{at_moment, item_at_moment, own_times}
use Rattle.flu_streams.specs.Tags.{given_to, is_known, place_named, width}
use Rattle.flu_streams.specs.Tests.{has_moments, is_end, items_in, test_fields, test_item, test_tag, time_in, where_true}
use Rattle.flu_streams.proofs.inlet.Inlet.take.Goals as goal

on_both : {T E P Q R : Type 0} (r : Result T E) → (P → Q → R) → OnOk r P → OnOk r Q → OnOk r R
on_both (Ok v) f p q = f p q
on_both (Err e) f p q = tt

-- an item that passes at the time of its row is put where the row is
puts_row : (kinds : List Kind) (s : Source) (first : ℕ) (row : Row) (item : Item) (count : ℕ) (old new : Inlet)
    → time_in row ≡ Some (item_time item) → is_end row ≡ false → items_in (width s) row ≡ count
    → item_of kinds s first (at_moment old.timing (own_times old.timing old.items) row) ≡ item_at_moment old.timing (own_times old.timing old.items) item
    → old.ended ≡ false → has_moments old.timing (time_in row) ≡ true → test_tag kinds s row ≡ None → test_fields kinds row ≡ None → test_item row ≡ None
    → fault_at old.timing s.slack (own_times old.timing old.items) old.last old.held (item_time item) count ≡ None
    → PutsItem item count old new → PutsIn kinds s first row old new
puts_row kinds s first row item count old new at not_end counts same goes moments tag fields known passes puts = record {
  passes = (λ i. first_some (λ test. test) (where_true (goes i) AfterEnd ∷ where_true (not (moments i)) BadRow ∷ tag i ∷ fields i ∷ known i
      ∷ test_late old.timing s.slack (own_times old.timing old.items) old.last (at i) ∷ test_held old.held (counts i) ∷ []))
      ∙ passes;
  items = puts.items ∙ ap (λ x. put_late item_time x old.items) (sym same)
      ∙ ap (λ o. put_timed o (item_of kinds s first (at_moment old.timing (own_times old.timing old.items) row)) old.items) (sym at);
  timing = puts.timing;
  rows = puts.rows;
  earliest = puts.first ∙ ap (sooner_of old.first) (sym at);
  last = puts.last ∙ ap (later_of old.last) (sym at);
  ended = puts.ended ∙ goes ∙ sym (λ i. goes i || not_end i);
  closed = puts.closed;
  goal = puts.goal;
  held = puts.held ∙ ap (held_with old.held) (sym counts);
}

pub returns-in-Beat-clause-taken : goal.returns-in-Beat-clause-taken
returns-in-Beat-clause-taken c =
    let h = c.args.self.now in
    let s = c.args.source.now in
    let row = c.args.row in
    let is : row ≡ Beat c.in-Beat.time = c.in-Beat.is in
    let count : width s ≡ c.tag_count-count.result = search rules in
    let moments : has_moments h.timing (time_in row) ≡ true = search rules in
    on_both c.insert.result
    (λ passes puts. subst (λ (r : Row). PutsIn c.args.kinds.now s c.args.first r h c.insert.new.self) (sym is)
    (puts_row c.args.kinds.now s c.args.first (Beat c.in-Beat.time) (BeatItem c.in-Beat.time) c.tag_count-count.result h c.insert.new.self
    refl refl count refl c.if-self.false (ap (λ (r : Row). has_moments h.timing (time_in r)) (sym is) ∙ moments) refl refl refl passes puts))
    c.insert.ensures.passes c.insert.ensures.taken

pub returns-in-Ok-clause-taken : goal.returns-in-Ok-clause-taken
returns-in-Ok-clause-taken c =
    let h = c.args.self.now in
    let kinds = c.args.kinds.now in
    let s = c.args.source.now in
    let first = c.args.first in
    let row = c.args.row in
    let e = c.in-Event in
    let found = c.in-Ok.found in
    let is : row ≡ Event e.time e.name e.key e.fields = e.is in
    let moments : has_moments h.timing (time_in row) ≡ true = search rules in
    let place : place_named kinds s e.name e.key ≡ Some found.place = search rules in
    let given : given_to kinds e.name e.fields ≡ Some (found.item, found.value) = search rules in
    let known : is_known e.fields ≡ true = search rules in
    let v = to_z w64 (of_z w64 found.value) in
    let value : v ≡ found.value = omega (arith, ints) in
    let same : given_to kinds e.name e.fields ≡ Some (found.item, v) = given ∙ ap (λ n. Some (found.item, n)) (sym value) in
    let m = moment_at h.timing e.time (times e.time (own_times h.timing h.items)) in
    on_both c.insert-in-Ok.result
    (λ passes puts. subst (λ (r : Row). PutsIn kinds s first r h c.insert-in-Ok.new.self) (sym is)
    (puts_row kinds s first (Event e.time e.name e.key e.fields)
    (EventItem (event_of e.time (first + found.place) (Some (found.item, v)))) 1 h c.insert-in-Ok.new.self
    refl refl refl (λ i. EventItem (event_of m (first + unwrap_or (place i) (width s)) (same i))) c.if-self.false
    (ap (λ (r : Row). has_moments h.timing (time_in r)) (sym is) ∙ moments) (λ i. where_true (is_none (place i)) UnknownTag)
    (λ i. where_true (not (is_some (given i))) BadRow) (λ i. where_true (not (known i)) UnknownItem) passes puts))
    c.insert-in-Ok.ensures.passes c.insert-in-Ok.ensures.taken
