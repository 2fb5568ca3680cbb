use Rattle.std.proofs.Common.{◌≡◌, ℕ, ◌/◌, ◌<◌, ◌≤◌, max, min, false, eqb, Option, None, Some, refl, sym, ap, ◌∙◌, rules, arith}
use Rattle.std.specs.List.{list_any}
use Rattle.std.specs.Prelude.{unwrap_or}
use Rattle.std.proofs.lemmas.Grind.{common_steps}
use Rattle.flu_lemmas.specs.Counting.{times}
use Rattle.flu_lemmas.specs.Late.{put_late}
use Rattle.flu_model.specs.Moments.{moment_at}
use Rattle.flu_streams.specs.declared.inlet.Inlet.{Inlet}
use Rattle.flu_streams.specs.Lists.{item_time, times_in}
use Rattle.flu_streams.specs.LoopMoments.{own_times, item_at_time, item_at_moment}
use Rattle.flu_streams.proofs.Between.{IsNext}
use Rattle.flu_streams.proofs.Bounds.{one_longer}
use Rattle.flu_streams.proofs.Inlets.{next_moment, none_has, row_more, within_more, timed_at}
use Rattle.flu_streams.proofs.Moments.{time_of-moment}
use Rattle.flu_streams.proofs.Placing.{still_rising}
use Rattle.flu_streams.proofs.inlet.Inlet.insert.Goals as goal

pub put_item-requires-clause-apart : goal.put_item-requires-clause-apart
put_item-requires-clause-apart c =
    let h = c.args.self.now in
    let time = c.time_of-time.result in
    let x = c.in_ok-moment.moment in
    let next : IsNext h.timing h.fits time None (times_in h.items) x = next_moment h time x c.in_ok-moment.ensures.moment c.in_ok-moment.ensures.few in
    let at : item_time c.at_time.result ≡ x = ap item_time c.at_time.ensures ∙ timed_at x c.args.item c.requires.timed in
    ap (λ l. list_any (λ t. eqb t (item_time c.at_time.result)) (times_in l)) c.moment_behind.ensures.same
    ∙ ap (λ t. list_any (λ u. eqb u t) (times_in h.items)) at ∙ none_has h time x next

pub put_item-requires-clause-rising : goal.put_item-requires-clause-rising
put_item-requires-clause-rising c = rw c.moment_behind.ensures.same c.args.self.now.rising

-- the greatest time is below the end of times
below_end : (h : Inlet) (was time last t : ℕ) → was ≡ unwrap_or h.last 0 → last ≡ max was time → time < h.timing.end → Some last ≡ Some t
    → t < h.timing.end
below_end h was time last t is most lt e = by_last h.last refl
  where
    same : last ≡ t
    same = cc

    by_last : (o : Option ℕ) → h.last ≡ o → t < h.timing.end
    by_last None none = let zero_is : was ≡ 0 = is ∙ ap (λ (o : Option ℕ). unwrap_or o 0) none in omega (arith, same, most, lt, zero_is)
    by_last (Some l) some =
        let at : was ≡ l = is ∙ ap (λ (o : Option ℕ). unwrap_or o 0) some in
        let early : l < h.timing.end = h.early l some in
        omega (arith, same, most, lt, at, early)

in_order : (first last time t f : ℕ) → Some (max last time) ≡ Some t → Some (min first time) ≡ Some f → f ≤ t
in_order first last time t f e g =
    let high : max last time ≡ t = cc in
    let low : min first time ≡ f = cc in
    omega (arith, high, low)

pub invariant_of-self-2 : goal.invariant_of-self-2
invariant_of-self-2 c =
    let h = c.args.self.now in
    let time = c.time_of-time.result in
    let x = c.in_ok-moment.moment in
    let item = c.at_time.result in
    let next : IsNext h.timing h.fits time None (times_in h.items) x = next_moment h time x c.in_ok-moment.ensures.moment c.in_ok-moment.ensures.few in
    let at : item_time item ≡ x = ap item_time c.at_time.ensures ∙ timed_at x c.args.item c.requires.timed in
    let next_item : IsNext h.timing h.fits time None (times_in h.items) (item_time item) = rw at next in
    let own : item_time item / h.timing.scale ≡ time =
    ap (λ m. m / h.timing.scale) (at ∙ c.in_ok-moment.ensures.moment) ∙ time_of-moment h.timing h.fits time (times time (own_times h.timing h.items)) in
    let after : c.put_item.new.items ≡ put_late item_time item c.moment_behind.new.items = grind (arith, common_steps) in
    let put : c.put_item.new.items ≡ put_late item_time item h.items = after ∙ ap (put_late item_time item) c.moment_behind.ensures.same in
    let apart : list_any (λ t. eqb t (item_time item)) (times_in h.items) ≡ false = none_has h time (item_time item) next_item in
    let last : unwrap_or h.last 0 ≤ c.max-last.result = omega (arith, c.max-last.ensures, c.unwrap_or.ensures) in
    record {
      rising = rw put (still_rising h.items item h.rising apart);
      none = λ e. absurd cc;
      fits = h.fits;
      range = let range = h.fits.range in
          omega (arith, c.max-last.ensures, c.unwrap_or.ensures, h.range, c.requires.time, c.time_of-time.ensures, range);
      early = λ t e. below_end h c.unwrap_or.result c.time_of-time.result c.max-last.result t c.unwrap_or.ensures c.max-last.ensures
          (omega (arith, c.requires.time, c.time_of-time.ensures)) e;
      ordered = λ t e f g. in_order c.unwrap_or-2.result c.unwrap_or.result time t f (ap Some (sym c.max-last.ensures) ∙ e) (ap Some (sym c.min.ensures) ∙ g);
      within = rw put (within_more h c.max-last.result time item last (omega (arith, own, c.max-last.ensures)));
      in_a_row = rw put (row_more h time item next_item);
      few = λ free. rw put (let longer = one_longer item_time item h.items in
          omega (arith, longer, c.requires.room (sym c.in_ok-held.ensures.same ∙ free)));
      limit = c.in_ok-held.ensures.limit;
      alone = λ t e. c.in_ok-held.ensures.same ∙ h.alone t e;
    }

pub returns-clause-taken : goal.returns-clause-taken
returns-clause-taken c =
    let h = c.args.self.now in
    let item = c.at_time.result in
    let after : c.put_item.new.items ≡ put_late item_time item c.moment_behind.new.items = grind (arith, common_steps) in
    let put : c.put_item.new.items ≡ put_late item_time item h.items = after ∙ ap (put_late item_time item) c.moment_behind.ensures.same in
    let is : item ≡ item_at_moment h.timing (own_times h.timing h.items) c.args.item =
    c.at_time.ensures ∙ ap (λ m. item_at_time m c.args.item) (c.in_ok-moment.ensures.moment
    ∙ ap (λ t. moment_at h.timing t (times t (own_times h.timing h.items))) c.time_of-time.ensures) in
    record {
      items = put ∙ ap (λ x. put_late item_time x h.items) is;
      timing = refl;
      rows = refl;
      first = ap Some (c.min.ensures ∙ ap (λ n. min n c.time_of-time.result) c.unwrap_or-2.ensures
          ∙ ap (λ t. min (unwrap_or h.first t) t) c.time_of-time.ensures);
      last = search rules;
      ended = refl;
      closed = refl;
      goal = refl;
      held = c.in_ok-held.ensures.counted;
    }
