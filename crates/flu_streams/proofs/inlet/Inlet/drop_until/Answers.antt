use Rattle.std.proofs.Common.{◌≡◌, ◌/◌, ap, ◌∙◌, None, refl, arith}
use Rattle.std.specs.Prelude.{nat_lt, nat_le, unwrap_or}
use Rattle.std.specs.List.{filter}
use Rattle.flu_model.specs.declared.events.Item.{Item}
use Rattle.flu_model.specs.Moments.{last_moment}
use Rattle.flu_streams.specs.Lists.{item_time, times_in}
use Rattle.flu_streams.proofs.Between.{row_behind, rises_times}
use Rattle.flu_streams.proofs.Ranks.{fewer}
use Rattle.flu_streams.proofs.Counting.{still_rises}
use Rattle.flu_streams.proofs.Inlets.{later_alike, times_later, all_later}
use Rattle.flu_streams.proofs.inlet.Inlet.drop_until.Goals as goal

pub invariant_of-self : goal.invariant_of-self
invariant_of-self c =
    let h = c.args.self.now in
    let items = h.items in
    let t = last_moment h.timing c.args.time in
    let now : c.drop_until.new.self ≡ filter (λ (item : Item). nat_lt t (item_time item)) items =
    c.drop_until.ensures ∙ later_alike h c.last_moment.result t c.last_moment.ensures in
    let times = ap times_in now ∙ times_later (nat_lt t) items in
    record {
      rising = rw now (still_rises (λ (item : Item). nat_lt t (item_time item)) items h.rising);
      none = λ e. now ∙ ap (filter (λ (item : Item). nat_lt t (item_time item))) (h.none e);
      fits = h.fits;
      range = h.range;
      early = h.early;
      ordered = h.ordered;
      within = rw times (all_later (λ time. nat_le time (unwrap_or h.last 0)) (nat_lt t) (λ m. m / h.timing.scale) (times_in items) h.within);
      in_a_row = rw times (row_behind h.timing h.fits c.args.time 0 None (times_in items) (rises_times items h.rising) (λ b e. absurd cc) h.in_a_row);
      few = λ free. rw now (let less = fewer (λ (item : Item). nat_lt t (item_time item)) items in omega (arith, less, h.few free));
      limit = h.limit;
      alone = h.alone;
    }

pub returns : goal.returns
returns c =
    let h = c.args.self.now in
    record {
      items = c.drop_until.ensures ∙ later_alike h c.last_moment.result (last_moment h.timing c.args.time) c.last_moment.ensures;
      timing = refl;
      rows = refl;
      first = refl;
      last = refl;
      ended = refl;
      closed = refl;
      goal = refl;
      held = refl;
    }
