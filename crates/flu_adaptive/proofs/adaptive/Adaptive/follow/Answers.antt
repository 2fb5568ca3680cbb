use Rattle.std.proofs.Common.{◌∙◌}
use Rattle.flu_model.specs.Itags.{count_of_itags}
use Rattle.flu_model.specs.Listed.{listed}
use Rattle.flu_deps.specs.Checking.{program_of}
use Rattle.flu_adaptive.proofs.Growing.{grown_each}
use Rattle.flu_adaptive.proofs.adaptive.Adaptive.follow.Goals as goal

pub observed_plan-requires : goal.observed_plan-requires
observed_plan-requires g c =
    let a = c.self.inside in
    grown_each (count_of_itags (program_of a.checked.now)) a.counts.items c.as_slice.result.now (listed c.args.s.now) c.self.invariant.0.one_each
    (c.as_slice.ensures.value ∙ c.count_events.ensures)

pub invariant_of-self : goal.invariant_of-self
invariant_of-self g c =
    let a = c.self.inside in (
      record {
        valid = c.self.invariant.0.valid;
        one_each = grown_each (count_of_itags (program_of a.checked.now)) a.counts.items c.count_events.new.counts.items
            (listed c.args.s.now) c.self.invariant.0.one_each c.count_events.ensures;
      },
      c.self.invariant.1,
      c.self.invariant.2,
      c.self.invariant.3,
      c.self.invariant.4,
    )

pub invariant_of-self-2 : goal.invariant_of-self-2
invariant_of-self-2 g c =
    let a = c.self.inside in (
      record {
        valid = c.in_ok-anew.ensures.of;
        one_each = grown_each (count_of_itags (program_of a.checked.now)) a.counts.items c.count_events.new.counts.items
            (listed c.args.s.now) c.self.invariant.0.one_each c.count_events.ensures;
      },
      c.self.invariant.1,
      c.self.invariant.2,
      c.self.invariant.3,
      tt,
    )
