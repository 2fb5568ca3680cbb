use Rattle.std.proofs.Common.{length, ap, ◌∙◌}
use Rattle.std.proofs.lemmas.List.{length-replicate}
use Rattle.flu_model.specs.Itags.{count_of_itags}
use Rattle.flu_model.specs.Listed.{listed}
use Rattle.flu_adaptive.proofs.Growing.{grown_each}
use Rattle.flu_adaptive.proofs.counting.counts_of.Goals as goal

pub returns-clause-one_each : goal.returns-clause-one_each
returns-clause-one_each c =
    grown_each (count_of_itags c.args.p.now) c.in_ok-counts.counts.items c.count_events.new.counts.items (listed c.args.s.now)
    (ap length c.in_ok-counts.ensures ∙ length-replicate c.itag_count.result 0 ∙ c.itag_count.ensures) c.count_events.ensures
