use Rattle.std.proofs.Common.{min}
use Rattle.flu_model.specs.Listed.{listed}
use Rattle.flu_sending.specs.Lines.{times_of_itag}
use Rattle.flu_sending.proofs.Chosen.{min_assoc, itag_more}
use Rattle.flu_sending.proofs.times.first_time.Goals as goal

pub loop-i-preserved : goal.loop-i-preserved
loop-i-preserved c =
    itag_more min min_assoc (times_of_itag c.args.p.now (listed c.args.streams.now)) _ _ _ _ c.loop-i.invariant c.first_of_itag.ensures c.earlier-first.ensures
