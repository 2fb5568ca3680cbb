use Rattle.std.proofs.Common.{max}
use Rattle.flu_model.specs.Listed.{listed}
use Rattle.flu_sending.specs.Lines.{times_of_itag}
use Rattle.flu_sending.proofs.Chosen.{max_assoc, itag_more}
use Rattle.flu_sending.proofs.times.last_time.Goals as goal

pub loop-i-preserved : goal.loop-i-preserved
loop-i-preserved c =
    itag_more max max_assoc (times_of_itag c.args.p.now (listed c.args.streams.now)) _ _ _ _ c.loop-i.invariant c.last_of_itag.ensures c.later-last.ensures
