use Rattle.std.proofs.Common.{◌≡◌, map, take}
use Rattle.flu_model.specs.Erasure.{job_of}
use Rattle.flu_rows.specs.Row.{form_of}
use Rattle.flu_streams.specs.Holding.{unread_source}
use Rattle.flu_streams.specs.LoopHeld.{source_of, AreTimed, AreUncounted}
use Rattle.flu_streams.proofs.held.new_inlets.Given as goal

abbrev pub invariant-loop-source : goal.invariant-loop-source
invariant-loop-source l = record {
  form : l.form ≡ form_of (job_of l.p);
  fresh : map source_of l.inlets.items ≡ map (unread_source (form_of (job_of l.p)) l.border) (take l.source-index l.p.sources);
  timed : AreTimed l.p l.inlets.items;
  uncounted : AreUncounted l.inlets.items;
}
