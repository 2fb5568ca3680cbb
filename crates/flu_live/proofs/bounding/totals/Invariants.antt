use Rattle.std.proofs.Common.{◌≡◌, ◌≤◌, ◌*◌, ◌^◌}
use Rattle.std.specs.List.{range_with_len}
use Rattle.flu_lemmas.specs.Totals.{total}
use Rattle.flu_model.specs.Itags.{count_of_itags}
use Rattle.flu_fork.specs.Lots.{job}
use Rattle.flu_net.specs.Measure.{events_of, items_of}
use Rattle.flu_live.proofs.bounding.totals.Given as goal

abbrev pub invariant-loop-i : goal.invariant-loop-i
invariant-loop-i l = record {
  end : l.i-end ≡ count_of_itags (job l.case);
  items : l.items ≡ total (items_of l.case) (range_with_len 0 l.i);
  events : l.events ≡ total (events_of l.case) (range_with_len 0 l.i);
  few_items : l.items ≤ l.i * 2 ^ 64;
  few_events : l.events ≤ l.i * 2 ^ 64;
}
