use Rattle.std.proofs.Common.{◌≡◌, [], length, ap, ◌∙◌, arith}
use Rattle.std.specs.Prelude.{slice_get, slice_index_or}
use Rattle.flu_model.specs.Listed.{listed}
use Rattle.flu_mail.specs.Places.{place_of, event_in, time_in}
use Rattle.flu_mail.proofs.PlaceLemmas.{pending_at_place}
use Rattle.flu_mail.proofs.entries.new_entry.Goals as goal

pub returns-clause-over : goal.returns-clause-over
returns-clause-over c =
    let items = slice_index_or (listed c.args.s.now) c.args.i.0 [] in
    let place : c.first_event-place.result ≡ place_of items 0 =
    (let from = c.first_event-place.ensures in let same = ap (λ is. place_of is 0) c.items-items.ensures in omega arith) in
    record {
      all = ap length c.items-items.ensures;
      seen = omega arith;
      count = omega arith;
      place = place;
      time = c.time_at.ensures ∙ (λ k. time_in (event_in (slice_get (c.items-items.ensures k) (place k)))) ∙ ap time_in (pending_at_place items 0);
    }
