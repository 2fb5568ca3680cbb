use Rattle.flu_laws.proofs.Histories.{moments_are_of_events, places_rise}
use Rattle.flu_laws.proofs.moments_are_in_order.Goals as goal

pub returns : goal.returns
returns c = record { events = moments_are_of_events; places = places_rise }
