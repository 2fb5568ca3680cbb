use Rattle.std.proofs.Common.{Some, sym, ap, ◌∙◌}
use Rattle.serde_json.specs.View.{view}
use Rattle.flu_partial.proofs.Entries.{end_there, event_there}
use Rattle.flu_partial.proofs.contributions.place_in.Goals as goal

pub returns-in-Some-clause-found : goal.returns-in-Some-clause-found
returns-in-Some-clause-found c p fits has =
    let e = end_there (view c.args.value.now) p (view c.in-Some.last.now) fits has (sym c.in-Some.ensures) in
    c.end_in.ensures.found e.last e.fits e.value ∙ ap Some (sym e.is)

pub returns-in-None-clause-found : goal.returns-in-None-clause-found
returns-in-None-clause-found c p fits has =
    let e = event_there (view c.args.value.now) p fits has (sym c.in-None.ensures) in
    c.event_in.ensures.found e.time e.itag e.in_time e.in_range e.times e.itags ∙ ap Some (sym e.is)
