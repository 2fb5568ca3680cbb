use Rattle.std.proofs.Common.{◌∙◌, ◌∷◌, [], List, ap, sym}
use Rattle.flu_model.specs.declared.jobs.TagRef.{TagRef}
use Rattle.flu_parse.specs.Naming.{naming}
use Rattle.flu_parse.specs.Listings.{Listed, with_tag, tags_of, alone}
use Rattle.flu_parse.proofs.FaultLemmas.{fails_through}
use Rattle.flu_parse.proofs.Ticks.{one_listed, one_refused, step_refused}
use Rattle.flu_parse.proofs.listings.tag_alone.Goals as goal

pub returns-in-Ok : goal.returns-in-Ok
returns-in-Ok c =
    let text = c.args.text.now in
    let n = naming c.args.names.now in
    let step = λ (items : List TagRef). with_tag text n (record { tags = items; itags = c.args.itags }) (alone c.args.kind) in
    one_listed text n c.args.itags (alone c.args.kind) _ (ap step (sym c.new.ensures.items) ∙ c.in-Ok.ensures)

pub returns-in-Err : goal.returns-in-Err
returns-in-Err c =
    let text = c.args.text.now in
    let n = naming c.args.names.now in
    fails_through _ _ (tags_of text n c.args.itags (alone c.args.kind ∷ []))
    (one_refused text n c.args.itags (alone c.args.kind))
    (step_refused text n c.args.itags (alone c.args.kind) c.new.result.items c.in-Err.fault c.new.ensures.items c.in-Err.ensures)
