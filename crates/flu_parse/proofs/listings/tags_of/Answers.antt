use Rattle.std.proofs.Common.{◌∙◌, sym, arith}
use Rattle.flu_lemmas.proofs.Loops.{each-next-at, each-fault-at, each-end}
use Rattle.flu_parse.specs.Naming.{naming}
use Rattle.flu_parse.specs.Listings.{with_tag, tags_of}
use Rattle.flu_parse.specs.Resolving.{tags_listed}
use Rattle.flu_parse.proofs.FaultLemmas.{fails_through}
use Rattle.flu_parse.proofs.listings.tags_of.Goals as goal

pub returns-in-Err : goal.returns-in-Err
returns-in-Err c =
    let text = c.args.text.now in
    let n = naming c.args.names.now in
    let listed = tags_listed c.loop-tag.listed in
    fails_through _ _ (tags_of text n c.args.itags c.args.written.now)
    (λ e h. sym c.loop-tag.invariant ∙ each-fault-at (with_tag text n) _ listed e c.args.written.now c.loop-tag.tag-index c.loop-tag-test.true h)
    c.in-Err.ensures

pub loop-tag-preserved : goal.loop-tag-preserved
loop-tag-preserved c =
    let text = c.args.text.now in
    let n = naming c.args.names.now in
    sym (each-next-at (with_tag text n) _ (tags_listed c.loop-tag.listed)
    (tags_listed c.add_tag.new.listed) c.args.written.now c.loop-tag.tag-index c.loop-tag-test.true c.in-Ok.ensures)
    ∙ c.loop-tag.invariant

pub returns : goal.returns
returns c =
    sym c.loop-tag.invariant
    ∙ each-end (with_tag c.args.text.now (naming c.args.names.now)) (tags_listed c.loop-tag.listed) c.args.written.now c.loop-tag.tag-index (omega arith)
