use Rattle.std.proofs.Common.{◌∙◌, sym, ap, arith}
use Rattle.flu_lemmas.proofs.Loops.{each-next-at, each-fault-at, each-end}
use Rattle.flu_parse.specs.Faults.{each}
use Rattle.flu_parse.specs.Lists.{with_text, texts_of}
use Rattle.flu_parse.proofs.FaultLemmas.{fails_through}
use Rattle.flu_parse.proofs.lists.texts_of.Goals as goal

pub loop-span-init : goal.loop-span-init
loop-span-init c = ap (λ texts. each (with_text c.args.text.now) texts c.args.spans.now) c.new-texts.ensures

pub returns-in-Err : goal.returns-in-Err
returns-in-Err c =
    let step = with_text c.args.text.now in
    fails_through _ _ (texts_of c.args.text.now c.args.spans.now)
    (λ e h. sym c.loop-span.invariant
    ∙ each-fault-at step _ c.loop-span.texts e c.args.spans.now c.loop-span.span-index c.loop-span-test.true h)
    c.in-Err.ensures

pub loop-span-preserved : goal.loop-span-preserved
loop-span-preserved c =
    let step = with_text c.args.text.now in
    sym (each-next-at step _ c.loop-span.texts c.add_text.new.texts c.args.spans.now c.loop-span.span-index c.loop-span-test.true c.in-Ok.ensures)
    ∙ c.loop-span.invariant

pub returns : goal.returns
returns c =
    sym c.loop-span.invariant ∙ each-end (with_text c.args.text.now) c.loop-span.texts c.args.spans.now c.loop-span.span-index (omega arith)
