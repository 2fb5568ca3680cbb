use Rattle.std.proofs.Common.{◌∙◌, sym, arith}
use Rattle.flu_lemmas.proofs.Loops.{each-next-at, each-fault-at, each-end}
use Rattle.flu_parse.specs.Naming.{naming}
use Rattle.flu_parse.specs.Templates.{known_name, known_names}
use Rattle.flu_parse.proofs.FaultLemmas.{fails_through}
use Rattle.flu_parse.proofs.templates.known_names.Goals as goal

pub returns-in-Err : goal.returns-in-Err
returns-in-Err c =
    let text = c.args.text.now in
    let n = naming c.args.names.now in
    let ps = c.args.pieces.now in
    fails_through _ _ (known_names text n c.args.place ps)
    (λ e h. sym c.loop-piece.invariant ∙ each-fault-at (λ done q. known_name text n c.args.place q) _ tt e ps c.loop-piece.piece-index c.loop-piece-test.true h)
    c.in-Err.ensures

pub loop-piece-preserved : goal.loop-piece-preserved
loop-piece-preserved c =
    let text = c.args.text.now in
    let n = naming c.args.names.now in
    sym (each-next-at (λ done q. known_name text n c.args.place q) _ tt tt c.args.pieces.now c.loop-piece.piece-index c.loop-piece-test.true c.in-Ok.ensures)
    ∙ c.loop-piece.invariant

pub returns : goal.returns
returns c =
    let text = c.args.text.now in
    let n = naming c.args.names.now in
    sym c.loop-piece.invariant
    ∙ each-end (λ done q. known_name text n c.args.place q) tt c.args.pieces.now c.loop-piece.piece-index (omega arith)
