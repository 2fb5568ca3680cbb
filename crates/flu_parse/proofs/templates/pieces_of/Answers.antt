use Rattle.std.proofs.Common.{◌+◌, ◌∷◌, ◌++◌, [], List, drop, ◌∙◌, sym, ap, arith}
use Rattle.flu_model.specs.declared.jobs.Piece.{Piece}
use Rattle.flu_lemmas.proofs.Loops.{each-next-at, each-fault-at, each-end, collect, collects, collect-fault}
use Rattle.flu_parse.specs.Faults.{each}
use Rattle.flu_parse.specs.Naming.{naming}
use Rattle.flu_parse.specs.Templates.{piece_of, pieces_of}
use Rattle.flu_parse.proofs.FaultLemmas.{fails_through}
use Rattle.flu_parse.proofs.templates.pieces_of.Goals as goal

pub returns-in-Err : goal.returns-in-Err
returns-in-Err c =
    let text = c.args.text.now in
    let n = naming c.args.names.now in
    let ps = c.args.pieces.now in
    let find = piece_of text n c.args.under c.args.flushed c.args.place in
    fails_through _ _ (pieces_of text n c.args.under c.args.flushed c.args.place ps)
    (λ e h. sym c.loop-piece.invariant
    ∙ each-fault-at (collect find) _ c.loop-piece.found.items e ps c.loop-piece.piece-index c.loop-piece-test.true
    (collect-fault find c.loop-piece.found.items _ e h))
    c.in-Err.ensures

pub loop-piece-preserved : goal.loop-piece-preserved
loop-piece-preserved c =
    let text = c.args.text.now in
    let n = naming c.args.names.now in
    let ps = c.args.pieces.now in
    let find = piece_of text n c.args.under c.args.flushed c.args.place in
    let done = c.loop-piece.found.items in
    let i = c.loop-piece.piece-index in
    ap (λ (all : List Piece). each (collect find) all (drop (i + 1) ps)) c.in_ok-push-in-Ok.ensures.items
    ∙ sym (each-next-at (collect find) _ done (done ++ c.in-Ok.piece ∷ []) ps i c.loop-piece-test.true (collects find done _ c.in-Ok.piece c.in-Ok.ensures))
    ∙ c.loop-piece.invariant

pub returns : goal.returns
returns c =
    let find = piece_of c.args.text.now (naming c.args.names.now) c.args.under c.args.flushed c.args.place in
    sym c.loop-piece.invariant
    ∙ each-end (collect find) c.loop-piece.found.items c.args.pieces.now c.loop-piece.piece-index (omega arith)
