use Rattle.std.proofs.Common.{◌∙◌, [], Ok, map, ap, sym, arith}
use Rattle.flu_model.specs.Erasure.{plain_action}
use Rattle.flu_lemmas.proofs.Loops.{each-next, each-fault, each-end, each-map}
use Rattle.flu_parse.specs.Naming.{naming}
use Rattle.flu_syntax.specs.Tree.{action_of as action_seen}
use Rattle.flu_parse.specs.Actions.{with_action, resolved_actions}
use Rattle.flu_parse.specs.Faults.{each}
use Rattle.flu_parse.proofs.Steps.{do_written}
use Rattle.flu_parse.proofs.FaultLemmas.{fails_through}
use Rattle.flu_parse.proofs.actions.resolved_actions.Goals as goal

pub loop-action-init : goal.loop-action-init
loop-action-init c =
    let n = naming c.args.names.now in
    ap (λ done. each (do_written c.args.text.now n c.args.under) (map plain_action done) c.args.written.now) c.new-done.ensures.items
    ∙ each-map (with_action c.args.text.now n c.args.under) action_seen [] c.args.written.now

pub returns-in-Err : goal.returns-in-Err
returns-in-Err c =
    let text = c.args.text.now in
    let n = naming c.args.names.now in
    let so_far = map plain_action c.loop-action.done.items in
    fails_through _ (do_written text n c.args.under so_far c.action-item.result) (resolved_actions text n c.args.under (map action_seen c.args.written.now))
    (λ e h. sym c.loop-action.invariant
    ∙ each-fault
    (do_written text n c.args.under) so_far e c.args.written.now c.loop-action.action-index c.action-item.result c.loop-action-test.true c.action-item.is h)
    c.in-Err.ensures

pub loop-action-preserved : goal.loop-action-preserved
loop-action-preserved c =
    let text = c.args.text.now in
    let n = naming c.args.names.now in
    let so_far = map plain_action c.loop-action.done.items in
    sym (each-next (do_written text n c.args.under) so_far
    (map plain_action c.add_action.new.done.items) c.args.written.now c.loop-action.action-index c.action-item.result c.loop-action-test.true c.action-item.is
    c.in-Ok.ensures)
    ∙ c.loop-action.invariant

pub returns : goal.returns
returns c =
    let n = naming c.args.names.now in
    sym c.loop-action.invariant
    ∙ each-end (do_written c.args.text.now n c.args.under) (map plain_action c.loop-action.done.items) c.args.written.now c.loop-action.action-index
    (omega arith)
    ∙ ap (λ all. Ok (map plain_action all)) (sym c.of.ensures)
