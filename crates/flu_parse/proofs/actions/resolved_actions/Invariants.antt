use Rattle.std.proofs.Common.{◌≡◌, map, drop}
use Rattle.flu_model.specs.Erasure.{plain_action}
use Rattle.flu_parse.specs.Faults.{each}
use Rattle.flu_parse.specs.Naming.{naming}
use Rattle.flu_syntax.specs.Tree.{action_of as action_seen}
use Rattle.flu_parse.specs.Actions.{resolved_actions}
use Rattle.flu_parse.proofs.Steps.{do_written}
use Rattle.flu_parse.proofs.actions.resolved_actions.Given as goal

abbrev pub invariant-loop-action : goal.invariant-loop-action
invariant-loop-action l =
    each (do_written l.text (naming l.names) l.under) (map plain_action l.done.items) (drop l.action-index l.written) ≡ resolved_actions l.text
    (naming l.names) l.under (map action_seen l.written)
