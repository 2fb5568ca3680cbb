use Rattle.std.proofs.Common.{◌≡◌, ◌++◌, map, take}
use Rattle.std.specs.Prelude.{codes}
use Rattle.std.specs.List.{flat_map}
use Rattle.std.specs.String.{string_bytes}
use Rattle.flu_model.specs.Erasure.{plain_action}
use Rattle.flu_parse.specs.Printing.{action_text}
use Rattle.flu_parse.proofs.printing_actions.add_actions.Given as goal

abbrev pub invariant-loop-action : goal.invariant-loop-action
invariant-loop-action l =
    string_bytes l.text
    ≡ string_bytes l.initial.text ++ flat_map (λ a. codes "; " ++ action_text l.families a) (map plain_action (take l.action-index l.others))
