use Rattle.std.proofs.Common.{List, map, codes, ap, ◌∙◌}
use Rattle.serde_json.specs.Data.{array}
use Rattle.serde_json.specs.View.{items_of}
use Rattle.flu_partial.specs.declared.values.Amount.{Amount}
use Rattle.flu_partial.specs.declared.values.Emitted.{Emitted}
use Rattle.flu_partial.specs.Partial.{amount_value, emitted_value}
use Rattle.flu_partial.proofs.Pieces.{contribution_written, member_is}
use Rattle.flu_partial.proofs.printing.contribution_string.Goals as goal

pub returns : goal.returns
returns c =
    contribution_written c.args.contribution.now _ _ _ _ _ _ c.new-out.ensures.bytes
    (c.in_ok-push_member.ensures ∙ member_is _ (codes "{") (codes "cells") _ _ (c.in_ok-cells.ensures.value
    ∙ ap (λ (xs : List Amount). array (items_of (map amount_value xs))) c.items.ensures))
    c.in_ok-push_number.ensures
    (c.in_ok-push_member-2.ensures ∙ member_is _ (codes ",") (codes "outs") _ _ (c.in_ok-outs.ensures.value
    ∙ ap (λ (xs : List Emitted). array (items_of (map emitted_value xs))) c.items-2.ensures))
    c.in_ok-push_place.ensures c.in_ok-push_str.ensures.bytes
