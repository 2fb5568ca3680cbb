use Rattle.std.proofs.Common.{codes, ◌∙◌}
use Rattle.flu_partial.proofs.Pieces.{head_written, text_is}
use Rattle.flu_partial.proofs.printing.head_string.Goals as goal

pub returns : goal.returns
returns c =
    head_written c.args.head.now _ _ _ _ _ _ c.new-out.ensures.bytes c.in_ok-push_time.ensures
    (c.in_ok-push_text.ensures ∙ text_is _ (codes ",") (codes "job") _ _ c.as_str.ensures)
    (c.in_ok-push_text-2.ensures ∙ text_is _ (codes ",") (codes "node") _ _ c.as_str-2.ensures)
    (c.in_ok-push_text-3.ensures ∙ text_is _ (codes ",") (codes "plan") _ _ c.as_str-3.ensures)
    c.in_ok-push_str.ensures.bytes
