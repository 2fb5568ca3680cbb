use Rattle.std.proofs.Common.{sym, ap, subst, ◌∙◌}
use Rattle.std.proofs.Math.ListN.{set}
use Rattle.flu_mail.specs.Entries.{AreKeysOf, is_of}
use Rattle.flu_mail.proofs.KeyLemmas.{keys_unasked, keys_asked}
use Rattle.flu_mail.proofs.mailbox.reorder.Goals as goal

pub returns-then-not-is_of : goal.returns-then-not-is_of
returns-then-not-is_of c = λ entries e there same are.
    keys_unasked (is_of c.args.owner) entries c.args.order.now c.args.i.0 e c.args.entry.now there same (sym c.is_of.ensures ∙ c.if-not-is_of.true) are

pub returns : goal.returns
returns c = λ entries e there same are.
    subst (AreKeysOf (is_of c.args.owner) (set entries c.args.i.0 c.args.entry.now))
    (sym (c.set.ensures ∙ ap (set c.args.order.now c.args.i.0) c.key_of.ensures))
    (keys_asked (is_of c.args.owner) entries c.args.order.now c.args.i.0 e c.args.entry.now there (sym c.is_of.ensures ∙ c.if-not-is_of.false) are)
