use Rattle.std.proofs.Common.{◌≡◌, length}
use Rattle.flu_lemmas.specs.Elements.{AtEach}
use Rattle.flu_mail.specs.Entries.{is_of}
use Rattle.flu_mail.proofs.KeyLemmas.{KeyIs}
use Rattle.flu_mail.proofs.mailbox.ordered.Given as goal

abbrev pub invariant-loop-i : goal.invariant-loop-i
invariant-loop-i l = record {
  size : length l.keys.items ≡ l.i;
  told : AtEach (KeyIs (is_of l.owner) l.entries) l.keys.items;
}
