use Rattle.flu_sending.proofs.Texts.{texts_are_utf8}
use Rattle.flu_sending.proofs.laws.sent_texts_are_utf8.Goals as goal

pub returns : goal.returns
returns c = texts_are_utf8
