use Rattle.std.specs.Char.{is_ascii_digit}
use Rattle.flu_lemmas.proofs.Prefixes.{AllPass-prefix_len}
use Rattle.flu_text.proofs.lexeme.number_at.Goals as goal

pub number_of-requires : goal.number_of-requires
number_of-requires c = rw c.digits_len-len.ensures (AllPass-prefix_len is_ascii_digit c.args.bytes.now)
