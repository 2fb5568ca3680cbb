use Rattle.std.proofs.Common.{drop, arith}
use Rattle.std.proofs.lemmas.List.{length-drop}
use Rattle.std.proofs.lemmas.Grind.{common_steps}
use Rattle.flu_text.proofs.Front.{word_front}
use Rattle.flu_text.proofs.reading.token_at.Goals as goal

pub overflow_add-result : goal.overflow_add-result
overflow_add-result c =
    let front = word_front (drop c.args.from c.args.text.now) (c.in_ok-word.word, c.in_ok-word.len) (grind (arith, common_steps)) in
    omega (arith, front.within, length-drop c.args.from c.args.text.now)

pub returns-clause-within : goal.returns-clause-within
returns-clause-within c =
    let front = word_front (drop c.args.from c.args.text.now) (c.in_ok-word.word, c.in_ok-word.len) (grind (arith, common_steps)) in
    (omega (arith, front.some), omega (arith, front.within, length-drop c.args.from c.args.text.now))
