use Rattle.std.proofs.Common.{arith}
use Rattle.std.proofs.lemmas.Map.Text.{text_keys}
use Rattle.std.proofs.lemmas.Grind.{common_steps}
use Rattle.flu_outside.proofs.honest_files.HonestFilesFiles.take.Goals as goal

pub returns-clause-taken : goal.returns-clause-taken
returns-clause-taken c = record {
  bytes = c.in-Some.rest.now;
  were = grind (arith, text_keys);
  enough = grind arith;
  given = c.take_into.ensures.given;
  left = grind (arith, text_keys);
  end = λ none. grind (arith, common_steps);
  others = λ other apart. grind (arith, text_keys);
}
