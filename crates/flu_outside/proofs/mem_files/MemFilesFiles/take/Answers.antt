use Rattle.std.proofs.Common.{◌≡◌, length, take, ◌∙◌, arith}
use Rattle.std.proofs.lemmas.List.{take_all}
use Rattle.std.proofs.lemmas.Map.Text.{text_keys}
use Rattle.std.proofs.lemmas.Grind.{common_steps}
use Rattle.flu_outside.proofs.mem_files.MemFilesFiles.take.Goals as goal

pub returns-then-fails-clause-kept : goal.returns-then-fails-clause-kept
returns-then-fails-clause-kept c = λ n. grind (arith, text_keys)

pub returns-then-fails-clause-counts : goal.returns-then-fails-clause-counts
returns-then-fails-clause-counts c = λ n. grind (arith, text_keys)

pub returns-then-fails-clause-others : goal.returns-then-fails-clause-others
returns-then-fails-clause-others c = λ n apart. let differs = apart.0 in grind (arith, text_keys)

pub returns-clause-taken : goal.returns-clause-taken
returns-clause-taken c = record {
  bytes = c.in-Some.file.now.rest;
  were = grind (arith, text_keys);
  enough = grind arith;
  given = c.take_into.ensures.given;
  left = grind (arith, text_keys);
  end = λ none. grind (arith, common_steps);
  others = λ other apart. grind (arith, text_keys);
}

pub returns-clause-quiet : goal.returns-clause-quiet
returns-clause-quiet c = λ n. grind (arith, text_keys)

pub returns-clause-counts : goal.returns-clause-counts
returns-clause-counts c = λ n. grind (arith, text_keys)

pub returns-clause-others : goal.returns-clause-others
returns-clause-others c = λ n apart. grind (arith, text_keys)

pub returns-then-fails-clause-answer : goal.returns-then-fails-clause-answer
returns-then-fails-clause-answer c = (grind (arith, common_steps), λ n. grind (arith, text_keys))

pub returns-clause-answer : goal.returns-clause-answer
returns-clause-answer c =
    let n = c.take_into.result in
    let buffer = c.take_into.new.buf in
    let size : length (take n buffer) ≡ n = grind (arith, common_steps) in (
      grind (arith, text_keys),
      grind (arith, text_keys, size),
      record {
        bytes = c.in-Some.file.now.rest;
        were = grind (arith, text_keys);
        enough = grind (arith, common_steps, size);
        given = rw size (take_all n (take n buffer) (omega (arith, size)) ∙ c.take_into.ensures.given);
        left = grind (arith, text_keys, size);
        end = λ none. grind (arith, common_steps);
        others = λ other apart. grind (arith, text_keys);
      },
    )

pub returns-then-fails-clause-puts : goal.returns-then-fails-clause-puts
returns-then-fails-clause-puts c = λ n. grind (arith, text_keys)

pub returns-clause-puts : goal.returns-clause-puts
returns-clause-puts c = λ n. grind (arith, text_keys)
