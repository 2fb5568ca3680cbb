use Rattle.std.proofs.Common.{map, string_bytes}
use Rattle.flu_words.specs.Parts.{plain_part}
use Rattle.flu_parts.proofs.Outcomes.{ends_command, only_wider}
use Rattle.flu_parts.proofs.SomePartials.{some_named}
use Rattle.flu_parts.proofs.top.do_words.Goals as goal

pub run-requires : goal.run-requires
run-requires g c = some_named (plain_part c.in-Ok.command) (map string_bytes c.args.words.now) c.in-Ok.ensures

pub returns-in-Ok-clause-ends : goal.returns-in-Ok-clause-ends
returns-in-Ok-clause-ends g c = ends_command (map string_bytes c.args.words.now) _ (plain_part c.in-Ok.command) c.run.result c.in-Ok.ensures c.run.ensures.ends

pub returns-in-Ok-clause-only : goal.returns-in-Ok-clause-only
returns-in-Ok-clause-only g c = only_wider (map string_bytes c.args.words.now) (plain_part c.in-Ok.command) _ _ c.in-Ok.ensures c.run.ensures.only
