use Rattle.std.proofs.Common.{map, string_bytes}
use Rattle.flu_words.specs.Words.{plain_command}
use Rattle.flu_top.proofs.Endings.{ends_command, fronts_wider, only_wider}
use Rattle.flu_top.proofs.top.do_words.Goals as goal

pub returns-in-Ok-clause-ends : goal.returns-in-Ok-clause-ends
returns-in-Ok-clause-ends g c = ends_command (map string_bytes c.args.words.now) _
    (plain_command c.in-Ok.command) c.run.result c.in-Ok.ensures c.run.ensures.ends

pub returns-in-Ok-clause-fronts : goal.returns-in-Ok-clause-fronts
returns-in-Ok-clause-fronts g c = fronts_wider (map string_bytes c.args.words.now) (plain_command c.in-Ok.command) _ _ _ c.in-Ok.ensures c.run.ensures.fronts

pub returns-in-Ok-clause-only : goal.returns-in-Ok-clause-only
returns-in-Ok-clause-only g c = only_wider (map string_bytes c.args.words.now) (plain_command c.in-Ok.command) _ _ _ c.in-Ok.ensures c.run.ensures.only
