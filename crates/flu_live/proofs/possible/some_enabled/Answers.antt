use Rattle.flu_live.proofs.Nothing.{found_on, none_final}
use Rattle.flu_live.proofs.possible.some_enabled.Goals as goal

pub returns-clause-enabled : goal.returns-clause-enabled
returns-clause-enabled c = found_on c.args.net.now c.first_possible-found.result c.first_possible-found.ensures.some

pub returns-clause-none : goal.returns-clause-none
returns-clause-none c =
    none_final c.args.net.now c.first_possible-found.result c.rule.ensures c.never_blocks.ensures c.first_possible-found.ensures.some
    c.first_possible-found.ensures.none
