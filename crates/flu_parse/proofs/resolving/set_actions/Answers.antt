use Rattle.std.proofs.Common.{arith}
use Rattle.flu_parse.proofs.ResolveLemmas.{set_kind, no_kind}
use Rattle.flu_parse.proofs.resolving.set_actions.Goals as goal

pub returns-then-place-len : goal.returns-then-place-len
returns-then-place-len c =
    set_kind c.args.kinds.now.items c.args.number c.index_mut.result.now c.args.actions (omega arith) c.index_mut.ensures.value

pub returns-else-place-len : goal.returns-else-place-len
returns-else-place-len c = no_kind c.args.kinds.now.items c.args.number c.args.actions (omega arith)
