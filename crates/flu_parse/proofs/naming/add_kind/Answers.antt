use Rattle.std.proofs.Common.{◌∙◌, map, ap}
use Rattle.flu_parse.proofs.NamingLemmas.{insert_new, undeclared}
use Rattle.flu_parse.specs.Naming.{naming}
use Rattle.flu_parse.proofs.naming.add_kind.Goals as goal

pub returns-in-Ok-clause-ok : goal.returns-in-Ok-clause-ok
returns-in-Ok-clause-ok c =
    let free = undeclared (naming c.args.names.now) c.args.name.now c.requires in
    ap (λ heads. record (naming c.args.names.now) { kinds = heads })
    (ap (map (λ e. (e.0.now, e.1))) c.in-Ok.ensures.entries ∙ insert_new (λ k. k.now) c.args.name c.args.head c.args.names.now.kinds.entries free.1)
