use Rattle.flu_rules.proofs.TagLemmas.{share_where_same_kind, none_of_other_kind}
use Rattle.flu_rules.proofs.tags.share_tag.Goals as goal

pub returns-then-a-b : goal.returns-then-a-b
returns-then-a-b c = share_where_same_kind c.args.a.now c.args.b.now c.max.result c.min.result c.if-a-b.true (cc) (cc)

pub returns-else-a-b : goal.returns-else-a-b
returns-else-a-b c = none_of_other_kind c.args.a.now c.args.b.now c.if-a-b.false
