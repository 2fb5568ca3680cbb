use Rattle.std.proofs.Common.{subst, Some, List, ℕ}
use Rattle.std.specs.BTreeMap.{Updates}
use Rattle.flu_report.specs.Tagging.{tag_cmp}
use Rattle.flu_report.proofs.TagLemmas.{texts_more, stays_there}
use Rattle.flu_report.proofs.tags.add_tag.Goals as goal

pub returns-clause-texts : goal.returns-clause-texts
returns-clause-texts c = texts_more c.args.p.now c.args.tags.now c.insert.new.self c.args.tag c.requires
    (subst (λ (text : List ℕ). Updates tag_cmp c.args.tags.now c.insert.new.self c.args.tag (Some text)) c.in_ok-text.ensures c.in_ok-insert.ensures.updates)

pub returns-clause-stay : goal.returns-clause-stay
returns-clause-stay c = stays_there c.args.tags.now c.insert.new.self c.args.tag c.in_ok-text.text c.in_ok-insert.ensures.updates
