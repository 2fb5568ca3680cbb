use Rattle.std.proofs.Common.{◌∙◌}
use Rattle.flu_parse.proofs.NamingLemmas.{lookup_by_bytes}
use Rattle.flu_parse.proofs.naming.find_family.Goals as goal

pub returns : goal.returns
returns c = c.copied.ensures ∙ c.get.ensures.value ∙ lookup_by_bytes (λ k. k.now) c.args.name.now c.args.names.now.families.entries
