use Rattle.std.proofs.Common.{sym, ◌∙◌}
use Rattle.std.specs.Str.{bytes_eq}
use Rattle.flu_lemmas.proofs.Searches.{list_any-map}
use Rattle.flu_plan.proofs.resolving.is_named.Goals as goal

pub returns : goal.returns
returns c = c.contains.ensures ∙ sym (list_any-map (bytes_eq c.args.name.now) (λ k. k.now) c.args.names.now.keys)
