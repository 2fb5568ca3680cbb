use Rattle.std.proofs.Common.{sym, ◌∙◌, ◌∷◌, []}
use Rattle.std.proofs.lemmas.List.{map-append}
use Rattle.std.specs.Str.{bytes_eq}
use Rattle.flu_lemmas.proofs.Searches.{list_any-map}
use Rattle.flu_plan.proofs.resolving.add_name.Goals as goal

pub returns-in-Ok-clause-ok : goal.returns-in-Ok-clause-ok
returns-in-Ok-clause-ok c =
    let miss = sym (list_any-map (bytes_eq c.args.name.now) (λ k. k.now) c.args.names.now.keys) ∙ c.requires in
    rw (c.in-Ok.ensures.keys, miss) (map-append (λ k. k.now) c.args.names.now.keys (c.args.name ∷ []))
