use Rattle.std.proofs.Common.{◌∙◌, ◌∷◌, [], ap, sym}
use Rattle.std.specs.Str.{bytes_eq}
use Rattle.flu_lemmas.proofs.Searches.{list_any-map}
use Rattle.std.proofs.lemmas.List.{map-append}
use Rattle.flu_parse.proofs.NamingLemmas.{undeclared}
use Rattle.flu_parse.specs.Naming.{naming}
use Rattle.flu_parse.proofs.naming.add_source.Goals as goal

pub returns-in-Ok-clause-ok : goal.returns-in-Ok-clause-ok
returns-in-Ok-clause-ok c =
    let free = undeclared (naming c.args.names.now) c.args.name.now c.requires in
    let miss = sym (list_any-map (bytes_eq c.args.name.now) (λ k. k.now) c.args.names.now.sources.keys) ∙ free.2 in
    ap (λ names. record (naming c.args.names.now) { sources = names })
    (rw (c.in-Ok.ensures.keys, miss) (map-append (λ k. k.now) c.args.names.now.sources.keys (c.args.name ∷ [])))
