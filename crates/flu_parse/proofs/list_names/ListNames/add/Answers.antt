use Rattle.std.proofs.Common.{◌∙◌, ◌∷◌, ◌++◌, [], ap, sym, map}
use Rattle.std.specs.Prelude.{if◌then◌else◌}
use Rattle.std.specs.List.{list_any}
use Rattle.std.specs.Str.{bytes_eq}
use Rattle.std.proofs.lemmas.List.{map-append}
use Rattle.flu_lemmas.proofs.Searches.{list_any-map}
use Rattle.flu_parse.proofs.list_names.ListNames.add.Goals as goal

pub returns : goal.returns
returns c =
    let keys = c.self.inside.names.keys in
    let name = c.args.name in
    let miss = sym (list_any-map (bytes_eq name.now) (λ k. k.now) keys) ∙ ap (list_any (bytes_eq name.now)) c.self.view_is ∙ c.requires.fresh in
    ap (map (λ k. k.now)) (c.in_ok-insert.ensures.keys ∙ ap (λ b. if b then keys else keys ++ name ∷ []) miss)
    ∙ map-append (λ k. k.now) keys (name ∷ []) ∙ ap (λ l. l ++ name.now ∷ []) c.self.view_is
