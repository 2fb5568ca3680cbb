use Rattle.std.proofs.Common.{◌∙◌, sym, ap, position}
use Rattle.std.specs.Str.{bytes_eq}
use Rattle.flu_lemmas.proofs.Places.{position-map}
use Rattle.flu_parse.proofs.list_names.ListNames.number.Goals as goal

pub returns-in-Some : goal.returns-in-Some
returns-in-Some c =
    c.in-Some.ensures.index ∙ sym (position-map (bytes_eq c.args.name.now) (λ k. k.now) c.self.inside.names.keys)
    ∙ ap (position (bytes_eq c.args.name.now)) c.self.view_is

pub returns-in-None : goal.returns-in-None
returns-in-None c =
    c.in-None.ensures.index ∙ sym (position-map (bytes_eq c.args.name.now) (λ k. k.now) c.self.inside.names.keys)
    ∙ ap (position (bytes_eq c.args.name.now)) c.self.view_is
