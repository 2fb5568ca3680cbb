use Rattle.std.proofs.Common.{◌∙◌, sym, ap, position, subst}
use Rattle.std.specs.List.{AllByRecursion}
use Rattle.std.specs.Str.{bytes_eq, IsUtf8}
use Rattle.std.specs.String.{string_bytes}
use Rattle.flu_lemmas.proofs.Places.{position-map}
use Rattle.flu_model.proofs.NameLemmas.{other_bytes}
use Rattle.flu_model.proofs.numbering.NameTexts.number.Goals as goal

pub returns-in-Ok : goal.returns-in-Ok
returns-in-Ok c =
    let keys = c.self.inside.texts.keys in
    c.get_index_of.ensures.index
    ∙ ap (λ bytes. position (λ k. bytes_eq bytes (string_bytes k)) keys) c.in-Ok.ensures.cases.0
    ∙ sym (position-map (bytes_eq c.args.text.now) string_bytes keys)
    ∙ ap (position (bytes_eq c.args.text.now)) c.self.view_is

pub returns-in-Err : goal.returns-in-Err
returns-in-Err c =
    sym (other_bytes c.args.text.now c.args.self.now (subst (AllByRecursion IsUtf8) c.self.view_is c.self.invariant.0) c.in-Err.ensures.cases.0)
