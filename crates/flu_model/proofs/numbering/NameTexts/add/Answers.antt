use Rattle.std.proofs.Common.{◌∙◌, sym, ap, subst, map, not}
use Rattle.std.specs.List.{list_any}
use Rattle.std.specs.Str.{bytes_eq, IsUtf8}
use Rattle.std.specs.String.{string_bytes}
use Rattle.flu_lemmas.proofs.Searches.{list_any-map}
use Rattle.flu_model.proofs.NameLemmas.{AreTexts, texts_still}
use Rattle.flu_model.proofs.numbering.NameTexts.add.Goals as goal

pub returns-clause-told : goal.returns-clause-told
returns-clause-told c =
    let keys = c.self.inside.texts.keys in
    c.in_ok-added.ensures.added
    ∙ ap (λ bytes. not (list_any (λ k. bytes_eq bytes (string_bytes k)) keys)) c.in_ok-text.ensures.ok
    ∙ ap not (sym (list_any-map (bytes_eq c.args.text.now) string_bytes keys))
    ∙ ap (λ ts. not (list_any (bytes_eq c.args.text.now) ts)) c.self.view_is

pub invariant_of-self-2 : goal.invariant_of-self-2
invariant_of-self-2 c =
    subst (λ keys. AreTexts (map string_bytes keys)) (sym c.in_ok-added.ensures.keys)
    (texts_still string_bytes c.in_ok-text.text c.self.inside.texts.keys c.self.invariant (subst IsUtf8 (sym c.in_ok-text.ensures.ok) c.utf8.text))
