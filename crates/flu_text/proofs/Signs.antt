-- Signs stand for tokens.
use Rattle.std.proofs.Common.{[], ◌∷◌}
use Rattle.flu_lemmas.proofs.Containing.{contains_here, contains_later}
use Rattle.flu_lemmas.proofs.Elements.{all_map}
use Rattle.flu_text.specs.Signs.{Stands}
use Rattle.flu_text.specs.Laws.{SignsStand}

-- each sign stands for a token
pub signs_stand : SignsStand
signs_stand tokens [] are = tt
signs_stand [] (s ∷ signs) are = absurd are
signs_stand (t ∷ tokens) (s ∷ signs) are = (
  (t, contains_here t tokens, are.0),
  all_map (Stands tokens) (Stands (t ∷ tokens)) signs (λ s h. (h.0, contains_later t h.0 tokens h.1, h.2)) (signs_stand tokens signs are.1),
)
