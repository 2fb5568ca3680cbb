use Rattle.std.proofs.Common.{◌≡◌, ◌+◌, ◌-◌, ◌&&◌, Bool, false, ap, sym, ◌∙◌}
use Rattle.std.specs.Prelude.{codes, if◌then◌else◌}
use Rattle.std.specs.Str.{bytes_eq}
use Rattle.flu_lemmas.specs.Spans.{spelled}
use Rattle.flu_lemmas.proofs.Booleans.{and_false}
use Rattle.flu_names.specs.Names.{is_name}
use Rattle.flu_parse.specs.Templates.{ref_with}
use Rattle.flu_parse.proofs.fields.ref_with_key.Goals as goal
use Rattle.flu_parse.proofs.fields.ref_with_key.Goals.{else-is_name-via-then-is_name+else-eq, else-is_name-via-else-is_name}

-- what is not chosen
unchosen : {X : Type 0} (b : Bool) (x y : X) → b ≡ false → y ≡ (if b then x else y)
unchosen b x y e = sym (ap (λ b. if b then x else y) e)

pub returns-else-is_name : goal.returns-else-is_name
unfolding ref_with
returns-else-is_name c =
    let text = c.args.text.now in
    let named = is_name (spelled text c.args.from (c.args.from + c.args.bracket)) in
    let closed = bytes_eq (spelled text (c.args.to - 1) c.args.to) (codes "]") in
    let name_is : named ≡ c.is_name.result = ap is_name (sym c.spelled.ensures.value) ∙ sym c.is_name.ensures in
    let none : (named && closed) ≡ false = elim c.else-is_name.branch [
      | else-is_name-via-then-is_name+else-eq w ↦
          ap (λ b. named && b) (
          ap (λ k. bytes_eq (spelled text k c.args.to) (codes "]")) (sym w.saturating_sub.ensures)
          ∙ ap (λ s. bytes_eq s (codes "]")) (sym w.spelled-then-is_name.ensures.value)
          ∙ sym w.eq.ensures
          ∙ w.if-eq.false
          )
          ∙ and_false named
      | else-is_name-via-else-is_name w ↦ ap (λ b. b && closed) (name_is ∙ w.if-is_name.false)
    ] in
    unchosen (named && closed) _ _ none
