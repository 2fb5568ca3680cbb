-- A map of tags' texts after one more tag.
use Rattle.std.proofs.Common.{◌≡◌, ℕ, true, false, cond, Some, List, refl, sym, ap, subst, ◌∙◌}
use Rattle.std.specs.Prelude.{IsSome, IfSome}
use Rattle.std.specs.BTreeMap.{BTreeMap, get, Updates}
use Rattle.std.specs.Cmp.{Equal-is}
use Rattle.std.specs.FinMap.{nat_cmp-IsAntisymmetric}
use Rattle.std.specs.Ordering.{nat_cmp, is_eq}
use Rattle.flu_lemmas.proofs.Sorting.{both_equal}
use Rattle.flu_model.specs.declared.events.Tag.{Tag}
use Rattle.flu_model.specs.declared.jobs.Program.{Program}
use Rattle.flu_model.specs.Reports.{text_of_tag}
use Rattle.flu_report.specs.Tagging.{tag_cmp, HasTexts}

same_tag : (a b : Tag) → is_eq (tag_cmp a b) ≡ true → a ≡ b
same_tag a b e =
    let parts = both_equal (nat_cmp a.kind b.kind) (nat_cmp a.key b.key) ((Equal-is (tag_cmp a b)).0 e) in
    let kind : a.kind ≡ b.kind = nat_cmp-IsAntisymmetric a.kind b.kind parts.0 in
    let key : a.key ≡ b.key = nat_cmp-IsAntisymmetric a.key b.key parts.1 in
    λ i. record { kind = kind i; key = key i }

pub texts_more : (p : Program) (old new : BTreeMap Tag (List ℕ)) (tag : Tag) → HasTexts p old → Updates tag_cmp old new tag (Some (text_of_tag p tag))
    → HasTexts p new
texts_more p old new tag texts more = λ t.
    elim (is_eq (tag_cmp tag t)) as (λ b. is_eq (tag_cmp tag t) ≡ b → IfSome (get tag_cmp new t) (λ text. text ≡ text_of_tag p t)) [
      | true ↦ λ e. subst (λ o. IfSome o (λ text. text ≡ text_of_tag p t)) (sym (more.0 t ∙ ap (λ b. cond b (Some (text_of_tag p tag)) (get tag_cmp old t)) e))
          (ap (text_of_tag p) (same_tag tag t e))
      | false ↦ λ e. subst (λ o. IfSome o (λ text. text ≡ text_of_tag p t)) (sym (more.2 t e)) (texts t)
    ] refl

pub stays_there : (old new : BTreeMap Tag (List ℕ)) (tag : Tag) (text : List ℕ) → Updates tag_cmp old new tag (Some text) → (q : Tag)
    → IsSome (get tag_cmp old q) → IsSome (get tag_cmp new q)
stays_there old new tag text more q there =
    elim (is_eq (tag_cmp tag q)) as (λ b. is_eq (tag_cmp tag q) ≡ b → IsSome (get tag_cmp new q)) [
      | true ↦ λ e. subst (λ o. IsSome o) (sym (more.0 q ∙ ap (λ b. cond b (Some text) (get tag_cmp old q)) e)) refl
      | false ↦ λ e. subst (λ o. IsSome o) (sym (more.2 q e)) there
    ] refl
