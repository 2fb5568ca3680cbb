-- The one tag of a clock.
use Rattle.std.proofs.Common.{◌≡◌, ℕ, List, [], ◌∷◌, Ok, Err, ap, subst}
use Rattle.flu_model.specs.declared.jobs.TagRef.{TagRef}
use Rattle.flu_syntax.specs.declared.tree.WrittenTag.{WrittenTag}
use Rattle.flu_parse.specs.declared.faults.JobFault.{JobFault}
use Rattle.flu_parse.specs.Faults.{Found, Fails, ◌>>=◌, each}
use Rattle.flu_parse.specs.Naming.{Naming}
use Rattle.flu_parse.specs.Listings.{Listed, with_tag, tags_of}

module _ (text : List ℕ) (n : Naming) (itags : ℕ) (t : WrittenTag) where
  abbrev nothing : Listed
  nothing = record { tags = []; itags = itags }

  pub one_listed : (l : Listed) → with_tag text n nothing t ≡ Ok l → tags_of text n itags (t ∷ []) ≡ Ok l
  unfolding each
  one_listed l e = ap (λ (r : Found Listed). r >>= λ s. each (with_tag text n) s []) e

  pub one_refused : (e : JobFault) → with_tag text n nothing t ≡ Err e → tags_of text n itags (t ∷ []) ≡ Err e
  unfolding each
  one_refused e h = ap (λ (r : Found Listed). r >>= λ s. each (with_tag text n) s []) h

pub step_refused : (text : List ℕ) (n : Naming) (itags : ℕ) (t : WrittenTag) (items : List TagRef) (e : JobFault) → items ≡ []
    → Fails e (with_tag text n (record { tags = items; itags = itags }) t) → Fails e (with_tag text n (record { tags = []; itags = itags }) t)
step_refused text n itags t items e none h =
    subst (λ (xs : List TagRef). Fails e (with_tag text n (record { tags = xs; itags = itags }) t)) none h
