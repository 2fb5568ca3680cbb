-- Names that are not there share one count, of files of which some names are closed too.
use Rattle.std.proofs.Common.{◌≡◌, ◌∙◌, refl, sym, ap, ℕ, List, Option, Some, None, false, cond}
use Rattle.std.specs.Prelude.{IsSome, is_some, option_map}
use Rattle.std.specs.Option.{option_or}
use Rattle.flu_outside.specs.Outside.{Contents, ShareOneCount}
use Rattle.flu_selected.specs.Selecting.{with_closed, counts_beside}

-- what is neither closed nor there
neither : (line was : Option (List ℕ)) → ¬ IsSome (option_or line was) → (is_some line ≡ false) × (¬ IsSome was)
neither None was absent = (refl, absent)
neither (Some bytes) was absent = absurd (absent refl)

pub share_beside : (left : Option Contents) (lines : Contents) (counts : List ℕ → ℕ) → ShareOneCount left counts
    → ShareOneCount (option_map (with_closed lines) left) (counts_beside left lines counts)
share_beside None lines counts shared a b no_a no_b = shared a b no_a no_b
share_beside (Some left) lines counts shared a b no_a no_b =
    let first = neither (lines a) (left a) no_a in
    let second = neither (lines b) (left b) no_b in
    ap (λ closed. cond closed 0 (counts a)) first.0 ∙ shared a b first.1 second.1 ∙ sym (ap (λ closed. cond closed 0 (counts b)) second.0)

pub share_puts : (left : Option Contents) (lines : Contents) (counts : List ℕ → ℕ) → ShareOneCount left counts
    → ShareOneCount (option_map (with_closed lines) left) counts
share_puts None lines counts shared a b no_a no_b = shared a b no_a no_b
share_puts (Some left) lines counts shared a b no_a no_b =
    shared a b (neither (lines a) (left a) no_a).1 (neither (lines b) (left b) no_b).1
