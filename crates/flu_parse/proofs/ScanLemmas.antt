-- One byte more of a template.
use Rattle.std.proofs.Common.{◌≡◌, ℕ, suc, ◌+◌, ◌<◌, ◌≤◌, List, length, drop, get_or, Option, Some, None, Bool, true, false, ap, sym, ◌∙◌, add-one}
use Rattle.std.proofs.Math.Seq.{drop-cons}
use Rattle.std.proofs.lemmas.List.{drop_all}
use Rattle.flu_parse.specs.declared.pieces.WrittenPiece.{WrittenPiece}
use Rattle.flu_parse.specs.Scans.{Steps}
use Rattle.flu_parse.specs.Templates.{Scan, scan_byte, scan, continued, end_of_scan}

module _ (field : ℕ → ℕ → Option WrittenPiece) where
  pub scan-next : (s t : Scan) (place : ℕ) (bs : List ℕ) (i : ℕ) → i < length bs → scan_byte field s place (get_or bs i 0) ≡ Some t
      → scan field s place (drop i bs) ≡ scan field t (place + 1) (drop (i + 1) bs)
  unfolding scan
  scan-next s t place bs i lt found =
      ap (scan field s place) (drop-cons bs i 0 lt)
      ∙ ap (λ r. continued s r (λ next. scan field next (place + 1) (drop (suc i) bs))) found
      ∙ ap (λ j. scan field t (place + 1) (drop j bs)) (sym (add-one i))

  pub scan-fault : (s : Scan) (place : ℕ) (bs : List ℕ) (i : ℕ) → i < length bs → scan_byte field s place (get_or bs i 0) ≡ None
      → scan field s place (drop i bs) ≡ record { pieces = s.pieces; whole = false }
  unfolding scan
  scan-fault s place bs i lt found =
      ap (scan field s place) (drop-cons bs i 0 lt)
      ∙ ap (λ r. continued s r (λ next. scan field next (place + 1) (drop (suc i) bs))) found

  pub scan-end : (s : Scan) (place : ℕ) (bs : List ℕ) (i : ℕ) → length bs ≤ i → scan field s place (drop i bs) ≡ end_of_scan s place
  unfolding scan
  scan-end s place bs i past = ap (scan field s place) (drop_all i bs past)

pub goes_on : (b : Bool) (old new : Scan) (found : Option Scan) → b ≡ true → Steps b old new found → found ≡ Some new
goes_on true old new found e h = h
goes_on false old new found e h = absurd (cc)

pub stops : (b : Bool) (old new : Scan) (found : Option Scan) → b ≡ false → Steps b old new found → (found ≡ None) × (new.pieces ≡ old.pieces)
stops true old new found e h = absurd (cc)
stops false old new found e h = h
