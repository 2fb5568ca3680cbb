-- The words of keys: they are laid out as the keys' text.
use Rattle.std.proofs.Common.{◌^◌, ℕ, pos, List, [], ◌∷◌, refl, append_assoc, arith}
use Rattle.std.specs.Prelude.{nat_lt}
use Rattle.flu_lemmas.proofs.Tests.{and_left, and_right}
use Rattle.flu_lemmas.proofs.Numbers.{lt_wider}
use Rattle.flu_text.specs.declared.words.Mark.TheVariants as m
use Rattle.flu_text.specs.Layout.{Piece}
use Rattle.flu_model.specs.declared.jobs.Keys.TheVariants as keys
use Rattle.flu_model.specs.Contents.{key_count}
use Rattle.flu_layout.specs.Laid.{mark, AreLaid, laid_number, laid_mark, Follows}
use Rattle.flu_layout.specs.Laws.{KeysAreSpelled, KeysAreLaid}

pub keys_are_spelled : KeysAreSpelled
keys_are_spelled keys.Alone behind rest = refl
keys_are_spelled (keys.One k) behind rest = simp append_assoc
keys_are_spelled (keys.Range low high) behind rest = simp append_assoc

close : (behind : List ℕ) (rest : List Piece) → Follows behind rest → AreLaid (mark m.CloseBracket behind ∷ rest)
close behind rest f = laid_mark m.CloseBracket behind rest (λ b. refl) f.blank f.laid

pub keys_are_laid : KeysAreLaid
keys_are_laid keys.Alone behind rest small f = f
keys_are_laid (keys.One k) behind rest small f =
    let key = laid_number (pos k) [] (mark m.CloseBracket behind ∷ rest) (lt_wider k key_count (2 ^ 63) (omega arith) small) refl refl (close behind rest f) in
    record { blank = refl; ends = refl; laid = laid_mark m.OpenBracket [] _ (λ b. refl) refl key }
keys_are_laid (keys.Range low high) behind rest small f =
    let last = laid_number (pos high) [] (mark m.CloseBracket behind ∷ rest)
    (lt_wider high key_count (2 ^ 63) (omega arith) (and_right (nat_lt low key_count) (nat_lt high key_count) small)) refl refl (close behind rest f) in
    let dots = laid_mark m.Dots [] _ (λ b. refl) refl last in
    let first = laid_number (pos low) [] _ (lt_wider low key_count (2 ^ 63) (omega arith)
    (and_left (nat_lt low key_count) (nat_lt high key_count) small)) refl refl dots in
    record { blank = refl; ends = refl; laid = laid_mark m.OpenBracket [] _ (λ b. refl) refl first }
