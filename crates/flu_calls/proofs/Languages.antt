-- Which words are whose.
use Rattle.std.proofs.Common.{◌≡◌, ℕ, Bool, true, false, [], ◌∷◌, Result, Ok, Err, refl, sym, ◌∙◌, IsTrue}
use Rattle.std.specs.Prelude.{◌||◌, if◌then◌else◌, codes}
use Rattle.std.specs.Str.{bytes_eq}
use Rattle.flu_words.specs.Words.{Command, command_in}
use Rattle.flu_words.specs.Parts.{PartCommand, is_part_call, LanguagesAreApart}
use Rattle.flu_calls.specs.Laws.{CommandsAreNoPartCalls, PartCommandsArePartCalls}

begins : (b c : Bool) (x y : Result PartCommand ℕ) (command : PartCommand) → (if b then x else if c then y else Err 0) ≡ Ok command → (b || c) ≡ true
begins true c x y command is = refl
begins false true x y command is = refl
begins false false x y command is = cc

-- a part command begins with one of the two words
pub part_words : PartCommandsArePartCalls
part_words [] command is = cc
part_words (w ∷ ws) command is = begins (bytes_eq w (codes "partial")) (bytes_eq w (codes "combine")) _ _ command is

none_of : (b : Bool) (r : Result Command ℕ) (command : Command) → (IsTrue b → r ≡ Err 0) → r ≡ Ok command → b ≡ false
none_of true r command apart is = let e = sym (apart refl) ∙ is in cc
none_of false r command apart is = refl

-- and none of the eight commands does
pub command_words : LanguagesAreApart → CommandsAreNoPartCalls
command_words apart words command is = none_of (is_part_call words) (command_in words) command (apart words) is
