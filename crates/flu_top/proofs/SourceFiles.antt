-- The file of a source that is no clock is among those of all.
use Rattle.std.proofs.Common.{◌≡◌, refl, ap, ℕ, Bool, true, false, List, [], ◌∷◌, ◌++◌, Some, None, if◌then◌else◌}
use Rattle.std.specs.Prelude.{Contains, slice_get}
use Rattle.std.specs.List.{cons_option}
use Rattle.flu_lemmas.proofs.Containing.{kept_at, kept_later}
use Rattle.flu_model.specs.declared.jobs.Source.{Source}
use Rattle.flu_model.specs.Rules.{is_clock, file_of_source}
use Rattle.flu_streams.specs.Files.{files_of}

-- the files of a source and others: its own first
pub own_file : (x : Source) (xs : List Source) → is_clock x ≡ false → files_of (x ∷ xs) ≡ x.file ∷ files_of xs
own_file x xs has = by (is_clock x) has
  where
    by : (b : Bool) → b ≡ false → cons_option (if b then None else Some x.file) (files_of xs) ≡ x.file ∷ files_of xs
    by true e = absurd cc
    by false e = refl

-- or none, of a clock
pub no_file_of : (x : Source) (xs : List Source) → is_clock x ≡ true → files_of (x ∷ xs) ≡ files_of xs
no_file_of x xs clock = by (is_clock x) clock
  where
    by : (b : Bool) → b ≡ true → cons_option (if b then None else Some x.file) (files_of xs) ≡ files_of xs
    by true e = refl
    by false e = absurd cc

own : (s : Source) → is_clock s ≡ false → file_of_source s ≡ Some s.file
own s has = ap (λ b. if b then None else Some s.file) has

-- by its number
pub file_is_named : (xs : List Source) (number : ℕ) (source : Source) → slice_get xs number ≡ Some source → is_clock source ≡ false
    → Contains (files_of xs) source.file
file_is_named xs number source is has = kept_at file_of_source xs number source source.file is (own source has)

-- and behind others
pub file_behind : (earlier later : List Source) (s : Source) → is_clock s ≡ false → Contains (files_of (earlier ++ (s ∷ later))) s.file
file_behind [] later s has = kept_at file_of_source (s ∷ later) 0 s s.file refl (own s has)
file_behind (x ∷ earlier) later s has = kept_later (file_of_source x) (files_of (earlier ++ (s ∷ later))) s.file (file_behind earlier later s has)
