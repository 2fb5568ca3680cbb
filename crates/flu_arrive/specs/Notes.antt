-- What the ends of the arrival words know.
use Rattle.std.specs.Prelude.{ℕ, Bool, true, false, List, map}
use Rattle.flu_arrive.specs.declared.note.Note.{Note}

-- what contracts see of a feeder: how many items each itag has, and how many it counted in
pub record FeederNote : Type 0 where
  pub limits : List ℕ
  pub counts : List ℕ

-- what contracts see of a watch: how many items each itag has, the numbers that it found last, and how many looks it took
pub record WatchNote : Type 0 where
  pub limits : List ℕ
  pub noted : List ℕ
  pub looks : ℕ

abbrev pub zeros : List ℕ → List ℕ
zeros = map (λ n. 0)

-- a watch that has not looked yet
abbrev pub unseen : List ℕ → WatchNote
unseen limits = record { limits = limits; noted = zeros limits; looks = 0 }

abbrev pub note : Bool → List ℕ → List ℕ → ℕ → Note
note feeds limits counts looks = record { feeds = feeds; limits = limits; counts = counts; looks = looks }

abbrev pub feeding : List ℕ → Note
feeding limits = note true limits (zeros limits) 0

abbrev pub watching : List ℕ → Note
watching limits = note false limits (zeros limits) 0
