-- The rule of the arrival words, which holds between any two steps.
use Rattle.std.specs.Prelude.{◌≡◌, ℕ, ◌+◌, ◌^◌, ◌<◌, ◌≤◌, true, false, List, [], ◌∷◌, length, slice_index}
use mathlib.Core.Option.{some}
use lib.ListN.{get_elem?}
use Rattle.atomic_table.specs.Table.{State, Me}
use Rattle.atomic_table.specs.Seated.{TableId}
use Rattle.flu_arrive.specs.declared.note.Note.{Note}

-- what a note says, where the words are these counts
pub record Knows (limits counts : List ℕ) (feeder seat : ℕ) (v : Note) : Type 0 where
  pub limits_are : v.limits ≡ limits
  pub long : length v.counts ≡ length limits
  -- only one seat feeds, and it knows the words
  pub feeds : v.feeds ≡ true → (seat ≡ feeder) × (v.counts ≡ counts)
  -- what a watch noted is at most the word
  pub watches : v.feeds ≡ false → (i : ℕ) → slice_index v.counts i ≤ slice_index counts i

-- word 0 is 0, and each further word is the feeder's count and at most its limit
pub record Kept (limits : List ℕ) (s : State (Unit {0}) Note) : Type 0 where
  pub feeder : ℕ
  pub counts : List ℕ
  pub words_are : s.words ≡ 0 ∷ counts
  pub long : length counts ≡ length limits
  pub below : (i : ℕ) → slice_index counts i ≤ slice_index limits i
  pub each : (seat : ℕ) (v : Note) → get_elem? s.views seat ≡ some v → Knows limits counts feeder seat v

abbrev pub Sat : Type 0
Sat = Me (Unit {0}) Note

-- the seat is at this table, which has a word for each limit and one more, and it has no slot
pub record IsPlaced (table mine : TableId) (me : Sat) : Type 0 where
  pub here : mine ≡ table
  pub wide : table.words ≡ length me.0.limits + 1
  pub long : length me.0.counts ≡ length me.0.limits
  pub fits : (i : ℕ) → slice_index me.0.limits i < 2 ^ 64
  pub bare : me.1 ≡ []
