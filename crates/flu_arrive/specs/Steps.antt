-- What each step on the arrival words says: of the step, the seat before, the number found or stored, and the seat after.
use Rattle.std.specs.Prelude.{◌≡◌, ℕ, ◌+◌, ◌-◌, ◌≤◌, slice_index, slice_set}
use Rattle.atomic_table.specs.Table.{Step}
use Rattle.flu_arrive.specs.Notes.{note}
use Rattle.flu_arrive.specs.Rule.{Sat}

-- the feeder stored the number
abbrev pub fed : Step (Unit {0}) → Sat → ℕ → Sat → Type 0
fed st m n m' = m' ≡ (note m.0.feeds m.0.limits (slice_set m.0.counts (st.word - 1) n) m.0.looks, m.1)

-- one more look, which noted the number found: at most the limit, and not below what was noted before
abbrev pub looked : Step (Unit {0}) → Sat → ℕ → Sat → Type 0
looked st m n m' =
    (m' ≡ (note m.0.feeds m.0.limits (slice_set m.0.counts (st.word - 1) n) (m.0.looks + 1), m.1))
    × (n ≤ slice_index m.0.limits (st.word - 1))
    × (slice_index m.0.counts (st.word - 1) ≤ n)
