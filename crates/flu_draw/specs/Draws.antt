-- DRAWS: the run of numbers that a seed determines.
use Rattle.std.specs.Prelude.{ℕ, ◌+◌, ◌*◌, ◌/◌, ◌%◌, ◌^◌}

-- the number after x; the first one comes after the seed
unfoldable pub next_draw : ℕ → ℕ
next_draw x = (x * 1103515245 + 12345) % 2 ^ 31

-- what a number of the run draws: its upper bits, of which the lower ones repeat too soon
unfoldable pub draw_of : ℕ → ℕ
draw_of x = x / 65536
