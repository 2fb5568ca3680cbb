-- What a search from an itag finds.
use Rattle.std.specs.Prelude.{◌≡◌, ℕ, ◌+◌, ◌<◌, Bool, false, nat_lt, List, length, Contains, IsTrue}
use Rattle.flu_lemmas.specs.Counting.{times}
use Rattle.flu_planner.specs.Graphs.{Graph, AreConnected, is_rising, least, total_rate}

-- a component has a greater total rate than another
abbrev pub has_greater_total : List ℕ → List ℕ → List ℕ → Bool
has_greater_total rates a b = nat_lt (total_rate rates b) (total_rate rates a)

-- some itags are connected with the first, and none of them has a neighbour among the rest
pub record IsReached (g : Graph) (itags connected rest : List ℕ) : Type 0 where
  pub parts : (k : ℕ) → times k connected + times k rest ≡ times k itags
  pub start : Contains connected (least itags)
  pub walks : (k : ℕ) → Contains connected k → AreConnected g itags (least itags) k
  pub cut : (i k : ℕ) → Contains connected i → Contains rest k → g i k ≡ false
  pub in_order : IsTrue (is_rising rest)
  pub fewer : length rest < length itags
