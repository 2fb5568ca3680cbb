-- THE LINES OF A TRACE: how a step is written, by its word, by the number of its itag or worker and, for a step over an edge, by the side of the child.
use Rattle.std.specs.Prelude.{◌≡◌, ℕ, ◌<◌, List, ◌++◌, codes}
use Rattle.std.specs.Fmt.{decimal}
use Rattle.flu_worker.specs.declared.hand.Side.{Side}
use Rattle.flu_worker.specs.declared.hand.Side.TheVariants.{Left, Right}
use Rattle.flu_net.specs.declared.steps.Step.{Step}
use Rattle.flu_net.specs.declared.steps.Step.TheVariants.{Arrive, Handle, Ask, Take, Give, Hold, Lend}

-- the number of the itag or of the worker
abbrev pub number_of : Step → ℕ
number_of (Arrive i) = i.0
number_of (Handle w) = w
number_of (Ask w s) = w
number_of (Take w s) = w
number_of (Give w) = w
number_of (Hold w) = w
number_of (Lend w s) = w

abbrev pub side_text : Side → List ℕ
side_text Left = codes " left"
side_text Right = codes " right"

abbrev pub line_of : Step → List ℕ
line_of (Arrive i) = codes "arrive " ++ decimal i.0
line_of (Handle w) = codes "handle " ++ decimal w
line_of (Ask w s) = codes "ask " ++ (decimal w ++ side_text s)
line_of (Take w s) = codes "take " ++ (decimal w ++ side_text s)
line_of (Give w) = codes "give " ++ decimal w
line_of (Hold w) = codes "hold " ++ decimal w
line_of (Lend w s) = codes "lend " ++ (decimal w ++ side_text s)

-- a good line: the line of a step whose number has at most three digits. No such line has more than 24 bytes.
pub record IsLineOf (s : Step) (line : List ℕ) : Type 0 where
  pub number : number_of s < 1000
  pub is : line ≡ line_of s
