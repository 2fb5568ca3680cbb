-- ONE ENDING A TRACE: what workers use of a job, a plan and streams, and the bytes of a trace, determine how its replay ends.
use Rattle.std.specs.Prelude.{◌≡◌, ℕ, List}
use Rattle.flu_fork.specs.declared.content.Content.{Content}
use Rattle.flu_net.specs.Alike.{view_in}
use Rattle.flu_trace.specs.Replaying.{Ending, IsReplayed}

abbrev pub OneEnding : Type 0
OneEnding = (k j : Content) (bytes : List ℕ) (a b : Ending) → view_in j ≡ view_in k → IsReplayed k bytes a → IsReplayed j bytes b → a ≡ b
