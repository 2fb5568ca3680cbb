-- A plan text: the looks at it, in their order.
use Rattle.std.specs.Prelude.{ℕ, nat_le, List, length, Ok, Err}
use Rattle.std.specs.Str.{is_utf8}
use Rattle.std.specs.Str.Lossy.{utf8_valid_len}
use Rattle.flu_model.specs.declared.limits.What.TheVariants.{Bytes}
use Rattle.flu_model.specs.declared.jobs.Program.{Program}
use Rattle.flu_model.specs.declared.plans.Node.{Node}
use Rattle.flu_text.specs.declared.words.Token.{Token}
use Rattle.flu_text.specs.Reading.{reading, Reading as TokenReading}
use Rattle.flu_plan.specs.declared.fault.PlanFault.TheVariants as f
use Rattle.flu_plan.specs.declared.written.WrittenNode.{WrittenNode}
use Rattle.flu_plan.specs.declared.drafts.DraftNode.{DraftNode}
use Rattle.flu_plan.specs.Faults.{Found, ◌>>=◌, ◌>>◌, unless}
use Rattle.flu_plan.specs.Machine.{written_in}
use Rattle.flu_plan.specs.Resolving.{names_of, nodes_of}
use Rattle.flu_plan.specs.Shape.{children_of, preorder, all_below}
use Rattle.flu_plan.specs.Limits.{within_limits}
use Rattle.flu_plan.specs.Numbering.{planned}

-- the bytes if they are UTF-8
abbrev pub text_in : List ℕ → Found (List ℕ)
text_in bytes = do
  unless (is_utf8 bytes) (f.BadToken (utf8_valid_len bytes))
  Ok bytes

abbrev pub found_tokens : TokenReading → Found (List Token)
found_tokens (Ok ts) = Ok ts
found_tokens (Err at) = Err (f.BadToken at)

abbrev pub tokens_in : List ℕ → Found (List Token)
tokens_in text = found_tokens (reading text)

-- the plan that nodes are: no node is a child twice, all are below the root, and they are within the limits
unfoldable pub tree_in : List ℕ → List DraftNode → Found (List Node)
tree_in text nodes = do
  children_of text nodes
  all_below text (preorder nodes) nodes
  within_limits (preorder nodes) nodes
  Ok (planned text (preorder nodes) nodes)

-- the plan of written nodes: their own names differ, and all other names are known
unfoldable pub resolved : Program → List ℕ → List WrittenNode → Found (List Node)
resolved p text written = do
  names ← names_of text written
  nodes ← nodes_of p text names written
  tree_in text nodes

-- the nodes of the plan of a text, or the first fault: bytes, UTF-8, tokens, grammar, and then the looks at the nodes
unfoldable pub plan_in : Program → List ℕ → Found (List Node)
plan_in p bytes = do
  unless (nat_le (length bytes) 1048576) (f.OverLimit Bytes 1048577)
  text ← text_in bytes
  ts ← tokens_in text
  written ← written_in (length text) ts
  resolved p text written
