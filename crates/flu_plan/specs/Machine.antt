-- What the tokens of a plan are read as, token by token: a machine that keeps the nodes so far, and so finds the plan as it is
-- written, or the first token that cannot follow.
use Rattle.std.specs.Prelude.{ℕ, List, [], ◌∷◌, ◌++◌, Option, Some, None, Ok, Err}
use Rattle.flu_text.specs.declared.words.Word.{Word}
use Rattle.flu_text.specs.declared.words.Word.TheVariants as w
use Rattle.flu_names.specs.declared.reserved.Reserved.TheVariants as r
use Rattle.flu_text.specs.declared.words.Mark.TheVariants as m
use Rattle.flu_text.specs.declared.words.Token.{Token}
use Rattle.flu_text.specs.declared.written.WrittenSpan.{WrittenSpan}
use Rattle.flu_text.specs.declared.written.WrittenNumber.{WrittenNumber}
use Rattle.flu_text.specs.declared.written.WrittenKeys.{WrittenKeys}
use Rattle.flu_text.specs.declared.written.WrittenKeys.TheVariants as keys
use Rattle.flu_text.specs.Signs.{span_of, number_of}
use Rattle.flu_plan.specs.declared.fault.PlanFault.TheVariants as f
use Rattle.flu_plan.specs.declared.terminals.Terminal.{Terminal}
use Rattle.flu_plan.specs.declared.terminals.Terminal.TheVariants as k
use Rattle.flu_plan.specs.declared.grammar.Stage.{Stage}
use Rattle.flu_plan.specs.declared.grammar.Stage.TheVariants as stage
use Rattle.flu_plan.specs.declared.grammar.Reader.{Reader}
use Rattle.flu_plan.specs.declared.written.WrittenPred.{WrittenPred}
use Rattle.flu_plan.specs.declared.written.WrittenNode.{WrittenNode}
use Rattle.flu_plan.specs.Faults.{Found, ◌>>=◌, each}

-- what a word is in a plan text
unfoldable pub terminal_of : Word → Terminal
terminal_of (w.Name c) = k.Name
terminal_of (w.Reserved r.Node) = k.Node
terminal_of (w.Number n) = k.Number n
terminal_of (w.Mark m.Colon) = k.Colon
terminal_of (w.Mark m.Comma) = k.Comma
terminal_of (w.Mark m.OpenBracket) = k.OpenBracket
terminal_of (w.Mark m.CloseBracket) = k.CloseBracket
terminal_of (w.Mark m.Dots) = k.Dots
terminal_of (w.Mark m.At) = k.At
terminal_of (w.Mark m.Arrow) = k.Arrow
terminal_of _ = k.Other

-- the nodes so far, the name and the predicates so far of the node that is open, and what comes before the next token
pub record Turn : Type 0 where
  pub nodes : List WrittenNode
  pub name : WrittenSpan
  pub preds : List WrittenPred
  pub stage : Stage

abbrev pub turn_of : Reader → Turn
turn_of r = record { nodes = r.nodes.items; name = r.name; preds = r.preds.items; stage = r.stage }

abbrev pub start : Turn
start = record { nodes = []; name = record { from = 0; to = 0 }; preds = []; stage = stage.Start }

abbrev pub goes : Turn → Stage → Found Turn
goes u s = Ok (record { nodes = u.nodes; name = u.name; preds = u.preds; stage = s })

abbrev pub refuses : Token → Found Turn
refuses t = Err (f.Unexpected t.from)

abbrev pub with_name : Turn → WrittenSpan → Turn
with_name u name = record { nodes = u.nodes; name = name; preds = u.preds; stage = stage.Name }

abbrev pub pred : Option WrittenSpan → WrittenKeys → Option WrittenSpan → WrittenPred
pred kind ks source = record { kind = kind; keys = ks; source = source }

-- a predicate is whole
abbrev pub with_pred : Turn → WrittenPred → Turn
with_pred u q = record { nodes = u.nodes; name = u.name; preds = u.preds ++ q ∷ []; stage = stage.Source }

-- the open node is whole, and the next one begins
abbrev pub with_node : Turn → Option (WrittenSpan × WrittenSpan) → Turn
with_node u kids = record { nodes = u.nodes ++ record { name = u.name; preds = u.preds; kids = kids } ∷ []; name = u.name; preds = []; stage = stage.Node }

-- ---- what one token does

abbrev pub start_step : Turn → Token → Terminal → Found Turn
start_step u t k.Node = goes u stage.Node
start_step u t _ = refuses t

abbrev pub node_step : Turn → Token → Terminal → Found Turn
node_step u t k.Name = Ok (with_name u (span_of t))
node_step u t _ = refuses t

abbrev pub name_step : Turn → Token → Terminal → Found Turn
name_step u t k.Colon = goes u stage.Colon
name_step u t _ = refuses t

-- a predicate may end here
abbrev pub end_step : Turn → Token → Terminal → Found Turn
end_step u t k.Comma = goes u stage.Comma
end_step u t k.Arrow = goes u stage.Arrow
end_step u t k.Node = Ok (with_node u None)
end_step u t _ = refuses t

-- a predicate is wanted
abbrev pub comma_step : Turn → Token → Terminal → Found Turn
comma_step u t k.Name = goes u (stage.Kind (span_of t))
comma_step u t k.At = goes u (stage.At None keys.Alone)
comma_step u t _ = refuses t

abbrev pub colon_step : Turn → Token → Terminal → Found Turn
colon_step u t k.Arrow = goes u stage.Arrow
colon_step u t k.Node = Ok (with_node u None)
colon_step u t other = comma_step u t other

abbrev pub kind_step : Turn → WrittenSpan → Token → Terminal → Found Turn
kind_step u kind t k.OpenBracket = goes u (stage.Open kind)
kind_step u kind t k.At = goes u (stage.At (Some kind) keys.Alone)
kind_step u kind t other = end_step (with_pred u (pred (Some kind) keys.Alone None)) t other

abbrev pub open_step : Turn → WrittenSpan → Token → Terminal → Found Turn
open_step u kind t (k.Number n) = goes u (stage.Low kind (number_of n t))
open_step u kind t _ = refuses t

abbrev pub low_step : Turn → WrittenSpan → WrittenNumber → Token → Terminal → Found Turn
low_step u kind low t k.Dots = goes u (stage.Dots kind low)
low_step u kind low t k.CloseBracket = goes u (stage.Close kind (keys.One low))
low_step u kind low t _ = refuses t

abbrev pub dots_step : Turn → WrittenSpan → WrittenNumber → Token → Terminal → Found Turn
dots_step u kind low t (k.Number n) = goes u (stage.High kind (keys.Range low (number_of n t)))
dots_step u kind low t _ = refuses t

abbrev pub high_step : Turn → WrittenSpan → WrittenKeys → Token → Terminal → Found Turn
high_step u kind ks t k.CloseBracket = goes u (stage.Close kind ks)
high_step u kind ks t _ = refuses t

abbrev pub close_step : Turn → WrittenSpan → WrittenKeys → Token → Terminal → Found Turn
close_step u kind ks t k.At = goes u (stage.At (Some kind) ks)
close_step u kind ks t other = end_step (with_pred u (pred (Some kind) ks None)) t other

abbrev pub at_step : Turn → Option WrittenSpan → WrittenKeys → Token → Terminal → Found Turn
at_step u kind ks t k.Name = Ok (with_pred u (pred kind ks (Some (span_of t))))
at_step u kind ks t _ = refuses t

abbrev pub arrow_step : Turn → Token → Terminal → Found Turn
arrow_step u t k.Name = goes u (stage.Left (span_of t))
arrow_step u t _ = refuses t

abbrev pub left_step : Turn → WrittenSpan → Token → Terminal → Found Turn
left_step u left t k.Name = goes u (stage.Right left (span_of t))
left_step u left t _ = refuses t

abbrev pub right_step : Turn → WrittenSpan × WrittenSpan → Token → Terminal → Found Turn
right_step u kids t k.Node = Ok (with_node u (Some kids))
right_step u kids t _ = refuses t

abbrev pub stage_step : Turn → Token → Terminal → Stage → Found Turn
stage_step u t terminal stage.Start = start_step u t terminal
stage_step u t terminal stage.Node = node_step u t terminal
stage_step u t terminal stage.Name = name_step u t terminal
stage_step u t terminal stage.Colon = colon_step u t terminal
stage_step u t terminal stage.Comma = comma_step u t terminal
stage_step u t terminal (stage.Kind kind) = kind_step u kind t terminal
stage_step u t terminal (stage.Open kind) = open_step u kind t terminal
stage_step u t terminal (stage.Low kind low) = low_step u kind low t terminal
stage_step u t terminal (stage.Dots kind low) = dots_step u kind low t terminal
stage_step u t terminal (stage.High kind ks) = high_step u kind ks t terminal
stage_step u t terminal (stage.Close kind ks) = close_step u kind ks t terminal
stage_step u t terminal (stage.At kind ks) = at_step u kind ks t terminal
stage_step u t terminal stage.Source = end_step u t terminal
stage_step u t terminal stage.Arrow = arrow_step u t terminal
stage_step u t terminal (stage.Left left) = left_step u left t terminal
stage_step u t terminal (stage.Right left right) = right_step u (left, right) t terminal

unfoldable pub step : Turn → Token → Found Turn
step u t = stage_step u t (terminal_of t.word) u.stage

-- ---- the end of the text

abbrev pub whole : Turn → Option (WrittenSpan × WrittenSpan) → Found (List WrittenNode)
whole u kids = Ok (with_node u kids).nodes

abbrev pub stage_end : ℕ → Turn → Stage → Found (List WrittenNode)
stage_end end u stage.Colon = whole u None
stage_end end u (stage.Kind kind) = whole (with_pred u (pred (Some kind) keys.Alone None)) None
stage_end end u (stage.Close kind ks) = whole (with_pred u (pred (Some kind) ks None)) None
stage_end end u stage.Source = whole u None
stage_end end u (stage.Right left right) = whole u (Some (left, right))
stage_end end u _ = Err (f.Unexpected end)

-- the nodes, if they may end here
unfoldable pub ended : ℕ → Turn → Found (List WrittenNode)
ended end u = stage_end end u u.stage

-- the nodes that tokens are from some turn on
abbrev pub run : ℕ → Turn → List Token → Found (List WrittenNode)
run end u ts = each step u ts >>= ended end

-- the nodes that the tokens of a text are, where `end` is the text's length
abbrev pub written_in : ℕ → List Token → Found (List WrittenNode)
written_in end ts = run end start ts
