use Rattle.std.proofs.Common.{◌≡◌, ◌≤◌, take}
use Rattle.flu_command.specs.Demos.{lines_in}
use Rattle.flu_top.proofs.demo.lines_in.Given as goal

abbrev pub invariant-loop-byte : goal.invariant-loop-byte
invariant-loop-byte l = record { count : l.lines ≡ lines_in (take l.byte-index l.bytes); few : l.lines ≤ l.byte-index }
