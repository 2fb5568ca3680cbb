use Rattle.std.proofs.Common.{arith, refl, sym, ◌-◌, ◌+◌}
use Rattle.flu_lemmas.proofs.Places.{position_in_range, position_out_of_range}
use Rattle.flu_streams.proofs.tags.place_in.Goals as goal
use Rattle.flu_streams.proofs.tags.place_in.Goals.{else-lo-key-via-then-lo-key+else-key-hi, else-lo-key-via-else-lo-key}

pub returns-then-key-hi : goal.returns-then-key-hi
returns-then-key-hi c = rw (c.in-Range.is, position_in_range c.args.key c.in-Range.lo (c.in-Range.hi + 1 - c.in-Range.lo) (omega arith) (omega arith)) refl

pub returns-else-lo-key : goal.returns-else-lo-key
returns-else-lo-key c =
    rw c.in-Range.is (sym (position_out_of_range c.args.key c.in-Range.lo (c.in-Range.hi + 1 - c.in-Range.lo) (λ le. elim c.else-lo-key.branch [
      | else-lo-key-via-then-lo-key+else-key-hi w ↦ omega arith
      | else-lo-key-via-else-lo-key w ↦ absurd (omega arith)
    ])))
