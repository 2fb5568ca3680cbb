use Rattle.std.proofs.Common.{◌≡◌, ◌<◌, Some, length, refl, ◌∙◌, arith}
use Rattle.std.specs.Prelude.{slice_get}
use Rattle.std.proofs.lemmas.List.{length-set}
use Rattle.std.proofs.lemmas.Option.{slice_get_read, slice_get_within}
use Rattle.flu_lemmas.proofs.Replaced.{slice_get-set_other}
use Rattle.flu_streams.proofs.Cuts.{dropped_more}
use Rattle.flu_streams.proofs.held.drop_all.Goals as goal

pub loop-number-preserved : goal.loop-number-preserved
loop-number-preserved c =
    let n = c.loop-number.number in
    let olds = c.args.inlets.now.items in
    let news = c.loop-number.inlets.items in
    let mid = c.index_mut-inlet.result.now in
    let inv = c.loop-number.invariant in
    let lt : n < length news = omega (arith, inv.size, inv.end, c.loop-number-test.true) in
    let is : slice_get news n ≡ Some mid = slice_get_read news (length news) n mid refl lt c.index_mut-inlet.ensures.value in
    record {
      size = length-set news n c.drop_until.new.self ∙ inv.size;
      end = inv.end;
      done = dropped_more c.args.time n olds news mid c.drop_until.new.self is (inv.ahead n (omega arith)) c.drop_until.ensures inv.done;
      ahead = λ i le. slice_get-set_other news n i c.drop_until.new.self (λ e. omega (arith, e, le)) ∙ inv.ahead i (omega (arith, le));
    }

pub returns : goal.returns
returns c =
    let inv = c.loop-number.invariant in
    record {
      size = inv.size;
      each = λ i o m was is. inv.done i o m (omega (arith, slice_get_within c.args.inlets.now.items i o was, inv.end, c.loop-number-test.false)) was is;
    }
