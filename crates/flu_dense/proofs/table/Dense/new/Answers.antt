use Rattle.std.proofs.Common.{◌≤◌, length, arith, ap}
use Rattle.flu_dense.proofs.TableLemmas.{past_rows, slots_in_range}
use Rattle.flu_dense.proofs.table.Dense.new.Goals as goal

pub invariant_of-result : goal.invariant_of-result
invariant_of-result g c =
    let few : length c.new.result.items ≤ 64 = omega (arith, ap length c.new.ensures.items) in
    record {
      few_rows = few;
      empty_beside = λ s lt out. past_rows c.new.result.items s (omega (arith, ap length c.new.ensures.items));
      in_range = slots_in_range _ few;
    }

pub returns : goal.returns
returns g c s = past_rows c.new.result.items s (omega (arith, ap length c.new.ensures.items))
