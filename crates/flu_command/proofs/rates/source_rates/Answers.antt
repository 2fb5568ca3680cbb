use Rattle.std.proofs.Common.{sym, ap, ◌∙◌, subst, ℕ, ◌≤◌, ◌^◌, List, length, arith}
use Rattle.std.specs.Prelude.{EachIndex, slice_index}
use Rattle.flu_command.proofs.RateLemmas.{rates_more, all_rates, one_rate_each, rates_are_small}
use Rattle.flu_command.proofs.rates.source_rates.Goals as goal

pub loop-number-preserved : goal.loop-number-preserved
loop-number-preserved c =
    rates_more c.args.program.now c.loop-number.number c.rate_of.result c.loop-number.rates.items c.push.new.self.items c.loop-number.invariant
    c.rate_of.ensures c.in_ok-push.ensures.items

pub returns-clause-rates : goal.returns-clause-rates
returns-clause-rates c = all_rates c.args.program.now c.loop-number.number c.loop-number.rates.items (omega arith) c.loop-number.invariant

pub returns-clause-each : goal.returns-clause-each
returns-clause-each c = ap length (returns-clause-rates c) ∙ one_rate_each c.args.program.now

pub returns-clause-small : goal.returns-clause-small
returns-clause-small c =
    subst (λ (rates : List ℕ). EachIndex rates (λ k. slice_index rates k ≤ 2 ^ 40)) (sym (returns-clause-rates c)) (rates_are_small c.args.program.now)
