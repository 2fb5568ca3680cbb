use Rattle.std.proofs.Common.{◌<◌, ◌≤◌, ℕ, length, refl, sym, subst, ◌∙◌, arith}
use Rattle.std.specs.Prelude.{slice_index}
use Rattle.std.proofs.Math.ListN.{set}
use Rattle.std.proofs.lemmas.Grind.{get_or-set_at}
use Rattle.std.proofs.lemmas.List.{length-set, get_or-set_other}
use Rattle.flu_lemmas.proofs.Numbers.{one_more}
use Rattle.flu_model.specs.declared.events.Itag.{Itag}
use Rattle.flu_model.specs.Itags.{count_of_itags}
use Rattle.flu_valid.specs.Faults.{HasOneOwner}
use Rattle.flu_valid.specs.LoopSearch.{IsSoleOwner}
use Rattle.flu_valid.proofs.OwnerLemmas.{sole_counted, fault_is_first}
use Rattle.flu_valid.proofs.owners.sole_owners.Goals as goal

abbrev number : ℕ → Itag
number n = record { 0 = n }

pub returns-in-Err-clause-fault : goal.returns-in-Err-clause-fault
returns-in-Err-clause-fault c =
    fault_is_first c.args.p.now c.args.plan.now.nodes (number c.loop-i.i) c.in-Err.why (omega arith) c.loop-i.invariant.counted c.in-Err.ensures.fault

pub loop-i-preserved : goal.loop-i-preserved
loop-i-preserved c =
    let p = c.args.p.now in
    let nodes = c.args.plan.now.nodes in
    let old = c.loop-i.owners in
    let i = c.loop-i.i in
    let w = c.in-Ok.w in
    let few : count_of_itags p ≤ 256 = p.few_itags in
    let size = c.loop-i.invariant.size in
    let within : i < length old = omega arith in
    record {
      size = length-set old i w ∙ size;
      sole = λ k lt.
          one_more (λ n. IsSoleOwner p nodes (number n) (slice_index (set old i w) n)) i
          (λ n less. subst (IsSoleOwner p nodes (number n)) (sym (get_or-set_other old i n w 0 (λ e. omega arith))) (c.loop-i.invariant.sole (number n) less))
          (subst (IsSoleOwner p nodes (number i)) (sym (get_or-set_at old i i w 0 refl within)) c.in-Ok.ensures.owner)
          k.0 lt;
      counted = λ k lt.
          one_more (λ n. HasOneOwner p nodes (number n)) i (λ n less. c.loop-i.invariant.counted (number n) less)
          (sole_counted p nodes (number i) w c.in-Ok.ensures.owner) k.0 lt;
    }
