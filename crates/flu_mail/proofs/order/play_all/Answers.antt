use Rattle.std.proofs.Common.{◌≡◌, ℕ, ◌+◌, ◌-◌, drop, refl, sym, ap, subst, ◌∙◌, arith}
use Rattle.std.proofs.lemmas.List.{drop-set-lt}
use Rattle.flu_mail.proofs.OrderLemmas.{ArePlayedFrom, winner, one_down}
use Rattle.flu_mail.proofs.order.play_all.Goals as goal

pub loop-v-init : goal.loop-v-init
loop-v-init c = record {
  within = omega arith;
  played = record { long = c.requires; played = λ u pos le lt. absurd (omega arith) };
  keys = refl;
}

pub loop-v-preserved : goal.loop-v-preserved
loop-v-preserved c =
    let v = c.loop-v.v - 1 in
    let next : c.loop-v.v ≡ c.loop-v.v - 1 + 1 = omega arith in
    record {
      within = omega arith;
      played = subst (ArePlayedFrom c.args.size (c.loop-v.v - 1)) (sym c.play.ensures)
          (one_down c.args.size (c.loop-v.v - 1) c.loop-v.nodes (omega arith) (omega arith)
          (subst (λ (n : ℕ). ArePlayedFrom c.args.size n c.loop-v.nodes) next c.loop-v.invariant.played));
      keys = ap (drop c.args.size) c.play.ensures
          ∙ drop-set-lt c.args.size c.loop-v.nodes (c.loop-v.v - 1) (winner c.loop-v.nodes (c.loop-v.v - 1)) (omega arith)
          ∙ c.loop-v.invariant.keys;
    }
