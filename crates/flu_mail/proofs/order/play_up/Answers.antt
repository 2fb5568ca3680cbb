use Rattle.std.proofs.Common.{◌/◌, drop, sym, ap, subst, ◌∙◌, arith}
use Rattle.std.proofs.lemmas.List.{drop-set-add, drop-set-lt}
use Rattle.flu_mail.proofs.OrderLemmas.{ArePlayedBut, winner, key_set, one_up}
use Rattle.flu_mail.proofs.order.play_up.Goals as goal

pub loop-v-init : goal.loop-v-init
loop-v-init c = record {
  above = omega arith;
  below = omega arith;
  played = key_set c.args.size c.args.place c.args.nodes.now c.args.key c.requires.played;
  keys = drop-set-add c.args.size c.args.nodes.now c.args.place c.args.key;
}

pub loop-v-preserved : goal.loop-v-preserved
loop-v-preserved c =
    let up = c.loop-v.v / 2 in
    record {
      above = omega arith;
      below = omega arith;
      played = subst (ArePlayedBut c.args.size (c.loop-v.v / 2 / 2)) (sym c.play.ensures)
          (one_up c.args.size (c.loop-v.v / 2) c.loop-v.nodes (omega arith) (omega arith) c.loop-v.invariant.played);
      keys = ap (drop c.args.size) c.play.ensures
          ∙ drop-set-lt c.args.size c.loop-v.nodes (c.loop-v.v / 2) (winner c.loop-v.nodes (c.loop-v.v / 2)) (omega arith)
          ∙ c.loop-v.invariant.keys;
    }
