use Rattle.std.proofs.Common.{◌≡◌, ◌≤◌, ◌++◌, ◌∷◌, [], Bool, true, false, cond, length, ap, ◌∙◌, arith}
use Rattle.std.specs.Prelude.{is_ok}
use Rattle.std.proofs.lemmas.Grind.{common_steps}
use Rattle.flu_dense.specs.Tables.{value_of, IsEmptyBeside}
use Rattle.flu_dense.proofs.ListLemmas.{length_pushed}
use Rattle.flu_dense.proofs.TableLemmas.{slots_in_range, empty_row_behind, empty_beside-same}
use Rattle.flu_dense.proofs.table.Dense.reach.Goals as goal

pub invariant_of-self : goal.invariant_of-self
invariant_of-self g c =
    let few : length c.push.new.self.items ≤ 64 =
    omega (arith, length_pushed (is_ok c.push.result) c.loop-self.self.rows.items c.push.new.self.items c.new.result c.push.ensures.items) in
    record { few_rows = few; empty_beside = beside (is_ok c.push.result) c.push.ensures.items; in_range = slots_in_range _ few }
  where
    beside : (b : Bool) → c.push.new.self.items ≡ cond b (c.loop-self.self.rows.items ++ c.new.result ∷ []) c.loop-self.self.rows.items
        → IsEmptyBeside c.loop-self.self.filled (value_of c.push.new.self.items)
    beside true e =
        empty_beside-same c.loop-self.self.filled _ _ (ap value_of e ∙ empty_row_behind c.loop-self.self.rows.items c.new.result c.new.ensures)
        c.loop-self.self.empty_beside
    beside false e = empty_beside-same c.loop-self.self.filled _ _ (ap value_of e) c.loop-self.self.empty_beside

pub loop-self-preserved : goal.loop-self-preserved
loop-self-preserved g c = (
  ap value_of c.in_ok-push.ensures.items ∙ empty_row_behind c.loop-self.self.rows.items c.new.result c.new.ensures ∙ c.loop-self.invariant.0,
  grind (arith, common_steps, ap length c.in_ok-push.ensures.items),
)
