use Rattle.std.proofs.Common.{◌≡◌, ◌-◌, ◌≤◌, true, false, Some, None, sym, ap, ◌∙◌, rules, arith}
use Rattle.std.specs.Prelude.{nat_le}
use Rattle.std.proofs.lemmas.Grind.{common_steps}
use Rattle.flu_model.specs.Moments.{last_moment}
use Rattle.flu_streams.specs.LoopHeld.{source_of, count_to, enough_of, enough_for, without}
use Rattle.flu_streams.specs.Tests.{margin}
use Rattle.flu_streams.proofs.Counting.{few_settled, many_settled}
use Rattle.flu_streams.proofs.Inlets.{count_alike}
use Rattle.flu_streams.proofs.inlet.Inlet.enough.Goals as goal

pub returns-then-not-has_until : goal.returns-then-not-has_until
returns-then-not-has_until c =
    let h = c.args.self.now in
    let l = c.in_ok-last.last in
    let rows = c.in_ok-rows.rows in
    let given : c.args.rows ≡ Some rows = search rules in
    let behind : c.margin-behind.result ≡ margin h.timing c.args.slack = c.margin-behind.ensures in
    let at : h.last ≡ Some l = search rules in
    let le : margin h.timing c.args.slack ≤ l = omega (arith, behind, c.if-last-behind.false) in
    let none : h.goal ≡ None = grind (arith, common_steps) in
    let time : l - c.margin-behind.result ≡ l - margin h.timing c.args.slack = ap (λ n. l - n) behind in
    let alike = count_alike h c.last_moment-moment.result (last_moment h.timing (l - c.margin-behind.result)) c.last_moment-moment.ensures in
    let few : nat_le rows (count_to (last_moment h.timing (l - margin h.timing c.args.slack)) h.items) ≡ false =
    sym (c.has_until.ensures ∙ ap (nat_le rows) (alike ∙ ap (λ u. count_to (last_moment h.timing u) h.items) time)) ∙ c.if-not-has_until.true in
    sym (ap (λ o. enough_for h.timing o c.args.slack (source_of h)) given
    ∙ ap (λ g. without g (enough_of h.timing rows c.args.slack h.last h.items)) none ∙ ap (λ o. enough_of h.timing rows c.args.slack o h.items) at
    ∙ few_settled h.timing rows c.args.slack l h.items le few)

pub returns : goal.returns
returns c =
    let h = c.args.self.now in
    let l = c.in_ok-last.last in
    let rows = c.in_ok-rows.rows in
    let given : c.args.rows ≡ Some rows = search rules in
    let behind : c.margin-behind.result ≡ margin h.timing c.args.slack = c.margin-behind.ensures in
    let at : h.last ≡ Some l = search rules in
    let le : margin h.timing c.args.slack ≤ l = omega (arith, behind, c.if-last-behind.false) in
    let none : h.goal ≡ None = grind (arith, common_steps) in
    let time : l - c.margin-behind.result ≡ l - margin h.timing c.args.slack = ap (λ n. l - n) behind in
    let alike = count_alike h c.last_moment-moment.result (last_moment h.timing (l - c.margin-behind.result)) c.last_moment-moment.ensures in
    let enough : nat_le rows (count_to (last_moment h.timing (l - margin h.timing c.args.slack)) h.items) ≡ true =
    sym (c.has_until.ensures ∙ ap (nat_le rows) (alike ∙ ap (λ u. count_to (last_moment h.timing u) h.items) time)) ∙ c.if-not-has_until.false in
    ap Some time ∙ sym (ap (λ o. enough_for h.timing o c.args.slack (source_of h)) given
    ∙ ap (λ g. without g (enough_of h.timing rows c.args.slack h.last h.items)) none ∙ ap (λ o. enough_of h.timing rows c.args.slack o h.items) at
    ∙ many_settled h.timing rows c.args.slack l h.items le enough)
