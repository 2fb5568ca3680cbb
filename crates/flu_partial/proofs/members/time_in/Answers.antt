use Rattle.std.proofs.Common.{◌≡◌, Some, None, sym, ap, ◌∙◌, arith}
use Rattle.serde_json.specs.View.{view}
use Rattle.flu_partial.proofs.Found.{of_some}
use Rattle.flu_partial.proofs.Reading.{null_read, time_read}
use Rattle.flu_partial.proofs.members.time_in.Goals as goal

pub returns-then-is_null-clause-found : goal.returns-then-is_null-clause-found
returns-then-is_null-clause-found c t fits is =
    ap Some (sym (null_read t (view c.args.value.now) is (sym c.is_null.ensures ∙ c.if-is_null.true)))

pub returns-in_err-time-clause-found : goal.returns-in_err-time-clause-found
returns-in_err-time-clause-found c t fits is =
    let r = time_read t (view c.args.value.now) fits is (sym c.is_null.ensures ∙ c.if-is_null.false) in
    let e : None ≡ Some r.time = c.in_err-time.ensures ∙ r.there in
    absurd cc

pub returns-then-time-le-MOST_TIME-clause-found : goal.returns-then-time-le-MOST_TIME-clause-found
returns-then-time-le-MOST_TIME-clause-found c t fits is =
    let r = time_read t (view c.args.value.now) fits is (sym c.is_null.ensures ∙ c.if-is_null.false) in
    let same : c.in_ok-time.time ≡ r.time = of_some _ _ (c.in_ok-time.ensures ∙ r.there) in
    ap Some (ap Some same ∙ sym r.is)

pub returns-else-time-le-MOST_TIME-clause-found : goal.returns-else-time-le-MOST_TIME-clause-found
returns-else-time-le-MOST_TIME-clause-found c t fits is =
    let r = time_read t (view c.args.value.now) fits is (sym c.is_null.ensures ∙ c.if-is_null.false) in
    let same : c.in_ok-time.time ≡ r.time = of_some _ _ (c.in_ok-time.ensures ∙ r.there) in
    absurd (omega (arith, c.if-time-le-MOST_TIME.false, r.fits, same))
