use Rattle.std.proofs.Common.{List, sym, subst, arith}
use Rattle.std.proofs.lemmas.Result.{err_from_is_err_and}
use Rattle.flu_contribution.specs.declared.contributing.Handed.{Handed}
use Rattle.flu_partial.specs.declared.order.Reached.TheVariants.{Head}
use Rattle.flu_receiving.specs.Faults.{parts_of, IsFaultFrom, IsLineFault}
use Rattle.flu_receiving.proofs.Steps.{HaveCome, memory_or, fault_here, faults_behind, next_came}
use Rattle.flu_receiving.proofs.receiving.read_sent.Goals as goal

pub returns-in_err-taken-clause-fault : goal.returns-in_err-taken-clause-fault
returns-in_err-taken-clause-fault c =
    let e = c.in_err-taken.field-0.0 in
    let p = c.args.p.now in
    let bytes = c.args.bytes.now in
    let line = c.in-Some.next.line.now in
    let q = err_from_is_err_and c.from_residual.result c.from_residual.ensures.1 in
    rw (q.1, q.2) (memory_or e (IsLineFault p c.lines.number c.lines.lines line e) (IsFaultFrom p 2 Head (parts_of bytes) e)
    (λ f. fault_here p bytes c.lines.rest.now line c.in-Some.next.rest.now c.lines.number c.lines.lines e c.lines.invariant.faults c.in-Some.ensures.line f)
    c.in_err-taken.ensures.fault)

pub lines-preserved : goal.lines-preserved
lines-preserved c =
    let p = c.args.p.now in
    let bytes = c.args.bytes.now in
    let rest = c.lines.rest.now in
    let line = c.in-Some.next.line.now in
    let behind = c.in-Some.next.rest.now in
    let reached = c.take_line.new.lines in
    let taken = c.in_ok-taken.taken in
    let is = c.in_ok-taken.ensures.taken in
    let old = c.lines.invariant in
    let came = next_came p bytes rest line behind c.lines.lines reached c.lines.sent.items c.lines.last taken old.came c.in-Some.ensures.bytes is in
    record {
      came = subst (λ (handed : List Handed). HaveCome p bytes behind reached handed taken.last) (sym c.in_ok-push.ensures.items) came;
      faults = faults_behind p bytes rest line behind c.lines.number c.lines.lines reached taken old.faults c.in-Some.ensures.line is;
      few = omega (arith, c.in-Some.ensures.fewer);
    }
