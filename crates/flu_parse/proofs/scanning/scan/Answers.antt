use Rattle.std.proofs.Common.{◌≡◌, ◌+◌, ◌∙◌, ap, sym, drop, get_or, length, arith, false}
use Rattle.flu_parse.specs.Templates.{Template, field_at, scan, scan_byte, end_of_scan}
use Rattle.flu_parse.specs.Scans.{scan_of}
use Rattle.flu_parse.proofs.ScanLemmas.{scan-next, scan-fault, scan-end, goes_on, stops}
use Rattle.flu_parse.proofs.scanning.scan.Goals as goal

pub returns-then-not-goes_on : goal.returns-then-not-goes_on
returns-then-not-goes_on c =
    let field = field_at c.args.text.now c.args.version c.args.in_flush in
    let old = scan_of c.loop-i.scanner in
    let place = c.args.from + c.loop-i.i in
    let bs = c.args.bytes.now in
    let stop = stops c.in_ok-goes_on.goes_on old (scan_of c.scan_byte.new.scanner)
    (scan_byte field old place (get_or bs c.loop-i.i 0)) c.if-not-goes_on.true c.in_ok-goes_on.ensures in
    ap (λ ps. let t : Template = record { pieces = ps; whole = false } in t) stop.1
    ∙ sym (scan-fault field old place bs c.loop-i.i c.loop-i-test.true stop.0)
    ∙ c.loop-i.invariant

pub loop-i-preserved : goal.loop-i-preserved
loop-i-preserved c =
    let field = field_at c.args.text.now c.args.version c.args.in_flush in
    let old = scan_of c.loop-i.scanner in
    let new = scan_of c.scan_byte.new.scanner in
    let i = c.loop-i.i in
    let bs = c.args.bytes.now in
    let on = goes_on c.in_ok-goes_on.goes_on old new (scan_byte field old (c.args.from + i) (get_or bs i 0)) c.if-not-goes_on.false c.in_ok-goes_on.ensures in
    let further : c.args.from + (i + 1) ≡ c.args.from + i + 1 = omega arith in
    ap (λ place. scan field new place (drop (i + 1) bs)) further
    ∙ sym (scan-next field old new (c.args.from + i) bs i c.loop-i-test.true on)
    ∙ c.loop-i.invariant

pub returns : goal.returns
returns c =
    let field = field_at c.args.text.now c.args.version c.args.in_flush in
    let old = scan_of c.loop-i.scanner in
    let i = c.loop-i.i in
    let bs = c.args.bytes.now in
    let all : c.args.from + length bs ≡ c.args.from + i = omega arith in
    c.in_ok-template.ensures
    ∙ ap (end_of_scan old) all
    ∙ sym (scan-end field old (c.args.from + i) bs i (omega arith))
    ∙ c.loop-i.invariant
