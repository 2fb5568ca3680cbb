use Rattle.std.proofs.Common.{◌∙◌, sym, ap, arith, map}
use Rattle.flu_syntax.specs.Tree.{declaration_of}
use Rattle.flu_lemmas.proofs.Loops.{each-next, each-fault, each-end, each-map}
use Rattle.flu_parse.specs.Naming.{naming, no_names, declare, naming_of}
use Rattle.flu_parse.specs.Faults.{each}
use Rattle.flu_parse.proofs.Steps.{declare_written}
use Rattle.flu_parse.proofs.FaultLemmas.{fails_through}
use Rattle.flu_parse.proofs.naming.naming_of.Goals as goal

pub loop-declaration-init : goal.loop-declaration-init
loop-declaration-init c =
    ap (λ n. each (declare_written c.args.text.now) n c.args.declarations.now) c.no_names-names.ensures
    ∙ each-map (declare c.args.text.now) declaration_of no_names c.args.declarations.now

pub returns-in-Err : goal.returns-in-Err
returns-in-Err c =
    let text = c.args.text.now in
    let ds = c.args.declarations.now in
    let n = naming c.loop-declaration.names in
    fails_through _ (declare_written text n c.declaration-item.result) (naming_of text (map declaration_of ds))
    (λ e h. sym c.loop-declaration.invariant
    ∙ each-fault
    (declare_written text) n e ds c.loop-declaration.declaration-index c.declaration-item.result c.loop-declaration-test.true c.declaration-item.is h)
    c.in-Err.ensures

pub loop-declaration-preserved : goal.loop-declaration-preserved
loop-declaration-preserved c =
    let text = c.args.text.now in
    let ds = c.args.declarations.now in
    let n = naming c.loop-declaration.names in
    sym (each-next (declare_written text) n
    (naming c.declare.new.names) ds c.loop-declaration.declaration-index c.declaration-item.result c.loop-declaration-test.true c.declaration-item.is
    c.in-Ok.ensures)
    ∙ c.loop-declaration.invariant

pub returns : goal.returns
returns c =
    sym c.loop-declaration.invariant
    ∙ each-end (declare_written c.args.text.now) (naming c.loop-declaration.names) c.args.declarations.now c.loop-declaration.declaration-index (omega arith)
