use Rattle.std.proofs.Common.{◌<◌, Bool, length, sym, ap, subst, ◌∙◌, arith}
use Rattle.std.specs.List.{list_any, AllByRecursion}
use Rattle.flu_model.specs.declared.events.Itag.{Itag}
use Rattle.flu_model.specs.Listed.{listed}
use Rattle.flu_tables.specs.Tables.{program_in, nodes_in}
use Rattle.flu_mail.specs.LoopParts.{holds_up}
use Rattle.flu_mail.specs.Mailboxes.{owned_by}
use Rattle.flu_mail.proofs.KeyLemmas.{least_holds_none}
use Rattle.flu_mail.proofs.ListLemmas.{listed_in_range}
use Rattle.flu_mail.proofs.mailbox.Mailbox.is_held_up.Goals as goal

pub returns-then-least_passes : goal.returns-then-least_passes
returns-then-least_passes c =
    sym (least_holds_none (program_in c.args.t.now) (nodes_in c.args.t.now) (listed c.args.s.now) c.args.self.now c.args.purpose c.args.owner
    c.least.result c.args.x.now c.args.s.now.good c.requires.at c.requires.over c.least.ensures (sym c.least_passes.ensures ∙ c.if-least_passes.true))

pub some_holds_up-requires-clause-in_range : goal.some_holds_up-requires-clause-in_range
some_holds_up-requires-clause-in_range c =
    let p = program_in c.args.t.now in
    let n = length (listed c.args.s.now) in
    let over = c.requires.over.one_each in
    let at = c.requires.at.one_each in
    subst (AllByRecursion (λ (j : Itag). j.0 < n)) (sym c.itags.ensures)
    (listed_in_range p (owned_by p (nodes_in c.args.t.now) c.args.self.now.node c.args.owner) n (omega arith))

pub returns : goal.returns
returns c =
    let h : Itag → Bool = holds_up (program_in c.args.t.now) c.args.self.now (listed c.args.s.now) c.args.purpose c.args.x.now in
    c.some_holds_up.ensures ∙ ap (list_any h) c.itags.ensures
