use Rattle.std.proofs.Common.{ap, ◌∙◌}
use Rattle.std.specs.Prelude.{not}
use Rattle.flu_model.specs.Listed.{listed}
use Rattle.flu_tables.specs.Tables.{program_in, nodes_in}
use Rattle.flu_mail.proofs.ListLemmas.{serve_told}
use Rattle.flu_mail.proofs.mailbox.Mailbox.ready_to_serve.Goals as goal

pub returns : goal.returns
returns c =
    ap not c.is_held_up.ensures
    ∙ serve_told (program_in c.args.t.now) (nodes_in c.args.t.now) (listed c.args.s.now) c.args.self.now c.args.y.now c.requires.at
