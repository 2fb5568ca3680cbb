use Rattle.std.proofs.Common.{sym, ap, ◌∙◌, ◌++◌}
use Rattle.std.specs.Prelude.{codes}
use Rattle.flu_lines.specs.Names.{source_name}
use Rattle.flu_lines.specs.PartLines.{reason_text}
use Rattle.flu_lines.proofs.Written.{writes_as}
use Rattle.flu_lines.proofs.WrittenParts.{named_steps}
use Rattle.flu_lines.proofs.part_lines.write_reason.Goals as goal

pub returns-in-Clock : goal.returns-in-Clock
returns-in-Clock g c =
    let p = c.args.program.now in
    writes_as (codes "clock " ++ (c.as_bytes-name.result.now ++ codes "\n")) _ _ _ _ _ c.write_pieces.result
    (named_steps (codes "clock ") c.as_bytes-name.result.now (source_name p c.in-Clock.number) (c.as_bytes-name.ensures.value ∙ c.source_name.ensures)
    ∙ ap (λ reason. reason_text p reason ++ codes "\n") (sym c.in-Clock.is)) c.write_pieces.ensures
