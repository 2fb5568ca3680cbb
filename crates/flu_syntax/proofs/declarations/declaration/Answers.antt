use Rattle.std.proofs.Common.{◌∙◌, length, refl, sym, ap, arith}
use Rattle.flu_text.specs.declared.words.Token.{Token}
use Rattle.flu_syntax.specs.declared.tokens.Heading.TheVariants as heading
use Rattle.flu_syntax.specs.Tree.{declaration_of}
use Rattle.flu_syntax.specs.Machine.{CellName, TagName, NamesName, DependsFirst, OnKind, SourceName, ClockName}
use Rattle.flu_syntax.proofs.Parts.{through_heading, no_heading}
use Rattle.flu_syntax.proofs.declarations.declaration.Goals as goal

pub returns-in_default-clause-run : goal.returns-in_default-clause-run
returns-in_default-clause-run c = let none = ap (length {A = Token}) c.in_default.ensures in absurd (omega arith)

pub returns-in-Cell-clause-run : goal.returns-in-Cell-clause-run
returns-in-Cell-clause-run c =
    through_heading c.args.end c.args.tokens.now c.in-Some.rest.now c.in-Some.token CellName heading.Cell (λ x. declaration_of x.0) (λ x. x.1.now)
    c.cell_line.result c.in-Some.ensures (sym c.in-Cell.is ∙ c.heading_of.ensures) refl c.cell_line.ensures.run

pub returns-in-Tag-clause-run : goal.returns-in-Tag-clause-run
returns-in-Tag-clause-run c =
    through_heading c.args.end c.args.tokens.now c.in-Some.rest.now c.in-Some.token TagName heading.Tag (λ x. declaration_of x.0) (λ x. x.1.now)
    c.tag_line.result c.in-Some.ensures (sym c.in-Tag.is ∙ c.heading_of.ensures) refl c.tag_line.ensures.run

pub returns-in-Names-clause-run : goal.returns-in-Names-clause-run
returns-in-Names-clause-run c =
    through_heading c.args.end c.args.tokens.now c.in-Some.rest.now c.in-Some.token (NamesName c.in-Some.token.from) heading.Names
    (λ x. declaration_of x.0) (λ x. x.1.now) c.names_line.result c.in-Some.ensures (sym c.in-Names.is ∙ c.heading_of.ensures) refl c.names_line.ensures.run

pub returns-in-Depends-clause-run : goal.returns-in-Depends-clause-run
returns-in-Depends-clause-run c =
    through_heading c.args.end c.args.tokens.now c.in-Some.rest.now c.in-Some.token DependsFirst heading.Depends (λ x. declaration_of x.0) (λ x. x.1.now)
    c.depends_line.result c.in-Some.ensures (sym c.in-Depends.is ∙ c.heading_of.ensures) refl c.depends_line.ensures.run

pub returns-in-On-clause-run : goal.returns-in-On-clause-run
returns-in-On-clause-run c =
    through_heading c.args.end c.args.tokens.now c.in-Some.rest.now c.in-Some.token OnKind heading.On (λ x. declaration_of x.0) (λ x. x.1.now)
    c.on_line.result c.in-Some.ensures (sym c.in-On.is ∙ c.heading_of.ensures) refl c.on_line.ensures.run

pub returns-in-Source-clause-run : goal.returns-in-Source-clause-run
returns-in-Source-clause-run c =
    through_heading c.args.end c.args.tokens.now c.in-Some.rest.now c.in-Some.token SourceName heading.Source (λ x. declaration_of x.0) (λ x. x.1.now)
    c.source_line.result c.in-Some.ensures (sym c.in-Source.is ∙ c.heading_of.ensures) refl c.source_line.ensures.run

pub returns-in-Clock-clause-run : goal.returns-in-Clock-clause-run
returns-in-Clock-clause-run c =
    through_heading c.args.end c.args.tokens.now c.in-Some.rest.now c.in-Some.token (ClockName c.in-Some.token.from) heading.Clock
    (λ x. declaration_of x.0) (λ x. x.1.now) c.clock_line.result c.in-Some.ensures (sym c.in-Clock.is ∙ c.heading_of.ensures) refl c.clock_line.ensures.run

pub returns-in-Other-clause-run : goal.returns-in-Other-clause-run
returns-in-Other-clause-run c = λ job. rw c.unexpected-in-Other.ensures
    (no_heading c.args.end job c.args.tokens.now c.in-Some.rest.now c.in-Some.token heading.Other c.in-Some.ensures (sym c.in-Other.is
    ∙ c.heading_of.ensures) refl)
