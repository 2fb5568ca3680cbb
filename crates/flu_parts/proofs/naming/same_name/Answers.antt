use Rattle.std.proofs.Common.{sym, ap, ◌∙◌, List, ℕ, map, string_bytes}
use Rattle.std.specs.Prelude.{position}
use Rattle.flu_lemmas.proofs.Places.{position-map}
use Rattle.flu_parts.specs.Causes.{has_file, is_file_of}
use Rattle.flu_parts.proofs.Names.{bytes_at, no_sources, source_found}
use Rattle.flu_parts.proofs.naming.same_name.Goals as goal

pub returns-in_default-clause-none : goal.returns-in_default-clause-none
returns-in_default-clause-none c none =
    let sources = c.args.program.now.sources in
    no_sources (map string_bytes c.args.names.now) c.args.program.now
    (position-map (is_file_of sources) string_bytes c.args.names.now ∙ sym c.in_default.ensures.value)

pub returns-in-Some-source_with-clause-same : goal.returns-in-Some-source_with-clause-same
returns-in-Some-source_with-clause-same c =
    let sources = c.args.program.now.sources in
    let name = bytes_at c.args.names.now c.in-Some.place c.index-names-place.result c.in-Some.ensures.there c.index-names-place.is in
    record {
      first = position-map (is_file_of sources) string_bytes c.args.names.now ∙ sym c.in-Some.ensures.value;
      source = ap (λ (n : List ℕ). position (has_file n) sources) (name ∙ sym c.as_str.ensures.value) ∙ sym c.in-Some-source_with.ensures;
    }

pub returns-in-None-clause-none : goal.returns-in-None-clause-none
returns-in-None-clause-none c none =
    let sources = c.args.program.now.sources in
    let name = bytes_at c.args.names.now c.in-Some.place c.index-names-place.result c.in-Some.ensures.there c.index-names-place.is in
    absurd (source_found (map string_bytes c.args.names.now) sources c.in-Some.place c.as_str.result.now
    (position-map (is_file_of sources) string_bytes c.args.names.now ∙ sym c.in-Some.ensures.value) (name ∙ sym c.as_str.ensures.value) (sym c.in-None.ensures))
