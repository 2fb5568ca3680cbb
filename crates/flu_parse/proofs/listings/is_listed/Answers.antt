use Rattle.std.proofs.Common.{◌∙◌, ap, sym}
use Rattle.std.specs.Prelude.{◌==◌, ◌&&◌, nat_le, max, min}
use Rattle.flu_model.specs.declared.jobs.TagRef.{TagRef}
use Rattle.flu_rules.specs.Keys.{first_key, last_key, share_tag}
use Rattle.flu_lemmas.proofs.Searches.{list_any_within}
use Rattle.flu_parse.specs.Listings.{written_keys}
use Rattle.flu_parse.proofs.listings.is_listed.Goals as goal

pub returns : goal.returns
returns c =
    let wide : TagRef = record { kind = c.args.kind; keys = written_keys c.args.keys.now } in
    c.any_meets.ensures
    ∙ list_any_within _ (share_tag wide) c.args.tags.now
    (λ other.
    (ap (λ f. (c.args.kind == other.kind) && nat_le (max f (first_key other.keys))
    (min c.written_last-last.result (last_key other.keys))) c.written_first-first.ensures
    ∙ ap (λ l. (c.args.kind == other.kind) && nat_le (max (first_key wide.keys) (first_key other.keys))
    (min l (last_key other.keys))) c.written_last-last.ensures)
    ∙ sym (c.tags_meet_by_their_ends.ensures.meet wide other))
