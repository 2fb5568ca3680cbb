use Rattle.std.proofs.Common.{[], ◌∷◌, map, take, ap, sym, ◌∙◌}
use Rattle.std.specs.Prelude.{string_bytes}
use Rattle.flu_words.specs.Parts.{first_misfit, is_new_file}
use Rattle.flu_words.proofs.PartLemmas.{ends_here, goes_on, no_room, no_file, room}
use Rattle.flu_words.proofs.parts.first_misfit.Goals as goal
use Rattle.flu_words.proofs.parts.first_misfit.Goals.{then-index-ge-MOST_PARTIALS-via-then-index-ge-MOST_PARTIALS}
use Rattle.flu_words.proofs.parts.first_misfit.Goals.{then-index-ge-MOST_PARTIALS-via-else-index-ge-MOST_PARTIALS+then-not-is_new_file}

pub returns-then-index-ge-MOST_PARTIALS : goal.returns-then-index-ge-MOST_PARTIALS
returns-then-index-ge-MOST_PARTIALS c =
    let job = c.args.job.now in
    let plan = c.args.plan.now in
    let words = c.args.words.now in
    let i = c.loop-index.index in
    let word = c.index-words-index.result in
    let earlier = job ∷ plan ∷ map string_bytes (take i words) in
    ends_here string_bytes job plan words i word (first_misfit (job ∷ plan ∷ []) 3 (map string_bytes words)) c.loop-index-test.true c.index-words-index.is
    c.loop-index.invariant
    (elim c.then-index-ge-MOST_PARTIALS.branch [
      | then-index-ge-MOST_PARTIALS-via-then-index-ge-MOST_PARTIALS w ↦
          no_room i (is_new_file earlier (string_bytes word)) w.if-index-ge-MOST_PARTIALS.true
      | then-index-ge-MOST_PARTIALS-via-else-index-ge-MOST_PARTIALS+then-not-is_new_file w ↦
          no_file i (is_new_file earlier (string_bytes word))
          (ap (is_new_file earlier) (sym w.as_str.ensures.value) ∙ sym w.is_new_file.ensures ∙ w.if-not-is_new_file.true)
    ])

pub loop-index-preserved : goal.loop-index-preserved
loop-index-preserved c =
    let job = c.args.job.now in
    let plan = c.args.plan.now in
    let words = c.args.words.now in
    let i = c.loop-index.index in
    let word = c.index-words-index.result in
    let earlier = job ∷ plan ∷ map string_bytes (take i words) in
    goes_on string_bytes job plan words i word (first_misfit (job ∷ plan ∷ []) 3 (map string_bytes words)) c.loop-index-test.true c.index-words-index.is
    c.loop-index.invariant
    (room i (is_new_file earlier (string_bytes word)) c.if-index-ge-MOST_PARTIALS.false
    (ap (is_new_file earlier) (sym c.as_str.ensures.value) ∙ sym c.is_new_file.ensures ∙ c.if-not-is_new_file.false))
