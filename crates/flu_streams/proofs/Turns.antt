-- One source among those of a job.
use Rattle.std.proofs.Common.{◌≡◌, ℕ, ◌+◌, ◌<◌, ◌≤◌, List, [], ◌∷◌, ◌++◌, length, take, drop, get_or, sym, ap, ◌∙◌, arith}
use Rattle.std.specs.Prelude.{sum_by}
use Rattle.std.specs.List.{Contains, list_all}
use Rattle.std.proofs.lemmas.List.{take_more}
use Rattle.std.proofs.lemmas.List.Sums.{sum_by_more_le}
use Rattle.std.proofs.lemmas.Grind.{common_steps}
use Rattle.flu_model.specs.declared.jobs.Source.{Source}
use Rattle.flu_model.specs.declared.jobs.Program.{Program}
use Rattle.flu_model.specs.Rules.{is_same_text, are_distinct, source_fits}
use Rattle.flu_streams.specs.Files.{files_of}
use Rattle.flu_streams.specs.Tags.{width}
use Rattle.flu_streams.proofs.Gatherings.{total_width, split_sources}
use Rattle.flu_streams.proofs.SourceFiles.{apart_from_those}

-- the source s has the number i: the sources are those before it, s, and those behind it, and its file is none of theirs
pub record IsTurn (p : Program) (i : ℕ) (s : Source) : Type 0 where
  pub split : p.sources ≡ take i p.sources ++ (s ∷ drop (i + 1) p.sources)
  pub apart : Contains (files_of (take i p.sources)) s.file → ⊥
  pub size : i ≡ length (take i p.sources)
  pub more : take (i + 1) p.sources ≡ take i p.sources ++ (s ∷ [])
  pub narrow : sum_by width (take i p.sources) + width s ≤ 256
  pub few : i < 64

pub turn : (p : Program) (items : List Source) (i : ℕ) (s : Source) → items ≡ p.sources → i < length items → s ≡ get_or items i s → IsTurn p i s
turn p items i s e lt is =
    let within : i < length p.sources = rw e at lt in
    let here : s ≡ get_or p.sources i s = rw e at is in
    let split : p.sources ≡ take i p.sources ++ (s ∷ drop (i + 1) p.sources) = split_sources p.sources i s within here in
    let sum : sum_by width (take i p.sources) + width (get_or p.sources i s) ≤ sum_by width p.sources = sum_by_more_le width p.sources i s within in
    let same : width (get_or p.sources i s) ≡ width s = ap width (sym here) in
    record {
      split = split;
      apart = apart_from_those p.kinds (take i p.sources) (drop (i + 1) p.sources) s
          (ap (list_all (source_fits p.kinds)) (sym split) ∙ p.sources_fit)
          (ap (λ sources. are_distinct is_same_text (files_of sources)) (sym split) ∙ p.own_files);
      size = grind (arith, common_steps);
      more = take_more p.sources i s within ∙ ap (λ (x : Source). take i p.sources ++ (x ∷ [])) (sym here);
      narrow = omega (arith, sum, same, total_width 0 p.sources, p.few_itags);
      few = omega (arith, p.few_sources);
    }
