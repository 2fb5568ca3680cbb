-- What is held before the first round, and behind the last one.
use Rattle.std.proofs.Common.{◌≡◌, ℕ, List, [], map, Option, Some, None, refl, sym, ap, subst, ◌∙◌}
use Rattle.std.specs.Prelude.{slice_get, option_map}
use Rattle.std.proofs.lemmas.List.{length-map}
use Rattle.std.proofs.lemmas.Option.{slice_get-map, slice_get_within}
use Rattle.flu_model.specs.Erasure.{job_of}
use Rattle.flu_lemmas.proofs.Mapped.{from_mapped}
use Rattle.flu_lemmas.proofs.Places.{slice_get-there}
use Rattle.flu_lemmas.proofs.Tests.{not_both}
use Rattle.flu_model.specs.declared.jobs.Kind.{Kind}
use Rattle.flu_model.specs.declared.jobs.Source.{Source}
use Rattle.flu_model.specs.declared.jobs.Program.{Program}
use Rattle.flu_model.specs.declared.moments.Timing.{Timing}
use Rattle.flu_model.specs.Moments.{timing_of}
use Rattle.flu_model.specs.Rules.{is_clock}
use Rattle.flu_outside.specs.Taking.{IsReadOut}
use Rattle.flu_rows.specs.declared.row.RowForm.{RowForm}
use Rattle.flu_rows.specs.Row.{form_of}
use Rattle.flu_streams.specs.Files.{files_of}
use Rattle.flu_streams.proofs.SourceFiles.{among, file_among}
use Rattle.flu_streams.specs.Holding.{HeldSource, IsHeldBehind, unread_source, first_itag, still, LawOfStart, LawOfEnds}

-- ---- an element of a list that was made of another
pub to_mapped : {X Y : Type 0} (f : X → Y) (xs : List X) (i : ℕ) (x : X) → slice_get xs i ≡ Some x → slice_get (map f xs) i ≡ Some (f x)
to_mapped f xs i x e = slice_get-map f xs i ∙ ap (option_map f) e

pub one_there : {X : Type 0} (xs : List X) (i : ℕ) (x y : X) → slice_get xs i ≡ Some x → slice_get xs i ≡ Some y → x ≡ y
one_there xs i x y e f = let same : Some x ≡ Some y = sym e ∙ f in cc

-- ---- the start
pub fresh_behind : (timing : Timing) (form : RowForm) (kinds : List Kind) (first : ℕ) (border : Option ℕ) (s : Source) (source : HeldSource)
    → source ≡ unread_source form border s → IsHeldBehind timing kinds first s border [] source
fresh_behind timing form kinds first border s source is = subst (λ h. IsHeldBehind timing kinds first s border [] h) (sym is) (record {
  file = refl;
  sound = refl;
  low = None;
  items = refl;
  earliest = refl;
  last = refl;
  ended = refl;
  settled = λ goes t e. absurd (no_border t e);
  up_to = λ t e. absurd (no_border t e);
  caught = λ none. sym none;
  goal = λ t e. e;
})
  where
    no_border : (t : ℕ) → None ≡ Some t → ⊥
    no_border t e = cc

pub fresh_at : (p : Program) (border : Option ℕ) (i : ℕ) (s : Source) (source : HeldSource) → slice_get p.sources i ≡ Some s
    → slice_get (map (unread_source (form_of (job_of p)) border) p.sources) i ≡ Some source → source ≡ unread_source (form_of (job_of p)) border s
fresh_at p border i s source e f =
    let k = from_mapped (unread_source (form_of (job_of p)) border) p.sources i source f in
    k.2 ∙ ap (unread_source (form_of (job_of p)) border) (one_there p.sources i k.0 s k.1 e)

pub law_of_start : LawOfStart
law_of_start p rows border = record {
  behind = record {
    count = length-map p.sources (unread_source (form_of (job_of p)) border);
    clocks = λ i s at source f ticks. ap (λ (h : HeldSource). h.closed) (fresh_at p border i s source at f) ∙ ticks;
    each = λ i s source e f. fresh_behind (timing_of p i) (form_of (job_of p)) p.kinds (first_itag p i) border s source (fresh_at p border i s source e f);
  };
  all = λ left whole lines i source f.
      let k = from_mapped (unread_source (form_of (job_of p)) border) p.sources i source f in
      lines i k.0 k.1 ∙ ap (λ (h : HeldSource). still h left) (sym k.2);
  ended = λ left i s at source f file closed.
      absurd (not_both (is_clock s) (ap (λ (h : HeldSource). h.closed) (sym (fresh_at p border i s source at f)) ∙ closed) file);
}

-- ---- the end
pub law_of_ends : LawOfEnds
law_of_ends h lines left behind closed out name names =
    let file = among (files_of h.program.sources) name names in
    let own = file_among h.program.sources file.0 name file.1 in
    let held = slice_get-there h.sources own.at (rw behind.count (slice_get_within h.program.sources own.at own.source own.is)) in
    let is = behind.each own.at own.source held.0 own.is held.1 in
    subst (λ n. IsReadOut n left) (is.file ∙ own.file) (out own.at own.source own.is held.0 held.1 own.goes (closed own.at held.0 held.1))
