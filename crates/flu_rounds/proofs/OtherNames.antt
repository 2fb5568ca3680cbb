-- A run does not change where names do that are no source's file.
use Rattle.std.proofs.Common.{◌≡◌, inl, inr, ℕ, Bool, true, false, List, [], ◌++◌, Option, Some, None, refl, sym, ap, ◌∙◌, subst, arith}
use Rattle.std.proofs.Common.{if◌then◌else◌}
use Rattle.std.specs.Prelude.{Contains, slice_get, unwrap_or}
use Rattle.std.proofs.lemmas.Option.{slice_get_within}
use Rattle.flu_lemmas.proofs.Containing.{kept_at}
use Rattle.flu_lemmas.proofs.Places.{slice_get-there}
use Rattle.flu_lemmas.proofs.Told.{told_then}
use Rattle.flu_model.specs.declared.jobs.Source.{Source}
use Rattle.flu_model.specs.declared.jobs.Program.{Program}
use Rattle.flu_model.specs.Contents.{Contents}
use Rattle.flu_outside.specs.Outside.{Contents as Files, WhereTold}
use Rattle.flu_outside.specs.Taking.{IsReadOut}
use Rattle.flu_rows.specs.declared.rows.Next.{Next}
use Rattle.flu_rows.specs.Reading.{ahead, read_bytes}
use Rattle.std.proofs.lemmas.Bool.{cases_Bool}
use Rattle.flu_model.specs.Rules.{is_clock, file_of_source}
use Rattle.flu_streams.specs.Files.{files_of}
use Rattle.flu_streams.specs.Holding.{Holding, HeldSource, AreHeldBehind, still}
use Rattle.flu_rounds.specs.Coming.{LawOfOtherNames}
use Rattle.flu_rounds.proofs.Comings.{Stands}

-- the file of a source is among those of all
file_among : (xs : List Source) (i : ℕ) (s : Source) → slice_get xs i ≡ Some s → is_clock s ≡ false → Contains (files_of xs) s.file
file_among xs i s is has = kept_at file_of_source xs i s s.file is (ap (λ b. if b then None else Some s.file) has)

-- so is the file of what is held of a source
held_among : (h : Holding) (lines : ℕ → List Next) → AreHeldBehind h lines → (i : ℕ) (s : Source) (source : HeldSource) → slice_get h.program.sources i ≡ Some s
    → slice_get h.sources i ≡ Some source → is_clock s ≡ false → Contains (files_of h.program.sources) source.place.file
held_among h lines behind i s source at is has =
    subst (λ name. Contains (files_of h.program.sources) name) (sym (behind.each i s source at is).file) (file_among h.program.sources i s at has)

-- what is still to be read stays: of a clock there is nothing
still_by : (source : HeldSource) (was is : Files) → is source.place.file ≡ was source.place.file → still source is ≡ still source was
still_by source was is same =
    ap (λ (o : Option (List ℕ)). if source.closed then [] else read_bytes source.place.form source.place.lines (source.place.taken ++ unwrap_or o [])) same

still_none : (source : HeldSource) (was is : Files) → source.closed ≡ true → still source is ≡ still source was
still_none source was is shut = by source.closed shut
  where
    by : (b : Bool) → b ≡ true → (if b then [] else ahead source.place is) ≡ (if b then [] else ahead source.place was)
    by true e = refl
    by false e = absurd cc

still_same : (h : Holding) (lines : ℕ → List Next) → AreHeldBehind h lines → (was is : Files)
    → ((name : List ℕ) → Contains (files_of h.program.sources) name → is name ≡ was name)
    → (i : ℕ) (source : HeldSource) → slice_get h.sources i ≡ Some source → still source is ≡ still source was
still_same h lines behind was is keeps i source here =
    let count = behind.count in
    let lt = slice_get_within h.sources i source here in
    let there = slice_get-there h.program.sources i (omega (arith, count, lt)) in
    elim (cases_Bool (is_clock there.0)) [
      | inl clock ↦ still_none source was is (behind.clocks i there.0 there.1 source here clock)
      | inr has ↦ still_by source was is (keeps source.place.file (held_among h lines behind i there.0 source there.1 here has))
    ]

-- the files of the sources are as they were
abbrev KeepsFiles : List (List ℕ) → Files → Files → Type 0
KeepsFiles names was is = (name : List ℕ) → Contains names name → is name ≡ was name

read_out_same : (names : List (List ℕ)) (name : List ℕ) (a b : Option Files) → Contains names name → WhereTold a b (KeepsFiles names) → IsReadOut name a
    → IsReadOut name b
read_out_same names name None None among keeps out = tt
read_out_same names name None (Some y) among keeps out = absurd keeps
read_out_same names name (Some x) None among keeps out = absurd keeps
read_out_same names name (Some x) (Some y) among keeps out = keeps name among ∙ out

pub law_of_other_names : (border : Option ℕ) (opening : Contents) → LawOfOtherNames border opening
law_of_other_names border opening p rows start left left' now written came keeps =
    let among = λ (i : ℕ) (s : Source) (source : HeldSource) (at : slice_get now.held.program.sources i ≡ Some s)
    (is : slice_get now.held.sources i ≡ Some source)
    (has : is_clock s ≡ false). subst (λ (q : Program). Contains (files_of q.sources) source.place.file) came.program
    (held_among now.held came.before came.behind i s source at is has) in (
      record {
        program = came.program;
        number = came.number;
        done = came.done;
        before = came.before;
        behind = came.behind;
        state = came.state;
        wrote = came.wrote;
        ended = λ i s at source is has closed.
            read_out_same (files_of p.sources) source.place.file left left' (among i s source at is has) keeps (came.ended i s at source is has closed);
        told = told_then (Stands p rows border came.done came.before now) (KeepsFiles (files_of p.sources))
            (Stands p rows border came.done came.before now) start left left'
            (λ was mid is stood same. (
              stood.0,
              λ i source at. stood.1 i source at ∙ ap (λ rest. came.before i ++ rest)
                  (sym (still_same now.held came.before came.behind mid is
                  (λ name there. same name (subst (λ (q : Program). Contains (files_of q.sources) name) came.program there)) i source at)),
            ))
            came.told keeps;
      },
      refl,
    )
