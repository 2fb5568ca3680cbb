-- The tables of a quick test of conflicts: an entry that changes, and what stays noted.
use Rattle.std.proofs.Common.{◌≡◌, ◌<◌, ℕ, true, List, length, inl, inr, refl, sym, ap, ◌∙◌}
use Rattle.std.specs.Prelude.{slice_index}
use Rattle.std.proofs.Math.ListN.{set}
use Rattle.std.proofs.lemmas.Bool.{cases_eq}
use Rattle.std.proofs.lemmas.Grind.{get_or-set_at}
use Rattle.std.proofs.lemmas.List.{get_or-set_other}
use Rattle.flu_model.specs.declared.jobs.Program.{Program}
use Rattle.flu_deps.specs.declared.visits.Class.{Class}
use Rattle.flu_deps.specs.declared.clashes.Clashes.{Clashes}
use Rattle.flu_deps.specs.LoopVisits.{has}
use Rattle.flu_deps.specs.LoopClashes.{IsDone, Noted, Apart, KeepsClashes}

pub set_there : (xs : List ℕ) (i v : ℕ) → i < length xs → slice_index (set xs i v) i ≡ v
set_there xs i v lt = get_or-set_at xs i i v 0 refl lt

pub set_other : (xs : List ℕ) (i k v : ℕ) → (k ≡ i → ⊥) → slice_index (set xs i v) k ≡ slice_index xs k
set_other xs i k v other = get_or-set_other xs i k v 0 other

pub clashes_kept : (t : Clashes) → KeepsClashes t t
clashes_kept t = record { always = λ i n h. h; same_key = λ i n h. h; fixed = λ i n h. h }

pub kept_through : (t u v : Clashes) → KeepsClashes t u → KeepsClashes u v → KeepsClashes t v
kept_through t u v f g = record {
  always = λ i n h. g.always i n (f.always i n h);
  same_key = λ i n h. g.same_key i n (f.same_key i n h);
  fixed = λ i n h. g.fixed i n (f.fixed i n h);
}

pub done_kept : (p : Program) (one other : Class) (a b : ℕ) (t u : Clashes) → KeepsClashes t u → IsDone p one other a b t → IsDone p one other a b u
done_kept p one other a b t u kept (Noted done) = Noted (record {
  marks = done.marks;
  meeting = done.meeting;
  marked = done.marked;
  met = done.met;
  always = λ h. kept.always _ b (done.always h);
  same_key = λ h. kept.same_key _ b (done.same_key h);
  fixed = λ j lt kind family there own. kept.fixed j a (done.fixed j lt kind family there own);
})
done_kept p one other a b t u kept (Apart apart) = Apart apart

-- a word of a table that gets one more number keeps the others
pub word_kept : (xs : List ℕ) (i word : ℕ) → i < length xs → ((n : ℕ) → has (slice_index xs i) n ≡ true → has word n ≡ true)
    → (k n : ℕ) → has (slice_index xs k) n ≡ true → has (slice_index (set xs i word) k) n ≡ true
word_kept xs i word lt more k n h =
    elim (cases_eq k i) [
      | inl same ↦ ap (λ j. has (slice_index (set xs i word) j) n) same ∙ ap (λ w. has w n) (set_there xs i word lt)
          ∙ more n (ap (λ j. has (slice_index xs j) n) (sym same) ∙ h)
      | inr other ↦ ap (λ w. has w n) (set_other xs i k word other) ∙ h
    ]
