-- Counts that grow one after another.
use Rattle.std.proofs.Common.{◌≡◌, ◌+◌, ◌<◌, ◌≤◌, ℕ, suc, List, [], ◌∷◌, length, inl, inr, refl, sym, ap, ◌∙◌, arith}
use Rattle.std.specs.Prelude.{slice_index, slice_set}
use Rattle.std.proofs.lemmas.Bool.{cases_lt}
use Rattle.std.proofs.lemmas.List.{get_or-set_same, get_or-set_other, length-set}
use Rattle.flu_model.specs.declared.events.Event.{Event}
use Rattle.flu_model.specs.declared.events.Item.{Item}
use Rattle.flu_model.specs.Merging.{merged}
use Rattle.flu_streams.specs.Counts.{count_of_itag, counted_on, grown_by, grown}

-- counts that have grown are known by their places
pub grown_places : (itag : ℕ) (counts new : List ℕ) (events : List Event) → length new ≡ length counts
    → ((k : ℕ) → k < length counts → slice_index new k ≡ counted_on (slice_index counts k) (count_of_itag events (itag + k)))
    → new ≡ grown_by itag counts events
grown_places itag [] [] events long each = refl
grown_places itag [] (n ∷ new) events long each = absurd (omega arith)
grown_places itag (count ∷ counts) [] events long each = absurd (omega arith)
grown_places itag (count ∷ counts) (n ∷ new) events long each =
    let first : itag + 0 ≡ itag = omega arith in
    let here : n ≡ counted_on count (count_of_itag events itag) = each 0 (omega arith) ∙ ap (λ i. counted_on count (count_of_itag events i)) first in
    let rest : new ≡ grown_by (suc itag) counts events =
    grown_places (suc itag) counts new events (omega arith) (λ k lt. each (suc k) (omega arith)
    ∙ ap (λ i. counted_on (slice_index counts k) (count_of_itag events i)) (omega arith)) in
    λ i. here i ∷ rest i

length-grown : (itag : ℕ) (counts : List ℕ) (events : List Event) → length (grown_by itag counts events) ≡ length counts
length-grown itag [] events = refl
length-grown itag (count ∷ counts) events = ap suc (length-grown (suc itag) counts events)

-- there are as many of them
pub grown_each : (n : ℕ) (counts new : List ℕ) (lists : List (List Item)) → length counts ≡ n → new ≡ grown counts lists → length new ≡ n
grown_each n counts new lists each grew = ap length grew ∙ length-grown 0 counts (merged lists) ∙ each

-- the counts of the first itags have grown, and the others are as they were
pub record HaveGrownTo (number : ℕ) (events : List Event) (old now : List ℕ) : Type 0 where
  pub len : length now ≡ length old
  pub done : (k : ℕ) → k < number → slice_index now k ≡ counted_on (slice_index old k) (count_of_itag events k)
  pub ahead : (k : ℕ) → number ≤ k → slice_index now k ≡ slice_index old k

pub none_grown : (events : List Event) (old : List ℕ) → HaveGrownTo 0 events old old
none_grown events old = record { len = refl; done = λ k lt. absurd (omega (arith, lt)); ahead = λ k le. refl }

pub one_more : (number : ℕ) (events : List Event) (old now : List ℕ) (count more : ℕ) → HaveGrownTo number events old now → number < length now
    → count ≡ counted_on (slice_index now number) more → more ≡ count_of_itag events number → HaveGrownTo (number + 1) events old (slice_set now number count)
one_more number events old now count more grew lt is many = record {
  len = length-set now number count ∙ grew.len;
  done = λ k below. elim (cases_lt k number) [
    | inl before ↦ get_or-set_other now number k count 0 (λ (same : k ≡ number). omega (arith, before, same)) ∙ grew.done k before
    | inr after ↦
        let same : k ≡ number = omega (arith, after, below) in
        ap (slice_index (slice_set now number count)) same ∙ get_or-set_same now number count 0 lt ∙ is
        ∙ (λ i. counted_on (grew.ahead number (omega arith) i) (many i))
        ∙ (λ i. counted_on (slice_index old (sym same i)) (count_of_itag events (sym same i)))
  ];
  ahead = λ k le. get_or-set_other now number k count 0 (λ (same : k ≡ number). omega (arith, le, same)) ∙ grew.ahead k (omega (arith, le));
}

pub all_grown : (number : ℕ) (events : List Event) (old now : List ℕ) → HaveGrownTo number events old now → number ≡ length old → now ≡ grown_by 0 old events
all_grown number events old now grew all =
    grown_places 0 old now events grew.len (λ k lt. grew.done k (omega (arith, lt, all))
    ∙ ap (λ i. counted_on (slice_index old k) (count_of_itag events i)) (omega arith))
