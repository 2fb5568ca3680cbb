-- Lists of entries, read one by one.
use Rattle.std.proofs.Common.{◌≡◌, ℕ, zero, suc, ◌+◌, ◌<◌, ◌^◌, ◌++◌, Option, Some, None, List, [], ◌∷◌, map, length, get_or, take, drop, true, codes, refl, sym, ap, subst, ◌∙◌, arith}
use Rattle.std.specs.Prelude.{slice_get, option_map, IfSome, IsTrue, ◌&&◌, ◌≤◌}
use Rattle.std.specs.List.{AllByRecursion}
use Rattle.std.proofs.Math.Seq.{take-length}
use Rattle.std.proofs.lemmas.List.{length-map}
use Rattle.std.proofs.lemmas.Option.{slice_get-get_or, slice_get-map}
use Rattle.serde_json.specs.Data.{Data, Items, no_items, item, number, unsigned}
use Rattle.serde_json.specs.Find.{get}
use Rattle.serde_json.specs.View.{view, items_of}
use Rattle.serde_json.specs.declared.value.Value.{Value}
use Rattle.flu_lemmas.proofs.Mapped.{from_mapped}
use Rattle.flu_partial.specs.declared.values.Amount.{Amount}
use Rattle.flu_partial.specs.declared.values.Emitted.{Emitted}
use Rattle.flu_partial.specs.declared.values.Contribution.{Contribution}
use Rattle.flu_partial.specs.declared.values.Place.{Place}
use Rattle.flu_partial.specs.declared.values.Place.TheVariants.{Before, End}
use Rattle.flu_model.specs.declared.events.Cell.{Cell}
use Rattle.flu_partial.specs.Having.{HasPlace}
use Rattle.flu_partial.specs.Partial.{time_or_null, follows, rise, IsAmount, IsContribution, IsEmitted, IsPlace, IsTime, IsTimeOrNone}

holds_at : {X : Type 0} (P : X → Type 0) (xs : List X) (i : ℕ) (x : X) → AllByRecursion P xs → slice_get xs i ≡ Some x → P x
holds_at P [] i x h e = absurd cc
holds_at P (y ∷ ys) zero x h e = let same : y ≡ x = cc in subst P same h.0
holds_at P (y ∷ ys) (suc i) x h e = holds_at P ys i x h.1 e

-- what the entry at a place is of
pub record Entry {X : Type 0} (f : X → Data) (P : X → Type 0) (xs : List X) (i : ℕ) (v : Value) : Type 0 where
  pub item : X
  pub there : slice_get xs i ≡ Some item
  pub value : view v ≡ f item
  pub fits : P item

pub entry_at : {X : Type 0} (f : X → Data) (P : X → Type 0) (vs : List Value) (xs : List X) (i : ℕ) (v : Value) → AllByRecursion P xs
    → map view vs ≡ map f xs → i < length vs → v ≡ get_or vs i v → Entry f P xs i v
entry_at f P vs xs i v fits same lt is =
    let here : slice_get vs i ≡ Some v = slice_get-get_or vs i v lt ∙ ap Some (sym is) in
    let seen : slice_get (map f xs) i ≡ Some (view v) = ap (λ (ds : List Data). slice_get ds i) (sym same) ∙ slice_get-map view vs i
    ∙ ap (option_map view) here in
    let found = from_mapped f xs i (view v) seen in
    record { item = found.0; there = found.1; value = found.2; fits = holds_at P xs i found.0 fits found.1 }

take_next : {X : Type 0} (xs : List X) (i : ℕ) (x : X) → slice_get xs i ≡ Some x → take (suc i) xs ≡ take i xs ++ x ∷ []
take_next [] i x at = absurd cc
take_next (y ∷ ys) zero x at = let same : y ≡ x = cc in ap (λ z. z ∷ []) same
take_next (y ∷ ys) (suc i) x at = ap (λ zs. y ∷ zs) (take_next ys i x at)

pub one_more : {X : Type 0} (xs old new : List X) (i : ℕ) (x y : X) → slice_get xs i ≡ Some x → y ≡ x → old ≡ take i xs → new ≡ old ++ y ∷ []
    → new ≡ take (i + 1) xs
one_more xs old new i x y there is was more =
    let next : suc i ≡ i + 1 = omega arith in
    more ∙ ap (λ z. old ++ z ∷ []) is ∙ ap (λ zs. zs ++ x ∷ []) was ∙ sym (take_next xs i x there) ∙ ap (λ n. take n xs) next

pub all_read : {X : Type 0} (f : X → Data) (vs : List Value) (xs read : List X) (n : ℕ) → map view vs ≡ map f xs → n ≡ length vs → read ≡ take n xs → read ≡ xs
all_read f vs xs read n same all is =
    let size : n ≡ length xs = all ∙ sym (length-map vs view) ∙ ap length same ∙ length-map xs f in
    is ∙ ap (λ m. take m xs) size ∙ take-length xs

-- items of two lists are the same where the lists are
pub same_lists : (ds es : List Data) → items_of ds ≡ items_of es → ds ≡ es
same_lists ds es e = sym (listed ds) ∙ ap list_of e ∙ listed es
  where
    list_of : Items → List Data
    list_of no_items = []
    list_of (item d more) = d ∷ list_of more

    listed : (xs : List Data) → list_of (items_of xs) ≡ xs
    listed [] = refl
    listed (x ∷ xs) = ap (λ ys. x ∷ ys) (listed xs)

-- what was put together of parts in range is in range
pub contribution_fits : (place : Place) (cells : Option (List Amount)) (events : ℕ) (outs : Option (List Emitted)) (o : Option Contribution)
    → IfSome o (λ c. (c.place ≡ place) × (c.events ≡ events) × (cells ≡ Some c.cells) × (outs ≡ Some c.outs) × IsTrue (rise None c.cells))
    → IsPlace place × (events < 2 ^ 64) → IfSome cells (AllByRecursion IsAmount) → IfSome outs (AllByRecursion IsEmitted) → IfSome o IsContribution
contribution_fits place cells events outs None has fits amounts texts = tt
contribution_fits place cells events outs (Some c) has fits amounts texts = record {
  place = subst IsPlace (sym has.0) fits.0;
  amounts = subst (λ (u : Option (List Amount)). IfSome u (AllByRecursion IsAmount)) has.2 amounts;
  rising = has.4;
  events = subst (λ n. n < 2 ^ 64) (sym has.1) fits.1;
  outs = subst (λ (u : Option (List Emitted)). IfSome u (AllByRecursion IsEmitted)) has.3 texts;
}

-- ---- cells that rise
pub rise_next : (last : Option Cell) (xs : List Amount) (i : ℕ) (d : Amount) → i < length xs
    → rise last (drop i xs) ≡ (follows last (get_or xs i d).cell && rise (Some (get_or xs i d).cell) (drop (i + 1) xs))
rise_next last [] i d lt = absurd (omega (arith, lt))
rise_next last (x ∷ xs) zero d lt = refl
rise_next last (x ∷ xs) (suc i) d lt =
    rise_next last xs i d (omega (arith, lt))
    ∙ ap (λ n. follows last (get_or xs i d).cell && rise (Some (get_or xs i d).cell) (drop n (x ∷ xs))) (let e : suc (i + 1) ≡ suc i + 1 = omega arith in e)

pub rise_end : (last : Option Cell) (xs : List Amount) (i : ℕ) → length xs ≤ i → rise last (drop i xs) ≡ true
rise_end last [] zero h = refl
rise_end last [] (suc i) h = refl
rise_end last (x ∷ xs) zero h = absurd (omega (arith, h))
rise_end last (x ∷ xs) (suc i) h = rise_end last xs i (omega (arith, h))

-- ---- places
pub record EndThere (p : Place) (v : Data) : Type 0 where
  pub last : Option ℕ
  pub is : p ≡ End last
  pub fits : IsTimeOrNone last
  pub value : v ≡ time_or_null last

pub end_there : (d : Data) (p : Place) (v : Data) → IsPlace p → HasPlace d p → get (codes "last") d ≡ Some v → EndThere p v
end_there d (Before time itag) v fits has e = let n : None ≡ Some v = sym has.0 ∙ e in absurd cc
end_there d (End last) v fits has e =
    let both : Some v ≡ Some (time_or_null last) = sym e ∙ has in
    let same : v ≡ time_or_null last = cc in
    record { last = last; is = refl; fits = fits; value = same }

pub record EventThere (p : Place) (d : Data) : Type 0 where
  pub time : ℕ
  pub itag : ℕ
  pub is : p ≡ Before time (record { 0 = itag })
  pub in_time : IsTime time
  pub in_range : itag < 256
  pub times : get (codes "time") d ≡ Some (number (unsigned time))
  pub itags : get (codes "itag") d ≡ Some (number (unsigned itag))

pub event_there : (d : Data) (p : Place) → IsPlace p → HasPlace d p → get (codes "last") d ≡ None → EventThere p d
event_there d (Before time itag) fits has e =
    record { time = time; itag = itag.0; is = refl; in_time = fits.0; in_range = fits.1; times = has.1; itags = has.2 }
event_there d (End last) fits has e = let n : None ≡ Some (time_or_null last) = sym e ∙ has in absurd cc
