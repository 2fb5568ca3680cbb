-- A state that is filled cell by cell from the amounts of a state that can be saved; and such a state is the only one of its amounts.
use Rattle.std.proofs.Common.{◌≡◌, ℕ, zero, suc, ◌+◌, ◌<◌, ◌++◌, Bool, true, false, cond, Option, Some, None, pos, List, [], ◌∷◌, length, get_or, take, refl}
use Rattle.std.proofs.Common.{sym, ap, subst, ◌∙◌, arith}
use Rattle.std.specs.Prelude.{slice_get, option_map, ◌&&◌, ◌||◌, ◌==◌, if◌then◌else◌, is_some, FitsSigned}
use Rattle.std.specs.Int.{w128}
use Rattle.std.specs.List.{list_any, list_all, filter, flat_map, range_with_len}
use Rattle.std.proofs.lemmas.Grind.{common_steps}
use Rattle.std.proofs.Math.Seq.{take-length}
use Rattle.std.proofs.lemmas.List.{length-map}
use Rattle.std.proofs.lemmas.List.Folds.{list_any-append, list_all-append, list_all-map}
use Rattle.std.proofs.lemmas.Option.{slice_get-get_or, slice_get-map}
use Rattle.flu_lemmas.proofs.Booleans.{or_true}
use Rattle.flu_lemmas.proofs.Elements.{passes_at}
use Rattle.flu_lemmas.proofs.Mapped.{from_mapped}
use Rattle.flu_lemmas.proofs.Ranges.{any_in_range}
use Rattle.flu_lemmas.proofs.Searches.{list_any-map}
use Rattle.flu_lemmas.proofs.Tests.{and_left, and_right, both, true_eq}
use Rattle.flu_model.specs.declared.events.Cell.{Cell}
use Rattle.flu_model.specs.declared.events.Worth.{Worth}
use Rattle.flu_model.specs.declared.events.Worth.TheVariants.{Sum, Max, Last}
use Rattle.flu_model.specs.declared.jobs.Family.{Family}
use Rattle.flu_model.specs.declared.jobs.Sort.{Sort}
use Rattle.flu_model.specs.declared.jobs.Sort.TheVariants.{Sum as SumSort, Max as MaxSort, Last as LastSort}
use Rattle.flu_model.specs.Contents.{Contents, cell, is_same_cell, nothing_held, with_worth, held_keys, all_keys, key_count}
use Rattle.flu_model.specs.Sorts.{key_is_in, MayHold, IsStateOf, IsWorthOf, IsWorthIn}
use Rattle.flu_partial.specs.declared.values.Amount.{Amount}
use Rattle.flu_save.specs.Checkpoint.{number_held, cells_of_family, cells_held, HasWordWidth, IsSavable}
use Rattle.flu_save.specs.Widths.{AllHaveWordWidth}
use Rattle.flu_handover.specs.Handing.{amounts_of}
use Rattle.flu_handover.specs.Parts.{amount_of}

-- ---- the amounts of a state, one by one
all_kept : (p : ℕ → Bool) (ks : List ℕ) → list_all p (filter p ks) ≡ true
all_kept p [] = refl
all_kept p (k ∷ ks) = by_test (p k) refl (all_kept p ks)
  where
    by_test : (b : Bool) → p k ≡ b → list_all p (filter p ks) ≡ true → list_all p (cond b (k ∷ filter p ks) (filter p ks)) ≡ true
    by_test true e more = both (p k) (list_all p (filter p ks)) e more
    by_test false e more = more

abbrev pub is_held : Contents → Cell → Bool
is_held s c = is_some (s c)

pub all_held : (s : Contents) (fs : List ℕ) → list_all (is_held s) (flat_map (cells_of_family s) fs) ≡ true
all_held s [] = refl
all_held s (f ∷ fs) =
    let cells = cells_of_family s f in
    let others = flat_map (cells_of_family s) fs in
    let first : list_all (is_held s) cells ≡ true = list_all-map (is_held s) (cell f) (held_keys s f) ∙ all_kept (λ k. is_some (s (cell f k))) all_keys in
    list_all-append (is_held s) cells others ∙ both (list_all (is_held s) cells) (list_all (is_held s) others) first (all_held s fs)

pub from_some : (o : Option Worth) → is_some o ≡ true → (w : Worth) × (o ≡ Some w)
from_some None h = absurd cc
from_some (Some w) h = (w, refl)

-- the amount is that of a cell of the state
pub record AmountAt (families : List Family) (s : Contents) (a : Amount) (i : ℕ) : Type 0 where
  pub worth : Worth
  pub there : slice_get (cells_held families s) i ≡ Some a.cell
  pub holds : s a.cell ≡ Some worth
  pub fits : MayHold families a.cell (Some worth)
  pub width : HasWordWidth (Some worth)
  pub number : a.value ≡ number_held (Some worth)

pub amount_at : (families : List Family) (s : Contents) (amounts : List Amount) (i : ℕ) (a : Amount) → IsSavable families s → amounts ≡ amounts_of families s
    → slice_get amounts i ≡ Some a → AmountAt families s a i
amount_at families s amounts i a savable same here =
    let seen : slice_get (amounts_of families s) i ≡ Some a = ap (λ (xs : List Amount). slice_get xs i) (sym same) ∙ here in
    let found = from_mapped (amount_of s) (cells_held families s) i a seen in
    let of : a.cell ≡ found.0 = ap (λ (x : Amount). x.cell) found.2 in
    let some = passes_at (is_held s) (cells_held families s) i found.0 (all_held s (range_with_len 0 (length families))) found.1 in
    let held = from_some (s a.cell) (ap (is_held s) of ∙ some) in
    record {
      worth = held.0;
      there = found.1 ∙ ap Some (sym of);
      holds = held.1;
      fits = subst (λ o. MayHold families a.cell o) held.1 (savable.sorts a.cell);
      width = subst HasWordWidth held.1 (savable.width a.cell);
      number = ap (λ (x : Amount). x.value) found.2 ∙ ap (λ c. number_held (s c)) (sym of) ∙ ap number_held held.1;
    }

-- an item of a list of amounts, as code reads it
abbrev pub no_amount : Amount
no_amount = record { cell = cell 0 0; value = pos 0 }

pub amount_item : (families : List Family) (s : Contents) (amounts : List Amount) (i : ℕ) → IsSavable families s → amounts ≡ amounts_of families s
    → i < length amounts → AmountAt families s (get_or amounts i no_amount) i
amount_item families s amounts i savable same lt =
    amount_at families s amounts i (get_or amounts i no_amount) savable same (slice_get-get_or amounts i no_amount lt)

-- ---- the cells that were filled so far
take_next : {X : Type 0} (xs : List X) (i : ℕ) (x : X) → slice_get xs i ≡ Some x → take (suc i) xs ≡ take i xs ++ x ∷ []
take_next [] i x at = absurd cc
take_next (y ∷ ys) zero x at = let same : y ≡ x = cc in ap (λ z. z ∷ []) same
take_next (y ∷ ys) (suc i) x at = ap (λ zs. y ∷ zs) (take_next ys i x at)

abbrev pub among : Contents → List Cell → Contents
among s cs = λ d. if list_any (is_same_cell d) cs then s d else None

same_cell : (d c : Cell) → is_same_cell d c ≡ true → d ≡ c
same_cell d c e =
    let family = true_eq d.family c.family (and_left (d.family == c.family) (d.key == c.key) e) in
    let key = true_eq d.key c.key (and_right (d.family == c.family) (d.key == c.key) e) in
    λ i. record { family = family i; key = key i }

one_more : (s : Contents) (cs : List Cell) (c : Cell) (w : Worth) → s c ≡ Some w → with_worth (among s cs) c (Some w) ≡ among s (cs ++ c ∷ [])
one_more s cs c w is = λ i d. at d i
  where
    at : (d : Cell) → with_worth (among s cs) c (Some w) d ≡ among s (cs ++ c ∷ []) d
    at d = by_test (is_same_cell d c) refl
      where
        more : list_any (is_same_cell d) (cs ++ c ∷ []) ≡ (list_any (is_same_cell d) cs || (is_same_cell d c || false))
        more = list_any-append (is_same_cell d) cs (c ∷ [])

        by_test : (b : Bool) → is_same_cell d c ≡ b → cond b (Some w) (among s cs d) ≡ among s (cs ++ c ∷ []) d
        by_test true e =
            sym is ∙ ap s (sym (same_cell d c e))
            ∙ ap (λ b. cond b (s d) None) (sym (more ∙ ap (λ b. list_any (is_same_cell d) cs || (b || false)) e ∙ or_true (list_any (is_same_cell d) cs)))
        by_test false e = ap (λ b. cond b (s d) None) (sym (more ∙ ap (λ b. list_any (is_same_cell d) cs || (b || false)) e ∙ or_nothing (list_any
            (is_same_cell d) cs)))
          where
            or_nothing : (b : Bool) → (b || (false || false)) ≡ b
            or_nothing true = refl
            or_nothing false = refl

pub fills_next : (families : List Family) (s : Contents) (a : Amount) (i : ℕ) (here : AmountAt families s a i) (w : Worth) (old new : Contents) → w ≡ here.worth
    → old ≡ among s (take i (cells_held families s)) → new ≡ with_worth old a.cell (Some w) → new ≡ among s (take (i + 1) (cells_held families s))
fills_next families s a i here w old new same was is =
    let next : suc i ≡ i + 1 = omega arith in
    is ∙ (λ k. with_worth (was k) a.cell (Some (same k))) ∙ one_more s (take i (cells_held families s)) a.cell here.worth here.holds
    ∙ ap (among s) (sym (take_next (cells_held families s) i a.cell here.there) ∙ ap (λ n. take n (cells_held families s)) next)

-- ---- all of them
any_flat : {X Y : Type 0} (p : Y → Bool) (g : X → List Y) (xs : List X) → list_any p (flat_map g xs) ≡ list_any (λ x. list_any p (g x)) xs
any_flat p g [] = refl
any_flat p g (x ∷ xs) = list_any-append p (g x) (flat_map g xs) ∙ ap (λ b. list_any p (g x) || b) (any_flat p g xs)

any_kept : (p q : ℕ → Bool) (ks : List ℕ) → list_any (λ k. q k && p k) ks ≡ true → list_any p (filter q ks) ≡ true
any_kept p q [] h = h
any_kept p q (k ∷ ks) h = by_test (q k) (p k) refl refl (any_kept p q ks)
  where
    by_test : (a b : Bool) → q k ≡ a → p k ≡ b → (list_any (λ j. q j && p j) ks ≡ true → list_any p (filter q ks) ≡ true)
        → list_any p (cond a (k ∷ filter q ks) (filter q ks)) ≡ true
    by_test true true e f more = ap (λ b. b || list_any p (filter q ks)) f
    by_test true false e f more = ap (λ b. b || list_any p (filter q ks)) f
        ∙ more (sym (ap (λ b. (b && p k) || list_any (λ j. q j && p j) ks) e ∙ ap (λ b. b || list_any (λ j. q j && p j) ks) f) ∙ h)
    by_test false b e f more = more (sym (ap (λ a. (a && p k) || list_any (λ j. q j && p j) ks) e) ∙ h)

pub key_below : (o : Option Family) (key : ℕ) → key_is_in o key ≡ true → key < key_count
key_below None key h = absurd cc
key_below (Some f) key h = grind (arith, common_steps)

pub family_below : (families : List Family) (i key : ℕ) → key_is_in (slice_get families i) key ≡ true → i < length families
family_below [] i key h = absurd cc
family_below (f ∷ fs) zero key h = omega arith
family_below (f ∷ fs) (suc i) key h = omega (arith, family_below fs i key h)

itself : (d : Cell) → is_same_cell d d ≡ true
itself d = grind (arith, common_steps)

has_cell : (families : List Family) (s : Contents) (d : Cell) (w : Worth) → IsStateOf families s → s d ≡ Some w
    → list_any (is_same_cell d) (cells_held families s) ≡ true
unfolding all_keys
has_cell families s d w sorts is =
    any_flat (is_same_cell d) (cells_of_family s) (range_with_len 0 (length families))
    ∙ any_in_range (λ f. list_any (is_same_cell d) (cells_of_family s f)) 0 (length families) d.family (omega arith) (omega (arith, family)) in_family
  where
    fits : MayHold families d (Some w)
    fits = subst (λ o. MayHold families d o) is (sorts d)

    family : d.family < length families
    family = family_below families d.family d.key fits.0

    key : d.key < key_count
    key = key_below (slice_get families d.family) d.key fits.0

    in_family : list_any (is_same_cell d) (cells_of_family s d.family) ≡ true
    in_family =
        list_any-map (is_same_cell d) (cell d.family) (held_keys s d.family)
        ∙ any_kept (λ k. is_same_cell d (cell d.family k)) (λ k. is_some (s (cell d.family k))) all_keys
        (any_in_range (λ k. is_some (s (cell d.family k)) && is_same_cell d (cell d.family k)) 0 key_count d.key (omega arith) (omega (arith, key))
        (both (is_some (s d)) (is_same_cell d d) (ap is_some is) (itself d)))

all_filled : (families : List Family) (s : Contents) → IsSavable families s → among s (cells_held families s) ≡ s
all_filled families s savable = λ i d. at d i
  where
    at : (d : Cell) → among s (cells_held families s) d ≡ s d
    at d = by_worth (s d) refl
      where
        by_worth : (o : Option Worth) → s d ≡ o → cond (list_any (is_same_cell d) (cells_held families s)) (s d) None ≡ s d
        by_worth None e = ap (λ o. cond (list_any (is_same_cell d) (cells_held families s)) o None) e
            ∙ none (list_any (is_same_cell d) (cells_held families s)) ∙ sym e
          where
            none : (b : Bool) → cond {A = Option Worth} b None None ≡ None
            none true = refl
            none false = refl
        by_worth (Some w) e = ap (λ b. cond b (s d) None) (has_cell families s d w savable.sorts e)

pub filled : (families : List Family) (s : Contents) (amounts : List Amount) (n : ℕ) (t : Contents) → IsSavable families s → amounts ≡ amounts_of families s
    → n ≡ length amounts → t ≡ among s (take n (cells_held families s)) → t ≡ s
filled families s amounts n t savable same all is =
    let cells = cells_held families s in
    let size : n ≡ length cells = all ∙ ap length same ∙ length-map cells (amount_of s) in
    is ∙ ap (λ m. among s (take m cells)) size ∙ ap (among s) (take-length cells) ∙ all_filled families s savable

-- ---- states that can be saved
pub nothing_savable : (families : List Family) (t : Contents) → t ≡ nothing_held → IsSavable families t
nothing_savable families t is = subst (IsSavable families) (sym is) (record { sorts = λ c. tt; width = λ c. tt })

pub with_savable : (families : List Family) (t u : Contents) (c : Cell) (w : Worth) → IsSavable families t → MayHold families c (Some w) → HasWordWidth (Some w)
    → u ≡ with_worth t c (Some w) → IsSavable families u
with_savable families t u c w savable fits width is = subst (IsSavable families) (sym is) (record { sorts = sorts; width = widths })
  where
    sorts : (d : Cell) → MayHold families d (with_worth t c (Some w) d)
    sorts d = by_test (is_same_cell d c) refl
      where
        by_test : (b : Bool) → is_same_cell d c ≡ b → MayHold families d (cond b (Some w) (t d))
        by_test true e = subst (λ x. MayHold families x (Some w)) (sym (same_cell d c e)) fits
        by_test false e = savable.sorts d

    widths : (d : Cell) → HasWordWidth (with_worth t c (Some w) d)
    widths d = by_test (is_same_cell d c)
      where
        by_test : (b : Bool) → HasWordWidth (cond b (Some w) (t d))
        by_test true = width
        by_test false = savable.width d

-- it is enough that the cells that are not neutral have values of 64 bits, as far as they are not sums
held_by_all : (s : Contents) (cs : List Cell) (d : Cell) → AllHaveWordWidth s cs → list_any (is_same_cell d) cs ≡ true → HasWordWidth (s d)
held_by_all s [] d all h = absurd cc
held_by_all s (c ∷ cs) d all h = by_test (is_same_cell d c) refl (held_by_all s cs d all.1)
  where
    by_test : (b : Bool) → is_same_cell d c ≡ b → (list_any (is_same_cell d) cs ≡ true → HasWordWidth (s d)) → HasWordWidth (s d)
    by_test true e more = subst (λ x. HasWordWidth (s x)) (sym (same_cell d c e)) all.0
    by_test false e more = more (sym (ap (λ b. b || list_any (is_same_cell d) cs) e) ∙ h)

pub savable_by_cells : (families : List Family) (s : Contents) → IsStateOf families s → AllHaveWordWidth s (cells_held families s) → IsSavable families s
savable_by_cells families s sorts all = record { sorts = sorts; width = widths }
  where
    widths : (d : Cell) → HasWordWidth (s d)
    widths d = by_worth (s d) refl
      where
        by_worth : (o : Option Worth) → s d ≡ o → HasWordWidth (s d)
        by_worth None e = subst HasWordWidth (sym e) tt
        by_worth (Some w) e = held_by_all s (cells_held families s) d all (has_cell families s d w sorts e)

-- what a cell may be made to hold has a key in range and is not neutral
pub key_in_range : (families : List Family) (c : Cell) (w : Worth) → MayHold families c (Some w) → c.key < key_count
key_in_range families c w fits = key_below (slice_get families c.family) c.key fits.0

-- and its number has 128 bits
number_of_sort : (sort : Sort) (w : Worth) → IsWorthOf sort w → HasWordWidth (Some w) → FitsSigned w128 (number_held (Some w))
number_of_sort SumSort (Sum n) a b = a.1
number_of_sort SumSort (Max n) a b = absurd a
number_of_sort SumSort (Last n) a b = absurd a
number_of_sort MaxSort (Sum n) a b = absurd a
number_of_sort MaxSort (Max n) a b = record { sfits = omega (arith, b.sfits) }
number_of_sort MaxSort (Last n) a b = absurd a
number_of_sort LastSort (Sum n) a b = absurd a
number_of_sort LastSort (Max n) a b = absurd a
number_of_sort LastSort (Last n) a b = record { sfits = omega (arith, b.sfits) }

pub number_fits : (o : Option Family) (w : Worth) → IsWorthIn o w → HasWordWidth (Some w) → FitsSigned w128 (number_held (Some w))
number_fits None w a b = absurd a
number_fits (Some f) w a b = number_of_sort f.sort w a b

-- ---- one state of the same amounts
place_of_cell : (d : Cell) (cs : List Cell) → list_any (is_same_cell d) cs ≡ true → (i : ℕ) × (slice_get cs i ≡ Some d)
place_of_cell d [] h = absurd cc
place_of_cell d (c ∷ cs) h = by_test (is_same_cell d c) refl (place_of_cell d cs)
  where
    by_test : (b : Bool) → is_same_cell d c ≡ b → (list_any (is_same_cell d) cs ≡ true → (i : ℕ) × (slice_get cs i ≡ Some d))
        → (i : ℕ) × (slice_get (c ∷ cs) i ≡ Some d)
    by_test true e more = (0, ap Some (sym (same_cell d c e)))
    by_test false e more = let later = more (sym (ap (λ b. b || list_any (is_same_cell d) cs) e) ∙ h) in (suc later.0, later.1)

of_one_sort : (sort : Sort) (v w : Worth) → IsWorthOf sort v → IsWorthOf sort w → number_held (Some v) ≡ number_held (Some w) → v ≡ w
of_one_sort SumSort (Sum m) (Sum n) a b e = ap Sum e
of_one_sort SumSort (Sum m) (Max n) a b e = absurd b
of_one_sort SumSort (Sum m) (Last n) a b e = absurd b
of_one_sort SumSort (Max m) w a b e = absurd a
of_one_sort SumSort (Last m) w a b e = absurd a
of_one_sort MaxSort (Sum m) w a b e = absurd a
of_one_sort MaxSort (Max m) (Sum n) a b e = absurd b
of_one_sort MaxSort (Max m) (Max n) a b e = ap Max e
of_one_sort MaxSort (Max m) (Last n) a b e = absurd b
of_one_sort MaxSort (Last m) w a b e = absurd a
of_one_sort LastSort (Sum m) w a b e = absurd a
of_one_sort LastSort (Max m) w a b e = absurd a
of_one_sort LastSort (Last m) (Sum n) a b e = absurd b
of_one_sort LastSort (Last m) (Max n) a b e = absurd b
of_one_sort LastSort (Last m) (Last n) a b e = ap Last e

pub of_one_family : (o : Option Family) (v w : Worth) → IsWorthIn o v → IsWorthIn o w → number_held (Some v) ≡ number_held (Some w) → v ≡ w
of_one_family None v w a b e = absurd a
of_one_family (Some f) v w a b e = of_one_sort f.sort v w a b e

holds_too : (families : List Family) (s t : Contents) → IsSavable families s → IsSavable families t → amounts_of families s ≡ amounts_of families t
    → (d : Cell) (w : Worth) → s d ≡ Some w → t d ≡ Some w
holds_too families s t savable also same d w is =
    let place = place_of_cell d (cells_held families s) (has_cell families s d w savable.sorts is) in
    let amount : slice_get (amounts_of families s) place.0 ≡ Some (amount_of s d) = slice_get-map (amount_of s) (cells_held families s) place.0
    ∙ ap (option_map (amount_of s)) place.1 in
    let here = amount_at families t (amounts_of families s) place.0 (amount_of s d) also same amount in
    let fits : MayHold families d (Some w) = subst (λ o. MayHold families d o) is (savable.sorts d) in
    let one : here.worth ≡ w = of_one_family (slice_get families d.family) here.worth w here.fits.1 fits.1 (sym here.number ∙ ap number_held is) in
    here.holds ∙ ap Some one

pub amounts_determine : (families : List Family) (s t : Contents) → IsSavable families s → IsSavable families t → amounts_of families s ≡ amounts_of families t
    → s ≡ t
amounts_determine families s t savable also same = λ i d. at d i
  where
    at : (d : Cell) → s d ≡ t d
    at d = by_worth (s d) (t d) refl refl
      where
        by_worth : (o u : Option Worth) → s d ≡ o → t d ≡ u → s d ≡ t d
        by_worth (Some w) u e f = e ∙ sym (holds_too families s t savable also same d w e)
        by_worth None None e f = e ∙ sym f
        by_worth None (Some w) e f = holds_too families t s also savable (sym same) d w f ∙ sym f

-- the family at a place
pub declared : (families items : List Family) (place : ℕ) (f : Family) → items ≡ families → place < length items → f ≡ get_or items place f
    → slice_get families place ≡ Some f
declared families items place f all lt is =
    ap (λ (fs : List Family). slice_get fs place) (sym all) ∙ slice_get-get_or items place f lt ∙ ap Some (sym is)
