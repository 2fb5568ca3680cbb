-- A state that is filled cell by cell from the entries of a state that can be saved.
use Rattle.std.proofs.Common.{◌≡◌, ℕ, zero, suc, ◌+◌, ◌<◌, ◌++◌, Bool, true, false, cond, Option, Some, None, List, [], ◌∷◌, map, length, get_or, take, refl}
use Rattle.std.proofs.Common.{sym, ap, subst, ◌∙◌, arith}
use Rattle.std.specs.Prelude.{slice_get, option_map, ◌&&◌, ◌||◌, ◌==◌, if◌then◌else◌, is_some}
use Rattle.std.specs.List.{list_any, list_all, filter, flat_map, range_with_len}
use Rattle.std.proofs.lemmas.Grind.{common_steps}
use Rattle.std.proofs.Math.Seq.{take-length}
use Rattle.std.proofs.lemmas.List.{length-map}
use Rattle.std.proofs.lemmas.List.Folds.{list_any-append, list_all-append, list_all-map}
use Rattle.std.proofs.lemmas.Option.{slice_get-get_or, slice_get-map}
use Rattle.serde_json.specs.Data.{Data}
use Rattle.serde_json.specs.View.{view}
use Rattle.serde_json.specs.declared.value.Value.{Value}
use Rattle.flu_lemmas.proofs.Booleans.{or_true}
use Rattle.flu_lemmas.proofs.Elements.{passes_at}
use Rattle.flu_lemmas.proofs.Mapped.{from_mapped}
use Rattle.flu_lemmas.proofs.Ranges.{any_in_range}
use Rattle.flu_lemmas.proofs.Searches.{list_any-map}
use Rattle.flu_lemmas.proofs.Tests.{and_left, and_right, both, true_eq}
use Rattle.flu_model.specs.declared.events.Cell.{Cell}
use Rattle.flu_model.specs.declared.events.Worth.{Worth}
use Rattle.flu_model.specs.declared.jobs.Family.{Family}
use Rattle.flu_model.specs.Contents.{Contents, cell, is_same_cell, nothing_held, with_worth, held_keys, all_keys, key_count}
use Rattle.flu_model.specs.Sorts.{key_is_in, MayHold, IsStateOf}
use Rattle.flu_save.specs.Checkpoint.{entry_of, cells_of_family, cells_held, entries_of, HasWordWidth, IsSavable}
use Rattle.flu_save.specs.Widths.{AllHaveWordWidth}

-- ---- the entries of a state, one by one
all_kept : (p : ℕ → Bool) (ks : List ℕ) → list_all p (filter p ks) ≡ true
all_kept p [] = refl
all_kept p (k ∷ ks) = by_test (p k) refl (all_kept p ks)
  where
    by_test : (b : Bool) → p k ≡ b → list_all p (filter p ks) ≡ true → list_all p (cond b (k ∷ filter p ks) (filter p ks)) ≡ true
    by_test true e more = both (p k) (list_all p (filter p ks)) e more
    by_test false e more = more

abbrev pub is_held : Contents → Cell → Bool
is_held s c = is_some (s c)

pub all_held : (s : Contents) (fs : List ℕ) → list_all (is_held s) (flat_map (cells_of_family s) fs) ≡ true
all_held s [] = refl
all_held s (f ∷ fs) =
    let cells = cells_of_family s f in
    let others = flat_map (cells_of_family s) fs in
    let first : list_all (is_held s) cells ≡ true = list_all-map (is_held s) (cell f) (held_keys s f) ∙ all_kept (λ k. is_some (s (cell f k))) all_keys in
    list_all-append (is_held s) cells others ∙ both (list_all (is_held s) cells) (list_all (is_held s) others) first (all_held s fs)

pub from_some : (o : Option Worth) → is_some o ≡ true → (w : Worth) × (o ≡ Some w)
from_some None h = absurd cc
from_some (Some w) h = (w, refl)

-- the cell of an entry
pub record EntryAt (families : List Family) (s : Contents) (v : Value) (i : ℕ) : Type 0 where
  pub cell : Cell
  pub worth : Worth
  pub there : slice_get (cells_held families s) i ≡ Some cell
  pub holds : s cell ≡ Some worth
  pub entry : view v ≡ entry_of families s cell

pub entry_at : (families : List Family) (s : Contents) (entries : List Value) (i : ℕ) (v : Value) → map view entries ≡ entries_of families s
    → i < length entries
    → v ≡ get_or entries i v → EntryAt families s v i
entry_at families s entries i v same lt is =
    let here : slice_get entries i ≡ Some v = slice_get-get_or entries i v lt ∙ ap Some (sym is) in
    let seen : slice_get (entries_of families s) i ≡ Some (view v) = ap (λ (ds : List Data). slice_get ds i) (sym same) ∙ slice_get-map view entries i
    ∙ ap (option_map view) here in
    let found = from_mapped (entry_of families s) (cells_held families s) i (view v) seen in
    let held = from_some (s found.0) (passes_at (is_held s) (cells_held families s) i found.0 (all_held s (range_with_len 0 (length families))) found.1) in
    record { cell = found.0; worth = held.0; there = found.1; holds = held.1; entry = found.2 }

take_next : {X : Type 0} (xs : List X) (i : ℕ) (x : X) → slice_get xs i ≡ Some x → take (suc i) xs ≡ take i xs ++ x ∷ []
take_next [] i x at = absurd cc
take_next (y ∷ ys) zero x at = let same : y ≡ x = cc in ap (λ z. z ∷ []) same
take_next (y ∷ ys) (suc i) x at = ap (λ zs. y ∷ zs) (take_next ys i x at)

-- ---- the cells that were filled so far
abbrev pub among : Contents → List Cell → Contents
among s cs = λ d. if list_any (is_same_cell d) cs then s d else None

pub same_cell : (d c : Cell) → is_same_cell d c ≡ true → d ≡ c
same_cell d c e =
    let family = true_eq d.family c.family (and_left (d.family == c.family) (d.key == c.key) e) in
    let key = true_eq d.key c.key (and_right (d.family == c.family) (d.key == c.key) e) in
    λ i. record { family = family i; key = key i }

one_more : (s : Contents) (cs : List Cell) (c : Cell) (w : Worth) → s c ≡ Some w → with_worth (among s cs) c (Some w) ≡ among s (cs ++ c ∷ [])
one_more s cs c w is = λ i d. at d i
  where
    at : (d : Cell) → with_worth (among s cs) c (Some w) d ≡ among s (cs ++ c ∷ []) d
    at d = by_test (is_same_cell d c) refl
      where
        more : list_any (is_same_cell d) (cs ++ c ∷ []) ≡ (list_any (is_same_cell d) cs || (is_same_cell d c || false))
        more = list_any-append (is_same_cell d) cs (c ∷ [])

        by_test : (b : Bool) → is_same_cell d c ≡ b → cond b (Some w) (among s cs d) ≡ among s (cs ++ c ∷ []) d
        by_test true e =
            sym is ∙ ap s (sym (same_cell d c e))
            ∙ ap (λ b. cond b (s d) None) (sym (more ∙ ap (λ b. list_any (is_same_cell d) cs || (b || false)) e ∙ or_true (list_any (is_same_cell d) cs)))
        by_test false e = ap (λ b. cond b (s d) None) (sym (more ∙ ap (λ b. list_any (is_same_cell d) cs || (b || false)) e ∙ or_nothing (list_any
            (is_same_cell d) cs)))
          where
            or_nothing : (b : Bool) → (b || (false || false)) ≡ b
            or_nothing true = refl
            or_nothing false = refl

pub fills_next : (families : List Family) (s : Contents) (v : Value) (i : ℕ) (here : EntryAt families s v i) (old new : Contents)
    → old ≡ among s (take i (cells_held families s)) → new ≡ with_worth old here.cell (Some here.worth) → new ≡ among s (take (i + 1) (cells_held families s))
fills_next families s v i here old new was is =
    let next : suc i ≡ i + 1 = omega arith in
    is ∙ ap (λ t. with_worth t here.cell (Some here.worth)) was ∙ one_more s (take i (cells_held families s)) here.cell here.worth here.holds
    ∙ ap (among s) (sym (take_next (cells_held families s) i here.cell here.there) ∙ ap (λ n. take n (cells_held families s)) next)

-- ---- all of them
any_flat : {X Y : Type 0} (p : Y → Bool) (g : X → List Y) (xs : List X) → list_any p (flat_map g xs) ≡ list_any (λ x. list_any p (g x)) xs
any_flat p g [] = refl
any_flat p g (x ∷ xs) = list_any-append p (g x) (flat_map g xs) ∙ ap (λ b. list_any p (g x) || b) (any_flat p g xs)

any_kept : (p q : ℕ → Bool) (ks : List ℕ) → list_any (λ k. q k && p k) ks ≡ true → list_any p (filter q ks) ≡ true
any_kept p q [] h = h
any_kept p q (k ∷ ks) h = by_test (q k) (p k) refl refl (any_kept p q ks)
  where
    by_test : (a b : Bool) → q k ≡ a → p k ≡ b → (list_any (λ j. q j && p j) ks ≡ true → list_any p (filter q ks) ≡ true)
        → list_any p (cond a (k ∷ filter q ks) (filter q ks)) ≡ true
    by_test true true e f more = ap (λ b. b || list_any p (filter q ks)) f
    by_test true false e f more = ap (λ b. b || list_any p (filter q ks)) f
        ∙ more (sym (ap (λ b. (b && p k) || list_any (λ j. q j && p j) ks) e ∙ ap (λ b. b || list_any (λ j. q j && p j) ks) f) ∙ h)
    by_test false b e f more = more (sym (ap (λ a. (a && p k) || list_any (λ j. q j && p j) ks) e) ∙ h)

pub key_below : (o : Option Family) (key : ℕ) → key_is_in o key ≡ true → key < key_count
key_below None key h = absurd cc
key_below (Some f) key h = grind (arith, common_steps)

family_below : (families : List Family) (i key : ℕ) → key_is_in (slice_get families i) key ≡ true → i < length families
family_below [] i key h = absurd cc
family_below (f ∷ fs) zero key h = omega arith
family_below (f ∷ fs) (suc i) key h = omega (arith, family_below fs i key h)

itself : (d : Cell) → is_same_cell d d ≡ true
itself d = grind (arith, common_steps)

has_cell : (families : List Family) (s : Contents) (d : Cell) (w : Worth) → IsStateOf families s → s d ≡ Some w
    → list_any (is_same_cell d) (cells_held families s) ≡ true
unfolding all_keys
has_cell families s d w sorts is =
    any_flat (is_same_cell d) (cells_of_family s) (range_with_len 0 (length families))
    ∙ any_in_range (λ f. list_any (is_same_cell d) (cells_of_family s f)) 0 (length families) d.family (omega arith) (omega (arith, family)) in_family
  where
    fits : MayHold families d (Some w)
    fits = subst (λ o. MayHold families d o) is (sorts d)

    family : d.family < length families
    family = family_below families d.family d.key fits.0

    key : d.key < key_count
    key = key_below (slice_get families d.family) d.key fits.0

    in_family : list_any (is_same_cell d) (cells_of_family s d.family) ≡ true
    in_family =
        list_any-map (is_same_cell d) (cell d.family) (held_keys s d.family)
        ∙ any_kept (λ k. is_same_cell d (cell d.family k)) (λ k. is_some (s (cell d.family k))) all_keys
        (any_in_range (λ k. is_some (s (cell d.family k)) && is_same_cell d (cell d.family k)) 0 key_count d.key (omega arith) (omega (arith, key))
        (both (is_some (s d)) (is_same_cell d d) (ap is_some is) (itself d)))

pub all_filled : (families : List Family) (s : Contents) → IsSavable families s → among s (cells_held families s) ≡ s
all_filled families s savable = λ i d. at d i
  where
    at : (d : Cell) → among s (cells_held families s) d ≡ s d
    at d = by_worth (s d) refl
      where
        by_worth : (o : Option Worth) → s d ≡ o → cond (list_any (is_same_cell d) (cells_held families s)) (s d) None ≡ s d
        by_worth None e = ap (λ o. cond (list_any (is_same_cell d) (cells_held families s)) o None) e
            ∙ none (list_any (is_same_cell d) (cells_held families s)) ∙ sym e
          where
            none : (b : Bool) → cond {A = Option Worth} b None None ≡ None
            none true = refl
            none false = refl
        by_worth (Some w) e = ap (λ b. cond b (s d) None) (has_cell families s d w savable.sorts e)

-- a state has values of 64 bits where the cells that it holds have them
held_by_all : (s : Contents) (cs : List Cell) (d : Cell) → AllHaveWordWidth s cs → list_any (is_same_cell d) cs ≡ true → HasWordWidth (s d)
held_by_all s [] d all h = absurd cc
held_by_all s (c ∷ cs) d all h = by_test (is_same_cell d c) refl (held_by_all s cs d all.1)
  where
    by_test : (b : Bool) → is_same_cell d c ≡ b → (list_any (is_same_cell d) cs ≡ true → HasWordWidth (s d)) → HasWordWidth (s d)
    by_test true e more = subst (λ x. HasWordWidth (s x)) (sym (same_cell d c e)) all.0
    by_test false e more = more (sym (ap (λ b. b || list_any (is_same_cell d) cs) e) ∙ h)

pub savable_by_cells : (families : List Family) (s : Contents) → IsStateOf families s → AllHaveWordWidth s (cells_held families s) → IsSavable families s
savable_by_cells families s sorts all = record { sorts = sorts; width = widths }
  where
    widths : (d : Cell) → HasWordWidth (s d)
    widths d = by_worth (s d) refl
      where
        by_worth : (o : Option Worth) → s d ≡ o → HasWordWidth (s d)
        by_worth None e = subst HasWordWidth (sym e) tt
        by_worth (Some w) e = held_by_all s (cells_held families s) d all (has_cell families s d w sorts e)

pub filled : (families : List Family) (s : Contents) (entries : List Value) (n : ℕ) (t : Contents) → IsSavable families s
    → map view entries ≡ entries_of families s
    → n ≡ length entries → t ≡ among s (take n (cells_held families s)) → t ≡ s
filled families s entries n t savable same all is =
    let cells = cells_held families s in
    let size : n ≡ length cells = all ∙ sym (length-map entries view) ∙ ap length same ∙ length-map cells (entry_of families s) in
    is ∙ ap (λ m. among s (take m cells)) size ∙ ap (among s) (take-length cells) ∙ all_filled families s savable

-- ---- states that can be saved
pub nothing_savable : (families : List Family) (t : Contents) → t ≡ nothing_held → IsSavable families t
nothing_savable families t is = subst (IsSavable families) (sym is) (record { sorts = λ c. tt; width = λ c. tt })

pub with_savable : (families : List Family) (t u : Contents) (c : Cell) (w : Worth) → IsSavable families t → MayHold families c (Some w) → HasWordWidth (Some w)
    → u ≡ with_worth t c (Some w) → IsSavable families u
with_savable families t u c w savable fits width is = subst (IsSavable families) (sym is) (record { sorts = sorts; width = widths })
  where
    sorts : (d : Cell) → MayHold families d (with_worth t c (Some w) d)
    sorts d = by_test (is_same_cell d c) refl
      where
        by_test : (b : Bool) → is_same_cell d c ≡ b → MayHold families d (cond b (Some w) (t d))
        by_test true e = subst (λ x. MayHold families x (Some w)) (sym (same_cell d c e)) fits
        by_test false e = savable.sorts d

    widths : (d : Cell) → HasWordWidth (with_worth t c (Some w) d)
    widths d = by_test (is_same_cell d c)
      where
        by_test : (b : Bool) → HasWordWidth (cond b (Some w) (t d))
        by_test true = width
        by_test false = savable.width d
