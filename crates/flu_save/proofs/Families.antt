-- A family by its name, and the cells of a state that can be saved.
use Rattle.std.proofs.Common.{◌≡◌, ℕ, zero, suc, ◌+◌, ◌<◌, ◌++◌, Bool, true, false, not, cond, Option, Some, None, List, [], ◌∷◌, map, length, get_or, refl}
use Rattle.std.proofs.Common.{sym, ap, subst, append_assoc, arith, ◌∙◌}
use Rattle.std.specs.Prelude.{slice_get, option_map, IsTrue}
use Rattle.std.specs.List.{list_any, position}
use Rattle.std.specs.Cmp.Lexicographic.{bytes_decides}
use Rattle.std.proofs.lemmas.List.Folds.{list_any-append}
use Rattle.std.proofs.lemmas.Option.{slice_get-get_or, slice_get-map}
use Rattle.flu_lemmas.proofs.Booleans.{or_false_left}
use Rattle.flu_lemmas.proofs.Elements.{fails_at}
use Rattle.flu_lemmas.proofs.Places.{position-cons}
use Rattle.flu_lemmas.proofs.Tests.{and_left, and_right, not_true}
use Rattle.flu_model.specs.declared.events.Cell.{Cell}
use Rattle.flu_model.specs.declared.events.Worth.{Worth}
use Rattle.flu_model.specs.declared.jobs.Family.{Family}
use Rattle.flu_model.specs.declared.jobs.Kind.{Kind}
use Rattle.flu_model.specs.declared.jobs.Source.{Source}
use Rattle.flu_model.specs.declared.jobs.Program.{Program}
use Rattle.flu_model.specs.Numberings.{Numbering}
use Rattle.flu_model.specs.Contents.{Contents}
use Rattle.flu_model.specs.Rules.{is_same_text, are_distinct}
use Rattle.flu_model.specs.Sorts.{IsWorthOf, IsWorthIn, key_is_in, MayHold}
use Rattle.flu_model.specs.Templates.{family_name}
use Rattle.flu_save.specs.Checkpoint.{HasWordWidth, IsSavable}

abbrev named : List ℕ → Family → Bool
named name f = is_same_text f.name name

-- where the names differ, the family with a name is the first one that has it
position_own : (families : List Family) (others : List (List ℕ)) (i : ℕ) (f : Family)
    → are_distinct is_same_text (map (λ (g : Family). g.name) families ++ others) ≡ true
    → slice_get families i ≡ Some f → position (named f.name) families ≡ Some i
position_own [] others i f apart at = absurd cc
position_own (g ∷ gs) others zero f apart at =
    let same : g ≡ f = cc in
    position-cons (named f.name) g gs
    ∙ ap (λ b. cond b (Some 0) (option_map (λ k. k + 1) (position (named f.name) gs))) ((bytes_decides g.name f.name).1 (ap (λ (x : Family). x.name) same))
position_own (g ∷ gs) others (suc i) f apart at =
    let names = map (λ (x : Family). x.name) gs in
    let none : list_any (is_same_text g.name) (names ++ others) ≡ false = not_true _ (and_left (not (list_any (is_same_text g.name) (names ++ others)))
    (are_distinct is_same_text (names ++ others)) apart) in
    let among : list_any (is_same_text g.name) names ≡ false = or_false_left _ _ (sym (list_any-append (is_same_text g.name) names others) ∙ none) in
    let other : is_same_text g.name f.name ≡ false = fails_at (is_same_text g.name) names i f.name among (slice_get-map (λ (x : Family). x.name) gs i ∙ ap
    (option_map (λ (x : Family). x.name)) at) in
    let more = position_own gs others i f (and_right (not (list_any (is_same_text g.name) (names ++ others))) (are_distinct is_same_text
    (names ++ others)) apart) at in
    position-cons (named f.name) g gs
    ∙ ap (λ b. cond b (Some 0) (option_map (λ k. k + 1) (position (named f.name) gs))) other
    ∙ ap (option_map (λ k. k + 1)) more
    ∙ ap Some (omega arith)

-- the family of a cell of a state that can be saved, and what the cell holds
pub record Saves (p : Program) (c : Cell) (w : Worth) : Type 0 where
  pub family : Family
  pub there : slice_get p.families c.family ≡ Some family
  pub key : key_is_in (Some family) c.key ≡ true
  pub sort : IsWorthOf family.sort w
  pub width : HasWordWidth (Some w)

pub saves : (p : Program) (s : Contents) (c : Cell) (w : Worth) → IsSavable p.families s → s c ≡ Some w → Saves p c w
saves p s c w savable is = by_family (slice_get p.families c.family) refl fits.0 fits.1
  where
    fits : MayHold p.families c (Some w)
    fits = subst (λ o. MayHold p.families c o) is (savable.sorts c)

    by_family : (o : Option Family) → slice_get p.families c.family ≡ o → IsTrue (key_is_in o c.key) → IsWorthIn o w → Saves p c w
    by_family None at key worth = absurd cc
    by_family (Some f) at key worth = record { family = f; there = at; key = key; sort = worth; width = subst HasWordWidth is (savable.width c) }

-- the entry's name is found at the family of the cell
pub found_at : (p : Program) (c : Cell) (w : Worth) (saved : Saves p c w) (families : List Family) (name : List ℕ) → families ≡ p.families
    → name ≡ family_name (slice_get p.families c.family) → position (named name) families ≡ Some c.family
found_at p c w saved families name same is =
    ap (position (named name)) same
    ∙ ap (λ n. position (named n) p.families) (is ∙ ap family_name saved.there)
    ∙ position_own p.families (kinds ++ sources ++ lists) c.family saved.family
    (subst (λ names. are_distinct is_same_text names ≡ true) together p.own_names) saved.there
  where
    kinds : List (List ℕ)
    kinds = map (λ (k : Kind). k.name) p.kinds

    sources : List (List ℕ)
    sources = map (λ (s : Source). s.name) p.sources

    lists : List (List ℕ)
    lists = map (λ (l : Numbering). l.name) p.lists

    together : map (λ (f : Family). f.name) p.families ++ kinds ++ sources ++ lists ≡ map (λ (f : Family). f.name) p.families ++ (kinds ++ sources ++ lists)
    together =
        ap (λ names. names ++ lists) (append_assoc (map (λ (f : Family). f.name) p.families) kinds sources)
        ∙ append_assoc (map (λ (f : Family). f.name) p.families) (kinds ++ sources) lists

-- the family at a place
pub same_family : (p : Program) (c : Cell) (w : Worth) (saved : Saves p c w) (families : List Family) (number : ℕ) (f : Family) → families ≡ p.families
    → number ≡ c.family → number < length families → f ≡ get_or families number f → f ≡ saved.family
same_family p c w saved families number f same at lt is =
    let there : slice_get families number ≡ Some f = slice_get-get_or families number f lt ∙ ap Some (sym is) in
    let here : slice_get families number ≡ Some saved.family = ap (λ (xs : List Family). slice_get xs number) same ∙ ap (slice_get p.families) at
    ∙ saved.there in
    cc

pub if_some : (b : Bool) (x y : ℕ) → Some y ≡ cond b (Some x) None → (b ≡ true) × (y ≡ x)
if_some true x y e = (refl, cc)
if_some false x y e = absurd cc

pub of_some : {X : Type 0} (a b : X) → Some a ≡ Some b → a ≡ b
of_some a b e = cc
