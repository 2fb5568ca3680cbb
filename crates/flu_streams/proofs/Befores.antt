-- The elements of a list, each with those before it.
use Rattle.std.proofs.Common.{◌≡◌, List, [], ◌∷◌, ◌++◌, Option, Some, None, refl, ap, ◌∙◌, append_assoc}
use Rattle.std.proofs.lemmas.List.{append-nil}
use Rattle.flu_streams.specs.Before.{with_before, first_some, or_else}

pub with_before-append : {X : Type 0} (before xs ys : List X) → with_before before (xs ++ ys) ≡ with_before before xs ++ with_before (before ++ xs) ys
with_before-append before [] ys = rw append-nil refl
with_before-append before (x ∷ xs) ys =
    let more : with_before (before ++ x ∷ []) (xs ++ ys) ≡ with_before (before ++ x ∷ []) xs ++ with_before (before ++ (x ∷ xs)) ys =
    rw (← append_assoc before (x ∷ []) xs) (with_before-append (before ++ x ∷ []) xs ys) in
    ap (λ rest. (before, x) ∷ rest) more

or_else-assoc : {X : Type 0} (a b c : Option X) → or_else a (or_else b c) ≡ or_else (or_else a b) c
or_else-assoc None b c = refl
or_else-assoc (Some x) b c = refl

pub first_some-append : {X Y : Type 0} (f : X → Option Y) (xs ys : List X) → first_some f (xs ++ ys) ≡ or_else (first_some f xs) (first_some f ys)
first_some-append f [] ys = refl
first_some-append f (x ∷ xs) ys = ap (λ o. or_else (f x) o) (first_some-append f xs ys) ∙ or_else-assoc (f x) (first_some f xs) (first_some f ys)
