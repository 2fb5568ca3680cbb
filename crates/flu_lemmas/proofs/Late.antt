-- A list in order of a number of each element, to which elements are added late.
use Rattle.std.proofs.Common.{◌≡◌, inl, inr, ℕ, zero, suc, ◌+◌, ◌<◌, ◌≤◌, Bool, true, false, ◌||◌, ltb, leb, eqb, List, [], ◌∷◌, ◌++◌, length, map, get_or}
use Rattle.std.proofs.Common.{refl, sym, ap, subst, ◌∙◌, arith}
use Rattle.std.specs.Prelude.{⊤}
use Rattle.std.specs.List.{list_any, insert}
use Rattle.std.proofs.lemmas.Bool.{cases_Bool}
use Rattle.std.proofs.lemmas.Bool.Decides.{nat_tests}
use Rattle.flu_lemmas.specs.Late.{is_less, put_late, rises_from}
use Rattle.flu_lemmas.specs.Sorting.{put_in_order, in_order}
use Rattle.flu_lemmas.proofs.Tests.{and_left, and_right, both, le_true}

-- ---- one element more
late-below : {X : Type 0} (number : X → ℕ) (x z : X) (zs : List X) → ltb (number z) (number x) ≡ true → put_late number x (z ∷ zs) ≡ z ∷ put_late number x zs
late-below number x z zs e = rw e refl

late-above : {X : Type 0} (number : X → ℕ) (x z : X) (zs : List X) → ltb (number z) (number x) ≡ false → put_late number x (z ∷ zs) ≡ x ∷ z ∷ zs
late-above number x z zs e = rw e refl

order-first : {X : Type 0} (number : X → ℕ) (y z : X) (zs : List X) → ltb (number y) (number z) ≡ true → put_in_order (is_less number) y (z ∷ zs) ≡ y ∷ z ∷ zs
order-first number y z zs e = rw e refl

order-later : {X : Type 0} (number : X → ℕ) (y z : X) (zs : List X) → ltb (number y) (number z) ≡ false
    → put_in_order (is_less number) y (z ∷ zs) ≡ z ∷ put_in_order (is_less number) y zs
order-later number y z zs e = rw e refl

commute : {X : Type 0} (number : X → ℕ) (x y : X) (zs : List X)
    → put_in_order (is_less number) y (put_late number x zs) ≡ put_late number x (put_in_order (is_less number) y zs)
commute number x y [] = refl
commute {X} number x y (z ∷ zs) =
    by_tests (ltb (number z) (number x)) refl (ltb (number y) (number z)) refl (ltb (number y) (number x)) refl (commute number x y zs)
  where
    by_tests : (a : Bool) → ltb (number z) (number x) ≡ a → (b : Bool) → ltb (number y) (number z) ≡ b → (c : Bool) → ltb (number y) (number x) ≡ c
        → put_in_order (is_less number) y (put_late number x zs) ≡ put_late number x (put_in_order (is_less number) y zs)
        → put_in_order (is_less number) y (put_late number x (z ∷ zs)) ≡ put_late number x (put_in_order (is_less number) y (z ∷ zs))
    by_tests true below true first true less rest =
        (ap (put_in_order (is_less number) y) (late-below number x z zs below) ∙ order-first number y z (put_late number x zs) first)
        ∙ sym (ap (put_late number x) (order-first number y z zs first) ∙ late-below number x y (z ∷ zs) less
        ∙ ap (λ (l : List X). y ∷ l) (late-below number x z zs below))
    by_tests true below true first false more rest = absurd (grind (arith, nat_tests))
    by_tests true below false later c e rest =
        (ap (put_in_order (is_less number) y) (late-below number x z zs below) ∙ order-later number y z (put_late number x zs) later
        ∙ ap (λ (l : List X). z ∷ l) (rest))
        ∙ sym (ap (put_late number x) (order-later number y z zs later) ∙ late-below number x z (put_in_order (is_less number) y zs) below)
    by_tests false above true first true less rest =
        (ap (put_in_order (is_less number) y) (late-above number x z zs above) ∙ order-first number y x (z ∷ zs) less)
        ∙ sym (ap (put_late number x) (order-first number y z zs first) ∙ late-below number x y (z ∷ zs) less
        ∙ ap (λ (l : List X). y ∷ l) (late-above number x z zs above))
    by_tests false above true first false more rest =
        (ap (put_in_order (is_less number) y) (late-above number x z zs above) ∙ order-later number y x (z ∷ zs) more
        ∙ ap (λ (l : List X). x ∷ l) (order-first number y z zs first))
        ∙ sym (ap (put_late number x) (order-first number y z zs first) ∙ late-above number x y (z ∷ zs) more)
    by_tests false above false later true less rest = absurd (grind (arith, nat_tests))
    by_tests false above false later false more rest =
        (ap (put_in_order (is_less number) y) (late-above number x z zs above) ∙ order-later number y x (z ∷ zs) more
        ∙ ap (λ (l : List X). x ∷ l) (order-later number y z zs later))
        ∙ sym (ap (put_late number x) (order-later number y z zs later) ∙ late-above number x z (put_in_order (is_less number) y zs) above)

pub in_order-late : {X : Type 0} (number : X → ℕ) (xs : List X) (x : X)
    → in_order (is_less number) (xs ++ (x ∷ [])) ≡ put_late number x (in_order (is_less number) xs)
in_order-late number [] x = refl
in_order-late number (y ∷ xs) x = ap (put_in_order (is_less number) y) (in_order-late number xs x) ∙ commute number x y (in_order (is_less number) xs)

-- an element with the number 0 stands first
pub put_late-zero : {X : Type 0} (number : X → ℕ) (x : X) (ys : List X) → number x ≡ 0 → put_late number x ys ≡ x ∷ ys
put_late-zero number x [] none = refl
put_late-zero number x (y ∷ ys) none = let above : ltb (number y) (number x) ≡ false = grind (arith, nat_tests) in rw above refl

pub put_late-map : {X Y : Type 0} (f : X → Y) (number : X → ℕ) (other : Y → ℕ) → ((z : X) → other (f z) ≡ number z) → (x : X) (ys : List X)
    → map f (put_late number x ys) ≡ put_late other (f x) (map f ys)
put_late-map f number other same x [] = refl
put_late-map f number other same x (y ∷ ys) =
    elim (cases_Bool (ltb (number y) (number x))) [
      | inl below ↦ rw (same y, same x, below) (ap (λ (l : List _). f y ∷ l) (put_late-map f number other same x ys))
      | inr above ↦ rw (same y, same x, above) refl
    ]

or_swap : (a b c : Bool) → (a || (b || c)) ≡ (b || (a || c))
or_swap true true c = refl
or_swap true false c = refl
or_swap false b c = refl

pub put_late-any : {X : Type 0} (p : X → Bool) (number : X → ℕ) (x : X) (ys : List X) → list_any p (put_late number x ys) ≡ (p x || list_any p ys)
put_late-any p number x [] = refl
put_late-any p number x (y ∷ ys) =
    elim (cases_Bool (ltb (number y) (number x))) [
      | inl below ↦ rw below (ap (λ b. p y || b) (put_late-any p number x ys) ∙ or_swap (p y) (p x) (list_any p ys))
      | inr above ↦ rw above refl
    ]

-- an element is inserted where all before it are less, and none behind it is
pub put_late-at : {X : Type 0} (number : X → ℕ) (x d : X) (ys : List X) (at : ℕ) → at ≤ length ys → ((i : ℕ) → i < at → number (get_or ys i d) < number x)
    → ((i : ℕ) → at ≤ i → i < length ys → number x ≤ number (get_or ys i d))
    → put_late number x ys ≡ insert ys at x
put_late-at number x d [] zero few below above = refl
put_late-at number x d [] (suc at) few below above = absurd (omega (arith, few))
put_late-at number x d (y ∷ ys) zero few below above =
    let first : number x ≤ number y = above 0 (omega arith) (omega arith) in
    let not_less : ltb (number y) (number x) ≡ false = grind (arith, nat_tests) in
    rw not_less refl
put_late-at number x d (y ∷ ys) (suc at) few below above =
    let first : number y < number x = below 0 (omega arith) in
    let less : ltb (number y) (number x) ≡ true = grind (arith, nat_tests) in
    rw less (ap (λ (l : List _). y ∷ l) (put_late-at number x d ys at (omega (arith, few)) (λ i lt. below (suc i) (omega (arith, lt)))
    (λ i le lt. above (suc i) (omega (arith, le)) (omega (arith, lt)))))

-- ---- numbers that rise
abbrev pub RisesFrom : {X : Type 0} → (X → ℕ) → ℕ → List X → Type 0
RisesFrom number low [] = ⊤
RisesFrom number low (x ∷ xs) = (low ≤ number x) × RisesFrom number (number x + 1) xs

pub rising : {X : Type 0} (number : X → ℕ) (low : ℕ) (xs : List X) → rises_from number low xs ≡ true → RisesFrom number low xs
rising number low [] up = tt
rising number low (x ∷ xs) up =
    let first = and_left (leb low (number x)) (rises_from number (number x + 1) xs) up in
    let le : low ≤ number x = grind (arith, nat_tests) in
    (le, rising number (number x + 1) xs (and_right (leb low (number x)) (rises_from number (number x + 1) xs) up))

pub is_rising : {X : Type 0} (number : X → ℕ) (low : ℕ) (xs : List X) → RisesFrom number low xs → rises_from number low xs ≡ true
is_rising number low [] up = refl
is_rising number low (x ∷ xs) up =
    both (leb low (number x)) (rises_from number (number x + 1) xs) (le_true low (number x) up.0) (is_rising number (number x + 1) xs up.1)

pub rises_lower : {X : Type 0} (number : X → ℕ) (low lower : ℕ) (xs : List X) → lower ≤ low → RisesFrom number low xs → RisesFrom number lower xs
rises_lower number low lower [] le up = tt
rises_lower number low lower (x ∷ xs) le up = (omega (arith, le, up.0), up.1)

rises_above : {X : Type 0} (number : X → ℕ) (low : ℕ) (d : X) (xs : List X) (i : ℕ) → RisesFrom number low xs → i < length xs → low ≤ number (get_or xs i d)
rises_above number low d [] i up lt = absurd (omega (arith, lt))
rises_above number low d (x ∷ xs) zero up lt = up.0
rises_above number low d (x ∷ xs) (suc i) up lt = let k = rises_above number (number x + 1) d xs i up.1 (omega (arith, lt)) in omega (arith, k, up.0)

pub rises_at : {X : Type 0} (number : X → ℕ) (low : ℕ) (d : X) (xs : List X) (i j : ℕ) → RisesFrom number low xs → i < j → j < length xs
    → number (get_or xs i d) < number (get_or xs j d)
rises_at number low d [] i j up lt few = absurd (omega (arith, few))
rises_at number low d (x ∷ xs) i zero up lt few = absurd (omega (arith, lt))
rises_at number low d (x ∷ xs) zero (suc j) up lt few = let k = rises_above number (number x + 1) d xs j up.1 (omega (arith, few)) in omega (arith, k)
rises_at number low d (x ∷ xs) (suc i) (suc j) up lt few = rises_at number (number x + 1) d xs i j up.1 (omega (arith, lt)) (omega (arith, few))

pub rises_late : {X : Type 0} (number : X → ℕ) (low : ℕ) (x : X) (ys : List X) → low ≤ number x → list_any (λ y. eqb (number y) (number x)) ys ≡ false
    → RisesFrom number low ys → RisesFrom number low (put_late number x ys)
rises_late number low x [] le new up = (le, tt)
rises_late {X} number low x (y ∷ ys) le new up =
    by_tests (ltb (number y) (number x)) refl (eqb (number y) (number x)) refl (λ less other. rises_late number (number y + 1) x ys less other up.1)
  where
    by_tests : (a : Bool) → ltb (number y) (number x) ≡ a → (b : Bool) → eqb (number y) (number x) ≡ b → (number y + 1 ≤ number x → list_any (λ y. eqb
        (number y) (number x)) ys ≡ false → RisesFrom number (number y + 1) (put_late number x ys)) → RisesFrom number low (put_late number x (y ∷ ys))
    by_tests a e true same rest = absurd (let old : true ≡ false = rw same at new in cc)
    by_tests true below false other rest =
        let less : number y + 1 ≤ number x = grind (arith, nat_tests) in
        subst (RisesFrom number low) (sym (late-below number x y ys below)) (up.0, rest less (rw other at new))
    by_tests false above false other rest =
        let more : number x + 1 ≤ number y = grind (arith, nat_tests) in
        subst (RisesFrom number low) (sym (late-above number x y ys above)) (le, (more, up.1))
