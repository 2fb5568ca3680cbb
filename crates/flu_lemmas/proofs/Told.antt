-- Facts of two values, which are told or are not.
use Rattle.std.proofs.Common.{◌≡◌, subst, Option, Some, None}
use Rattle.flu_lemmas.specs.Told.{WhereTold}

pub told_then : {A : Type 0} (P Q R : A → A → Type 0) (a b c : Option A) → ((x y z : A) → P x y → Q y z → R x z) → WhereTold a b P → WhereTold b c Q
    → WhereTold a c R
told_then P Q R None None None join p q = tt
told_then P Q R None None (Some z) join p q = absurd q
told_then P Q R None (Some y) c join p q = absurd p
told_then P Q R (Some x) None c join p q = absurd p
told_then P Q R (Some x) (Some y) None join p q = absurd q
told_then P Q R (Some x) (Some y) (Some z) join p q = join x y z p q

pub told_weaker : {A : Type 0} (P Q : A → A → Type 0) (a b : Option A) → ((x y : A) → P x y → Q x y) → WhereTold a b P → WhereTold a b Q
told_weaker P Q None None weaken p = tt
told_weaker P Q None (Some y) weaken p = absurd p
told_weaker P Q (Some x) None weaken p = absurd p
told_weaker P Q (Some x) (Some y) weaken p = weaken x y p

pub told_same : {A : Type 0} (P : A → A → Type 0) (a : Option A) → ((x : A) → P x x) → WhereTold a a P
told_same P None same = tt
told_same P (Some x) same = same x

pub told_both : {A : Type 0} (P Q : A → A → Type 0) (a b : Option A) → WhereTold a b P → WhereTold a b Q → WhereTold a b (λ x y. P x y × Q x y)
told_both P Q None None p q = tt
told_both P Q None (Some y) p q = p
told_both P Q (Some x) None p q = p
told_both P Q (Some x) (Some y) p q = (p, q)

-- where the first is told, so is the second
pub of_told : {A : Type 0} (P : A → A → Type 0) (x : A) (a b : Option A) → a ≡ Some x → WhereTold a b P → (y : A) × P x y
of_told P x None b is p = absurd (cc)
of_told P x (Some old) None is p = absurd p
of_told P x (Some old) (Some new) is p = let same : old ≡ x = cc in (new, subst (λ z. P z new) same p)
