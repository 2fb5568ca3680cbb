-- What is chosen by a test that is known.
use Rattle.std.proofs.Common.{◌≡◌, Bool, true, false, subst, sym}
use Rattle.flu_calls.specs.Calls.{Chosen}

pub first_chosen : (A B : Type 0) (b : Bool) → b ≡ true → Chosen b A B → A
first_chosen A B b is x = subst (λ c. Chosen c A B) is x

pub second_chosen : (A B : Type 0) (b : Bool) → b ≡ false → Chosen b A B → B
second_chosen A B b is x = subst (λ c. Chosen c A B) is x

pub choose_first : (A B : Type 0) (b : Bool) → b ≡ true → A → Chosen b A B
choose_first A B b is x = subst (λ c. Chosen c A B) (sym is) x

pub choose_second : (A B : Type 0) (b : Bool) → b ≡ false → B → Chosen b A B
choose_second A B b is x = subst (λ c. Chosen c A B) (sym is) x
