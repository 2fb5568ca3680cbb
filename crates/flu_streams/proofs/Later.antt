-- A time above the greatest one.
use Rattle.std.proofs.Common.{◌≡◌, ℕ, ◌+◌, ◌<◌, true, false, List, [], ◌∷◌, Some, None, refl, ◌∙◌, arith}
use Rattle.std.specs.Prelude.{nat_le}
use Rattle.std.specs.List.{list_all}
use Rattle.std.proofs.lemmas.Bool.Decides.{nat_tests}
use Rattle.flu_lemmas.specs.Counting.{times}
use Rattle.flu_lemmas.proofs.Counting.{times_of_other}
use Rattle.flu_lemmas.proofs.Tests.{and_left, and_right, true_le}
use Rattle.flu_model.specs.declared.moments.Timing.{Timing}
use Rattle.flu_streams.specs.declared.faults.Why.{Why}
use Rattle.flu_streams.specs.Tests.{where_true, margin, same_time, test_behind}

apart_from : (own last time : ℕ) → nat_le own last ≡ true → last < time → own ≡ time → ⊥
apart_from own last time le lt e = let within = true_le own last le in omega (arith, within, lt, e)

-- no row has a time above the greatest one
pub none_later : (earlier : List ℕ) (last time : ℕ) → list_all (λ t. nat_le t last) earlier ≡ true → last < time → times time earlier ≡ 0
none_later [] last time within lt = refl
none_later (t ∷ earlier) last time within lt =
    times_of_other time t earlier (apart_from t last time (and_left (nat_le t last) _ within) lt)
    ∙ none_later earlier last time (and_right (nat_le t last) _ within) lt

-- and it is not late
pub not_late : (last time behind : ℕ) → last < time → nat_le (time + behind) last ≡ false
not_late last time behind lt = grind (arith, nat_tests)

-- so it passes its test
pub passes_later : (timing : Timing) (slack : ℕ) (earlier : List ℕ) (last time : ℕ) → 0 < timing.ties → list_all (λ t. nat_le t last) earlier ≡ true
    → last < time
    → test_behind timing slack earlier (Some last) time ≡ None
passes_later timing slack earlier last time some within lt =
    rw (not_late last time (margin timing slack) lt, none_later earlier last time within lt) (room (timing.ties) (same_time timing last time) some)
  where
    room : (ties : ℕ) (why : Why) → 0 < ties → where_true (nat_le ties 0) why ≡ None
    room ties why some = let e : nat_le ties 0 ≡ false = grind (arith, nat_tests) in rw e refl
