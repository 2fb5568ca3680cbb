-- How many itags sources have, and what reading them does to the files.
use Rattle.std.proofs.Common.{◌≡◌, ◌≢◌, inl, inr, ℕ, zero, suc, ◌+◌, ◌<◌, Bool, true, false, not, List, [], ◌∷◌, ◌++◌, length, map, get_or, take, drop}
use Rattle.std.proofs.Common.{Option, Some, None, refl, sym, ap, ◌∙◌, length-append, subst, arith}
use Rattle.std.specs.Prelude.{Result, Err, IsErrOf, IsSome, is_some, sum_by}
use Rattle.std.specs.List.{list_any, Contains}
use Rattle.std.specs.Cmp.Lexicographic.{bytes_decides}
use Rattle.std.proofs.lemmas.Bool.{cases_Bool}
use Rattle.std.proofs.lemmas.List.{length-map, take-append-drop, drop_more}
use Rattle.std.proofs.lemmas.List.Elements.{Contains-append_left, Contains-append_right, Contains-append_cases}
use Rattle.std.proofs.lemmas.List.Sums.{sum_by-append}
use Rattle.flu_lemmas.proofs.Containing.{contains_one, one_contains}
use Rattle.flu_lemmas.proofs.Tests.{and_left, and_right, not_both}
use Rattle.flu_model.specs.declared.jobs.Source.{Source}
use Rattle.flu_model.specs.Listing.{tags_of_source, itags_of_sources}
use Rattle.flu_model.specs.Rules.{is_same_text, are_distinct}
use Rattle.flu_outside.specs.Outside.{Contents, WhereTold, IsThere, CountApart}
use Rattle.flu_outside.specs.Taking.{TakesFrom, CountsOf, IsReadOut}
use Rattle.flu_streams.specs.Files.{LeavesOthers, CountsOfNames, AreReadOut}
use Rattle.flu_streams.specs.Tags.{width}

-- ---- how many itags there are
pub total_width : (n : ℕ) (sources : List Source) → length (itags_of_sources n sources) ≡ sum_by width sources
total_width n [] = refl
total_width n (s ∷ rest) =
    let more = total_width (n + 1) rest in
    let one : sum_by width (s ∷ rest) ≡ width s + sum_by width rest = sum_by-append width (s ∷ []) rest ∙ omega arith in
    rw one (length-append (map (λ t. (t, n)) (tags_of_source s)) (itags_of_sources (n + 1) rest) ∙ simp length-map (ap (λ m. width s + m) more))

-- ---- names that are among others
same_text_itself : (x y : List ℕ) → x ≡ y → is_same_text x y ≡ true
same_text_itself x y e = (bytes_decides x y).1 e

any_among : {X : Type 0} (p : X → Bool) (xs : List X) (y : X) (ys : List X) → p y ≡ true → list_any p (xs ++ (y ∷ ys)) ≡ true
any_among p [] y ys hit = rw hit refl
any_among p (x ∷ xs) y ys hit = elim (cases_Bool (p x)) [ inl one ↦ rw one refl | inr none ↦ rw none (any_among p xs y ys hit) ]

not_true : (b : Bool) → not b ≡ true → b ≡ true → ⊥
not_true true e f = cc
not_true false e f = cc

pub not_among : (xs : List (List ℕ)) (y : List ℕ) (ys : List (List ℕ)) → are_distinct is_same_text (xs ++ (y ∷ ys)) ≡ true → Contains xs y → ⊥
not_among [] y ys apart (k, lt, e) = absurd (omega (arith, lt))
not_among (x ∷ xs) y ys apart (zero, lt, e) =
    not_true (list_any (is_same_text x) (xs ++ (y ∷ ys))) (and_left _ _ apart) (any_among (is_same_text x) xs y ys (same_text_itself x y e))
not_among (x ∷ xs) y ys apart (suc k, lt, e) = not_among xs y ys (and_right _ _ apart) (k, omega (arith, lt), e)

pub split_sources : (sources : List Source) (i : ℕ) (s : Source) → i < length sources → s ≡ get_or sources i s → sources ≡ take i sources
    ++ (s ∷ drop (i + 1) sources)
split_sources sources i s lt is =
    sym (take-append-drop i sources) ∙ ap (λ rest. take i sources ++ rest) (drop_more sources i s lt ∙ ap (λ (x : Source). x ∷ drop (i + 1) sources) (sym is))

-- ---- what is left of the files
pub leaves_more : (names : List (List ℕ)) (file : List ℕ) (x y z : Contents) → LeavesOthers names x y → TakesFrom file y z
    → LeavesOthers (names ++ (file ∷ [])) x z
leaves_more names file x y z p q = λ other apart.
    q.others other (λ e. apart (Contains-append_right names (file ∷ []) other (one_contains file other e)))
    ∙ p other (λ among. apart (Contains-append_left names (file ∷ []) other among))

pub leaves_wider : (names more : List (List ℕ)) (x y : Contents) → LeavesOthers names x y → LeavesOthers (names ++ more) x y
leaves_wider names more x y p = λ other apart. p other (λ among. apart (Contains-append_left names more other among))

stays_there : (file n : List ℕ) (y z : Contents) → TakesFrom file y z → IsSome (y n) → IsSome (z n)
stays_there file n y z t there =
    elim (cases_Bool (is_some (z n))) [
      | inl yes' ↦ yes'
      | inr none ↦
          let apart : n ≢ file =
          λ e. not_both (is_some (z n)) (ap (λ (m : List ℕ). is_some (z m)) e ∙ t.there ∙ ap (λ (m : List ℕ). is_some (y m)) (sym e) ∙ there) none in
          ap is_some (t.others n apart) ∙ there
    ]

pub there_more : (file : List ℕ) (a b c : Option Contents) → WhereTold b c (TakesFrom file) → ((n : List ℕ) → IsThere a n → IsThere b n) → (n : List ℕ)
    → IsThere a n → IsThere c n
there_more file a None None t before n there = before n there
there_more file a None (Some z) t before n there = absurd t
there_more file a (Some y) None t before n there = absurd t
there_more file a (Some y) (Some z) t before n there = stays_there file n y z t (before n there)

-- ---- the counts
pub counts_wider : (a : Option Contents) (names more : List (List ℕ)) (f g : List ℕ → ℕ) → CountsOfNames a names f g → CountsOfNames a (names ++ more) f g
counts_wider a names more f g p = record { rise = p.rise; apart = λ n apart. p.apart n (λ name among. apart name (Contains-append_left names more name among)) }

apart_there : (a b : Option Contents) (name n : List ℕ) → ((m : List ℕ) → IsThere a m → IsThere b m) → CountApart a name n → CountApart b name n
apart_there a b name n there apart = (apart.0, elim apart.1 [ inl one ↦ inl (there name one) | inr other ↦ inr (there n other) ])

pub counts_more : (a b : Option Contents) (names : List (List ℕ)) (file : List ℕ) (f g h : List ℕ → ℕ) → ((m : List ℕ) → IsThere a m → IsThere b m)
    → CountsOfNames a names f g → CountsOf b file g h → CountsOfNames a (names ++ (file ∷ [])) f h
counts_more a b names file f g h there p q = record {
  rise = λ n. omega (arith, p.rise n, q.rise n);
  apart = λ n apart. q.apart n (apart_there a b file n there (apart file (Contains-append_right names (file ∷ []) file (one_contains file file refl))))
      ∙ p.apart n (λ name among. apart name (Contains-append_left names (file ∷ []) name among));
}

-- ---- files that were read out
pub still_out : (file name : List ℕ) (b c : Option Contents) → WhereTold b c (TakesFrom file) → name ≢ file → IsReadOut name b → IsReadOut name c
still_out file name None None t ne out = tt
still_out file name None (Some z) t ne out = absurd t
still_out file name (Some y) None t ne out = absurd t
still_out file name (Some y) (Some z) t ne out = t.others name ne ∙ out

pub out_more : (names : List (List ℕ)) (file : List ℕ) (b c : Option Contents) → WhereTold b c (TakesFrom file) → (Contains names file → ⊥) → AreReadOut names b
    → IsReadOut file c → AreReadOut (names ++ (file ∷ [])) c
out_more names file b c t apart outs out = λ name among.
    elim (Contains-append_cases names (file ∷ []) name among) [
      | inl earlier ↦ still_out file name b c t (λ e. apart (subst (λ (m : List ℕ). Contains names m) e earlier)) (outs name earlier)
      | inr here ↦ subst (λ (m : List ℕ). IsReadOut m c) (contains_one file name here) out
    ]

-- ---- an answer
pub err_same : {T E : Type 0} (r : Result T E) (x y : E) → r ≡ Err x → IsErrOf r y → x ≡ y
err_same r x y is e = let same : Err x ≡ Err y = sym is ∙ e in cc
