-- The reading of a text is what the grammar says of it, and a text has one.
use Rattle.std.proofs.Common.{◌≡◌, ◌≢◌, ◌↔◌, ℕ, zero, suc, ◌+◌, ◌<◌, ◌≤◌, true, false, eqb, List, [], ◌∷◌, ◌++◌, length, Option, Some, None, refl, sym, ap}
use Rattle.std.proofs.Common.{subst, ◌∙◌, inl, inr, arith}
use Rattle.std.specs.Prelude.{Result, Ok, Err, Vec, IsOk}
use Rattle.std.specs.Global.{Global}
use Rattle.std.proofs.lemmas.Bool.{cases_Bool}
use Rattle.std.proofs.lemmas.Bool.Decides.{nat_tests}
use Rattle.flu_text.specs.declared.words.Token.{Token}
use Rattle.flu_text.specs.declared.reading.TextFault.{TextFault}
use Rattle.flu_text.specs.declared.reading.TextFault.TheVariants as f
use Rattle.flu_text.specs.Grammar.{IsToken, IsGap, LeadsTo, AreTokens, IsFirstBadPlace}
use Rattle.flu_text.specs.Reading.{gap_len, next_place, token_at, Reading, prepend, continued, reading_from, reading, Gives}
use Rattle.flu_text.specs.Laws.{TokensAreUnique, BadPlaceIsUnique, TokensOrBadPlace, ReadingIsTokens, ReadingIsBadPlace}
use Rattle.flu_text.proofs.Gaps.{gap_is, gap_one, gap_at_text_end}
use Rattle.flu_text.proofs.Places.{token_is, token_found, token_rises}

-- one token more
pub LeadsTo-more : (text : List ℕ) (from : ℕ) (front : List Token) (t : Token) (to : ℕ) → LeadsTo text from front t.from → IsToken text t
    → IsGap text t.to to → LeadsTo text from (front ++ t ∷ []) to
LeadsTo-more text from [] t to gap is next = (gap, is, next)
LeadsTo-more text from (s ∷ front) t to leads is next = (leads.0, leads.1, LeadsTo-more text s.to front t to leads.2 is next)

-- no token stands at a place
abbrev NoneBegins : List ℕ → ℕ → Type 0
NoneBegins text place = (t : Token) → t.from ≡ place → IsToken text t → ⊥

-- tokens lead from a place to one where none begins
record IsBadFrom (text : List ℕ) (from place : ℕ) : Type 0 where
  front : List Token
  reached : LeadsTo text from front place
  within : place < length text
  none_begins : NoneBegins text place

abbrev Holds : List ℕ → ℕ → Reading → Type 0
Holds text from (Ok ts) = LeadsTo text from ts (length text)
Holds text from (Err place) = IsBadFrom text from place

prepend_holds : (text : List ℕ) (from : ℕ) (t : Token) (r : Reading) → IsGap text from t.from → IsToken text t → Holds text t.to r
    → Holds text from (prepend t r)
prepend_holds text from t (Ok ts) gap is holds = (gap, is, holds)
prepend_holds text from t (Err place) gap is holds = record {
  front = t ∷ holds.front;
  reached = (gap, is, holds.reached);
  within = holds.within;
  none_begins = holds.none_begins;
}

none_here : (text : List ℕ) (place : ℕ) → token_at text place ≡ None → NoneBegins text place
none_here text place e = λ t from is.
    let found : token_at text place ≡ Some t = subst (λ (k : ℕ). token_at text k ≡ Some t) from (token_found text t is) in
    let n : None ≡ Some t = sym e ∙ found in
    cc

continued_holds : (text : List ℕ) (from place : ℕ) (o : Option Token) (more : Token → Reading) → token_at text place ≡ o → IsGap text from place
    → place < length text
    → ((t : Token) → IsToken text t → t.from ≡ place → Holds text t.to (more t)) → Holds text from (continued place o more)
continued_holds text from place None more e gap lt rest = record {
  front = [];
  reached = gap;
  within = lt;
  none_begins = none_here text place e;
}
continued_holds text from place (Some t) more e gap lt rest =
    let is = token_is text place t (omega arith) e in
    prepend_holds text from t (more t) (rw is.1 gap) is.0 (rest t is.0 is.1)

not_equal : (a b : ℕ) → eqb a b ≡ false → a ≤ b → a < b
not_equal a b e le = grind (arith, nat_tests)

holds_from : (most : ℕ) (text : List ℕ) (from : ℕ) → from ≤ length text → length text ≤ from + most → Holds text from (reading_from most text from)
unfolding reading_from
holds_from zero text from le enough = gap_at_text_end text from (omega arith)
holds_from (suc most) text from le enough =
    let next = next_place text from in
    let gap = gap_is text from le in
    elim (cases_Bool (eqb next (length text))) [
      | inl ended ↦ let is : next ≡ length text = grind (arith, nat_tests) in rw ended (subst (IsGap text from) is gap)
      | inr goes_on ↦
          let lt : next < length text = not_equal next (length text) goes_on gap.within in
          rw goes_on (continued_holds text from next (token_at text next) (λ (t : Token). reading_from most text t.to) refl gap lt
          (λ (t : Token) (is : IsToken text t) (at : t.from ≡ next).
          let rises = token_rises text t is in
          holds_from most text t.to is.within (omega (arith, gap.rises))))
    ]

-- what the grammar has is read
equal_test : (a b : ℕ) → a ≡ b → eqb a b ≡ true
equal_test a b e = grind (arith, nat_tests)

unequal_test : (a b : ℕ) → a < b → eqb a b ≡ false
unequal_test a b lt = grind (arith, nat_tests)

reads_end : (most : ℕ) (text : List ℕ) (from : ℕ) → IsGap text from (length text) → reading_from most text from ≡ Ok []
unfolding reading_from
reads_end zero text from gap = refl
reads_end (suc most) text from gap =
    let next : next_place text from ≡ length text = gap_one text from (next_place text from) (length text) (gap_is text from gap.rises) gap in
    rw (equal_test (next_place text from) (length text) next) refl

reads_token : (most : ℕ) (text : List ℕ) (from : ℕ) (t : Token) → IsGap text from t.from → IsToken text t
    → reading_from (suc most) text from ≡ prepend t (reading_from most text t.to)
unfolding reading_from
reads_token most text from t gap is =
    let rises = token_rises text t is in
    let next : next_place text from ≡ t.from = gap_one text from (next_place text from) t.from (gap_is text from (omega (arith, gap.rises, gap.within))) gap in
    rw (next, unequal_test t.from (length text) (omega (arith, is.within)), token_found text t is) refl

none_at : (text : List ℕ) (place : ℕ) (o : Option Token) → place ≤ length text → NoneBegins text place → token_at text place ≡ o → o ≡ None
none_at text place None le none e = refl
none_at text place (Some t) le none e = let is = token_is text place t le e in absurd (none t is.1 is.0)

reads_bad : (most : ℕ) (text : List ℕ) (from place : ℕ) → IsGap text from place → place < length text → NoneBegins text place
    → reading_from (suc most) text from ≡ Err place
unfolding reading_from
reads_bad most text from place gap lt none =
    let next : next_place text from ≡ place = gap_one text from (next_place text from) place (gap_is text from (omega (arith, gap.rises))) gap in
    rw (next, unequal_test place (length text) lt, none_at text place (token_at text place) (omega arith) none refl) refl

leads_ok : (ts : List Token) (most : ℕ) (text : List ℕ) (from : ℕ) → length text ≤ from + most → LeadsTo text from ts (length text)
    → reading_from most text from ≡ Ok ts
leads_ok [] most text from enough leads = reads_end most text from leads
leads_ok (t ∷ ts) zero text from enough leads = absurd (omega (arith, leads.0.rises, token_rises text t leads.1, leads.1.within))
leads_ok (t ∷ ts) (suc most) text from enough leads =
    let rises = token_rises text t leads.1 in
    reads_token most text from t leads.0 leads.1 ∙ ap (prepend t) (leads_ok ts most text t.to (omega (arith, leads.0.rises)) leads.2)

leads_err : (ts : List Token) (most : ℕ) (text : List ℕ) (from place : ℕ) → length text ≤ from + most → LeadsTo text from ts place → place < length text
    → NoneBegins text place → reading_from most text from ≡ Err place
leads_err [] zero text from place enough leads lt none = absurd (omega (arith, leads.rises))
leads_err [] (suc most) text from place enough leads lt none = reads_bad most text from place leads lt none
leads_err (t ∷ ts) zero text from place enough leads lt none = absurd (omega (arith, leads.0.rises, token_rises text t leads.1, leads.1.within))
leads_err (t ∷ ts) (suc most) text from place enough leads lt none =
    let rises = token_rises text t leads.1 in
    reads_token most text from t leads.0 leads.1 ∙ ap (prepend t) (leads_err ts most text t.to place (omega (arith, leads.0.rises)) leads.2 lt none)

-- the laws
pub tokens_read : (text : List ℕ) (ts : List Token) → AreTokens text ts → reading text ≡ Ok ts
unfolding reading
tokens_read text ts are = leads_ok ts (length text) text 0 (omega arith) are

pub bad_place_read : (text : List ℕ) (place : ℕ) → IsFirstBadPlace text place → reading text ≡ Err place
unfolding reading
bad_place_read text place is = leads_err is.front (length text) text 0 place (omega arith) is.reached is.within is.none_begins

reading_holds : (text : List ℕ) → Holds text 0 (reading text)
unfolding reading
reading_holds text = holds_from (length text) text 0 (omega arith) (omega arith)

read_tokens : (text : List ℕ) (ts : List Token) → reading text ≡ Ok ts → AreTokens text ts
read_tokens text ts e = subst (Holds text 0) e (reading_holds text)

read_bad_place : (text : List ℕ) (place : ℕ) → reading text ≡ Err place → IsFirstBadPlace text place
read_bad_place text place e =
    let is : IsBadFrom text 0 place = subst (Holds text 0) e (reading_holds text) in
    record { front = is.front; reached = is.reached; within = is.within; none_begins = is.none_begins }

pub reading_is_tokens : ReadingIsTokens
reading_is_tokens text ts = (read_tokens text ts, tokens_read text ts)

pub reading_is_bad_place : ReadingIsBadPlace
reading_is_bad_place text place = (read_bad_place text place, bad_place_read text place)

ok_same : (r : Reading) (a b : List Token) → r ≡ Ok a → r ≡ Ok b → a ≡ b
ok_same r a b p q = cc

err_same : (r : Reading) (a b : ℕ) → r ≡ Err a → r ≡ Err b → a ≡ b
err_same r a b p q = cc

ok_or_err : (r : Reading) (ts : List Token) (place : ℕ) → r ≡ Ok ts → r ≡ Err place → ⊥
ok_or_err r ts place p q = cc

pub tokens_are_unique : TokensAreUnique
tokens_are_unique text a b p q = ok_same (reading text) a b (tokens_read text a p) (tokens_read text b q)

pub bad_place_is_unique : BadPlaceIsUnique
bad_place_is_unique text a b p q = err_same (reading text) a b (bad_place_read text a p) (bad_place_read text b q)

pub tokens_or_bad_place : TokensOrBadPlace
tokens_or_bad_place text ts place p q = ok_or_err (reading text) ts place (tokens_read text ts p) (bad_place_read text place q)

-- what an answer says that gives the reading
pub whole_exactly : (text : List ℕ) (r : Result (Vec Token Global) TextFault) → Gives (reading text) r → r ≢ Err f.NoMemory
    → (IsOk r ↔ ((found : List Token) × AreTokens text found))
whole_exactly text (Ok found) gives memory = (λ _. (found.items, read_tokens text found.items gives), λ _. refl)
whole_exactly text (Err (f.BadToken place)) gives memory =
    (λ ok. absurd cc, λ are. absurd (ok_or_err (reading text) are.0 place (tokens_read text are.0 are.1) gives))
whole_exactly text (Err f.NoMemory) gives memory = absurd (memory refl)

pub bad_token_exactly : (text : List ℕ) (r : Result (Vec Token Global) TextFault) → Gives (reading text) r → r ≢ Err f.NoMemory → (place : ℕ)
    → (r ≡ Err (f.BadToken place)) ↔ IsFirstBadPlace text place
bad_token_exactly text (Ok found) gives memory place =
    (λ e. absurd cc, λ is. absurd (ok_or_err (reading text) found.items place gives (bad_place_read text place is)))
bad_token_exactly text (Err (f.BadToken other)) gives memory place = (
  λ e. let same : other ≡ place = cc in read_bad_place text place (rw (← same) gives),
  λ is. ap (λ (k : ℕ). Err (f.BadToken k)) (err_same (reading text) other place gives (bad_place_read text place is)),
)
bad_token_exactly text (Err f.NoMemory) gives memory place = absurd (memory refl)

-- a reading as the loop builds it
pub leads_first : (text : List ℕ) (place : ℕ) → place ≡ gap_len false text → LeadsTo text 0 [] place
leads_first text place e =
    let same : next_place text 0 ≡ place = omega (arith, e) in
    subst (IsGap text 0) same (gap_is text 0 (omega arith))

pub leads_more : (text : List ℕ) (found : List Token) (place : ℕ) (t : Token) → LeadsTo text 0 found place → place ≤ length text → token_at text place ≡ Some t
    → LeadsTo text 0 (found ++ t ∷ []) (next_place text t.to)
leads_more text found place t leads le e =
    let is = token_is text place t le e in
    LeadsTo-more text 0 found t (next_place text t.to) (rw is.1 leads) is.0 (gap_is text t.to is.0.within)

pub leads_to_bad : (text : List ℕ) (found : List Token) (place : ℕ) → LeadsTo text 0 found place → place < length text → token_at text place ≡ None
    → IsFirstBadPlace text place
leads_to_bad text found place leads lt e = record { front = found; reached = leads; within = lt; none_begins = none_here text place e }

pub leads_to_end : (text : List ℕ) (found : List Token) (place : ℕ) → LeadsTo text 0 found place → place ≡ length text → AreTokens text found
leads_to_end text found place leads e = subst (LeadsTo text 0 found) e leads
