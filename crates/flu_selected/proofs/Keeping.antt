-- What stays of files of which some names are closed, over one take.
use Rattle.std.proofs.Common.{◌≡◌, ◌≢◌, ℕ, ◌<◌, ◌∙◌, refl, sym, ap, Bool, true, false, List, [], ◌∷◌, length, take, drop, arith, Option, Some, None}
use Rattle.std.proofs.Common.{Result, Ok, Err, inl, inr}
use Rattle.std.specs.Prelude.{IsSome, is_some, unwrap_or, IfOk, OnErr, min, ◌⊎◌}
use Rattle.std.specs.Option.{option_or}
use Rattle.std.specs.Str.{bytes_eq}
use Rattle.std.proofs.lemmas.Slice.Eq.{bytes_eq-Decides}
use Rattle.flu_lemmas.proofs.Options.{some_there}
use Rattle.flu_lemmas.proofs.Told.{told_weaker}
use Rattle.flu_lemmas.specs.Told.{WhereTold}
use Rattle.flu_lemmas.specs.Named.{IsThere, CountApart}
use Rattle.flu_outside.specs.declared.files.TakeFault.{TakeFault}
use Rattle.flu_outside.specs.Outside.{Contents, Takes, OthersStay, SameLeft, ShareOneCount}
use Rattle.flu_selected.specs.Origin.{left_at, ClosedStay, CountsRise, ClosedCountsStay, ClosedCountsFollow}
use Rattle.flu_selected.specs.Selecting.{left_beside}

-- ---- what a take says of the names
-- the same names are there
abbrev pub SameThere : Contents → Contents → Type 0
SameThere old new = (name : List ℕ) → is_some (new name) ≡ is_some (old name)

module _ (name buffer : List ℕ) (a b : Option Contents) where
  abbrev pub Took : Result ℕ TakeFault → Type 0
  Took r = IfOk r (λ n. WhereTold a b (λ old new. Takes old new name n buffer))

  pub others_stay : (r : Result ℕ TakeFault) → Took r → OnErr r (WhereTold a b SameLeft) → WhereTold a b (OthersStay name)
  others_stay (Ok n) took kept =
      told_weaker (λ old new. Takes old new name n buffer) (OthersStay name) a b (λ old new t. t.others) took
  others_stay (Err e) took kept = told_weaker SameLeft (OthersStay name) a b (λ old new same other ne. same other) kept

there_taken : (name buffer : List ℕ) (n : ℕ) (old new : Contents) → Takes old new name n buffer → SameThere old new
there_taken name buffer n old new t other = by_test (bytes_eq other name) refl
  where
    by_test : (b : Bool) → bytes_eq other name ≡ b → is_some (new other) ≡ is_some (old other)
    by_test true e =
        let same : other ≡ name = (bytes_eq-Decides other name).0 e in
        rw same (ap is_some t.left ∙ sym (ap is_some t.were))
    by_test false e = ap is_some (t.others other (λ same. let is : bytes_eq other name ≡ true = (bytes_eq-Decides other name).1 same in cc))

pub same_there : (name buffer : List ℕ) (a b : Option Contents) (r : Result ℕ TakeFault) → Took name buffer a b r → OnErr r (WhereTold a b SameLeft)
    → WhereTold a b SameThere
same_there name buffer a b (Ok n) took kept =
    told_weaker (λ old new. Takes old new name n buffer) SameThere a b (there_taken name buffer n) took
same_there name buffer a b (Err e) took kept = told_weaker SameLeft SameThere a b (λ old new same other. ap is_some (same other)) kept

pub told_still : (P : Contents → Contents → Type 0) (a b : Option Contents) → WhereTold a b P → is_some b ≡ is_some a
told_still P None None told = refl
told_still P None (Some new) told = absurd told
told_still P (Some old) None told = absurd told
told_still P (Some old) (Some new) told = refl

-- ---- the closed names
pub not_some : {X : Type 0} (o : Option X) → is_some o ≡ false → o ≡ None
not_some None e = refl
not_some (Some x) e = cc

left_still : (name other : List ℕ) (a b : Option Contents) → WhereTold a b (OthersStay name) → other ≢ name → left_at b other ≡ left_at a other
left_still name other None None told ne = refl
left_still name other None (Some new) told ne = absurd told
left_still name other (Some old) None told ne = absurd told
left_still name other (Some old) (Some new) told ne = ap Some (told other ne)

open_name : (is_closed : List ℕ → Bool) (lines : Contents) (name : List ℕ) → ((n : List ℕ) → is_some (lines n) ≡ is_closed n) → lines name ≡ None
    → is_closed name ≡ false
open_name is_closed lines name names none = sym (names name) ∙ ap is_some none

apart_from_open : (is_closed : List ℕ → Bool) (name other : List ℕ) → is_closed name ≡ false → is_closed other ≡ true → other ≢ name
apart_from_open is_closed name other is_open closed same = let here : is_closed name ≡ true = sym (ap is_closed same) ∙ closed in cc

pub closed_still : (is_closed : List ℕ → Bool) (lines : Contents) (name : List ℕ) (k a b : Option Contents) → ((n : List ℕ) → is_some (lines n) ≡ is_closed n)
    → lines name ≡ None → ClosedStay is_closed k a → WhereTold a b (OthersStay name) → ClosedStay is_closed k b
closed_still is_closed lines name k a b names none stay told other closed =
    left_still name other a b told (apart_from_open is_closed name other (open_name is_closed lines name names none) closed) ∙ stay other closed

-- ---- the counts
there_by : (name : List ℕ) (a b : Option Contents) → left_at b name ≡ left_at a name → IsThere a name → IsThere b name
there_by name None b same there = absurd there
there_by name (Some old) None same there = absurd cc
there_by name (Some old) (Some new) same there = let is : new name ≡ old name = cc in ap is_some is ∙ there

pub apart_still : (is_closed : List ℕ → Bool) (lines : Contents) (name : List ℕ) (k a : Option Contents) (first f g : List ℕ → ℕ)
    → ((n : List ℕ) → is_some (lines n) ≡ is_closed n) → lines name ≡ None → ClosedStay is_closed k a
    → ((n : List ℕ) → CountApart a name n → g n ≡ f n) → ClosedCountsStay is_closed k first f → ClosedCountsStay is_closed k first g
apart_still is_closed lines name k a first f g names none stay apart counts other closed there =
    apart other (
      λ same. apart_from_open is_closed name other (open_name is_closed lines name names none) closed (sym same),
      inr (there_by other k a (stay other closed) there),
    ) ∙ counts other closed there

is_there : (left : Option Contents) (name : List ℕ) → IsThere left name ⊎ (¬ IsThere left name)
is_there None name = inr (λ there. there)
is_there (Some left) name = by_test (is_some (left name)) refl
  where
    by_test : (b : Bool) → is_some (left name) ≡ b → IsSome (left name) ⊎ (¬ IsSome (left name))
    by_test true e = inl e
    by_test false e = inr (λ there. cc)

not_there : (a b : Option Contents) (name : List ℕ) → WhereTold a b SameThere → ¬ IsThere a name → ¬ IsThere b name
not_there None None name told absent there = there
not_there None (Some new) name told absent there = absurd told
not_there (Some old) None name told absent there = absurd told
not_there (Some old) (Some new) name told absent there = absent (sym (told name) ∙ there)

-- the count of another name is as it was, if that of the name taken is
count_follows : (name other : List ℕ) (a b : Option Contents) (f g : List ℕ → ℕ) → other ≢ name → ((n : List ℕ) → CountApart a name n → g n ≡ f n)
    → WhereTold a b SameThere → ShareOneCount a f → ShareOneCount b g → g name ≡ f name → g other ≡ f other
count_follows name other a b f g ne apart told was now same =
    elim (is_there a other) as (λ x. g other ≡ f other) [
      | inl there ↦ apart other ((λ e. ne (sym e)), inr there)
      | inr absent ↦
          elim (is_there a name) as (λ y. g other ≡ f other) [
            | inl there ↦ apart other ((λ e. ne (sym e)), inl there)
            | inr none ↦
                now other name (not_there a b other told absent) (not_there a b name told none) ∙ same ∙ was name other none absent
          ]
    ]

pub follow_still : (is_closed : List ℕ → Bool) (lines : Contents) (name : List ℕ) (a b : Option Contents) (first f g : List ℕ → ℕ)
    → ((n : List ℕ) → is_some (lines n) ≡ is_closed n) → lines name ≡ None → CountsRise first f → CountsRise f g
    → ((n : List ℕ) → CountApart a name n → g n ≡ f n) → WhereTold a b SameThere → ShareOneCount a f → ShareOneCount b g
    → ClosedCountsFollow is_closed first f → ClosedCountsFollow is_closed first g
follow_still is_closed lines name a b first f g names none rise more apart told was now follow stay other closed =
    let before : (n : List ℕ) → is_closed n ≡ false → f n ≡ first n = λ n is_open. omega (arith, rise n, more n, stay n is_open) in
    let name_open : is_closed name ≡ false = open_name is_closed lines name names none in
    count_follows name other a b f g (apart_from_open is_closed name other name_open closed) apart told was now
    (stay name name_open ∙ sym (before name name_open))
    ∙ follow before other closed

-- ---- a take of a closed name
pub line_taken : (left : Option Contents) (lines now : Contents) (name : List ℕ) (n : ℕ) (room : ℕ) (buffer : List ℕ) → 0 < room
    → is_some (lines name) ≡ true → n ≡ min room (length (unwrap_or (lines name) [])) → take n buffer ≡ take n (unwrap_or (lines name) [])
    → now name ≡ Some (drop n (unwrap_or (lines name) [])) → ((other : List ℕ) → other ≢ name → now other ≡ lines other)
    → WhereTold (left_beside left lines) (left_beside left now) (λ old new. Takes old new name n buffer)
line_taken None lines now name n room buffer some closed amount given rest others = tt
line_taken (Some left) lines now name n room buffer some closed amount given rest others =
    let bytes = unwrap_or (lines name) [] in
    let is = some_there (lines name) closed in
    let none : n ≡ 0 → length bytes ≡ 0 = λ zero. omega arith in
    record {
      bytes = bytes;
      were = rw is.1 refl;
      enough = omega arith;
      given = given;
      left = rw rest refl;
      end = λ zero. no_items bytes (none zero);
      others = λ other ne. ap (λ (line : Option (List ℕ)). option_or line (left other)) (others other ne);
    }
  where
    no_items : (bytes : List ℕ) → length bytes ≡ 0 → bytes ≡ []
    no_items [] e = refl
    no_items (x ∷ bytes) e = absurd (omega arith)
