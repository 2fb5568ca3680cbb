-- A job with its head: what the machine finds is the grammar's job, and an unexpected token is the first that cannot follow.
use Rattle.std.proofs.Common.{◌≡◌, ◌≢◌, ◌⊎◌, inl, inr, ℕ, ℤ, pos, true, false, List, [], ◌∷◌, ◌++◌, Option, Some, None, refl, sym, ap, ◌∙◌, subst}
use Rattle.std.proofs.Common.{append_assoc, arith}
use Rattle.std.proofs.lemmas.List.{append-nil}
use Rattle.flu_text.specs.declared.words.Token.{Token}
use Rattle.flu_text.specs.declared.words.Word.{Word}
use Rattle.flu_text.specs.declared.words.Word.TheVariants as w
use Rattle.flu_text.specs.declared.words.Contextual.TheVariants as contextual
use Rattle.flu_names.specs.declared.reserved.Reserved.TheVariants as r
use Rattle.flu_syntax.specs.declared.fault.SyntaxFault.{SyntaxFault}
use Rattle.flu_syntax.specs.declared.fault.SyntaxFault.TheVariants as f
use Rattle.flu_text.specs.declared.written.WrittenNumber.{WrittenNumber}
use Rattle.flu_syntax.specs.declared.tree.WrittenTies.{WrittenTies}
use Rattle.flu_syntax.specs.declared.tree.WrittenUnit.{WrittenUnit}
use Rattle.flu_syntax.specs.declared.tree.WrittenHead.{WrittenHead}
use Rattle.flu_syntax.specs.Tree.{Declaration, Cell, Tag, Names, Depends, On, Source, Clock, Declarations, Job}
use Rattle.flu_text.specs.Signs.{Sign, AreSigns, is_name_word, span_of, number_of, number, place_of}
use Rattle.flu_syntax.specs.Grammar.{declaration_signs, declarations_signs, head_signs, ties_signs, iso_signs, IsJobWithin, IsJob}
use Rattle.flu_syntax.specs.Continued.{MayGoOn, CannotTake, IsFirstThatCannotFollow, IsTooDeep}
use Rattle.flu_syntax.specs.Machine.{Start, Verdict, Found, Unexpected, TooDeep, run, with_head, head_of, unit_of, behind_iso}
use Rattle.flu_syntax.specs.Machine.{ties_of, behind_ties, verdict}
use Rattle.flu_syntax.specs.Reading.{Tells, NotFirst, NotNumber, NotNamed}
use Rattle.flu_syntax.proofs.Accepts.{Reaches, Same, Stops}
use Rattle.flu_syntax.proofs.Found.{declarations_are_reached, declarations_are_found}
use Rattle.flu_syntax.proofs.Levels.{declarations_are_kept}
use Rattle.flu_syntax.proofs.Spelling.{declarations_are_spelled}
use Rattle.flu_syntax.proofs.Viable.{Cannot, first_of_all}
use Rattle.flu_syntax.proofs.Deep.{deep_at}
use Rattle.flu_syntax.proofs.HeadVerdicts.{version_word, ties_word, iso_word, version_or_not, number_or_not, ties_or_not, iso_or_not, name_or_not}
use Rattle.flu_syntax.proofs.HeadVerdicts.{verdict-plain, verdict-versioned}
use Rattle.flu_syntax.proofs.HeadVerdicts.{numbered-number, numbered-none, number-plain, number-ties, ties-counted, ties-none, ties-alone, ties-iso}
use Rattle.flu_syntax.proofs.HeadVerdicts.{iso-named, iso-none}

-- ---- what a head does to a verdict on declarations
record Within (head : Option WrittenHead) (all : Verdict Declarations) (job : Job) : Type 0 where
  same : job.head ≡ head
  found : all ≡ Found job.declarations

with_found : (head : Option WrittenHead) (all : Verdict Declarations) (job : Job) → with_head head all ≡ Found job → Within head all job
with_found head (Found all) job e =
    let same : record { head = head; declarations = all } ≡ job = cc in
    record { same = sym (ap (λ (j : Job). j.head) same); found = ap (λ (j : Job). Found j.declarations) same }
with_found head (Unexpected place) job e = absurd cc
with_found head TooDeep job e = absurd cc

with_unexpected : (head : Option WrittenHead) (all : Verdict Declarations) (place : ℕ) → with_head head all ≡ Unexpected place → all ≡ Unexpected place
with_unexpected head (Found all) place e = absurd cc
with_unexpected head (Unexpected found) place e = let same : found ≡ place = cc in ap Unexpected same
with_unexpected head TooDeep place e = absurd cc

with_too_deep : (head : Option WrittenHead) (all : Verdict Declarations) → with_head head all ≡ TooDeep → all ≡ TooDeep
with_too_deep head (Found all) e = absurd cc
with_too_deep head (Unexpected found) e = absurd cc
with_too_deep head TooDeep e = refl

pub tells_with : (fault : SyntaxFault) (head : Option WrittenHead) (all : Verdict Declarations) → Tells fault all → Tells fault (with_head head all)
tells_with (f.Unexpected place) head all told = rw told refl
tells_with f.TooDeep head all told = rw told refl
tells_with f.NoMemory head all told = tt

-- ---- where a head ends
-- these tokens cannot begin with what a head may have besides
abbrev NoLonger : Option WrittenUnit → List Token → Type 0
NoLonger None rest = NotFirst iso_word rest
NoLonger (Some unit) rest = Unit {0}

abbrev NoTies : Option WrittenTies → Option WrittenUnit → List Token → Type 0
NoTies None None rest = NotFirst ties_word rest
NoTies None (Some unit) rest = Unit {0}
NoTies (Some ties) iso rest = Unit {0}

abbrev Ends : Option WrittenHead → List Token → Type 0
Ends None rest = NotFirst version_word rest
Ends (Some head) rest = NoTies head.ties head.iso rest × NoLonger head.iso rest

not_front : (word : Word) (front rest : List Token) → NotFirst word (front ++ rest) → NotFirst word front
not_front word [] rest other = tt
not_front word (t ∷ front) rest other = other

not_more : (word : Word) (front : List Token) (t : Token) (rest more : List Token) → NotFirst word (front ++ t ∷ rest)
    → NotFirst word ((front ++ t ∷ []) ++ more)
not_more word [] t rest more other = other
not_more word (u ∷ front) t rest more other = other

-- so it ends there too if what follows goes on otherwise behind its first token
ends_front : (head : Option WrittenHead) (front rest : List Token) → Ends head (front ++ rest) → Ends head front
ends_front None front rest ends = not_front version_word front rest ends
ends_front (Some head) front rest ends = (by_ties head.ties head.iso ends.0, by head.iso ends.1)
  where
    by_ties : (ties : Option WrittenTies) (iso : Option WrittenUnit) → NoTies ties iso (front ++ rest) → NoTies ties iso front
    by_ties None None ends = not_front ties_word front rest ends
    by_ties None (Some unit) ends = tt
    by_ties (Some ties) iso ends = tt

    by : (iso : Option WrittenUnit) → NoLonger iso (front ++ rest) → NoLonger iso front
    by None ends = not_front iso_word front rest ends
    by (Some unit) ends = tt

ends_more : (head : Option WrittenHead) (front : List Token) (t : Token) (rest more : List Token) → Ends head (front ++ t ∷ rest)
    → Ends head ((front ++ t ∷ []) ++ more)
ends_more None front t rest more ends = not_more version_word front t rest more ends
ends_more (Some head) front t rest more ends = (by_ties head.ties head.iso ends.0, by head.iso ends.1)
  where
    by_ties : (ties : Option WrittenTies) (iso : Option WrittenUnit) → NoTies ties iso (front ++ t ∷ rest) → NoTies ties iso ((front ++ t ∷ []) ++ more)
    by_ties None None ends = not_more ties_word front t rest more ends
    by_ties None (Some unit) ends = tt
    by_ties (Some ties) iso ends = tt

    by : (iso : Option WrittenUnit) → NoLonger iso (front ++ t ∷ rest) → NoLonger iso ((front ++ t ∷ []) ++ more)
    by None ends = not_more iso_word front t rest more ends
    by (Some unit) ends = tt

-- no declaration begins with `version`, with `ties` or with `iso`
record NoHead (word : Word) : Type 0 where
  version : word ≢ version_word
  ties : word ≢ ties_word
  iso : word ≢ iso_word

no_head : (d : Declaration) (more : List Sign) (t : Token) (tokens : List Token) → AreSigns (declaration_signs d ++ more) (t ∷ tokens) → NoHead t.word
no_head (Cell n cells sort) more t tokens are =
    let first : t.word ≡ w.Reserved r.Cell = are.0 in record { version = λ e. cc; ties = λ e. cc; iso = λ e. cc }
no_head (Tag n keyed item has_value) more t tokens are =
    let first : t.word ≡ w.Reserved r.Tag = are.0 in record { version = λ e. cc; ties = λ e. cc; iso = λ e. cc }
no_head (Names at n texts) more t tokens are =
    let first : t.word ≡ w.Name contextual.Names = are.0.0 in record { version = λ e. cc; ties = λ e. cc; iso = λ e. cc }
no_head (Depends a b how) more t tokens are =
    let first : t.word ≡ w.Reserved r.Depends = are.0 in record { version = λ e. cc; ties = λ e. cc; iso = λ e. cc }
no_head (On kind actions) more t tokens are =
    let first : t.word ≡ w.Reserved r.On = are.0 in record { version = λ e. cc; ties = λ e. cc; iso = λ e. cc }
no_head (Source n file rate slack tags) more t tokens are =
    let first : t.word ≡ w.Reserved r.Source = are.0 in record { version = λ e. cc; ties = λ e. cc; iso = λ e. cc }
no_head (Clock at n every rate tag) more t tokens are =
    let first : t.word ≡ w.Name contextual.Clock = are.0.0 in record { version = λ e. cc; ties = λ e. cc; iso = λ e. cc }

no_heads : (ds : Declarations) (t : Token) (tokens : List Token) → AreSigns (declarations_signs ds) (t ∷ tokens) → NoHead t.word
no_heads [] t tokens are = absurd are
no_heads (d ∷ ds) t tokens are = no_head d (declarations_signs ds) t tokens are

-- a job that begins with a head has this head
record Split (head : Option WrittenHead) (rest : List Token) (job : Job) : Type 0 where
  same : job.head ≡ head
  spelled : AreSigns (declarations_signs job.declarations) rest

module _ (job : Job) where
  -- behind `version` and its number, and `ties` and its number if they are written
  record SplitUnit (iso : Option WrittenUnit) (rest : List Token) (own : Option WrittenUnit) : Type 0 where
    same : own ≡ iso
    spelled : AreSigns (declarations_signs job.declarations) rest

  split_unit : (iso own : Option WrittenUnit) (front rest : List Token) → AreSigns (iso_signs iso) front → NoLonger iso rest
      → AreSigns (iso_signs own ++ declarations_signs job.declarations) (front ++ rest) → SplitUnit iso rest own
  split_unit None None [] rest are ends whole = record { same = refl; spelled = whole }
  split_unit None own (t ∷ front) rest are ends whole = absurd are
  split_unit None (Some unit) [] [] are ends whole = absurd whole
  split_unit None (Some unit) [] (t ∷ rest) are ends whole = absurd (ends whole.0.0)
  split_unit (Some unit) own [] rest are ends whole = absurd are
  split_unit (Some unit) own (i ∷ []) rest are ends whole = absurd are.1
  split_unit (Some unit) own (i ∷ n ∷ t ∷ front) rest are ends whole = absurd are.1.1
  split_unit (Some unit) None (i ∷ n ∷ []) rest are ends whole =
      absurd ((no_heads job.declarations i (n ∷ rest) whole).iso are.0.0)
  split_unit (Some unit) (Some own) (i ∷ n ∷ []) rest are ends whole =
      let at : own.at ≡ unit.at = sym whole.0.1 ∙ are.0.1 in
      let from : own.name.from ≡ unit.name.from = sym whole.1.0.1 ∙ are.1.0.1 in
      let to : own.name.to ≡ unit.name.to = sym whole.1.0.2 ∙ are.1.0.2 in
      let same : unit_of own.at (record { from = own.name.from; to = own.name.to }) ≡ unit = rw (at, from, to) refl in
      record { same = ap Some same; spelled = whole.1.1 }

  -- behind `version` and its number
  record SplitTies (ties : Option WrittenTies) (iso : Option WrittenUnit) (rest : List Token) (own : Option WrittenTies) (unit : Option WrittenUnit)
      : Type 0 where
    same : own ≡ ties
    unit_same : unit ≡ iso
    spelled : AreSigns (declarations_signs job.declarations) rest

  no_ties_behind : (unit : Option WrittenUnit) (s : Token) (tokens : List Token) → s.word ≡ ties_word
      → AreSigns (iso_signs unit ++ declarations_signs job.declarations) (s ∷ tokens) → ⊥
  no_ties_behind None s tokens is are = (no_heads job.declarations s tokens are).ties is
  no_ties_behind (Some unit) s tokens is are = let both : ties_word ≡ iso_word = sym is ∙ are.0.0 in cc

  split_ties : (ties own : Option WrittenTies) (iso unit : Option WrittenUnit) (front rest : List Token) → AreSigns (ties_signs ties ++ iso_signs iso) front
      → NoTies ties iso rest → NoLonger iso rest
      → AreSigns ((ties_signs own ++ iso_signs unit) ++ declarations_signs job.declarations) (front ++ rest) → SplitTies ties iso rest own unit
  split_ties None None iso unit front rest are no_ties ends whole =
      let behind = split_unit iso unit front rest are ends whole in
      record { same = refl; unit_same = behind.same; spelled = behind.spelled }
  split_ties None (Some own) None unit [] [] are no_ties ends whole = absurd whole
  split_ties None (Some own) None unit [] (t ∷ rest) are no_ties ends whole = absurd (no_ties whole.0.0)
  split_ties None (Some own) None unit (t ∷ front) rest are no_ties ends whole = absurd are
  split_ties None (Some own) (Some iso) unit [] rest are no_ties ends whole = absurd are
  split_ties None (Some own) (Some iso) unit (i ∷ front) rest are no_ties ends whole =
      absurd (let both : ties_word ≡ iso_word = sym whole.0.0 ∙ are.0.0 in cc)
  split_ties (Some ties) own iso unit [] rest are no_ties ends whole = absurd are
  split_ties (Some ties) own iso unit (s ∷ []) rest are no_ties ends whole = absurd are.1
  split_ties (Some ties) None iso unit (s ∷ c ∷ front) rest are no_ties ends whole =
      absurd (no_ties_behind unit s (c ∷ front ++ rest) are.0.0 whole)
  split_ties (Some ties) (Some own) iso unit (s ∷ c ∷ front) rest are no_ties ends whole =
      let at : own.at ≡ ties.at = sym whole.0.1 ∙ are.0.1 in
      let word : w.Number own.number.value ≡ w.Number ties.number.value = sym whole.1.0.0 ∙ are.1.0.0 in
      let value : own.number.value ≡ ties.number.value = cc in
      let place : own.number.at ≡ ties.number.at = sym whole.1.0.1 ∙ are.1.0.1 in
      let behind = split_unit iso unit front rest are.1.1 ends whole.1.1 in
      let same : ties_of own.at (record { value = own.number.value; at = own.number.at }) ≡ ties = rw (at, value, place) refl in
      record { same = ap Some same; unit_same = behind.same; spelled = behind.spelled }

  split_head : (head own : Option WrittenHead) (front rest : List Token) → AreSigns (head_signs head) front → Ends head rest → job.head ≡ own
      → AreSigns (head_signs own ++ declarations_signs job.declarations) (front ++ rest) → Split head rest job
  split_head None None [] rest are ends is whole = record { same = is; spelled = whole }
  split_head None own (t ∷ front) rest are ends is whole = absurd are
  split_head None (Some own) [] [] are ends is whole = absurd whole
  split_head None (Some own) [] (t ∷ rest) are ends is whole = absurd (ends whole.0)
  split_head (Some head) own [] rest are ends is whole = absurd are
  split_head (Some head) own (v ∷ []) rest are ends is whole = absurd are.1
  split_head (Some head) None (v ∷ t ∷ front) rest are ends is whole = absurd ((no_heads job.declarations v (t ∷ front ++ rest) whole).version are.0)
  split_head (Some head) (Some own) (v ∷ t ∷ front) rest are ends is whole =
      let word : w.Number own.version.value ≡ w.Number head.version.value = sym whole.1.0.0 ∙ are.1.0.0 in
      let value : own.version.value ≡ head.version.value = cc in
      let at : own.version.at ≡ head.version.at = sym whole.1.0.1 ∙ are.1.0.1 in
      let behind = split_ties head.ties own.ties head.iso own.iso front rest are.1.1 ends.0 ends.1 whole.1.1 in
      let same : head_of (record { value = own.version.value; at = own.version.at }) own.ties own.iso ≡ head =
      rw (value, at, behind.same, behind.unit_same) refl in
      record { same = is ∙ ap Some same; spelled = behind.spelled }

split : (most : ℕ) (head : Option WrittenHead) (front rest : List Token) (job : Job) → AreSigns (head_signs head) front → Ends head rest
    → IsJobWithin most (front ++ rest) job → Split head rest job
split most head front rest job are ends is = split_head job head job.head front rest are ends refl is.spelled

-- a head and the declarations behind it are a job
signs_append : (a b : List Sign) (front rest : List Token) → AreSigns a front → AreSigns b rest → AreSigns (a ++ b) (front ++ rest)
signs_append [] b [] rest are more = more
signs_append [] b (t ∷ front) rest are more = absurd are
signs_append (s ∷ a) b [] rest are more = absurd are
signs_append (s ∷ a) b (t ∷ front) rest are more = (are.0, signs_append a b front rest are.1 more)

join : (end : ℕ) (head : Option WrittenHead) (front rest : List Token) (job : Job) → AreSigns (head_signs head) front → job.head ≡ head
    → run end [] Start rest ≡ Found job.declarations → IsJob (front ++ rest) job
join end head front rest job are same found = record {
  grammar = declarations_are_kept 64 (omega arith) end rest job.declarations found;
  spelled = subst (λ own. AreSigns (head_signs own ++ declarations_signs job.declarations) (front ++ rest)) (sym same)
      (signs_append (head_signs head) (declarations_signs job.declarations) front rest are (declarations_are_spelled end rest job.declarations found));
}

-- ---- how tokens begin
-- with a head, where it ends, and so their verdict is the one on the tokens behind it
record Heads (end : ℕ) (tokens : List Token) : Type 0 where
  head : Option WrittenHead
  front : List Token
  rest : List Token
  whole : tokens ≡ front ++ rest
  spelled : AreSigns (head_signs head) front
  ends : Ends head rest
  told : verdict end tokens ≡ with_head head (run end [] Start rest)

-- or with a part of one that may go on, but not with the token behind it
record Breaks (end : ℕ) (tokens : List Token) : Type 0 where
  front : List Token
  rest : List Token
  whole : tokens ≡ front ++ rest
  may : MayGoOn front
  cannot : CannotTake front rest
  told : verdict end tokens ≡ Unexpected (place_of end rest)

-- tokens for what is left of a head
abbrev nought : Token
nought = record { word = w.Number (pos 0); from = 0; to = 0 }

abbrev a_name : Token
a_name = record { word = w.Name contextual.Other; from = 0; to = 0 }

-- behind `version` a number may follow, and nothing else
version_goes_on : (v : Token) → v.word ≡ version_word → MayGoOn (v ∷ [])
version_goes_on v is = (
  nought ∷ [],
  record { head = Some (head_of (number_of (pos 0) nought) None None); declarations = [] },
  record { grammar = tt; spelled = (is, ((refl, refl), tt)) },
)

version_then : (most : ℕ) (v t : Token) (tokens : List Token) (job : Job) (head : Option WrittenHead) → v.word ≡ version_word
    → AreSigns (head_signs head ++ declarations_signs job.declarations) (v ∷ t ∷ tokens) → (n : ℤ) × (t.word ≡ w.Number n)
version_then most v t tokens job None is are = absurd ((no_heads job.declarations v (t ∷ tokens) are).version is)
version_then most v t tokens job (Some head) is are = (head.version.value, are.1.0.0)

version_not_alone : (v : Token) (job : Job) (head : Option WrittenHead) → v.word ≡ version_word
    → AreSigns (head_signs head ++ declarations_signs job.declarations) (v ∷ []) → ⊥
version_not_alone v job None is are = (no_heads job.declarations v [] are).version is
version_not_alone v job (Some head) is are = are.1

number_only : (v : Token) (tokens : List Token) → v.word ≡ version_word → NotNumber tokens → CannotTake (v ∷ []) tokens
number_only v [] is other = λ most job j. version_not_alone v job job.head is j.spelled
number_only v (t ∷ tokens) is other = λ most m. (let n = version_then most v t m.0 m.1 m.1.head is m.2.spelled in other n.0 n.1)

no_number : (end : ℕ) (v : Token) (tokens : List Token) → v.word ≡ version_word → NotNumber tokens → Breaks end (v ∷ tokens)
no_number end v tokens is other = record {
  front = v ∷ [];
  rest = tokens;
  whole = refl;
  may = version_goes_on v is;
  cannot = number_only v tokens is other;
  told = verdict-versioned end v tokens is ∙ numbered-none end tokens other;
}

-- one more token and what follows it, behind the front of a job that begins with a head
regroup : (head front : List Token) (t : Token) (more : List Token) → ((head ++ front) ++ t ∷ []) ++ more ≡ head ++ ((front ++ t ∷ []) ++ more)
regroup head front t more =
    ap (λ ts. ts ++ more) (append_assoc head front (t ∷ [])) ∙ append_assoc head (front ++ t ∷ []) more

-- These tokens are `version` and its number, and `ties` and its number if they are written: with a unit they are a head, a job that begins
-- with them and `iso` has them, and the verdict is the one behind them.
record Begun (end : ℕ) (version : WrittenNumber) (ties : Option WrittenTies) (own : List Token) : Type 0 where
  spelled : (iso : Option WrittenUnit) (front : List Token) → AreSigns (iso_signs iso) front
      → AreSigns (head_signs (Some (head_of version ties iso))) (own ++ front)
  parted : (ds : Declarations) (head : Option WrittenHead) (i : Token) (tokens : List Token) → i.word ≡ iso_word
      → AreSigns (head_signs head ++ declarations_signs ds) (own ++ i ∷ tokens)
      → (iso : Option WrittenUnit) × AreSigns (iso_signs iso ++ declarations_signs ds) (i ∷ tokens)
  told : (tokens : List Token) → NoTies ties None tokens → verdict end (own ++ tokens) ≡ behind_ties end version ties tokens

module _ (end : ℕ) (version : WrittenNumber) (ties : Option WrittenTies) (own : List Token) (b : Begun end version ties own) where
  unit_alone : (tokens : List Token) → NoTies ties None tokens → NotFirst iso_word tokens → Heads end (own ++ tokens)
  unit_alone tokens no_ties other = record {
    head = Some (head_of version ties None);
    front = own;
    rest = tokens;
    whole = refl;
    spelled = subst (λ (ts : List Token). AreSigns (head_signs (Some (head_of version ties None))) ts) (append-nil own) (b.spelled None [] tt);
    ends = (no_ties, other);
    told = b.told tokens no_ties ∙ ties-alone end version ties tokens other;
  }

  -- behind `iso` a name may follow, and nothing else
  module _ (i : Token) (is_iso : i.word ≡ iso_word) where
    iso_goes_on : MayGoOn (own ++ i ∷ [])
    iso_goes_on =
        let head = Some (head_of version ties (Some (unit_of i.from (span_of a_name)))) in
        let job : Job = record { head = head; declarations = [] } in
        let are : AreSigns (head_signs head) (own ++ i ∷ a_name ∷ []) =
        b.spelled (Some (unit_of i.from (span_of a_name))) (i ∷ a_name ∷ []) ((is_iso, refl), ((refl, refl, refl), tt)) in
        let is : IsJob (own ++ i ∷ a_name ∷ []) job =
        record { grammar = tt; spelled = subst (λ (z : List Sign). AreSigns z (own ++ i ∷ a_name ∷ [])) (sym (append-nil (head_signs head))) are } in
        (a_name ∷ [], job, subst (λ (ts : List Token). IsJob ts job) (sym (append_assoc own (i ∷ []) (a_name ∷ []))) is)

    no_declaration : (ds : Declarations) (tokens : List Token) → AreSigns (declarations_signs ds) (i ∷ tokens) → ⊥
    no_declaration ds tokens are = (no_heads ds i tokens are).iso is_iso

    iso_then : (x : Token) (tokens : List Token) (ds : Declarations) (iso : Option WrittenUnit)
        → AreSigns (iso_signs iso ++ declarations_signs ds) (i ∷ x ∷ tokens) → is_name_word x.word ≡ true
    iso_then x tokens ds None are = absurd (no_declaration ds (x ∷ tokens) are)
    iso_then x tokens ds (Some unit) are = are.1.0.0

    iso_not_alone : (ds : Declarations) (iso : Option WrittenUnit) → AreSigns (iso_signs iso ++ declarations_signs ds) (i ∷ []) → ⊥
    iso_not_alone ds None are = no_declaration ds [] are
    iso_not_alone ds (Some unit) are = are.1

    name_only : (tokens : List Token) → NotNamed tokens → CannotTake (own ++ i ∷ []) tokens
    name_only [] other = λ most job j.
        (let iso = b.parted job.declarations job.head i [] is_iso j.spelled in iso_not_alone job.declarations iso.0 iso.1)
    name_only (x ∷ tokens) other = λ most m.
        (let is = subst (λ (ts : List Token). IsJobWithin most ts m.1) (regroup own (i ∷ []) x m.0) m.2 in
        let iso = b.parted m.1.declarations m.1.head i (x ∷ m.0) is_iso is.spelled in
        let both : true ≡ false = sym (iso_then x m.0 m.1.declarations iso.0 iso.1) ∙ other in
        cc)

    no_more_ties : (tokens : List Token) → NoTies ties None (i ∷ tokens)
    no_more_ties tokens = by ties
      where
        by : (ties : Option WrittenTies) → NoTies ties None (i ∷ tokens)
        by None = λ e. (let both : iso_word ≡ ties_word = sym is_iso ∙ e in cc)
        by (Some ties) = tt

    no_ties_either : (unit : WrittenUnit) (tokens : List Token) → NoTies ties (Some unit) tokens
    no_ties_either unit tokens = by ties
      where
        by : (ties : Option WrittenTies) → NoTies ties (Some unit) tokens
        by None = tt
        by (Some ties) = tt

    with_unit : (tokens : List Token) → verdict end (own ++ i ∷ tokens) ≡ behind_iso end version ties i.from tokens
    with_unit tokens = b.told (i ∷ tokens) (no_more_ties tokens) ∙ ties-iso end version ties i tokens is_iso

    no_unit : (tokens : List Token) → NotNamed tokens → Breaks end (own ++ i ∷ tokens)
    no_unit tokens other = record {
      front = own ++ i ∷ [];
      rest = tokens;
      whole = sym (append_assoc own (i ∷ []) tokens);
      may = iso_goes_on;
      cannot = name_only tokens other;
      told = with_unit tokens ∙ iso-none end version ties i.from tokens other;
    }

    a_unit : (x : Token) (tokens : List Token) → is_name_word x.word ≡ true → Heads end (own ++ i ∷ x ∷ tokens)
    a_unit x tokens is = record {
      head = Some (head_of version ties (Some (unit_of i.from (span_of x))));
      front = own ++ i ∷ x ∷ [];
      rest = tokens;
      whole = sym (append_assoc own (i ∷ x ∷ []) tokens);
      spelled = b.spelled (Some (unit_of i.from (span_of x))) (i ∷ x ∷ []) ((is_iso, refl), ((is, refl, refl), tt));
      ends = (no_ties_either (unit_of i.from (span_of x)) tokens, tt);
      told = with_unit (x ∷ tokens) ∙ iso-named end version ties i.from x tokens is;
    }

    behind_the_word : (tokens : List Token) → Heads end (own ++ i ∷ tokens) ⊎ Breaks end (own ++ i ∷ tokens)
    behind_the_word [] = inr (no_unit [] tt)
    behind_the_word (x ∷ tokens) = elim (name_or_not x.word) [
      | inl is ↦ inl (a_unit x tokens is)
      | inr other ↦ inr (no_unit (x ∷ tokens) other)
    ]

  behind_the_begun : (tokens : List Token) → NoTies ties None tokens → Heads end (own ++ tokens) ⊎ Breaks end (own ++ tokens)
  behind_the_begun [] no_ties = inl (unit_alone [] no_ties tt)
  behind_the_begun (i ∷ tokens) no_ties =
      elim (iso_or_not i.word) [
        | inl iso ↦ behind_the_word i iso tokens
        | inr other ↦ inl (unit_alone (i ∷ tokens) no_ties other)
      ]

module _ (n : ℤ) (v t : Token) (is_version : v.word ≡ version_word) (is_number : t.word ≡ w.Number n) where
  number_parts : (ds : Declarations) (head : Option WrittenHead) (i : Token) (tokens : List Token) → i.word ≡ iso_word
      → AreSigns (head_signs head ++ declarations_signs ds) (v ∷ t ∷ i ∷ tokens)
      → (iso : Option WrittenUnit) × AreSigns (iso_signs iso ++ declarations_signs ds) (i ∷ tokens)
  number_parts ds None i tokens is are = absurd ((no_heads ds v (t ∷ i ∷ tokens) are).version is_version)
  number_parts ds (Some head) i tokens is are = by head.ties are.1.1
    where
      by : (ties : Option WrittenTies) → AreSigns ((ties_signs ties ++ iso_signs head.iso) ++ declarations_signs ds) (i ∷ tokens)
          → (iso : Option WrittenUnit) × AreSigns (iso_signs iso ++ declarations_signs ds) (i ∷ tokens)
      by None are = (head.iso, are)
      by (Some ties) are = absurd (let both : iso_word ≡ ties_word = sym is ∙ are.0.0 in cc)

  number_begun : (end : ℕ) → Begun end (number_of n t) None (v ∷ t ∷ [])
  number_begun end = record {
    spelled = λ iso front are. (is_version, ((is_number, refl), are));
    parted = number_parts;
    told = λ tokens no_ties.
        (verdict-versioned end v (t ∷ tokens) is_version ∙ numbered-number end n t tokens is_number ∙ number-plain end (number_of n t) tokens no_ties);
  }

  -- behind `ties` a number may follow, and nothing else
  module _ (s : Token) (is_ties : s.word ≡ ties_word) where
    ties_go_on : MayGoOn (v ∷ t ∷ s ∷ [])
    ties_go_on = (
      nought ∷ [],
      record { head = Some (head_of (number_of n t) (Some (ties_of s.from (number_of (pos 0) nought))) None); declarations = [] },
      record { grammar = tt; spelled = (is_version, ((is_number, refl), ((is_ties, refl), ((refl, refl), tt)))) },
    )

    no_ties_behind_it : (ds : Declarations) (iso : Option WrittenUnit) (tokens : List Token)
        → AreSigns (iso_signs iso ++ declarations_signs ds) (s ∷ tokens) → ⊥
    no_ties_behind_it ds None tokens are = (no_heads ds s tokens are).ties is_ties
    no_ties_behind_it ds (Some unit) tokens are = let both : ties_word ≡ iso_word = sym is_ties ∙ are.0.0 in cc

    -- a job that begins so has rows at one time
    ties_parted : (ds : Declarations) (head : Option WrittenHead) (tokens : List Token)
        → AreSigns (head_signs head ++ declarations_signs ds) (v ∷ t ∷ s ∷ tokens)
        → (ties : WrittenTies) × (iso : Option WrittenUnit) × AreSigns (number ties.number ++ (iso_signs iso ++ declarations_signs ds)) tokens
    ties_parted ds None tokens are = absurd ((no_heads ds v (t ∷ s ∷ tokens) are).version is_version)
    ties_parted ds (Some head) tokens are = by head.ties are.1.1
      where
        by : (ties : Option WrittenTies) → AreSigns ((ties_signs ties ++ iso_signs head.iso) ++ declarations_signs ds) (s ∷ tokens)
            → (ties : WrittenTies) × (iso : Option WrittenUnit) × AreSigns (number ties.number ++ (iso_signs iso ++ declarations_signs ds)) tokens
        by None are = absurd (no_ties_behind_it ds head.iso tokens are)
        by (Some ties) are = (ties, head.iso, are.1)

    count_only : (tokens : List Token) → NotNumber tokens → CannotTake (v ∷ t ∷ s ∷ []) tokens
    count_only [] other = λ most job j. (ties_parted job.declarations job.head [] j.spelled).2
    count_only (c ∷ tokens) other = λ most m.
        (let ties = ties_parted m.1.declarations m.1.head (c ∷ m.0) m.2.spelled in other ties.0.number.value ties.2.0.0)

    no_count : (end : ℕ) (tokens : List Token) → NotNumber tokens → Breaks end (v ∷ t ∷ s ∷ tokens)
    no_count end tokens other = record {
      front = v ∷ t ∷ s ∷ [];
      rest = tokens;
      whole = refl;
      may = ties_go_on;
      cannot = count_only tokens other;
      told = verdict-versioned end v (t ∷ s ∷ tokens) is_version ∙ numbered-number end n t (s ∷ tokens) is_number
          ∙ number-ties end (number_of n t) s tokens is_ties ∙ ties-none end (number_of n t) s.from tokens other;
    }

    ties_begun : (end : ℕ) (m : ℤ) (c : Token) → c.word ≡ w.Number m → Begun end (number_of n t) (Some (ties_of s.from (number_of m c))) (v ∷ t ∷ s ∷ c ∷ [])
    ties_begun end m c is_count = record {
      spelled = λ iso front are. (is_version, ((is_number, refl), ((is_ties, refl), ((is_count, refl), are))));
      parted = λ ds head i tokens is are. (let ties = ties_parted ds head (c ∷ i ∷ tokens) are in (ties.1, ties.2.1));
      told = λ tokens no_ties.
          (verdict-versioned end v (t ∷ s ∷ c ∷ tokens) is_version ∙ numbered-number end n t (s ∷ c ∷ tokens) is_number
          ∙ number-ties end (number_of n t) s (c ∷ tokens) is_ties ∙ ties-counted end (number_of n t) s.from m c tokens is_count);
    }

    behind_the_ties : (end : ℕ) (tokens : List Token) → Heads end (v ∷ t ∷ s ∷ tokens) ⊎ Breaks end (v ∷ t ∷ s ∷ tokens)
    behind_the_ties end [] = inr (no_count end [] (λ m. tt))
    behind_the_ties end (c ∷ tokens) = elim (number_or_not c.word) [
      | inl count ↦
          behind_the_begun end (number_of n t) (Some (ties_of s.from (number_of count.0 c))) (v ∷ t ∷ s ∷ c ∷ [])
          (ties_begun end count.0 c count.1) tokens tt
      | inr other ↦ inr (no_count end (c ∷ tokens) other)
    ]

  behind_the_number : (end : ℕ) (tokens : List Token) → Heads end (v ∷ t ∷ tokens) ⊎ Breaks end (v ∷ t ∷ tokens)
  behind_the_number end [] = behind_the_begun end (number_of n t) None (v ∷ t ∷ []) (number_begun end) [] tt
  behind_the_number end (s ∷ tokens) = elim (ties_or_not s.word) [
    | inl ties ↦ behind_the_ties s ties end tokens
    | inr other ↦ behind_the_begun end (number_of n t) None (v ∷ t ∷ []) (number_begun end) (s ∷ tokens) other
  ]

behind_the_version : (end : ℕ) (v : Token) (tokens : List Token) → v.word ≡ version_word → Heads end (v ∷ tokens) ⊎ Breaks end (v ∷ tokens)
behind_the_version end v [] is = inr (no_number end v [] is (λ n. tt))
behind_the_version end v (t ∷ tokens) is =
    elim (number_or_not t.word) [
      | inl number ↦ behind_the_number number.0 v t is number.1 end tokens
      | inr other ↦ inr (no_number end v (t ∷ tokens) is other)
    ]

no_version : (end : ℕ) (tokens : List Token) → NotFirst version_word tokens → Heads end tokens
no_version end tokens other = record {
  head = None;
  front = [];
  rest = tokens;
  whole = refl;
  spelled = tt;
  ends = other;
  told = verdict-plain end tokens other;
}

begin : (end : ℕ) (tokens : List Token) → Heads end tokens ⊎ Breaks end tokens
begin end [] = inl (no_version end [] tt)
begin end (t ∷ tokens) = elim (version_or_not t.word) [
  | inl is ↦ behind_the_version end t tokens is
  | inr other ↦ inl (no_version end (t ∷ tokens) other)
]

-- ---- what is found is a job
none_found : (place : ℕ) (job : Job) (found : Verdict Job) → found ≡ Unexpected place → found ≡ Found job → ⊥
none_found place job found a b = let both : Unexpected place ≡ Found job = sym a ∙ b in cc

pub is_job : (end : ℕ) (tokens : List Token) (job : Job) → verdict end tokens ≡ Found job → IsJob tokens job
is_job end tokens job e =
    elim (begin end tokens) [
      | inl h ↦
          let found = with_found h.head (run end [] Start h.rest) job (sym h.told ∙ e) in
          subst (λ ts. IsJob ts job) (sym h.whole) (join end h.head h.front h.rest job h.spelled found.same found.found)
      | inr b ↦ absurd (none_found (place_of end b.rest) job (verdict end tokens) b.told e)
    ]

-- ---- a job is found
found_with : (head : Option WrittenHead) (all : Verdict Declarations) (job : Job) → job.head ≡ head → all ≡ Found job.declarations
    → with_head head all ≡ Found job
found_with head all job same e = rw e (ap (λ own. Found (record { head = own; declarations = job.declarations })) (sym same))

-- what cannot go on is no job
no_job : (front rest : List Token) (job : Job) → CannotTake front rest → IsJob (front ++ rest) job → ⊥
no_job front [] job cannot is = cannot 64 job (subst (λ (ts : List Token). IsJob ts job) (append-nil front) is)
no_job front (t ∷ rest) job cannot is = cannot 64 (rest, job, subst (λ (ts : List Token). IsJob ts job) (sym (append_assoc front (t ∷ []) rest)) is)

pub job_is_found : (end : ℕ) (tokens : List Token) (job : Job) → IsJob tokens job → verdict end tokens ≡ Found job
job_is_found end tokens job is =
    elim (begin end tokens) [
      | inl h ↦
          let whole : IsJob (h.front ++ h.rest) job = subst (λ ts. IsJob ts job) h.whole is in
          let s = split 64 h.head h.front h.rest job h.spelled h.ends whole in
          h.told ∙ found_with h.head (run end [] Start h.rest) job s.same (declarations_are_found end h.rest job.declarations is.grammar s.spelled)
      | inr b ↦ absurd (no_job b.front b.rest job b.cannot (subst (λ ts. IsJob ts job) b.whole is))
    ]

-- ---- the first token that cannot follow
-- what is a job, however many are open, is found behind its head or opens too many
reached : (most end : ℕ) (head : Option WrittenHead) (front rest : List Token) (job : Job) → AreSigns (head_signs head) front → Ends head rest
    → IsJobWithin most (front ++ rest) job → Reaches most (run end [] Start rest) (Found job.declarations)
reached most end head front rest job are ends is =
    declarations_are_reached most end rest job.declarations is.grammar (split most head front rest job are ends is).spelled

not_reached : (most place : ℕ) (v : Verdict Declarations) (found : Declarations) → v ≡ Unexpected place → Reaches most v (Found found) → ⊥
not_reached most place v found e (Same f) = let both : Unexpected place ≡ Found found = sym e ∙ f in cc
not_reached most place v found e (Stops over f) = let both : Unexpected place ≡ TooDeep = sym e ∙ f in cc

not_found_deep : (v : Verdict Declarations) (found : Declarations) → v ≡ TooDeep → v ≡ Found found → ⊥
not_found_deep v found e f = let both : TooDeep ≡ Found found = sym e ∙ f in cc

headed_cannot : (end : ℕ) (head : Option WrittenHead) (own front rest : List Token) → AreSigns (head_signs head) own → Ends head (front ++ rest)
    → Cannot end [] Start front rest → CannotTake (own ++ front) rest
headed_cannot end head own front [] are ends h = λ most job is.
    not_reached most end (run end [] Start front) job.declarations h (reached most end head own front job are (ends_front head front [] ends) is)
headed_cannot end head own front (t ∷ rest) are ends h = λ most m.
    (let is = subst (λ (ts : List Token). IsJobWithin most ts m.1) (regroup own front t m.0) m.2 in
    not_reached most t.from (run end [] Start ((front ++ t ∷ []) ++ m.0)) m.1.declarations (h m.0)
    (reached most end head own ((front ++ t ∷ []) ++ m.0) m.1 are (ends_more head front t rest m.0 ends) is))

-- what the run behind a head may go on with, the job may go on with
headed_may : (end : ℕ) (head : Option WrittenHead) (own front : List Token) → AreSigns (head_signs head) own
    → (more : List Token) × (found : Declarations) × (run end [] Start (front ++ more) ≡ Found found) → MayGoOn (own ++ front)
headed_may end head own front are h =
    let job : Job = record { head = head; declarations = h.1 } in (
      h.0,
      job,
      subst (λ (ts : List Token). IsJob ts job) (sym (append_assoc own front h.0)) (join end head own (front ++ h.0) job are refl h.2),
    )

headed_first : (end : ℕ) (place : ℕ) (tokens : List Token) (h : Heads end tokens) → run end [] Start h.rest ≡ Unexpected place
    → IsFirstThatCannotFollow end tokens place
headed_first end place tokens h e =
    let first = first_of_all end place h.rest [] Start e in
    record {
      front = h.front ++ first.front;
      rest = first.rest;
      whole = h.whole ∙ ap (λ ts. h.front ++ ts) first.parts ∙ sym (append_assoc h.front first.front first.rest);
      here = first.here;
      may = headed_may end h.head h.front first.front h.spelled first.may;
      cannot = headed_cannot end h.head h.front first.front first.rest h.spelled (subst (Ends h.head) first.parts h.ends) first.cannot;
    }

breaks_first : (end : ℕ) (place : ℕ) (tokens : List Token) (b : Breaks end tokens) → verdict end tokens ≡ Unexpected place
    → IsFirstThatCannotFollow end tokens place
breaks_first end place tokens b e =
    let both : Unexpected (place_of end b.rest) ≡ Unexpected place = sym b.told ∙ e in
    let same : place_of end b.rest ≡ place = cc in
    record { front = b.front; rest = b.rest; whole = b.whole; here = sym same; may = b.may; cannot = b.cannot }

pub first_unexpected : (end : ℕ) (tokens : List Token) (place : ℕ) → verdict end tokens ≡ Unexpected place → IsFirstThatCannotFollow end tokens place
first_unexpected end tokens place e =
    elim (begin end tokens) [
      | inl h ↦ headed_first end place tokens h (with_unexpected h.head (run end [] Start h.rest) place (sym h.told ∙ e))
      | inr b ↦ breaks_first end place tokens b e
    ]

-- ---- the token that opens one too many
headed_deep : (end : ℕ) (tokens : List Token) (h : Heads end tokens) → run end [] Start h.rest ≡ TooDeep → IsTooDeep tokens
headed_deep end tokens h e =
    let deep = deep_at end h.rest e in
    let own = h.front in
    let behind = (deep.front ++ deep.next ∷ []) ++ deep.more in
    let spells : AreSigns (declarations_signs deep.found) behind =
    subst (λ (z : List Sign). AreSigns z behind) (sym deep.spells.spell) deep.spells.are in
    let job : Job = record { head = h.head; declarations = deep.found } in
    record {
      front = own ++ deep.front;
      next = deep.next;
      rest = deep.rest;
      whole = h.whole ∙ ap (λ ts. own ++ ts) deep.parts ∙ sym (append_assoc own deep.front (deep.next ∷ deep.rest));
      may = headed_may end h.head own deep.front h.spelled deep.may;
      deeper = (
        deep.more,
        job,
        subst (λ (ts : List Token). IsJobWithin 65 ts job) (sym (regroup own deep.front deep.next deep.more)) (record {
          grammar = deep.keeps;
          spelled = signs_append (head_signs h.head) (declarations_signs deep.found) own behind h.spelled spells;
        }),
      );
      cannot = λ m.
          (let rest = (deep.front ++ deep.next ∷ []) ++ m.0 in
          let is = subst (λ (ts : List Token). IsJob ts m.1) (regroup own deep.front deep.next m.0) m.2 in
          let ends = ends_more h.head deep.front deep.next deep.rest m.0 (subst (Ends h.head) deep.parts h.ends) in
          let s = split 64 h.head own rest m.1 h.spelled ends is in
          not_found_deep (run end [] Start rest) m.1.declarations (deep.cannot m.0)
          (declarations_are_found end rest m.1.declarations is.grammar s.spelled));
    }

pub opens_too_many : (end : ℕ) (tokens : List Token) → verdict end tokens ≡ TooDeep → IsTooDeep tokens
opens_too_many end tokens e =
    elim (begin end tokens) [
      | inl h ↦ headed_deep end tokens h (with_too_deep h.head (run end [] Start h.rest) (sym h.told ∙ e))
      | inr b ↦ absurd (let both : Unexpected (place_of end b.rest) ≡ TooDeep = sym b.told ∙ e in cc)
    ]
