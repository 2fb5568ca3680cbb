-- What is read of the text of a head, or of a contribution: the value with its members.
use Rattle.std.proofs.Common.{◌≡◌, ℕ, ◌≤◌, Option, Some, None, List, [], ◌∷◌, map, codes, refl, sym, ap, subst, ◌∙◌, arith}
use Rattle.std.specs.List.{AllByRecursion}
use Rattle.serde_json.specs.Data.{Data, number, unsigned, string, array, object, Members, no_members, member, depth, items_depth, members_depth}
use Rattle.serde_json.specs.Find.{get}
use Rattle.serde_json.specs.Read.{read}
use Rattle.serde_json.specs.View.{items_of}
use Rattle.serde_json.proofs.OnLiterals.{serde_json_on_literals}
use Rattle.flu_partial.specs.declared.values.PartialHead.{PartialHead}
use Rattle.flu_partial.specs.declared.values.Amount.{Amount}
use Rattle.flu_partial.specs.declared.values.Emitted.{Emitted}
use Rattle.flu_partial.specs.declared.values.Contribution.{Contribution}
use Rattle.flu_partial.specs.declared.values.Place.{Place}
use Rattle.flu_partial.specs.declared.values.Place.TheVariants.{Before, End}
use Rattle.flu_partial.specs.Forms.{IsHeadLine, IsContributionLine, IsJsonOf}
use Rattle.flu_partial.specs.Partial.{time_or_null, head_text, contribution_text, amount_value, emitted_value, place_members, IsTimeOrNone, IsAmount, IsEmitted, IsPlace}
use Rattle.flu_partial.specs.Partial.{IsHead, IsContribution}
use Rattle.flu_partial.specs.Having.{HasHead, HasContribution, HasPlace}
use Rattle.flu_partial.proofs.Plain.{IsPlain, ArePlain, HavePlain, put_all, object_read}

pub of_some : {X : Type 0} (a b : X) → Some a ≡ Some b → a ≡ b
of_some a b e = cc

time_plain : (o : Option ℕ) → IsTimeOrNone o → IsPlain (time_or_null o)
time_plain None h = tt
time_plain (Some t) h = omega (arith, h)

time_flat : (o : Option ℕ) → depth (time_or_null o) ≡ 0
time_flat None = refl
time_flat (Some t) = refl

-- ---- a head
abbrev pub head_members : PartialHead → Members
head_members h =
    member (codes "first") (time_or_null h.first)
    (member (codes "job") (string h.job) (member (codes "node") (string h.node) (member (codes "plan") (string h.plan) no_members)))

pub head_read : (h : PartialHead) → IsHead h → read (head_text h) ≡ Some (object (put_all (head_members h) no_members))
unfolding head_text
head_read h is = object_read (head_members h) (time_plain h.first is.first, (tt, (tt, (tt, tt)))) (omega (arith, time_flat h.first))

pub head_there : (h : PartialHead) → HasHead (object (put_all (head_members h) no_members)) h
unfolding serde_json_on_literals
head_there h = record { first = refl; job = refl; node = refl; plan = refl }

pub head_found : (h : PartialHead) (bytes : List ℕ) (d : Data) → IsHeadLine h bytes → IsJsonOf bytes d → HasHead d h
head_found h bytes d line json =
    subst (λ (x : Data). HasHead x h) (of_some _ _ (sym (head_read h line.head) ∙ ap read (sym line.text) ∙ json.1)) (head_there h)

pub head_is_json : (h : PartialHead) (bytes : List ℕ) → IsHeadLine h bytes → (d : Data) × IsJsonOf bytes d
head_is_json h bytes line = (object (put_all (head_members h) no_members), (line.utf8, ap read line.text ∙ head_read h line.head))

-- ---- a contribution
amounts_plain : (xs : List Amount) → AllByRecursion IsAmount xs → ArePlain (items_of (map amount_value xs))
amounts_plain [] h = tt
amounts_plain (a ∷ xs) h = ((omega (arith, h.0.0), (omega (arith, h.0.1), (tt, tt))), amounts_plain xs h.1)

amounts_flat : (xs : List Amount) → items_depth (items_of (map amount_value xs)) ≤ 1
amounts_flat [] = omega arith
amounts_flat (a ∷ xs) = omega (arith, amounts_flat xs)

outs_plain : (xs : List Emitted) → AllByRecursion IsEmitted xs → ArePlain (items_of (map emitted_value xs))
outs_plain [] h = tt
outs_plain (o ∷ xs) h = ((omega (arith, h.0), (tt, (tt, tt))), outs_plain xs h.1)

outs_flat : (xs : List Emitted) → items_depth (items_of (map emitted_value xs)) ≤ 1
outs_flat [] = omega arith
outs_flat (o ∷ xs) = omega (arith, outs_flat xs)

place_plain : (p : Place) → IsPlace p → HavePlain (place_members p)
place_plain (Before time itag) h = (omega (arith, h.0), (omega (arith, h.1), tt))
place_plain (End last) h = (time_plain last h, tt)

place_flat : (p : Place) → members_depth (place_members p) ≤ 0
place_flat (Before time itag) = omega arith
place_flat (End last) = omega (arith, time_flat last)

abbrev pub members_with : Data → Data → Data → Place → Members
members_with cells events outs p = member (codes "cells") cells (member (codes "events") events (member (codes "outs") outs (place_members p)))

abbrev pub contribution_members : Contribution → Members
contribution_members c = members_with (array (items_of (map amount_value c.cells))) (number (unsigned c.events)) (array (items_of (map emitted_value c.outs))) c.place

pub contribution_read : (c : Contribution) → IsContribution c → read (contribution_text c) ≡ Some (object (put_all (contribution_members c) no_members))
unfolding contribution_text
contribution_read c is =
    object_read (contribution_members c)
    (amounts_plain c.cells is.amounts, (omega (arith, is.events), (outs_plain c.outs is.outs, place_plain c.place is.place)))
    (omega (arith, amounts_flat c.cells, outs_flat c.outs, place_flat c.place))

record Has (d a b c : Data) (p : Place) : Type 0 where
  cells : get (codes "cells") d ≡ Some a
  events : get (codes "events") d ≡ Some b
  outs : get (codes "outs") d ≡ Some c
  place : HasPlace d p

members_there : (a b c : Data) (p : Place) → Has (object (put_all (members_with a b c p) no_members)) a b c p
unfolding serde_json_on_literals
members_there a b c (Before time itag) = record { cells = refl; events = refl; outs = refl; place = (refl, refl, refl) }
members_there a b c (End last) = record { cells = refl; events = refl; outs = refl; place = refl }

pub contribution_there : (c : Contribution) → HasContribution (object (put_all (contribution_members c) no_members)) c
contribution_there c =
    let has = members_there (array (items_of (map amount_value c.cells))) (number (unsigned c.events)) (array (items_of (map emitted_value c.outs))) c.place in
    record { cells = has.cells; events = has.events; outs = has.outs; place = has.place }

pub contribution_found : (c : Contribution) (bytes : List ℕ) (d : Data) → IsContributionLine c bytes → IsJsonOf bytes d → HasContribution d c
contribution_found c bytes d line json =
    subst (λ (x : Data). HasContribution x c) (of_some _ _ (sym (contribution_read c line.contribution) ∙ ap read (sym line.text) ∙ json.1))
    (contribution_there c)

pub contribution_is_json : (c : Contribution) (bytes : List ℕ) → IsContributionLine c bytes → (d : Data) × IsJsonOf bytes d
contribution_is_json c bytes line = (
  object (put_all (contribution_members c) no_members),
  (line.utf8, ap read line.text ∙ contribution_read c line.contribution),
)
