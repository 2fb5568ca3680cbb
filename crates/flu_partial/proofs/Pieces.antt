-- An object that was written member by member has its text.
use Rattle.std.proofs.Common.{◌≡◌, ℕ, true, List, [], ◌∷◌, ◌++◌, map, codes, refl, sym, ap, ◌∙◌, append_assoc}
use Rattle.json.specs.Print.{quoted}
use Rattle.serde_json.specs.Data.{Data, number, unsigned, string, array, object, Members, no_members, member}
use Rattle.serde_json.specs.View.{items_of}
use Rattle.serde_json.specs.Written.{compact_text, members_text}
use Rattle.flu_partial.specs.declared.values.Place.{Place}
use Rattle.flu_partial.specs.declared.values.Place.TheVariants.{Before, End}
use Rattle.flu_partial.specs.declared.values.PartialHead.{PartialHead}
use Rattle.flu_partial.specs.declared.values.Contribution.{Contribution}
use Rattle.flu_partial.specs.Partial.{place_members, time_or_null, head_text, contribution_text, amount_value, emitted_value}
use Rattle.flu_partial.specs.Pieces.{piece, place_piece}

-- one member more
step : (mark k : List ℕ) (d : Data) (rest : List ℕ) → mark ++ (quoted k ++ 58 ∷ (compact_text d ++ rest)) ≡ piece mark k d ++ rest
unfolding piece
step mark k d rest = sym (append_assoc mark (quoted k ++ 58 ∷ compact_text d) rest ∙ ap (λ s. mark ++ s) (append_assoc (quoted k) (58 ∷ compact_text d) rest))

one_last : (k : List ℕ) (d : Data) → members_text true (member k d no_members) ≡ piece (44 ∷ []) k d ++ 125 ∷ []
one_last k d = step (44 ∷ []) k d (125 ∷ [])

two_last : (k l : List ℕ) (d e : Data) → members_text true (member k d (member l e no_members))
    ≡ (piece (44 ∷ []) k d ++ piece (44 ∷ []) l e) ++ 125 ∷ []
two_last k l d e =
    step (44 ∷ []) k d (members_text true (member l e no_members))
    ∙ ap (λ s. piece (44 ∷ []) k d ++ s) (one_last l e)
    ∙ sym (append_assoc (piece (44 ∷ []) k d) (piece (44 ∷ []) l e) (125 ∷ []))

place_text : (p : Place) → members_text true (place_members p) ≡ place_piece p ++ 125 ∷ []
place_text (Before time itag) = two_last (codes "time") (codes "itag") (number (unsigned time)) (number (unsigned itag.0))
place_text (End last) = one_last (codes "last") (time_or_null last)

-- three members and more
three_and_more : (k l m : List ℕ) (a b c : Data) (ms : Members) (more t0 t1 t2 t3 t4 t5 : List ℕ)
    → members_text true ms ≡ more ++ 125 ∷ []
    → t0 ≡ [] → t1 ≡ t0 ++ piece (123 ∷ []) k a → t2 ≡ t1 ++ piece (44 ∷ []) l b → t3 ≡ t2 ++ piece (44 ∷ []) m c → t4 ≡ t3 ++ more
    → t5 ≡ t4 ++ 125 ∷ []
    → t5 ≡ compact_text (object (member k a (member l b (member m c ms))))
three_and_more k l m a b c ms more t0 t1 t2 t3 t4 t5 last e0 e1 e2 e3 e4 e5 =
    let p = piece (123 ∷ []) k a in
    let q = piece (44 ∷ []) l b in
    let r = piece (44 ∷ []) m c in
    let s : t5 ≡ (((p ++ q) ++ r) ++ more) ++ 125 ∷ [] =
    e5 ∙ ap (λ x. x ++ 125 ∷ []) (e4 ∙ ap (λ x. x ++ more) (e3 ∙ ap (λ x. x ++ r) (e2 ∙ ap (λ x. x ++ q) (e1 ∙ ap (λ x. x ++ p) e0)))) in
    let there : compact_text (object (member k a (member l b (member m c ms)))) ≡ p ++ (q ++ (r ++ (more ++ 125 ∷ []))) =
    step (123 ∷ []) k a (members_text true (member l b (member m c ms)))
    ∙ ap (λ x. p ++ x) (step (44 ∷ []) l b (members_text true (member m c ms))
    ∙ ap (λ x. q ++ x) (step (44 ∷ []) m c (members_text true ms) ∙ ap (λ x. r ++ x) last)) in
    s
    ∙ append_assoc ((p ++ q) ++ r) more (125 ∷ [])
    ∙ append_assoc (p ++ q) r (more ++ 125 ∷ [])
    ∙ append_assoc p q (r ++ (more ++ 125 ∷ []))
    ∙ sym there

pub head_written : (h : PartialHead) (t0 t1 t2 t3 t4 t5 : List ℕ)
    → t0 ≡ [] → t1 ≡ t0 ++ piece (codes "{") (codes "first") (time_or_null h.first) → t2 ≡ t1 ++ piece (codes ",") (codes "job") (string h.job)
    → t3 ≡ t2 ++ piece (codes ",") (codes "node") (string h.node) → t4 ≡ t3 ++ piece (codes ",") (codes "plan") (string h.plan)
    → t5 ≡ t4 ++ codes "}" → t5 ≡ head_text h
unfolding head_text
head_written h t0 t1 t2 t3 t4 t5 =
    three_and_more (codes "first") (codes "job") (codes "node") (time_or_null h.first) (string h.job) (string h.node)
    (member (codes "plan") (string h.plan) no_members) (piece (codes ",") (codes "plan") (string h.plan)) t0 t1 t2 t3 t4 t5
    (one_last (codes "plan") (string h.plan))

pub contribution_written : (c : Contribution) (t0 t1 t2 t3 t4 t5 : List ℕ)
    → t0 ≡ [] → t1 ≡ t0 ++ piece (codes "{") (codes "cells") (array (items_of (map amount_value c.cells)))
    → t2 ≡ t1 ++ piece (codes ",") (codes "events") (number (unsigned c.events))
    → t3 ≡ t2 ++ piece (codes ",") (codes "outs") (array (items_of (map emitted_value c.outs))) → t4 ≡ t3 ++ place_piece c.place
    → t5 ≡ t4 ++ codes "}" → t5 ≡ contribution_text c
unfolding contribution_text
contribution_written c t0 t1 t2 t3 t4 t5 =
    three_and_more (codes "cells") (codes "events") (codes "outs") (array (items_of (map amount_value c.cells))) (number (unsigned c.events))
    (array (items_of (map emitted_value c.outs))) (place_members c.place) (place_piece c.place) t0 t1 t2 t3 t4 t5 (place_text c.place)

-- a member of an equal value, or of an equal text
pub member_is : (t mark k : List ℕ) (d e : Data) → d ≡ e → t ++ piece mark k d ≡ t ++ piece mark k e
member_is t mark k d e is = ap (λ (x : Data). t ++ piece mark k x) is

pub text_is : (t mark k a b : List ℕ) → a ≡ b → t ++ piece mark k (string a) ≡ t ++ piece mark k (string b)
text_is t mark k a b is = ap (λ (x : List ℕ). t ++ piece mark k (string x)) is
