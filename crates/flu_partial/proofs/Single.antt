-- A text is that of one head, or of one contribution, at most.
use Rattle.std.proofs.Common.{◌≡◌, ℕ, Option, Some, None, List, [], ◌∷◌, map, refl, sym, ap, ap₂, subst, ◌∙◌, arith}
use Rattle.std.specs.Fmt.{signed_decimal}
use Rattle.std.specs.List.{AllByRecursion}
use Rattle.serde_json.specs.Data.{Data, number, unsigned, string, array, object}
use Rattle.serde_json.specs.Find.{get}
use Rattle.serde_json.specs.Read.{read}
use Rattle.serde_json.specs.View.{items_of}
use Rattle.flu_partial.specs.declared.values.PartialHead.{PartialHead}
use Rattle.flu_partial.specs.declared.values.Amount.{Amount}
use Rattle.flu_partial.specs.declared.values.Emitted.{Emitted}
use Rattle.flu_partial.specs.declared.values.Contribution.{Contribution}
use Rattle.flu_partial.specs.declared.values.Place.{Place}
use Rattle.flu_partial.specs.declared.values.Place.TheVariants.{Before, End}
use Rattle.flu_partial.specs.Laws.{LawOfHeads, LawOfContributions}
use Rattle.flu_partial.specs.Partial.{time_or_null, amount_value, emitted_value, IsAmount, IsContribution}
use Rattle.flu_partial.specs.Having.{HasHead, HasContribution, HasPlace}
use Rattle.flu_partial.proofs.Found.{head_read, head_there, contribution_read, contribution_there, of_some}
use Rattle.flu_partial.proofs.Numbers.{signed_decimal_injective_wide}

same_time : (a b : Option ℕ) → time_or_null a ≡ time_or_null b → a ≡ b
same_time None None e = refl
same_time None (Some t) e = absurd cc
same_time (Some s) None e = absurd cc
same_time (Some s) (Some t) e = let x : s ≡ t = cc in ap Some x

-- ---- heads
one_head : (d : Data) (g h : PartialHead) → HasHead d g → HasHead d h → g ≡ h
one_head d g h a b =
    let first = same_time g.first h.first (of_some _ _ (sym a.first ∙ b.first)) in
    let jobs : Some (string g.job) ≡ Some (string h.job) = sym a.job ∙ b.job in
    let nodes : Some (string g.node) ≡ Some (string h.node) = sym a.node ∙ b.node in
    let plans : Some (string g.plan) ≡ Some (string h.plan) = sym a.plan ∙ b.plan in
    let job : g.job ≡ h.job = cc in
    let node : g.node ≡ h.node = cc in
    let plan : g.plan ≡ h.plan = cc in
    λ i. record { first = first i; job = job i; node = node i; plan = plan i }

pub law_of_heads : LawOfHeads
law_of_heads g h first second same =
    let e = of_some _ _ (sym (head_read g first) ∙ ap read same ∙ head_read h second) in
    one_head _ g h (head_there g) (subst (λ (d : Data). HasHead d h) (sym e) (head_there h))

-- ---- contributions
same_amount : (a b : Amount) → IsAmount a → IsAmount b → amount_value a ≡ amount_value b → a ≡ b
same_amount a b x y e =
    let family : a.cell.family ≡ b.cell.family = cc in
    let key : a.cell.key ≡ b.cell.key = cc in
    let text : signed_decimal a.value ≡ signed_decimal b.value = cc in
    let value : a.value ≡ b.value = signed_decimal_injective_wide a.value b.value (omega (arith, x.2.sfits)) (omega (arith, y.2.sfits)) text in
    λ i. record { cell = record { family = family i; key = key i }; value = value i }

same_amounts : (xs ys : List Amount) → AllByRecursion IsAmount xs → AllByRecursion IsAmount ys
    → items_of (map amount_value xs) ≡ items_of (map amount_value ys) → xs ≡ ys
same_amounts [] [] p q e = refl
same_amounts [] (y ∷ ys) p q e = absurd cc
same_amounts (x ∷ xs) [] p q e = absurd cc
same_amounts (x ∷ xs) (y ∷ ys) p q e =
    let first : amount_value x ≡ amount_value y = cc in
    let others : items_of (map amount_value xs) ≡ items_of (map amount_value ys) = cc in
    ap₂ (λ z zs. z ∷ zs) (same_amount x y p.0 q.0 first) (same_amounts xs ys p.1 q.1 others)

same_out : (a b : Emitted) → emitted_value a ≡ emitted_value b → a ≡ b
same_out a b e =
    let time : a.time ≡ b.time = cc in
    let tag : a.tag ≡ b.tag = cc in
    let text : a.text ≡ b.text = cc in
    λ i. record { time = time i; tag = tag i; text = text i }

same_outs : (xs ys : List Emitted) → items_of (map emitted_value xs) ≡ items_of (map emitted_value ys) → xs ≡ ys
same_outs [] [] e = refl
same_outs [] (y ∷ ys) e = absurd cc
same_outs (x ∷ xs) [] e = absurd cc
same_outs (x ∷ xs) (y ∷ ys) e =
    let first : emitted_value x ≡ emitted_value y = cc in
    let others : items_of (map emitted_value xs) ≡ items_of (map emitted_value ys) = cc in
    ap₂ (λ z zs. z ∷ zs) (same_out x y first) (same_outs xs ys others)

same_place : (d : Data) (p q : Place) → HasPlace d p → HasPlace d q → p ≡ q
same_place d (Before s i) (Before t j) a b =
    let times : Some (number (unsigned s)) ≡ Some (number (unsigned t)) = sym a.1 ∙ b.1 in
    let itags : Some (number (unsigned i.0)) ≡ Some (number (unsigned j.0)) = sym a.2 ∙ b.2 in
    let time : s ≡ t = cc in
    let itag : i.0 ≡ j.0 = cc in
    λ k. Before (time k) (record { 0 = itag k })
same_place d (Before s i) (End last) a b = let e : None ≡ Some (time_or_null last) = sym a.0 ∙ b in absurd cc
same_place d (End last) (Before t j) a b = let e : None ≡ Some (time_or_null last) = sym b.0 ∙ a in absurd cc
same_place d (End l) (End m) a b = ap End (same_time l m (of_some _ _ (sym a ∙ b)))

one_contribution : (d : Data) (b c : Contribution) → IsContribution b → IsContribution c → HasContribution d b → HasContribution d c → b ≡ c
one_contribution d b c x y p q =
    let lists : Some (array (items_of (map amount_value b.cells))) ≡ Some (array (items_of (map amount_value c.cells))) = sym p.cells ∙ q.cells in
    let counts : Some (number (unsigned b.events)) ≡ Some (number (unsigned c.events)) = sym p.events ∙ q.events in
    let texts : Some (array (items_of (map emitted_value b.outs))) ≡ Some (array (items_of (map emitted_value c.outs))) = sym p.outs ∙ q.outs in
    let cells = same_amounts b.cells c.cells x.amounts y.amounts (cc) in
    let events : b.events ≡ c.events = cc in
    let outs = same_outs b.outs c.outs (cc) in
    let place = same_place d b.place c.place p.place q.place in
    λ i. record { place = place i; cells = cells i; events = events i; outs = outs i }

pub law_of_contributions : LawOfContributions
law_of_contributions b c first second same =
    let e = of_some _ _ (sym (contribution_read b first) ∙ ap read same ∙ contribution_read c second) in
    one_contribution _ b c first second (contribution_there b) (subst (λ (d : Data). HasContribution d c) (sym e) (contribution_there c))
