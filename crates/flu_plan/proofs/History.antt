-- What is found as a plan is spelled so: each token is the sign that the machine's turn puts behind those before.
use Rattle.std.proofs.Common.{◌≡◌, ◌≢◌, ℕ, List, [], ◌∷◌, ◌++◌, Option, Some, None, Ok, true, refl, sym, ap, subst, ◌∙◌, append_assoc}
use Rattle.std.specs.List.{flat_map}
use Rattle.std.proofs.lemmas.List.{append-nil}
use Rattle.std.proofs.lemmas.Grind.{flat_map-append}
use Rattle.flu_text.specs.declared.words.Word.{Word}
use Rattle.flu_text.specs.declared.words.Word.TheVariants as w
use Rattle.flu_names.specs.declared.reserved.Reserved.TheVariants as r
use Rattle.flu_text.specs.declared.words.Mark.TheVariants as m
use Rattle.flu_text.specs.declared.words.Token.{Token}
use Rattle.flu_text.specs.declared.written.WrittenSpan.{WrittenSpan}
use Rattle.flu_text.specs.declared.written.WrittenNumber.{WrittenNumber}
use Rattle.flu_text.specs.declared.written.WrittenKeys.{WrittenKeys}
use Rattle.flu_text.specs.declared.written.WrittenKeys.TheVariants as keys
use Rattle.flu_text.specs.Signs.{span_of, number_of}
use Rattle.flu_text.specs.Signs.{Sign, Any, At, Named, is_name_word, IsSign, AreSigns}
use Rattle.flu_text.specs.Signs.{name, number, keys_signs, separated}
use Rattle.flu_plan.specs.declared.terminals.Terminal.{Terminal}
use Rattle.flu_plan.specs.declared.terminals.Terminal.TheVariants as k
use Rattle.flu_plan.specs.declared.grammar.Stage.{Stage}
use Rattle.flu_plan.specs.declared.grammar.Stage.TheVariants as stage
use Rattle.flu_plan.specs.declared.written.WrittenPred.{WrittenPred}
use Rattle.flu_plan.specs.declared.written.WrittenNode.{WrittenNode}
use Rattle.flu_plan.specs.Faults.{Found, ◌>>=◌, each}
use Rattle.flu_plan.specs.Machine.{terminal_of, Turn, start, pred, with_pred, with_node, stage_step, end_step, step, stage_end, ended, run}
use Rattle.flu_plan.specs.Grammar.{kind_signs, pred_signs, HasPart, ArePreds, kids_signs, node_signs, AreNodes, plan_signs, ArePlan}
use Rattle.flu_plan.proofs.Finds.{ok_same}
use Rattle.flu_lemmas.proofs.Loops.{bind_ok}
use Rattle.flu_plan.proofs.Spelled.{turn, steps}

-- ---- the signs of a turn

abbrev head : WrittenSpan → List Sign
head nm = Any (w.Reserved r.Node) ∷ (name nm ++ Any (w.Mark m.Colon) ∷ [])

abbrev all_preds : List WrittenPred → List Sign
all_preds preds = separated (w.Mark m.Comma) pred_signs preds

-- before one more predicate
abbrev lead : List WrittenPred → List Sign
lead [] = []
lead (q ∷ preds) = all_preds (q ∷ preds) ++ Any (w.Mark m.Comma) ∷ []

-- keys without the bracket behind them
abbrev part_keys : WrittenKeys → List Sign
part_keys keys.Alone = []
part_keys (keys.One n) = Any (w.Mark m.OpenBracket) ∷ number n
part_keys (keys.Range low high) = Any (w.Mark m.OpenBracket) ∷ (number low ++ Any (w.Mark m.Dots) ∷ number high)

abbrev before_pred : WrittenSpan → List WrittenPred → List Sign
before_pred nm preds = head nm ++ lead preds

abbrev behind_preds : WrittenSpan → List WrittenPred → List Sign
behind_preds nm preds = head nm ++ all_preds preds

abbrev open_signs : WrittenSpan → List WrittenPred → Stage → List Sign
open_signs nm preds stage.Start = []
open_signs nm preds stage.Node = Any (w.Reserved r.Node) ∷ []
open_signs nm preds stage.Name = Any (w.Reserved r.Node) ∷ name nm
open_signs nm preds stage.Colon = head nm
open_signs nm preds stage.Comma = before_pred nm preds
open_signs nm preds (stage.Kind kind) = before_pred nm preds ++ name kind
open_signs nm preds (stage.Open kind) = before_pred nm preds ++ (name kind ++ Any (w.Mark m.OpenBracket) ∷ [])
open_signs nm preds (stage.Low kind low) = before_pred nm preds ++ (name kind ++ part_keys (keys.One low))
open_signs nm preds (stage.Dots kind low) = before_pred nm preds ++ (name kind ++ (part_keys (keys.One low) ++ Any (w.Mark m.Dots) ∷ []))
open_signs nm preds (stage.High kind ks) = before_pred nm preds ++ (name kind ++ part_keys ks)
open_signs nm preds (stage.Close kind ks) = before_pred nm preds ++ (name kind ++ keys_signs ks)
open_signs nm preds (stage.At kind ks) = before_pred nm preds ++ (kind_signs kind ks ++ Any (w.Mark m.At) ∷ [])
open_signs nm preds stage.Source = behind_preds nm preds
open_signs nm preds stage.Arrow = behind_preds nm preds ++ Any (w.Mark m.Arrow) ∷ []
open_signs nm preds (stage.Left left) = behind_preds nm preds ++ Any (w.Mark m.Arrow) ∷ name left
open_signs nm preds (stage.Right left right) = behind_preds nm preds ++ Any (w.Mark m.Arrow) ∷ (name left ++ name right)

-- the signs of the tokens so far
abbrev pub history : List WrittenNode → WrittenSpan → List WrittenPred → Stage → List Sign
history nodes nm preds s = plan_signs nodes ++ open_signs nm preds s

-- ---- what holds at a turn

-- only a kind has keys
abbrev AtPart : Option WrittenSpan → WrittenKeys → Type 0
AtPart None ks = ks ≡ keys.Alone
AtPart (Some kind) ks = Unit {0}

abbrev Holds : List WrittenPred → Stage → Type 0
Holds preds stage.Start = preds ≡ []
Holds preds stage.Node = preds ≡ []
Holds preds stage.Name = preds ≡ []
Holds preds stage.Colon = preds ≡ []
Holds preds stage.Comma = Unit {0}
Holds preds (stage.Kind kind) = Unit {0}
Holds preds (stage.Open kind) = Unit {0}
Holds preds (stage.Low kind low) = Unit {0}
Holds preds (stage.Dots kind low) = Unit {0}
Holds preds (stage.High kind ks) = (low : WrittenNumber) × (high : WrittenNumber) × (ks ≡ keys.Range low high)
Holds preds (stage.Close kind ks) = Unit {0}
Holds preds (stage.At kind ks) = AtPart kind ks
Holds preds stage.Source = preds ≢ []
Holds preds stage.Arrow = Unit {0}
Holds preds (stage.Left left) = Unit {0}
Holds preds (stage.Right left right) = Unit {0}

pub record Good (nodes : List WrittenNode) (preds : List WrittenPred) (s : Stage) : Type 0 where
  pub nodes_are : AreNodes nodes
  pub preds_are : ArePreds preds
  pub holds : Holds preds s

preds_more : (preds : List WrittenPred) (q : WrittenPred) → ArePreds preds → HasPart q.kind q.keys q.source → ArePreds (preds ++ q ∷ [])
preds_more [] q are part = (part, tt)
preds_more (p ∷ preds) q are part = (are.0, preds_more preds q are.1 part)

nodes_more : (nodes : List WrittenNode) (n : WrittenNode) → AreNodes nodes → ArePreds n.preds → AreNodes (nodes ++ n ∷ [])
nodes_more [] n are preds = (preds, tt)
nodes_more (m ∷ nodes) n are preds = (are.0, nodes_more nodes n are.1 preds)

has_source : (kind : Option WrittenSpan) (ks : WrittenKeys) (source : WrittenSpan) → AtPart kind ks → HasPart kind ks (Some source)
has_source None ks source h = (h, refl)
has_source (Some kind) ks source h = tt

-- ---- one token

-- what a terminal says of the word
abbrev Said : Terminal → Word → Type 0
Said k.Node word = word ≡ w.Reserved r.Node
Said k.Name word = is_name_word word ≡ true
Said (k.Number n) word = word ≡ w.Number n
Said k.Colon word = word ≡ w.Mark m.Colon
Said k.Comma word = word ≡ w.Mark m.Comma
Said k.OpenBracket word = word ≡ w.Mark m.OpenBracket
Said k.CloseBracket word = word ≡ w.Mark m.CloseBracket
Said k.Dots word = word ≡ w.Mark m.Dots
Said k.At word = word ≡ w.Mark m.At
Said k.Arrow word = word ≡ w.Mark m.Arrow
Said k.Other word = Unit {0}

said : (word : Word) → Said (terminal_of word) word
unfolding terminal_of
said (w.Name c) = refl
said (w.Reserved r.Node) = refl
said (w.Reserved _) = tt
said (w.Number n) = refl
said w.Text = tt
said (w.Mark m.Colon) = refl
said (w.Mark m.Comma) = refl
said (w.Mark m.OpenBracket) = refl
said (w.Mark m.CloseBracket) = refl
said (w.Mark m.Dots) = refl
said (w.Mark m.At) = refl
said (w.Mark m.Arrow) = refl
said (w.Mark _) = tt

-- the turn behind a token, whose sign stands behind these
pub record Took (signs : List Sign) (t : Token) (u : Turn) : Type 0 where
  pub sign : Sign
  pub is : IsSign sign t
  pub good : Good u.nodes u.preds u.stage
  pub grows : history u.nodes u.name u.preds u.stage ≡ signs ++ sign ∷ []

took : (signs : List Sign) (t : Token) (u next : Turn) (sign : Sign) → IsSign sign t → Good next.nodes next.preds next.stage
    → history next.nodes next.name next.preds next.stage ≡ signs ++ sign ∷ [] → (let r : Found Turn = Ok next in let s : Found Turn = Ok u in r ≡ s)
    → Took signs t u
took signs t u next sign is good grows e = subst (λ (v : Turn). Took signs t v) (ok_same next u e) (record { sign = sign; is = is; good = good; grows = grows })

-- signs of the open node grow by one
grow : (plan before signs more : List Sign) (sign : Sign) → more ≡ before ++ sign ∷ [] → signs ≡ plan ++ before → plan ++ more ≡ signs ++ sign ∷ []
grow plan before signs more sign e is = ap (λ l. plan ++ l) e ∙ sym (append_assoc plan before (sign ∷ [])) ∙ ap (λ l. l ++ sign ∷ []) (sym is)

abbrev comma_signs : WrittenPred → List Sign
comma_signs q = Any (w.Mark m.Comma) ∷ pred_signs q

-- one predicate more
preds_push : (preds : List WrittenPred) (q : WrittenPred) → all_preds (preds ++ q ∷ []) ≡ lead preds ++ pred_signs q
preds_push [] q = append-nil (pred_signs q)
preds_push (p ∷ preds) q =
    ap (λ l. pred_signs p ++ l) (flat_map-append comma_signs preds (q ∷ []) ∙ ap (λ l. flat_map comma_signs preds ++ l) (append-nil (comma_signs q)))
    ∙ sym (append_assoc (pred_signs p) (flat_map comma_signs preds) (comma_signs q))
    ∙ sym (append_assoc (pred_signs p ++ flat_map comma_signs preds) (Any (w.Mark m.Comma) ∷ []) (pred_signs q))

lead_push : (preds : List WrittenPred) (q : WrittenPred) → lead (preds ++ q ∷ []) ≡ all_preds (preds ++ q ∷ []) ++ Any (w.Mark m.Comma) ∷ []
lead_push [] q = refl
lead_push (p ∷ preds) q = refl

-- the signs behind a predicate, as those before it and its own
pred_ends : (nm : WrittenSpan) (preds : List WrittenPred) (q : WrittenPred) (signs : List Sign) → signs ≡ pred_signs q
    → before_pred nm preds ++ signs ≡ behind_preds nm (preds ++ q ∷ [])
pred_ends nm preds q signs e =
    ap (λ l. before_pred nm preds ++ l) e ∙ append_assoc (head nm) (lead preds) (pred_signs q) ∙ ap (λ l. head nm ++ l) (sym (preds_push preds q))

node_with : WrittenSpan → List WrittenPred → Option (WrittenSpan × WrittenSpan) → WrittenNode
node_with nm preds kids = record { name = nm; preds = preds; kids = kids }

plan_push : (nodes : List WrittenNode) (n : WrittenNode) → plan_signs (nodes ++ n ∷ []) ≡ plan_signs nodes ++ node_signs n
plan_push nodes n = flat_map-append node_signs nodes (n ∷ []) ∙ ap (λ l. plan_signs nodes ++ l) (append-nil (node_signs n))

node_ends : (nodes : List WrittenNode) (nm : WrittenSpan) (preds : List WrittenPred) (kids : Option (WrittenSpan × WrittenSpan)) (before : List Sign)
    → before ≡ head nm ++ (all_preds preds ++ kids_signs kids) → plan_signs (nodes ++ node_with nm preds kids ∷ []) ≡ plan_signs nodes ++ before
unfolding node_with
node_ends nodes nm preds kids before e = plan_push nodes (node_with nm preds kids) ∙ ap (λ l. plan_signs nodes ++ l) (sym e)

-- where a predicate is whole
end_took : (signs : List Sign) (nodes : List WrittenNode) (nm : WrittenSpan) (preds : List WrittenPred) (s : Stage) (t : Token) (k : Terminal) (u : Turn)
    → AreNodes nodes → ArePreds preds → Said k t.word
    → signs ≡ plan_signs nodes ++ behind_preds nm preds → preds ≢ [] → end_step (turn nodes nm preds s) t k ≡ Ok u → Took signs t u
unfolding node_with
end_took signs nodes nm preds s t k.Comma u are preds_are word is some e =
    took signs t u (turn nodes nm preds stage.Comma) (Any (w.Mark m.Comma)) word (record { nodes_are = are; preds_are = preds_are; holds = tt })
    (grow (plan_signs nodes) (behind_preds nm preds) signs (before_pred nm preds) (Any (w.Mark m.Comma)) (led preds some) is) e
  where
    led : (preds : List WrittenPred) → preds ≢ [] → before_pred nm preds ≡ behind_preds nm preds ++ Any (w.Mark m.Comma) ∷ []
    led [] some = absurd (some refl)
    led (q ∷ preds) some = sym (append_assoc (head nm) (all_preds (q ∷ preds)) (Any (w.Mark m.Comma) ∷ []))
end_took signs nodes nm preds s t k.Arrow u are preds_are word is some e =
    took signs t u (turn nodes nm preds stage.Arrow) (Any (w.Mark m.Arrow)) word (record { nodes_are = are; preds_are = preds_are; holds = tt })
    (grow (plan_signs nodes) (behind_preds nm preds) signs (behind_preds nm preds ++ Any (w.Mark m.Arrow) ∷ []) (Any (w.Mark m.Arrow)) refl is) e
end_took signs nodes nm preds s t k.Node u are preds_are word is some e =
    took signs t u (with_node (turn nodes nm preds s) None) (Any (w.Reserved r.Node)) word
    (record { nodes_are = nodes_more nodes (node_with nm preds None) are preds_are; preds_are = tt; holds = refl })
    (ap (λ l. l ++ Any (w.Reserved r.Node) ∷ [])
    (node_ends nodes nm preds None (behind_preds nm preds) (ap (λ l. head nm ++ l) (sym (append-nil (all_preds preds)))) ∙ sym is)) e
end_took signs nodes nm preds s t _ u are preds_are word is some e = absurd cc

not_none : (preds : List WrittenPred) (q : WrittenPred) → preds ++ q ∷ [] ≢ []
not_none [] q e = absurd cc
not_none (p ∷ preds) q e = absurd cc

-- the turn behind a whole predicate, which the next token ends
closed_took : (nodes : List WrittenNode) (nm kind : WrittenSpan) (preds : List WrittenPred) (ks : WrittenKeys) (s : Stage) (t : Token) (k : Terminal) (u : Turn)
    → Good nodes preds s → Said k t.word
    → open_signs nm preds s ≡ before_pred nm preds ++ (name kind ++ keys_signs ks)
    → end_step (with_pred (turn nodes nm preds s) (pred (Some kind) ks None)) t k ≡ Ok u → Took (history nodes nm preds s) t u
closed_took nodes nm kind preds ks s t k u good word is e =
    let q = pred (Some kind) ks None in
    let signs : name kind ++ keys_signs ks ≡ pred_signs q = sym (append-nil (name kind ++ keys_signs ks)) in
    end_took (history nodes nm preds s) nodes nm (preds ++ q ∷ []) stage.Source t k u good.nodes_are (preds_more preds q good.preds_are tt) word
    (ap (λ l. plan_signs nodes ++ l) (is ∙ pred_ends nm preds q (name kind ++ keys_signs ks) signs)) (not_none preds q) e

module _ (nodes : List WrittenNode) (nm : WrittenSpan) (preds : List WrittenPred) (t : Token) (u : Turn) where
  -- the turn at a stage, which only opens signs of the node
  opened : (s next : Stage) (sign : Sign) → IsSign sign t → Good nodes preds s → Holds preds next
      → open_signs nm preds next ≡ open_signs nm preds s ++ sign ∷ []
      → (let r : Found Turn = Ok (turn nodes nm preds next) in let v : Found Turn = Ok u in r ≡ v) → Took (history nodes nm preds s) t u
  opened s next sign is good holds grows e =
      took (history nodes nm preds s) t u (turn nodes nm preds next) sign is (record { nodes_are = good.nodes_are; preds_are = good.preds_are; holds = holds })
      (grow (plan_signs nodes) (open_signs nm preds s) (history nodes nm preds s) (open_signs nm preds next) sign grows refl) e

  start_took : (k : Terminal) → Said k t.word → Good nodes preds stage.Start → stage_step (turn nodes nm preds stage.Start) t k stage.Start ≡ Ok u
      → Took (history nodes nm preds stage.Start) t u
  start_took k.Node word good e = opened stage.Start stage.Node (Any (w.Reserved r.Node)) word good good.holds refl e
  start_took _ word good e = absurd cc

  node_took : (k : Terminal) → Said k t.word → Good nodes preds stage.Node → stage_step (turn nodes nm preds stage.Node) t k stage.Node ≡ Ok u
      → Took (history nodes nm preds stage.Node) t u
  node_took k.Name word good e =
      took (history nodes nm preds stage.Node) t u (turn nodes (span_of t) preds stage.Name) (Named (span_of t)) (word, refl, refl)
      (record { nodes_are = good.nodes_are; preds_are = good.preds_are; holds = good.holds })
      (grow (plan_signs nodes) (Any (w.Reserved r.Node) ∷ []) (history nodes nm preds stage.Node) (open_signs (span_of t) preds stage.Name)
      (Named (span_of t)) refl refl) e
  node_took _ word good e = absurd cc

  name_took : (k : Terminal) → Said k t.word → Good nodes preds stage.Name → stage_step (turn nodes nm preds stage.Name) t k stage.Name ≡ Ok u
      → Took (history nodes nm preds stage.Name) t u
  name_took k.Colon word good e = opened stage.Name stage.Colon (Any (w.Mark m.Colon)) word good good.holds refl e
  name_took _ word good e = absurd cc

  comma_took : (k : Terminal) → Said k t.word → Good nodes preds stage.Comma → stage_step (turn nodes nm preds stage.Comma) t k stage.Comma ≡ Ok u
      → Took (history nodes nm preds stage.Comma) t u
  comma_took k.Name word good e = opened stage.Comma (stage.Kind (span_of t)) (Named (span_of t)) (word, refl, refl) good tt refl e
  comma_took k.At word good e = opened stage.Comma (stage.At None keys.Alone) (Any (w.Mark m.At)) word good refl refl e
  comma_took _ word good e = absurd cc

  colon_took : (k : Terminal) → Said k t.word → Good nodes preds stage.Colon → stage_step (turn nodes nm preds stage.Colon) t k stage.Colon ≡ Ok u
      → Took (history nodes nm preds stage.Colon) t u
  unfolding node_with
  colon_took k.Arrow word good e =
      opened stage.Colon stage.Arrow (Any (w.Mark m.Arrow)) word good tt (ap (λ p. behind_preds nm p ++ Any (w.Mark m.Arrow) ∷ []) good.holds) e
  colon_took k.Node word good e =
      took (history nodes nm preds stage.Colon) t u (with_node (turn nodes nm preds stage.Colon) None) (Any (w.Reserved r.Node)) word
      (record { nodes_are = nodes_more nodes (node_with nm preds None) good.nodes_are good.preds_are; preds_are = tt; holds = refl })
      (ap (λ l. l ++ Any (w.Reserved r.Node) ∷ []) (node_ends nodes nm preds None (head nm) (sym (ap (λ p. head nm ++ (all_preds p ++ [])) good.holds)))) e
  colon_took k.Name word good e =
      opened stage.Colon (stage.Kind (span_of t)) (Named (span_of t)) (word, refl, refl) good tt
      (ap (λ p. before_pred nm p ++ name (span_of t)) good.holds) e
  colon_took k.At word good e =
      opened stage.Colon (stage.At None keys.Alone) (Any (w.Mark m.At)) word good refl (ap (λ p. before_pred nm p ++ Any (w.Mark m.At) ∷ []) good.holds) e
  colon_took _ word good e = absurd cc

  kind_took : (kind : WrittenSpan) (k : Terminal) → Said k t.word → Good nodes preds (stage.Kind kind)
      → stage_step (turn nodes nm preds (stage.Kind kind)) t k (stage.Kind kind) ≡ Ok u → Took (history nodes nm preds (stage.Kind kind)) t u
  kind_took kind k.OpenBracket word good e =
      opened (stage.Kind kind) (stage.Open kind) (Any (w.Mark m.OpenBracket)) word good tt
      (sym (append_assoc (before_pred nm preds) (name kind) (Any (w.Mark m.OpenBracket) ∷ []))) e
  kind_took kind k.At word good e =
      opened (stage.Kind kind) (stage.At (Some kind) keys.Alone) (Any (w.Mark m.At)) word good tt
      (sym (append_assoc (before_pred nm preds) (name kind) (Any (w.Mark m.At) ∷ []))) e
  kind_took kind k.Comma word good e = closed_took nodes nm kind preds keys.Alone (stage.Kind kind) t k.Comma u good word refl e
  kind_took kind k.Arrow word good e = closed_took nodes nm kind preds keys.Alone (stage.Kind kind) t k.Arrow u good word refl e
  kind_took kind k.Node word good e = closed_took nodes nm kind preds keys.Alone (stage.Kind kind) t k.Node u good word refl e
  kind_took kind _ word good e = absurd cc

  open_took : (kind : WrittenSpan) (k : Terminal) → Said k t.word → Good nodes preds (stage.Open kind)
      → stage_step (turn nodes nm preds (stage.Open kind)) t k (stage.Open kind) ≡ Ok u → Took (history nodes nm preds (stage.Open kind)) t u
  open_took kind (k.Number n) word good e =
      opened (stage.Open kind) (stage.Low kind (number_of n t)) (At (w.Number n) t.from) (word, refl) good tt
      (sym (append_assoc (before_pred nm preds) (name kind ++ Any (w.Mark m.OpenBracket) ∷ []) (At (w.Number n) t.from ∷ []))) e
  open_took kind _ word good e = absurd cc

  low_took : (kind : WrittenSpan) (low : WrittenNumber) (k : Terminal) → Said k t.word → Good nodes preds (stage.Low kind low)
      → stage_step (turn nodes nm preds (stage.Low kind low)) t k (stage.Low kind low) ≡ Ok u → Took (history nodes nm preds (stage.Low kind low)) t u
  low_took kind low k.Dots word good e =
      opened (stage.Low kind low) (stage.Dots kind low) (Any (w.Mark m.Dots)) word good tt
      (sym (append_assoc (before_pred nm preds) (name kind ++ part_keys (keys.One low)) (Any (w.Mark m.Dots) ∷ []))) e
  low_took kind low k.CloseBracket word good e =
      opened (stage.Low kind low) (stage.Close kind (keys.One low)) (Any (w.Mark m.CloseBracket)) word good tt
      (sym (append_assoc (before_pred nm preds) (name kind ++ part_keys (keys.One low)) (Any (w.Mark m.CloseBracket) ∷ []))) e
  low_took kind low _ word good e = absurd cc

  dots_took : (kind : WrittenSpan) (low : WrittenNumber) (k : Terminal) → Said k t.word → Good nodes preds (stage.Dots kind low)
      → stage_step (turn nodes nm preds (stage.Dots kind low)) t k (stage.Dots kind low) ≡ Ok u → Took (history nodes nm preds (stage.Dots kind low)) t u
  dots_took kind low (k.Number n) word good e =
      opened (stage.Dots kind low) (stage.High kind (keys.Range low (number_of n t))) (At (w.Number n) t.from) (word, refl) good (low, number_of n t, refl)
      (sym (append_assoc (before_pred nm preds) (name kind ++ (part_keys (keys.One low) ++ Any (w.Mark m.Dots) ∷ [])) (At (w.Number n) t.from ∷ []))) e
  dots_took kind low _ word good e = absurd cc

  high_took : (kind : WrittenSpan) (ks : WrittenKeys) (k : Terminal) → Said k t.word → Good nodes preds (stage.High kind ks)
      → stage_step (turn nodes nm preds (stage.High kind ks)) t k (stage.High kind ks) ≡ Ok u → Took (history nodes nm preds (stage.High kind ks)) t u
  high_took kind ks k.CloseBracket word good e =
      let low = good.holds.0 in
      let high = good.holds.1 in
      let whole : keys_signs ks ≡ part_keys ks ++ Any (w.Mark m.CloseBracket) ∷ [] = ap keys_signs good.holds.2
      ∙ ap (λ (x : WrittenKeys). part_keys x ++ Any (w.Mark m.CloseBracket) ∷ []) (sym good.holds.2) in
      opened (stage.High kind ks) (stage.Close kind ks) (Any (w.Mark m.CloseBracket)) word good tt
      (ap (λ l. before_pred nm preds ++ (name kind ++ l)) whole
      ∙ sym (append_assoc (before_pred nm preds) (name kind ++ part_keys ks) (Any (w.Mark m.CloseBracket) ∷ []))) e
  high_took kind ks _ word good e = absurd cc

  close_took : (kind : WrittenSpan) (ks : WrittenKeys) (k : Terminal) → Said k t.word → Good nodes preds (stage.Close kind ks)
      → stage_step (turn nodes nm preds (stage.Close kind ks)) t k (stage.Close kind ks) ≡ Ok u → Took (history nodes nm preds (stage.Close kind ks)) t u
  close_took kind ks k.At word good e =
      opened (stage.Close kind ks) (stage.At (Some kind) ks) (Any (w.Mark m.At)) word good tt
      (sym (append_assoc (before_pred nm preds) (name kind ++ keys_signs ks) (Any (w.Mark m.At) ∷ []))) e
  close_took kind ks k.Comma word good e = closed_took nodes nm kind preds ks (stage.Close kind ks) t k.Comma u good word refl e
  close_took kind ks k.Arrow word good e = closed_took nodes nm kind preds ks (stage.Close kind ks) t k.Arrow u good word refl e
  close_took kind ks k.Node word good e = closed_took nodes nm kind preds ks (stage.Close kind ks) t k.Node u good word refl e
  close_took kind ks _ word good e = absurd cc

  at_took : (kind : Option WrittenSpan) (ks : WrittenKeys) (k : Terminal) → Said k t.word → Good nodes preds (stage.At kind ks)
      → stage_step (turn nodes nm preds (stage.At kind ks)) t k (stage.At kind ks) ≡ Ok u → Took (history nodes nm preds (stage.At kind ks)) t u
  at_took kind ks k.Name word good e =
      let q = pred kind ks (Some (span_of t)) in
      let before = before_pred nm preds in
      let sign = Named (span_of t) in
      let whole : (kind_signs kind ks ++ Any (w.Mark m.At) ∷ []) ++ sign ∷ [] ≡ pred_signs q = append_assoc (kind_signs kind ks) (Any (w.Mark m.At) ∷ [])
      (sign ∷ []) in
      took (history nodes nm preds (stage.At kind ks)) t u (with_pred (turn nodes nm preds (stage.At kind ks)) q) sign (word, refl, refl)
      (record {
        nodes_are = good.nodes_are;
        preds_are = preds_more preds q good.preds_are (has_source kind ks (span_of t) good.holds);
        holds = not_none preds
            q;
      })
      (grow (plan_signs nodes) (before ++ (kind_signs kind ks ++ Any (w.Mark m.At) ∷ [])) (history nodes nm preds (stage.At kind ks))
      (behind_preds nm (preds ++ q ∷ [])) sign
      (sym (append_assoc before (kind_signs kind ks ++ Any (w.Mark m.At) ∷ []) (sign ∷ [])
      ∙ pred_ends nm preds q ((kind_signs kind ks ++ Any (w.Mark m.At) ∷ []) ++ sign ∷ []) whole)) refl) e
  at_took kind ks _ word good e = absurd cc

  arrow_took : (k : Terminal) → Said k t.word → Good nodes preds stage.Arrow → stage_step (turn nodes nm preds stage.Arrow) t k stage.Arrow ≡ Ok u
      → Took (history nodes nm preds stage.Arrow) t u
  arrow_took k.Name word good e =
      opened stage.Arrow (stage.Left (span_of t)) (Named (span_of t)) (word, refl, refl) good tt
      (sym (append_assoc (behind_preds nm preds) (Any (w.Mark m.Arrow) ∷ []) (Named (span_of t) ∷ []))) e
  arrow_took _ word good e = absurd cc

  left_took : (left : WrittenSpan) (k : Terminal) → Said k t.word → Good nodes preds (stage.Left left)
      → stage_step (turn nodes nm preds (stage.Left left)) t k (stage.Left left) ≡ Ok u → Took (history nodes nm preds (stage.Left left)) t u
  left_took left k.Name word good e =
      opened (stage.Left left) (stage.Right left (span_of t)) (Named (span_of t)) (word, refl, refl) good tt
      (sym (append_assoc (behind_preds nm preds) (Any (w.Mark m.Arrow) ∷ name left) (Named (span_of t) ∷ []))) e
  left_took left _ word good e = absurd cc

  right_took : (left right : WrittenSpan) (k : Terminal) → Said k t.word → Good nodes preds (stage.Right left right)
      → stage_step (turn nodes nm preds (stage.Right left right)) t k (stage.Right left right) ≡ Ok u
      → Took (history nodes nm preds (stage.Right left right)) t u
  unfolding node_with
  right_took left right k.Node word good e =
      took (history nodes nm preds (stage.Right left right)) t u (with_node (turn nodes nm preds (stage.Right left right)) (Some (left, right)))
      (Any (w.Reserved r.Node)) word
      (record { nodes_are = nodes_more nodes (node_with nm preds (Some (left, right))) good.nodes_are good.preds_are; preds_are = tt; holds = refl })
      (ap (λ l. l ++ Any (w.Reserved r.Node) ∷ [])
      (node_ends nodes nm preds (Some (left, right)) (open_signs nm preds (stage.Right left right))
      (append_assoc (head nm) (all_preds preds) (kids_signs (Some (left, right)))))) e
  right_took left right _ word good e = absurd cc

  source_took : (k : Terminal) → Said k t.word → Good nodes preds stage.Source → stage_step (turn nodes nm preds stage.Source) t k stage.Source ≡ Ok u
      → Took (history nodes nm preds stage.Source) t u
  source_took k word good e =
      end_took (history nodes nm preds stage.Source) nodes nm preds stage.Source t k u good.nodes_are good.preds_are word refl good.holds e

  stage_took : (s : Stage) (k : Terminal) → Said k t.word → Good nodes preds s → stage_step (turn nodes nm preds s) t k s ≡ Ok u
      → Took (history nodes nm preds s) t u
  stage_took stage.Start k word good e = start_took k word good e
  stage_took stage.Node k word good e = node_took k word good e
  stage_took stage.Name k word good e = name_took k word good e
  stage_took stage.Colon k word good e = colon_took k word good e
  stage_took stage.Comma k word good e = comma_took k word good e
  stage_took (stage.Kind kind) k word good e = kind_took kind k word good e
  stage_took (stage.Open kind) k word good e = open_took kind k word good e
  stage_took (stage.Low kind low) k word good e = low_took kind low k word good e
  stage_took (stage.Dots kind low) k word good e = dots_took kind low k word good e
  stage_took (stage.High kind ks) k word good e = high_took kind ks k word good e
  stage_took (stage.Close kind ks) k word good e = close_took kind ks k word good e
  stage_took (stage.At kind ks) k word good e = at_took kind ks k word good e
  stage_took stage.Source k word good e = source_took k word good e
  stage_took stage.Arrow k word good e = arrow_took k word good e
  stage_took (stage.Left left) k word good e = left_took left k word good e
  stage_took (stage.Right left right) k word good e = right_took left right k word good e

pub history_of : Turn → List Sign
history_of u = history u.nodes u.name u.preds u.stage

-- a turn that holds, with its signs
pub record Read (u : Turn) (front : List Token) : Type 0 where
  pub good : Good u.nodes u.preds u.stage
  pub signs : AreSigns (history_of u) front

pub read_start : Read start []
unfolding history_of
read_start = record { good = record { nodes_are = tt; preds_are = tt; holds = refl }; signs = tt }

signs_push : (signs : List Sign) (front : List Token) (s : Sign) (t : Token) → AreSigns signs front → IsSign s t → AreSigns (signs ++ s ∷ []) (front ++ t ∷ [])
signs_push [] [] s t are is = (is, tt)
signs_push [] (x ∷ front) s t are is = absurd are
signs_push (x ∷ signs) [] s t are is = absurd are
signs_push (x ∷ signs) (y ∷ front) s t are is = (are.0, signs_push signs front s t are.1 is)

-- one token more
pub read_more : (u next : Turn) (front : List Token) (t : Token) → Read u front → step u t ≡ Ok next → Read next (front ++ t ∷ [])
unfolding history_of
read_more u next front t read e =
    let one = stage_took u.nodes u.name u.preds t next u.stage (terminal_of t.word) (said t.word) read.good (sym (steps u t (terminal_of t.word) refl) ∙ e) in
    record {
      good = one.good;
      signs = subst (λ (l : List Sign). AreSigns l (front ++ t ∷ [])) (sym one.grows)
          (signs_push (history_of u) front one.sign t read.signs one.is);
    }

-- ---- the end

-- the nodes, with the signs of all
record Ends (signs : List Sign) (all : List WrittenNode) : Type 0 where
  some : all ≢ []
  are : AreNodes all
  is : plan_signs all ≡ signs

node_some : (nodes : List WrittenNode) (n : WrittenNode) → nodes ++ n ∷ [] ≢ []
node_some [] n e = absurd cc
node_some (p ∷ nodes) n e = absurd cc

ends_with : (nodes : List WrittenNode) (nm : WrittenSpan) (preds : List WrittenPred) (kids : Option (WrittenSpan × WrittenSpan)) (signs : List Sign)
    (all : List WrittenNode) → AreNodes nodes → ArePreds preds → signs ≡ head nm ++ (all_preds preds ++ kids_signs kids)
    → (let r : Found (List WrittenNode) = Ok (nodes ++ node_with nm preds kids ∷ []) in let v : Found (List WrittenNode) = Ok all in r ≡ v)
    → Ends (plan_signs nodes ++ signs) all
unfolding node_with
ends_with nodes nm preds kids signs all are preds_are is e =
    let same = ok_same (nodes ++ node_with nm preds kids ∷ []) all e in
    subst (λ (l : List WrittenNode). Ends (plan_signs nodes ++ signs) l) same
    (record {
      some = node_some nodes (node_with nm preds kids);
      are = nodes_more nodes (node_with nm preds kids) are preds_are;
      is = node_ends nodes nm preds
          kids signs is;
    })

-- behind a whole predicate
preds_end : (nm : WrittenSpan) (preds : List WrittenPred) → behind_preds nm preds ≡ head nm ++ (all_preds preds ++ kids_signs None)
preds_end nm preds = ap (λ l. head nm ++ l) (sym (append-nil (all_preds preds)))

closed_end : (nm kind : WrittenSpan) (preds : List WrittenPred) (ks : WrittenKeys)
    → before_pred nm preds ++ (name kind ++ keys_signs ks) ≡ head nm ++ (all_preds (preds ++ pred (Some kind) ks None ∷ []) ++ kids_signs None)
closed_end nm kind preds ks =
    let q = pred (Some kind) ks None in
    pred_ends nm preds q (name kind ++ keys_signs ks) (sym (append-nil (name kind ++ keys_signs ks))) ∙ preds_end nm (preds ++ q ∷ [])

stage_ends : (end : ℕ) (nodes : List WrittenNode) (nm : WrittenSpan) (preds : List WrittenPred) (s : Stage) (all : List WrittenNode) → Good nodes preds s
    → stage_end end (turn nodes nm preds s) s ≡ Ok all → Ends (history nodes nm preds s) all
unfolding node_with
stage_ends end nodes nm preds stage.Colon all good e =
    ends_with nodes nm preds None (head nm) all good.nodes_are good.preds_are (sym (ap (λ p. head nm ++ (all_preds p ++ [])) good.holds)) e
stage_ends end nodes nm preds (stage.Kind kind) all good e =
    ends_with nodes nm (preds ++ pred (Some kind) keys.Alone None ∷ []) None (before_pred nm preds ++ name kind) all good.nodes_are
    (preds_more preds (pred (Some kind) keys.Alone None) good.preds_are tt) (closed_end nm kind preds keys.Alone) e
stage_ends end nodes nm preds (stage.Close kind ks) all good e =
    ends_with nodes nm (preds ++ pred (Some kind) ks None ∷ []) None (before_pred nm preds ++ (name kind ++ keys_signs ks)) all good.nodes_are
    (preds_more preds (pred (Some kind) ks None) good.preds_are tt) (closed_end nm kind preds ks) e
stage_ends end nodes nm preds stage.Source all good e =
    ends_with nodes nm preds None (behind_preds nm preds) all good.nodes_are good.preds_are (preds_end nm preds) e
stage_ends end nodes nm preds (stage.Right left right) all good e =
    ends_with nodes nm preds (Some (left, right)) (open_signs nm preds (stage.Right left right)) all good.nodes_are good.preds_are
    (append_assoc (head nm) (all_preds preds) (kids_signs (Some (left, right)))) e
stage_ends end nodes nm preds _ all good e = absurd cc

pub read_end : (end : ℕ) (u : Turn) (front : List Token) (all : List WrittenNode) → Read u front → ended end u ≡ Ok all → ArePlan front all
unfolding ended history_of
read_end end u front all read e =
    let ends = stage_ends end u.nodes u.name u.preds u.stage all read.good e in
    record { some = ends.some; grammar = ends.are; spelled = subst (λ (l : List Sign). AreSigns l front) (sym ends.is) read.signs }

-- what is found is spelled
pub found_spelled : (end : ℕ) (u : Turn) (front tokens : List Token) (all : List WrittenNode) → Read u front → run end u tokens ≡ Ok all
    → ArePlan (front ++ tokens) all
unfolding each
found_spelled end u front [] all read e = subst (λ (l : List Token). ArePlan l all) (sym (append-nil front)) (read_end end u front all read e)
found_spelled end u front (t ∷ tokens) all read e =
    let last = bind_ok (step u t >>= λ v. each step v tokens) (ended end) all e in
    let first = bind_ok (step u t) (λ v. each step v tokens) last.0 last.1 in
    let rest : run end first.0 tokens ≡ Ok all = ap (λ r. r >>= ended end) first.2 ∙ last.2 in
    subst (λ (l : List Token). ArePlan l all) (append_assoc front (t ∷ []) tokens)
    (found_spelled end first.0 (front ++ t ∷ []) tokens all (read_more u first.0 front t read first.1) rest)
