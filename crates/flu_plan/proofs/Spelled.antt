-- What is spelled as a plan is read as that plan.
use Rattle.std.proofs.Common.{◌≡◌, ℕ, ℤ, true, false, List, [], ◌∷◌, ◌++◌, Option, Some, None, Ok, refl, sym, ap, subst, ◌∙◌, append_assoc}
use Rattle.std.specs.List.{flat_map}
use Rattle.std.proofs.lemmas.List.{append-nil}
use Rattle.flu_text.specs.declared.words.Word.{Word}
use Rattle.flu_text.specs.declared.words.Word.TheVariants as w
use Rattle.flu_names.specs.declared.reserved.Reserved.TheVariants as r
use Rattle.flu_text.specs.declared.words.Mark.{Mark}
use Rattle.flu_text.specs.declared.words.Mark.TheVariants as m
use Rattle.flu_text.specs.declared.words.Token.{Token}
use Rattle.flu_text.specs.declared.written.WrittenSpan.{WrittenSpan}
use Rattle.flu_text.specs.declared.written.WrittenNumber.{WrittenNumber}
use Rattle.flu_text.specs.declared.written.WrittenKeys.{WrittenKeys}
use Rattle.flu_text.specs.declared.written.WrittenKeys.TheVariants as keys
use Rattle.flu_text.specs.Signs.{span_of, number_of}
use Rattle.flu_text.specs.Signs.{Sign, Any, At, Named, is_name_word, IsSign, AreSigns}
use Rattle.flu_text.specs.Signs.{name, number, keys_signs, separated}
use Rattle.flu_plan.specs.declared.terminals.Terminal.{Terminal}
use Rattle.flu_plan.specs.declared.terminals.Terminal.TheVariants as k
use Rattle.flu_plan.specs.declared.grammar.Stage.{Stage}
use Rattle.flu_plan.specs.declared.grammar.Stage.TheVariants as stage
use Rattle.flu_plan.specs.declared.written.WrittenPred.{WrittenPred}
use Rattle.flu_plan.specs.declared.written.WrittenNode.{WrittenNode}
use Rattle.flu_plan.specs.Faults.{◌>>=◌, each}
use Rattle.flu_plan.specs.Machine.{terminal_of, Turn, start, pred, stage_step, step, stage_end, ended, run, written_in}
use Rattle.flu_plan.specs.Grammar.{kind_signs, source_signs, pred_signs, HasPart, ArePreds, kids_signs, node_signs, AreNodes, plan_signs, ArePlan}

-- ---- one token

abbrev pub turn : List WrittenNode → WrittenSpan → List WrittenPred → Stage → Turn
turn nodes name preds s = record { nodes = nodes; name = name; preds = preds; stage = s }

pub steps : (u : Turn) (t : Token) (k : Terminal) → terminal_of t.word ≡ k → step u t ≡ stage_step u t k u.stage
unfolding step
steps u t k e = ap (λ k. stage_step u t k u.stage) e

pub run-takes : (end : ℕ) (u next : Turn) (t : Token) (tokens : List Token) → step u t ≡ Ok next → run end u (t ∷ tokens) ≡ run end next tokens
unfolding each
run-takes end u next t tokens e = ap (λ r. (r >>= λ v. each step v tokens) >>= ended end) e

pub run-ends : (end : ℕ) (u : Turn) → run end u [] ≡ ended end u
unfolding each
run-ends end u = refl

-- ---- signs, one by one

-- tokens that lead on to others, which are these signs
abbrev pub LeadsTo : ℕ → Turn → List Token → Turn → List Sign → Type 0
LeadsTo end u tokens next more = (rest : List Token) × AreSigns more rest × (run end u tokens ≡ run end next rest)

takes_sign : (end : ℕ) (u next : Turn) (tokens : List Token) (s : Sign) (more : List Sign) → AreSigns (s ∷ more) tokens
    → ((t : Token) → IsSign s t → step u t ≡ Ok next) → LeadsTo end u tokens next more
takes_sign end u next [] s more h takes = absurd h
takes_sign end u next (t ∷ rest) s more h takes = (rest, h.1, run-takes end u next t rest (takes t h.0))

on_to : (end : ℕ) (u next last : Turn) (tokens : List Token) (middle more : List Sign) (a : LeadsTo end u tokens next middle)
    → LeadsTo end next a.0 last more → LeadsTo end u tokens last more
on_to end u next last tokens middle more a b = (b.0, b.1, a.2 ∙ b.2)

terminal-name : (word : Word) → is_name_word word ≡ true → terminal_of word ≡ k.Name
unfolding terminal_of
terminal-name (w.Name c) e = refl
terminal-name _ e = absurd cc

terminal-number : (t : Token) (n : ℤ) → t.word ≡ w.Number n → terminal_of t.word ≡ k.Number n
unfolding terminal_of
terminal-number t n e = ap terminal_of e

pub terminal-node : (t : Token) → t.word ≡ w.Reserved r.Node → terminal_of t.word ≡ k.Node
unfolding terminal_of
terminal-node t e = ap terminal_of e

terminal-mark : (t : Token) (m : Mark) (k : Terminal) → t.word ≡ w.Mark m → terminal_of (w.Mark m) ≡ k → terminal_of t.word ≡ k
terminal-mark t m k e h = ap terminal_of e ∙ h

mark-colon : terminal_of (w.Mark m.Colon) ≡ k.Colon
unfolding terminal_of
mark-colon = refl

mark-comma : terminal_of (w.Mark m.Comma) ≡ k.Comma
unfolding terminal_of
mark-comma = refl

mark-open : terminal_of (w.Mark m.OpenBracket) ≡ k.OpenBracket
unfolding terminal_of
mark-open = refl

mark-close : terminal_of (w.Mark m.CloseBracket) ≡ k.CloseBracket
unfolding terminal_of
mark-close = refl

mark-dots : terminal_of (w.Mark m.Dots) ≡ k.Dots
unfolding terminal_of
mark-dots = refl

mark-at : terminal_of (w.Mark m.At) ≡ k.At
unfolding terminal_of
mark-at = refl

mark-arrow : terminal_of (w.Mark m.Arrow) ≡ k.Arrow
unfolding terminal_of
mark-arrow = refl

same_span : (t : Token) (s : WrittenSpan) → t.from ≡ s.from → t.to ≡ s.to → span_of t ≡ s
same_span t s a b = λ i. record { from = a i; to = b i }

same_number : (t : Token) (n : WrittenNumber) → t.from ≡ n.at → number_of n.value t ≡ n
same_number t n a = λ i. record { value = n.value; at = a i }

-- a mark leads on
takes_mark : (end : ℕ) (u next : Turn) (tokens : List Token) (mark : Mark) (k : Terminal) (more : List Sign) → AreSigns (Any (w.Mark mark) ∷ more) tokens
    → terminal_of (w.Mark mark) ≡ k → ((t : Token) → stage_step u t k u.stage ≡ Ok next) → LeadsTo end u tokens next more
takes_mark end u next tokens mark k more h is takes =
    takes_sign end u next tokens (Any (w.Mark mark)) more h (λ t sign. steps u t k (terminal-mark t mark k sign is) ∙ takes t)

-- a name leads on
takes_name : (end : ℕ) (u : Turn) (next : WrittenSpan → Turn) (tokens : List Token) (s : WrittenSpan) (more : List Sign) → AreSigns (name s ++ more) tokens
    → ((t : Token) → stage_step u t k.Name u.stage ≡ Ok (next (span_of t))) → LeadsTo end u tokens (next s) more
takes_name end u next tokens s more h takes =
    takes_sign end u (next s) tokens (Named s) more h (λ t sign. steps u t k.Name (terminal-name t.word sign.0) ∙ takes t
    ∙ ap (λ x. Ok (next x)) (same_span t s sign.1 sign.2))

takes_number : (end : ℕ) (u : Turn) (next : WrittenNumber → Turn) (tokens : List Token) (n : WrittenNumber) (more : List Sign)
    → AreSigns (number n ++ more) tokens → ((t : Token) → stage_step u t (k.Number n.value) u.stage ≡ Ok (next (number_of n.value t)))
    → LeadsTo end u tokens (next n) more
takes_number end u next tokens n more h takes =
    takes_sign end u (next n) tokens (At (w.Number n.value) n.at) more h (λ t sign. steps u t (k.Number n.value) (terminal-number t n.value sign.0) ∙ takes t
    ∙ ap (λ x. Ok (next x)) (same_number t n sign.1))

-- ---- behind a node

-- the next node may begin, behind these
pub record Before (u : Turn) (nodes : List WrittenNode) : Type 0 where
  pub name : WrittenSpan
  pub next : (t : Token) → stage_step u t k.Node u.stage ≡ Ok (turn nodes name [] stage.Node)

-- and the text may end
pub record After (u : Turn) (nodes : List WrittenNode) : Type 0 where
  pub before : Before u nodes
  pub end : (end : ℕ) → stage_end end u u.stage ≡ Ok nodes

-- a node with these predicates may end here, or have children
record NodeEnd (u : Turn) (nodes : List WrittenNode) (name : WrittenSpan) (preds : List WrittenPred) : Type 0 where
  after : After u (nodes ++ record { name = name; preds = preds; kids = None } ∷ [])
  arrow : (t : Token) → stage_step u t k.Arrow u.stage ≡ Ok (turn nodes name preds stage.Arrow)

-- and a predicate may end here
record PredEnd (u : Turn) (nodes : List WrittenNode) (name : WrittenSpan) (preds : List WrittenPred) : Type 0 where
  node : NodeEnd u nodes name preds
  comma : (t : Token) → stage_step u t k.Comma u.stage ≡ Ok (turn nodes name preds stage.Comma)

-- a predicate is wanted
record Wants (u : Turn) (nodes : List WrittenNode) (name : WrittenSpan) (preds : List WrittenPred) : Type 0 where
  kind : (t : Token) → stage_step u t k.Name u.stage ≡ Ok (turn nodes name preds (stage.Kind (span_of t)))
  source : (t : Token) → stage_step u t k.At u.stage ≡ Ok (turn nodes name preds (stage.At None keys.Alone))

end-kind : (nodes : List WrittenNode) (name kind : WrittenSpan) (preds : List WrittenPred)
    → PredEnd (turn nodes name preds (stage.Kind kind)) nodes name (preds ++ pred (Some kind) keys.Alone None ∷ [])
end-kind nodes name kind preds = record
    { node = record { after = record { before = record { name = name; next = λ t. refl }; end = λ e. refl }; arrow = λ t. refl }; comma = λ t. refl }

end-close : (nodes : List WrittenNode) (name kind : WrittenSpan) (preds : List WrittenPred) (ks : WrittenKeys)
    → PredEnd (turn nodes name preds (stage.Close kind ks)) nodes name (preds ++ pred (Some kind) ks None ∷ [])
end-close nodes name kind preds ks = record
    { node = record { after = record { before = record { name = name; next = λ t. refl }; end = λ e. refl }; arrow = λ t. refl }; comma = λ t. refl }

end-source : (nodes : List WrittenNode) (name : WrittenSpan) (preds : List WrittenPred) → PredEnd (turn nodes name preds stage.Source) nodes name preds
end-source nodes name preds = record
    { node = record { after = record { before = record { name = name; next = λ t. refl }; end = λ e. refl }; arrow = λ t. refl }; comma = λ t. refl }

end-colon : (nodes : List WrittenNode) (name : WrittenSpan) → NodeEnd (turn nodes name [] stage.Colon) nodes name []
end-colon nodes name = record { after = record { before = record { name = name; next = λ t. refl }; end = λ e. refl }; arrow = λ t. refl }

wants-colon : (nodes : List WrittenNode) (name : WrittenSpan) (preds : List WrittenPred) → Wants (turn nodes name preds stage.Colon) nodes name preds
wants-colon nodes name preds = record { kind = λ t. refl; source = λ t. refl }

wants-comma : (nodes : List WrittenNode) (name : WrittenSpan) (preds : List WrittenPred) → Wants (turn nodes name preds stage.Comma) nodes name preds
wants-comma nodes name preds = record { kind = λ t. refl; source = λ t. refl }

-- ---- predicates

-- a predicate is read to its end
record PredRead (end : ℕ) (u : Turn) (tokens : List Token) (nodes : List WrittenNode) (name : WrittenSpan) (preds : List WrittenPred)
    (more : List Sign) : Type 0 where
  last : Turn
  leads : LeadsTo end u tokens last more
  ends : PredEnd last nodes name preds

-- the source behind `@`
source_read : (end : ℕ) (u : Turn) (tokens : List Token) (nodes : List WrittenNode) (nm source : WrittenSpan) (kind : Option WrittenSpan) (ks : WrittenKeys)
    (preds : List WrittenPred) (more : List Sign)
    → AreSigns (Any (w.Mark m.At) ∷ (name source ++ more)) tokens → ((t : Token) → stage_step u t k.At u.stage ≡ Ok (turn nodes nm preds (stage.At kind ks)))
    → PredRead end u tokens nodes nm (preds ++ pred kind ks (Some source) ∷ []) more
source_read end u tokens nodes nm source kind ks preds more h takes =
    let at = turn nodes nm preds (stage.At kind ks) in
    let next = λ (s : WrittenSpan). turn nodes nm (preds ++ pred kind ks (Some s) ∷ []) stage.Source in
    let first = takes_mark end u at tokens m.At k.At (name source ++ more) h mark-at takes in
    let second = takes_name end at next first.0 source more first.1 (λ t. refl) in
    record {
      last = next source;
      leads = on_to end u at (next source) tokens (name source ++ more) more first second;
      ends = end-source nodes nm
          (preds ++ pred kind ks (Some source) ∷ []);
    }

-- what stands behind a kind and its keys
kind_read : (end : ℕ) (u v : Turn) (tokens : List Token) (nodes : List WrittenNode) (nm kind : WrittenSpan) (ks : WrittenKeys) (source : Option WrittenSpan)
    (preds : List WrittenPred) (more : List Sign)
    → LeadsTo end u tokens v (source_signs source ++ more) → PredEnd v nodes nm (preds ++ pred (Some kind) ks None ∷ [])
    → ((t : Token) → stage_step v t k.At v.stage ≡ Ok (turn nodes nm preds (stage.At (Some kind) ks)))
    → PredRead end u tokens nodes nm (preds ++ pred (Some kind) ks source ∷ []) more
kind_read end u v tokens nodes nm kind ks None preds more first ends takes = record { last = v; leads = first; ends = ends }
kind_read end u v tokens nodes nm kind ks (Some source) preds more first ends takes =
    let second = source_read end v first.0 nodes nm source (Some kind) ks preds more first.1 takes in
    record { last = second.last; leads = on_to end u v second.last tokens (source_signs (Some source) ++ more) more first second.leads; ends = second.ends }

kinds_read : (end : ℕ) (u : Turn) (tokens : List Token) (nodes : List WrittenNode) (nm kind : WrittenSpan) (ks : WrittenKeys) (source : Option WrittenSpan)
    (preds : List WrittenPred) (more : List Sign)
    → Wants u nodes nm preds → AreSigns (name kind ++ (keys_signs ks ++ (source_signs source ++ more))) tokens
    → PredRead end u tokens nodes nm (preds ++ pred (Some kind) ks source ∷ []) more
kinds_read end u tokens nodes nm kind keys.Alone source preds more wants h =
    let next = λ (s : WrittenSpan). turn nodes nm preds (stage.Kind s) in
    let first = takes_name end u next tokens kind (source_signs source ++ more) h wants.kind in
    kind_read end u (next kind) tokens nodes nm kind keys.Alone source preds more first (end-kind nodes nm kind preds) (λ t. refl)
kinds_read end u tokens nodes nm kind (keys.One low) source preds more wants h =
    let behind = source_signs source ++ more in
    let next = λ (s : WrittenSpan). turn nodes nm preds (stage.Kind s) in
    let low_next = λ (n : WrittenNumber). turn nodes nm preds (stage.Low kind n) in
    let opened = turn nodes nm preds (stage.Open kind) in
    let close = turn nodes nm preds (stage.Close kind (keys.One low)) in
    let a = takes_name end u next tokens kind (keys_signs (keys.One low) ++ behind) h wants.kind in
    let b = takes_mark end (next kind) opened a.0 m.OpenBracket k.OpenBracket ((number low ++ Any (w.Mark m.CloseBracket) ∷ []) ++ behind) a.1 mark-open
    (λ t. refl) in
    let c = takes_number end opened low_next b.0 low (Any (w.Mark m.CloseBracket) ∷ behind) b.1 (λ t. refl) in
    let d = takes_mark end (low_next low) close c.0 m.CloseBracket k.CloseBracket behind c.1 mark-close (λ t. refl) in
    let three = on_to end opened (low_next low) close b.0 (Any (w.Mark m.CloseBracket) ∷ behind) behind c d in
    let two = on_to end (next kind) opened close a.0 ((number low ++ Any (w.Mark m.CloseBracket) ∷ []) ++ behind) behind b three in
    let one = on_to end u (next kind) close tokens (keys_signs (keys.One low) ++ behind) behind a two in
    kind_read end u close tokens nodes nm kind (keys.One low) source preds more one (end-close nodes nm kind preds (keys.One low)) (λ t. refl)
kinds_read end u tokens nodes nm kind (keys.Range low high) source preds more wants h =
    let behind = source_signs source ++ more in
    let next = λ (s : WrittenSpan). turn nodes nm preds (stage.Kind s) in
    let low_next = λ (n : WrittenNumber). turn nodes nm preds (stage.Low kind n) in
    let high_next = λ (n : WrittenNumber). turn nodes nm preds (stage.High kind (keys.Range low n)) in
    let opened = turn nodes nm preds (stage.Open kind) in
    let dots = turn nodes nm preds (stage.Dots kind low) in
    let close = turn nodes nm preds (stage.Close kind (keys.Range low high)) in
    let a = takes_name end u next tokens kind (keys_signs (keys.Range low high) ++ behind) h wants.kind in
    let b = takes_mark end (next kind) opened a.0 m.OpenBracket k.OpenBracket
    ((number low ++ Any (w.Mark m.Dots) ∷ (number high ++ Any (w.Mark m.CloseBracket) ∷ [])) ++ behind) a.1 mark-open (λ t. refl) in
    let c = takes_number end opened low_next b.0 low (Any (w.Mark m.Dots) ∷ ((number high ++ Any (w.Mark m.CloseBracket) ∷ []) ++ behind)) b.1 (λ t. refl) in
    let d = takes_mark end (low_next low) dots c.0 m.Dots k.Dots ((number high ++ Any (w.Mark m.CloseBracket) ∷ []) ++ behind) c.1 mark-dots (λ t. refl) in
    let e = takes_number end dots high_next d.0 high (Any (w.Mark m.CloseBracket) ∷ behind) d.1 (λ t. refl) in
    let f = takes_mark end (high_next high) close e.0 m.CloseBracket k.CloseBracket behind e.1 mark-close (λ t. refl) in
    let five = on_to end dots (high_next high) close d.0 (Any (w.Mark m.CloseBracket) ∷ behind) behind e f in
    let four = on_to end (low_next low) dots close c.0 ((number high ++ Any (w.Mark m.CloseBracket) ∷ []) ++ behind) behind d five in
    let three = on_to end opened (low_next low) close b.0 (Any (w.Mark m.Dots) ∷ ((number high ++ Any (w.Mark m.CloseBracket) ∷ []) ++ behind)) behind c four in
    let two = on_to end (next kind) opened close a.0 ((number low ++ Any (w.Mark m.Dots) ∷ (number high ++ Any (w.Mark m.CloseBracket) ∷ [])) ++ behind)
    behind b three in
    let one = on_to end u (next kind) close tokens (keys_signs (keys.Range low high) ++ behind) behind a two in
    kind_read end u close tokens nodes nm kind (keys.Range low high) source preds more one (end-close nodes nm kind preds (keys.Range low high)) (λ t. refl)

pred_read : (end : ℕ) (u : Turn) (tokens : List Token) (nodes : List WrittenNode) (nm : WrittenSpan) (kind : Option WrittenSpan) (ks : WrittenKeys)
    (source : Option WrittenSpan) (preds : List WrittenPred) (more : List Sign)
    → Wants u nodes nm preds → HasPart kind ks source → AreSigns (pred_signs (pred kind ks source) ++ more) tokens
    → PredRead end u tokens nodes nm (preds ++ pred kind ks source ∷ []) more
pred_read end u tokens nodes nm None ks None preds more wants part h = let none : false ≡ true = part.1 in absurd cc
pred_read end u tokens nodes nm None ks (Some source) preds more wants part h =
    subst (λ (x : WrittenKeys). PredRead end u tokens nodes nm (preds ++ pred None x (Some source) ∷ []) more) (sym part.0)
    (source_read end u tokens nodes nm source None keys.Alone preds more h wants.source)
pred_read end u tokens nodes nm (Some kind) ks source preds more wants part h =
    kinds_read end u tokens nodes nm kind ks source preds more wants
    (subst (λ (l : List Sign). AreSigns l tokens) (append_assoc (kind_signs (Some kind) ks) (source_signs source) more) h)

abbrev comma_signs : WrittenPred → List Sign
comma_signs q = Any (w.Mark m.Comma) ∷ pred_signs q

-- predicates behind one
rest_read : (end : ℕ) (u : Turn) (tokens : List Token) (nodes : List WrittenNode) (nm : WrittenSpan) (before preds : List WrittenPred) (more : List Sign)
    → PredEnd u nodes nm before → ArePreds preds → AreSigns (flat_map comma_signs preds ++ more) tokens → PredRead end u tokens nodes nm (before ++ preds) more
rest_read end u tokens nodes nm before [] more ends are h =
    subst (λ (l : List WrittenPred). PredRead end u tokens nodes nm l more) (sym (append-nil before))
    (record { last = u; leads = (tokens, h, refl); ends = ends })
rest_read end u tokens nodes nm before (q ∷ preds) more ends are h =
    let behind = flat_map comma_signs preds ++ more in
    let comma = turn nodes nm before stage.Comma in
    let split = subst (λ (l : List Sign). AreSigns l tokens) (append_assoc (comma_signs q) (flat_map comma_signs preds) more) h in
    let first = takes_mark end u comma tokens m.Comma k.Comma (pred_signs q ++ behind) split mark-comma ends.comma in
    let one = pred_read end comma first.0 nodes nm q.kind q.keys q.source before behind (wants-comma nodes nm before) are.0 first.1 in
    let others = rest_read end one.last one.leads.0 nodes nm (before ++ q ∷ []) preds more one.ends are.1 one.leads.1 in
    let two = on_to end comma one.last others.last first.0 behind more one.leads others.leads in
    record {
      last = others.last;
      leads = on_to end u comma others.last tokens (pred_signs q ++ behind) more first two;
      ends = subst (λ (l : List WrittenPred). PredEnd others.last nodes nm l) (append_assoc before (q ∷ []) preds) others.ends;
    }

-- a node is read as far as its predicates go
record NodeRead (end : ℕ) (u : Turn) (tokens : List Token) (nodes : List WrittenNode) (name : WrittenSpan) (preds : List WrittenPred)
    (more : List Sign) : Type 0 where
  last : Turn
  leads : LeadsTo end u tokens last more
  ends : NodeEnd last nodes name preds

preds_read : (end : ℕ) (tokens : List Token) (nodes : List WrittenNode) (nm : WrittenSpan) (preds : List WrittenPred) (more : List Sign)
    → ArePreds preds → AreSigns (separated (w.Mark m.Comma) pred_signs preds ++ more) tokens
    → NodeRead end (turn nodes nm [] stage.Colon) tokens nodes nm preds more
preds_read end tokens nodes nm [] more are h = record { last = turn nodes nm [] stage.Colon; leads = (tokens, h, refl); ends = end-colon nodes nm }
preds_read end tokens nodes nm (q ∷ preds) more are h =
    let colon = turn nodes nm [] stage.Colon in
    let behind = flat_map comma_signs preds ++ more in
    let split = subst (λ (l : List Sign). AreSigns l tokens) (append_assoc (pred_signs q) (flat_map comma_signs preds) more) h in
    let one = pred_read end colon tokens nodes nm q.kind q.keys q.source [] behind (wants-colon nodes nm []) are.0 split in
    let others = rest_read end one.last one.leads.0 nodes nm (q ∷ []) preds more one.ends are.1 one.leads.1 in
    record { last = others.last; leads = on_to end colon one.last others.last tokens behind more one.leads others.leads; ends = others.ends.node }

-- ---- nodes

-- nodes are read to their end
record NodesRead (end : ℕ) (u : Turn) (tokens : List Token) (nodes : List WrittenNode) (more : List Sign) : Type 0 where
  last : Turn
  leads : LeadsTo end u tokens last more
  after : After last nodes

kids_read : (end : ℕ) (u : Turn) (tokens : List Token) (nodes : List WrittenNode) (nm : WrittenSpan) (preds : List WrittenPred)
    (kids : Option (WrittenSpan × WrittenSpan)) (more : List Sign)
    → NodeEnd u nodes nm preds → AreSigns (kids_signs kids ++ more) tokens
    → NodesRead end u tokens (nodes ++ record { name = nm; preds = preds; kids = kids } ∷ []) more
kids_read end u tokens nodes nm preds None more ends h = record { last = u; leads = (tokens, h, refl); after = ends.after }
kids_read end u tokens nodes nm preds (Some kids) more ends h =
    let arrow = turn nodes nm preds stage.Arrow in
    let left_next = λ (s : WrittenSpan). turn nodes nm preds (stage.Left s) in
    let right_next = λ (s : WrittenSpan). turn nodes nm preds (stage.Right kids.0 s) in
    let first = takes_mark end u arrow tokens m.Arrow k.Arrow (name kids.0 ++ (name kids.1 ++ more)) h mark-arrow ends.arrow in
    let left = takes_name end arrow left_next first.0 kids.0 (name kids.1 ++ more) first.1 (λ t. refl) in
    let right = takes_name end (left_next kids.0) right_next left.0 kids.1 more left.1 (λ t. refl) in
    let two = on_to end arrow (left_next kids.0) (right_next kids.1) first.0 (name kids.1 ++ more) more left right in
    record {
      last = right_next kids.1;
      leads = on_to end u arrow (right_next kids.1) tokens (name kids.0 ++ (name kids.1 ++ more)) more first two;
      after = record { before = record { name = nm; next = λ t. refl }; end = λ e. refl };
    }

node_read : (end : ℕ) (u : Turn) (tokens : List Token) (nodes : List WrittenNode) (n : WrittenNode) (more : List Sign) → Before u nodes → ArePreds n.preds
    → AreSigns (node_signs n ++ more) tokens → NodesRead end u tokens (nodes ++ n ∷ []) more
node_read end u tokens nodes n more before are h =
    let comma = separated (w.Mark m.Comma) pred_signs n.preds in
    let tail = kids_signs n.kids ++ more in
    let node = turn nodes before.name [] stage.Node in
    let named = λ (s : WrittenSpan). turn nodes s [] stage.Name in
    let colon = turn nodes n.name [] stage.Colon in
    let split = subst (λ (l : List Sign). AreSigns (Any (w.Reserved r.Node) ∷ (name n.name ++ Any (w.Mark m.Colon) ∷ l)) tokens)
    (append_assoc comma (kids_signs n.kids) more) h in
    let a = takes_sign end u node tokens (Any (w.Reserved r.Node)) (name n.name ++ Any (w.Mark m.Colon) ∷ (comma ++ tail)) split
    (λ t sign. steps u t k.Node (terminal-node t sign) ∙ before.next t) in
    let b = takes_name end node named a.0 n.name (Any (w.Mark m.Colon) ∷ (comma ++ tail)) a.1 (λ t. refl) in
    let d = takes_mark end (named n.name) colon b.0 m.Colon k.Colon (comma ++ tail) b.1 mark-colon (λ t. refl) in
    let e = preds_read end d.0 nodes n.name n.preds tail are d.1 in
    let f = kids_read end e.last e.leads.0 nodes n.name n.preds n.kids more e.ends e.leads.1 in
    let four = on_to end colon e.last f.last d.0 tail more e.leads f.leads in
    let three = on_to end (named n.name) colon f.last b.0 (comma ++ tail) more d four in
    let two = on_to end node (named n.name) f.last a.0 (Any (w.Mark m.Colon) ∷ (comma ++ tail)) more b three in
    record { last = f.last; leads = on_to end u node f.last tokens (name n.name ++ Any (w.Mark m.Colon) ∷ (comma ++ tail)) more a two; after = f.after }

more_read : (end : ℕ) (u : Turn) (tokens : List Token) (before nodes : List WrittenNode) → After u before → AreNodes nodes
    → AreSigns (plan_signs nodes) tokens → run end u tokens ≡ Ok (before ++ nodes)
unfolding ended
more_read end u [] before [] after are h = run-ends end u ∙ after.end end ∙ ap Ok (sym (append-nil before))
more_read end u (t ∷ tokens) before [] after are h = absurd h
more_read end u tokens before (n ∷ nodes) after are h =
    let one = node_read end u tokens before n (plan_signs nodes) after.before are.0 h in
    one.leads.2 ∙ more_read end one.last one.leads.0 (before ++ n ∷ []) nodes one.after are.1 one.leads.1 ∙ ap Ok (append_assoc before (n ∷ []) nodes)

before_start : Before start []
before_start = record { name = record { from = 0; to = 0 }; next = λ t. refl }

-- what is spelled is found
pub found_if_spelled : (end : ℕ) (tokens : List Token) (nodes : List WrittenNode) → ArePlan tokens nodes → written_in end tokens ≡ Ok nodes
found_if_spelled end tokens [] plan = absurd (plan.some refl)
found_if_spelled end tokens (n ∷ nodes) plan =
    let one = node_read end start tokens [] n (plan_signs nodes) before_start plan.grammar.0 plan.spelled in
    one.leads.2 ∙ more_read end one.last one.leads.0 (n ∷ []) nodes one.after plan.grammar.1 one.leads.1
