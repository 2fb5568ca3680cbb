-- Programs of one job read the same plan from a text, and print the same text of a plan.
use Rattle.std.proofs.Common.{◌≡◌, refl, sym, ap, ◌∙◌, ℕ, List, [], ◌∷◌, ◌++◌, length, Option, Some, None, Ok}
use Rattle.std.specs.Prelude.{option_map, slice_get, position, nat_le, codes}
use Rattle.std.specs.List.{flat_map}
use Rattle.std.proofs.Math.Path.{fun_ext}
use Rattle.std.proofs.lemmas.Option.{slice_get-map}
use Rattle.flu_lemmas.proofs.Places.{position-map}
use Rattle.flu_model.specs.declared.jobs.Keys.{Keys}
use Rattle.flu_model.specs.declared.jobs.Kind.{Kind}
use Rattle.flu_model.specs.declared.jobs.Program.{Program}
use Rattle.flu_model.specs.declared.limits.What.TheVariants.{Bytes}
use Rattle.flu_model.specs.declared.plans.Node.{Node}
use Rattle.flu_model.specs.declared.plans.Pred.{Pred}
use Rattle.flu_model.specs.Erasure.{PlainKind, plain_kind, IsSameJob}
use Rattle.flu_model.specs.Rules.{is_same_text}
use Rattle.flu_text.specs.declared.written.WrittenSpan.{WrittenSpan}
use Rattle.flu_layout.specs.Laid.{line_end}
use Rattle.flu_layout.specs.Lists.{keys_text, separated}
use Rattle.flu_layout.specs.Spelling.{name_of}
use Rattle.flu_plan.specs.declared.fault.PlanFault.TheVariants as f
use Rattle.flu_plan.specs.declared.written.WrittenPred.{WrittenPred}
use Rattle.flu_plan.specs.declared.written.WrittenNode.{WrittenNode}
use Rattle.flu_plan.specs.Faults.{◌>>=◌, ◌>>◌, unless, found_of_each}
use Rattle.flu_plan.specs.Laws.{ReadPlansAlike}
use Rattle.flu_plan.specs.Machine.{written_in}
use Rattle.flu_plan.specs.Printing.{name_of_kind, name_of_source, kind_text, source_text, pred_text, preds_text, kids_text, printed}
use Rattle.flu_plan.specs.Reading.{text_in, tokens_in, tree_in, resolved, plan_in}
use Rattle.flu_plan.specs.Resolving.{kind_named, source_named, known, kind_of, source_of, pred_of, kids_of, node_of, names_of}

-- the name of a kind does not depend on its actions
name_of_plain : Option PlainKind → List ℕ
name_of_plain None = []
name_of_plain (Some kind) = kind.name

name_plain : (kind : Option Kind) → name_of_kind kind ≡ name_of_plain (option_map plain_kind kind)
unfolding name_of_plain
name_plain None = refl
name_plain (Some kind) = refl

module _ (p q : Program) (same : IsSameJob p q) where
  -- ---- the names in a text stand for the same
  same_number : (name : List ℕ) → kind_named p.kinds name ≡ kind_named q.kinds name
  same_number name =
      sym (position-map (λ (k : PlainKind). is_same_text name k.name) plain_kind p.kinds)
      ∙ ((λ i. position (λ (k : PlainKind). is_same_text name k.name) (same i).kinds)
      ∙ position-map (λ (k : PlainKind). is_same_text name k.name) plain_kind q.kinds)

  same_kind : (text : List ℕ) (s : Option WrittenSpan) → kind_of p text s ≡ kind_of q text s
  same_kind text None = refl
  same_kind text (Some s) = λ i. known s.from (same_number (name_of text s) i) >>= λ n. Ok (Some n)

  same_source : (text : List ℕ) (s : Option WrittenSpan) → source_of p text s ≡ source_of q text s
  same_source text None = refl
  same_source text (Some s) = λ i. known s.from (source_named (same i).sources (name_of text s)) >>= λ n. Ok (Some n)

  same_pred : (text : List ℕ) (w : WrittenPred) → pred_of p text w ≡ pred_of q text w
  unfolding pred_of
  same_pred text w = λ i.
      same_kind text w.kind i >>= λ kind. same_source text w.source i >>=
      λ source. Ok (record { kind = kind; keys = w.keys; source = source })

  same_node : (text : List ℕ) (names : List (List ℕ)) (w : WrittenNode) → node_of p text names w ≡ node_of q text names w
  unfolding node_of
  same_node text names w = λ i.
      found_of_each (λ pred. same_pred text pred i) w.preds >>= λ preds. kids_of text names w.kids >>=
      λ kids. Ok (record { name = w.name; preds = preds; kids = kids })

  same_resolved : (text : List ℕ) (written : List WrittenNode) → resolved p text written ≡ resolved q text written
  unfolding resolved
  same_resolved text written = λ i.
      names_of text written >>= λ names. found_of_each (λ w. same_node text names w i) written >>= λ nodes. tree_in text nodes

  same_reading : (bytes : List ℕ) → plan_in p bytes ≡ plan_in q bytes
  unfolding plan_in
  same_reading bytes = λ i.
      unless (nat_le (length bytes) 1048576) (f.OverLimit Bytes 1048577) >> (text_in bytes >>= λ text. tokens_in text >>=
      λ ts. written_in (length text) ts >>= λ written. same_resolved text written i)

  -- ---- and are printed alike
  same_name : (kind : ℕ) → name_of_kind (slice_get p.kinds kind) ≡ name_of_kind (slice_get q.kinds kind)
  same_name kind =
      name_plain (slice_get p.kinds kind)
      ∙ (ap name_of_plain (sym (slice_get-map plain_kind p.kinds kind) ∙ ((λ i. slice_get (same i).kinds kind)
      ∙ slice_get-map plain_kind q.kinds kind)) ∙ sym (name_plain (slice_get q.kinds kind)))

  same_kind_text : (kind : Option ℕ) (keys : Keys) → kind_text p kind keys ≡ kind_text q kind keys
  same_kind_text None keys = refl
  same_kind_text (Some kind) keys = λ i. same_name kind i ++ keys_text keys

  same_source_text : (source : Option ℕ) → source_text p source ≡ source_text q source
  same_source_text None = refl
  same_source_text (Some source) = λ i. codes "@" ++ name_of_source (slice_get (same i).sources source)

  same_pred_text : pred_text p ≡ pred_text q
  same_pred_text = λ i pred. same_kind_text pred.kind pred.keys i ++ same_source_text pred.source i

  same_preds_text : (preds : List Pred) → preds_text p preds ≡ preds_text q preds
  same_preds_text [] = refl
  same_preds_text (pred ∷ preds) = λ i. codes " " ++ separated (codes ", ") (same_pred_text i) (pred ∷ preds)

  same_printed : printed p ≡ printed q
  same_printed = λ i nodes.
      flat_map (λ (node : Node). codes "node " ++ node.name ++ codes ":" ++ same_preds_text node.preds i ++ kids_text nodes node.kids ++ line_end) nodes

pub jobs_read_plans_alike : (p q : Program) → IsSameJob p q → ReadPlansAlike p q
jobs_read_plans_alike p q same = record { reads = fun_ext (same_reading p q same); prints = same_printed p q same }
