-- The printed plan is UTF-8: the names of the language are ASCII.
use Rattle.std.proofs.Common.{◌≡◌, ℕ, true, Option, Some, None, List, [], ◌∷◌, ◌++◌, refl}
use Rattle.std.specs.Prelude.{slice_get, codes}
use Rattle.std.specs.List.{flat_map, list_all}
use Rattle.std.specs.Str.{IsUtf8}
use Rattle.flu_lemmas.proofs.Elements.{passes_at}
use Rattle.flu_lemmas.proofs.Tests.{and_left, and_right}
use Rattle.flu_names.specs.Names.{is_name}
use Rattle.flu_model.specs.declared.jobs.Keys.{Keys}
use Rattle.flu_model.specs.declared.jobs.Keys.TheVariants as keys
use Rattle.flu_model.specs.declared.jobs.Kind.{Kind}
use Rattle.flu_model.specs.declared.jobs.Program.{Program}
use Rattle.flu_model.specs.declared.jobs.Source.{Source}
use Rattle.flu_model.specs.declared.plans.Node.{Node}
use Rattle.flu_model.specs.declared.plans.Pred.{Pred}
use Rattle.flu_model.specs.Owners.{nodes_fit}
use Rattle.flu_model.specs.Rules.{kind_fits, source_fits}
use Rattle.flu_layout.specs.Laid.{line_end}
use Rattle.flu_layout.specs.Lists.{keys_text}
use Rattle.flu_plan.specs.Printing.{name_of_kind, name_of_source, name_of_child, kind_text, source_text, pred_text, preds_text, kids_text}
use Rattle.flu_plan.specs.Printing.{node_line, printed, has_text}
use Rattle.flu_combine.proofs.Ascii.{Utf8, none, ◌also◌, ascii, number, name}

listed_keys : (ks : Keys) → Utf8 (keys_text ks)
listed_keys keys.Alone = none
listed_keys (keys.One k) = ascii (codes "[") refl also number k also ascii (codes "]") refl
listed_keys (keys.Range low high) =
    ascii (codes "[") refl also number low also ascii (codes "..") refl also number high also ascii (codes "]") refl

module _ (p : Program) where
  kind_name : (i : ℕ) → Utf8 (name_of_kind (slice_get p.kinds i))
  kind_name i = by (slice_get p.kinds i) refl
    where
      by : (o : Option Kind) → slice_get p.kinds i ≡ o → Utf8 (name_of_kind o)
      by None e = none
      by (Some k) e = name k.name (and_left _ _ (and_left _ _ (passes_at (kind_fits p.families) p.kinds i k p.kinds_fit e)))

  source_name : (i : ℕ) → Utf8 (name_of_source (slice_get p.sources i))
  source_name i = by (slice_get p.sources i) refl
    where
      by : (o : Option Source) → slice_get p.sources i ≡ o → Utf8 (name_of_source o)
      by None e = none
      by (Some s) e =
          let fits = passes_at (source_fits p.kinds) p.sources i s p.sources_fit e in
          name s.name (and_left _ _ (and_left _ _ (and_left _ _ (and_left _ _ (and_left _ _ (and_left _ _ fits))))))

  kinds : (kind : Option ℕ) (ks : Keys) → Utf8 (kind_text p kind ks)
  kinds None ks = none
  kinds (Some kind) ks = kind_name kind also listed_keys ks

  sources : (source : Option ℕ) → Utf8 (source_text p source)
  sources None = none
  sources (Some source) = ascii (codes "@") refl also source_name source

  pred : (q : Pred) → Utf8 (pred_text p q)
  pred q = kinds q.kind q.keys also sources q.source

  more_preds : (qs : List Pred) → Utf8 (flat_map (λ q. codes ", " ++ pred_text p q) qs)
  more_preds [] = none
  more_preds (q ∷ qs) = (ascii (codes ", ") refl also pred q) also more_preds qs

  preds : (qs : List Pred) → Utf8 (preds_text p qs)
  preds [] = none
  preds (q ∷ qs) = ascii (codes " ") refl also (pred q also more_preds qs)

  module _ (nodes : List Node) (named : list_all (λ (node : Node). is_name node.name) nodes ≡ true) where
    child : (i : ℕ) → Utf8 (name_of_child (slice_get nodes i))
    child i = by (slice_get nodes i) refl
      where
        by : (o : Option Node) → slice_get nodes i ≡ o → Utf8 (name_of_child o)
        by None e = none
        by (Some node) e = name node.name (passes_at (λ (node : Node). is_name node.name) nodes i node named e)

    kids : (o : Option (ℕ × ℕ)) → Utf8 (kids_text nodes o)
    kids None = none
    kids (Some both) = ascii (codes " -> ") refl also child both.0 also ascii (codes " ") refl also child both.1

    lines : (some : List Node) → list_all (λ (node : Node). is_name node.name) some ≡ true → Utf8 (flat_map (node_line p nodes) some)
    lines [] all = none
    lines (node ∷ some) all =
        ascii (codes "node ") refl also name node.name (and_left (is_name node.name) _ all) also ascii (codes ":") refl
        also preds node.preds also kids node.kids also ascii line_end refl also lines some (and_right (is_name node.name) _ all)

pub plan_is_utf8 : (p : Program) (nodes : List Node) → has_text p nodes ≡ true → IsUtf8 (printed p nodes)
plan_is_utf8 p nodes has =
    let named = and_right (nodes_fit p nodes) (list_all (λ (node : Node). is_name node.name) nodes) has in
    (lines p nodes named nodes named).is
