-- What the root hands on is the fold's.
use Rattle.std.proofs.Common.{◌≡◌, ◌<◌, List, length, sym, ap, subst, ◌∙◌}
use Rattle.std.specs.List.Sorted.{IsPermutation}
use Rattle.std.specs.Prelude.{Result, IfOk}
use Rattle.flu_model.specs.declared.events.Item.{Item}
use Rattle.flu_model.specs.declared.events.Out.{Out}
use Rattle.flu_model.specs.declared.jobs.Program.{Program}
use Rattle.flu_model.specs.Contents.{Contents}
use Rattle.flu_model.specs.Folding.{final_state, final_outputs}
use Rattle.flu_model.specs.Listed.{listed}
use Rattle.flu_model.specs.Sorts.{IsStateOf}
use Rattle.flu_cells.specs.Holding.{held}
use Rattle.flu_fork.specs.declared.content.Content.{Content}
use Rattle.flu_fork.specs.declared.lots.Lot.{Lot}
use Rattle.flu_fork.specs.Lots.{job, nodes, setting_of}
use Rattle.flu_run.specs.Ended.{IsWhole}
use Rattle.flu_run.specs.LawsBelow.{LawsBelow}

root_there : (laws : LawsBelow) (k : Content) → 0 < length (nodes k)
root_there laws k = (laws.rooted (nodes k) (laws.settings k).one_tree).root

pub the_state : (laws : LawsBelow) (k : Content) (lot : Lot) (outs : List Out) → IsWhole k lot outs
    → held lot.state ≡ final_state (job k) (held k.opening) (listed k.streams)
the_state laws k lot outs w = laws.states_end (setting_of k) (held lot.state) lot.since lot.upto (laws.settings k) w.fits w.all

pub the_sorts : (laws : LawsBelow) (k : Content) (lot : Lot) (outs : List Out) → IsWhole k lot outs → IsStateOf (job k).families (held lot.state)
the_sorts laws k lot outs w = laws.sorts (setting_of k) 0 (held lot.state) lot.since lot.upto (laws.settings k) (root_there laws k) w.fits

pub the_outputs : (laws : LawsBelow) (k : Content) (lot : Lot) (outs : List Out) → IsWhole k lot outs
    → IsPermutation (final_outputs (job k) (held k.opening) (listed k.streams)) outs
the_outputs laws k lot outs w = laws.texts_end (setting_of k) lot.upto outs (laws.settings k) w.all w.texts

pub batch_as : {T E : Type 0} (r : Result T E) (P : Program → Contents → List (List Item) → T → Type 0) (p p' : Program) (o o' : Contents)
    (l l' : List (List Item))
    → p ≡ p' → o ≡ o' → l ≡ l' → IfOk r (P p o l) → IfOk r (P p' o' l')
batch_as r P p p' o o' l l' ep eo el h = subst (λ x. IfOk r (P x o' l')) ep (subst (λ x. IfOk r (P p x l')) eo (subst (λ x. IfOk r (P p o x)) el h))

pub opening_sorts : (laws : LawsBelow) (k k' : Content) (p : Program) (s : Contents) → p ≡ job k → k' ≡ k → s ≡ held k'.opening → IsStateOf p.families s
opening_sorts laws k k' p s ep ek es =
    subst (λ (q : Program). IsStateOf q.families s) (sym ep)
    (subst (IsStateOf (job k).families) (sym (es ∙ ap (λ (j : Content). held j.opening) ek)) (laws.settings k).opening_sorts)
