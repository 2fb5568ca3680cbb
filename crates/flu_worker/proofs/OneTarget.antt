-- An own event that an inner worker may take is before the next event of each itag above it, which is so held up.
use Rattle.std.proofs.Common.{◌≡◌, ◌≢◌, true, false, Some, sym, ap, ◌∙◌, arith}
use Rattle.std.specs.Prelude.{not, slice_index, IsSome}
use Rattle.std.proofs.lemmas.Bool.{ne_eqb, or_left, or_right}
use Rattle.flu_lemmas.proofs.Places.{slice_get-there}
use Rattle.flu_lemmas.proofs.Tests.{both, false_if_not, not_both}
use Rattle.flu_model.specs.declared.events.Event.{Event}
use Rattle.flu_model.specs.Listed.{listed}
use Rattle.flu_model.specs.Merging.{is_before}
use Rattle.flu_fork.specs.declared.lots.Ask.{Ask}
use Rattle.flu_fork.specs.Classes.{own, above}
use Rattle.flu_fork.specs.Settings.{events_at}
use Rattle.flu_fork.specs.Streams.{IsEventAt}
use Rattle.flu_fork.specs.Lots.{job, nodes, kids, setting_of}
use Rattle.flu_fork.specs.Serving.{AsksAbove}
use Rattle.flu_worker.specs.Choosing.{Sight, serves}
use Rattle.flu_worker.specs.Laws.{TargetsAreOne}
use Rattle.flu_worker.specs.LawsBelow.{LawsBelow}
use Rattle.flu_worker.specs.Next.{IsReadyOwn}
use Rattle.flu_worker.proofs.Aiming.{least_found, ready_at}
use Rattle.flu_worker.proofs.Nodes.{not_leaf, own_not_above}

module _ (laws : LawsBelow) (s : Sight) (inner : IsSome (kids s.case s.node)) (x : Event) (r : IsReadyOwn s x) (y : Ask) (up : AsksAbove s.case s.node y)
    (next : y.index ≡ slice_index s.counts y.itag.0) (e : Event) (at : IsEventAt (setting_of s.case) y.itag.0 y.index e) where
  other : y.itag.0 ≢ x.itag.0
  other same = not_both _ (ap (above (job s.case) (nodes s.case) s.node) (sym same) ∙ up.above) (own_not_above laws s.case s.node x.itag.0 r.known r.own)

  own_first : is_before x e ≡ true
  own_first =
      (laws.ready (job s.case) (nodes s.case) (listed s.case.streams) s.node s.seen s.counts x y.itag.0 e (laws.settings s.case).streams r.ready up.known
      (both _ _ (both _ _ (ap not (ne_eqb y.itag.0 x.itag.0 other)) (or_right (own (job s.case) (nodes s.case) s.node y.itag.0) _ up.above))
      (or_left _ _ (not_leaf (kids s.case s.node) inner))) (y.index, omega arith, at)).0

  not_served : serves s (Some e) ≡ false
  not_served =
      false_if_not _ (λ ready.
      not_both _ own_first
      (laws.serving (job s.case) (nodes s.case) (listed s.case.streams) s.node s.seen s.counts e x.itag.0 x (laws.settings s.case).streams ready r.known
      (both _ _ r.own (or_left _ _ (not_leaf (kids s.case s.node) inner))) (slice_index s.counts x.itag.0, omega arith, ready_at laws s x r)).1)

pub one_target : LawsBelow → TargetsAreOne
one_target laws s x y inner found up next =
    let there = slice_get-there (events_at (setting_of s.case) y.itag.0) y.index up.there in
    ap (serves s) there.1 ∙ not_served laws s inner x (least_found laws s x found) y up next there.0 there.1
