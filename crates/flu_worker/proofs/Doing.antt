-- An update with an event that is exact for a lot.
use Rattle.std.proofs.Common.{◌≡◌, ◌<◌, ◌+◌, ℕ, None, List, ◌++◌, refl, sym, ap, subst, ◌∙◌, arith}
use Rattle.std.specs.Prelude.{Result, Ok, Err, OnOk, slice_index, slice_set}
use Rattle.std.proofs.lemmas.List.{length-set}
use Rattle.flu_model.specs.declared.events.Event.{Event}
use Rattle.flu_model.specs.declared.events.Itag.{Itag}
use Rattle.flu_model.specs.declared.events.Out.{Out}
use Rattle.flu_model.specs.Contents.{Contents}
use Rattle.flu_model.specs.Folding.{outputs_with}
use Rattle.flu_model.specs.Itags.{count_of_itags}
use Rattle.flu_model.specs.Owners.{owner_of}
use Rattle.flu_model.specs.Updates.{effect_of}
use Rattle.flu_cells.specs.Holding.{held}
use Rattle.flu_laws.specs.Spans.{Moment}
use Rattle.flu_laws.specs.Lots.{CountsOneMore}
use Rattle.flu_fork.specs.declared.content.Content.{Content}
use Rattle.flu_fork.specs.declared.lots.Ask.{Ask}
use Rattle.flu_fork.specs.declared.lots.Lot.{Lot}
use Rattle.flu_fork.specs.Fitting.{Fits}
use Rattle.flu_fork.specs.Laws.{UpdatesWell}
use Rattle.flu_fork.specs.Places.{HasMoment}
use Rattle.flu_fork.specs.Lots.{job, nodes, kids, setting_of, LotFits}
use Rattle.flu_fork.specs.Texts.{outputs_then}
use Rattle.flu_worker.specs.Agreeing.{IsExactFor}
use Rattle.flu_worker.specs.declared.holding.Holding.{Holding}
use Rattle.flu_worker.specs.declared.holding.Holding.TheVariants.{Whole as WholeLot}
use Rattle.flu_worker.specs.Doing.{PutsOut, DoneIn}
use Rattle.flu_worker.specs.Moving.{IsWholeOf}
use Rattle.flu_worker.specs.LawsBelow.{LawsBelow}
use Rattle.flu_worker.proofs.CountLemmas.{set_one}

module _ (laws : LawsBelow) (k : Content) (w : ℕ) (lot : Lot) (x : Ask) (event : Event) (exact : IsExactFor k w lot.upto x event) (fits : LotFits k w lot) where
  s : HasMoment (setting_of k) x.itag.0 x.index event
  s = laws.events (setting_of k) x.itag.0 x.index event (laws.settings k) exact.is

  pub event_known : event.itag.0 < count_of_itags (job k)
  event_known = subst (λ (u : ℕ). u < count_of_itags (job k)) (sym s.itag) exact.known

  itag_is : s.moment.event.itag ≡ x.itag
  itag_is = ap (λ (e : Event). e.itag) s.event ∙ λ i. record { 0 = s.itag i }

  upto : List ℕ
  upto = slice_set lot.upto x.itag.0 (slice_index lot.upto x.itag.0 + 1)

  one : CountsOneMore s.moment.event.itag.0 lot.upto (slice_set lot.upto x.itag.0 (slice_index lot.upto x.itag.0 + 1))
  one =
      subst (λ (i : Itag). CountsOneMore i.0 lot.upto (slice_set lot.upto x.itag.0 (slice_index lot.upto x.itag.0 + 1))) (sym itag_is)
      (set_one lot.upto x.itag.0 _ (let long = fits.upto_each in let known = exact.known in omega arith) refl)

  well : UpdatesWell (setting_of k) w s.moment (held lot.state) lot.since (slice_set lot.upto x.itag.0 (slice_index lot.upto x.itag.0 + 1))
  well =
      laws.central (setting_of k) w s.front s.back s.moment (held lot.state) lot.since lot.upto
      (slice_set lot.upto x.itag.0 (slice_index lot.upto x.itag.0 + 1)) (laws.settings k)
      (ap (owner_of (job k) (nodes k)) itag_is ∙ exact.owner) s.stands (exact.exact s.front s.back s.moment s.stands itag_is s.index)
      (length-set lot.upto x.itag.0 _ ∙ fits.upto_each) one fits

  pub done_fits : (state : Contents) → state ≡ (effect_of (job k) (held lot.state) event).cells
      → Fits (setting_of k) w state lot.since (slice_set lot.upto x.itag.0 (slice_index lot.upto x.itag.0 + 1))
  done_fits state is =
      subst (λ (c : Contents). Fits (setting_of k) w c lot.since (slice_set lot.upto x.itag.0 (slice_index lot.upto x.itag.0 + 1)))
      (ap (λ (e : Event). (effect_of (job k) (held lot.state) e).cells) s.event ∙ sym is) well.fits

  pub done_puts : (old new : List Out) → new ≡ old ++ outputs_with (job k) event (effect_of (job k) (held lot.state) event).texts → PutsOut k x old new
  done_puts old new put before after m split itag index =
      let same = s.alone before after m split (ap (λ (i : Itag). i.0) itag) index in
      put ∙ ap (λ (e : Event). old ++ outputs_with (job k) e (effect_of (job k) (held lot.state) e).texts) (sym s.event)
      ∙ ap (λ t. old ++ outputs_with (job k) s.moment.event t) well.texts
      ∙ ap (λ (q : Moment). old ++ outputs_then (job k) q) (sym same.1.0)

-- a leaf's lot, where it stays
pub done_here : {T E : Type 0} (k : Content) (w : ℕ) (x : Ask) (was : Holding) (lot more : Lot) (told : Result T E) → was ≡ WholeLot lot → kids k w ≡ None
    → OnOk told (LotFits k w more) → OnOk told (more.since ≡ lot.since)
    → OnOk told (more.upto ≡ slice_set lot.upto x.itag.0 (slice_index lot.upto x.itag.0 + 1)) → OnOk told (DoneIn k w x was (WholeLot more))
done_here k w x was lot more (Ok t) is leaf fits since counted = record {
  lot = lot;
  was = subst (λ (h : Holding). IsWholeOf h lot) (sym is) refl;
  more = more;
  fits = fits;
  since = since;
  upto = counted;
  held = record { leaf = leaf; same = refl };
}
done_here k w x was lot more (Err e) is leaf fits since counted = tt
