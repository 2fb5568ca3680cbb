-- What is read of the lines of what was sent is alike.
use Rattle.std.proofs.Common.{◌≡◌, ℕ, Option, None, Some, List, [], ◌∷◌, map, refl, sym, ap, subst, ◌∙◌}
use Rattle.std.specs.List.{AllByRecursion}
use Rattle.flu_lemmas.specs.Items.{Pairs}
use Rattle.flu_model.specs.declared.events.Event.{Event}
use Rattle.flu_model.specs.declared.jobs.Program.{Program}
use Rattle.flu_contribution.specs.declared.contributing.Handed.{Handed}
use Rattle.flu_contribution.specs.Contributions as handed
use Rattle.flu_contribution.specs.Parts.{contribution_of}
use Rattle.flu_partial.specs.declared.order.Reached.{Reached}
use Rattle.flu_partial.specs.declared.order.Reached.TheVariants.{Head, End as AtEnd}
use Rattle.flu_partial.specs.declared.values.Contribution.{Contribution}
use Rattle.flu_partial.specs.Laws.{LawOfHeads, LawOfContributions}
use Rattle.flu_partial.specs.Order.{reached_with, AreRest}
use Rattle.flu_handover.specs.Handing.{line_of, place_of, AreAlike, IsSendable}
use Rattle.flu_handover.specs.Laws.{LinesDetermine}
use Rattle.flu_receiving.specs.Laws.{WhatIsSentIsReceived}
use Rattle.flu_receiving.specs.Receiving.{last_of, last_time, IsSentBy}
use Rattle.flu_receiving.proofs.Wholes.{one_text}

pairs_alike : LinesDetermine → (p : Program) (time : Option ℕ) (ks : List handed.Contribution) (hs : List Handed) → AllByRecursion (IsSendable p) ks
    → Pairs (IsSentBy p) (map (line_of p time) ks) hs → Pairs (λ x k. AreAlike p (contribution_of x) k) hs ks
pairs_alike law p time [] [] sendable pairs = tt
pairs_alike law p time [] (h ∷ hs) sendable pairs = absurd pairs
pairs_alike law p time (k ∷ ks) [] sendable pairs = absurd pairs
pairs_alike law p time (k ∷ ks) (h ∷ hs) sendable pairs = (
  law p pairs.0.1.0 time (contribution_of h) k pairs.0.0 sendable.0 (sym pairs.0.1.1),
  pairs_alike law p time ks hs sendable.1 pairs.1,
)

time_at_end : (before : Option Event) (time : Option ℕ) → reached_with (place_of before time) ≡ AtEnd → last_time (place_of before time) ≡ time
time_at_end None time e = refl
time_at_end (Some y) time e = absurd cc

last_sent : (p : Program) (time : Option ℕ) (r : Reached) (k : handed.Contribution) (ks : List handed.Contribution)
    → AreRest r (map (line_of p time) (k ∷ ks)) → last_of (map (line_of p time) (k ∷ ks)) ≡ time
last_sent p time r k [] rest = time_at_end k.before time rest.1
last_sent p time r k (l ∷ ks) rest = last_sent p time (reached_with (place_of k.before time)) l ks rest.1

time_sent : (p : Program) (time : Option ℕ) (ks : List handed.Contribution) → AreRest Head (map (line_of p time) ks) → last_of (map (line_of p time) ks) ≡ time
time_sent p time [] rest = absurd cc
time_sent p time (k ∷ ks) rest = last_sent p time Head k ks rest

pub received_alike : LawOfHeads → LawOfContributions → LinesDetermine → WhatIsSentIsReceived
received_alike heads law determined p h ks time bytes r sendable whole (cs, read, received) =
    let same = one_text heads law bytes r.head h cs (map (line_of p time) ks) read whole in
    let sent = subst (λ (xs : List Contribution). Pairs (IsSentBy p) xs r.sent.items) same.1 received.sent in
    record {
      head = same.0;
      sent = pairs_alike determined p time ks r.sent.items sendable sent;
      last = received.last ∙ ap last_of same.1 ∙ time_sent p time ks whole.order;
    }
