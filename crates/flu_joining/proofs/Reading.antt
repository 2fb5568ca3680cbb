-- What nodes send over their own parts of the streams is what they send over all of them.
use Rattle.std.proofs.Common.{◌≡◌, ℕ, true, List, [], ◌∷◌, length, refl, sym, ◌∙◌}
use Rattle.std.specs.Prelude.{map}
use Rattle.flu_model.specs.declared.events.Item.{Item}
use Rattle.flu_model.specs.declared.jobs.Program.{Program}
use Rattle.flu_model.specs.declared.plans.Node.{Node}
use Rattle.flu_model.specs.Contents.{Contents}
use Rattle.flu_model.specs.Itags.{count_of_itags}
use Rattle.flu_model.specs.Merging.{merged}
use Rattle.flu_model.specs.Streaming.{are_streams}
use Rattle.flu_contribution.specs.Contributions.{contributions}
use Rattle.flu_contribution.specs.Sending.{sent}
use Rattle.flu_contribution.specs.Sharing.{is_itag_of_none, ArePartsFor, IsRestFor, all_sent, MergedListsAgree}
use Rattle.flu_joining.specs.Joining.{are_used_up, events_of_none}
use Rattle.flu_joining.specs.Laws.{WhatIsSentIsUsedUp, PartsAreUsedUp}
use Rattle.flu_joining.proofs.Ranges.{merged_in_range}

module _ (agree : MergedListsAgree) where
  parts_sent : (p : Program) (nodes : List Node) (opening : Contents) (whole : List (List Item)) (ws : List ℕ) (parts : List (List (List Item)))
      → ArePartsFor p nodes whole ws parts → all_sent p nodes opening ws parts ≡ map (λ w. sent (contributions p nodes w opening (merged whole))) ws
  parts_sent p nodes opening whole [] [] h = refl
  parts_sent p nodes opening whole [] (part ∷ parts) h = absurd h
  parts_sent p nodes opening whole (w ∷ ws) [] h = absurd h
  parts_sent p nodes opening whole (w ∷ ws) (part ∷ parts) h =
      let same = h.0.sends opening in
      let more = parts_sent p nodes opening whole ws parts h.1 in
      λ j. same j ∷ more j

  rest_read : (p : Program) (nodes : List Node) (ws : List ℕ) (whole rest : List (List Item)) → length whole ≡ count_of_itags p
      → are_streams 0 whole ≡ true → IsRestFor p nodes ws whole rest → events_of_none p nodes ws rest ≡ events_of_none p nodes ws whole
  rest_read p nodes ws whole rest one streams h = agree (is_itag_of_none p nodes ws) whole rest streams h.streams (h.length ∙ sym one) h.agree

  pub parts_used_up : WhatIsSentIsUsedUp → PartsAreUsedUp
  parts_used_up used p nodes ws opening whole parts rest setting apart one streams read others =
      let sends = parts_sent p nodes opening whole ws parts read in
      let events = rest_read p nodes ws whole rest one streams others in
      (λ j. are_used_up (sends j) (events j)) ∙ used p nodes ws opening (merged whole) setting apart (merged_in_range p whole one streams)
