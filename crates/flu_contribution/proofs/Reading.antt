-- What nodes send over their own parts of the streams is what they send over all of them.
use Rattle.std.proofs.Common.{◌≡◌, ℕ, true, List, [], ◌∷◌, length, refl, sym, ap, ◌∙◌}
use Rattle.std.specs.Prelude.{map}
use Rattle.std.specs.List.{filter}
use Rattle.flu_model.specs.declared.events.Item.{Item}
use Rattle.flu_model.specs.declared.jobs.Program.{Program}
use Rattle.flu_model.specs.declared.plans.Node.{Node}
use Rattle.flu_model.specs.Contents.{Contents}
use Rattle.flu_model.specs.Itags.{count_of_itags}
use Rattle.flu_model.specs.Merging.{merged}
use Rattle.flu_model.specs.Streaming.{are_streams}
use Rattle.flu_contribution.specs.Combining.{is_of_none, combined}
use Rattle.flu_contribution.specs.Contributions.{contributions}
use Rattle.flu_contribution.specs.Laws.{ContributionsGiveTheRun, AreNodesApart, IsSetting}
use Rattle.flu_contribution.specs.Sending.{sent, joined_from, start_of}
use Rattle.flu_contribution.specs.Sharing.{is_itag_of_none, ArePartsFor, IsRestFor, all_sent, joined_parts, GivesTheReport}
use Rattle.flu_contribution.specs.Sharing.{MergedListsAgree, WhatIsSentIsJoined}
use Rattle.flu_contribution.specs.Combining.{Combined}
use Rattle.flu_model.specs.Reports.{report}
use Rattle.flu_contribution.proofs.Merged.{merged_strictly}
use Rattle.flu_contribution.proofs.Streams.{merged_in_range}

module _ (agree : MergedListsAgree) (p : Program) (nodes : List Node) (opening : Contents) (whole : List (List Item))
    (one : length whole ≡ count_of_itags p) (streams : are_streams 0 whole ≡ true) where
  parts_sent : (ws : List ℕ) (parts : List (List (List Item))) → ArePartsFor p nodes whole ws parts
      → all_sent p nodes opening ws parts ≡ map (λ w. sent (contributions p nodes w opening (merged whole))) ws
  parts_sent [] [] h = refl
  parts_sent [] (part ∷ parts) h = absurd h
  parts_sent (w ∷ ws) [] h = absurd h
  parts_sent (w ∷ ws) (part ∷ parts) h =
      let more = parts_sent ws parts h.1 in
      λ j. h.0.sends opening j ∷ more j

  rest_read : (ws : List ℕ) (rest : List (List Item)) → IsRestFor p nodes ws whole rest
      → filter (is_of_none p nodes ws) (merged rest) ≡ filter (is_of_none p nodes ws) (merged whole)
  rest_read ws rest h = agree (is_itag_of_none p nodes ws) whole rest streams h.streams (h.length ∙ sym one) h.agree

  pub parts_give : WhatIsSentIsJoined → ContributionsGiveTheRun → (ws : List ℕ) (parts : List (List (List Item))) (rest : List (List Item))
      → IsSetting p nodes opening → AreNodesApart p nodes ws → ArePartsFor p nodes whole ws parts → IsRestFor p nodes ws whole rest
      → GivesTheReport p nodes ws opening whole parts rest
  parts_give joined run ws parts rest setting apart read others =
      let sends = parts_sent ws parts read in
      let events = rest_read ws rest others in
      let result : joined_parts p nodes ws opening parts rest ≡ combined p nodes ws opening (merged whole) =
      (λ j. joined_from p (start_of p nodes ws opening) (sends j) (events j))
      ∙ joined p nodes ws opening (merged whole) setting apart (merged_in_range p whole one streams) (merged_strictly whole streams) in
      let given = run p nodes ws opening whole setting apart one streams in
      record {
        cells = ap (λ (r : Combined). r.cells) result ∙ given.cells;
        same_report = ap (λ (r : Combined). report p r.outputs) result ∙ given.same_report;
      }
