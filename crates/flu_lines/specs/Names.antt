-- Names in the lines on err.
use Rattle.std.specs.Prelude.{ℕ, List, [], ◌++◌, codes, nat_lt, slice_get, if◌then◌else◌}
use Rattle.std.specs.Option.{option_map_or}
use Rattle.flu_model.specs.declared.events.Itag.{Itag}
use Rattle.flu_model.specs.declared.jobs.Program.{Program}
use Rattle.flu_model.specs.declared.plans.Node.{Node}
use Rattle.flu_model.specs.Itags.{count_of_itags, tag_of_itag, source_of_itag}
use Rattle.flu_model.specs.Reports.{text_of_tag}

-- the name of the source with a number
abbrev pub source_name : Program → ℕ → List ℕ
source_name p number = option_map_or (λ s. s.name) (slice_get p.sources number) []

-- the name of the node with a number
abbrev pub node_name : List Node → ℕ → List ℕ
node_name nodes number = option_map_or (λ node. node.name) (slice_get nodes number) []

-- an itag: its tag, `@` and the name of its source; nothing if the job has no such itag
abbrev pub itag_text : Program → Itag → List ℕ
itag_text p i =
    if nat_lt i.0 (count_of_itags p) then text_of_tag p (tag_of_itag p i) ++ codes "@" ++ source_name p (source_of_itag p i) else []
