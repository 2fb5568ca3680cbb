-- THE DEMO JOB: page views of a site and of an app, with the app's updates, printed at each tick of a clock. As a text:
--
--     cell views keyed sum
--     cell zip keyed last
--     tag view keyed int
--     tag update keyed int
--     tag tick none
--     depends update update same
--     depends view tick
--     depends tick tick
--     on view: add views[key] value
--     on update: emit "was {zip[key]}"; set zip[key] value
--     on tick: flush views "page {key} views {cell}"
--     source web "web.csv" rate 1000: view[0..9]
--     source app "app.csv" rate 500: view[0..9], update[0..9]
--     source clock "clock.csv" rate 1: tick
use Rattle.std.specs.Prelude.{◌≡◌, ℕ, Bool, true, false, None, List, [], ◌∷◌, codes}
use Rattle.flu_model.specs.declared.jobs.Sort.TheVariants.{Sum, Last}
use Rattle.flu_model.specs.declared.jobs.Family.{Family}
use Rattle.flu_model.specs.declared.jobs.At.TheVariants.{OwnKey}
use Rattle.flu_model.specs.declared.jobs.CellRef.{CellRef}
use Rattle.flu_model.specs.declared.jobs.Expr.TheVariants.{Value}
use Rattle.flu_model.specs.declared.jobs.Piece.TheVariants.{Plain, Key as KeyField, Read as ReadField, CellValue}
use Rattle.flu_model.specs.declared.jobs.Act.{Act}
use Rattle.flu_model.specs.declared.jobs.Act.TheVariants.{Add, Set, Emit, Flush}
use Rattle.flu_model.specs.declared.jobs.Action.{Action}
use Rattle.flu_model.specs.declared.jobs.Kind.{Kind}
use Rattle.flu_model.specs.declared.jobs.Depend.{Depend}
use Rattle.flu_model.specs.declared.jobs.Keys.TheVariants.{Alone, Range}
use Rattle.flu_model.specs.declared.jobs.TagRef.{TagRef}
use Rattle.flu_model.specs.declared.jobs.Source.{Source}
use Rattle.flu_model.specs.declared.jobs.Program.{Program}

-- ---- families: 0 is `views`, 1 is `zip`
abbrev pub demo_families : List Family
demo_families =
    record { name = codes "views"; keyed = true; list = None; sort = Sum }
    ∷ record { name = codes "zip"; keyed = true; list = None; sort = Last } ∷ []

-- ---- kinds: 0 is `view`, 1 is `update`, 2 is `tick`
abbrev pub of_key : ℕ → CellRef
of_key family = record { family = family; at = OwnKey }

abbrev pub always : Act → Action
always act = record { act = act; guard = None }

abbrev pub view_actions : List Action
view_actions = always (Add (of_key 0) Value) ∷ []

abbrev pub update_actions : List Action
update_actions = always (Emit (Plain (codes "was ") ∷ ReadField (of_key 1) ∷ [])) ∷ always (Set (of_key 1) Value) ∷ []

abbrev pub tick_actions : List Action
tick_actions = always (Flush 0 (Plain (codes "page ") ∷ KeyField ∷ Plain (codes " views ") ∷ CellValue ∷ [])) ∷ []

abbrev pub keyed_kind : List ℕ → List Action → Kind
keyed_kind name actions = record { name = name; keyed = true; has_item = false; list = None; has_value = true; actions = actions }

abbrev pub demo_kinds : List Kind
demo_kinds =
    keyed_kind (codes "view") view_actions
    ∷ keyed_kind (codes "update") update_actions
    ∷ record { name = codes "tick"; keyed = false; has_item = false; list = None; has_value = false; actions = tick_actions } ∷ []

-- ---- dependencies
abbrev pub depend : ℕ → ℕ → Bool → Depend
depend a b same = record { a = a; b = b; same = same }

abbrev pub demo_depends : List Depend
demo_depends = depend 1 1 true ∷ depend 0 2 false ∷ depend 2 2 false ∷ []

-- ---- sources: 0 is `web`, 1 is `app`, 2 is `clock`
abbrev pub ten_keys : ℕ → TagRef
ten_keys kind = record { kind = kind; keys = Range 0 9 }

abbrev pub source : List ℕ → List ℕ → ℕ → List TagRef → Source
source name file rate tags = record { name = name; file = file; every = None; rate = rate; slack = 0; tags = tags }

abbrev pub demo_sources : List Source
demo_sources =
    source (codes "web") (codes "web.csv") 1000 (ten_keys 0 ∷ [])
    ∷ source (codes "app") (codes "app.csv") 500 (ten_keys 0 ∷ ten_keys 1 ∷ [])
    ∷ source (codes "clock") (codes "clock.csv") 1 (record { kind = 2; keys = Alone } ∷ []) ∷ []

-- ---- the whole
pub record IsDemoJob (p : Program) : Type 0 where
  pub version : p.version ≡ 1
  pub ties : p.ties ≡ 1
  pub iso : p.iso ≡ None
  pub lists : p.lists ≡ []
  pub families : p.families ≡ demo_families
  pub kinds : p.kinds ≡ demo_kinds
  pub depends : p.depends ≡ demo_depends
  pub sources : p.sources ≡ demo_sources
