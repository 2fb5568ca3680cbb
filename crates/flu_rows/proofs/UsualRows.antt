-- Rows whose fields are read while they are cut.
use Rattle.std.proofs.Common.{◌≡◌, ℕ, ◌≤◌, false, List, [], ◌∷◌, length, get_or, Option, Some, None, ℤ, refl, inl, inr}
use Rattle.std.specs.Prelude.{codes}
use Rattle.std.specs.Str.{bytes_eq}
use Rattle.std.specs.Cmp.Lexicographic.{bytes_decides}
use Rattle.std.proofs.lemmas.Bool.{cases_Bool}
use Rattle.flu_model.specs.Numberings.{Numbering}
use Rattle.flu_model.specs.Texts.{Unit}
use Rattle.flu_rows.specs.declared.row.RowForm.{RowForm}
use Rattle.flu_rows.specs.declared.row.RowForm.TheVariants.{Older, WithItems}
use Rattle.flu_rows.specs.declared.row.Fields.{Fields}
use Rattle.flu_rows.specs.declared.row.Fields.TheVariants.{Nothing, Two, Named, NamedWith}
use Rattle.flu_rows.specs.declared.row.Row.TheVariants.{Event}
use Rattle.flu_rows.specs.Fields.{time_of, item_of, value_of, tag_of}
use Rattle.flu_rows.specs.LoopFields.{CutsFields, EndsLine, StartsWithRow}
use Rattle.flu_rows.specs.LoopCuts.{CutsTime, CutsTag, CutsNumber}
use Rattle.flu_rows.specs.ItemNames.{items_named, named_item}
use Rattle.flu_rows.specs.LoopNamed.{CutsNamed}
use Rattle.flu_rows.specs.Row.{list_of_kind, one_field, row_of_two, row_of_three, row_of_four}
use Rattle.flu_rows.proofs.Cuts.{time_first}
use Rattle.flu_rows.proofs.FieldCuts.{behind_one, next_field, field_then, last_field, line_of-two, line_of-three, line_of-four}

-- `beat` is no tag
no_tag : tag_of (codes "beat") ≡ None
unfolding tag_of
no_tag = refl

not_beat : (tag name : List ℕ) (key : Option ℕ) → tag_of tag ≡ Some (name, key) → bytes_eq tag (codes "beat") ≡ false
not_beat tag name key is =
    elim (cases_Bool (bytes_eq tag (codes "beat"))) [
      | inl hit ↦
          let same : tag ≡ codes "beat" = (bytes_decides tag (codes "beat")).0 hit in
          let none : tag_of tag ≡ None = rw same no_tag in
          cc
      | inr miss ↦ miss
    ]

two_is : (form : RowForm) (time tag : List ℕ) (t : ℕ) (name : List ℕ) (key : Option ℕ) → time_of form time ≡ Some t → tag_of tag ≡ Some (name, key)
    → row_of_two form time tag ≡ Some (Event t name key Nothing)
unfolding row_of_two
two_is form time tag t name key is named = rw (is, not_beat tag name key named, named) refl

three_is : (form : RowForm) (time tag third : List ℕ) (t : ℕ) (name : List ℕ) (key : Option ℕ) (fields : Fields) → time_of form time ≡ Some t
    → tag_of tag ≡ Some (name, key) → one_field form name third ≡ Some fields → row_of_three form time tag third ≡ Some (Event t name key fields)
unfolding row_of_three
three_is form time tag third t name key fields is named behind = rw (is, named, behind) refl

four_is : (iso : Option Unit) (lists : List (List ℕ × Numbering)) (time tag third fourth : List ℕ) (t : ℕ) (name : List ℕ) (key : Option ℕ) (item : ℕ) (value : ℤ)
    → time_of (WithItems iso lists) time ≡ Some t
    → tag_of tag ≡ Some (name, key) → items_named lists name ≡ None → item_of third ≡ Some item → value_of fourth ≡ Some value
    → row_of_four (WithItems iso lists) time tag third fourth ≡ Some (Event t name key (Two item value))
unfolding row_of_four
four_is iso lists time tag third fourth t name key item value is named none first second = rw (is, named, none, first, second) refl

-- an item by its name, alone and before a number
name_is : (form : RowForm) (list : Numbering) (time tag third : List ℕ) (t : ℕ) (name : List ℕ) (key : Option ℕ) → time_of form time ≡ Some t
    → tag_of tag ≡ Some (name, key) → list_of_kind form name ≡ Some list
    → row_of_three form time tag third ≡ Some (Event t name key (Named (named_item list third)))
unfolding row_of_three
name_is Older list time tag third t name key is named by = cc
name_is (WithItems iso lists) list time tag third t name key is named by = rw (is, named, by) refl

name_and_number_is : (form : RowForm) (list : Numbering) (time tag third fourth : List ℕ) (t : ℕ) (name : List ℕ) (key : Option ℕ) (value : ℤ)
    → time_of form time ≡ Some t → tag_of tag ≡ Some (name, key) → list_of_kind form name ≡ Some list → value_of fourth ≡ Some value
    → row_of_four form time tag third fourth ≡ Some (Event t name key (NamedWith (named_item list third) value))
unfolding row_of_four
name_and_number_is Older list time tag third fourth t name key value is named by second = cc
name_and_number_is (WithItems iso lists) list time tag third fourth t name key value is named by second = rw (is, named, by, second) refl

-- the time and the tag of a row, behind which there is a comma
tag_then : (form : RowForm) (bytes : List ℕ) (time : ℕ) (behind name : List ℕ) (key : Option ℕ) (rest : List ℕ) (t : CutsTime form bytes time behind)
    → 1 ≤ length behind → get_or behind 0 0 ≡ 44 → (g : CutsTag (behind_one behind) name key rest) → 1 ≤ length rest → get_or rest 0 0 ≡ 44
    → CutsFields bytes (t.field ∷ g.field ∷ []) (behind_one rest)
tag_then form bytes time behind name key rest t some comma g more second =
    field_then bytes (t.field ∷ []) (behind_one behind) g.field rest (time_first form bytes time behind t some comma) g.cuts more second

-- a time and a tag
pub usual_two : (form : RowForm) (bytes : List ℕ) (time : ℕ) (behind name : List ℕ) (key : Option ℕ) (rest : List ℕ) (size : ℕ)
    → CutsTime form bytes time behind → 1 ≤ length behind → get_or behind 0 0 ≡ 44 → CutsTag (behind_one behind) name key rest → EndsLine bytes rest size
    → StartsWithRow form bytes (Event time name key Nothing) size
usual_two form bytes time behind name key rest size t some comma g ends =
    last_field form bytes (t.field ∷ []) (behind_one behind) g.field rest (Event time name key Nothing) size
    (time_first form bytes time behind t some comma) g.cuts ends
    (line_of-two form t.field g.field (Event time name key Nothing) g.some (two_is form t.field g.field time name key t.is g.is))

-- and a number
pub usual_three : (form : RowForm) (bytes : List ℕ) (time : ℕ) (behind name : List ℕ) (key : Option ℕ) (mid : List ℕ) (item : Option ℕ) (value : ℤ)
    (rest : List ℕ) (fields : Fields) (size : ℕ) → CutsTime form bytes time behind → 1 ≤ length behind → get_or behind 0 0 ≡ 44
    → CutsTag (behind_one behind) name key mid → 1 ≤ length mid → get_or mid 0 0 ≡ 44 → CutsNumber (behind_one mid) item value rest
    → ((text : List ℕ) → item_of text ≡ item → value_of text ≡ Some value → one_field form name text ≡ Some fields) → EndsLine bytes rest size
    → StartsWithRow form bytes (Event time name key fields) size
usual_three form bytes time behind name key mid item value rest fields size t some comma g more second n alone ends =
    let row = Event time name key fields in
    last_field form bytes (t.field ∷ g.field ∷ []) (behind_one mid) n.field rest row size
    (tag_then form bytes time behind name key mid t some comma g more second) n.cuts ends
    (line_of-three form t.field g.field n.field row n.some
    (three_is form t.field g.field n.field time name key fields t.is g.is (alone n.field n.item_is n.is)))

-- and two numbers
pub usual_four : (iso : Option Unit) (lists : List (List ℕ × Numbering)) (bytes : List ℕ) (time : ℕ) (behind name : List ℕ) (key : Option ℕ) (mid : List ℕ) (first : Option ℕ) (one : ℤ)
    (last : List ℕ) (item : ℕ) (second : Option ℕ) (value : ℤ) (rest : List ℕ) (size : ℕ) → CutsTime (WithItems iso lists) bytes time behind
    → 1 ≤ length behind → get_or behind 0 0 ≡ 44
    → CutsTag (behind_one behind) name key mid → 1 ≤ length mid → get_or mid 0 0 ≡ 44 → items_named lists name ≡ None
    → CutsNumber (behind_one mid) first one last → first ≡ Some item
    → 1 ≤ length last → get_or last 0 0 ≡ 44 → CutsNumber (behind_one last) second value rest → EndsLine bytes rest size
    → StartsWithRow (WithItems iso lists) bytes (Event time name key (Two item value)) size
usual_four iso lists bytes time behind name key mid first one last item second value rest size t some comma g more next none n is few third m ends =
    let row = Event time name key (Two item value) in
    let three = field_then bytes (t.field ∷ g.field ∷ []) (behind_one mid) n.field last
    (tag_then (WithItems iso lists) bytes time behind name key mid t some comma g more next) n.cuts few third in
    let item_is : item_of n.field ≡ Some item = rw n.item_is is in
    last_field (WithItems iso lists) bytes (t.field ∷ g.field ∷ n.field ∷ []) (behind_one last) m.field rest row size three m.cuts ends
    (line_of-four (WithItems iso lists) t.field g.field n.field m.field row m.some
    (four_is iso lists t.field g.field n.field m.field time name key item value t.is g.is none item_is m.is))

-- and an item by its name, alone or before a number
pub usual_named : (form : RowForm) (list : Numbering) (bytes : List ℕ) (time : ℕ) (behind name : List ℕ) (key : Option ℕ) (mid rest : List ℕ)
    (fields : Fields) (size : ℕ) → CutsTime form bytes time behind → 1 ≤ length behind → get_or behind 0 0 ≡ 44
    → CutsTag (behind_one behind) name key mid → 1 ≤ length mid → get_or mid 0 0 ≡ 44 → list_of_kind form name ≡ Some list
    → CutsNamed list (behind_one mid) fields rest → EndsLine bytes rest size → StartsWithRow form bytes (Event time name key fields) size
usual_named form list bytes time behind name key mid rest fields size t some comma g more second by (inl n) ends =
    let row = Event time name key (Named (named_item list n.field)) in
    rw n.is (last_field form bytes (t.field ∷ g.field ∷ []) (behind_one mid) n.field rest row size
    (tag_then form bytes time behind name key mid t some comma g more second) n.cuts ends
    (line_of-three form t.field g.field n.field row n.some (name_is form list t.field g.field n.field time name key t.is g.is by)))
usual_named form list bytes time behind name key mid rest fields size t some comma g more second by (inr n) ends =
    let row = Event time name key (NamedWith (named_item list n.field) n.value) in
    let m = n.number in
    let three = next_field bytes (t.field ∷ g.field ∷ []) (behind_one mid) n.field n.behind
    (tag_then form bytes time behind name key mid t some comma g more second) n.cuts in
    rw n.is (last_field form bytes (t.field ∷ g.field ∷ n.field ∷ []) n.behind m.field rest row size three m.cuts ends
    (line_of-four form t.field g.field n.field m.field row m.some
    (name_and_number_is form list t.field g.field n.field m.field time name key n.value t.is g.is by m.is)))
