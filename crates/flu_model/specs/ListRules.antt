-- The rules of lists of names, which came with version 3. Each is a test, which computes.
use Rattle.std.specs.Prelude.{ℕ, Bool, true, not, nat_lt, nat_le, ◌==◌, ◌&&◌, ◌||◌, Option, Some, None, is_some, List, length}
use Rattle.std.specs.List.{list_all}
use Rattle.flu_model.specs.declared.jobs.Family.{Family}
use Rattle.flu_model.specs.declared.jobs.Kind.{Kind}
use Rattle.flu_model.specs.Contents.{key_count}
use Rattle.flu_model.specs.Numberings.{Numbering}
use Rattle.flu_model.specs.Rules.{is_same_text, are_distinct}
use Rattle.flu_names.specs.Names.{is_name, is_text_byte}

-- a byte of a name in a list: of those that a text may have all but `,`, `[`, `]`, `{` and `}`
abbrev pub is_listed_byte : ℕ → Bool
is_listed_byte b = is_text_byte b && not (b == 44) && not (b == 91) && not (b == 93) && not (b == 123) && not (b == 125)

-- a name in a list has 1 to 64 bytes
abbrev pub is_listed_text : List ℕ → Bool
is_listed_text t = nat_lt 0 (length t) && nat_le (length t) 64 && list_all is_listed_byte t

-- a list has one name or more, no two the same, and no more than a family has keys
abbrev pub is_list : Numbering → Bool
is_list l =
    is_name l.name && nat_lt 0 (length l.texts) && nat_le (length l.texts) key_count && list_all is_listed_text l.texts && are_distinct is_same_text l.texts

abbrev pub are_lists : List Numbering → Bool
are_lists lists = list_all is_list lists

-- a list that is meant is declared
abbrev pub is_declared_list : List Numbering → Option ℕ → Bool
is_declared_list lists None = true
is_declared_list lists (Some number) = nat_lt number (length lists)

-- only the keys of a keyed family, and the items of a kind that has some, are named by a list
abbrev pub family_list_fits : List Numbering → Family → Bool
family_list_fits lists f = is_declared_list lists f.list && (f.keyed || not (is_some f.list))

abbrev pub kind_list_fits : List Numbering → Kind → Bool
kind_list_fits lists k = is_declared_list lists k.list && (k.has_item || not (is_some k.list))

abbrev pub fit_lists : ℕ → List Numbering → List Family → List Kind → Bool
fit_lists version lists families kinds =
    (version == 3 || length lists == 0) && list_all (family_list_fits lists) families && list_all (kind_list_fits lists) kinds
