-- The names, texts and numbers of a job are tokens.
use Rattle.std.proofs.Common.{ℕ, List, [], ◌∷◌, ◌++◌, Option, Some, None}
use Rattle.std.specs.List.{flat_map, AllByRecursion}
use Rattle.flu_lemmas.proofs.Elements.{all_front, all_back, all_append}
use Rattle.flu_text.specs.declared.words.Word.{Word}
use Rattle.flu_text.specs.declared.words.Word.TheVariants as w
use Rattle.flu_text.specs.declared.words.Mark.TheVariants as m
use Rattle.flu_text.specs.declared.written.WrittenNumber.{WrittenNumber}
use Rattle.flu_syntax.specs.declared.tree.WrittenKey.{WrittenKey}
use Rattle.flu_syntax.specs.declared.tree.WrittenKey.TheVariants as key
use Rattle.flu_syntax.specs.declared.tree.WrittenRef.{WrittenRef}
use Rattle.flu_text.specs.declared.written.WrittenKeys.{WrittenKeys}
use Rattle.flu_text.specs.declared.written.WrittenKeys.TheVariants as keys
use Rattle.flu_syntax.specs.declared.tree.WrittenTag.{WrittenTag}
use Rattle.flu_syntax.specs.declared.tree.WrittenBy.{WrittenBy}
use Rattle.flu_syntax.specs.declared.tree.WrittenCells.{WrittenCells}
use Rattle.flu_syntax.specs.declared.tree.WrittenCells.TheVariants as cells
use Rattle.flu_syntax.specs.declared.tree.WrittenItem.{WrittenItem}
use Rattle.flu_syntax.specs.declared.tree.WrittenTies.{WrittenTies}
use Rattle.flu_syntax.specs.declared.tree.WrittenUnit.{WrittenUnit}
use Rattle.flu_syntax.specs.declared.tree.WrittenHead.{WrittenHead}
use Rattle.flu_syntax.specs.Tree.{Tree, NumberTree, ValueTree, KeyTree, TimeTree, ReadTree, HasTree, ParenTree, NegTree, NotTree, TwoTree, Deed}
use Rattle.flu_syntax.specs.Tree.{Writes, Clears, Emits, Flushes, Action, Declaration, Cell, Tag, Names, Depends, On, Source, Clock, Declarations, Job}
use Rattle.flu_text.specs.Signs.{Sign, Any, name, text, separated, keys_signs}
use Rattle.flu_syntax.specs.Grammar.{sort_word, value_word, keyed_signs, list_signs, cells_signs, item_signs}
use Rattle.flu_syntax.specs.Grammar.{key_signs, cell_signs, spelled, deed_signs, guard_signs, action_signs, tag_signs}
use Rattle.flu_syntax.specs.Grammar.{rate_signs, slack_signs, ties_signs, iso_signs, head_signs, declaration_signs, declarations_signs, job_signs}
use Rattle.flu_text.specs.Signs.{Stands}
use Rattle.flu_syntax.specs.Words.{list_words, cells_words, item_words}
use Rattle.flu_syntax.specs.Words.{key_words, cell_words, tree_words, deed_words, guard_words, action_words}
use Rattle.flu_syntax.specs.Words.{keys_words, tag_words, number_words, declaration_words, ties_words, unit_words, head_words, job_words}
use Rattle.flu_text.specs.Laws.{SignsStand}
use Rattle.flu_syntax.specs.Laws.{WordsStand}

module _ (P : Sign → Type 0) where
  -- the signs of items, with a mark between each two, have those of each item
  each_item : {X : Type 0} (mark : Word) (item words : X → List Sign) → ((x : X) → AllByRecursion P (item x) → AllByRecursion P (words x)) → (xs : List X)
      → AllByRecursion P (flat_map (λ y. Any mark ∷ item y) xs) → AllByRecursion P (flat_map words xs)
  each_item mark item words kept [] all = tt
  each_item mark item words kept (x ∷ xs) all =
      let rest = flat_map (λ y. Any mark ∷ item y) xs in
      all_append P (words x) (flat_map words xs) (kept x (all_front P (item x) rest all.1)) (each_item mark item words kept xs (all_back P (item x) rest all.1))

  separated_items : {X : Type 0} (mark : Word) (item words : X → List Sign) → ((x : X) → AllByRecursion P (item x) → AllByRecursion P (words x)) → (xs : List X)
      → AllByRecursion P (separated mark item xs) → AllByRecursion P (flat_map words xs)
  separated_items mark item words kept [] all = tt
  separated_items mark item words kept (x ∷ xs) all =
      let rest = flat_map (λ y. Any mark ∷ item y) xs in
      all_append P (words x) (flat_map words xs) (kept x (all_front P (item x) rest all)) (each_item mark item words kept xs (all_back P (item x) rest all))

  cell_has : (cell : WrittenRef) → AllByRecursion P (cell_signs cell) → AllByRecursion P (cell_words cell)
  cell_has cell all = (all.0, of_key cell.key all.1)
    where
      of_key : (k : WrittenKey) → AllByRecursion P (key_signs k) → AllByRecursion P (key_words k)
      of_key key.Alone all = tt
      of_key (key.OwnKey at) all = tt
      of_key (key.OwnItem at) all = tt
      of_key (key.Fixed n) all = (all.1.0, tt)

  tree_has : (e : Tree) → AllByRecursion P (spelled e) → AllByRecursion P (tree_words e)
  tree_has (NumberTree n) all = all
  tree_has (ValueTree at) all = tt
  tree_has (KeyTree at) all = tt
  tree_has (TimeTree at) all = tt
  tree_has (ReadTree cell) all = cell_has cell all
  tree_has (HasTree at cell) all = cell_has cell all.1
  tree_has (ParenTree at inner) all = tree_has inner (all_front P (spelled inner) (Any (w.Mark m.CloseParen) ∷ []) all.1)
  tree_has (NegTree at inner) all = tree_has inner all.1
  tree_has (NotTree at inner) all = tree_has inner all.1
  tree_has (TwoTree o at left right) all =
      all_append P (tree_words left) (tree_words right) (tree_has left (all_front P (spelled left) _ all)) (tree_has right (all_back P (spelled left) _ all).1)

  deed_has : (at : ℕ) (d : Deed) → AllByRecursion P (deed_signs at d) → AllByRecursion P (deed_words d)
  deed_has at (Writes verb cell amount) all =
      all_append P (cell_words cell) (tree_words amount) (cell_has cell (all_front P (cell_signs cell) (spelled amount) all.1))
      (tree_has amount (all_back P (cell_signs cell) (spelled amount) all.1))
  deed_has at (Clears cell) all = cell_has cell all.1
  deed_has at (Emits template) all = all.1
  deed_has at (Flushes family template) all = all.1

  guard_has : (g : Option Tree) → AllByRecursion P (guard_signs g) → AllByRecursion P (guard_words g)
  guard_has None all = tt
  guard_has (Some guard) all = tree_has guard all.1

  action_has : (a : Action) → AllByRecursion P (action_signs a) → AllByRecursion P (action_words a)
  action_has a all =
      let ds = deed_signs a.at a.deed in
      let gs = guard_signs a.guard in
      all_append P (deed_words a.deed) (guard_words a.guard) (deed_has a.at a.deed (all_front P ds gs all)) (guard_has a.guard (all_back P ds gs all))

  tag_has : (t : WrittenTag) → AllByRecursion P (tag_signs t) → AllByRecursion P (tag_words t)
  tag_has t all = (all.0, of_keys t.keys all.1)
    where
      of_keys : (k : WrittenKeys) → AllByRecursion P (keys_signs k) → AllByRecursion P (keys_words k)
      of_keys keys.Alone all = tt
      of_keys (keys.One n) all = (all.1.0, tt)
      of_keys (keys.Range low high) all = (all.1.0, (all.1.1.1.0, tt))

  rate_has : (rate : Option WrittenNumber) → AllByRecursion P (rate_signs rate) → AllByRecursion P (number_words rate)
  rate_has None all = tt
  rate_has (Some n) all = all.1

  slack_has : (slack : Option WrittenNumber) → AllByRecursion P (slack_signs slack) → AllByRecursion P (number_words slack)
  slack_has None all = tt
  slack_has (Some n) all = all.1

  ties_has : (ties : Option WrittenTies) → AllByRecursion P (ties_signs ties) → AllByRecursion P (ties_words ties)
  ties_has None all = tt
  ties_has (Some ties) all = all.1

  unit_has : (iso : Option WrittenUnit) → AllByRecursion P (iso_signs iso) → AllByRecursion P (unit_words iso)
  unit_has None all = tt
  unit_has (Some unit) all = all.1

  head_has : (head : Option WrittenHead) → AllByRecursion P (head_signs head) → AllByRecursion P (head_words head)
  head_has None all = tt
  head_has (Some head) all = (
    all.1.0,
    all_append P (ties_words head.ties) (unit_words head.iso) (ties_has head.ties (all_front P (ties_signs head.ties) (iso_signs head.iso) all.1.1))
        (unit_has head.iso (all_back P (ties_signs head.ties) (iso_signs head.iso) all.1.1)),
  )

  cells_have : (cells : WrittenCells) → AllByRecursion P (cells_signs cells) → AllByRecursion P (cells_words cells)
  cells_have cells.Alone all = tt
  cells_have cells.Keyed all = tt
  cells_have (cells.By by) all = all.1.1

  list_has : (by : Option WrittenBy) → AllByRecursion P (list_signs by) → AllByRecursion P (list_words by)
  list_has None all = tt
  list_has (Some by) all = all.1

  item_has : (item : Option WrittenItem) → AllByRecursion P (item_signs item) → AllByRecursion P (item_words item)
  item_has None all = tt
  item_has (Some item) all = list_has item.by all.1

  declaration_has : (d : Declaration) → AllByRecursion P (declaration_signs d) → AllByRecursion P (declaration_words d)
  declaration_has (Cell n cells s) all = (all.1.0, cells_have cells (all_front P (cells_signs cells) (Any (sort_word s) ∷ []) all.1.1))
  declaration_has (Tag n keyed item has_value) all =
      let both = all_front P (keyed_signs keyed ++ item_signs item) (Any (value_word has_value) ∷ []) all.1.1 in
      (all.1.0, item_has item (all_back P (keyed_signs keyed) (item_signs item) both))
  declaration_has (Names at n texts) all = (all.1.0, separated_items (w.Mark m.Comma) text text (λ x has. has) texts all.1.1.1)
  declaration_has (Depends a b relation) all = (all.1.0, (all.1.1.0, tt))
  declaration_has (On kind actions) all = (all.1.0, separated_items (w.Mark m.Semicolon) action_signs action_words action_has actions all.1.1.1)
  declaration_has (Source n file rate slack tags) all =
      let extras = rate_signs rate ++ slack_signs slack in
      let listed : List Sign = Any (w.Mark m.Colon) ∷ separated (w.Mark m.Comma) tag_signs tags in
      let extra = all_front P extras listed all.1.1.1 in
      let rate_stands = rate_has rate (all_front P (rate_signs rate) (slack_signs slack) extra) in
      let slack_stands = slack_has slack (all_back P (rate_signs rate) (slack_signs slack) extra) in
      let tags_stand = separated_items (w.Mark m.Comma) tag_signs tag_words tag_has tags (all_back P extras listed all.1.1.1).1 in (
        all.1.0,
        (
          all.1.1.0,
          all_append P (number_words rate ++ number_words slack) (flat_map tag_words tags)
              (all_append P (number_words rate) (number_words slack) rate_stands slack_stands) tags_stand,
        ),
      )
  declaration_has (Clock at n every rate tag) all =
      let listed : List Sign = Any (w.Mark m.Colon) ∷ name tag in
      let rate_stands = rate_has rate (all_front P (rate_signs rate) listed all.1.1.1.1) in
      let tag_stands = (all_back P (rate_signs rate) listed all.1.1.1.1).1 in
      (all.1.0, (all.1.1.1.0, all_append P (number_words rate) (name tag) rate_stands tag_stands))

  declarations_have : (ds : Declarations) → AllByRecursion P (declarations_signs ds) → AllByRecursion P (flat_map declaration_words ds)
  declarations_have [] all = tt
  declarations_have (d ∷ ds) all =
      all_append P (declaration_words d) (flat_map declaration_words ds) (declaration_has d (all_front P (declaration_signs d) (declarations_signs ds) all))
      (declarations_have ds (all_back P (declaration_signs d) (declarations_signs ds) all))

  job_has : (job : Job) → AllByRecursion P (job_signs job) → AllByRecursion P (job_words job)
  job_has job all =
      all_append P (head_words job.head) (flat_map declaration_words job.declarations)
      (head_has job.head (all_front P (head_signs job.head) (declarations_signs job.declarations) all))
      (declarations_have job.declarations (all_back P (head_signs job.head) (declarations_signs job.declarations) all))

pub words_stand : SignsStand → WordsStand
words_stand stand tokens job is = job_has (Stands tokens) job (stand tokens (job_signs job) is.spelled)
