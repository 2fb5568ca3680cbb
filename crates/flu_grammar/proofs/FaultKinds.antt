-- Which faults the looks at a written job find: none of bytes, tokens or grammar.
use Rattle.flu_model.specs.Rules.{file_of_source}
use Rattle.std.specs.List.{filter_map}
use Rattle.std.proofs.Common.{◌≡◌, ℕ, ◌+◌, ◌^◌, Bool, true, false, cond, List, [], ◌∷◌, ◌++◌, length, Option, Some, None, Ok, Err, refl, subst}
use Rattle.std.specs.Prelude.{Result, is_some, not, ◌==◌, ◌&&◌, nat_lt, nat_le, position, if◌then◌else◌}
use Rattle.std.specs.List.{list_any, list_all}
use Rattle.std.specs.Str.{bytes_eq}
use Rattle.flu_lemmas.specs.Loops.{◌>>=◌, ◌>>◌, each}
use Rattle.flu_lemmas.proofs.Loops.{collect}
use Rattle.flu_model.specs.declared.limits.What.{What}
use Rattle.flu_model.specs.declared.limits.What.TheVariants.{Families, Kinds, Lists, Names as NamesLimit, Sources, Depends, Key, Rate, Itags}
use Rattle.flu_model.specs.declared.limits.What.TheVariants.{Actions, Height, Slack}
use Rattle.flu_model.specs.declared.jobs.Sort.{Sort}
use Rattle.flu_model.specs.declared.jobs.At.TheVariants as at
use Rattle.flu_model.specs.declared.jobs.Keys.TheVariants as keys
use Rattle.flu_model.specs.declared.jobs.Piece.{Piece}
use Rattle.flu_model.specs.declared.jobs.Piece.TheVariants as piece
use Rattle.flu_model.specs.declared.jobs.Source.{Source}
use Rattle.flu_model.specs.Contents.{key_count}
use Rattle.flu_model.specs.ListRules.{is_listed_text}
use Rattle.flu_model.specs.Rules.{is_version, is_same_text}
use Rattle.flu_model.specs.Texts.{Unit as TimeUnit}
use Rattle.flu_model.specs.Erasure.{Literal, EventValue, EventKey, EventItem, EventTime, CellRead, CellHeld, Negative, Negation, Operation}
use Rattle.flu_model.specs.Erasure.{Clearing, ClearingFamily, Emitting, Flushing, Job}
use Rattle.flu_rules.specs.Keys.{share_tag}
use Rattle.flu_text.specs.declared.written.WrittenSpan.{WrittenSpan}
use Rattle.flu_text.specs.declared.written.WrittenNumber.{WrittenNumber}
use Rattle.flu_text.specs.declared.written.WrittenKeys.{WrittenKeys}
use Rattle.flu_text.specs.declared.written.WrittenKeys.TheVariants as ks
use Rattle.flu_syntax.specs.declared.tree.WrittenKey.{WrittenKey}
use Rattle.flu_syntax.specs.declared.tree.WrittenKey.TheVariants as k
use Rattle.flu_syntax.specs.declared.tree.WrittenRef.{WrittenRef}
use Rattle.flu_syntax.specs.declared.tree.WrittenBy.{WrittenBy}
use Rattle.flu_syntax.specs.declared.tree.WrittenCells.{WrittenCells}
use Rattle.flu_syntax.specs.declared.tree.WrittenItem.{WrittenItem}
use Rattle.flu_syntax.specs.declared.tree.WrittenTag.{WrittenTag}
use Rattle.flu_syntax.specs.declared.tree.WrittenRelation.{WrittenRelation}
use Rattle.flu_syntax.specs.declared.tree.WrittenRelation.TheVariants as r
use Rattle.flu_syntax.specs.declared.tree.WrittenTies.{WrittenTies}
use Rattle.flu_syntax.specs.declared.tree.WrittenUnit.{WrittenUnit}
use Rattle.flu_syntax.specs.declared.tree.WrittenHead.{WrittenHead}
use Rattle.flu_syntax.specs.Tree.{Tree, NumberTree, ValueTree, KeyTree, TimeTree, ReadTree, HasTree, ParenTree, NegTree, NotTree}
use Rattle.flu_syntax.specs.Tree.{TwoTree, Deed, Writes, Clears, Emits, Flushes, Action, Declaration, Declarations, Job as WrittenJob}
use Rattle.flu_syntax.specs.Tree as d
use Rattle.flu_layout.specs.Spelling.{name_of, inside, written_value}
use Rattle.flu_parse.specs.declared.faults.JobFault.{JobFault}
use Rattle.flu_parse.specs.declared.faults.JobFault.TheVariants as f
use Rattle.flu_parse.specs.declared.names.KindHead.{KindHead}
use Rattle.flu_parse.specs.declared.pieces.WrittenPiece.{WrittenPiece}
use Rattle.flu_parse.specs.declared.pieces.WrittenPiece.TheVariants as w
use Rattle.flu_parse.specs.Faults.{Found, unless, room}
use Rattle.flu_parse.specs.Lists.{with_text, texts_of, list_of}
use Rattle.flu_parse.specs.Naming.{Naming, in_version, is_version_3, has_keys, keys_by, items_by, takes_items, look_up, is_declared, known, fresh_name}
use Rattle.flu_parse.specs.Naming.{with_family, with_kind, with_list, with_source, declare, no_names, naming_of, family_of, kind_of}
use Rattle.flu_parse.specs.Cells.{resolved_key, is_wanted, brackets_fit, family_for, at_of, resolved_cell}
use Rattle.flu_parse.specs.Terms.{height, is_item, op_fits, first_part, first_token, term_of, expression_of}
use Rattle.flu_parse.specs.Templates.{template_at, known_name, known_names, piece_fits, family_piece, piece_of, pieces_of, may_be_printed, template_of}
use Rattle.flu_parse.specs.Actions.{sort_for, act_with, clears_whole, resolved_act, guard_of, action_of, with_action, resolved_actions}
use Rattle.flu_parse.specs.Listings.{are_bracketed, written_keys, keys_of, tag_count, Listed, with_tag, tags_of, rate_of, slack_of, file_of, period_of}
use Rattle.flu_parse.specs.Listings.{is_tick_head, alone, tick_of}
use Rattle.flu_parse.specs.Resolving.{Drafted, same_of, with_depend, with_actions, with_on, with_clock, with_source as with_source_of}
use Rattle.flu_parse.specs.Resolving.{with_cell, with_tag as with_tag_of, with_names, cell_name_fits, item_word_fits, with_declaration, first_draft}
use Rattle.flu_parse.specs.Resolving.{draft_of, version_of, ties_counted, ties_of, unit_named, found_unit, unit_of, iso_of}
use Rattle.flu_parse.specs.Resolving.{job_with, resolved}

-- ---- looks of which each fault is so

abbrev pub FaultsAre : {E A : Type 0} → (E → Type 0) → Result A E → Type 0
FaultsAre {E} P r = (e : E) → r ≡ Err e → P e

module _ {E : Type 0} (P : E → Type 0) where
  pub no_fault : {A : Type 0} (x : A) → FaultsAre P (let r : Result A E = Ok x in r)
  no_fault x e h = absurd cc

  pub one_fault : {A : Type 0} (fault : E) → P fault → FaultsAre P (let r : Result A E = Err fault in r)
  one_fault fault p e h = let same : fault ≡ e = cc in subst P same p

  pub fault_unless : (b : Bool) (fault : E) → P fault → FaultsAre P (cond {A = Result (Unit {0}) E} b (Ok tt) (Err fault))
  fault_unless true fault p e h = absurd cc
  fault_unless false fault p e h = let same : fault ≡ e = cc in subst P same p

  pub faults_bind : {A B : Type 0} (r : Result A E) (g : A → Result B E) → FaultsAre P r → ((x : A) → FaultsAre P (g x)) → FaultsAre P (r >>= g)
  faults_bind (Ok x) g a b e h = b x e h
  faults_bind (Err y) g a b e h = let same : y ≡ e = cc in subst P same (a y refl)

  pub faults_then : {A B : Type 0} (r : Result A E) (g : Result B E) → FaultsAre P r → FaultsAre P g → FaultsAre P (r >> g)
  faults_then (Ok x) g a b e h = b e h
  faults_then (Err y) g a b e h = let same : y ≡ e = cc in subst P same (a y refl)

  pub faults_if : {A : Type 0} (b : Bool) (r s : Result A E) → FaultsAre P r → FaultsAre P s → FaultsAre P (cond b r s)
  faults_if true r s p q = p
  faults_if false r s p q = q

  pub faults_each : {S X : Type 0} (step : S → X → Result S E) → ((s : S) (x : X) → FaultsAre P (step s x)) → (s : S) (xs : List X) → FaultsAre P
      (each step s xs)
  unfolding each
  faults_each step all s [] = no_fault s
  faults_each step all s (x ∷ xs) = faults_bind (step s x) (λ t. each step t xs) (all s x) (λ t. faults_each step all t xs)

-- the limits of jobs that are looked at in what is written
abbrev pub IsOfWritten : What → Type 0
IsOfWritten Families = Unit {0}
IsOfWritten Kinds = Unit {0}
IsOfWritten Lists = Unit {0}
IsOfWritten NamesLimit = Unit {0}
IsOfWritten Sources = Unit {0}
IsOfWritten Depends = Unit {0}
IsOfWritten Key = Unit {0}
IsOfWritten Rate = Unit {0}
IsOfWritten Itags = Unit {0}
IsOfWritten Actions = Unit {0}
IsOfWritten Height = Unit {0}
IsOfWritten Slack = Unit {0}
IsOfWritten _ = ⊥

-- faults of references, shapes and limits are so
pub record Plain (P : JobFault → Type 0) : Type 0 where
  pub unknown : (at : ℕ) → P (f.UnknownName at)
  pub shape : (at : ℕ) → P (f.WrongShape at)
  pub limit : (what : What) (count : ℕ) → IsOfWritten what → P (f.OverLimit what count)

module _ (P : JobFault → Type 0) (plain : Plain P) where
  known_faults : {X : Type 0} (at : ℕ) (o : Option X) → FaultsAre P (known at o)
  known_faults at None = one_fault P (f.UnknownName at) (plain.unknown at)
  known_faults at (Some x) = no_fault P x

  shape_faults : {A : Type 0} (b : Bool) (at : ℕ) (x : A) → FaultsAre P (unless b (f.WrongShape at) >> Ok x)
  shape_faults b at x = faults_then P (unless b (f.WrongShape at)) (Ok x) (fault_unless P b (f.WrongShape at) (plain.shape at)) (no_fault P x)

  key_faults : (n : WrittenNumber) → FaultsAre P (resolved_key n)
  key_faults n =
      faults_then P (unless (nat_lt (written_value n.value) key_count) (f.OverLimit Key (written_value n.value))) (Ok (written_value n.value))
      (fault_unless P (nat_lt (written_value n.value) key_count) (f.OverLimit Key (written_value n.value)) (plain.limit Key (written_value n.value) tt))
      (no_fault P (written_value n.value))

  at_faults : (n : Naming) (under : KindHead) (key : WrittenKey) → FaultsAre P (at_of n under key)
  at_faults n under k.Alone = no_fault P at.Alone
  at_faults n under (k.OwnKey place) = shape_faults under.keyed place at.OwnKey
  at_faults n under (k.OwnItem place) = shape_faults (takes_items n under) place at.OwnItem
  at_faults n under (k.Fixed m) = faults_bind P (resolved_key m) (λ key. Ok (at.Fixed key)) (key_faults m) (λ key. no_fault P (at.Fixed key))

  module _ (text : List ℕ) (n : Naming) where
    family_faults : (wanted : Option Sort) (r : WrittenRef) → FaultsAre P (family_for text n wanted r)
    family_faults wanted r =
        faults_bind P (family_of text n r.family)
        (λ family. unless (is_wanted wanted family.sort && brackets_fit family.keyed r.key) (f.WrongShape r.family.from) >> Ok family)
        (known_faults r.family.from (look_up (name_of text r.family) n.families))
        (λ family. shape_faults (is_wanted wanted family.sort && brackets_fit family.keyed r.key) r.family.from family)

    module _ (under : KindHead) where
      cell_faults : (wanted : Option Sort) (r : WrittenRef) → FaultsAre P (resolved_cell text n under wanted r)
      cell_faults wanted r =
          faults_bind P (family_for text n wanted r) (λ family. at_of n under r.key >>= λ a. Ok (record { family = family.number; at = a }))
          (family_faults wanted r)
          (λ family. faults_bind P (at_of n under r.key) (λ a. Ok (record { family = family.number; at = a })) (at_faults n under r.key)
          (λ a. no_fault P (record { family = family.number; at = a })))

      token_faults : (e : Tree) → FaultsAre P (first_token text n under e)
      unfolding first_token
      token_faults (NumberTree m) = no_fault P tt
      token_faults (ValueTree at) = fault_unless P under.has_value (f.WrongShape at) (plain.shape at)
      token_faults (KeyTree at) = fault_unless P under.keyed (f.WrongShape at) (plain.shape at)
      token_faults (TimeTree at) = no_fault P tt
      token_faults (ReadTree r) =
          faults_if P (is_item text n r) (unless (takes_items n under) (f.WrongShape r.family.from)) (family_for text n None r >>= λ _. Ok tt)
          (fault_unless P (takes_items n under) (f.WrongShape r.family.from) (plain.shape r.family.from))
          (faults_bind P (family_for text n None r) (λ _. Ok tt) (family_faults None r) (λ _. no_fault P tt))
      token_faults (HasTree at r) = no_fault P tt
      token_faults (ParenTree at e) = no_fault P tt
      token_faults (NegTree at e) = no_fault P tt
      token_faults (NotTree at e) = no_fault P tt
      token_faults (TwoTree op at a b) = no_fault P tt

      term_faults : (e : Tree) → FaultsAre P (term_of text n under e)
      unfolding term_of
      term_faults (NumberTree m) = no_fault P (Literal m.value)
      term_faults (ValueTree at) = shape_faults under.has_value at EventValue
      term_faults (KeyTree at) = shape_faults under.keyed at EventKey
      term_faults (TimeTree at) = no_fault P EventTime
      term_faults (ReadTree r) =
          faults_if P (is_item text n r) (unless (takes_items n under) (f.WrongShape r.family.from) >> Ok EventItem)
          (resolved_cell text n under None r >>= λ c. Ok (CellRead c))
          (shape_faults (takes_items n under) r.family.from EventItem)
          (faults_bind P (resolved_cell text n under None r) (λ c. Ok (CellRead c)) (cell_faults None r) (λ c. no_fault P (CellRead c)))
      term_faults (HasTree at r) = faults_bind P (resolved_cell text n under None r) (λ c. Ok (CellHeld c)) (cell_faults None r) (λ c. no_fault P (CellHeld c))
      term_faults (ParenTree at e) = term_faults e
      term_faults (NegTree at e) = faults_bind P (term_of text n under e) (λ t. Ok (Negative t)) (term_faults e) (λ t. no_fault P (Negative t))
      term_faults (NotTree at e) = faults_bind P (term_of text n under e) (λ t. Ok (Negation t)) (term_faults e) (λ t. no_fault P (Negation t))
      term_faults (TwoTree op at a b) =
          faults_bind P (term_of text n under a) (λ s. unless (op_fits n op) (f.WrongShape at) >> (term_of text n under b >>= λ t. Ok (Operation op s t)))
          (term_faults a)
          (λ s. faults_then P (unless (op_fits n op) (f.WrongShape at)) (term_of text n under b >>= λ t. Ok (Operation op s t))
          (fault_unless P (op_fits n op) (f.WrongShape at) (plain.shape at))
          (faults_bind P (term_of text n under b) (λ t. Ok (Operation op s t)) (term_faults b) (λ t. no_fault P (Operation op s t))))

      expression_faults : (e : Tree) → FaultsAre P (expression_of text n under e)
      unfolding expression_of
      expression_faults e =
          faults_then P (first_token text n under (first_part e)) (unless (nat_le (height e) 32) (f.OverLimit Height 33) >> term_of text n under e)
          (token_faults (first_part e))
          (faults_then P (unless (nat_le (height e) 32) (f.OverLimit Height 33)) (term_of text n under e)
          (fault_unless P (nat_le (height e) 32) (f.OverLimit Height 33) (plain.limit Height 33 tt)) (term_faults e))

      name_faults : (place : ℕ) (q : WrittenPiece) → FaultsAre P (known_name text n place q)
      unfolding known_name
      name_faults place (w.Plain s) = no_fault P tt
      name_faults place w.Value = no_fault P tt
      name_faults place w.Key = no_fault P tt
      name_faults place w.Item = no_fault P tt
      name_faults place w.Time = no_fault P tt
      name_faults place w.CellValue = no_fault P tt
      name_faults place (w.Read r) =
          faults_bind P (known place (look_up (name_of text r.family) n.families)) (λ _. Ok tt)
          (known_faults place (look_up (name_of text r.family) n.families))
          (λ _. no_fault P tt)
      name_faults place (w.Family s) =
          faults_bind P (known place (look_up (name_of text s) n.families)) (λ _. Ok tt) (known_faults place (look_up (name_of text s) n.families))
          (λ _. no_fault P tt)
      name_faults place w.Formless = no_fault P tt

      piece_faults : (flushed : Option ℕ) (place : ℕ) (q : WrittenPiece) → FaultsAre P (piece_of text n under flushed place q)
      unfolding piece_of
      piece_faults flushed place (w.Plain s) = no_fault P (piece.Plain (name_of text s))
      piece_faults flushed place w.Value = no_fault P piece.Value
      piece_faults flushed place w.Key = no_fault P piece.Key
      piece_faults flushed place w.Item = no_fault P piece.Item
      piece_faults flushed place w.Time = no_fault P piece.Time
      piece_faults flushed place w.CellValue = no_fault P piece.CellValue
      piece_faults flushed place (w.Read r) =
          faults_bind P (known place (look_up (name_of text r.family) n.families))
          (λ family. at_of n under r.key >>= λ a. Ok (piece.Read (record { family = family.number; at = a })))
          (known_faults place (look_up (name_of text r.family) n.families))
          (λ family. faults_bind P (at_of n under r.key) (λ a. Ok (piece.Read (record { family = family.number; at = a }))) (at_faults n under r.key)
          (λ a. no_fault P (piece.Read (record { family = family.number; at = a }))))
      piece_faults flushed place (w.Family s) =
          faults_bind P (known place (look_up (name_of text s) n.families)) (λ family. Ok (family_piece flushed family.number))
          (known_faults place (look_up (name_of text s) n.families)) (λ family. no_fault P (family_piece flushed family.number))
      piece_faults flushed place w.Formless = one_fault P (f.WrongShape place) (plain.shape place)

      template_faults : (flushed : Option ℕ) (s : WrittenSpan) → FaultsAre P (template_of text n under flushed s)
      unfolding template_of
      template_faults flushed s =
          let t = template_at text n.version (is_some flushed) s in
          let fits = t.whole && list_all (piece_fits text n under (is_some flushed)) t.pieces in
          let last = λ (ps : List Piece). unless (may_be_printed n flushed ps) (f.WrongShape s.from) >> (let r : Found (List Piece) = Ok ps in r) in
          faults_then P (known_names text n s.from t.pieces)
          (unless fits (f.WrongShape s.from) >> (pieces_of text n under flushed s.from t.pieces >>= last))
          (faults_each P (λ done q. known_name text n s.from q) (λ done q. name_faults s.from q) tt t.pieces)
          (faults_then P (unless fits (f.WrongShape s.from)) (pieces_of text n under flushed s.from t.pieces >>= last)
          (fault_unless P fits (f.WrongShape s.from)
          (plain.shape s.from))
          (faults_bind P (pieces_of text n under flushed s.from t.pieces) last
          (faults_each P (collect (piece_of text n under flushed s.from)) (λ done q. faults_bind P (piece_of text n under flushed s.from q)
          (λ y. Ok (done ++ y ∷ [])) (piece_faults flushed s.from q) (λ y. no_fault P (done ++ y ∷ []))) [] t.pieces)
          (λ ps. shape_faults (may_be_printed n flushed ps) s.from ps)))

      act_faults : (e : Deed) → FaultsAre P (resolved_act text n under e)
      unfolding resolved_act
      act_faults (Writes verb r e) =
          faults_bind P (resolved_cell text n under (Some (sort_for verb)) r) (λ c. expression_of text n under e >>= λ t. Ok (act_with verb c t))
          (cell_faults (Some (sort_for verb)) r)
          (λ c. faults_bind P (expression_of text n under e) (λ t. Ok (act_with verb c t)) (expression_faults e) (λ t. no_fault P (act_with verb c t)))
      act_faults (Clears r) =
          faults_bind P (family_of text n r.family) (λ h. if clears_whole n h r.key then Ok (ClearingFamily h.number) else
          (resolved_cell text n under None r >>= λ c. Ok (Clearing c)))
          (known_faults r.family.from (look_up (name_of text r.family) n.families))
          (λ h. faults_if P (clears_whole n h r.key) (Ok (ClearingFamily h.number)) (resolved_cell text n under None r >>= λ c. Ok (Clearing c))
          (no_fault P (ClearingFamily h.number))
          (faults_bind P (resolved_cell text n under None r) (λ c. Ok (Clearing c)) (cell_faults None r) (λ c. no_fault P (Clearing c))))
      act_faults (Emits s) =
          faults_bind P (template_of text n under None s) (λ ps. Ok (Emitting ps)) (template_faults None s) (λ ps. no_fault P (Emitting ps))
      act_faults (Flushes name s) =
          faults_bind P (family_of text n name) (λ h. unless h.keyed (f.WrongShape name.from) >> (template_of text n under (Some h.number) s >>= λ ps. Ok
          (Flushing h.number ps)))
          (known_faults name.from (look_up (name_of text name) n.families))
          (λ h. faults_then P (unless h.keyed (f.WrongShape name.from)) (template_of text n under (Some h.number) s >>= λ ps. Ok (Flushing h.number ps))
          (fault_unless P h.keyed (f.WrongShape name.from) (plain.shape name.from))
          (faults_bind P (template_of text n under (Some h.number) s) (λ ps. Ok (Flushing h.number ps)) (template_faults (Some h.number) s)
          (λ ps. no_fault P (Flushing h.number ps))))

      guard_faults : (g : Option Tree) → FaultsAre P (guard_of text n under g)
      unfolding guard_of
      guard_faults None = no_fault P None
      guard_faults (Some e) = faults_bind P (expression_of text n under e) (λ t. Ok (Some t)) (expression_faults e) (λ t. no_fault P (Some t))

      action_faults : (a : Action) → FaultsAre P (action_of text n under a)
      unfolding action_of
      action_faults a =
          faults_bind P (resolved_act text n under a.deed) (λ act. guard_of text n under a.guard >>= λ guard. Ok (record { act = act; guard = guard }))
          (act_faults a.deed)
          (λ act. faults_bind P (guard_of text n under a.guard) (λ guard. Ok (record { act = act; guard = guard })) (guard_faults a.guard)
          (λ guard. no_fault P (record { act = act; guard = guard })))

      pub actions_faults : (actions : List Action) → FaultsAre P (resolved_actions text n under actions)
      unfolding with_action
      actions_faults actions = faults_each P (with_action text n under) (λ done a.
          faults_then P (room Actions 32 (length done)) (action_of text n under a >>= λ x. Ok (done ++ x ∷ []))
          (fault_unless P (nat_lt (length done) 32) (f.OverLimit Actions 33) (plain.limit Actions 33 tt))
          (faults_bind P (action_of text n under a) (λ x. Ok (done ++ x ∷ [])) (action_faults a) (λ x. no_fault P (done ++ x ∷ [])))) [] actions

    -- ---- what is no action

    pub kind_faults : (s : WrittenSpan) → FaultsAre P (kind_of text n s)
    kind_faults s = known_faults s.from (look_up (name_of text s) n.kinds)

    same_faults : (relation : WrittenRelation) (a b : KindHead) → FaultsAre P (same_of relation a b)
    same_faults r.None a b = no_fault P false
    same_faults r.All a b = no_fault P false
    same_faults (r.Same at) a b = shape_faults (a.keyed && b.keyed) at true

    depend_faults : (x : Drafted) (a b : WrittenSpan) (relation : WrittenRelation) → FaultsAre P (with_depend text n x a b relation)
    unfolding with_depend
    depend_faults x a b relation =
        faults_bind P (kind_of text n a) (λ first. kind_of text n b >>= λ second. same_of relation first second >>= λ same. Ok (record x {
          depends = x.depends ++ record { a = first.number; b = second.number; same = same } ∷ [];
        })) (kind_faults a)
        (λ first. faults_bind P (kind_of text n b) (λ second. same_of relation first second >>= λ same. Ok (record x {
          depends = x.depends ++ record { a = first.number; b = second.number; same = same } ∷ [];
        })) (kind_faults b)
        (λ second. faults_bind P (same_of relation first second) (λ same. Ok (record x {
          depends = x.depends ++ record { a = first.number; b = second.number; same = same } ∷ [];
        })) (same_faults relation first second) (λ same. no_fault P (record x {
          depends = x.depends ++ record { a = first.number; b = second.number; same = same } ∷ [];
        }))))

    keys_faults : (k : WrittenKeys) → FaultsAre P (keys_of k)
    keys_faults ks.Alone = no_fault P keys.Alone
    keys_faults (ks.One x) = faults_bind P (resolved_key x) (λ key. Ok (keys.One key)) (key_faults x) (λ key. no_fault P (keys.One key))
    keys_faults (ks.Range lo hi) =
        faults_then P (unless (nat_le (written_value lo.value) (written_value hi.value)) (f.WrongShape lo.at))
        (resolved_key lo >>= λ first. resolved_key hi >>= λ last. Ok (keys.Range first last))
        (fault_unless P (nat_le (written_value lo.value) (written_value hi.value)) (f.WrongShape lo.at) (plain.shape lo.at))
        (faults_bind P (resolved_key lo) (λ first. resolved_key hi >>= λ last. Ok (keys.Range first last)) (key_faults lo)
        (λ first. faults_bind P (resolved_key hi) (λ last. Ok (keys.Range first last)) (key_faults hi) (λ last. no_fault P (keys.Range first last))))

    number_faults : {A : Type 0} (what : What) (count : ℕ) (b : Bool) (x : A) → IsOfWritten what → FaultsAre P (unless b (f.OverLimit what count) >> Ok x)
    number_faults what count b x is =
        faults_then P (unless b (f.OverLimit what count)) (Ok x) (fault_unless P b (f.OverLimit what count) (plain.limit what count is)) (no_fault P x)

    rate_faults : (o : Option WrittenNumber) → FaultsAre P (rate_of o)
    rate_faults None = no_fault P 1
    rate_faults (Some x) = number_faults Rate (written_value x.value) (nat_le (written_value x.value) 1000000000) (written_value x.value) tt

    slack_faults : (o : Option WrittenNumber) → FaultsAre P (slack_of o)
    slack_faults None = no_fault P 0
    slack_faults (Some x) = number_faults Slack (written_value x.value) (nat_le (written_value x.value) 60000) (written_value x.value) tt

    -- ---- where something may be named twice

    module _ (twice : (at : ℕ) → P (f.TwiceNamed at)) where
      tag_faults : (done : Listed) (v : WrittenTag) → FaultsAre P (with_tag text n done v)
      unfolding with_tag
      tag_faults done v =
          let last = λ (kind : KindHead). keys_of v.keys >>= λ k. let r : Found Listed = Ok (record {
            tags = done.tags ++ record { kind = kind.number; keys = k } ∷ [];
            itags = done.itags + tag_count v.keys;
          }) in r in
          let third = λ (kind : KindHead). unless (not (list_any (share_tag (record { kind = kind.number; keys = written_keys v.keys })) done.tags))
          (f.TwiceNamed v.kind.from) >> last kind in
          let second = λ (kind : KindHead). unless (nat_le (done.itags + tag_count v.keys) 256) (f.OverLimit Itags 257) >> third kind in
          faults_bind P (kind_of text n v.kind) (λ kind. unless (are_bracketed kind.keyed v.keys) (f.WrongShape v.kind.from) >> second kind)
          (kind_faults v.kind)
          (λ kind. faults_then P (unless (are_bracketed kind.keyed v.keys) (f.WrongShape v.kind.from)) (second kind)
          (fault_unless P (are_bracketed kind.keyed v.keys) (f.WrongShape v.kind.from) (plain.shape v.kind.from))
          (faults_then P (unless (nat_le (done.itags + tag_count v.keys) 256) (f.OverLimit Itags 257)) (third kind)
          (fault_unless P (nat_le (done.itags + tag_count v.keys) 256) (f.OverLimit Itags 257) (plain.limit Itags 257 tt))
          (faults_then P (unless (not (list_any (share_tag (record { kind = kind.number; keys = written_keys v.keys })) done.tags))
          (f.TwiceNamed v.kind.from)) (last kind)
          (fault_unless P (not (list_any (share_tag (record { kind = kind.number; keys = written_keys v.keys })) done.tags)) (f.TwiceNamed v.kind.from)
          (twice v.kind.from))
          (faults_bind P (keys_of v.keys) (λ k. Ok (record {
            tags = done.tags ++ record { kind = kind.number; keys = k } ∷ [];
            itags = done.itags + tag_count v.keys;
          })) (keys_faults v.keys) (λ k. no_fault P (record {
            tags = done.tags ++ record { kind = kind.number; keys = k } ∷ [];
            itags = done.itags + tag_count v.keys;
          }))))))

      file_faults : (sources : List Source) (file : WrittenSpan) → FaultsAre P (file_of text sources file)
      file_faults sources file =
          let own = not (list_any (is_same_text (inside text file)) (filter_map file_of_source sources)) in
          faults_then P (unless (nat_lt 0 (length (inside text file))) (f.WrongShape file.from)) (unless own (f.TwiceNamed file.from) >> Ok (inside text file))
          (fault_unless P (nat_lt 0 (length (inside text file))) (f.WrongShape file.from) (plain.shape file.from))
          (faults_then P (unless own (f.TwiceNamed file.from)) (Ok (inside text file)) (fault_unless P own (f.TwiceNamed file.from) (twice file.from))
          (no_fault P (inside text file)))

      on_faults : (x : Drafted) (kind : WrittenSpan) (actions : List Action) → FaultsAre P (with_on text n x kind actions)
      unfolding with_on
      on_faults x kind actions =
          faults_bind P (kind_of text n kind) (λ h. unless (not (list_any (λ g. g == h.number) x.given)) (f.TwiceNamed kind.from)
          >> (resolved_actions text n h actions >>= λ acts. Ok (record x { kinds = with_actions x.kinds h.number acts; given = x.given ++ h.number ∷ [] })))
          (kind_faults kind)
          (λ h. faults_then P (unless (not (list_any (λ g. g == h.number) x.given)) (f.TwiceNamed kind.from))
          (resolved_actions text n h actions >>= λ acts. Ok (record x { kinds = with_actions x.kinds h.number acts; given = x.given ++ h.number ∷ [] }))
          (fault_unless P (not (list_any (λ g. g == h.number) x.given)) (f.TwiceNamed kind.from) (twice kind.from))
          (faults_bind P (resolved_actions text n h actions)
          (λ acts. Ok (record x { kinds = with_actions x.kinds h.number acts; given = x.given ++ h.number ∷ [] })) (actions_faults h actions)
          (λ acts. no_fault P (record x { kinds = with_actions x.kinds h.number acts; given = x.given ++ h.number ∷ [] }))))

      source_faults : (x : Drafted) (name file : WrittenSpan) (rate slack : Option WrittenNumber) (tags : List WrittenTag)
          → FaultsAre P (with_source_of text n x name file rate slack tags)
      unfolding with_source_of
      source_faults x name file rate slack tags =
          let made = λ (bytes : List ℕ) (a b : ℕ) (listed : Listed). let r : Found Drafted = Ok (record x {
            sources = x.sources ++ record { name = name_of text name; file = bytes; every = None; rate = a; slack = b; tags = listed.tags } ∷ [];
            itags = listed.itags;
          }) in r in
          faults_bind P (file_of text x.sources file)
          (λ bytes. rate_of rate >>= λ a. slack_of slack >>= λ b. tags_of text n x.itags tags >>= λ l. made bytes a b l)
          (file_faults x.sources file)
          (λ bytes. faults_bind P (rate_of rate) (λ a. slack_of slack >>= λ b. tags_of text n x.itags tags >>= λ l. made bytes a b l) (rate_faults rate)
          (λ a. faults_bind P (slack_of slack) (λ b. tags_of text n x.itags tags >>= λ l. made bytes a b l) (slack_faults slack)
          (λ b. faults_bind P (tags_of text n x.itags tags) (λ l. made bytes a b l)
          (faults_each P (with_tag text n) tag_faults (record { tags = []; itags = x.itags }) tags)
          (λ l. no_fault P (record x {
            sources = x.sources ++ record { name = name_of text name; file = bytes; every = None; rate = a; slack = b; tags = l.tags } ∷ [];
            itags = l.itags;
          })))))

      tick_faults : (itags : ℕ) (tag : WrittenSpan) → FaultsAre P (tick_of text n itags tag)
      tick_faults itags tag =
          let tags = tags_of text n itags (alone tag ∷ []) in
          faults_bind P (kind_of text n tag) (λ kind. unless (is_tick_head kind) (f.WrongShape tag.from) >> tags) (kind_faults tag)
          (λ kind. faults_then P (unless (is_tick_head kind) (f.WrongShape tag.from)) tags
          (fault_unless P (is_tick_head kind) (f.WrongShape tag.from) (plain.shape tag.from))
          (faults_each P (with_tag text n) tag_faults (record { tags = []; itags = itags }) (alone tag ∷ [])))

      clock_faults : (x : Drafted) (at : ℕ) (name : WrittenSpan) (every : WrittenNumber) (rate : Option WrittenNumber) (tag : WrittenSpan)
          → FaultsAre P (with_clock text n x at name every rate tag)
      unfolding with_clock
      clock_faults x at name every rate tag =
          let made = λ (period a : ℕ) (listed : Listed). let r : Found Drafted = Ok (record x {
            sources = x.sources ++ record { name = name_of text name; file = []; every = Some period; rate = a; slack = 0; tags = listed.tags } ∷ [];
            itags = listed.itags;
          }) in r in
          let value = written_value every.value in
          faults_then P (unless (is_version_3 n) (f.WrongShape at))
          (period_of every >>= λ period. rate_of rate >>= λ a. tick_of text n x.itags tag >>= λ l. made period a l)
          (fault_unless P (is_version_3 n) (f.WrongShape at) (plain.shape at))
          (faults_bind P (period_of every) (λ period. rate_of rate >>= λ a. tick_of text n x.itags tag >>= λ l. made period a l)
          (shape_faults (nat_le 1 value && nat_le value (2 ^ 62)) every.at value)
          (λ period. faults_bind P (rate_of rate) (λ a. tick_of text n x.itags tag >>= λ l. made period a l) (rate_faults rate)
          (λ a. faults_bind P (tick_of text n x.itags tag) (λ l. made period a l) (tick_faults x.itags tag)
          (λ l. no_fault P (record x {
            sources = x.sources ++ record { name = name_of text name; file = []; every = Some period; rate = a; slack = 0; tags = l.tags } ∷ [];
            itags = l.itags;
          })))))

      item_faults : (item : Option WrittenItem) → FaultsAre P (item_word_fits n item)
      item_faults None = no_fault P tt
      item_faults (Some item) = fault_unless P (is_version_3 n) (f.WrongShape item.at) (plain.shape item.at)

      list_faults : (o : Option WrittenBy) → FaultsAre P (list_of text n o)
      list_faults None = no_fault P None
      list_faults (Some written) =
          let place = position (bytes_eq (name_of text written.list)) n.lists in
          faults_then P (unless (is_version_3 n) (f.WrongShape written.at)) (known written.list.from place >>= λ number. Ok (Some number))
          (fault_unless P (is_version_3 n) (f.WrongShape written.at) (plain.shape written.at))
          (faults_bind P (known written.list.from place) (λ number. Ok (Some number)) (known_faults written.list.from place)
          (λ number. no_fault P (Some number)))

      text_faults : (done : List (List ℕ)) (s : WrittenSpan) → FaultsAre P (with_text text done s)
      unfolding with_text
      text_faults done s =
          let t = inside text s in
          let last : Found (List (List ℕ)) = Ok (done ++ t ∷ []) in
          let own = not (list_any (bytes_eq t) done) in
          let third : Found (List (List ℕ)) = unless own (f.TwiceNamed s.from) >> last in
          let second : Found (List (List ℕ)) = room NamesLimit 65536 (length done) >> third in
          faults_then P (unless (is_listed_text t) (f.WrongShape s.from)) second
          (fault_unless P (is_listed_text t) (f.WrongShape s.from) (plain.shape s.from))
          (faults_then P (room NamesLimit 65536 (length done)) third
          (fault_unless P (nat_lt (length done) 65536) (f.OverLimit NamesLimit 65537) (plain.limit NamesLimit 65537 tt))
          (faults_then P (unless own (f.TwiceNamed s.from)) last (fault_unless P own (f.TwiceNamed s.from) (twice s.from)) (no_fault P (done ++ t ∷ []))))

      cell_line_faults : (x : Drafted) (name : WrittenSpan) (cells : WrittenCells) → FaultsAre P (with_cell text n x name cells)
      unfolding with_cell
      cell_line_faults x name cells =
          faults_then P (unless (cell_name_fits text n name) (f.WrongShape name.from))
          (list_of text n (keys_by cells) >>= λ list. Ok (record x { family_lists = x.family_lists ++ list ∷ [] }))
          (fault_unless P (cell_name_fits text n name) (f.WrongShape name.from) (plain.shape name.from))
          (faults_bind P (list_of text n (keys_by cells)) (λ list. Ok (record x { family_lists = x.family_lists ++ list ∷ [] }))
          (list_faults (keys_by cells)) (λ list. no_fault P (record x { family_lists = x.family_lists ++ list ∷ [] })))

      tag_line_faults : (x : Drafted) (item : Option WrittenItem) → FaultsAre P (with_tag_of text n x item)
      unfolding with_tag_of
      tag_line_faults x item =
          faults_then P (item_word_fits n item) (list_of text n (items_by item) >>= λ list. Ok (record x { kind_lists = x.kind_lists ++ list ∷ [] }))
          (item_faults item)
          (faults_bind P (list_of text n (items_by item)) (λ list. Ok (record x { kind_lists = x.kind_lists ++ list ∷ [] }))
          (list_faults (items_by item)) (λ list. no_fault P (record x { kind_lists = x.kind_lists ++ list ∷ [] })))

      names_line_faults : (x : Drafted) (at : ℕ) (name : WrittenSpan) (texts : List WrittenSpan) → FaultsAre P (with_names text n x at name texts)
      unfolding with_names
      names_line_faults x at name texts =
          faults_then P (unless (is_version_3 n) (f.WrongShape at))
          (texts_of text texts >>= λ named. Ok (record x { lists = x.lists ++ record { name = name_of text name; texts = named } ∷ [] }))
          (fault_unless P (is_version_3 n) (f.WrongShape at) (plain.shape at))
          (faults_bind P (texts_of text texts)
          (λ named. Ok (record x { lists = x.lists ++ record { name = name_of text name; texts = named } ∷ [] }))
          (faults_each P (with_text text) text_faults [] texts)
          (λ named. no_fault P (record x { lists = x.lists ++ record { name = name_of text name; texts = named } ∷ [] })))

      declaration_faults : (x : Drafted) (y : Declaration) → FaultsAre P (with_declaration text n x y)
      unfolding with_declaration
      declaration_faults x (d.Cell name cells sort) = cell_line_faults x name cells
      declaration_faults x (d.Tag name keyed item has_value) = tag_line_faults x item
      declaration_faults x (d.Names at name texts) = names_line_faults x at name texts
      declaration_faults x (d.Depends a b relation) = depend_faults x a b relation
      declaration_faults x (d.On kind actions) = on_faults x kind actions
      declaration_faults x (d.Source name file rate slack tags) = source_faults x name file rate slack tags
      declaration_faults x (d.Clock at name every rate tag) = clock_faults x at name every rate tag

      pub draft_faults : (ds : Declarations) → FaultsAre P (draft_of text n ds)
      draft_faults ds = faults_each P (with_declaration text n) declaration_faults (first_draft n) ds

  -- ---- names

  module _ (text : List ℕ) (twice : (at : ℕ) → P (f.TwiceNamed at)) where
    fresh_faults : (n : Naming) (s : WrittenSpan) → FaultsAre P (fresh_name text n s)
    fresh_faults n s =
        faults_then P (unless (not (is_declared n (name_of text s))) (f.TwiceNamed s.from)) (Ok (name_of text s))
        (fault_unless P (not (is_declared n (name_of text s))) (f.TwiceNamed s.from) (twice s.from)) (no_fault P (name_of text s))

    room_faults : {A : Type 0} (what : What) (most count : ℕ) (x : A) → IsOfWritten what → FaultsAre P (room what most count >> Ok x)
    room_faults what most count x is =
        faults_then P (room what most count) (Ok x) (fault_unless P (nat_lt count most) (f.OverLimit what (most + 1)) (plain.limit what (most + 1) is))
        (no_fault P x)

    declare_faults : (n : Naming) (y : Declaration) → FaultsAre P (declare text n y)
    unfolding declare with_family with_kind with_list with_source
    declare_faults n (d.Cell s cells sort) =
        faults_bind P (fresh_name text n s) (λ name. room Families 64 (length n.families) >> Ok (record n {
          families = n.families ++ (name, record { number = length n.families; keyed = has_keys cells; sort = sort }) ∷ [];
        })) (fresh_faults n s) (λ name. room_faults Families 64 (length n.families) (record n {
          families = n.families ++ (name, record { number = length n.families; keyed = has_keys cells; sort = sort }) ∷ [];
        }) tt)
    declare_faults n (d.Tag s keyed item has_value) =
        faults_bind P (fresh_name text n s) (λ name. room Kinds 64 (length n.kinds) >> Ok (record n {
          kinds = n.kinds ++ (name, record { number = length n.kinds; keyed = keyed; has_item = is_some item; has_value = has_value }) ∷ [];
        })) (fresh_faults n s) (λ name. room_faults Kinds 64 (length n.kinds) (record n {
          kinds = n.kinds ++ (name, record { number = length n.kinds; keyed = keyed; has_item = is_some item; has_value = has_value }) ∷ [];
        }) tt)
    declare_faults n (d.Names at s texts) =
        faults_bind P (fresh_name text n s) (λ name. room Lists 64 (length n.lists) >> Ok (record n { lists = n.lists ++ name ∷ [] }))
        (fresh_faults n s)
        (λ name. room_faults Lists 64 (length n.lists) (record n { lists = n.lists ++ name ∷ [] }) tt)
    declare_faults n (d.Depends a b relation) = room_faults Depends 4096 n.depends (record n { depends = n.depends + 1 }) tt
    declare_faults n (d.On kind actions) = no_fault P n
    declare_faults n (d.Source s file rate slack tags) =
        faults_bind P (fresh_name text n s) (λ name. room Sources 64 (length n.sources) >> Ok (record n { sources = n.sources ++ name ∷ [] }))
        (fresh_faults n s)
        (λ name. room_faults Sources 64 (length n.sources) (record n { sources = n.sources ++ name ∷ [] }) tt)
    declare_faults n (d.Clock at s every rate tag) =
        faults_bind P (fresh_name text n s) (λ name. room Sources 64 (length n.sources) >> Ok (record n { sources = n.sources ++ name ∷ [] }))
        (fresh_faults n s)
        (λ name. room_faults Sources 64 (length n.sources) (record n { sources = n.sources ++ name ∷ [] }) tt)

    version_faults : (o : Option WrittenHead) → FaultsAre P (version_of o)
    version_faults None = no_fault P 1
    version_faults (Some x) = shape_faults (is_version (written_value x.version.value)) x.version.at (written_value x.version.value)

    count_faults : (version : ℕ) (o : Option WrittenTies) → FaultsAre P (ties_counted version o)
    count_faults version None = no_fault P 1
    count_faults version (Some x) =
        let value = written_value x.number.value in
        let within = nat_le 1 value && nat_le value (2 ^ 31) in
        faults_then P (unless (version == 3) (f.WrongShape x.at)) (unless within (f.WrongShape x.number.at) >> Ok value)
        (fault_unless P (version == 3) (f.WrongShape x.at) (plain.shape x.at)) (shape_faults within x.number.at value)

    ties_faults : (version : ℕ) (o : Option WrittenHead) → FaultsAre P (ties_of version o)
    ties_faults version None = no_fault P 1
    ties_faults version (Some x) = count_faults version x.ties

    named_faults : (at : ℕ) (o : Option TimeUnit) → FaultsAre P (found_unit at o)
    named_faults at None = one_fault P (f.WrongShape at) (plain.shape at)
    named_faults at (Some u) = no_fault P (Some u)

    unit_faults : (version : ℕ) (o : Option WrittenUnit) → FaultsAre P (unit_of text version o)
    unit_faults version None = no_fault P None
    unit_faults version (Some x) =
        faults_then P (unless (version == 3) (f.WrongShape x.at)) (found_unit x.name.from (unit_named (name_of text x.name)))
        (fault_unless P (version == 3) (f.WrongShape x.at) (plain.shape x.at)) (named_faults x.name.from (unit_named (name_of text x.name)))

    iso_faults : (version : ℕ) (o : Option WrittenHead) → FaultsAre P (iso_of text version o)
    iso_faults version None = no_fault P None
    iso_faults version (Some x) = unit_faults version x.iso

    pub resolved_faults : (job : WrittenJob) → FaultsAre P (resolved text job)
    unfolding resolved
    resolved_faults job =
        let drafted_in = λ (n : Naming) (version ties : ℕ) (iso : Option TimeUnit). draft_of text (in_version n version) job.declarations >>= λ x.
        let r : Found Job = Ok (job_with ties iso (in_version n version) x) in r in
        let with_unit = λ (n : Naming) (version ties : ℕ). iso_of text version job.head >>= λ iso. drafted_in n version ties iso in
        let with_ties = λ (n : Naming) (version : ℕ). ties_of version job.head >>= λ ties. with_unit n version ties in
        faults_bind P (naming_of text job.declarations) (λ n. version_of job.head >>= λ version. with_ties n version)
        (faults_each P (declare text) declare_faults no_names job.declarations)
        (λ n. faults_bind P (version_of job.head) (λ version. with_ties n version)
        (version_faults job.head)
        (λ version. faults_bind P (ties_of version job.head) (λ ties. with_unit n version ties)
        (ties_faults version job.head)
        (λ ties. faults_bind P (iso_of text version job.head) (λ iso. drafted_in n version ties iso)
        (iso_faults version job.head)
        (λ iso. faults_bind P (draft_of text (in_version n version) job.declarations) (λ x. Ok (job_with ties iso (in_version n version) x))
        (draft_faults text (in_version n version) twice job.declarations)
        (λ x. no_fault P (job_with ties iso (in_version n version) x))))))
