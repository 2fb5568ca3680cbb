-- What begins as no reserved word does is none.
use Rattle.std.proofs.Common.{◌≡◌, ℕ, true, false, List, [], ◌∷◌, refl, sym, ◌∙◌, inl, inr}
use Rattle.std.specs.List.{list_any}
use Rattle.std.specs.Str.{bytes_eq}
use Rattle.std.proofs.lemmas.Bool.{cases_Bool}
use Rattle.std.proofs.lemmas.Slice.Eq.{bytes_eq-Decides}
use Rattle.flu_names.specs.declared.reserved.Reserved.{Reserved}
use Rattle.flu_names.specs.declared.reserved.Reserved.TheVariants as r
use Rattle.flu_names.specs.Names.{reserved_spelling, reserved_words, is_reserved}
use Rattle.flu_names.specs.LoopReserved.{may_be_reserved}

word_may : (word : Reserved) → may_be_reserved (reserved_spelling word) ≡ true
word_may r.Cell = refl
word_may r.Tag = refl
word_may r.Depends = refl
word_may r.On = refl
word_may r.Source = refl
word_may r.Keyed = refl
word_may r.Sum = refl
word_may r.Max = refl
word_may r.Last = refl
word_may r.Int = refl
word_may r.None = refl
word_may r.Same = refl
word_may r.All = refl
word_may r.Rate = refl
word_may r.Add = refl
word_may r.Raise = refl
word_may r.Set = refl
word_may r.Clear = refl
word_may r.Emit = refl
word_may r.Flush = refl
word_may r.When = refl
word_may r.Value = refl
word_may r.Key = refl
word_may r.Time = refl
word_may r.Has = refl
word_may r.And = refl
word_may r.Or = refl
word_may r.Not = refl
word_may r.Beat = refl
word_may r.End = refl
word_may r.Node = refl
word_may r.Version = refl
word_may r.Slack = refl

no_true : true ≡ false → ⊥
no_true e = cc

no_word : (word : Reserved) (bytes : List ℕ) → may_be_reserved bytes ≡ false → bytes_eq (reserved_spelling word) bytes ≡ false
no_word word bytes none =
    elim (cases_Bool (bytes_eq (reserved_spelling word) bytes)) [
      | inl hit ↦
          let same : reserved_spelling word ≡ bytes = (bytes_eq-Decides (reserved_spelling word) bytes).0 hit in
          absurd (no_true (sym (rw same at (word_may word)) ∙ none))
      | inr miss ↦ miss
    ]

none_of : (words : List Reserved) (bytes : List ℕ) → may_be_reserved bytes ≡ false → list_any (λ word. bytes_eq (reserved_spelling word) bytes) words ≡ false
none_of [] bytes none = refl
none_of (word ∷ words) bytes none = rw (no_word word bytes none) (none_of words bytes none)

pub not_reserved : (bytes : List ℕ) → may_be_reserved bytes ≡ false → is_reserved bytes ≡ false
not_reserved bytes none = none_of reserved_words bytes none
