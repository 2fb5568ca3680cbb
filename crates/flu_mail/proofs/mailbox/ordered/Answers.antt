use Rattle.std.proofs.Common.{◌≡◌, ℕ, List, [], ◌∷◌, length, sym, ap, subst, ◌∙◌, arith}
use Rattle.std.specs.Prelude.{slice_get}
use Rattle.std.proofs.lemmas.List.{length-append}
use Rattle.std.proofs.lemmas.Result.{IfOk-weaker}
use Rattle.flu_lemmas.proofs.Elements.{each_push}
use Rattle.flu_mail.specs.declared.keys.Key.{Key}
use Rattle.flu_mail.specs.Entries.{AreKeysOf, is_of}
use Rattle.flu_mail.proofs.KeyLemmas.{KeyIs, key_told, keys_told}
use Rattle.flu_mail.proofs.mailbox.ordered.Goals as goal

pub loop-i-preserved : goal.loop-i-preserved
loop-i-preserved c =
    let asked = is_of c.args.owner in
    let entries = c.args.entries.now in
    let old = c.loop-i.invariant in
    let xs = c.loop-i.keys.items in
    let key = c.key_among.result in
    let items = c.in_ok-push.ensures.items in
    record {
      size = let sizes = ap length items in let more = length-append xs (key ∷ []) in let had = old.size in omega arith;
      told = λ j q found.
          each_push (KeyIs asked entries) xs key old.told
          (subst (λ (k : ℕ). KeyIs asked entries k key) (sym old.size) (λ e is. key_told asked entries c.loop-i.i _ e key c.key_among.ensures is))
          j q (ap (λ (ys : List Key). slice_get ys j) (sym items) ∙ found);
    }

pub returns : goal.returns
returns c =
    let asked = is_of c.args.owner in
    let size = c.loop-i.invariant.size in
    let all = c.requires in
    IfOk-weaker c.new.result (λ order. order ≡ c.as_slice.result.now) (AreKeysOf asked c.args.entries.now)
    (λ order is.
    subst (AreKeysOf asked c.args.entries.now) (sym (is ∙ c.as_slice.ensures.value))
    (keys_told asked c.args.entries.now c.loop-i.keys.items (omega arith) c.loop-i.invariant.told))
    c.new.ensures
