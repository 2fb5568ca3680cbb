use Rattle.std.proofs.Common.{◌≡◌, ℕ, ◌<◌, ◌≤◌, ◌^◌, List, length, Some, ap, refl, sym, subst, ◌∙◌, Result, Ok, Err}
use Rattle.std.specs.Prelude.{IfOk}
use Rattle.std.proofs.lemmas.Result.{IfOk-weaker}
use Rattle.serde_json.specs.Data.{Data, depth}
use Rattle.serde_json.specs.Read.{max_depth}
use Rattle.serde_json.specs.Written.{has_float, compact_text}
use Rattle.flu_cells.specs.Holding.{held}
use Rattle.flu_model.specs.declared.jobs.Program.{Program}
use Rattle.flu_model.specs.Contents.{Contents}
use Rattle.flu_model.specs.Sorts.{IsStateOf}
use Rattle.flu_save.specs.Checkpoint.{checkpoint, save, IsSavable}
use Rattle.flu_save.specs.Forms.{IsJsonOf, IsSave, most_bytes}
use Rattle.flu_save.proofs.Lengths.{law_of_short_texts}
use Rattle.flu_save.proofs.States.{savable_by_cells}
use Rattle.flu_save.proofs.Values.{without_float, few_levels}
use Rattle.flu_save.proofs.saving.save_text.Goals as goal

both : {T E : Type 0} (r : Result T E) (P Q : T → Type 0) → IfOk r P → IfOk r Q → IfOk r (λ x. P x × Q x)
both (Ok x) P Q a b = (a, b)
both (Err e) P Q a b = tt

is_save : (p : Program) (t : ℕ) (s : Contents) (bytes : List ℕ) → t < 2 ^ 63 → IsSavable p.families s → IsJsonOf bytes (checkpoint p t s)
    → length bytes ≤ most_bytes → IsSave p t s bytes
is_save p t s bytes border savable json short =
    record { short = short; value = checkpoint p t s; json = json; checkpoint = record { border = border; state = savable; value = refl } }

pub returns : goal.returns
returns c =
    let p = c.args.p.now in
    let t = c.args.border in
    let s = held c.args.s.now in
    let is = c.in_ok-value.ensures.value in
    let plain = ap has_float is ∙ without_float p t s in
    let shallow = subst (λ (x : Data). depth x ≤ max_depth) (sym is) (few_levels p t s) in
    let json = IfOk-weaker c.to_vec.result _ (λ b. IsJsonOf b.items (checkpoint p t s)) (λ b h. (h.0, h.1 shallow ∙ ap Some is))
    (both c.to_vec.result _ _ c.to_vec.ensures.utf8 c.to_vec.ensures.reads_back) in
    let text = IfOk-weaker c.to_vec.result _ (λ b. b.items ≡ save p t s) (λ b h. h plain ∙ ap compact_text is) c.to_vec.ensures.text in
    let savable : IsStateOf p.families s → IsSavable p.families s = λ sorts. savable_by_cells p.families s sorts c.in_ok-value.ensures.width in
    record {
      text = text;
      value = json;
      read_again = IfOk-weaker c.to_vec.result _ _ (λ b h sorts short. is_save p t s b.items c.requires (savable sorts) h short) json;
      saved = IfOk-weaker c.to_vec.result _ _ (λ b h sorts few.
          is_save p t s b.items c.requires (savable sorts) h.1
          (subst (λ (bytes : List ℕ). length bytes ≤ most_bytes) (sym h.0) (law_of_short_texts p t s c.requires (savable sorts) few)))
          (both c.to_vec.result _ _ text json);
    }
