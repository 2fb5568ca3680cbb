use Rattle.std.proofs.Common.{◌≡◌, ◌∙◌, ◌++◌, ◌∷◌, [], None, Some, get_or, subst, refl, sym, rules, arith}
use Rattle.flu_model.specs.declared.jobs.Kind.{Kind}
use Rattle.flu_model.specs.Numberings.{list_at}
use Rattle.flu_rows.proofs.ItemNames.{with_list, without_list}
use Rattle.flu_rows.proofs.item_lists.named_kinds.Goals as goal
use Rattle.flu_rows.proofs.item_lists.named_kinds.Goals.{in-Some+in_ok-from_str+in_ok-share+in_ok-push, in_default}

pub loop-kind-preserved : goal.loop-kind-preserved
loop-kind-preserved c =
    let lists = c.args.lists.now in
    let kinds = c.args.kinds.now in
    let i = c.loop-kind.kind-index in
    let kind = c.kind-item.result in
    let is = c.kind-item.is in
    let so_far = c.loop-kind.invariant.so_far in
    elim c.match-list_at.branch [
      | in-Some+in_ok-from_str+in_ok-share+in_ok-push w ↦
          let list = w.in-Some.list.now in
          let at : list_at lists kind.list ≡ Some list = search rules in
          let here : list_at lists (get_or kinds i kind).list ≡ Some list = subst (λ (k : Kind). list_at lists k.list ≡ Some list) is at in
          let name : w.of-name.result ≡ kind.name = search rules in
          let shared : w.in_ok-share.field-0 ≡ list = search rules in
          let pushed : c.match-list_at.named.items ≡ c.loop-kind.named.items ++ (w.of-name.result, w.in_ok-share.field-0) ∷ [] = search rules in
          let more = with_list lists kinds i kind list (omega arith) here in
          record { so_far = pushed ∙ rw (so_far, name, shared, more, ← is) refl }
      | in_default w ↦
          let at : list_at lists kind.list ≡ None = search rules in
          let here : list_at lists (get_or kinds i kind).list ≡ None = subst (λ (k : Kind). list_at lists k.list ≡ None) is at in
          record { so_far = rw w.named-is (so_far ∙ sym (without_list lists kinds i kind (omega arith) here)) }
    ]
