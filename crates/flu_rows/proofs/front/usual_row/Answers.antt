use Rattle.std.proofs.Common.{◌≡◌, None, Some, get_or, rules, arith}
use Rattle.flu_rows.specs.ItemNames.{items_named}
use Rattle.flu_rows.specs.Row.{list_of_kind}
use Rattle.flu_rows.proofs.UsualRows.{usual_two, usual_three, usual_four, usual_named}
use Rattle.flu_rows.proofs.front.usual_row.Goals as goal

pub returns-in_default-rest-clause-value : goal.returns-in_default-rest-clause-value
returns-in_default-rest-clause-value c =
    let time = c.in_ok-time in
    let tag = c.in_ok-name in
    let comma : get_or time.rest.now 0 0 ≡ 44 = search rules in
    usual_two c.args.form.now c.args.bytes.now time.time time.rest.now tag.name tag.key tag.rest.now c.in_ok-size.size time.ensures.value (omega arith) comma
    tag.ensures.value c.in_ok-size.ensures

pub returns-in-Some-clause-value : goal.returns-in-Some-clause-value
returns-in-Some-clause-value c =
    let time = c.in_ok-time in
    let tag = c.in_ok-name in
    let list = c.in-Some.list.now in
    let comma : get_or time.rest.now 0 0 ≡ 44 = search rules in
    let second : get_or tag.rest.now 0 0 ≡ 44 = search rules in
    let by : list_of_kind c.args.form.now tag.name ≡ Some list = search rules in
    usual_named c.args.form.now list c.args.bytes.now time.time time.rest.now tag.name tag.key tag.rest.now c.in_ok-fields.rest.now c.in_ok-fields.fields
    c.in_ok-size-2.size time.ensures.value (omega arith) comma tag.ensures.value (omega arith) second by c.in_ok-fields.ensures.value c.in_ok-size-2.ensures

pub returns-in_default-rest-2-clause-value : goal.returns-in_default-rest-2-clause-value
returns-in_default-rest-2-clause-value c =
    let time = c.in_ok-time in
    let tag = c.in_ok-name in
    let third = c.in_ok-third in
    let comma : get_or time.rest.now 0 0 ≡ 44 = search rules in
    let second : get_or tag.rest.now 0 0 ≡ 44 = search rules in
    let alone = rw c.as_bytes-in_default-rest-2.ensures at c.number_alone-fields.ensures in
    usual_three c.args.form.now c.args.bytes.now time.time time.rest.now tag.name tag.key tag.rest.now third.third.item third.third.value third.rest.now
    c.number_alone-fields.result c.in_ok-size-3.size time.ensures.value (omega arith) comma tag.ensures.value (omega arith) second third.ensures
    alone c.in_ok-size-3.ensures

pub returns-clause-value : goal.returns-clause-value
returns-clause-value c =
    let time = c.in_ok-time in
    let tag = c.in_ok-name in
    let third = c.in_ok-third in
    let fourth = c.in_ok-fourth in
    let comma : get_or time.rest.now 0 0 ≡ 44 = search rules in
    let second : get_or tag.rest.now 0 0 ≡ 44 = search rules in
    let last : get_or third.rest.now 0 0 ≡ 44 = search rules in
    let none : items_named c.in-WithItems.field-1 tag.name ≡ None = search rules in
    let time_cut = rw c.in-WithItems.is at time.ensures.value in
    rw (c.in-WithItems.is, c.item_and_number.ensures)
    (usual_four c.in-WithItems.field-0 c.in-WithItems.field-1 c.args.bytes.now time.time time.rest.now tag.name tag.key tag.rest.now third.third.item third.third.value third.rest.now
    c.in_ok-item.item fourth.fourth.item fourth.fourth.value fourth.rest.now c.in_ok-size-4.size time_cut (omega arith) comma
    tag.ensures.value (omega arith) second none third.ensures c.in_ok-item.was (omega arith) last fourth.ensures c.in_ok-size-4.ensures)
