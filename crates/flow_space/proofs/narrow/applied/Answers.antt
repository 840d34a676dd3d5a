use Rattle.std.proofs.Common.{sym, arith}
use Rattle.flow_space.proofs.Items.{one_item, two_items}
use Rattle.flow_space.proofs.Narrows.{beyond_one, below_two, beyond_two}
use Rattle.flow_space.proofs.narrow.applied.Goals as goal

pub returns-in-len1 : goal.returns-in-len1
returns-in-len1 c =
    let e = one_item c.args.es.now c.a-item.result (omega arith) (omega arith) c.a-item.is in
    λ sites. rw (c.in-IsInstance.is, e) (c.instance_test.ensures sites)

pub returns-in_default-es-3 : goal.returns-in_default-es-3
returns-in_default-es-3 c = λ sites. rw c.in-IsInstance.is (sym (beyond_one sites c.in-IsInstance.class c.args.es.now c.args.truth c.in_default-es.len_at_least))

pub returns-in-len2 : goal.returns-in-len2
returns-in-len2 c =
    let e = two_items c.args.es.now c.a-item-then-es-lt3.result c.b-item.result (omega arith) (omega arith) c.a-item-then-es-lt3.is c.b-item.is in
    λ sites. rw (c.in-Compare.is, e) (c.compared.ensures sites)

pub returns-in_default-es-2 : goal.returns-in_default-es-2
returns-in_default-es-2 c = λ sites. rw c.in-Compare.is (sym (below_two sites c.in-Compare.op c.args.es.now c.args.truth c.in_default-es-2.len_below))

pub returns-in_default-es-2-2 : goal.returns-in_default-es-2-2
returns-in_default-es-2-2 c = λ sites. rw c.in-Compare.is (sym (beyond_two sites c.in-Compare.op c.args.es.now c.args.truth c.in_default-es-2.len_at_least))
