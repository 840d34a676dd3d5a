use Rattle.std.proofs.Common.{sym, ◌∙◌}
use Rattle.resolver_names.proofs.Counting.{checked_counts}
use Rattle.resolver_names.proofs.Making.{ok_map, checked_made}
use Rattle.resolver_names.proofs.shape.checked.Goals as goal

pub returns-in-Apply-clause-tree : goal.returns-in-Apply-clause-tree
returns-in-Apply-clause-tree c =
    let k = sym c.checked_op.ensures ∙ c.in-Some.is in
    ok_map c.one_of.result (λ new h. checked_made c.args.names.now.program.now.sites c.args.e new c.args.node c.in-Apply.inner c.in-Apply.value c.in-Apply.op c.in-Some.op c.in-Apply.parts c.in-Apply.is k h) c.one_of.ensures

pub returns-in-Apply-clause-nodes : goal.returns-in-Apply-clause-nodes
returns-in-Apply-clause-nodes c =
    let k = sym c.checked_op.ensures ∙ c.in-Some.is in
    ok_map c.one_of.result (λ new h n. checked_counts n c.args.node c.in-Apply.inner c.in-Apply.value c.in-Apply.op c.in-Some.op c.in-Apply.parts c.args.e new c.in-Apply.is k h) c.one_of.ensures
