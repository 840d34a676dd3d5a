use Rattle.std.proofs.Common.{refl, sym, ap, ◌∙◌}
use Rattle.flow_space.specs.Placed.{WayAt, branch_of, jump_of, told_of}
use Rattle.flow_space.proofs.Parts.{ok_map, part_map, part_none}
use Rattle.flow_space.proofs.expression.put_branch.Goals as goal

pub returns-in-Some : goal.returns-in-Some
returns-in-Some c =
    ok_map c.put_narrowing.result (λ jump. part_map (λ r gs f lo hi h. rw (sym (c.narrowed.ensures r.sites) ∙ ap told_of c.in-Some.is, c.if-branch.false) h) (λ r x g w k. k)) c.put_narrowing.ensures

pub returns-then-branch : goal.returns-then-branch
returns-then-branch c = ok_map c.jump_and.result (λ jump e. part_none {P = WayAt c.args.scope.now c.args.node c.args.e.now c.args.truth c.args.m c.args.value (branch_of c.args.branch) (jump_of jump)} _ (λ r gs f lo. rw c.if-branch.true (ap jump_of e, refl))) c.jump_and.ensures

pub returns-in-None : goal.returns-in-None
returns-in-None c = ok_map c.jump_first.result (λ jump e. part_none {P = WayAt c.args.scope.now c.args.node c.args.e.now c.args.truth c.args.m c.args.value (branch_of c.args.branch) (jump_of jump)} _ (λ r gs f lo. rw (sym (c.narrowed.ensures r.sites) ∙ ap told_of c.in-None.is, c.if-branch.false) (ap jump_of e, refl))) c.jump_first.ensures
