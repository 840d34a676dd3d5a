use Rattle.flow_stands.specs.Places.{Does, first_and, hand_jumps}
use Rattle.flow_space.specs.Placed.{jump_of, scope_of}
use Rattle.flow_space.proofs.Parts.{ok_put, part_marked}
use Rattle.flow_space.proofs.code.Code.put_op.Goals as goal

pub returns : goal.returns
returns c =
    ok_put c.put.result _ _ _ c.put.ensures.at c.put.ensures.put (λ b at e.
    part_marked _ _ c.args.self.now.next c.args.of.node c.args.of.value b c.args.m
    (Does c.args.of.op c.args.args c.args.scope.now.covers (hand_jumps c.args.m (scope_of c.args.scope.now).hands) (first_and c.args.scope.now.default.to c.args.scope.now.default.keep c.args.m) (jump_of c.args.norm))
    at (rw (c.in_ok-inputs.ensures, c.in_ok-ops_of.ensures, c.as_slice.ensures, c.in_ok-variable.ensures, c.in_ok-hand_links.ensures, c.as_slice-2.ensures, c.in_ok-default_link.ensures, c.in_ok-link.ensures) at e))
