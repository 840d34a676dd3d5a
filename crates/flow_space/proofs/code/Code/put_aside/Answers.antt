use Rattle.std.proofs.Common.{[]}
use Rattle.flow_stands.specs.Places.{Does}
use Rattle.flow_space.specs.Placed.{jump_of}
use Rattle.flow_space.proofs.Parts.{ok_put, part_marked}
use Rattle.flow_space.proofs.code.Code.put_aside.Goals as goal

pub returns : goal.returns
returns c =
    ok_put c.put.result _ _ _ c.put.ensures.at c.put.ensures.put (λ b at e.
    part_marked _ _ c.args.self.now.next c.args.of.node c.args.of.value b c.args.m
    (Does c.args.of.op c.args.args c.args.covers [] (jump_of c.args.default) (jump_of c.args.norm))
    at (rw (c.in_ok-inputs.ensures, c.in_ok-ops_of.ensures, c.as_slice.ensures, c.in_ok-variable.ensures, c.new.ensures, c.in_ok-link.ensures, c.in_ok-link-2.ensures) at e))
