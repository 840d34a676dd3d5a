use Rattle.std.proofs.Common.{false}
use Rattle.flow_stands.specs.Places.{Fork}
use Rattle.flow_space.specs.Placed.{jump_of}
use Rattle.flow_space.proofs.Parts.{ok_put, part_push}
use Rattle.flow_space.proofs.code.Code.put_fork.Goals as goal

pub returns : goal.returns
returns c =
    ok_put c.put.result _ _ _ c.put.ensures.at c.put.ensures.put (λ b at e.
    part_push _ _ c.args.self.now.next 0 false b c.args.m (Fork c.args.test (jump_of c.args.yes) (jump_of c.args.no)) (λ x g w h. h) at (rw (c.in_ok-inputs.ensures, c.new.ensures, c.in_ok-variable.ensures, c.in_ok-link.ensures, c.in_ok-link-2.ensures) at e))
