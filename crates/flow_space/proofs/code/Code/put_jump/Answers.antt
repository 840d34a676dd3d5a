use Rattle.std.proofs.Common.{false}
use Rattle.flow_stands.specs.Places.{Go}
use Rattle.flow_space.specs.Placed.{jump_of}
use Rattle.flow_space.proofs.Parts.{ok_put, part_push}
use Rattle.flow_space.proofs.code.Code.put_jump.Goals as goal

pub returns-clause-put : goal.returns-clause-put
returns-clause-put c =
    ok_put c.put.result _ _ _ c.put.ensures.at c.put.ensures.put (λ b at e.
    part_push _ _ c.args.self.now.next 0 false b c.args.m (Go (jump_of c.args.jump)) (λ x g w h. h) at (rw (c.in_ok-inputs.ensures, c.new.ensures, c.in_ok-link.ensures) at e))
