use Rattle.std.proofs.Common.{false, add-zero}
use Rattle.flow_stands.specs.Places.{GiveUp}
use Rattle.flow_space.proofs.Parts.{ok_put, part_push}
use Rattle.flow_space.proofs.code.Code.put_raise.Goals as goal

pub returns-clause-put : goal.returns-clause-put
returns-clause-put c =
    ok_put c.put.result _ _ _ c.put.ensures.at c.put.ensures.put (λ b at e.
    part_push _ _ c.args.self.now.next 0 false b 1 GiveUp (λ x g w h. h) at (rw (add-zero c.args.self.now.next) (rw (c.in_ok-inputs.ensures, c.new.ensures, add-zero c.args.self.now.next) at e)))
