use Rattle.flow_stands.specs.Places.{Plain}
use Rattle.flow_space.specs.Placed.{jump_of}
use Rattle.flow_space.proofs.Parts.{ok_put, part_marked}
use Rattle.flow_space.proofs.code.Code.put_plain.Goals as goal

pub returns-clause-put : goal.returns-clause-put
returns-clause-put c =
    ok_put c.put.result _ _ _ c.put.ensures.at c.put.ensures.put (λ b at e.
    part_marked _ _ c.args.self.now.next c.args.of.node c.args.of.value b c.args.m (Plain c.args.of.op (jump_of c.args.norm)) at (rw (c.in_ok-inputs.ensures, c.in_ok-ops_of.ensures, c.as_slice.ensures, c.new-none.ensures, c.no_covers.ensures, c.in_ok-link.ensures) at e))
