use Rattle.flow_space.proofs.Parts.{ok_both, ok_map}
use Rattle.flow_space.proofs.whole.flow.Goals as goal

pub returns-clause-stand : goal.returns-clause-stand
returns-clause-stand c =
    ok_map c.flow_of.result
    (λ gs h. record { resolved = c.in_ok-resolved.resolved; count = c.in_ok-resolved.ensures.count; meant = c.in_ok-resolved.ensures.meant; made = c.in_ok-resolved.ensures.made; nodes = h.0; stand = h.1 })
    (ok_both _ _ c.flow_of.result c.flow_of.ensures.nodes c.flow_of.ensures.stand)
