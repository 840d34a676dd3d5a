use Rattle.flow_space.proofs.Graphs.{all_stand, nodes_forgotten}
use Rattle.flow_space.proofs.whole.flow_of.Goals as goal

pub returns-clause-nodes : goal.returns-clause-nodes
returns-clause-nodes c = all_stand c.args.resolved.now (record { graphs = c.in_ok-graphs.graphs }) c.in_ok-graphs.ensures.all c.in_ok-graphs.ensures.stand

pub returns-clause-stand : goal.returns-clause-stand
returns-clause-stand c =
    nodes_forgotten c.args.resolved.now (record { graphs = c.in_ok-graphs.graphs })
    (all_stand c.args.resolved.now (record { graphs = c.in_ok-graphs.graphs }) c.in_ok-graphs.ensures.all c.in_ok-graphs.ensures.stand)
