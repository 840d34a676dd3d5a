use Rattle.std.proofs.Common.{refl, length, rules}
use Rattle.std.proofs.lemmas.Option.{slice_get_read}
use Rattle.flow_space.proofs.Counted.{counted}
use Rattle.flow_space.proofs.Graphs.{graphs_none, graphs_push}
use Rattle.flow_space.proofs.whole.graphs_of.Goals as goal

pub loop-function-init : goal.loop-function-init
loop-function-init c = (search rules, search rules, graphs_none c.args.resolved.now c.args.resolved.now.functions _ c.new-graphs.ensures)

pub loop-function-preserved : goal.loop-function-preserved
loop-function-preserved c =
    let k = counted _ _ _ _ c.loop-function.invariant.0 c.loop-function.invariant.1 c.in_ok-graph.ensures.number c.in_ok-push.ensures.ok in
    let item = slice_get_read c.args.resolved.now.functions (length c.args.resolved.now.functions) c.loop-function.function-index c.function-item.result refl (search rules) (search rules) in
    (k.0, k.1, graphs_push c.args.resolved.now c.args.resolved.now.functions c.loop-function.graphs _ c.function-item.result c.in_ok-graph.graph c.loop-function.function-index c.loop-function.invariant.1 item c.in_ok-graph.ensures.stands c.in_ok-push.ensures.ok c.loop-function.invariant.2)
