use Rattle.std.proofs.Common.{◌≡◌, ◌++◌, drop, map}
use Rattle.ll_helpers.specs.Helpers.{helper_graph}
use Rattle.ll_helpers.proofs.whole.need_graphs.Given as goal

abbrev pub invariant-loop-need : goal.invariant-loop-need
invariant-loop-need l = l.made ++ map (helper_graph l.numbers) (drop l.need-index l.needs) ≡ map (helper_graph l.numbers) l.needs
