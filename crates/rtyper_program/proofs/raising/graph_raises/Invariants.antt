use Rattle.std.proofs.Common.{◌≡◌, drop}
use Rattle.rtyper_program.specs.Raises.{blocks_raise}
use Rattle.rtyper_program.proofs.raising.graph_raises.Given as goal

abbrev pub invariant-loop-block : goal.invariant-loop-block
invariant-loop-block l = record {
  counted : l.i ≡ l.block-index;
  rest : blocks_raise l.annotation l.number l.graph l.block-index (drop l.block-index l.graph.blocks) ≡ blocks_raise l.annotation l.number l.graph 0 l.graph.blocks;
}
