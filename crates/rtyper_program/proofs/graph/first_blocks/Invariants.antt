use Rattle.std.proofs.Common.{◌≡◌, [], drop}
use Rattle.rtyper_data.specs.Seen.{writing}
use Rattle.rtyper_program.specs.Graphs.{blocks_from}
use Rattle.rtyper_program.specs.Handlers.{work}
use Rattle.rtyper_program.specs.Seen.{the_lowered}
use Rattle.rtyper_program.proofs.graph.first_blocks.Given as goal

abbrev pub invariant-loop-block : goal.invariant-loop-block
invariant-loop-block l = record {
  counted : l.i ≡ l.block-index;
  rest :
      blocks_from (the_lowered l.lowered) l.block-index (drop l.block-index l.blocks) (l.made, work (writing l.found l.body) l.extra)
      ≡ blocks_from (the_lowered l.lowered) 0 l.blocks ([], work (writing l.initial.found l.initial.body) l.initial.extra);
}
