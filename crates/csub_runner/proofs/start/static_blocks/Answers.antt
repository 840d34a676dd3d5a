use Rattle.std.proofs.Common.{◌++◌, ◌∷◌, []}
use Rattle.std.proofs.lemmas.List.Elements.{All-same, All-push}
use Rattle.csub_tree.specs.Layout.{static_block}
use Rattle.csub_runner.specs.Erased.{erase_cells}
use Rattle.csub_runner.specs.Heap.{CellsOk}
use Rattle.csub_runner.proofs.Cells.{more_statics}
use Rattle.csub_runner.proofs.start.static_blocks.Goals as goal

pub loop-block-preserved : goal.loop-block-preserved
loop-block-preserved c = record {
  ok = λ h. All-same (CellsOk h) c.push.new.self.items (c.loop-block.blocks.items ++ c.in_ok-cells.cells ∷ []) c.in_ok-push.ensures.items (All-push (CellsOk h) c.loop-block.blocks.items c.in_ok-cells.cells (c.loop-block.invariant.ok h) (c.in_ok-cells.ensures.ok h));
  are = more_statics erase_cells (static_block c.args.shapes.now.items) c.loop-block.blocks.items c.push.new.self.items c.args.statics.now c.loop-block.block-index c.in_ok-cells.cells c.block-item.result
      c.in_ok-push.ensures.items c.in_ok-cells.ensures.is c.loop-block-test.true c.block-item.is c.loop-block.invariant.are;
}
