use Rattle.std.proofs.Common.{◌≡◌, take, map}
use Rattle.std.specs.List.{All}
use Rattle.csub_tree.specs.Layout.{static_block}
use Rattle.csub_runner.specs.Erased.{erase_cells}
use Rattle.csub_runner.specs.Heap.{CellsOk}
use Rattle.csub_runner.specs.declared.heap.Heap.{Heap}
use Rattle.csub_runner.proofs.start.static_blocks.Given as goal

abbrev pub invariant-loop-block : goal.invariant-loop-block
invariant-loop-block l = record {
  ok : (h : Heap) → All (CellsOk h) l.blocks.items;
  are : map erase_cells l.blocks.items ≡ map (static_block l.shapes.items) (take l.block-index l.statics);
}
