-- How many nodes the cells of a static have.
use Rattle.std.specs.Prelude.{ℕ, ◌+◌, sum}
use Rattle.csub_tree.specs.declared.tree.CCell.{CCell, fold-CCell}
use Rattle.csub_tree.specs.declared.tree.CCell.TheOpen.{CCell-F}

abbrev pub node_step : CCell-F ℕ → ℕ
node_step (CCell-F.Const c) = 1
node_step (CCell-F.Braces cells) = sum cells + 1

abbrev pub cell_nodes : CCell → ℕ
cell_nodes = fold-CCell ℕ node_step
