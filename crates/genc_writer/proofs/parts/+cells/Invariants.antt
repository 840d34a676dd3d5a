use Rattle.std.proofs.Common.{◌≡◌, ◌+◌, ◌*◌, ◌++◌, take, map}
use Rattle.std.specs.Prelude.{sum_by}
use Rattle.std.specs.List.{flat_map}
use Rattle.csub_tree.specs.Spelling.{more, cell_text}
use Rattle.genc_writer.specs.Cells.{cell_nodes}
use Rattle.genc_writer.proofs.parts.+cells.Given as goal

abbrev pub invariant-put_more_cells-loop-cell : goal.invariant-put_more_cells-loop-cell
invariant-put_more_cells-loop-cell l = l.text ≡ l.initial.text ++ flat_map (more (λ text. text)) (map cell_text (take l.cell-index l.cells))

-- Each call has fewer nodes, or as many and a lower rank.
abbrev pub decreases-put_cell : goal.decreases-put_cell
decreases-put_cell l = 5 * cell_nodes l.cell.now

abbrev pub decreases-put_more_cell : goal.decreases-put_more_cell
decreases-put_more_cell l = 5 * cell_nodes l.cell.now + 1

abbrev pub decreases-put_more_cells : goal.decreases-put_more_cells
decreases-put_more_cells l = 5 * sum_by cell_nodes l.cells.now + 2

abbrev pub decreases-put_cells : goal.decreases-put_cells
decreases-put_cells l = 5 * sum_by cell_nodes l.cells.now + 4

abbrev pub decreases-put_listed_cells : goal.decreases-put_listed_cells
decreases-put_listed_cells l = 5 * sum_by cell_nodes l.cells.now + 3
