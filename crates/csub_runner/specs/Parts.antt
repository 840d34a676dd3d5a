-- The cells of a static, taken apart.
use Rattle.std.specs.Prelude.{◌≡◌, ℕ, ◌+◌, [], ◌∷◌, map, sum, sum_by}
use Rattle.csub_tree.specs.Layout.{cell_constants, joined}
use Rattle.csub_tree.specs.declared.tree.CCell.{CCell, fold-CCell}
use Rattle.csub_tree.specs.declared.tree.CCell.TheOpen.{CCell-F}
use Rattle.csub_runner.specs.declared.start.Part.{Part}
use Rattle.csub_runner.specs.declared.start.Part.TheVariants.{Value, Parts}

abbrev pub weight_step : CCell-F ℕ → ℕ
weight_step (CCell-F.Const c) = 1
weight_step (CCell-F.Braces parts) = sum parts + 2

-- how much there is to read of a cell
abbrev pub weight : CCell → ℕ
weight = fold-CCell ℕ weight_step

abbrev pub IsPart : Part → CCell → Type 0
IsPart (Value c) cell = (cell_constants cell ≡ c ∷ []) × (weight cell ≡ 1)
IsPart (Parts parts) cell = (cell_constants cell ≡ joined (map cell_constants parts.now)) × (weight cell ≡ sum_by weight parts.now + 2)
