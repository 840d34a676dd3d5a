-- What holds of the table of operations.
use Rattle.std.specs.Prelude.{◌≡◌, ◌≤◌, ℕ, false, List, [], ◌∷◌, length}
use Rattle.rpy_tree.specs.declared.program.ClassInfo.{ClassInfo}
use Rattle.rpy_meaning.specs.declared.row.RowOp.{RowOp}
use Rattle.class_desc.specs.Tables.{Tables}
use Rattle.ann_lattice.specs.Shape.{Shape}
use Rattle.ann_lattice.specs.Order.{Below}
use Rattle.ann_lattice.specs.Join.{is_clash}
use Rattle.ann_lattice.specs.Laws.{IsTree, IsFormed}
use Rattle.ann_lattice.specs.Assign.{Under}
use Rattle.ann_lattice.specs.Row.{pieces}

-- the classes are a tree, and each has a number below 2 ^ 32
pub record HasClasses (t : Tables) : Type 0 where
  pub tree : IsTree t.classes
  pub few : length t.classes ≤ 4294967296

-- operands, each below the well-formed one at its place
abbrev pub Operands : List ClassInfo → List ℕ → List Shape → List Shape → Type 0
Operands k same [] [] = Unit {0}
Operands k same [] (y ∷ ys) = ⊥
Operands k same (x ∷ xs) [] = ⊥
Operands k same (x ∷ xs) (y ∷ ys) = (Below k same x y × IsFormed y) × Operands k same xs ys

-- what is free of conflict and above all that the operation asks for larger operands is above all that it asks for smaller ones
abbrev pub AreMonotone : Tables → List ℕ → Type 0
AreMonotone t same = (op : RowOp) (xs ys : List Shape) (p q z : Shape) → Operands t.classes same xs ys → Below t.classes same p q → is_clash z ≡ false
    → Under t.classes same (pieces t op ys q) z → Under t.classes same (pieces t op xs p) z
