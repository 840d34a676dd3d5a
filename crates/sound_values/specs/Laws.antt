-- What holds of the values of elements.
use Rattle.std.specs.Prelude.{ℕ, List}
use Rattle.rpy_tree.specs.declared.program.ClassInfo.{ClassInfo}
use Rattle.rpy_tree.specs.Value.{Value}
use Rattle.ann_lattice.specs.Shape.{Shape}
use Rattle.ann_lattice.specs.Shape as shape
use Rattle.ann_lattice.specs.Order.{Below}
use Rattle.ann_lattice.specs.Laws.{IsTree}
use Rattle.sound_values.specs.Values.{Sort, Is, Keeps}

-- a value of an element is of each that is above it
abbrev pub ValuesAreOfLarger : Type 0
ValuesAreOfLarger = (classes : List ClassInfo) → IsTree classes → (same : List ℕ) (sorts : List Sort) (x y : Shape) (v : Value)
    → Below classes same x y → Is classes same sorts x v → Is classes same sorts y v

-- more objects change nothing of it
abbrev pub SortsMayGrow : Type 0
SortsMayGrow = (classes : List ClassInfo) (same : List ℕ) (sorts later : List Sort) → Keeps sorts later → (x : Shape) (v : Value)
    → Is classes same sorts x v → Is classes same later x v

-- what is not reached has no value
abbrev pub NothingHasNoValue : Type 0
NothingHasNoValue = (classes : List ClassInfo) (same : List ℕ) (sorts : List Sort) (v : Value) → Is classes same sorts shape.Nothing v → ⊥
