-- What is asked of a well-formed assignment is well-formed.
use Rattle.std.specs.Prelude.{◌≡◌, ℕ, false, List, [], ◌∷◌}
use Rattle.ann_lattice.specs.Shape.{Shape}
use Rattle.ann_lattice.specs.Join.{is_clash}
use Rattle.ann_lattice.specs.Laws.{IsFormed}
use Rattle.ann_lattice.specs.Assign.{Assignment, at, Need, Up, Set}
use Rattle.ann_rules.specs.Program.{Whole}

abbrev pub AllFormed : List Shape → Type 0
AllFormed [] = Unit {0}
AllFormed (x ∷ xs) = IsFormed x × AllFormed xs

-- the elements that a cell is asked to be above are well-formed
abbrev pub IsFormedNeed : Need → Type 0
IsFormedNeed (Up c es) = AllFormed es
IsFormedNeed (Set m) = Unit {0}

abbrev pub AreFormedNeeds : List Need → Type 0
AreFormedNeeds [] = Unit {0}
AreFormedNeeds (n ∷ ns) = IsFormedNeed n × AreFormedNeeds ns

-- each cell is well-formed, and no item and no key is in conflict: the pairs of a dict are tuples of them
pub record AreFormedCells (p : Whole) (w : Assignment) : Type 0 where
  pub cells : (c : ℕ) → IsFormed (at w c)
  pub items : (s : ℕ) → is_clash (at w (p.places.item s)) ≡ false
  pub keys : (s : ℕ) → is_clash (at w (p.places.key s)) ≡ false
