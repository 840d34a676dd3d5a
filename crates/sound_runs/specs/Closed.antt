-- What is closed under all that graphs ask meets it.
use Rattle.std.specs.Prelude.{◌<◌, List, [], ◌∷◌, length}
use Rattle.ann_lattice.specs.Assign.{Assignment, Need, Up, Set, Closed}
use Rattle.ann_rules.specs.Program.{Whole}
use Rattle.ann_rules.specs.Rules.{needs, rules}
use Rattle.sound_rows.specs.Sound.{AllMet}

-- the cell or the mark of a need is there
abbrev pub IsThere : Assignment → Need → Type 0
IsThere a (Up c es) = c < length a.cells
IsThere a (Set m) = m < length a.marks

abbrev pub AreThere : Assignment → List Need → Type 0
AreThere a [] = Unit {0}
AreThere a (n ∷ ns) = IsThere a n × AreThere a ns

-- an assignment that is closed under the rules of a program's graphs, and has each cell and mark of which these speak, meets all that they ask
abbrev pub ClosedIsMet : Type 0
ClosedIsMet = (p : Whole) (a : Assignment) → Closed p.tables.classes (rules p) a → AreThere a (needs p a) → AllMet p.tables.classes a (needs p a)
