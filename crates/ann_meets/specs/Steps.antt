-- What growing comes to: steps without conflict, or the first conflict.
use Rattle.std.specs.Prelude.{ℕ, ◌==◌, ◌||◌, Bool, false, List, get_or}
use Rattle.ann_lattice.specs.Assign.{Assignment}
use Rattle.ann_rules.specs.Program.{Whole}
use Rattle.ann_needs.specs.View.{nowhere}
use Rattle.ann_grown.specs.Partial.{IsGrown, IsFirst}
use Rattle.ann_meets.specs.declared.stop.Stop.{Stop}
use Rattle.ann_meets.specs.declared.stop.Stop.TheVariants as stop

-- the cells in which no conflict may stand, by their marks
abbrev pub spots_in : List Bool → ℕ → Bool
spots_in marks c = (c == nowhere) || get_or marks c false

abbrev pub FirstAt : Whole → (ℕ → Bool) → Assignment → Assignment → Stop → Type 0
FirstAt p spots start a (stop.Conflict c) = IsFirst p spots start a c
FirstAt p spots start a stop.NoMem = Unit {0}

-- from what grew to a without conflict, steps led to b, where the first conflict stands; or memory was wanting
abbrev pub Stopped : Whole → (ℕ → Bool) → Assignment → Assignment → Stop → Type 0
Stopped p spots a b e = (start : Assignment) → IsGrown p spots start a → FirstAt p spots start b e
