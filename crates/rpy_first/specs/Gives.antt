-- What a function ensures that gives the value of a rule, where there is one.
use Rattle.std.specs.Prelude.{◌≡◌, Option, Some, None, Result, Ok, Err}
use Rattle.rpy_first.specs.declared.fault.TranslateFault.{TranslateFault}
use Rattle.rpy_first.specs.declared.fault.TranslateFault.TheVariants.{Source, Name, NotFirst, NoMem}

-- the value, where there is one, unless memory fails
abbrev pub Gives : {A : Type 0} → Option A → Result A TranslateFault → Type 0
Gives wanted (Ok a) = wanted ≡ Some a
Gives wanted (Err NotFirst) = wanted ≡ None
Gives wanted (Err NoMem) = Unit {0}
Gives wanted (Err (Source file line kind)) = ⊥
Gives wanted (Err (Name file line kind)) = ⊥
