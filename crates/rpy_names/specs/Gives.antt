-- What a function ensures that builds what a rule gives, or tells the fault of a rule.
use Rattle.std.specs.Prelude.{◌≡◌, Result, Ok, Err}
use Rattle.rpy_names.specs.declared.fault.NameFault.{NameFault}
use Rattle.rpy_names.specs.declared.fault.NameFault.TheVariants.{NoMem}

-- memory may always fail
abbrev pub Gives : {A : Type 0} → Result A NameFault → Result A NameFault → Type 0
Gives wanted (Ok a) = wanted ≡ Ok a
Gives wanted (Err NoMem) = Unit {0}
Gives wanted (Err fault) = wanted ≡ Err fault
