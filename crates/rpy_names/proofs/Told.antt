-- The fault that is built is the one that is told.
use Rattle.std.proofs.Common.{◌≡◌, Some, ap, subst}
use Rattle.std.specs.Prelude.{Result, Ok, Err}
use Rattle.rpy_names.specs.Gives.{Gives}
use Rattle.rpy_names.specs.Resolve.{IsTold, fault_by}
use Rattle.rpy_names.specs.declared.build.Parts.{Parts}
use Rattle.rpy_names.specs.declared.fault.NameFault.{NameFault}
use Rattle.rpy_names.specs.declared.fault.NameFault.TheVariants as fault

pub told_of : (wanted : Result Parts NameFault) (f : NameFault) → Gives wanted (Err f) → IsTold (fault_by wanted) f
told_of wanted (fault.Unknown n) h = ap fault_by h
told_of wanted (fault.Twice n) h = ap fault_by h
told_of wanted fault.NoEntryPoint h = ap fault_by h
told_of wanted (fault.BadBase n) h = ap fault_by h
told_of wanted (fault.BadConstant n) h = ap fault_by h
told_of wanted (fault.NoModule n) h = ap fault_by h
told_of wanted fault.NoMem h = tt

pub told_at : (wanted built : Result Parts NameFault) → built ≡ wanted → (f : NameFault) → Gives built (Err f) → IsTold (fault_by wanted) f
told_at wanted built e f h = let P : Result Parts NameFault → Type 0 = λ r. IsTold (fault_by r) f in subst P e (told_of built f h)
