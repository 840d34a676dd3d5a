-- The least fault of a program by its trees, if there is one.
use Rattle.std.specs.Prelude.{Option, Some, None}
use Rattle.rpy_tree.specs.declared.program.Program.{Program}
use Rattle.ann_rules.specs.Program.{Whole}
use Rattle.ann_tree.specs.Annotation.{Annotation}
use Rattle.rtyper_core.specs.declared.fault.Fault.{Fault}
use Rattle.typing_laws.specs.Faults.{HasNoFault, IsLeastFault}

abbrev pub IsLeastOf : Program → Whole → Annotation → Option Fault → Type 0
IsLeastOf p w a None = HasNoFault p w a
IsLeastOf p w a (Some f) = IsLeastFault p w a f.node f.kind
