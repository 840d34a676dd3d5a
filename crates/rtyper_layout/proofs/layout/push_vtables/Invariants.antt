use Rattle.std.proofs.Common.{◌≡◌, ◌++◌, drop}
use Rattle.rtyper_layout.specs.Layout.{vtable_structs}
use Rattle.rtyper_layout.proofs.layout.push_vtables.Given as goal

abbrev pub invariant-loop-names : goal.invariant-loop-names
invariant-loop-names l = l.structs ++ vtable_structs (drop l.names-index l.methods) ≡ l.initial.structs ++ vtable_structs l.methods
