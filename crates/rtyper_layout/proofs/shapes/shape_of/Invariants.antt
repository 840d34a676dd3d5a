use Rattle.std.proofs.Common.{◌≡◌, ◌++◌, drop}
use Rattle.rtyper_layout.specs.Types.{shape}
use Rattle.rtyper_layout.proofs.shapes.shape_of.Given as goal

abbrev pub invariant-loop-part : goal.invariant-loop-part
invariant-loop-part l = l.fields ++ shape l.layout (drop l.part-index l.parts) ≡ shape l.layout l.parts
