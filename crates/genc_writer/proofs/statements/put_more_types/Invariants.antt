use Rattle.std.proofs.Common.{◌≡◌, ◌++◌, take}
use Rattle.std.specs.List.{flat_map}
use Rattle.csub_tree.specs.Spelling.{more, type_alone}
use Rattle.genc_writer.proofs.statements.put_more_types.Given as goal

abbrev pub invariant-loop-kind : goal.invariant-loop-kind
invariant-loop-kind l = l.text ≡ l.initial.text ++ flat_map (more type_alone) (take l.kind-index l.kinds)
