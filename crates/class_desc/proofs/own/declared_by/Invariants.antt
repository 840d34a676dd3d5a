use Rattle.std.proofs.Common.{◌≡◌, drop, []}
use Rattle.class_desc.specs.Tables.{declared_by}
use Rattle.class_desc.proofs.own.declared_by.Given as goal

abbrev pub invariant-loop-member : goal.invariant-loop-member
invariant-loop-member l = declared_by (drop l.member-index l.members) l.names ≡ declared_by l.members []
