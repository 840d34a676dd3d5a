use Rattle.std.proofs.Common.{◌≡◌, drop}
use Rattle.exc_transform.specs.Families.{root_within}
use Rattle.exc_transform.proofs.family.root_of.Given as goal

abbrev pub invariant-loop : goal.invariant-loop
invariant-loop l = root_within l.structs (drop l.index l.structs) l.at ≡ root_within l.structs l.structs l.n
