use Rattle.std.proofs.Common.{◌≡◌, drop}
use Rattle.rpy_front.specs.Modules.{are_short}
use Rattle.rpy_front.proofs.modules.are_short.Given as goal

abbrev pub invariant-loop-source : goal.invariant-loop-source
invariant-loop-source l = are_short (drop l.source-index l.sources) ≡ are_short l.sources
