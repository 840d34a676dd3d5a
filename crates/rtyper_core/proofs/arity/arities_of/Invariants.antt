use Rattle.std.proofs.Common.{◌≡◌, drop}
use Rattle.rtyper_core.specs.Arity.{with_modules, arities}
use Rattle.rtyper_core.proofs.arity.arities_of.Given as goal

abbrev pub invariant-loop-module : goal.invariant-loop-module
invariant-loop-module l = with_modules (drop l.module-index l.modules) l.arities ≡ arities l.modules
