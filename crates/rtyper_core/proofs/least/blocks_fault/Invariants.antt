use Rattle.std.proofs.Common.{◌≡◌, drop}
use Rattle.rtyper_core.specs.Typing.{blocks_fault}
use Rattle.rtyper_core.proofs.least.blocks_fault.Given as goal

abbrev pub invariant-loop-place : goal.invariant-loop-place
invariant-loop-place l = blocks_fault l.facts l.classes l.annotation l.elements l.reached l.place (drop l.place l.blocks) l.least ≡ blocks_fault l.facts l.classes l.annotation l.elements l.reached 0 l.blocks l.fn.least
