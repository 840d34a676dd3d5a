use Rattle.std.proofs.Common.{◌≡◌, drop}
use Rattle.ll_build.specs.Needs.{uses_texts}
use Rattle.ll_build.proofs.needs.uses_texts.Given as goal

abbrev pub invariant-loop-need : goal.invariant-loop-need
invariant-loop-need l = uses_texts (drop l.need-index l.needs) ≡ uses_texts l.needs
