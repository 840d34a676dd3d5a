use Rattle.std.proofs.Common.{◌≡◌, drop}
use Rattle.exc_transform.specs.Live.{new_ones}
use Rattle.exc_transform.proofs.live.push_new.Given as goal

abbrev pub invariant-loop-v : goal.invariant-loop-v
invariant-loop-v l = new_ones (drop l.v-index l.variables) l.set l.into ≡ new_ones l.variables l.set l.initial.into
