use Rattle.std.proofs.Common.{◌≡◌, [], drop}
use Rattle.rtyper_program.specs.Live.{live_from}
use Rattle.rtyper_program.proofs.live.push_live.Given as goal

abbrev pub invariant-loop-op : goal.invariant-loop-op
invariant-loop-op l = live_from (drop l.op-index l.ops) l.further l.set l.met ≡ live_from l.ops l.further [] l.initial.met
